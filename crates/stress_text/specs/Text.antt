-- The text of the stress model of so many members. This project's own.
use Rattle.std.specs.Prelude.{ℕ, zero, suc, ◌+◌, ◌%◌, List, [], ◌∷◌, ◌++◌, codes, decimal, get_or}

-- a piece of text with a number in it
abbrev pub around : List ℕ → ℕ → List ℕ → List ℕ
around before number after = before ++ decimal number ++ after

-- how often in a second the clock of a member ticks: six rates in turn
abbrev pub rates : List ℕ
rates = 1000 ∷ 500 ∷ 250 ∷ 200 ∷ 125 ∷ 100 ∷ []

-- members are counted from 0 here, and named from 1
unfoldable pub rate : ℕ → ℕ
rate k = get_or rates (k % 6) 0

-- a name of a member, by its letter
unfoldable pub declaration_line : List ℕ → ℕ → List ℕ
declaration_line letter k = codes "  Integer " ++ letter ++ decimal (k + 1) ++ codes ";\n"

-- its two names
abbrev pub declaration_lines : ℕ → List ℕ
declaration_lines k = declaration_line (codes "x") k ++ declaration_line (codes "h") k

-- its clock
unfoldable pub when_line : ℕ → List ℕ
when_line k = around (codes "  when Clock(1, ") (rate k) (codes ") then\n")

-- what it samples: the held value of the member before; the first of each four samples nothing
abbrev pub sampled : ℕ → ℕ → List ℕ
sampled zero k = []
sampled (suc _) k = around (codes "sample(h") k (codes ") + ")

-- its step, by its value at the tick before
unfoldable pub step_line : ℕ → List ℕ
step_line k = around (codes "    x") (k + 1) (codes " = mod(") ++ around (codes "previous(x") (k + 1) (codes ") * 31 + ") ++ sampled (k % 4) k ++ around [] (k + 1) (codes ", 1000);\n")

-- its value, held
unfoldable pub hold_line : ℕ → List ℕ
hold_line k = around (codes "  h") (k + 1) (codes " = ") ++ around (codes "hold(x") (k + 1) (codes ");\n")

-- its clause, and what is held
abbrev pub equation_lines : ℕ → List ℕ
equation_lines k = when_line k ++ step_line k ++ codes "  end when;\n" ++ hold_line k

-- the lines of the first n members
abbrev pub lines_of : (ℕ → List ℕ) → ℕ → List ℕ
lines_of lines zero = []
lines_of lines (suc n) = lines_of lines n ++ lines n

unfoldable pub stress_text : ℕ → List ℕ
stress_text n = codes "model Stress\n" ++ lines_of declaration_lines n ++ codes "equation\n" ++ lines_of equation_lines n ++ codes "end Stress;\n"
