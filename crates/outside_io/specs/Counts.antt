-- Counts, which stop at 2^64-1.
use Rattle.std.specs.Prelude.{ℕ, ◌+◌, ◌-◌, ◌^◌, ◌≤◌, min, Bool, List, nat_eq}
use Rattle.std.specs.List.{list_any}

-- the count after one more
abbrev pub next : ℕ → ℕ
next count = min (count + 1) (2 ^ 64 - 1)

-- a count rose, or stands where counts stop
abbrev pub Rose : ℕ → ℕ → Type 0
Rose before now = next before ≤ now

-- the number of a call, counted from 1, is among those that are to fail
abbrev pub is_listed : List ℕ → ℕ → Bool
is_listed failing number = list_any (λ listed. nat_eq listed number) failing
