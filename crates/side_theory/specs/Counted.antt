-- When the uses of a stretch count. This project's own.
use Rattle.std.specs.Prelude.{◌≡◌, ℕ, true, List, ◌++◌, Some, IsSome}
use Rattle.flat_model.specs.Asks.{Asking}
use Rattle.flat_model.specs.Assignment.{Assignment}
use Rattle.flat_model.specs.Given.{Row, with_row}
use Rattle.flat_model.specs.Setting.{Setting, class_of_name, class_ticks, name_ticks, partition_of, views_at}
use Rattle.flat_model.specs.Uses.{Use}
use Rattle.moment_theory.specs.Free.{IsReachedBy, IsOrdered}
use Rattle.step_code.specs.Lines.{Line, Ended, All, lines_end}
use Rattle.moment_theory.specs.Taken.{AreTaken}
use Rattle.flat_model.specs.Views.{Views}
use Rattle.side_theory.specs.Typed.{AreValuedBefore, IsTypedRow}
use Rattle.side_theory.specs.Stretches.{AreLinesOf, AreCounted, AreShown, IsSameAt}

-- over a row each name of a class's base partition that these uses reach has a value, where it ticks
abbrev pub HasAllOf : Setting → Assignment → ℕ → Row → ℕ → List Use → Type 0
HasAllOf s S m row class uses = (y : ℕ) → IsReachedBy y uses → partition_of s (class_of_name s y) ≡ partition_of s (Some class)
    → name_ticks s (with_row S m row) y m ≡ true → IsSome (row y)

-- what a stretch of a class begins with: names have values before the moment, the row is typed, it has all values of the base partition that the uses before can give, and the class ticks
pub record Begins (s : Setting) (S : Assignment) (m : ℕ) (row : Row) (class : ℕ) (before : List Use) : Type 0 where
  pub meets : AreValuedBefore s S m
  pub typed : IsTypedRow s row
  pub all : HasAllOf s S m row class before
  pub ticks : class_ticks s (with_row S m row) (Some class) m ≡ true

-- in a free order the uses of a stretch count, each where those before it have values
abbrev pub CountedLaw : Type 0
CountedLaw = (s : Setting) (uses before entries after : List Use) → IsOrdered s uses (before ++ (entries ++ after)) → (class : ℕ) (lines : List Line) → AreLinesOf s uses class entries lines
    → (S : Assignment) (m : ℕ) (row : Row) → Begins s S m row class before → AreCounted s S m class row entries lines

-- where views show all over one row, others show all over another
abbrev pub ShowsOn : Setting → Assignment → ℕ → ℕ → Views → Row → Views → Row → Type 0
ShowsOn s S m class views row after last = ((back : ℕ) (asking : Asking) → IsSameAt views (views_at s (with_row S m row) (Some class) m) back asking)
    → (back : ℕ) (asking : Asking) → IsSameAt after (views_at s (with_row S m last) (Some class) m) back asking

-- a row from which the uses of a stretch are all taken: another stretch of a class of the base partition that ticks begins with it
abbrev pub OnwardEnds : Setting → List Use → List Use → Assignment → ℕ → Row → List Use → ℕ → Views → Ended → Type 0
OnwardEnds s uses before S m row entries class views (All after) = (last : Row) × AreTaken s S m entries row last × ShowsOn s S m class views row after last
    × ((other : ℕ) → partition_of s (Some other) ≡ partition_of s (Some class) → class_ticks s (with_row S m row) (Some other) m ≡ true → Begins s S m last other (before ++ entries))
OnwardEnds s uses before S m row entries class views _ = Unit {0}

-- so a stretch whose lines all have values leaves a row from which the next one begins
abbrev pub OnwardLaw : Type 0
OnwardLaw = (s : Setting) (uses before entries after : List Use) → IsOrdered s uses (before ++ (entries ++ after)) → (class : ℕ) (lines : List Line) → AreLinesOf s uses class entries lines
    → (S : Assignment) (m : ℕ) (row : Row) (views : Views) → Begins s S m row class before → AreShown s S m row class lines views → OnwardEnds s uses before S m row entries class views (lines_end lines views)
