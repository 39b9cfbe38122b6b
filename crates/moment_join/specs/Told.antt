-- What several lists of uses tell of their failures, put together. This project's own.
use Rattle.std.specs.Prelude.{ℕ, nat_le, List, [], ◌∷◌, Option, Some, None, if◌then◌else◌}
use Rattle.first_failure.specs.declared.least.EquationFailing.{EquationFailing}

-- of two that may be told, the failure of the lesser equation
abbrev pub earlier : Option EquationFailing → Option EquationFailing → Option EquationFailing
earlier None other = other
earlier told None = told
earlier (Some one) (Some other) = if nat_le one.equation other.equation then Some one else Some other

-- of several
abbrev pub earliest : List (Option EquationFailing) → Option EquationFailing
earliest [] = None
earliest (told ∷ rest) = earlier told (earliest rest)
