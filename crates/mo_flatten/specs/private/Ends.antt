-- Broken rules at bytes of the text.
use Rattle.std.specs.Prelude.{ℕ, List}
use Rattle.class_scopes.specs.declared.end.RuleEnd.{RuleEnd}
use Rattle.class_scopes.specs.declared.end.RuleEnd.TheVariants.{Broken, NoMemory}
use Rattle.flat_answer.specs.Places.{place_at}
use Rattle.flat_answer.specs.declared.end.FlattenEnd.{FlattenEnd}
use Rattle.flat_answer.specs.declared.end.FlattenEnd.TheVariants as ends

-- at its line and column
abbrev pub end_of : List ℕ → RuleEnd → FlattenEnd
end_of text (Broken code at) = ends.Fault code (place_at text at)
end_of text NoMemory = ends.NoMemory
