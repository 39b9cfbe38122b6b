-- The places of the rules of names are short enough for a line.
use Rattle.std.proofs.Common.{refl, sym, subst, ℕ, zero, suc, ◌≤◌, List, [], ◌∷◌, length, Option, Some, None, slice_get, Err, arith}
use Rattle.mo_lexer.specs.Tokens.{AreTokens, mark_len}
use Rattle.mo_lexer.specs.declared.token.Token.{Token}
use Rattle.mo_parser.specs.declared.tree.ClassDef.{ClassDef}
use Rattle.mo_parser.specs.declared.tree.Tree.{Tree}
use Rattle.mo_parser.specs.grammar.Faults.{Derives}
use Rattle.flat_instances.specs.Instances.{Variable, instances}
use Rattle.parameter_values.specs.Values.{is_parameter}
use Rattle.value_rules.specs.N6.{parameters}
use Rattle.class_scopes.specs.declared.end.NameCode.{NameCode}
use Rattle.class_scopes.specs.declared.end.NameCode.TheVariants as code
use Rattle.class_order.specs.N11.{HasDepth}
use Rattle.class_order.specs.Places.{name_at}
use Rattle.flat_answer.specs.Answers as flattening
use Rattle.flat_answer.specs.Answers.{told}
use Rattle.flat_answer.specs.Broken.{KeepsBefore, IsFirst}
use Rattle.flat_answer.specs.Model.{variables_of}
use Rattle.flat_answer.specs.Places.{name_of}
use Rattle.flat_answer.specs.declared.end.FlattenEnd.{FlattenEnd}
use Rattle.flat_answer.specs.declared.end.FlattenEnd.TheVariants as flatten
use Rattle.flat_limits.proofs.Spelled.{Every}
use Rattle.flat_limits.proofs.Tokens.{IsValue, IsNameSpan, IsGood, all_good, good_literal, good_name}
use Rattle.flat_limits.proofs.Trees.{told_file}
use Rattle.flat_limits.proofs.Placings.{Gives, gathers, ClassIs, VariableIs, instances_are, variables_are, every_filter, every_more}
use Rattle.flat_limits.proofs.Worth.{IsWorth, worth_rises}
use Rattle.trace_print.specs.Refusals.{IsShort}
use Rattle.command_stages.specs.Ends.{IsPrintable, of_names}

-- the name of a variable is short enough for a line
abbrev IsShortNamed : Variable → Type 0
IsShortNamed v = length v.name ≤ 4500

at_each : (all : List Variable) → Every IsShortNamed all → (x : ℕ) → IsShort (name_of (slice_get all x))
at_each [] are x = omega arith
at_each (v ∷ rest) are zero = are.0
at_each (v ∷ rest) are (suc x) = at_each rest are.1 x

module _ (text : List ℕ) (tokens : List Token) (tree : Tree) (are : AreTokens text tokens) (spelt : Derives text 64 tree tokens) where
  abbrev classes : List ClassDef
  classes = tree.classes

  classes_are : Every (ClassIs text (IsWorth text classes)) classes
  classes_are = ((told_file (IsGood text) IsValue (IsNameSpan text) (IsWorth text classes) (Gives text (IsWorth text classes)) (worth_rises text classes) (gathers text (IsWorth text classes))
      (good_literal text) (good_name text) 64 text).told tree tokens spelt.0 spelt.1 (all_good text (mark_len text) tokens are)).0

  -- no component stands too deep, so no name has more than 32 parts
  variables_short : (chosen : Option ℕ) → KeepsBefore text classes chosen 9 → Every IsShortNamed (variables_of text classes chosen)
  variables_short None keeps = tt
  variables_short (Some root) keeps =
      let shallow : HasDepth text classes 33 root → ⊥ = λ has. keeps code.N11 (omega arith) (name_at classes root) (root, refl, has, refl) in
      let all = instances text classes root in
      every_more (VariableIs text (IsWorth text classes)) IsShortNamed (λ v is. let short = is.short in omega (arith, short)) (variables_of text classes (Some root))
      (variables_are text (IsWorth text classes) classes all (instances_are text (IsWorth text classes) classes classes_are root shallow))

  place_short : (chosen : Option ℕ) (code : NameCode) (at : ℕ) → IsFirst text classes chosen code at → IsShort (told text classes chosen code at)
  place_short chosen code.N1 at first = tt
  place_short chosen code.N2 at first = tt
  place_short chosen code.N3 at first = tt
  place_short chosen code.N4 at first = tt
  place_short chosen code.N5 at first = tt
  place_short chosen code.N6 at first = at_each (parameters text classes (variables_of text classes chosen)) (every_filter IsShortNamed is_parameter (variables_of text classes chosen) (variables_short chosen first.before)) at
  place_short chosen code.N7 at first = at_each (variables_of text classes chosen) (variables_short chosen (λ code lt. first.before code (omega (arith, lt)))) at
  place_short chosen code.N8 at first = tt
  place_short chosen code.N9 at first = tt
  place_short chosen code.N10 at first = tt
  place_short chosen code.N11 at first = tt

  pub names_short : (chosen : Option ℕ) (e : FlattenEnd) → flattening.Answers text tree.classes chosen (Err e) → IsPrintable (of_names e)
  names_short chosen (flatten.Fault code at) (x, first, same) = subst (λ p. IsShort p) (sym same) (place_short chosen code x first)
  names_short chosen flatten.NoMemory p = tt
