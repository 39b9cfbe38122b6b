-- Broken rules as they are told.
use Rattle.std.proofs.Common.{◌≡◌, refl, ap, sym, ◌∙◌, subst, ℕ, ◌<◌, List, [], ◌∷◌, ◌++◌, map, flat_map, Bool, true, false, cond, Option, Some, None, option_map, slice_get, Err, if◌then◌else◌, arith}
use Rattle.std.proofs.lemmas.Option.{slice_get-map}
use Rattle.mo_parser.specs.declared.tree.ClassDef.{ClassDef}
use Rattle.class_scopes.specs.Spelled.{Ident}
use Rattle.class_scopes.specs.declared.end.NameCode.{NameCode}
use Rattle.class_scopes.specs.declared.end.NameCode.TheVariants as code
use Rattle.class_scopes.specs.declared.end.RuleEnd.{RuleEnd}
use Rattle.class_scopes.specs.declared.end.RuleEnd.TheVariants.{Broken, NoMemory}
use Rattle.flat_instances.specs.Instances.{Variable, variables}
use Rattle.flat_instances.specs.Kept.{seen, seen_variable}
use Rattle.flat_instances.specs.declared.item.Item.{Item}
use Rattle.flat_instances.specs.declared.item.Item.TheVariants.{Declared, Own}
use Rattle.parameter_values.specs.Values.{is_parameter}
use Rattle.value_rules.specs.N6.{parameters}
use Rattle.flat_answer.specs.Answers.{Answers, told, told_among}
use Rattle.flat_answer.specs.Broken.{rank, IsFirst}
use Rattle.flat_answer.specs.Model.{variables_of}
use Rattle.flat_answer.specs.Places.{place_at, name_of}
use Rattle.mo_flatten.specs.private.Ends.{end_of}
use Rattle.mo_flatten.specs.private.Named.{variable_name, parameter_name, place_of}
use Rattle.mo_flatten.specs.private.Stages.{IsEnd}

-- a rule up to N10 is told at a byte of the text
at_byte : (text : List ℕ) (classes : List ClassDef) (all : List Variable) (c : NameCode) (at : ℕ) → rank c < 9 → place_at text at ≡ told_among text classes all c at
at_byte text classes all code.N6 at early = absurd (omega (arith, early))
at_byte text classes all code.N7 at early = absurd (omega (arith, early))
at_byte text classes all code.N1 at early = refl
at_byte text classes all code.N2 at early = refl
at_byte text classes all code.N3 at early = refl
at_byte text classes all code.N4 at early = refl
at_byte text classes all code.N5 at early = refl
at_byte text classes all code.N8 at early = refl
at_byte text classes all code.N9 at early = refl
at_byte text classes all code.N10 at early = refl
at_byte text classes all code.N11 at early = refl

pub answers_end : (text : List ℕ) (classes : List ClassDef) (chosen : Option ℕ) (end : RuleEnd) → IsEnd text classes chosen end → Answers text classes chosen (Err (end_of text end))
answers_end text classes chosen (Broken c at) (early, first) = (at, first, at_byte text classes (variables_of text classes chosen) c at early)
answers_end text classes chosen NoMemory any = tt

named_place : (o : Option Variable) → place_of (option_map (λ v. v.name) o) ≡ name_of o
named_place (Some v) = refl
named_place None = refl

module _ (text : List ℕ) (classes : List ClassDef) where
  variables_named : (items : List Item) → flat_map variable_name items ≡ map (λ v. v.name) (variables text classes (map (seen text classes) items))
  variables_named [] = refl
  variables_named (Declared v ∷ items) = ap (λ z. v.name ∷ z) (variables_named items)
  variables_named (Own scope class ∷ items) = variables_named items

  one_more : (v : Variable) (b : Bool) (rest : List Ident) (others : List Variable) → rest ≡ map (λ w. w.name) others
      → (if b then v.name ∷ [] else []) ++ rest ≡ map (λ w. w.name) (cond b (v ∷ others) others)
  one_more v true rest others same = ap (λ z. v.name ∷ z) same
  one_more v false rest others same = same

  parameters_named : (items : List Item) → flat_map parameter_name items ≡ map (λ v. v.name) (parameters text classes (variables text classes (map (seen text classes) items)))
  parameters_named [] = refl
  parameters_named (Declared v ∷ items) = one_more (seen_variable text classes v) (is_parameter (seen_variable text classes v)) _ _ (parameters_named items)
  parameters_named (Own scope class ∷ items) = parameters_named items

  placed : (names : List Ident) (vs : List Variable) (x : ℕ) → names ≡ map (λ v. v.name) vs → place_of (slice_get names x) ≡ name_of (slice_get vs x)
  placed names vs x same = ap (λ ns. place_of (slice_get ns x)) same ∙ ap place_of (slice_get-map (λ v. v.name) vs x) ∙ named_place (slice_get vs x)

  pub variable_placed : (items : List Item) (names : List Ident) (x : ℕ) → names ≡ flat_map variable_name items
      → place_of (slice_get names x) ≡ name_of (slice_get (variables text classes (map (seen text classes) items)) x)
  variable_placed items names x are = placed names (variables text classes (map (seen text classes) items)) x (are ∙ variables_named items)

  pub parameter_placed : (items : List Item) (names : List Ident) (x : ℕ) → names ≡ flat_map parameter_name items
      → place_of (slice_get names x) ≡ name_of (slice_get (parameters text classes (variables text classes (map (seen text classes) items))) x)
  parameter_placed items names x are = placed names (parameters text classes (variables text classes (map (seen text classes) items))) x (are ∙ parameters_named items)
