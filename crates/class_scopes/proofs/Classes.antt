-- The names of classes.
use Rattle.std.proofs.Common.{◌≡◌, refl, ap, ◌∙◌, ℕ, ◌+◌, cond, List, [], ◌∷◌, map, Some, bytes_eq}
use Rattle.std.specs.List.{position_from}
use Rattle.mo_parser.specs.declared.tree.ClassDef.{ClassDef}
use Rattle.mo_parser.specs.declared.tree.Span.{Span}
use Rattle.class_scopes.specs.Spelled.{Ident, spelled}
use Rattle.class_scopes.specs.Places.{least, repeats}
use Rattle.class_scopes.specs.N2.{class_entry, repeated_classes}
use Rattle.class_scopes.specs.Tables.{Numbered, IsTableOf, span_entry}
use Rattle.class_scopes.specs.private.Sources.{Numbers}

abbrev pub spans : List ClassDef → List Span
spans classes = map (λ class. class.name) classes

first_at : (text : List ℕ) (name : Ident) (i : ℕ) (classes : List ClassDef)
    → position_from (bytes_eq name) i (map (spelled text) (spans classes)) ≡ position_from (λ class. bytes_eq name (spelled text class.name)) i classes
first_at text name i [] = refl
first_at text name i (class ∷ classes) = ap (cond (bytes_eq name (spelled text class.name)) (Some i)) (first_at text name (i + 1) classes)

entries : (text : List ℕ) (classes : List ClassDef) → map (span_entry text) (spans classes) ≡ map (class_entry text) classes
entries text [] = refl
entries text (class ∷ classes) = ap (λ rest. span_entry text class.name ∷ rest) (entries text classes)

module _ (text : List ℕ) (classes : List ClassDef) (at : List Span) (same : at ≡ spans classes) where
  pub numbers : (table : Numbered) → IsTableOf (map (spelled text) at) table → Numbers text classes table
  numbers table is name = is name ∙ ap (λ s. position_from (bytes_eq name) 0 (map (spelled text) s)) same ∙ first_at text name 0 classes

  pub repeated : least (repeats [] (map (span_entry text) at)) ≡ least (repeated_classes text classes)
  repeated = ap (λ s. least (repeats [] (map (span_entry text) s))) same ∙ ap (λ es. least (repeats [] es)) (entries text classes)
