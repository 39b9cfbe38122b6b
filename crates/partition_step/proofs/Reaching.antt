-- The names of a base partition are reached by its uses.
use Rattle.std.proofs.Common.{◌≡◌, ◌≢◌, refl, ap, ◌∙◌, sym, subst, ℕ, ◌<◌, Bool, true, false, List, ◌++◌, Option, Some, None, slice_get, Contains, ◌⊎◌, inl, inr}
use Rattle.std.specs.Prelude.{option_map}
use Rattle.std.proofs.lemmas.Option.{none-some}
use Rattle.flat_model.specs.declared.equation.Equation.TheVariants.{Valued}
use Rattle.flat_model.specs.declared.expression.Expr.{Expr}
use Rattle.flat_model.specs.declared.model.FlatName.{FlatName}
use Rattle.flat_model.specs.declared.model.NameKind.{NameKind}
use Rattle.flat_model.specs.declared.model.NameKind.TheVariants as kind
use Rattle.flat_model.specs.Asks.{OfPrevious, asked}
use Rattle.flat_model.specs.Setting.{Setting, class_of_name, class_of_equation, partition_of}
use Rattle.flat_model.specs.Typing.{types_in, valued_type}
use Rattle.flat_model.specs.Uses.{Use}
use Rattle.flat_model.specs.WholeTyping.{IsTyped}
use Rattle.moment_theory.specs.Free.{IsReachedBy}
use Rattle.moment_theory.proofs.Facts.{Facts, UseFacts, facts_of_use, class_of_use}
use Rattle.moment_theory.proofs.FromRunnable.{all_at, facts_of}
use Rattle.moment_theory.proofs.Meeting.{IsValued, AreWhole}
use Rattle.moment_theory.proofs.Members.{contains_member, member_contains, reached_member, member_reached}
use Rattle.moment_theory.proofs.Named.{typed_names}
use Rattle.moment_theory.proofs.Ready.{whole_order}
use Rattle.first_failure.proofs.Turning.{member_back, member_front}
use Rattle.partition_step.specs.Parts.{IsPiece}

-- a name whose type has values
valued_name : (s : Setting) (x : ℕ) (type : NameKind) → valued_type (types_in s.model.names x) ≡ Some type → IsValued s x
valued_name s x type e = by_name (slice_get s.model.names x) refl e
  where
    by_kind : (name : FlatName) (k : NameKind) → name.kind ≡ k → valued_type (Some k) ≡ Some type → name.kind ≢ kind.Clock
    by_kind name kind.Integer is e clock = let h : kind.Integer ≡ kind.Clock = sym is ∙ clock in cc
    by_kind name kind.Boolean is e clock = let h : kind.Boolean ≡ kind.Clock = sym is ∙ clock in cc
    by_kind name kind.Clock is e clock = none-some type e

    by_name : (o : Option FlatName) → slice_get s.model.names x ≡ o → valued_type (option_map (λ name. name.kind) o) ≡ Some type → IsValued s x
    by_name None found e = absurd (none-some type e)
    by_name (Some name) found e = record { name = name; found = found; valued = by_kind name name.kind refl e }

module _ (s : Setting) (uses before own after : List Use) (partition : ℕ) (piece : IsPiece s uses before own after partition) where
  abbrev pub facts : Facts s
  facts = facts_of s piece.ordered.runs

  abbrev order : List Use
  order = before ++ (own ++ after)

  whole : AreWhole s order
  whole = whole_order s uses order piece.ordered.uses_are piece.ordered.same

  pub used : (entry : Use) → Contains own entry → Contains uses entry
  used entry has = piece.ordered.same.only entry (member_contains entry order (member_back before (own ++ after) entry (member_front own after entry (contains_member entry own has))))

  pub use_facts : (entry : Use) → Contains own entry → UseFacts s entry
  use_facts entry has = facts_of_use s uses piece.ordered.uses_are.uses_are entry (used entry has)

  pub class_is : (entry : Use) → Contains own entry → class_of_name s entry.name ≡ class_of_equation s entry.equation
  class_is entry has = class_of_use s facts entry (use_facts entry has)

  not_input : (y : ℕ) (name : FlatName) → slice_get s.model.names y ≡ Some name → partition_of s (class_of_name s y) ≡ Some partition → (b : Bool) → name.input ≡ b → b ≡ false
  not_input y name found within true is = absurd (none-some partition (sym (ap (partition_of s) (piece.ordered.runs.inputs y (name, found, is))) ∙ within))
  not_input y name found within false is = refl

  -- a name of the partition is reached
  pub reached_within : (y : ℕ) → IsValued s y → partition_of s (class_of_name s y) ≡ Some partition → IsReachedBy y own
  reached_within y valued within =
      let reached = whole.names y valued.name valued.found valued.valued (not_input y valued.name valued.found within valued.name.input refl) in
      let (entry, member, is) = member_reached order y reached in
      let has : Contains uses entry = piece.ordered.same.only entry (member_contains entry order member) in
      let class : class_of_name s entry.name ≡ class_of_equation s entry.equation = class_of_use s facts entry (facts_of_use s uses piece.ordered.uses_are.uses_are entry has) in
      let there : Contains own entry = piece.whole entry has (ap (partition_of s) (sym class ∙ ap (class_of_name s) (sym is)) ∙ within) in
      subst (λ z. IsReachedBy z own) (sym is) (reached_member own entry (contains_member entry own there))

  -- what stands under `previous` has values
  pub previous_valued : (i : ℕ) (left right : Expr) (clause : Option ℕ) → slice_get s.model.equations i ≡ Some (Valued left right clause)
      → (y : ℕ) → ((0 < asked left 0 (OfPrevious y)) ⊎ (0 < asked right 0 (OfPrevious y))) → IsValued s y
  previous_valued i left right clause found y asks =
      let typed : IsTyped (types_in s.model.names) (Valued left right clause) = all_at (IsTyped (types_in s.model.names)) s.model.equations i (Valued left right clause) piece.ordered.runs.model.typed.equations found in
      elim asks [
        | inl some ↦ let (k, is) = typed_names (types_in s.model.names) left typed.0 typed.1 0 (OfPrevious y) some in valued_name s y k is
        | inr some ↦ let (k, is) = typed_names (types_in s.model.names) right typed.0 typed.2 0 (OfPrevious y) some in valued_name s y k is
      ]
