-- What the front end gives to a run, as the lemmas of a moment take it.
use Rattle.std.proofs.Common.{◌≡◌, ◌≢◌, refl, ◌∙◌, sym, subst, ℕ, ◌<◌, false, List, length, get_or, All, Option, Some, None, slice_get, inl, inr, arith}
use Rattle.std.specs.Prelude.{option_map}
use Rattle.std.proofs.lemmas.List.Elements.{All-get_or}
use Rattle.std.proofs.lemmas.Option.{none-some, slice_get_within, slice_get-get_or, get_or_from_slice_get}
use Rattle.flat_model.specs.declared.clock.Clock.TheVariants.{Event}
use Rattle.flat_model.specs.declared.equation.Equation.TheVariants.{Valued}
use Rattle.flat_model.specs.declared.expression.Expr.{Expr}
use Rattle.flat_model.specs.declared.expression.Expr.TheVariants as expr
use Rattle.flat_model.specs.declared.model.FlatName.{FlatName}
use Rattle.flat_model.specs.declared.model.NameKind.{NameKind}
use Rattle.flat_model.specs.declared.model.NameKind.TheVariants as kind
use Rattle.sync_values.specs.declared.value.Value.TheVariants as value
use Rattle.flat_model.specs.Asks.{OfNow, OfLast, asked}
use Rattle.flat_model.specs.Occurrences.{sample_count}
use Rattle.flat_model.specs.Runnable.{CanRun, IsSideClocked, IsCondition, IsRunnable}
use Rattle.flat_model.specs.Setting.{Setting, clock_of}
use Rattle.flat_model.specs.Typing.{Types, types_in, valued_type}
use Rattle.flat_model.specs.WholeTyping.{IsTyped, whole_type_of}
use Rattle.flat_model.proofs.Links.{asked_bare, asked_last}
use Rattle.flat_model.proofs.OneSolution.{AreSitesUnclocked}
use Rattle.moment_theory.specs.Free.{AsksLastIn}
use Rattle.moment_theory.proofs.Meeting.{IsValued, IsSideClassed}
use Rattle.moment_theory.proofs.Columns.{input_cell}
use Rattle.moment_theory.proofs.Facts.{Facts}
use Rattle.moment_theory.proofs.Named.{typed_names, typed_formed}
use Rattle.moment_theory.proofs.Placed.{bare_uncut, left_unsampled, direct_unsampled}

pub all_at : {A : Type 0} (P : A → Type 0) (xs : List A) (k : ℕ) (x : A) → All P xs → slice_get xs k ≡ Some x → P x
all_at P xs k x all found = subst P (get_or_from_slice_get xs k x x found) (All-get_or P xs k x (slice_get_within xs k x found) all)

pub element : {A : Type 0} (xs : List A) (k : ℕ) → k < length xs → (d : A) → (x : A) × (slice_get xs k ≡ Some x)
element xs k lt d = (get_or xs k d, slice_get-get_or xs k d lt)

-- a name whose type has values
valued_name : (s : Setting) (x : ℕ) (type : NameKind) → valued_type (types_in s.model.names x) ≡ Some type → IsValued s x
valued_name s x type e = by_name (slice_get s.model.names x) refl e
  where
    by_kind : (name : FlatName) (k : NameKind) → name.kind ≡ k → valued_type (Some k) ≡ Some type → name.kind ≢ kind.Clock
    by_kind name kind.Integer is e clock = let h : kind.Integer ≡ kind.Clock = sym is ∙ clock in cc
    by_kind name kind.Boolean is e clock = let h : kind.Boolean ≡ kind.Clock = sym is ∙ clock in cc
    by_kind name kind.Clock is e clock = none-some type e

    by_name : (o : Option FlatName) → slice_get s.model.names x ≡ o → valued_type (option_map (λ name. name.kind) o) ≡ Some type → IsValued s x
    by_name None found e = absurd (none-some type e)
    by_name (Some name) found e = record { name = name; found = found; valued = by_kind name name.kind refl e }

module _ (s : Setting) (runs : IsRunnable s) where
  abbrev types : Types
  types = types_in s.model.names

  typed_sides : (i : ℕ) (left right : Expr) (clause : Option ℕ) → slice_get s.model.equations i ≡ Some (Valued left right clause) → IsTyped types (Valued left right clause)
  typed_sides i left right clause found = all_at (IsTyped types) s.model.equations i (Valued left right clause) runs.model.typed.equations found

  clocked_sides : (i : ℕ) (left right : Expr) (clause : Option ℕ) → slice_get s.model.equations i ≡ Some (Valued left right clause) → IsSideClocked s i left × IsSideClocked s i right
  clocked_sides i left right clause found = runs.equations i (Valued left right clause) found

  side_valued : (i : ℕ) (e : Expr) (type : NameKind) → whole_type_of types e ≡ Some type → IsSideClocked s i e → IsSideClassed s i e
  side_valued i e type typed side = record {
    bare = λ y some. (
      (let (k, is) = typed_names types e type typed 0 (OfNow y) (let same = asked_bare y e in omega (arith, some, same)) in valued_name s y k is),
      side.own y (let more = bare_uncut y e in omega (arith, some, more)),
    );
    last = λ z asks. let (k, is) = typed_names types e type typed 0 (OfLast z) (last_asked z asks) in valued_name s z k is;
  }
    where
      last_asked : (z : ℕ) → AsksLastIn e z → 0 < asked e 0 (OfLast z)
      last_asked z (inl some) = let same = asked_last z e in omega (arith, some, same)
      last_asked z (inr some) = let same = asked_last z e in omega (arith, some, same)

  site_there : (site factor shift : ℕ) (class : ℕ) → slice_get s.clocking.clocks class ≡ Some (Event site factor shift) → (condition : Expr) × (slice_get s.clocking.sites site ≡ Some condition)
  site_there site factor shift class found =
      let can = all_at (CanRun s.clocking.sites) s.clocking.clocks class (Event site factor shift) runs.clocks.each found in
      element s.clocking.sites site can.0 (expr.Const (value.Bool false))

  class_site : (class : Option ℕ) (site factor shift : ℕ) → clock_of s class ≡ Some (Event site factor shift) → (condition : Expr) × (slice_get s.clocking.sites site ≡ Some condition)
  class_site None site factor shift e = absurd (none-some (Event site factor shift) e)
  class_site (Some class) site factor shift e = site_there site factor shift class e

  sites_unclocked : AreSitesUnclocked s
  sites_unclocked site condition found =
      let is = all_at (IsCondition s) s.clocking.sites site condition runs.sites found in record {
        names = λ y some. is.unclocked y some;
        samples = direct_unsampled condition is.direct;
      }

  no_samples : (e : Expr) → (sample_count e ≡ 0) → 0 < sample_count e → ⊥
  no_samples e none some = omega (arith, none, some)

  pub facts_of : Facts s
  facts_of = record {
    unclocked = sites_unclocked;
    inputs = λ x name found input. runs.inputs x (name, found, input);
    classed = record {
      sides = λ i left right clause found.
          let (type, left_is, right_is) = typed_sides i left right clause found in
          let sides = clocked_sides i left right clause found in
          (side_valued i left type left_is sides.0, side_valued i right type right_is sides.1);
      sites = class_site;
    };
    axis = λ i left right clause found z some.
        let sides = clocked_sides i left right clause found in elim some [
          | inl own ↦ (sides.0.converted z own).axis
          | inr own ↦ (sides.1.converted z own).axis
        ];
    samples = λ i left right clause found class some.
        let sides = clocked_sides i left right clause found in elim some [
          | inl own ↦ no_samples left (left_unsampled left (sides.0.unclocked class)) own
          | inr own ↦ no_samples right (left_unsampled right (sides.1.unclocked class)) own
        ];
    tables = λ m at here x name found input. input_cell s.model s.table runs.table x name found input at;
    formed = λ i left right clause found.
        let (type, left_is, right_is) = typed_sides i left right clause found in (typed_formed types left type left_is, typed_formed types right type right_is);
  }
