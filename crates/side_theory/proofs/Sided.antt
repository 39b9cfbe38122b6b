-- What an equation between a name and a side has of each, whichever stands first.
use Rattle.std.proofs.Common.{◌≡◌, ◌≢◌, refl, ap, sym, subst, ◌∙◌, ℕ, ◌<◌, ◌==◌, Bool, true, false, if◌then◌else◌, [], ◌∷◌, ◌++◌, append-nil, Option, Some, slice_get, eq-eqb, inl, inr, arith}
use Rattle.std.proofs.lemmas.Bool.{eqb-true}
use Rattle.sync_values.specs.declared.value.Value.{Value}
use Rattle.flat_model.specs.declared.expression.Expr.{Expr}
use Rattle.flat_model.specs.declared.expression.Expr.TheVariants.{Read}
use Rattle.flat_model.specs.declared.model.NameKind.{NameKind}
use Rattle.flat_model.specs.Assignment.{Assignment}
use Rattle.flat_model.specs.Given.{HasReadIn, HasReadsBut}
use Rattle.flat_model.specs.Meaning.{seen_by, value_of}
use Rattle.flat_model.specs.Meets.{HasOneValue}
use Rattle.flat_model.specs.Occurrences.{one_if, bare_count}
use Rattle.flat_model.specs.Operators.{Is, read}
use Rattle.flat_model.specs.Ways.{beside_of, way_to, parts_beside}
use Rattle.flat_model.specs.Runnable.{IsEquationClocked, IsSideClocked}
use Rattle.flat_model.specs.Setting.{Setting}
use Rattle.flat_model.specs.Typing.{Types}
use Rattle.flat_model.specs.Uses.{IsSolvableFor, ReadsIn, EquationReads}
use Rattle.flat_model.specs.Views.{Views}
use Rattle.flat_model.specs.WholeTyping.{IsTyped, whole_type_of}
use Rattle.flat_model.proofs.Levels.{bare_count-Read, held_count-Read, converted_count-Read, way_to-Read}
use Rattle.flat_model.proofs.Links.{asked_bare}
use Rattle.moment_theory.specs.Free.{AsksLastIn}
use Rattle.moment_theory.proofs.Meeting.{AreClassed, IsSideClassed}
use Rattle.moment_theory.proofs.PartsRest.{is_way}
use Rattle.side_theory.specs.Sides.{sided}

-- ---- what the side has that both sides have

pub side_clocked : (s : Setting) (i : ℕ) (b : Bool) (x : ℕ) (side : Expr) (clause : Option ℕ) → IsEquationClocked s i (sided b x side clause) → IsSideClocked s i side
side_clocked s i true x side clause both = both.1
side_clocked s i false x side clause both = both.0

pub side_classed : (s : Setting) → AreClassed s → (i : ℕ) (b : Bool) (x : ℕ) (side : Expr) (clause : Option ℕ) → slice_get s.model.equations i ≡ Some (sided b x side clause) → IsSideClassed s i side
side_classed s classed i true x side clause found = (classed.sides i (Read x) side clause found).1
side_classed s classed i false x side clause found = (classed.sides i side (Read x) clause found).0

pub side_typed : (types : Types) (b : Bool) (x : ℕ) (side : Expr) (clause : Option ℕ) → IsTyped types (sided b x side clause)
    → (type : NameKind) × (whole_type_of types (Read x) ≡ Some type) × (whole_type_of types side ≡ Some type)
side_typed types true x side clause typed = typed
side_typed types false x side clause (type, left, right) = (type, right, left)

pub no_count : (x : ℕ) (b : Bool) (side : Expr) (clause : Option ℕ) → IsSolvableFor x (sided b x side clause) → (bare_count x side ≡ 0) × (AsksLastIn side x → ⊥)
no_count x true side clause solvable =
    let total = solvable.0 in
    let own : bare_count x (Read x) ≡ 1 = bare_count-Read x x ∙ ap one_if (eq-eqb x x refl) in
    (omega (arith, total, own), λ asks. elim asks [ inl some ↦ omega (arith, total, own, some) | inr some ↦ omega (arith, total, own, some) ])
no_count x false side clause solvable =
    let total = solvable.0 in
    let own : bare_count x (Read x) ≡ 1 = bare_count-Read x x ∙ ap one_if (eq-eqb x x refl) in
    (omega (arith, total, own), λ asks. elim asks [ inl some ↦ omega (arith, total, own, some) | inr some ↦ omega (arith, total, own, some) ])

-- ---- what both sides have where the side has it

one_if_none : (b : Bool) → 0 < one_if b → b ≡ true
one_if_none true h = refl
one_if_none false h = absurd (omega (arith, h))

-- the name by itself reads no other
name_has : (s : Setting) (A : Assignment) (m i x y : ℕ) → y ≢ x → HasReadIn s A m i (Read x) y
name_has s A m i x y other = record {
  bare = λ some. absurd (other (sym (eqb-true x y (one_if_none (x == y) (subst (λ n. 0 < n) (bare_count-Read y x) some)))));
  held = λ some. absurd (let none = held_count-Read y x in omega (arith, some, none));
  converted = λ some meet. absurd (let none = converted_count-Read y x in omega (arith, some, none));
}

pub all_reads : (s : Setting) (A : Assignment) (m i : ℕ) (b : Bool) (x : ℕ) (side : Expr) (clause : Option ℕ) → ((y : ℕ) → y ≢ x → HasReadIn s A m i side y) → HasReadsBut s A m i x (sided b x side clause)
all_reads s A m i true x side clause has = λ y other. (name_has s A m i x y other, has y other)
all_reads s A m i false x side clause has = λ y other. (has y other, name_has s A m i x y other)

pub side_has : (s : Setting) (A : Assignment) (m i : ℕ) (b : Bool) (x : ℕ) (side : Expr) (clause : Option ℕ) → HasReadsBut s A m i x (sided b x side clause) → (y : ℕ) → y ≢ x → HasReadIn s A m i side y
side_has s A m i true x side clause reads y other = (reads y other).1
side_has s A m i false x side clause reads y other = (reads y other).0

pub side_reads : (s : Setting) (i : ℕ) (b : Bool) (x : ℕ) (side : Expr) (clause : Option ℕ) (y : ℕ) → ReadsIn s i side y → EquationReads s i (sided b x side clause) y
side_reads s i true x side clause y reads = inr reads
side_reads s i false x side clause y reads = inl reads

-- what is read is so by the name alone or by the side, which both can be read
pub each_read : (s : Setting) (A : Assignment) (m i : ℕ) (b : Bool) (x : ℕ) (side : Expr) (clause : Option ℕ) (y : ℕ) (P : Type 0) → y ≢ x → HasReadsBut s A m i x (sided b x side clause) → EquationReads s i (sided b x side clause) y
    → ((e : Expr) → HasReadIn s A m i e y → ReadsIn s i e y → P) → P
each_read s A m i true x side clause y P other reads (inl left) each = each (Read x) (reads y other).0 left
each_read s A m i true x side clause y P other reads (inr right) each = each side (reads y other).1 right
each_read s A m i false x side clause y P other reads (inl left) each = each side (reads y other).0 left
each_read s A m i false x side clause y P other reads (inr right) each = each (Read x) (reads y other).1 right

-- ---- one value of both, and the parts beside the name

pub one_value : (views : Views) (b : Bool) (x : ℕ) (side : Expr) (clause : Option ℕ) (v : Value) → value_of (Read x) views ≡ Is v → value_of side views ≡ Is v → HasOneValue views (sided b x side clause)
one_value views true x side clause v own of_side = (v, own, of_side)
one_value views false x side clause v own of_side = (v, of_side, own)

pub both_values : (views : Views) (b : Bool) (x : ℕ) (side : Expr) (clause : Option ℕ) → HasOneValue views (sided b x side clause) → (v : Value) × (value_of (Read x) views ≡ Is v) × (value_of side views ≡ Is v)
both_values views true x side clause has = has
both_values views false x side clause (v, of_side, own) = (v, own, of_side)

-- beside the way to the name stands the side alone
module _ (x : ℕ) (side : Expr) (none : bare_count x side ≡ 0) (clause : Option ℕ) (views : Views) where
  not_reached : (b : Bool) → (way_to x side).reaches ≡ b → b ≡ false
  not_reached true r = absurd (let some = (is_way x side).some r in let count = asked_bare x side in omega (arith, some, count, none))
  not_reached false r = refl

  beside_name : beside_of (way_to x (Read x)) ≡ []
  beside_name = ap beside_of (way_to-Read x x) ∙ ap (λ b. if b then [] else ((λ v. read ((v 0).now x)) ∷ [])) (eq-eqb x x refl)

  beside_side : seen_by views (beside_of (way_to x side)) ≡ value_of side views ∷ []
  beside_side = ap (λ b. seen_by views (if b then (way_to x side).beside else ((way_to x side).meaning ∷ []))) (not_reached (way_to x side).reaches refl) ∙ ap (λ a. a ∷ []) ((is_way x side).means views)

  pub beside : (b : Bool) → seen_by views (parts_beside x (sided b x side clause)) ≡ value_of side views ∷ []
  beside true = ap (λ parts. seen_by views (parts ++ beside_of (way_to x side))) beside_name ∙ beside_side
  beside false = ap (λ parts. seen_by views (beside_of (way_to x side) ++ parts)) beside_name ∙ ap (λ parts. seen_by views parts) (append-nil (beside_of (way_to x side))) ∙ beside_side
