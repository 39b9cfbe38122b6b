-- Both sides of an equation that is solved for a name.
use Rattle.std.proofs.Common.{◌≡◌, refl, ap, ap₂, ◌∙◌, sym, ℕ, true, false, List, [], ◌∷◌, ◌++◌, Option, arith, Result, Ok, Err}
use Rattle.sync_values.specs.declared.value.Value.{Value}
use Rattle.sync_values.specs.declared.value.Fail.{Fail}
use Rattle.flat_model.specs.declared.expression.Expr.{Expr}
use Rattle.flat_model.specs.declared.equation.Equation.{Equation}
use Rattle.flat_model.specs.declared.equation.Equation.TheVariants.{Valued}
use Rattle.flat_model.specs.Occurrences.{bare_count}
use Rattle.flat_model.specs.Operators.{Answer, Is, Fails}
use Rattle.flat_model.specs.Samples.{samples_are_plain}
use Rattle.flat_model.specs.Views.{Views}
use Rattle.flat_model.specs.Meaning.{value_of, seen_by}
use Rattle.flat_model.specs.Meets.{HasOneValue}
use Rattle.flat_model.specs.Ways.{beside_of, way_to, parts_beside, kind_of}
use Rattle.eq_orient.specs.Spine.{IsSpineOf}
use Rattle.eq_orient.specs.Solving.{with_now, Solves, AreWellMade}
use Rattle.eq_orient.specs.private.Undoing.{answers_by, AreValues, IsOnWay, beside, Undoes}
use Rattle.eq_orient.proofs.Passing.{is_passed}
use Rattle.eq_orient.proofs.Descent.{seen_append, missed}
use Rattle.eq_orient.proofs.Unread.{unread}
use Rattle.eq_orient.proofs.Checking.{kind_none}

-- the side with the name, and the other
pub record IsSided (x : ℕ) (mine other : Expr) : Type 0 where
  pub way : IsOnWay x mine
  pub none : bare_count x other ≡ 0
  pub plain : samples_are_plain other ≡ true

module _ (x : ℕ) (left right : Expr) (clause : Option ℕ) where
  abbrev both : Equation
  both = Valued left right clause

  pub left_sided : IsSpineOf x (Valued left right clause) true → AreWellMade (Valued left right clause) → IsSided x left right
  left_sided spine made =
      let some = (is_passed x left).some ((is_passed x left).whole spine.1) in record {
        way = record { formed = made.0.0; reached = spine.1; once = omega (arith, spine.0, some); plain = made.0.1 };
        none = omega (arith, spine.0, some);
        plain = made.1.1;
      }

  pub right_sided : IsSpineOf x (Valued left right clause) false → AreWellMade (Valued left right clause) → IsSided x right left
  right_sided spine made =
      let some = (is_passed x right).some ((is_passed x right).whole spine.1) in record {
        way = record { formed = made.1.0; reached = spine.1; once = omega (arith, spine.0, some); plain = made.1.1 };
        none = omega (arith, spine.0, some);
        plain = made.0.1;
      }

  on_side : (views : Views) (e : Expr) → (way_to x e).reaches ≡ true → seen_by views (beside_of (way_to x e)) ≡ beside x e views
  on_side views e r = rw r refl

  off_side : (views : Views) (e : Expr) → (way_to x e).reaches ≡ false → seen_by views (beside_of (way_to x e)) ≡ value_of e views ∷ []
  off_side views e r = rw r (ap (λ a. a ∷ []) ((is_passed x e).means views))

  pub parts_left : (views : Views) → IsSided x left right → seen_by views (parts_beside x (Valued left right clause)) ≡ beside x left views ++ value_of right views ∷ []
  parts_left views sided =
      seen_append views (beside_of (way_to x left)) (beside_of (way_to x right))
      ∙ ap₂ (λ a b. a ++ b) (on_side views left ((is_passed x left).whole sided.way.reached)) (off_side views right (missed x right sided.none))

  pub parts_right : (views : Views) → IsSided x right left → seen_by views (parts_beside x (Valued left right clause)) ≡ (value_of left views ∷ []) ++ beside x right views
  parts_right views sided =
      seen_append views (beside_of (way_to x left)) (beside_of (way_to x right))
      ∙ ap₂ (λ a b. a ++ b) (off_side views left (missed x left sided.none)) (on_side views right ((is_passed x right).whole sided.way.reached))

module _ (x : ℕ) (equation : Equation) (views : Views) (mine other : Expr) (none : bare_count x other ≡ 0)
    (to : (w : Value) → HasOneValue (with_now x w views) equation → (v : Value) × (value_of mine (with_now x w views) ≡ Is v) × (value_of other (with_now x w views) ≡ Is v))
    (from : (w v : Value) → value_of mine (with_now x w views) ≡ Is v → value_of other (with_now x w views) ≡ Is v → HasOneValue (with_now x w views) equation) where
  abbrev parts : List Answer
  parts = seen_by views (parts_beside x equation)

  pub refused : (kind : Fail) → kind ≡ kind_of parts → ((w v : Value) → value_of mine (with_now x w views) ≡ Is v → ⊥) → Solves x equation views (Err kind)
  refused kind is never = (λ w fine one. let sides = to w one in never w sides.0 sides.1, is)

  pub other_fails : (kind : Fail) → kind ≡ kind_of parts → value_of other views ≡ Fails kind → Solves x equation views (Err kind)
  other_fails kind is fails = (λ w fine one. let sides = to w one in clash kind sides.0 (sym fails ∙ sym (unread x w views other none) ∙ sides.2), is)
    where
      clash : (kind : Fail) (v : Value) → Fails kind ≡ Is v → ⊥
      clash kind v e = cc

  same_value : (t v : Value) → Is t ≡ Is v → v ≡ t
  same_value t v e = cc

  pub found : (t : Value) (r : Result Value Fail) → AreValues parts → value_of other views ≡ Is t → Undoes (answers_by x mine views) t r → Solves x equation views r
  found t (Ok v) values value undone = (
    undone.0,
    from v t undone.1 (unread x v views other none ∙ value),
    λ w fine one. let sides = to w one in
        undone.2 w fine (sides.1 ∙ ap Is (same_value t sides.0 (sym value ∙ sym (unread x w views other none) ∙ sides.2))),
  )
  found t (Err kind) values value undone = (
    λ w fine one. let sides = to w one in
        undone.1 w fine (sides.1 ∙ ap Is (same_value t sides.0 (sym value ∙ sym (unread x w views other none) ∙ sides.2))),
    undone.0 ∙ sym (kind_none parts values),
  )
