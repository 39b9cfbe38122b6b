-- What the side of a use that counts asks for has values of their types, and so has the side, or it fails.
use Rattle.std.proofs.Common.{◌≡◌, ◌≢◌, refl, ap, sym, subst, ◌∙◌, ℕ, zero, suc, ◌-◌, ◌<◌, Bool, true, false, if◌then◌else◌, List, Option, Some, None, IsSome, slice_get, Contains, ◌⊎◌, arith, inl, inr}
use Rattle.std.specs.Prelude.{option_map}
use Rattle.std.proofs.lemmas.Bool.{false≢true}
use Rattle.std.proofs.lemmas.Option.{same_Some, none-some}
use Rattle.sync_values.specs.declared.value.Value.{Value}
use Rattle.flat_model.specs.declared.equation.Equation.{Equation}
use Rattle.flat_model.specs.declared.expression.Expr.{Expr}
use Rattle.flat_model.specs.declared.expression.Expr.TheVariants.{Read, rolls-Read}
use Rattle.flat_model.specs.declared.clock.ClockExpr.TheOpen.{Expr-F}
use Rattle.flat_model.specs.declared.clock.ClockExpr.TheFolds.{fold-roll-Expr}
use Rattle.flat_model.specs.declared.model.FlatName.{FlatName}
use Rattle.flat_model.specs.declared.model.NameKind.{NameKind}
use Rattle.flat_model.specs.declared.model.NameKind.TheVariants as kind
use Rattle.flat_model.specs.Asks.{Asking, OfNow, OfLast, OfPrevious, OfFirst, OfInterval, asked, IsSampled}
use Rattle.flat_model.specs.Assignment.{Assignment, IsOfKind, tick_before, value_at_tick}
use Rattle.flat_model.specs.Given.{Row, with_row, HasLastValue, HasReadsBut, CanUse}
use Rattle.flat_model.specs.Meaning.{value_of}
use Rattle.flat_model.specs.Meets.{HasValueAtTicks}
use Rattle.flat_model.specs.Models.{IsName}
use Rattle.flat_model.specs.Occurrences.{held_count, converted_count}
use Rattle.flat_model.specs.Operators.{Answer, Is, Fails, Absent, read}
use Rattle.flat_model.specs.Runnable.{IsRunnable, IsSideClocked}
use Rattle.flat_model.specs.Setting.{Setting, class_of_name, class_of_equation, start_in, start_of, class_ticks, name_ticks, views_at}
use Rattle.flat_model.specs.Typing.{Types, types_in, valued_type, type_of, type_of_level}
use Rattle.flat_model.specs.Uses.{Use, AreUses}
use Rattle.flat_model.specs.WholeTyping.{IsTyped}
use Rattle.flat_model.proofs.Agreement.{SameBefore, class_ticks_same}
use Rattle.flat_model.proofs.Links.{asked_bare, asked_last, asked_before}
use Rattle.flat_model.proofs.Sites.{meet_where_tick}
use Rattle.flat_model.proofs.Typed.{IsAnswerOf, IsTypedAt, AreTypedAt, typed_value}
use Rattle.flat_model.proofs.WholeTypes.{whole_typed}
use Rattle.moment_theory.proofs.FromRunnable.{all_at}
use Rattle.moment_theory.proofs.Rows.{row_now, row_before, unclocked_at_first}
use Rattle.side_theory.specs.Sides.{sided, IsSideUse, IsAnswerOfKind}
use Rattle.side_theory.specs.Typed.{AreValuedBefore, IsTypedRow}
use Rattle.side_theory.proofs.Sided.{side_clocked, side_typed, side_has}
use Rattle.side_theory.proofs.Side.{SideFacts, side_facts}

type_of-Read : (types : Types) (x : ℕ) → type_of types (Read x) ≡ valued_type (types x)
unfolding type_of
type_of-Read types x = ap (type_of types) (sym (rolls-Read x)) ∙ fold-roll-Expr (Unit {0}) (Option NameKind) (λ _. tt) (type_of_level types) (Expr-F.Read x)

-- what holds of the start, and of the values at ticks, holds of the value at the tick before
pub at_tick_before : (P : Option Value → Type 0) (ticks : ℕ → Bool) (values : ℕ → Option Value) (start : Value) (m : ℕ) → P (Some start) → ((k : ℕ) → k < m → ticks k ≡ true → P (values k)) → P (value_at_tick values start (tick_before ticks m))
at_tick_before P ticks values start zero first each = first
at_tick_before P ticks values start (suc m) first each = by_tick (ticks m) refl (at_tick_before P ticks values start m first (λ k lt. each k (omega (arith, lt)))) where
  by_tick : (b : Bool) → ticks m ≡ b → P (value_at_tick values start (tick_before ticks m)) → P (value_at_tick values start (if b then Some m else tick_before ticks m))
  by_tick true is rest = each m (omega arith) is
  by_tick false is rest = rest

pub less_or : (j m : ℕ) → j < suc m → (j < m) ⊎ (j ≡ m)
less_or zero zero lt = inr refl
less_or zero (suc m) lt = inl (omega arith)
less_or (suc j) zero lt = absurd (omega (arith, lt))
less_or (suc j) (suc m) lt = by (less_or j m (omega (arith, lt))) where
  by : (j < m) ⊎ (j ≡ m) → (suc j < suc m) ⊎ (suc j ≡ suc m)
  by (inl less) = inl (omega (arith, less))
  by (inr is) = inr (ap suc is)

is_some : (o : Option Value) → IsSome o → (v : Value) × (o ≡ Some v)
is_some None some = absurd (false≢true some)
is_some (Some v) some = (v, refl)

answer_some : (type : NameKind) (o : Option Value) (v : Value) → o ≡ Some v → IsOfKind type v → IsAnswerOf type (read o)
answer_some type o v is typed = subst (λ p. IsAnswerOf type (read p)) (sym is) typed

same_answer : (type : NameKind) (a : Answer) → IsAnswerOf type a → IsAnswerOfKind type a
same_answer type (Is v) h = h
same_answer type (Fails kind) h = h
same_answer type Absent h = h

at_ticks : (k : NameKind) (o : Option Value) → k ≢ kind.Clock → HasValueAtTicks k true o → (v : Value) × (o ≡ Some v) × IsOfKind k v
at_ticks kind.Integer o valued h = h
at_ticks kind.Boolean o valued h = h
at_ticks kind.Clock o valued h = absurd (valued refl)

-- a name of a type with values
record IsNameOf (s : Setting) (y : ℕ) (type : NameKind) : Type 0 where
  pub name : FlatName
  pub found : slice_get s.model.names y ≡ Some name
  pub type_is : name.kind ≡ type
  pub valued : name.kind ≢ kind.Clock

name_of : (s : Setting) (y : ℕ) (type : NameKind) → valued_type (types_in s.model.names y) ≡ Some type → IsNameOf s y type
name_of s y type e = by_name (slice_get s.model.names y) refl e
  where
    by_kind : (name : FlatName) → slice_get s.model.names y ≡ Some name → (k : NameKind) → name.kind ≡ k → valued_type (Some k) ≡ Some type → IsNameOf s y type
    by_kind name found kind.Integer is e = record { name = name; found = found; type_is = is ∙ same_Some kind.Integer type e; valued = λ clock. (let h : kind.Integer ≡ kind.Clock = sym is ∙ clock in cc) }
    by_kind name found kind.Boolean is e = record { name = name; found = found; type_is = is ∙ same_Some kind.Boolean type e; valued = λ clock. (let h : kind.Boolean ≡ kind.Clock = sym is ∙ clock in cc) }
    by_kind name found kind.Clock is e = absurd (none-some type e)

    by_name : (o : Option FlatName) → slice_get s.model.names y ≡ o → valued_type (option_map (λ name. name.kind) o) ≡ Some type → IsNameOf s y type
    by_name None found e = absurd (none-some type e)
    by_name (Some name) found e = by_kind name found name.kind refl e

module _ (s : Setting) (runs : IsRunnable s) (S : Assignment) (m : ℕ) (row : Row) (meets : AreValuedBefore s S m) (typed_row : IsTypedRow s row) where
  abbrev A : Assignment
  A = with_row S m row

  same_before : SameBefore A S m
  same_before = row_before S m row

  module _ (y : ℕ) (type : NameKind) (name : IsNameOf s y type) where
    start_typed : IsAnswerOf type (read (Some (start_of s y)))
    start_typed = subst (λ v. IsAnswerOf type (Is v)) (sym (ap start_in name.found)) (subst (λ k. IsOfKind k name.name.start) name.type_is ((all_at IsName s.model.names y name.name runs.model.names.each name.found).start name.valued))

    -- at an earlier tick
    early : (k : ℕ) → k < m → name_ticks s A y k ≡ true → IsAnswerOf type (read (A y k))
    early k lt ticks =
        let there : name_ticks s S y k ≡ true = sym (class_ticks_same s A S (class_of_name s y) k k (λ z n le. same_before z n (omega (arith, le, lt))) (omega arith)) ∙ ticks in
        let met : HasValueAtTicks name.name.kind true (S y k) = subst (λ b. HasValueAtTicks name.name.kind b (S y k)) there ((meets k lt).names y name.name name.found) in
        let (v, is, typed) = at_ticks name.name.kind (S y k) name.valued met in
        answer_some type (A y k) v (same_before y k lt ∙ is) (subst (λ k. IsOfKind k v) name.type_is typed)

    -- now
    now_typed : IsSome (A y m) → IsAnswerOf type (read (A y m))
    now_typed some =
        let (v, is) = is_some (A y m) some in
        answer_some type (A y m) v is (subst (λ k. IsOfKind k v) name.type_is (typed_row y name.name v name.found (sym (row_now S m row y) ∙ is)))

    before_typed : (k : ℕ) → k ≡ m → IsAnswerOf type (read (value_at_tick (A y) (start_of s y) (tick_before (name_ticks s A y) k)))
    before_typed k at = at_tick_before (λ o. IsAnswerOf type (read o)) (name_ticks s A y) (A y) (start_of s y) k start_typed (λ j lt ticks. early j (omega (arith, lt, at)) ticks)

    last_typed : (k : ℕ) → k ≡ m → (name_ticks s A y m ≡ true → IsSome (A y m)) → IsAnswerOf type (read (value_at_tick (A y) (start_of s y) (tick_before (name_ticks s A y) (suc k))))
    last_typed k at some = subst (λ n. IsAnswerOf type (read (value_at_tick (A y) (start_of s y) (tick_before (name_ticks s A y) (suc n))))) (sym at)
        (at_tick_before (λ o. IsAnswerOf type (read o)) (name_ticks s A y) (A y) (start_of s y) (suc m) start_typed (λ j lt ticks. by_place j lt ticks (less_or j m lt)))
      where
        by_place : (j : ℕ) → j < suc m → name_ticks s A y j ≡ true → (j < m) ⊎ (j ≡ m) → IsAnswerOf type (read (A y j))
        by_place j lt ticks (inl less) = early j less ticks
        by_place j lt ticks (inr is) = subst (λ n. IsAnswerOf type (read (A y n))) (sym is) (now_typed (some (subst (λ n. name_ticks s A y n ≡ true) is ticks)))

  module _ (uses : List Use) (entry : Use) (side : Expr) (class : ℕ) (is : IsSideUse s entry side class) (facts : SideFacts s entry side class) (equation : Equation) (name : FlatName) (can : CanUse s A m entry equation name) where
    abbrev own : Equation
    own = sided is.first entry.name side is.clause

    reads : HasReadsBut s A m entry.equation entry.name own
    reads = subst (HasReadsBut s A m entry.equation entry.name) (same_Some equation own (sym can.equation_is ∙ is.found)) can.reads

    clocked : IsSideClocked s entry.equation side
    clocked = side_clocked s entry.equation is.first entry.name side is.clause (runs.equations entry.equation own is.found)

    not_first : m ≡ 0 → ⊥
    not_first at = none-some class (sym (unclocked_at_first s A (class_of_equation s entry.equation) (subst (λ k. class_ticks s A (class_of_equation s entry.equation) k ≡ true) at can.ticks.1)) ∙ is.class_is)

    now_some : (y : ℕ) → 0 < asked side 0 (OfNow y) → IsSome (A y m)
    now_some y asks =
        let other : y ≢ entry.name = λ same. (let bare = facts.bare in let count = asked_bare entry.name side in let h : 0 < asked side 0 (OfNow entry.name) = subst (λ z. 0 < asked side 0 (OfNow z)) same asks in omega (arith, bare, count, h)) in
        (side_has s A m entry.equation is.first entry.name side is.clause reads y other).bare (let count = asked_bare y side in omega (arith, asks, count))

    converted : (y : ℕ) → 0 < asked side 0 (OfLast y) → 0 < converted_count y side
    converted y asks = by_count (held_count y side) refl
      where
        by_count : (n : ℕ) → held_count y side ≡ n → 0 < converted_count y side
        by_count zero none = let total = asked_last y side in omega (arith, asks, total, none)
        by_count (suc n) held = absurd (none-some class (sym (clocked.held y (omega (arith, held))).1 ∙ is.class_is))

    last_some : (y : ℕ) → 0 < asked side 0 (OfLast y) → name_ticks s A y m ≡ true → IsSome (A y m)
    last_some y asks ticks =
        let some = converted y asks in
        let other : y ≢ entry.name = λ same. facts.last (inr (subst (λ z. 0 < converted_count z side) same some)) in
        by_last ((side_has s A m entry.equation is.first entry.name side is.clause reads y other).converted some (meet_where_tick s A m (class_of_equation s entry.equation) (class_of_name s y) (clocked.converted y some).axis can.ticks.1 ticks))
      where
        by_last : HasLastValue s A m y → IsSome (A y m)
        by_last (inl (known, rests)) = absurd (false≢true (sym rests ∙ ticks))
        by_last (inr some) = some

    here : m ≡ m - 0
    here = omega arith

    typed_at : AreTypedAt (types_in s.model.names) (asked side) (views_at s A (class_of_equation s entry.equation) m)
    typed_at zero (OfNow y) asks = λ type valued. subst (λ k. IsAnswerOf type (read (A y k))) here (now_typed y type (name_of s y type valued) (now_some y asks))
    typed_at zero (OfLast y) asks = λ type valued. last_typed y type (name_of s y type valued) (m - 0) (sym here) (last_some y asks)
    typed_at zero (OfPrevious y) asks = λ type valued. before_typed y type (name_of s y type valued) (m - 0) (sym here)
    typed_at zero OfFirst asks = tt
    typed_at zero OfInterval asks = tt
    typed_at (suc d) q asks = by_asking q (asked_before side clocked.plain d q asks).1 (subst (λ n. 0 < asked side (suc n) q) at_0 asks) where
      at_0 : d ≡ 0
      at_0 = (asked_before side clocked.plain d q asks).0

      by_asking : (q : Asking) → IsSampled q → 0 < asked side 1 q → IsTypedAt (types_in s.model.names) (views_at s A (class_of_equation s entry.equation) m) (suc d) q
      by_asking (OfNow y) sampled one = λ type valued. by_moment m refl type (name_of s y type valued)
        where
          by_moment : (k : ℕ) → m ≡ k → (type : NameKind) → IsNameOf s y type → IsAnswerOf type (read (A y (m - suc d)))
          by_moment zero at type name = absurd (not_first at)
          by_moment (suc k) at type name = early y type name (m - suc d) (omega (arith, at)) (ap (λ c. class_ticks s A c (m - suc d)) (clocked.sampled y one))
      by_asking (OfLast y) sampled one = λ type valued. by_moment m refl type (name_of s y type valued)
        where
          by_moment : (k : ℕ) → m ≡ k → (type : NameKind) → IsNameOf s y type → IsAnswerOf type (read (value_at_tick (A y) (start_of s y) (tick_before (name_ticks s A y) (suc (m - suc d)))))
          by_moment zero at type name = absurd (not_first at)
          by_moment (suc k) at type name = before_typed y type name (suc (m - suc d)) (omega (arith, at, at_0))
      by_asking (OfPrevious y) sampled one = absurd sampled
      by_asking OfFirst sampled one = absurd sampled
      by_asking OfInterval sampled one = absurd sampled

    name_type : IsTyped (types_in s.model.names) own → IsAnswerOf name.kind (value_of side (views_at s A (class_of_equation s entry.equation) m))
    name_type typed =
        let (type, left, right) = side_typed (types_in s.model.names) is.first entry.name side is.clause typed in
        let own_type : valued_type (types_in s.model.names entry.name) ≡ Some type = sym (type_of-Read (types_in s.model.names) entry.name) ∙ whole_typed (types_in s.model.names) (Read entry.name) type left in
        let of = name_of s entry.name type own_type in
        let same : type ≡ name.kind = sym of.type_is ∙ ap (λ n. n.kind) (same_Some of.name name (sym of.found ∙ can.name_is)) in
        subst (λ k. IsAnswerOf k (value_of side (views_at s A (class_of_equation s entry.equation) m))) same
        (typed_value (types_in s.model.names) side type (views_at s A (class_of_equation s entry.equation) m) typed_at (whole_typed (types_in s.model.names) side type right))

pub is_answer : (s : Setting) (uses : List Use) → IsRunnable s → AreUses s uses → (entry : Use) (side : Expr) (class : ℕ) → Contains uses entry → IsSideUse s entry side class
    → (S : Assignment) (m : ℕ) (row : Row) → AreValuedBefore s S m → IsTypedRow s row → (equation : Equation) (name : FlatName) → CanUse s (with_row S m row) m entry equation name
    → IsAnswerOfKind name.kind (value_of side (views_at s (with_row S m row) (Some class) m))
is_answer s uses runs are entry side class used is S m row meets typed equation name can =
    subst (λ c. IsAnswerOfKind name.kind (value_of side (views_at s (with_row S m row) c m))) is.class_is
    (same_answer name.kind _ (name_type s runs S m row meets typed uses entry side class is (side_facts s uses runs are entry side class used is) equation name can
    (all_at (IsTyped (types_in s.model.names)) s.model.equations entry.equation (sided is.first entry.name side is.clause) runs.model.typed.equations is.found)))
