-- What a side of a use that counts asks for, but the use's own name, has values of their types.
use Rattle.std.proofs.Common.{◌≡◌, ◌≢◌, refl, ap, sym, subst, ◌∙◌, ℕ, zero, suc, ◌-◌, ◌<◌, true, Option, Some, None, IsSome, slice_get, ◌⊎◌, arith, inl, inr}
use Rattle.std.specs.Prelude.{option_map}
use Rattle.std.proofs.lemmas.Bool.{false≢true}
use Rattle.std.proofs.lemmas.Option.{same_Some, none-some}
use Rattle.sync_values.specs.declared.value.Value.{Value}
use Rattle.flat_model.specs.declared.expression.Expr.{Expr}
use Rattle.flat_model.specs.declared.model.FlatName.{FlatName}
use Rattle.flat_model.specs.declared.model.NameKind.{NameKind}
use Rattle.flat_model.specs.declared.model.NameKind.TheVariants as kind
use Rattle.flat_model.specs.Asks.{Asking, OfNow, OfLast, OfPrevious, OfFirst, OfInterval, asked, IsSampled}
use Rattle.flat_model.specs.Assignment.{Assignment, IsOfKind, tick_before, value_at_tick}
use Rattle.flat_model.specs.Given.{Row, with_row, HasLastValue, HasReadIn, IsKnownToTick}
use Rattle.flat_model.specs.Meets.{HasValueAtTicks}
use Rattle.flat_model.specs.Models.{IsName}
use Rattle.flat_model.specs.Occurrences.{held_count, converted_count}
use Rattle.flat_model.specs.Operators.{read}
use Rattle.flat_model.specs.Runnable.{IsRunnable, IsSideClocked}
use Rattle.flat_model.specs.Setting.{Setting, class_of_name, class_of_equation, start_in, start_of, class_ticks, name_ticks, views_at}
use Rattle.flat_model.specs.Typing.{types_in, valued_type}
use Rattle.flat_model.proofs.Agreement.{SameBefore, class_ticks_same}
use Rattle.flat_model.proofs.Links.{asked_bare, asked_last, asked_before, asked_earlier}
use Rattle.flat_model.proofs.Sites.{meet_where_tick}
use Rattle.flat_model.proofs.Typed.{IsAnswerOf, IsTypedAt}
use Rattle.moment_theory.specs.Free.{AsksLastIn}
use Rattle.moment_theory.proofs.FromRunnable.{all_at}
use Rattle.moment_theory.proofs.Placed.{left_unsampled}
use Rattle.moment_theory.proofs.Rows.{row_now, row_before, unclocked_at_first}
use Rattle.side_theory.specs.Typed.{AreValuedBefore, IsTypedRow}
use Rattle.side_theory.proofs.Answering.{at_tick_before, less_or}
use Rattle.solved_use.proofs.Beside.{TypedBut}

is_some : (o : Option Value) → IsSome o → (v : Value) × (o ≡ Some v)
is_some None some = absurd (false≢true some)
is_some (Some v) some = (v, refl)

answer_some : (type : NameKind) (o : Option Value) (v : Value) → o ≡ Some v → IsOfKind type v → IsAnswerOf type (read o)
answer_some type o v is typed = subst (λ p. IsAnswerOf type (read p)) (sym is) typed

at_ticks : (k : NameKind) (o : Option Value) → k ≢ kind.Clock → HasValueAtTicks k true o → (v : Value) × (o ≡ Some v) × IsOfKind k v
at_ticks kind.Integer o valued h = h
at_ticks kind.Boolean o valued h = h
at_ticks kind.Clock o valued h = absurd (valued refl)

-- a name of a type with values
pub record IsNameOf (s : Setting) (y : ℕ) (type : NameKind) : Type 0 where
  pub name : FlatName
  pub found : slice_get s.model.names y ≡ Some name
  pub type_is : name.kind ≡ type
  pub valued : name.kind ≢ kind.Clock

pub name_of : (s : Setting) (y : ℕ) (type : NameKind) → valued_type (types_in s.model.names y) ≡ Some type → IsNameOf s y type
name_of s y type e = by_name (slice_get s.model.names y) refl e
  where
    by_kind : (name : FlatName) → slice_get s.model.names y ≡ Some name → (k : NameKind) → name.kind ≡ k → valued_type (Some k) ≡ Some type → IsNameOf s y type
    by_kind name found kind.Integer is e = record { name = name; found = found; type_is = is ∙ same_Some kind.Integer type e; valued = λ clock. (let h : kind.Integer ≡ kind.Clock = sym is ∙ clock in cc) }
    by_kind name found kind.Boolean is e = record { name = name; found = found; type_is = is ∙ same_Some kind.Boolean type e; valued = λ clock. (let h : kind.Boolean ≡ kind.Clock = sym is ∙ clock in cc) }
    by_kind name found kind.Clock is e = absurd (none-some type e)

    by_name : (o : Option FlatName) → slice_get s.model.names y ≡ o → valued_type (option_map (λ name. name.kind) o) ≡ Some type → IsNameOf s y type
    by_name None found e = absurd (none-some type e)
    by_name (Some name) found e = by_kind name found name.kind refl e

module _ (s : Setting) (runs : IsRunnable s) (S : Assignment) (m : ℕ) (row : Row) (meets : AreValuedBefore s S m) (typed_row : IsTypedRow s row) where
  abbrev A : Assignment
  A = with_row S m row

  same_before : SameBefore A S m
  same_before = row_before S m row

  module _ (y : ℕ) (type : NameKind) (name : IsNameOf s y type) where
    start_typed : IsAnswerOf type (read (Some (start_of s y)))
    start_typed = subst (λ v. IsOfKind type v) (sym (ap start_in name.found)) (subst (λ k. IsOfKind k name.name.start) name.type_is ((all_at IsName s.model.names y name.name runs.model.names.each name.found).start name.valued))

    -- at an earlier tick
    early : (k : ℕ) → k < m → name_ticks s A y k ≡ true → IsAnswerOf type (read (A y k))
    early k lt ticks =
        let there : name_ticks s S y k ≡ true = sym (class_ticks_same s A S (class_of_name s y) k k (λ z n le. same_before z n (omega (arith, le, lt))) (omega arith)) ∙ ticks in
        let met : HasValueAtTicks name.name.kind true (S y k) = subst (λ b. HasValueAtTicks name.name.kind b (S y k)) there ((meets k lt).names y name.name name.found) in
        let (v, is, typed) = at_ticks name.name.kind (S y k) name.valued met in
        answer_some type (A y k) v (same_before y k lt ∙ is) (subst (λ k. IsOfKind k v) name.type_is typed)

    now_typed : IsSome (A y m) → IsAnswerOf type (read (A y m))
    now_typed some =
        let (v, is) = is_some (A y m) some in
        answer_some type (A y m) v is (subst (λ k. IsOfKind k v) name.type_is (typed_row y name.name v name.found (sym (row_now S m row y) ∙ is)))

    before_typed : (k : ℕ) → k ≡ m → IsAnswerOf type (read (value_at_tick (A y) (start_of s y) (tick_before (name_ticks s A y) k)))
    before_typed k at = at_tick_before (λ o. IsAnswerOf type (read o)) (name_ticks s A y) (A y) (start_of s y) k start_typed (λ j lt ticks. early j (omega (arith, lt, at)) ticks)

    last_typed : (k : ℕ) → k ≡ m → (name_ticks s A y m ≡ true → IsSome (A y m)) → IsAnswerOf type (read (value_at_tick (A y) (start_of s y) (tick_before (name_ticks s A y) (suc k))))
    last_typed k at some = subst (λ n. IsAnswerOf type (read (value_at_tick (A y) (start_of s y) (tick_before (name_ticks s A y) (suc n))))) (sym at)
        (at_tick_before (λ o. IsAnswerOf type (read o)) (name_ticks s A y) (A y) (start_of s y) (suc m) start_typed (λ j lt ticks. by_place j lt ticks (less_or j m lt)))
      where
        by_place : (j : ℕ) → j < suc m → name_ticks s A y j ≡ true → (j < m) ⊎ (j ≡ m) → IsAnswerOf type (read (A y j))
        by_place j lt ticks (inl less) = early j less ticks
        by_place j lt ticks (inr is) = subst (λ n. IsAnswerOf type (read (A y n))) (sym is) (now_typed (some (subst (λ n. name_ticks s A y n ≡ true) is ticks)))

  -- a side of an equation that counts, in which x is no argument of `hold` or of a conversion
  module _ (i x : ℕ) (e : Expr) (clocked : IsSideClocked s i e) (counts : IsKnownToTick s A m (class_of_equation s i)) (reads : (y : ℕ) → y ≢ x → HasReadIn s A m i e y) (own : AsksLastIn e x → ⊥) where
    abbrev class : Option ℕ
    class = class_of_equation s i

    not_first : (d : ℕ) (q : Asking) → 0 < asked e (suc d) q → m ≡ 0 → ⊥
    not_first d q asks at =
        let none : class ≡ None = unclocked_at_first s A class (subst (λ k. class_ticks s A class k ≡ true) at counts.1) in
        let plain = left_unsampled e (clocked.unclocked none) in
        let some = asked_earlier e d q asks in omega (arith, plain, some)

    now_some : (y : ℕ) → 0 < asked e 0 (OfNow y) → y ≢ x → IsSome (A y m)
    now_some y asks other = (reads y other).bare (let count = asked_bare y e in omega (arith, asks, count))

    asks_last : (y : ℕ) → 0 < asked e 0 (OfLast y) → (0 < held_count y e) ⊎ (0 < converted_count y e)
    asks_last y some = by_count (held_count y e) refl
      where
        by_count : (n : ℕ) → held_count y e ≡ n → (0 < held_count y e) ⊎ (0 < converted_count y e)
        by_count zero none = let total = asked_last y e in inr (omega (arith, some, total, none))
        by_count (suc n) one = inl (omega (arith, one))

    by_last : (y : ℕ) → name_ticks s A y m ≡ true → HasLastValue s A m y → IsSome (A y m)
    by_last y ticks (inl (known, rests)) = absurd (false≢true (sym rests ∙ ticks))
    by_last y ticks (inr some) = some

    last_some : (y : ℕ) → 0 < asked e 0 (OfLast y) → name_ticks s A y m ≡ true → IsSome (A y m)
    last_some y asks ticks = by_manner (asks_last y asks)
      where
        by_manner : (0 < held_count y e) ⊎ (0 < converted_count y e) → IsSome (A y m)
        by_manner (inl held) = by_last y ticks ((reads y (λ same. own (subst (AsksLastIn e) same (inl held)))).held held)
        by_manner (inr converted) =
            by_last y ticks ((reads y (λ same. own (subst (AsksLastIn e) same (inr converted)))).converted converted
            (meet_where_tick s A m class (class_of_name s y) (clocked.converted y converted).axis counts.1 ticks))

    here : m ≡ m - 0
    here = omega arith

    pub typed_but : TypedBut (types_in s.model.names) x (asked e) (views_at s A class m)
    typed_but zero (OfNow y) asks other = λ type valued. subst (λ k. IsAnswerOf type (read (A y k))) here (now_typed y type (name_of s y type valued) (now_some y asks (λ same. other (refl, ap OfNow same))))
    typed_but zero (OfLast y) asks other = λ type valued. last_typed y type (name_of s y type valued) (m - 0) (sym here) (last_some y asks)
    typed_but zero (OfPrevious y) asks other = λ type valued. before_typed y type (name_of s y type valued) (m - 0) (sym here)
    typed_but zero OfFirst asks other = tt
    typed_but zero OfInterval asks other = tt
    typed_but (suc d) q asks other = by_asking q (asked_before e clocked.plain d q asks).1 (subst (λ n. 0 < asked e (suc n) q) at_0 asks) where
      at_0 : d ≡ 0
      at_0 = (asked_before e clocked.plain d q asks).0

      by_asking : (q : Asking) → IsSampled q → 0 < asked e 1 q → IsTypedAt (types_in s.model.names) (views_at s A class m) (suc d) q
      by_asking (OfNow y) sampled one = λ type valued. by_moment m refl type (name_of s y type valued)
        where
          by_moment : (k : ℕ) → m ≡ k → (type : NameKind) → IsNameOf s y type → IsAnswerOf type (read (A y (m - suc d)))
          by_moment zero at type name = absurd (not_first 0 (OfNow y) one at)
          by_moment (suc k) at type name = early y type name (m - suc d) (omega (arith, at)) (ap (λ c. class_ticks s A c (m - suc d)) (clocked.sampled y one))
      by_asking (OfLast y) sampled one = λ type valued. by_moment m refl type (name_of s y type valued)
        where
          by_moment : (k : ℕ) → m ≡ k → (type : NameKind) → IsNameOf s y type → IsAnswerOf type (read (value_at_tick (A y) (start_of s y) (tick_before (name_ticks s A y) (suc (m - suc d)))))
          by_moment zero at type name = absurd (not_first 0 (OfLast y) one at)
          by_moment (suc k) at type name = before_typed y type name (suc (m - suc d)) (omega (arith, at, at_0))
      by_asking (OfPrevious y) sampled one = absurd sampled
      by_asking OfFirst sampled one = absurd sampled
      by_asking OfInterval sampled one = absurd sampled
