-- What the solution of a use's equation tells of the use.
use Rattle.std.proofs.Common.{◌≡◌, ◌≢◌, refl, ap, sym, subst, ◌∙◌, ℕ, zero, suc, ◌+◌, ◌-◌, ◌<◌, ◌≤◌, ◌==◌, ◌&&◌, Bool, true, false, if◌then◌else◌, List, length, Option, Some, None, slice_get, Result, Ok, Err, Contains, ◌⊎◌, eq-eqb, ne_eqb, arith, inl, inr}
use Rattle.std.specs.List.{list_all}
use Rattle.std.specs.Prelude.{option_map}
use Rattle.std.proofs.Math.Path.{fun_ext}
use Rattle.std.proofs.lemmas.Bool.{cases_eq, false≢true}
use Rattle.std.proofs.lemmas.Option.{same_Some}
use Rattle.sync_values.specs.declared.value.Value.{Value}
use Rattle.sync_values.specs.declared.value.Value.TheVariants as value
use Rattle.sync_values.specs.declared.value.Fail.{Fail}
use Rattle.flat_model.specs.declared.equation.Equation.{Equation}
use Rattle.flat_model.specs.declared.equation.Equation.TheVariants.{Valued}
use Rattle.flat_model.specs.declared.expression.Expr.{Expr}
use Rattle.flat_model.specs.declared.clock.ClockExpr.TheOpen.{Expr-F}
use Rattle.flat_model.specs.declared.clock.ClockExpr.TheFolds.{fold-Expr}
use Rattle.flat_model.specs.declared.model.FlatName.{FlatName}
use Rattle.flat_model.specs.declared.model.NameKind.{NameKind}
use Rattle.flat_model.specs.declared.model.NameKind.TheVariants as kind
use Rattle.flat_model.specs.Asks.{Asking, OfNow, OfLast, OfPrevious, OfFirst, OfInterval, asked}
use Rattle.flat_model.specs.Assignment.{Assignment, IsOfKind}
use Rattle.flat_model.specs.Evaluation.{answer_of}
use Rattle.flat_model.specs.Given.{Row, with_row, with_value, CanUse, Solves as solves_at}
use Rattle.flat_model.specs.Meaning.{seen_by, value_of}
use Rattle.flat_model.specs.Meets.{HasOneValue}
use Rattle.flat_model.specs.Occurrences.{bare_count, is_reached}
use Rattle.flat_model.specs.Operators.{Is}
use Rattle.flat_model.specs.Ways.{parts_beside, beside_of, way_to, kind_of}
use Rattle.flat_model.specs.Runnable.{IsRunnable, IsSideClocked}
use Rattle.flat_model.specs.Setting.{Setting, class_of_name, class_of_equation, class_ticks, views_at}
use Rattle.flat_model.specs.Typing.{types_in, valued_type, type_of}
use Rattle.flat_model.specs.Uses.{Use, AreUses, SiteReads}
use Rattle.flat_model.specs.Views.{Views}
use Rattle.flat_model.specs.WholeTyping.{IsTyped}
use Rattle.flat_model.proofs.Agreement.{SameBefore}
use Rattle.flat_model.proofs.Asks.{SameAt, value_rests_on_asked}
use Rattle.flat_model.proofs.Links.{asked_bare, asked_earlier}
use Rattle.flat_model.proofs.Sites.{class_ticks_by_site}
use Rattle.flat_model.proofs.Typed.{IsAnswerOf}
use Rattle.flat_model.proofs.WholeTypes.{whole_typed}
use Rattle.eq_orient.specs.Solving.{Fits, with_now, formed_level, is_formed, AreWellMade, ArePresent, Solves}
use Rattle.eq_orient.proofs.Unread.{unread}
use Rattle.moment_theory.specs.Free.{AsksLastIn}
use Rattle.moment_theory.specs.Sound.{WaitsForNoOwn}
use Rattle.moment_theory.proofs.Alike.{same_but}
use Rattle.moment_theory.proofs.Alone as alone
use Rattle.moment_theory.proofs.Facts.{Facts, UseFacts, facts_of_use, once_left, once_right}
use Rattle.moment_theory.proofs.FromRunnable.{all_at, facts_of}
use Rattle.moment_theory.proofs.PartsRest.{SameBut, same_without, parts_rest}
use Rattle.moment_theory.proofs.Rows.{value_now, value_other, value_before, unclocked_at_first}
use Rattle.moment_theory.proofs.SameUse.{on_way}
use Rattle.moment_theory.proofs.Stands.{stands_bare}
use Rattle.moment_theory.proofs.Unknown.{site_same}
use Rattle.side_theory.specs.Sides.{DoesAs}
use Rattle.side_theory.specs.Stretches.{IsSameAt}
use Rattle.side_theory.specs.Typed.{AreValuedBefore, IsTypedRow}
use Rattle.solved_use.specs.Solving.{ShowsBut, ShowsEquation, CanSolve}
use Rattle.solved_use.proofs.Shapes.{Shape, value_shape}
use Rattle.solved_use.proofs.Beside.{TypedBut, value_without, present_seen, side_present}
use Rattle.solved_use.proofs.Spines.{shaped}
use Rattle.solved_use.proofs.Viewing.{typed_but}

-- ---- chains in order

same_level : (level : Expr-F (Unit {0}) Bool) → alone.formed_level level ≡ formed_level level
same_level (Expr-F.Chain parts ops) = ap (λ n. length parts == n && list_all (λ part. part) parts) (let h : suc (length ops) ≡ length ops + 1 = omega arith in h)
same_level (Expr-F.Const v) = refl
same_level (Expr-F.Read x) = refl
same_level (Expr-F.Relation rel a b) = refl
same_level (Expr-F.Neg a) = refl
same_level (Expr-F.Not a) = refl
same_level (Expr-F.If cs bs other) = refl
same_level (Expr-F.Apply function ps) = refl
same_level (Expr-F.Previous n) = refl
same_level (Expr-F.FirstTick n) = refl
same_level (Expr-F.IntervalTimes n k) = refl
same_level (Expr-F.Hold n) = refl
same_level (Expr-F.«Expr::Convert» conversion n) = refl
same_level (Expr-F.Sample a clock) = refl

pub same_formed : (e : Expr) → alone.is_formed e ≡ is_formed e
unfolding alone.is_formed is_formed
same_formed e = ap (λ level. fold-Expr (Unit {0}) Bool (λ _. tt) level e) (fun_ext same_level)

-- ---- views

shown : (q : Asking) (v w : Views) (d : ℕ) → IsSameAt v w d q → SameAt v w d q
shown (OfNow x) v w d h = h
shown (OfLast x) v w d h = h
shown (OfPrevious x) v w d h = h
shown OfFirst v w d h = h
shown OfInterval v w d h = h

through : (q : Asking) (a b c : Views) (d : ℕ) → SameAt a b d q → SameAt b c d q → SameAt a c d q
through (OfNow x) a b c d h k = h ∙ k
through (OfLast x) a b c d h k = h ∙ k
through (OfPrevious x) a b c d h k = h ∙ k
through OfFirst a b c d h k = h ∙ k
through OfInterval a b c d h k = h ∙ k

own_now : (x : ℕ) (w : Value) (views : Views) → (with_now x w views 0).now x ≡ Some w
own_now x w views = ap (λ b. if b then Some w else (views 0).now x) (eq-eqb x x refl)

other_now : (x : ℕ) (w : Value) (views : Views) (y : ℕ) → y ≢ x → (with_now x w views 0).now y ≡ (views 0).now y
other_now x w views y other = ap (λ b. if b then Some w else (views 0).now y) (ne_eqb y x other)

-- but for the name itself, nothing differs with its value
still : (x : ℕ) (w : Value) (views : Views) (d : ℕ) (q : Asking) → ((d ≡ 0) × (q ≡ OfNow x) → ⊥) → SameAt (with_now x w views) views d q
still x w views zero (OfNow y) other = other_now x w views y (λ is. other (refl, ap OfNow is))
still x w views zero (OfLast y) other = refl
still x w views zero (OfPrevious y) other = refl
still x w views zero OfFirst other = refl
still x w views zero OfInterval other = refl
still x w views (suc d) (OfNow y) other = refl
still x w views (suc d) (OfLast y) other = refl
still x w views (suc d) (OfPrevious y) other = refl
still x w views (suc d) OfFirst other = refl
still x w views (suc d) OfInterval other = refl

fits_of : (k : NameKind) (v : Value) → IsOfKind k v → Fits v
fits_of kind.Integer (value.Int z) h = h
fits_of kind.Integer (value.Bool b) h = absurd h
fits_of kind.Boolean (value.Int z) h = absurd h
fits_of kind.Boolean (value.Bool b) h = tt
fits_of kind.Clock (value.Int z) h = absurd h
fits_of kind.Clock (value.Bool b) h = absurd h

kind_by : (k : NameKind) (v : Value) → Shape k v → Fits v → IsOfKind k v
kind_by kind.Integer (value.Int z) s f = f
kind_by kind.Integer (value.Bool b) s f = absurd s
kind_by kind.Boolean (value.Int z) s f = absurd s
kind_by kind.Boolean (value.Bool b) s f = tt
kind_by kind.Clock (value.Int z) s f = absurd s
kind_by kind.Clock (value.Bool b) s f = absurd s

kind_valued : (k : NameKind) → k ≢ kind.Clock → valued_type (Some k) ≡ Some k
kind_valued kind.Integer h = refl
kind_valued kind.Boolean h = refl
kind_valued kind.Clock h = absurd (h refl)

valued_kind : (s : Setting) (y : ℕ) (name : FlatName) → slice_get s.model.names y ≡ Some name → name.kind ≢ kind.Clock → valued_type (types_in s.model.names y) ≡ Some name.kind
valued_kind s y name found valued = ap (λ o. valued_type (option_map (λ n. n.kind) o)) found ∙ kind_valued name.kind valued

swap : {P Q : Type 0} → P ⊎ Q → Q ⊎ P
swap (inl p) = inr p
swap (inr q) = inl q

same_Is : (a b : Value) → Is a ≡ Is b → a ≡ b
same_Is a b e = cc

module _ (s : Setting) (uses : List Use) (runs : IsRunnable s) (are : AreUses s uses) (entry : Use) (used : Contains uses entry) (waits : WaitsForNoOwn s entry) where
  abbrev x : ℕ
  x = entry.name

  abbrev i : ℕ
  i = entry.equation

  abbrev class : Option ℕ
  class = class_of_equation s i

  abbrev facts : Facts s
  facts = facts_of s runs

  abbrev of : UseFacts s entry
  of = facts_of_use s uses are entry used

  abbrev own : Equation
  own = Valued of.left of.right of.clause

  few : asked of.left 0 (OfNow x) + asked of.right 0 (OfNow x) ≤ 1
  few = let left = asked_bare x of.left in let right = asked_bare x of.right in let total = of.solvable.0 in omega (arith, left, right, total)

  missed : (e other : Expr) → (is_reached x e ≡ true) ⊎ (is_reached x other ≡ true) → bare_count x e + bare_count x other ≤ 1 → (way_to x e).reaches ≡ false → asked e 0 (OfNow x) ≡ 0
  missed e other (inl reached) total off = absurd (false≢true (sym off ∙ on_way x e reached))
  missed e other (inr reached) total off = let some = stands_bare x other reached in let same = asked_bare x e in omega (arith, some, same, total)

  missed_left : (way_to x of.left).reaches ≡ false → asked of.left 0 (OfNow x) ≡ 0
  missed_left = missed of.left of.right of.solvable.1 (let total = of.solvable.0 in omega (arith, total))

  missed_right : (way_to x of.right).reaches ≡ false → asked of.right 0 (OfNow x) ≡ 0
  missed_right = missed of.right of.left (swap of.solvable.1) (let total = of.solvable.0 in omega (arith, total))

  typed : IsTyped (types_in s.model.names) own
  typed = all_at (IsTyped (types_in s.model.names)) s.model.equations i own runs.model.typed.equations of.found

  abbrev kind_of_sides : NameKind
  kind_of_sides = typed.0

  left_typed : type_of (types_in s.model.names) of.left ≡ Some typed.0
  left_typed = whole_typed (types_in s.model.names) of.left typed.0 typed.1

  right_typed : type_of (types_in s.model.names) of.right ≡ Some typed.0
  right_typed = whole_typed (types_in s.model.names) of.right typed.0 typed.2

  clocked : IsSideClocked s i of.left × IsSideClocked s i of.right
  clocked = runs.equations i own of.found

  made : AreWellMade own
  made =
      let formed = facts.formed i of.left of.right of.clause of.found in
      ((sym (same_formed of.left) ∙ formed.0, clocked.0.plain), (sym (same_formed of.right) ∙ formed.1, clocked.1.plain))

  module _ (S : Assignment) (m : ℕ) (row : Row) (meets : AreValuedBefore s S m) (typed_row : IsTypedRow s row) (name : FlatName) (can : CanUse s (with_row S m row) m entry own name)
      (views : Views) (shows_left : ShowsBut s S m row class x views of.left) (shows_right : ShowsBut s S m row class x views of.right) where
    abbrev A : Assignment
    A = with_row S m row

    abbrev here : Views
    here = views_at s A class m

    typed_left : TypedBut (types_in s.model.names) x (asked of.left) here
    typed_left = typed_but s runs S m row meets typed_row i x of.left clocked.0 can.ticks (λ y other. (can.reads y other).0) (once_left s facts entry of)

    typed_right : TypedBut (types_in s.model.names) x (asked of.right) here
    typed_right = typed_but s runs S m row meets typed_row i x of.right clocked.1 can.ticks (λ y other. (can.reads y other).1) (once_right s facts entry of)

    left_same : SameBut x (asked of.left) views here
    left_same d q some other = shown q views here d (shows_left d q some other)

    right_same : SameBut x (asked of.right) views here
    right_same d q some other = shown q views here d (shows_right d q some other)

    beside_same : seen_by views (parts_beside x own) ≡ seen_by here (parts_beside x own)
    beside_same = parts_rest x of.left of.right of.clause views here few missed_left missed_right left_same right_same

    present : ArePresent (seen_by views (parts_beside x own))
    present = subst ArePresent (sym beside_same)
        (present_seen here (beside_of (way_to x of.left)) (beside_of (way_to x of.right))
        (side_present (types_in s.model.names) x of.left typed.0 here typed_left (let total = few in omega (arith, total)) missed_left left_typed)
        (side_present (types_in s.model.names) x of.right typed.0 here typed_right (let total = few in omega (arith, total)) missed_right right_typed))

    -- ---- with a value of the name

    module _ (w : Value) where
      abbrev W : Assignment
      W = with_value A m x w

      before : SameBefore A W m
      before y k lt = sym (value_before A m x w y k lt)

      with_same : (e : Expr) → (AsksLastIn e x → ⊥) → ((y : ℕ) → AsksLastIn e y → (z : ℕ) → SiteReads s (class_of_name s y) z → z ≢ x) → (class ≡ None → (d : ℕ) (q : Asking) → 0 < asked e (suc d) q → ⊥)
          → SameBut x (asked e) here (views_at s W class m)
      with_same e own_last apart early = same_but s A W m before i x (λ at. unclocked_at_first s A class (subst (λ k. class_ticks s A class k ≡ true) at can.ticks.1)) e (record {
        now = λ y other some. sym (value_other A m x w y other);
        ticks = λ y asks. class_ticks_by_site s A W (class_of_name s y) m before (site_same s A W m (class_of_name s y) facts.unclocked (λ z reads. sym (value_other A m x w z (apart y asks z reads))));
        last = λ y asks t. sym (value_other A m x w y (λ same. own_last (subst (AsksLastIn e) same asks)));
        early = early;
      })

      value_same : (e : Expr) → SameBut x (asked e) views here → SameBut x (asked e) here (views_at s W class m) → value_of e (with_now x w views) ≡ value_of e (views_at s W class m)
      value_same e one two = value_rests_on_asked e (with_now x w views) (views_at s W class m) asked_same
        where
          name_same : SameAt (with_now x w views) (views_at s W class m) 0 (OfNow x)
          name_same = own_now x w views ∙ sym (subst (λ k. W x k ≡ Some w) (let h : m ≡ m - 0 = omega arith in h) (value_now A m x w))

          others : (d : ℕ) (q : Asking) → 0 < asked e d q → ((d ≡ 0) × (q ≡ OfNow x) → ⊥) → SameAt (with_now x w views) (views_at s W class m) d q
          others d q some other = through q (with_now x w views) views (views_at s W class m) d (still x w views d q other) (through q views here (views_at s W class m) d (one d q some other) (two d q some other))

          asked_same : (d : ℕ) (q : Asking) → 0 < asked e d q → SameAt (with_now x w views) (views_at s W class m) d q
          asked_same zero (OfNow y) some = elim (cases_eq y x) [
            | inl is ↦ subst (λ z. SameAt (with_now x w views) (views_at s W class m) 0 (OfNow z)) (sym is) name_same
            | inr other ↦ others 0 (OfNow y) some (λ is. other (same_name y x is.1))
          ]
            where
              same_name : (y z : ℕ) → OfNow y ≡ OfNow z → y ≡ z
              same_name y z e = cc
          asked_same zero (OfLast y) some = others 0 (OfLast y) some (λ is. not_now is.1)
            where
              not_now : OfLast y ≡ OfNow x → ⊥
              not_now e = cc
          asked_same zero (OfPrevious y) some = others 0 (OfPrevious y) some (λ is. not_now is.1)
            where
              not_now : OfPrevious y ≡ OfNow x → ⊥
              not_now e = cc
          asked_same zero OfFirst some = others 0 OfFirst some (λ is. not_now is.1)
            where
              not_now : OfFirst ≡ OfNow x → ⊥
              not_now e = cc
          asked_same zero OfInterval some = others 0 OfInterval some (λ is. not_now is.1)
            where
              not_now : OfInterval ≡ OfNow x → ⊥
              not_now e = cc
          asked_same (suc d) q some = others (suc d) q some (λ is. let h = is.0 in omega (arith, h))

      left_value : value_of of.left (with_now x w views) ≡ value_of of.left (views_at s W class m)
      left_value = value_same of.left left_same (with_same of.left (once_left s facts entry of)
          (λ y asks z reads same. waits (class_of_name s y) (inr (own, y, of.found, inl asks, refl)) (subst (SiteReads s (class_of_name s y)) same reads))
          (λ none d q some. facts.samples i of.left of.right of.clause of.found none (inl (asked_earlier of.left d q some))))

      right_value : value_of of.right (with_now x w views) ≡ value_of of.right (views_at s W class m)
      right_value = value_same of.right right_same (with_same of.right (once_right s facts entry of)
          (λ y asks z reads same. waits (class_of_name s y) (inr (own, y, of.found, inr asks, refl)) (subst (SiteReads s (class_of_name s y)) same reads))
          (λ none d q some. facts.samples i of.left of.right of.clause of.found none (inr (asked_earlier of.right d q some))))

      pub to_here : HasOneValue (with_now x w views) own → solves_at s A m i own x w
      to_here (u, one, two) = (u, sym left_value ∙ one, sym right_value ∙ two)

      pub from_here : solves_at s A m i own x w → HasOneValue (with_now x w views) own
      from_here (u, one, two) = (u, left_value ∙ one, right_value ∙ two)

      -- ---- a solution is of the name's type

      -- the side without the name has a value of the sides' type
      other_shape : (e : Expr) (u : Value) → asked e 0 (OfNow x) ≡ 0 → TypedBut (types_in s.model.names) x (asked e) here → SameBut x (asked e) views here → type_of (types_in s.model.names) e ≡ Some typed.0
          → value_of e (with_now x w views) ≡ Is u → Shape typed.0 u
      other_shape e u none typed_e same is e_is =
          let bare : bare_count x e ≡ 0 = (let count = asked_bare x e in omega (arith, none, count)) in
          let value_here : value_of e here ≡ Is u = sym (unseen none same) ∙ sym (unread x w views e bare) ∙ e_is in
          value_shape typed.0 u (subst (IsAnswerOf typed.0) value_here (value_without (types_in s.model.names) x e typed.0 here none typed_e is))
        where
          unseen : asked e 0 (OfNow x) ≡ 0 → SameBut x (asked e) views here → value_of e views ≡ value_of e here
          unseen none same = same_without x e views here none same

      solution_shape : HasOneValue (with_now x w views) own → Shape name.kind w
      solution_shape (u, one, two) = elim of.solvable.1 [
        | inl reached ↦
            let bare = stands_bare x of.left reached in
            let count_left = asked_bare x of.left in
            let none : asked of.right 0 (OfNow x) ≡ 0 = (let total = few in omega (arith, total, bare, count_left)) in
            shaped (types_in s.model.names) x of.left typed.0 reached left_typed (with_now x w views) u one (other_shape of.right u none typed_right right_same right_typed two) w (own_now x w views) name.kind own_kind
        | inr reached ↦
            let bare = stands_bare x of.right reached in
            let count_right = asked_bare x of.right in
            let none : asked of.left 0 (OfNow x) ≡ 0 = (let total = few in omega (arith, total, bare, count_right)) in
            shaped (types_in s.model.names) x of.right typed.0 reached right_typed (with_now x w views) u two (other_shape of.left u none typed_left left_same left_typed one) w (own_now x w views) name.kind own_kind
      ]
        where
          same_names : of.name ≡ name
          same_names = same_Some of.name name (sym of.name_found ∙ can.name_is)

          own_kind : valued_type (types_in s.model.names x) ≡ Some name.kind
          own_kind = valued_kind s x name can.name_is (λ clock. of.valued (ap (λ n. n.kind) same_names ∙ clock))

    does : (result : Result Value Fail) → Solves x own views result → DoesAs s uses S m row entry (answer_of result)
    does (Ok v) (fits, one, only) = record {
      equation = own;
      name = name;
      can = can;
      only = record {
        typed = kind_by name.kind v (solution_shape v one) fits;
        solves = to_here v one;
        only = λ w typed_w solves. only w (fits_of name.kind w typed_w) (from_here w solves);
      };
    }
    does (Err kind) (none, kind_is) = record {
      entry = entry;
      used = used;
      equation_is = refl;
      equation = own;
      name = name;
      counts = can;
      unsolved = λ v typed_v solves. none v (fits_of name.kind v typed_v) (from_here v solves);
      kind_is = kind_is ∙ ap kind_of beside_same;
    }

pub solves_use : (s : Setting) (uses : List Use) → IsRunnable s → AreUses s uses → (entry : Use) → Contains uses entry → WaitsForNoOwn s entry
    → (S : Assignment) (m : ℕ) (row : Row) → AreValuedBefore s S m → IsTypedRow s row → (equation : Equation) (name : FlatName) → CanUse s (with_row S m row) m entry equation name
    → (views : Views) → ShowsEquation s S m row (class_of_equation s entry.equation) entry.name views equation
    → CanSolve entry.name equation views × ((result : Result Value Fail) → Solves entry.name equation views result → DoesAs s uses S m row entry (answer_of result))
solves_use s uses runs are entry used waits S m row meets typed_row equation name can views shows =
    subst (λ q. CanUse s (with_row S m row) m entry q name → ShowsEquation s S m row (class_of_equation s entry.equation) entry.name views q
    → CanSolve entry.name q views × ((result : Result Value Fail) → Solves entry.name q views result → DoesAs s uses S m row entry (answer_of result)))
    same over_own can shows
  where
    same : Valued (facts_of_use s uses are entry used).left (facts_of_use s uses are entry used).right (facts_of_use s uses are entry used).clause ≡ equation
    same = same_Some (Valued (facts_of_use s uses are entry used).left (facts_of_use s uses are entry used).right (facts_of_use s uses are entry used).clause) equation (sym (facts_of_use s uses are entry used).found ∙ can.equation_is)

    over_own : CanUse s (with_row S m row) m entry (Valued (facts_of_use s uses are entry used).left (facts_of_use s uses are entry used).right (facts_of_use s uses are entry used).clause) name
        → ShowsEquation s S m row (class_of_equation s entry.equation) entry.name views (Valued (facts_of_use s uses are entry used).left (facts_of_use s uses are entry used).right (facts_of_use s uses are entry used).clause)
        → CanSolve entry.name (Valued (facts_of_use s uses are entry used).left (facts_of_use s uses are entry used).right (facts_of_use s uses are entry used).clause) views
        × ((result : Result Value Fail) → Solves entry.name (Valued (facts_of_use s uses are entry used).left (facts_of_use s uses are entry used).right (facts_of_use s uses are entry used).clause) views result → DoesAs s uses S m row entry (answer_of result))
    over_own can shows = (
      record { made = made s uses runs are entry used waits; present = present s uses runs are entry used waits S m row meets typed_row name can views shows.0 shows.1 },
      does s uses runs are entry used waits S m row meets typed_row name can views shows.0 shows.1,
    )
