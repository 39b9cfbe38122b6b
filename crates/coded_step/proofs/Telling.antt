-- The side that is solved for a use's name expresses the use.
use Rattle.std.proofs.Common.{◌≡◌, refl, ap, sym, subst, ◌∙◌, ℕ, ◌<◌, List, Some, slice_get, Contains, Ok, ◌⊎◌, inl, inr, arith}
use Rattle.std.specs.Prelude.{option_map}
use Rattle.std.proofs.lemmas.Option.{same_Some, none-some}
use Rattle.sync_values.specs.declared.value.Value.{Value}
use Rattle.sync_values.specs.declared.value.Value.TheVariants as value
use Rattle.flat_model.specs.declared.equation.Equation.{Equation}
use Rattle.flat_model.specs.declared.equation.Equation.TheVariants.{Valued}
use Rattle.flat_model.specs.declared.expression.Expr.{Expr}
use Rattle.flat_model.specs.declared.model.NameKind.{NameKind}
use Rattle.flat_model.specs.declared.model.NameKind.TheVariants as kind
use Rattle.flat_model.specs.Asks.{Asking, OfNow, OfLast, OfPrevious, OfFirst, OfInterval, AsksFor, asked}
use Rattle.flat_model.specs.Assignment.{Assignment, IsOfKind}
use Rattle.flat_model.specs.Given.{Row, with_row, CanUse}
use Rattle.flat_model.specs.Meaning.{value_of}
use Rattle.flat_model.specs.Occurrences.{bare_count}
use Rattle.flat_model.specs.Operators.{Answer, Is, Fails, Absent}
use Rattle.flat_model.specs.Runnable.{IsRunnable, IsSideClocked}
use Rattle.flat_model.specs.Setting.{Setting, class_of_equation, views_at}
use Rattle.flat_model.specs.Typing.{types_in, valued_type, type_of}
use Rattle.flat_model.specs.Uses.{Use, AreUses}
use Rattle.flat_model.specs.Views.{Views}
use Rattle.flat_model.specs.WholeTyping.{IsTyped}
use Rattle.flat_model.proofs.Links.{asked_bare}
use Rattle.flat_model.proofs.Typed.{IsAnswerOf, IsTypedAt, AreTypedAt, typed_value}
use Rattle.flat_model.proofs.WholeTypes.{whole_typed}
use Rattle.eq_orient.specs.Solving.{Fits, AreWellMade, Solves}
use Rattle.moment_theory.specs.Sound.{WaitsForNoOwn}
use Rattle.moment_theory.specs.Taken.{Gives}
use Rattle.moment_theory.proofs.Facts.{Facts, UseFacts, facts_of_use, class_of_use, once_left, once_right}
use Rattle.moment_theory.proofs.FromRunnable.{all_at, facts_of}
use Rattle.part_layout.specs.LayoutLaws.{IsTypedLine}
use Rattle.side_theory.specs.Sides.{IsAnswerOfKind}
use Rattle.side_theory.specs.Stretches.{IsSameAt}
use Rattle.solved_use.specs.Solving.{ShowsEquation}
use Rattle.solved_use.proofs.Beside.{TypedBut, value_without}
use Rattle.solved_use.proofs.Solving.{same_formed, solves_use}
use Rattle.solved_use.proofs.Viewing.{typed_but}
use Rattle.step_code.specs.Lines.{Line}
use Rattle.undone_side.specs.Undone.{IsFitting, IsSolvedSide, IsSideKnown}
use Rattle.undone_side.proofs.Kept.{side_known}
use Rattle.undone_side.proofs.Values.{solved}
use Rattle.whole_runs.specs.Lines.{IsCounted, Expresses}

same_self : (views : Views) (d : ℕ) (q : Asking) → IsSameAt views views d q
same_self views d (OfNow y) = refl
same_self views d (OfLast y) = refl
same_self views d (OfPrevious y) = refl
same_self views d OfFirst = refl
same_self views d OfInterval = refl

fits_of : (type : NameKind) (v : Value) → IsOfKind type v → Fits v
fits_of kind.Integer (value.Int z) h = h
fits_of kind.Integer (value.Bool b) h = absurd h
fits_of kind.Boolean (value.Int z) h = absurd h
fits_of kind.Boolean (value.Bool b) h = tt
fits_of kind.Clock (value.Int z) h = absurd h
fits_of kind.Clock (value.Bool b) h = absurd h

same_answer : (type : NameKind) (a : Answer) → IsAnswerOf type a → IsAnswerOfKind type a
same_answer type (Is v) h = h
same_answer type (Fails reason) h = h
same_answer type Absent h = h

same_type : (k type : NameKind) → valued_type (Some k) ≡ Some type → type ≡ k
same_type kind.Integer type e = sym (same_Some kind.Integer type e)
same_type kind.Boolean type e = sym (same_Some kind.Boolean type e)
same_type kind.Clock type e = absurd (none-some type e)

module _ (s : Setting) (uses : List Use) (runs : IsRunnable s) (are : AreUses s uses) (entry : Use) (used : Contains uses entry) where
  abbrev x : ℕ
  x = entry.name

  abbrev i : ℕ
  i = entry.equation

  facts : Facts s
  facts = facts_of s runs

  of : UseFacts s entry
  of = facts_of_use s uses are entry used

  abbrev own : Equation
  own = Valued of.left of.right of.clause

  typed : IsTyped (types_in s.model.names) own
  typed = all_at (IsTyped (types_in s.model.names)) s.model.equations i own runs.model.typed.equations of.found

  left_typed : type_of (types_in s.model.names) of.left ≡ Some typed.0
  left_typed = whole_typed (types_in s.model.names) of.left typed.0 typed.1

  right_typed : type_of (types_in s.model.names) of.right ≡ Some typed.0
  right_typed = whole_typed (types_in s.model.names) of.right typed.0 typed.2

  clocked : IsSideClocked s i of.left × IsSideClocked s i of.right
  clocked = runs.equations i own of.found

  made : AreWellMade own
  made =
      let formed = facts.formed i of.left of.right of.clause of.found in
      ((sym (same_formed of.left) ∙ formed.0, clocked.0.plain), (sym (same_formed of.right) ∙ formed.1, clocked.1.plain))

  known : (side : Expr) → IsSolvedSide x own side → IsSideKnown (types_in s.model.names) x of.left of.right side
  known side solves = side_known (types_in s.model.names) x of.left of.right of.clause side solves made typed.0 left_typed right_typed

  solves_own : (equation : Equation) (side : Expr) → slice_get s.model.equations i ≡ Some equation → IsSolvedSide x equation side → IsSolvedSide x own side
  solves_own equation side found solves = subst (λ q. IsSolvedSide x q side) (same_Some equation own (sym found ∙ of.found)) solves

  -- its line is typed
  pub typed_line : (equation : Equation) (l : Line) → slice_get s.model.equations i ≡ Some equation → IsSolvedSide x equation l.side → l.name ≡ x → IsTypedLine s l
  typed_line equation l found solves name =
      let is = known l.side (solves_own equation l.side found solves) in
      record { type = is.type; side = is.side_type; name = ap (λ y. valued_type (types_in s.model.names y)) name ∙ is.name_type; plain = is.plain }

  module _ (class : ℕ) (class_is : class_of_equation s i ≡ Some class) where
    -- no tick that the equation asks for waits for a clocked name
    waits : WaitsForNoOwn s entry
    waits c asks (site, factor, shift, condition, clock, found, some) =
        none-some class (sym ((facts.unclocked site condition found).names x some) ∙ class_of_use s facts entry of ∙ class_is)

    module _ (side : Expr) (solves : IsSolvedSide x own side) (S : Assignment) (m : ℕ) (row : Row) (counted : IsCounted s S m row entry) where
      abbrev here : Views
      here = views_at s (with_row S m row) (class_of_equation s i) m

      same : counted.equation ≡ own
      same = same_Some counted.equation own (sym counted.can.equation_is ∙ of.found)

      can : CanUse s (with_row S m row) m entry own counted.name
      can = subst (λ q. CanUse s (with_row S m row) m entry q counted.name) same counted.can

      typed_left : TypedBut (types_in s.model.names) x (asked of.left) here
      typed_left = typed_but s runs S m row counted.meets counted.typed i x of.left clocked.0 can.ticks (λ y other. (can.reads y other).0) (once_left s facts entry of)

      typed_right : TypedBut (types_in s.model.names) x (asked of.right) here
      typed_right = typed_but s runs S m row counted.meets counted.typed i x of.right clocked.1 can.ticks (λ y other. (can.reads y other).1) (once_right s facts entry of)

      fitting : (e : Expr) → TypedBut (types_in s.model.names) x (asked e) here → type_of (types_in s.model.names) e ≡ Some typed.0 → bare_count x e ≡ 0 → IsFitting here e
      fitting e typed_e type none v v_is =
          fits_of typed.0 v (subst (IsAnswerOf typed.0) v_is (value_without (types_in s.model.names) x e typed.0 here (let count = asked_bare x e in omega (arith, count, none)) typed_e type))

      shows : ShowsEquation s S m row (class_of_equation s i) x here own
      shows = (λ d q asks other. same_self here d q, λ d q asks other. same_self here d q)

      solution : (v : Value) → value_of side here ≡ Is v → Solves x own here (Ok v)
      solution v v_is = solved x of.left of.right of.clause side solves made here (fitting of.left typed_left left_typed) (fitting of.right typed_right right_typed) v v_is

      gives : (v : Value) → value_of side here ≡ Is v → Gives s S m row entry v
      gives v v_is = (solves_use s uses runs are entry used waits S m row counted.meets counted.typed own counted.name can here shows).1 (Ok v) (solution v v_is)

      typed_at : AreTypedAt (types_in s.model.names) (asked side) here
      typed_at d q some = by_side ((known side solves).asks d q some)
        where
          off : (d ≡ 0) × (q ≡ OfNow x) → ⊥
          off (at, is) =
              let none = (known side solves).other in
              let h : 0 < asked side 0 (OfNow x) = subst (λ n. 0 < asked side n (OfNow x)) at (subst (λ a. 0 < asked side d a) is some) in
              omega (arith, none, h)

          by_side : AsksFor of.left d q ⊎ AsksFor of.right d q → IsTypedAt (types_in s.model.names) here d q
          by_side (inl asks) = typed_left d q asks off
          by_side (inr asks) = typed_right d q asks off

      answers : IsAnswerOfKind counted.name.kind (value_of side here)
      answers =
          let is = known side solves in
          let type_is : is.type ≡ counted.name.kind = same_type counted.name.kind is.type (sym (ap (λ o. valued_type (option_map (λ n. n.kind) o)) can.name_is) ∙ is.name_type) in
          subst (λ k. IsAnswerOfKind k (value_of side here)) type_is (same_answer is.type (value_of side here) (typed_value (types_in s.model.names) side is.type here typed_at is.side_type))

    own_tells : (side : Expr) → IsSolvedSide x own side → Expresses s entry side class
    own_tells side solves = record {
      class_is = class_is;
      answers = λ S m row counted. subst (λ c. IsAnswerOfKind counted.name.kind (value_of side (views_at s (with_row S m row) c m))) class_is (answers side solves S m row counted);
      gives = λ S m row counted v v_is. gives side solves S m row counted v (ap (λ c. value_of side (views_at s (with_row S m row) c m)) class_is ∙ v_is);
    }

    pub tells : (equation : Equation) (side : Expr) → slice_get s.model.equations i ≡ Some equation → IsSolvedSide x equation side → Expresses s entry side class
    tells equation side found solves = own_tells side (solves_own equation side found solves)
