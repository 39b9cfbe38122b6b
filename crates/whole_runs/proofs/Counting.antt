-- In a free order the uses of lines count, each where those before it have values.
use Rattle.std.proofs.Common.{◌≡◌, ◌≢◌, refl, ap, sym, subst, ◌∙◌, ℕ, ◌<◌, ◌==◌, Bool, true, false, if◌then◌else◌, List, [], ◌∷◌, ◌++◌, Option, Some, None, IsSome, slice_get, Contains, ◌⊎◌, inl, inr}
use Rattle.std.proofs.lemmas.Bool.{false≢true, eqb-true, eq-eqb}
use Rattle.std.proofs.lemmas.Option.{same_Some, none-some}
use Rattle.sync_values.specs.declared.value.Value.{Value}
use Rattle.flat_model.specs.declared.clock.Clock.{Clock}
use Rattle.flat_model.specs.declared.clock.Clock.TheVariants.{Periodic, Event}
use Rattle.flat_model.specs.declared.equation.Equation.{Equation}
use Rattle.flat_model.specs.declared.equation.Equation.TheVariants.{Valued}
use Rattle.flat_model.specs.declared.expression.Expr.{Expr}
use Rattle.flat_model.specs.Assignment.{Assignment, IsOfKind}
use Rattle.flat_model.specs.Clocks.{AreOnOneAxis}
use Rattle.flat_model.specs.Given.{Row, with_row, HasLastValue, HasReadIn, CanUse}
use Rattle.flat_model.specs.Occurrences.{converted_count}
use Rattle.flat_model.specs.Runnable.{IsSideClocked}
use Rattle.flat_model.specs.Setting.{Setting, class_of_name, class_of_equation, clock_of, partition_of, class_ticks, name_ticks}
use Rattle.flat_model.specs.Uses.{Use, ClassesMeet, Reads, ReadsIn, EquationReads, SiteReads}
use Rattle.moment_theory.specs.Free.{IsReachedBy, IsFree, IsOrdered}
use Rattle.moment_theory.specs.Taken.{put, Gives}
use Rattle.moment_theory.proofs.Facts.{UseFacts, facts_of_use, class_of_use}
use Rattle.moment_theory.proofs.FromRunnable.{facts_of}
use Rattle.moment_theory.proofs.Meeting.{IsValued, IsSideClassed}
use Rattle.moment_theory.proofs.Ready.{whole_order}
use Rattle.moment_theory.proofs.Rows.{row_now, known_axis}
use Rattle.moment_theory.proofs.Unknown.{known_where_ticks}
use Rattle.side_theory.specs.Counted.{Begins}
use Rattle.side_theory.specs.Typed.{IsTypedRow}
use Rattle.side_theory.proofs.Counting.{reached_split, free_behind}
use Rattle.side_theory.proofs.Showing.{ticks_same}
use Rattle.whole_runs.specs.Lines.{IsCounted}

no_axis : (c : Option Clock) → AreOnOneAxis c None → ⊥
no_axis None axis = axis
no_axis (Some (Periodic period start)) axis = axis
no_axis (Some (Event site factor shift)) axis = axis

module _ (s : Setting) (uses before later : List Use) (entry : Use) (ordered : IsOrdered s uses (before ++ (entry ∷ later))) (class : ℕ) (used : Contains uses entry) (class_is : class_of_equation s entry.equation ≡ Some class)
    (S : Assignment) (m : ℕ) (row : Row) (begins : Begins s S m row class before) where
  abbrev A : Assignment
  A = with_row S m row

  pub use_is : UseFacts s entry
  use_is = facts_of_use s uses ordered.uses_are.uses_are entry used

  abbrev own : Equation
  own = Valued use_is.left use_is.right use_is.clause

  free : IsFree s entry later
  free = (free_behind s before (entry ∷ later) ordered.free).0

  clocked : IsSideClocked s entry.equation use_is.left × IsSideClocked s entry.equation use_is.right
  clocked = ordered.runs.equations entry.equation own use_is.found

  classed : IsSideClassed s entry.equation use_is.left × IsSideClassed s entry.equation use_is.right
  classed = (facts_of s ordered.runs).classed.sides entry.equation use_is.left use_is.right use_is.clause use_is.found

  pub name_class : class_of_name s entry.name ≡ Some class
  name_class = class_of_use s (facts_of s ordered.runs) entry use_is ∙ class_is

  pub sites : (c : Option ℕ) (y : ℕ) → SiteReads s c y → y ≢ entry.name
  sites c y (site, factor, shift, condition, clock, found, some) is_own =
      none-some class (sym (((facts_of s ordered.runs).unclocked site condition found).names y some) ∙ ap (class_of_name s) is_own ∙ name_class)

  pub ticks : class_ticks s A (class_of_equation s entry.equation) m ≡ true
  ticks = ap (λ c. class_ticks s A c m) class_is ∙ begins.ticks

  -- a clocked name that is read now was reached before, or it is the use's own
  reached : (y : ℕ) → IsValued s y → class_of_name s y ≢ None → y ≢ entry.name → Reads s entry.equation y → IsReachedBy y before
  reached y valued has_class other reads = by_order (reached_split y before (entry ∷ later) there)
    where
      no_input : (b : Bool) → valued.name.input ≡ b → b ≡ false
      no_input true input = absurd (has_class (ordered.runs.inputs y (valued.name, valued.found, input)))
      no_input false input = refl

      there : IsReachedBy y (before ++ (entry ∷ later))
      there = (whole_order s uses (before ++ (entry ∷ later)) ordered.uses_are ordered.same).names y valued.name valued.found valued.valued (no_input valued.name.input refl)

      by_order : IsReachedBy y before ⊎ IsReachedBy y (entry ∷ later) → IsReachedBy y before
      by_order (inl h) = h
      by_order (inr (inl same)) = absurd (other same)
      by_order (inr (inr h)) = absurd (free.reads y reads h)

  has_value : (y : ℕ) → IsSome (row y) → IsSome (A y m)
  has_value y some = subst IsSome (sym (row_now S m row y)) some

  own_partition : (y : ℕ) → class_of_name s y ≡ class_of_equation s entry.equation → partition_of s (class_of_name s y) ≡ partition_of s (Some class)
  own_partition y same = ap (partition_of s) (same ∙ class_is)

  has_class : (y : ℕ) → class_of_name s y ≡ class_of_equation s entry.equation → class_of_name s y ≢ None
  has_class y same none = none-some class (sym none ∙ same ∙ class_is)

  side_has : (e : Expr) → IsSideClocked s entry.equation e → IsSideClassed s entry.equation e → ((y : ℕ) → ReadsIn s entry.equation e y → EquationReads s entry.equation own y) → (y : ℕ) → y ≢ entry.name → HasReadIn s A m entry.equation e y
  side_has e cut of part y other = record {
    bare = λ some.
        let (valued, same) = of.bare y some in
        has_value y (begins.all y (reached y valued (has_class y same) other (own, use_is.found, part y (inl some))) (own_partition y same) (ap (λ c. class_ticks s A c m) same ∙ ticks));
    held = λ some. absurd (none-some class (sym (cut.held y some).1 ∙ class_is));
    converted = λ some meet. by_tick some meet (name_ticks s A y m) refl;
  }
    where
      by_tick : 0 < converted_count y e → (meet : ClassesMeet s (class_of_equation s entry.equation) (class_of_name s y)) → (b : Bool) → name_ticks s A y m ≡ b → HasLastValue s A m y
      by_tick some meet false rests = inl (known_axis s A m (clock_of s (class_of_equation s entry.equation)) (clock_of s (class_of_name s y)) (cut.converted y some).axis (known_where_ticks s A m (class_of_equation s entry.equation) ticks), rests)
      by_tick some meet true now =
          let convertible = cut.converted y some in
          let some_class : class_of_name s y ≢ None = λ none. no_axis (clock_of s (class_of_equation s entry.equation)) (subst (λ c. AreOnOneAxis (clock_of s (class_of_equation s entry.equation)) (clock_of s c)) none convertible.axis) in
          inr (has_value y (begins.all y (reached y (of.last y (inr some)) some_class other (own, use_is.found, part y (inr (inr (some, meet))))) (convertible.partition ∙ ap (partition_of s) class_is) now))

  pub can_use : CanUse s A m entry own use_is.name
  can_use = record {
    equation_is = use_is.found;
    name_is = use_is.name_found;
    ticks = (known_where_ticks s A m (class_of_equation s entry.equation) ticks, ticks);
    reads = λ y other. (side_has use_is.left clocked.0 classed.0 (λ z reads. inl reads) y other, side_has use_is.right clocked.1 classed.1 (λ z reads. inr reads) y other);
  }

  pub counted : IsCounted s S m row entry
  counted = record { meets = begins.meets; typed = begins.typed; equation = own; name = use_is.name; can = can_use }

  -- with the value of this use the next one begins
  module _ (v : Value) (gives : Gives s S m row entry v) where
    own_typed : IsOfKind use_is.name.kind v
    own_typed = subst (λ n. IsOfKind n.kind v) (same_Some gives.name use_is.name (sym gives.can.name_is ∙ use_is.name_found)) gives.only.typed

    typed_put : IsTypedRow s (put row entry.name v)
    typed_put y name w found has = by_name (y == entry.name) refl has
      where
        same_some : (a b : Value) → Some a ≡ Some b → a ≡ b
        same_some a b e = cc

        by_name : (b : Bool) → y == entry.name ≡ b → (if b then Some v else row y) ≡ Some w → IsOfKind name.kind w
        by_name true same is_w =
            let y_is : y ≡ entry.name = eqb-true y entry.name same in
            let name_same : use_is.name ≡ name = same_Some use_is.name name (sym use_is.name_found ∙ ap (slice_get s.model.names) (sym y_is) ∙ found) in
            subst (λ n. IsOfKind n.kind w) name_same (subst (IsOfKind use_is.name.kind) (same_some v w is_w) own_typed)
        by_name false same is_w = begins.typed y name w found is_w

    abbrev B : Assignment
    B = with_row S m (put row entry.name v)

    pub still : (c : Option ℕ) → class_ticks s A c m ≡ class_ticks s B c m
    still = ticks_same s (facts_of s ordered.runs).unclocked S m row class entry.name v begins.ticks name_class sites

    put_some : (y : ℕ) → (y ≡ entry.name) ⊎ IsSome (row y) → IsSome (put row entry.name v y)
    put_some y has = by_name (y == entry.name) refl has
      where
        by_name : (b : Bool) → y == entry.name ≡ b → (y ≡ entry.name) ⊎ IsSome (row y) → IsSome (if b then Some v else row y)
        by_name true same has = refl
        by_name false same (inr some) = some
        by_name false same (inl is) = absurd (false≢true (sym same ∙ eq-eqb y entry.name is))

    pub begins_next : (other : ℕ) → partition_of s (Some other) ≡ partition_of s (Some class) → class_ticks s A (Some other) m ≡ true → Begins s S m (put row entry.name v) other (before ++ (entry ∷ []))
    begins_next other partition other_ticks = record {
      meets = begins.meets;
      typed = typed_put;
      all = λ y reached same now. put_some y (by_order y (reached_split y before (entry ∷ []) reached) (same ∙ partition) (still (class_of_name s y) ∙ now));
      ticks = sym (still (Some other)) ∙ other_ticks;
    }
      where
        by_order : (y : ℕ) → IsReachedBy y before ⊎ IsReachedBy y (entry ∷ []) → partition_of s (class_of_name s y) ≡ partition_of s (Some class) → name_ticks s A y m ≡ true → (y ≡ entry.name) ⊎ IsSome (row y)
        by_order y (inl h) same now = inr (begins.all y h same now)
        by_order y (inr (inl is)) same now = inl is
        by_order y (inr (inr h)) same now = absurd h
