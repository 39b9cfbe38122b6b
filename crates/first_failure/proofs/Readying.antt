-- A use counts exactly where its class ticks and all that it reads can be read.
use Rattle.std.proofs.Common.{◌≡◌, ◌≢◌, refl, ap, sym, subst, ◌∙◌, ℕ, ◌<◌, Bool, true, false, List, Some, IsSome, Contains, inl, inr, arith}
use Rattle.std.proofs.lemmas.Bool.{false≢true}
use Rattle.std.proofs.lemmas.Option.{same_Some, none-some}
use Rattle.flat_model.specs.declared.equation.Equation.{Equation}
use Rattle.flat_model.specs.declared.expression.Expr.{Expr}
use Rattle.flat_model.specs.declared.model.FlatName.{FlatName}
use Rattle.flat_model.specs.Assignment.{Assignment}
use Rattle.flat_model.specs.Given.{Row, with_row, HasLastValue, HasReadIn, CanUse}
use Rattle.flat_model.specs.Occurrences.{converted_count}
use Rattle.flat_model.specs.Runnable.{IsRunnable, IsSideClocked}
use Rattle.flat_model.specs.Setting.{Setting, class_of_name, class_of_equation, clock_of, class_ticks}
use Rattle.flat_model.specs.Uses.{Use, AreUses, ReadsIn, EquationReads}
use Rattle.moment_theory.proofs.Facts.{UseFacts, facts_of_use}
use Rattle.moment_theory.proofs.FromRunnable.{facts_of}
use Rattle.moment_theory.proofs.Once.{one_use}
use Rattle.moment_theory.proofs.Rows.{row_now, known_axis}
use Rattle.moment_theory.proofs.Unknown.{known_where_ticks}
use Rattle.side_theory.specs.Sides.{sided, IsSideUse, Counts}
use Rattle.side_theory.specs.Typed.{AreValuedBefore, IsTypedRow}
use Rattle.side_theory.proofs.Sided.{side_clocked, side_classed, all_reads, side_reads, each_read}
use Rattle.side_theory.proofs.Answering.{is_answer}
use Rattle.first_failure.specs.Ready.{IsReadable, HasAllReads, IsLeftOut}

module _ (s : Setting) (uses : List Use) (runs : IsRunnable s) (are : AreUses s uses) (entry : Use) (side : Expr) (class : ℕ) (used : Contains uses entry) (is : IsSideUse s entry side class) (S : Assignment) (m : ℕ) (row : Row) where
  abbrev A : Assignment
  A = with_row S m row

  abbrev own : Equation
  own = sided is.first entry.name side is.clause

  -- ---- where it counts

  module _ (class_ticking : class_ticks s A (Some class) m ≡ true) (all : HasAllReads s S m row entry) where
    ticks : class_ticks s A (class_of_equation s entry.equation) m ≡ true
    ticks = ap (λ c. class_ticks s A c m) is.class_is ∙ class_ticking

    clocked : IsSideClocked s entry.equation side
    clocked = side_clocked s entry.equation is.first entry.name side is.clause (runs.equations entry.equation own is.found)

    has_value : (y : ℕ) → IsSome (row y) → IsSome (A y m)
    has_value y some = subst IsSome (sym (row_now S m row y)) some

    right_has : (y : ℕ) → y ≢ entry.name → HasReadIn s A m entry.equation side y
    right_has y other = record {
      bare = λ some.
          let of = side_classed s (facts_of s runs).classed entry.equation is.first entry.name side is.clause is.found in
          let (valued, same) = of.bare y some in
          of_own same (all y other (own, is.found, side_reads s entry.equation is.first entry.name side is.clause y (inl some)));
      held = λ some. absurd (none-some class (sym (clocked.held y some).1 ∙ is.class_is));
      converted = λ some meet. of_other some (all y other (own, is.found, side_reads s entry.equation is.first entry.name side is.clause y (inr (inr (some, meet)))));
    }
      where
        of_own : class_of_name s y ≡ class_of_equation s entry.equation → IsReadable s S m row y → IsSome (A y m)
        of_own same (inl rests) = absurd (false≢true (sym rests ∙ ap (λ c. class_ticks s A c m) same ∙ ticks))
        of_own same (inr some) = has_value y some

        of_other : 0 < converted_count y side → IsReadable s S m row y → HasLastValue s A m y
        of_other some (inl rests) = inl (known_axis s A m (clock_of s (class_of_equation s entry.equation)) (clock_of s (class_of_name s y)) (clocked.converted y some).axis (known_where_ticks s A m (class_of_equation s entry.equation) ticks), rests)
        of_other some (inr has) = inr (has_value y has)

    use_is : UseFacts s entry
    use_is = facts_of_use s uses are entry used

    can_use : CanUse s A m entry own use_is.name
    can_use = record {
      equation_is = is.found;
      name_is = use_is.name_found;
      ticks = (known_where_ticks s A m (class_of_equation s entry.equation) ticks, ticks);
      reads = all_reads s A m entry.equation is.first entry.name side is.clause right_has;
    }

    pub counts_ready : AreValuedBefore s S m → IsTypedRow s row → Counts s S m row entry side class
    counts_ready meets typed = record {
      equation = own;
      name = use_is.name;
      can = can_use;
      typed = is_answer s uses runs are entry side class used is S m row meets typed own use_is.name can_use;
    }

  -- ---- where it is left out

  row_some : (y : ℕ) → IsSome (A y m) → IsSome (row y)
  row_some y some = subst IsSome (row_now S m row y) some

  last_readable : (y : ℕ) → HasLastValue s A m y → IsReadable s S m row y
  last_readable y (inl (known, rests)) = inl rests
  last_readable y (inr some) = inr (row_some y some)

  side_readable : (e : Expr) (y : ℕ) → HasReadIn s A m entry.equation e y → ReadsIn s entry.equation e y → IsReadable s S m row y
  side_readable e y has (inl some) = inr (row_some y (has.bare some))
  side_readable e y has (inr (inl some)) = last_readable y (has.held some)
  side_readable e y has (inr (inr (some, meet))) = last_readable y (has.converted some meet)

  can_ticks : (equation : Equation) (name : FlatName) → CanUse s A m entry equation name → class_ticks s A (Some class) m ≡ true
  can_ticks equation name can = ap (λ c. class_ticks s A c m) (sym is.class_is) ∙ can.ticks.1

  can_reads : (equation : Equation) (name : FlatName) → CanUse s A m entry equation name → HasAllReads s S m row entry
  can_reads equation name can y other (e, found, reads) =
      each_read s A m entry.equation is.first entry.name side is.clause y (IsReadable s S m row y) other can_own.reads (subst (λ q. EquationReads s entry.equation q y) (same_Some e own (sym found ∙ is.found)) reads)
      (λ part has read. side_readable part y has read)
    where
      can_own : CanUse s A m entry own name
      can_own = subst (λ q. CanUse s A m entry q name) (same_Some equation own (sym can.equation_is ∙ is.found)) can

  left_out : ((equation : Equation) (name : FlatName) → CanUse s A m entry equation name → ⊥) → IsLeftOut s uses S m row entry
  left_out none = record {
    gives = λ v gives. none gives.equation gives.name gives.can;
    fails = λ kind fails. none fails.equation fails.name (subst (λ e. CanUse s A m e fails.equation fails.name) (one_use s uses are fails.entry entry fails.used used fails.equation_is) fails.counts);
  }

  pub out_resting : class_ticks s A (Some class) m ≡ false → IsLeftOut s uses S m row entry
  out_resting rests = left_out (λ equation name can. false≢true (sym rests ∙ can_ticks equation name can))

  pub out_unready : (HasAllReads s S m row entry → ⊥) → IsLeftOut s uses S m row entry
  out_unready not = left_out (λ equation name can. not (can_reads equation name can))
