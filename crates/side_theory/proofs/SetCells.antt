-- What the cells of a part hold after a run of a stretch.
use Rattle.std.proofs.Common.{◌≡◌, refl, ap, ap₂, sym, subst, ◌∙◌, ℕ, zero, suc, ◌-◌, ◌==◌, Bool, true, false, if◌then◌else◌, ℤ, List, [], ◌∷◌, ◌++◌, Option, Some, is_none, inl, inr, arith}
use Rattle.std.proofs.lemmas.Bool.{false≢true, eqb-true}
use Rattle.std.proofs.lemmas.Option.{none-some}
use Rattle.sync_values.specs.declared.value.Value.{Value}
use Rattle.sync_values.specs.declared.value.Value.TheVariants as value
use Rattle.flat_model.specs.Assignment.{Assignment, tick_before, value_at_tick, previous_value}
use Rattle.flat_model.specs.Given.{Row, with_row}
use Rattle.flat_model.specs.Setting.{Setting, class_of_name, start_of, class_ticks, name_ticks}
use Rattle.flat_model.specs.Uses.{Use, SiteReads}
use Rattle.flat_model.proofs.Agreement.{SameBefore}
use Rattle.flat_model.proofs.Sites.{class_ticks_by_site}
use Rattle.moment_theory.specs.Free.{IsReachedBy, IsOrdered}
use Rattle.moment_theory.specs.Taken.{AreTaken}
use Rattle.moment_theory.proofs.FromRunnable.{facts_of}
use Rattle.moment_theory.proofs.Rows.{row_now, row_before, unclocked_at_first}
use Rattle.moment_theory.proofs.Unknown.{site_same}
use Rattle.step_code.specs.declared.machine.Op.TheVariants.{Guard}
use Rattle.step_code.specs.Machine.{result_of}
use Rattle.step_code.specs.Code.{Cells}
use Rattle.step_code.specs.Lines.{Line, AreApart, IsNoCell, IsKeptBut}
use Rattle.side_theory.specs.Counted.{Begins}
use Rattle.side_theory.specs.Kept.{HasWord, IsSet, IsClockSet}
use Rattle.side_theory.specs.Runs.{AreCelled, AllTaken}
use Rattle.side_theory.specs.SetOn.{AreNoClockCells}
use Rattle.side_theory.specs.Stretches.{AreLinesOf}
use Rattle.side_theory.proofs.Keeping.{previous_is}
use Rattle.side_theory.proofs.Side.{side_facts}

-- what no use reaches does not change
pub taken_other : (s : Setting) (S : Assignment) (m : ℕ) (entries : List Use) (row last : Row) → AreTaken s S m entries row last → (y : ℕ) → (IsReachedBy y entries → ⊥) → last y ≡ row y
taken_other s S m [] row last taken y none = taken y
taken_other s S m (entry ∷ entries) row last (next, inl (v, gives, is), rest) y none =
    taken_other s S m entries next last rest y (λ reached. none (inr reached)) ∙ is y ∙ not_put (y == entry.name) refl
  where
    not_put : (b : Bool) → y == entry.name ≡ b → (if b then Some v else row y) ≡ row y
    not_put true same = absurd (none (inl (eqb-true y entry.name same)))
    not_put false same = refl
taken_other s S m (entry ∷ entries) row last (next, inr (not, is), rest) y none = taken_other s S m entries next last rest y (λ reached. none (inr reached)) ∙ is y

kept_word : (t : ℕ) (ls : List Line) (old new : List ℤ) (c : ℕ) (v : Value) → IsKeptBut t ls old new → IsNoCell c ls → HasWord t old c v → HasWord t new c v
kept_word t ls old new c v kept none h = (h.0, kept c h.0 none ∙ h.1)

module _ (s : Setting) (uses before entries after : List Use) (ordered : IsOrdered s uses (before ++ (entries ++ after))) (class : ℕ) where
  -- the names of the uses are of the class
  pub own_class : (some : List Use) (ls : List Line) → AreLinesOf s uses class some ls → (y : ℕ) → IsReachedBy y some → class_of_name s y ≡ Some class
  own_class [] ls of y reached = absurd reached
  own_class (entry ∷ some) [] of y reached = absurd of
  own_class (entry ∷ some) (l ∷ ls) of y (inl is) = ap (class_of_name s) is ∙ (side_facts s uses ordered.runs ordered.uses_are.uses_are entry l.side class of.0.0 of.0.2).clocked
  own_class (entry ∷ some) (l ∷ ls) of y (inr reached) = own_class some ls of.1 y reached

  module _ (ls : List Line) (of : AreLinesOf s uses class entries ls) (at : Cells) (t : ℕ) (apart : AreApart at) (celled : AreCelled at t ls) (S : Assignment) (m : ℕ) (row : Row) (begins : Begins s S m row class before)
      (old new : List ℤ) (set : IsSet s S m row at t old) (kept : IsKeptBut t ls old new) where
    module _ (all : AllTaken s uses before entries S m row class at t new) where
      abbrev A : Assignment
      A = with_row S m row

      abbrev B : Assignment
      B = with_row S m all.last

      same : SameBefore A B m
      same y k lt = row_before S m row y k lt ∙ sym (row_before S m all.last y k lt)

      site_value : (c : Option ℕ) (y : ℕ) → SiteReads s c y → A y m ≡ B y m
      site_value c y (site, factor, shift, condition, clock, found, some) =
          row_now S m row y ∙ sym (taken_other s S m entries row all.last all.taken y (λ reached. none-some class (sym (((facts_of s ordered.runs).unclocked site condition found).names y some) ∙ own_class entries ls of y reached)))
          ∙ sym (row_now S m all.last y)

      pub ticks_same : (c : Option ℕ) → class_ticks s A c m ≡ class_ticks s B c m
      ticks_same c = class_ticks_by_site s A B c m same (site_same s A B m c (facts_of s ordered.runs).unclocked (site_value c))

      ticks : class_ticks s B (Some class) m ≡ true
      ticks = sym (ticks_same (Some class)) ∙ begins.ticks

      not_first : {C : Type 0} → m ≡ 0 → C
      not_first at_0 = absurd (none-some class (sym (unclocked_at_first s B (Some class) (subst (λ k. class_ticks s B (Some class) k ≡ true) at_0 ticks))))

      here : m ≡ m - 0
      here = omega arith

      -- the cell of a name that rests is no line's
      resting : (some : List Use) (lines : List Line) → AreLinesOf s uses class some lines → AreCelled at t lines → (x c : ℕ) → (at 0).now x ≡ Some c → name_ticks s B x m ≡ false → IsNoCell c lines
      resting some [] of celled x c is rests = tt
      resting [] (l ∷ lines) of celled x c is rests = absurd of
      resting (entry ∷ some) (l ∷ lines) of celled x c is rests = (
        λ own.
            let name : x ≡ l.name = apart.now x l.name c is (celled.0.cell ∙ ap Some (sym own)) in
            let clocked : class_of_name s x ≡ Some class = own_class (entry ∷ some) (l ∷ lines) of x (inl (name ∙ of.0.1)) in
            false≢true (sym rests ∙ ap (λ k. class_ticks s B k m) clocked ∙ ticks),
        resting some lines of.1 celled.1 x c is rests,
      )

      pub set_on : IsSet s S m all.last at t new
      set_on = record {
        now = λ x c v is has. all.holds.now 0 x c v is (subst (λ k. B x k ≡ Some v) here (row_now S m all.last x ∙ has));
        kept = λ x c v is rests has. kept_word t ls old new c v kept (resting entries ls of celled x c is rests) (set.kept x c v is (ticks_same (class_of_name s x) ∙ rests) has);
        previous = λ x c v is has. all.holds.previous 0 x c v is (subst (λ k. previous_value (name_ticks s B x) (B x) (start_of s x) k ≡ Some v) here (previous_is s S m all.last at t new x ∙ has));
        left = λ x c k v is at_k has.
            let back : k ≡ m - 1 = omega (arith, at_k) in
            all.holds.now 1 x c v is (subst (λ n. B x n ≡ Some v) back (row_before S m all.last x k (omega (arith, at_k)) ∙ has));
        left_last = λ x c v is has. left_word x c v is has m refl;
        const = λ k c v is. all.holds.const k v c is;
      }
        where
          left_word : (x c : ℕ) (v : Value) → (at 1).last x ≡ Some c → previous_value (name_ticks s S x) (S x) (start_of s x) m ≡ Some v → (n : ℕ) → m ≡ n → HasWord t new c v
          left_word x c v is has zero at_0 = not_first at_0
          left_word x c v is has (suc k) at_k =
              let back : m ≡ suc (m - 1) = omega (arith, at_k) in
              all.holds.last 1 x c v is (subst (λ n. value_at_tick (B x) (start_of s x) (tick_before (name_ticks s B x) n) ≡ Some v) back (previous_is s S m all.last at t new x ∙ has))

    pub clock_on : (other : ℕ) (there : Cells) → AreNoClockCells there ls → IsClockSet s S m other there t old → IsClockSet s S m other there t new
    clock_on other there none clock = record {
      first = λ c is. kept_word t ls old new c (value.Bool (is_none (tick_before (class_ticks s S (Some other)) m))) kept (none.first c is) (clock.first c is);
      interval = λ n c is.
          let h = clock.interval n c is in
          let cells = none.interval n c is in
          (h.0, h.1, ap₂ (λ a b. result_of Guard a b) (kept ((there 0).unfit n) h.1 cells.1) (kept c h.0 cells.0) ∙ h.2);
    }
