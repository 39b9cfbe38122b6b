-- A use gives, and fails, alike over rows that agree on what it needs.
use Rattle.std.proofs.Common.{◌≡◌, refl, ap, ◌∙◌, sym, subst, ℕ, ◌+◌, ◌<◌, ◌≤◌, ◌||◌, Bool, true, false, List, [], ◌∷◌, map, Contains, Some, None, slice_get, ◌⊎◌, inl, inr, arith}
use Rattle.std.specs.List.{list_any, list_all}
use Rattle.std.proofs.lemmas.Bool.{false≢true, true≢false, and_parts}
use Rattle.std.proofs.lemmas.Option.{same_Some}
use Rattle.sync_values.specs.declared.value.Value.{Value}
use Rattle.sync_values.specs.declared.value.Fail.{Fail}
use Rattle.flat_model.specs.declared.equation.Equation.{Equation}
use Rattle.flat_model.specs.declared.equation.Equation.TheVariants.{Valued}
use Rattle.flat_model.specs.declared.expression.Expr.{Expr}
use Rattle.flat_model.specs.declared.clock.ClockExpr.{ClockExpr}
use Rattle.flat_model.specs.declared.clock.ClockExpr.TheOpen.{Expr-F}
use Rattle.flat_model.specs.declared.clock.ClockExpr.TheViews.{roll-Expr}
use Rattle.flat_model.specs.declared.clock.ClockExpr.TheFolds.{ind-Expr, fold-roll-Expr, map-Expr}
use Rattle.flat_model.specs.Asks.{OfNow, asked}
use Rattle.flat_model.specs.Assignment.{Assignment}
use Rattle.flat_model.specs.Faults.{EquationFails}
use Rattle.flat_model.specs.Given.{Row, with_row, IsKnownToTick, CanUse, Solves}
use Rattle.flat_model.specs.Meaning.{seen_by}
use Rattle.flat_model.specs.Occurrences.{is_sum, bare_count, held_count, converted_count, reached_in_level, is_reached}
use Rattle.flat_model.specs.Ways.{Way, way_through, way_to, reaches_through, parts_beside, kind_of}
use Rattle.flat_model.specs.Runnable.{IsRunnable}
use Rattle.flat_model.specs.Setting.{Setting, class_of_name, class_of_equation, clock_of, class_ticks, name_ticks, views_at}
use Rattle.flat_model.specs.Uses.{Use, ReadsIn, Reads, AreUses, SiteReads}
use Rattle.flat_model.proofs.Links.{asked_bare, asked_earlier}
use Rattle.flat_model.proofs.Sites.{class_ticks_by_site, meet_where_tick}
use Rattle.moment_theory.specs.Free.{AsksLastIn, AsksClass, IsReachedBy, IsFree, AreFree}
use Rattle.moment_theory.specs.Pieces.{Needs}
use Rattle.moment_theory.specs.Sound.{IsSound, IsClear, WaitsForNoOwn, AgreeOnNeeds, DoesAlike}
use Rattle.moment_theory.specs.Taken.{AreInputs, AreTaken, Gives}
use Rattle.moment_theory.proofs.Alike.{same_but}
use Rattle.moment_theory.proofs.Apart.{gives_same}
use Rattle.moment_theory.proofs.Facts.{Facts, UseFacts, facts_of_use, free_use, free_uses, once_left, once_right}
use Rattle.moment_theory.proofs.FromRunnable.{facts_of}
use Rattle.moment_theory.proofs.GivenByOrder.{inputs_sound}
use Rattle.moment_theory.proofs.Members.{member_contains}
use Rattle.moment_theory.proofs.Once.{one_use}
use Rattle.moment_theory.proofs.Ordered.{IsFreeUse}
use Rattle.moment_theory.proofs.PartsRest.{SameBut, parts_rest}
use Rattle.moment_theory.proofs.Rows.{row_now, row_before, below_same, unclocked_at_first}
use Rattle.moment_theory.proofs.Stands.{stands_bare}
use Rattle.moment_theory.proofs.Taking.{taken_sound}
use Rattle.moment_theory.proofs.Transfer as transfer
use Rattle.moment_theory.proofs.Transfer.{can_up, solved_down}
use Rattle.moment_theory.proofs.Unknown.{site_same}

-- ---- a name that is reached lies on the way

abbrev OnWay : ℕ → Expr → Type 0
OnWay x e = is_reached x e ≡ true → (way_to x e).reaches ≡ true

way_roll : (x : ℕ) (y : Expr-F ClockExpr Expr) → way_to x (roll-Expr y) ≡ way_through x (map-Expr ClockExpr Expr (Unit {0}) Way (λ _. tt) (way_to x) y)
unfolding way_to
way_roll x y = fold-roll-Expr (Unit {0}) Way (λ _. tt) (way_through x) y

reached_roll : (x : ℕ) (y : Expr-F ClockExpr Expr) → is_reached x (roll-Expr y) ≡ reached_in_level x (map-Expr ClockExpr Expr (Unit {0}) Bool (λ _. tt) (is_reached x) y)
unfolding is_reached
reached_roll x y = fold-roll-Expr (Unit {0}) Bool (λ _. tt) (reached_in_level x) y

module _ {A B : Type 0} (x : ℕ) (f : A → ClockExpr) (g : B → Expr) (all : (b : B) → OnWay x (g b)) where
  any_way : (ps : List B) → list_any (λ b. b) (map (is_reached x) (map g ps)) ≡ true → list_any (λ way. way.reaches) (map (way_to x) (map g ps)) ≡ true
  any_way [] e = absurd (false≢true e)
  any_way (p ∷ ps) e = by_test (is_reached x (g p)) refl e (λ h. any_way ps h)
    where
      by_test : (b : Bool) → is_reached x (g p) ≡ b → b || list_any (λ b. b) (map (is_reached x) (map g ps)) ≡ true
          → (list_any (λ b. b) (map (is_reached x) (map g ps)) ≡ true → list_any (λ way. way.reaches) (map (way_to x) (map g ps)) ≡ true)
          → (way_to x (g p)).reaches || list_any (λ way. way.reaches) (map (way_to x) (map g ps)) ≡ true
      by_test true r h rest = let own : (way_to x (g p)).reaches ≡ true = all p r in rw own refl
      by_test false r h rest = or_right ((way_to x (g p)).reaches) (rest h)
        where
          or_right : (b : Bool) {c : Bool} → c ≡ true → b || c ≡ true
          or_right true e = refl
          or_right false e = e

  level_way : (y : Expr-F A B) → reached_in_level x (map-Expr ClockExpr Expr (Unit {0}) Bool (λ _. tt) (is_reached x) (map-Expr A B ClockExpr Expr f g y)) ≡ true
      → reaches_through x (map-Expr ClockExpr Expr (Unit {0}) Way (λ _. tt) (way_to x) (map-Expr A B ClockExpr Expr f g y)) ≡ true
  level_way (Expr-F.Const v) e = absurd (false≢true e)
  level_way (Expr-F.Read n) e = e
  level_way (Expr-F.Chain ps ops) e = any_way ps (and_parts (list_all is_sum ops) (list_any (λ b. b) (map (is_reached x) (map g ps))) e).1
  level_way (Expr-F.Relation rel a b) e = absurd (false≢true e)
  level_way (Expr-F.Neg a) e = all a e
  level_way (Expr-F.Not a) e = all a e
  level_way (Expr-F.If cs qs other) e = absurd (false≢true e)
  level_way (Expr-F.Apply function ps) e = absurd (false≢true e)
  level_way (Expr-F.Previous n) e = absurd (false≢true e)
  level_way (Expr-F.FirstTick n) e = absurd (false≢true e)
  level_way (Expr-F.IntervalTimes u k) e = absurd (false≢true e)
  level_way (Expr-F.Hold n) e = absurd (false≢true e)
  level_way (Expr-F.«Expr::Convert» conversion n) e = absurd (false≢true e)
  level_way (Expr-F.Sample a clock) e = absurd (false≢true e)

  rolled : (y : Expr-F A B) → OnWay x (roll-Expr (map-Expr A B ClockExpr Expr f g y))
  rolled y e = let z = map-Expr A B ClockExpr Expr f g y in ap (λ way. way.reaches) (way_roll x z) ∙ level_way y (sym (reached_roll x z) ∙ e)

pub on_way : (x : ℕ) (e : Expr) → OnWay x e
on_way x = ind-Expr (λ c. Unit {0}) (OnWay x) (λ a y is. tt) (λ a y is. subst (λ z. OnWay x (roll-Expr z)) is (rolled x (λ c. c.0) (λ e. e.0) (λ e. e.1) y))

-- ---- a use over two rows

module _ (s : Setting) (uses : List Use) (runs : IsRunnable s) (are : AreUses s uses) (S : Assignment) (m : ℕ) where
  abbrev facts : Facts s
  facts = facts_of s runs

  module _ (entry : Use) (used : Contains uses entry) (waits : WaitsForNoOwn s entry) (a b : Row) (sound_a : IsSound s (with_row S m a) m) (agree : AgreeOnNeeds s entry a b) where
    abbrev of : UseFacts s entry
    of = facts_of_use s uses are entry used

    abbrev A : Assignment
    A = with_row S m a

    abbrev B : Assignment
    B = with_row S m b

    abbrev i : ℕ
    i = entry.equation

    abbrev x : ℕ
    x = entry.name

    -- alone, the use is free
    alone : IsFree s entry []
    alone = record {
      reads = λ y reads reached. reached;
      sites = λ class y asks reads reached. elim reached [
        | inl is ↦ waits class asks (subst (SiteReads s class) is reads)
        | inr none ↦ none
      ];
      once = λ reached. reached;
    }

    free : IsFreeUse s entry []
    free = free_use s facts entry of [] alone

    needs_of : (y : ℕ) → transfer.Needs s entry [] free y → Needs s entry y
    needs_of y (inl (other, inl reads)) = inl (other, (Valued free.left free.right free.clause, free.equation_is, inl reads))
    needs_of y (inl (other, inr reads)) = inl (other, (Valued free.left free.right free.clause, free.equation_is, inr reads))
    needs_of y (inr (inl reads)) = inr (_, inl refl, reads)
    needs_of y (inr (inr (z, asks, reads))) = inr (_, inr (Valued free.left free.right free.clause, z, free.equation_is, asks, refl), reads)

    same_needs : (y : ℕ) → Needs s entry y → A y m ≡ B y m
    same_needs y needs = row_now S m a y ∙ agree y needs ∙ sym (row_now S m b y)

    up : (y : ℕ) → transfer.Needs s entry [] free y → Rattle.flat_model.proofs.Above.IsBelow (A y m) (B y m)
    up y needs = below_same (A y m) (B y m) (same_needs y (needs_of y needs))

    same_rows : Rattle.flat_model.proofs.Agreement.SameBefore A B m
    same_rows y k lt = row_before S m a y k lt ∙ sym (row_before S m b y k lt)

    alike_gives : (v : Value) → Gives s S m a entry v → Gives s S m b entry v
    alike_gives v gives = gives_same s facts.unclocked S m (Needs s entry) a b entry [] free (λ y n. needs_of y n) agree sound_a v gives

    -- one side of the equation sees the same but for the name
    side_alike : (e : Expr) → IsKnownToTick s A m (class_of_equation s i) → ((y : ℕ) → ReadsIn s i e y → Reads s i y) → ((z : ℕ) → AsksLastIn e z → (q : Equation) × (slice_get s.model.equations i ≡ Some q) × Rattle.moment_theory.specs.Free.AsksLast q z)
        → (AsksLastIn e x → ⊥) → ((z : ℕ) → 0 < converted_count z e → Rattle.flat_model.specs.Clocks.AreOnOneAxis (clock_of s (class_of_equation s i)) (clock_of s (class_of_name s z)))
        → (class_of_equation s i ≡ None → 0 < Rattle.flat_model.specs.Occurrences.sample_count e → ⊥) → SameBut x (asked e) (views_at s A (class_of_equation s i) m) (views_at s B (class_of_equation s i) m)
    side_alike e counts reads asks own axis samples = same_but s A B m same_rows i x (λ at. unclocked_at_first s A (class_of_equation s i) (subst (λ k. class_ticks s A (class_of_equation s i) k ≡ true) at counts.1)) e (record {
      now = λ y other some. same_needs y (inl (other, reads y (inl some)));
      ticks = λ z last. class_ticks_by_site s A B (class_of_name s z) m same_rows (site_same s A B m (class_of_name s z) facts.unclocked (λ y site. same_needs y (inr (_, inr ((asks z last).0, z, (asks z last).1, (asks z last).2, refl), site))));
      last = λ z last ticks. same_needs z (inl ((λ is. own (subst (AsksLastIn e) is last)), reads z (read_last z last ticks)));
      early = λ class d q some. samples class (asked_earlier e d q some);
    })
      where
        read_last : (z : ℕ) → AsksLastIn e z → name_ticks s A z m ≡ true → ReadsIn s i e z
        read_last z (inl held) ticks = inr (inl held)
        read_last z (inr converted) ticks = inr (inr (converted, meet_where_tick s A m (class_of_equation s i) (class_of_name s z) (axis z converted) counts.1 ticks))

    alike_fails : (kind : Fail) → EquationFails s A uses m i kind → EquationFails s B uses m i kind
    alike_fails kind fails =
        let entries : fails.entry ≡ entry = one_use s uses are fails.entry entry fails.used used fails.equation_is in
        let counts : CanUse s A m entry fails.equation fails.name = subst (λ z. CanUse s A m z fails.equation fails.name) entries fails.counts in
        let ends : Valued of.left of.right of.clause ≡ fails.equation = same_Some (Valued of.left of.right of.clause) fails.equation (sym of.found ∙ counts.equation_is) in record {
          entry = entry;
          used = used;
          equation_is = refl;
          equation = fails.equation;
          name = fails.name;
          counts = can_up s facts.unclocked A B m same_rows entry [] free up sound_a fails.equation fails.name counts;
          unsolved = λ v typed solves. fails.unsolved v typed (subst (λ z. Solves s A m i fails.equation z.name v) (sym entries)
              (solved_down s facts.unclocked A B m same_rows entry [] free up sound_a fails.equation fails.name v counts solves));
          kind_is = fails.kind_is ∙ ap (λ z. kind_of (seen_by (views_at s A (class_of_equation s i) m) (parts_beside z.name fails.equation))) entries
              ∙ subst (λ q. kind_of (seen_by (views_at s A (class_of_equation s i) m) (parts_beside x q)) ≡ kind_of (seen_by (views_at s B (class_of_equation s i) m) (parts_beside x q))) ends (ap kind_of (beside counts.ticks));
        }
      where
        left_alike : IsKnownToTick s A m (class_of_equation s i) → SameBut x (asked of.left) (views_at s A (class_of_equation s i) m) (views_at s B (class_of_equation s i) m)
        left_alike counts = side_alike of.left counts (λ y r. (Valued of.left of.right of.clause, of.found, inl r)) (λ z last. (Valued of.left of.right of.clause, of.found, inl last)) (once_left s facts entry of)
            (λ z some. facts.axis i of.left of.right of.clause of.found z (inl some)) (λ class some. facts.samples i of.left of.right of.clause of.found class (inl some))

        right_alike : IsKnownToTick s A m (class_of_equation s i) → SameBut x (asked of.right) (views_at s A (class_of_equation s i) m) (views_at s B (class_of_equation s i) m)
        right_alike counts = side_alike of.right counts (λ y r. (Valued of.left of.right of.clause, of.found, inr r)) (λ z last. (Valued of.left of.right of.clause, of.found, inr last)) (once_right s facts entry of)
            (λ z some. facts.axis i of.left of.right of.clause of.found z (inr some)) (λ class some. facts.samples i of.left of.right of.clause of.found class (inr some))

        few : asked of.left 0 (OfNow x) + asked of.right 0 (OfNow x) ≤ 1
        few = let left = asked_bare x of.left in let right = asked_bare x of.right in let total = of.solvable.0 in omega (arith, left, right, total)

        missed : (e other : Expr) → (is_reached x e ≡ true) ⊎ (is_reached x other ≡ true) → bare_count x e + bare_count x other ≤ 1 → (way_to x e).reaches ≡ false → asked e 0 (OfNow x) ≡ 0
        missed e other (inl reached) total off = absurd (true≢false (sym (on_way x e reached) ∙ off))
        missed e other (inr reached) total off = let some = stands_bare x other reached in let same = asked_bare x e in omega (arith, some, same, total)

        swap : {P Q : Type 0} → P ⊎ Q → Q ⊎ P
        swap (inl p) = inr p
        swap (inr q) = inl q

        beside : IsKnownToTick s A m (class_of_equation s i) → seen_by (views_at s A (class_of_equation s i) m) (parts_beside x (Valued of.left of.right of.clause)) ≡ seen_by (views_at s B (class_of_equation s i) m) (parts_beside x (Valued of.left of.right of.clause))
        beside counts = parts_rest x of.left of.right of.clause (views_at s A (class_of_equation s i) m) (views_at s B (class_of_equation s i) m) few
            (missed of.left of.right of.solvable.1 (let total = of.solvable.0 in omega (arith, total)))
            (missed of.right of.left (swap of.solvable.1) (let total = of.solvable.0 in omega (arith, total)))
            (left_alike counts) (right_alike counts)

    pub does_alike : DoesAlike s uses S m entry a b
    does_alike = record { gives = alike_gives; fails = alike_fails }

  -- ---- sound rows

  pub sound_inputs : (inputs : Row) → AreInputs s m inputs → IsSound s (with_row S m inputs) m
  sound_inputs inputs are_inputs = inputs_sound s facts.unclocked facts.inputs S m [] tt inputs are_inputs

  pub sound_taken : (piece : List Use) (base row : Row) → ((entry : Use) → Contains piece entry → Contains uses entry) → AreFree s piece → IsClear piece base → IsSound s (with_row S m base) m
      → AreTaken s S m piece base row → IsSound s (with_row S m row) m
  sound_taken piece base row within free clear sound taken =
      taken_sound s facts.unclocked S m piece base row (free_uses s facts piece (λ entry member. facts_of_use s uses are entry (within entry (member_contains entry piece member))) free) clear taken sound
