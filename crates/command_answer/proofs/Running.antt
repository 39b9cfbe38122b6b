-- A run has one answer.
use Rattle.std.proofs.Common.{◌≡◌, refl, ap, ap₂, sym, ◌∙◌, ℕ, zero, suc, ◌+◌, ◌<◌, inl, inr, List, [], ◌∷◌, map, Some, slice_get, Ok, length, arith}
use Rattle.rational_time.specs.declared.ratio.Ratio.{Ratio}
use Rattle.flat_model.specs.declared.clock.Clocking.{Clocking}
use Rattle.flat_model.specs.declared.model.FlatModel.{FlatModel}
use Rattle.flat_model.specs.declared.table.Table.{Table}
use Rattle.flat_model.specs.Assignment.{Assignment}
use Rattle.flat_model.specs.Meets.{Meets}
use Rattle.flat_model.specs.Models.{IsModel}
use Rattle.flat_model.specs.Runs.{IsWholeRun, IsFaultedRun}
use Rattle.flat_model.specs.Setting.{Setting}
use Rattle.flat_model.specs.Tables.{IsTableOf}
use Rattle.flat_model.specs.Trace.{columns_of, trace_text}
use Rattle.flat_model.specs.Uses.{Use}
use Rattle.clock_sides.specs.Laws.{IsAnswered}
use Rattle.clock_sides.proofs.Whole.{runnable}
use Rattle.eq_order.specs.declared.uses.Use as answered
use Rattle.eq_order.specs.Order.{use_of}
use Rattle.moment_order.proofs.Same.{answered_order}
use Rattle.moment_theory.specs.Division.{ArePartitionsBelow, moment_order}
use Rattle.moment_theory.specs.Free.{IsOrdered}
use Rattle.moment_theory.proofs.Answered.{one_run, moment_within}
use Rattle.moment_theory.proofs.Divided.{order_free, order_same}
use Rattle.moment_theory.proofs.Settled.{only_one, whole_none}
use Rattle.moment_theory.proofs.Unheld.{unheld_pure}
use Rattle.site_ready.proofs.Deciding.{there_is}
use Rattle.site_ready.proofs.Unheld.{unheld}
use Rattle.stress_sums.proofs.Alike.{sums_same}
use Rattle.stress_sums.specs.Sums.{sums_text, stress_lines}
use Rattle.command_answer.specs.declared.status.Status.TheVariants.{Done, Faulted}
use Rattle.command_answer.specs.Actions.{Runs, RunsAlone, Stresses}
use Rattle.command_answer.specs.Layers.{Orders}
use Rattle.command_answer.specs.Stages.{Answer, printed}

-- a number above all of a list
abbrev bound : List ℕ → ℕ
bound [] = 0
bound (k ∷ ks) = suc (k + bound ks)

below_bound : (ks : List ℕ) (c k : ℕ) → slice_get ks c ≡ Some k → k < bound ks
below_bound [] c k is = cc
below_bound (x ∷ xs) zero k is = let same : x ≡ k = cc in omega (arith, same)
below_bound (x ∷ xs) (suc c) k is = let rest = below_bound xs c k is in omega (arith, rest)

module _ (flat : FlatModel) (clocking : Clocking) (table : Table) (instants : List Ratio) (is_model : IsModel flat) (is : IsAnswered flat clocking) (is_table : IsTableOf flat table)
    (order : List answered.Use) (orders : Orders flat clocking (Ok order)) where
  abbrev s : Setting
  s = record { model = flat; clocking = clocking; table = table; instants = instants }

  abbrev uses : List Use
  uses = map use_of order

  -- the setting of a run has a free order
  pub run_ordered : (free : List Use) × IsOrdered s uses free
  run_ordered =
      let runs = runnable flat clocking table instants is_model is is_table in
      let (group, tells) = there_is flat is.classes in
      let rests = unheld flat clocking table instants is_model is group tells in
      let is_order = answered_order s order (orders s refl refl) in
      let pure = unheld_pure s uses group runs is_order.uses_are rests in
      let count = bound clocking.partitions in
      let below : ArePartitionsBelow s count = λ class k at. below_bound clocking.partitions class k at in (
        moment_order s (λ entry. group entry.name) count uses,
        record {
          runs = runs;
          uses_are = is_order;
          same = order_same s runs uses is_order.uses_are (λ entry. group entry.name) pure count below;
          free = order_free s runs uses is_order.uses_are (λ entry. group entry.name) pure count;
        },
      )

same_answer : (a b : Answer) → a.status ≡ b.status → a.out ≡ b.out → a.err ≡ b.err → a ≡ b
same_answer a b status out err =
    ap₂ (λ x y. record { status = x; out = y; err = a.err }) status out ∙ ap (λ z. record { status = b.status; out = b.out; err = z }) err

module _ (s : Setting) (uses free : List Use) (is : IsOrdered s uses free) where
  never_both : (out err text line : List ℕ) → IsWholeRun s out err → IsFaultedRun s text line → ⊥
  never_both out err text line one two =
      let within = moment_within s.instants two.moment two.at two.found in
      whole_none s uses free is one.assignment two.assignment two.moment (length s.instants) within (omega arith) one.meets two.place two.kind two.fault

  pub runs_one : (a b : Answer) → Runs s a → Runs s b → a ≡ b
  runs_one a b (inl (d, p)) (inl (e, q)) = let same = one_run s uses free is a.out a.err b.out b.err (inl p) (inl q) in same_answer a b (d ∙ sym e) same.0 same.1
  runs_one a b (inr (d, p)) (inr (e, q)) = let same = one_run s uses free is a.out a.err b.out b.err (inr p) (inr q) in same_answer a b (d ∙ sym e) same.0 same.1
  runs_one a b (inl (d, p)) (inr (e, q)) = absurd (never_both a.out a.err b.out b.err p q)
  runs_one a b (inr (d, p)) (inl (e, q)) = absurd (never_both b.out b.err a.out a.err q p)

  -- and it is that of each assignment that meets the model
  of_other : (answer : Answer) → Runs s answer → (T : Assignment) → Meets s T (length s.instants) → (answer.status ≡ Done) × (answer.out ≡ trace_text s.model.names T s.instants)
  of_other answer runs T here =
      let other : Answer = record { status = Done; out = trace_text s.model.names T s.instants; err = [] } in
      let same : answer ≡ other = runs_one answer other runs (inl (refl, record { assignment = T; meets = here; out_is = refl; err_is = refl })) in
      (ap (λ a. a.status) same, ap (λ a. a.out) same)

  pub runs_alone : (answer : Answer) → Runs s answer → RunsAlone s answer
  runs_alone answer runs = (
    runs,
    record {
      trace = of_other answer runs;
      fault = λ S T n place kind range fault here. whole_none s uses free is T S n n (omega arith) range here place kind fault;
    },
  )

  -- and so are the sums of its rows, or its fault
  pub stress_done : (members : ℕ) (S : Assignment) → Meets s S (length s.instants) → Stresses members s (printed (stress_lines members s.model.names S (length s.instants)))
  stress_done members S meets =
      let run : Answer = record { status = Done; out = trace_text s.model.names S s.instants; err = [] } in
      record {
        run = run;
        runs = runs_alone run (inl (refl, record { assignment = S; meets = meets; out_is = refl; err_is = refl }));
        done = λ ended T here. ap (λ sums. printed (sums_text members sums)) (sums_same (columns_of s.model.names) S T (length s.instants)
            (λ x m some le. only_one s uses free is S T (length s.instants) (omega arith) meets here x m (omega (arith, le))));
        faulted = λ is. absurd cc;
      }

  pub stress_faulted : (members : ℕ) (text line : List ℕ) → IsFaultedRun s text line → Stresses members s (record { status = Faulted; out = []; err = line })
  stress_faulted members text line fault =
      let run : Answer = record { status = Faulted; out = text; err = line } in
      record { run = run; runs = runs_alone run (inr (refl, fault)); done = λ is. absurd cc; faulted = λ is. refl }

  pub stresses_one : (members : ℕ) (a b : Answer) → Stresses members s a → Stresses members s b → a ≡ b
  stresses_one members a b p q = by_run p.runs.0
    where
      same : p.run ≡ q.run
      same = runs_one p.run q.run p.runs.0 q.runs.0

      by_run : Runs s p.run → a ≡ b
      by_run (inl (is, whole)) = p.done is whole.assignment whole.meets ∙ sym (q.done (ap (λ (r : Answer). r.status) (sym same) ∙ is) whole.assignment whole.meets)
      by_run (inr (is, fault)) = p.faulted is ∙ ap (λ (r : Answer). record { status = Faulted; out = []; err = r.err }) same ∙ sym (q.faulted (ap (λ (r : Answer). r.status) (sym same) ∙ is))
