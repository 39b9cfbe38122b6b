-- A run in the chain of a command.
use Rattle.std.proofs.Common.{◌≡◌, refl, ap, sym, subst, ◌∙◌, inl, inr, ℕ, List, [], ◌∷◌, map, Ok, length}
use Rattle.rational_time.specs.declared.ratio.Ratio.{Ratio}
use Rattle.flat_model.specs.declared.clock.Clocking.{Clocking}
use Rattle.flat_model.specs.declared.clock.Moment.TheVariants.{At}
use Rattle.flat_model.specs.declared.model.FlatModel.{FlatModel}
use Rattle.flat_model.specs.declared.table.Table.{Table}
use Rattle.flat_model.specs.Models.{IsModel}
use Rattle.flat_model.specs.Moments.{AreInstants}
use Rattle.flat_model.specs.Setting.{Setting}
use Rattle.flat_model.specs.Tables.{IsTableOf, IsTime}
use Rattle.command_words.specs.Choice.{Choice}
use Rattle.command_words.specs.declared.command.Mode.TheVariants.{Run, Stress}
use Rattle.eq_order.specs.declared.uses.Use.{Use}
use Rattle.eq_order.specs.Order as orders
use Rattle.eq_order.specs.Order.{use_of}
use Rattle.flat_model.specs.Uses as uses
use Rattle.moment_theory.specs.Free.{IsOrdered}
use Rattle.tick_plan.specs.Plans.{Planned, IsNewPlan, moments_of}
use Rattle.tick_plan.specs.Seen.{grid_seen}
use Rattle.tick_plan.specs.declared.grid_plan.GridPlan.{GridPlan}
use Rattle.command_answer.specs.Actions.{Stresses, clocking_of, table_of, setting_of, in_mode}
use Rattle.command_answer.specs.Layers.{ordered, counted, timed}
use Rattle.command_answer.specs.Stages.{Answer, Stage, ◌>>=◌, always, ends_with, layer}
use Rattle.clock_sides.specs.Laws.{IsAnswered}
use Rattle.command_answer.proofs.Clocks.{is_answered}
use Rattle.command_answer.proofs.Running.{run_ordered, runs_alone, stress_done, stress_faulted}
use Rattle.command_stages.specs.declared.end.End.{End}
use Rattle.command_stages.specs.Ends.{Halts}
use Rattle.command_stages.proofs.Halting.{halts_first, halts_next}
use Rattle.run_tally.specs.Tallies.{AddsUp}
use Rattle.run_trace.specs.Planned.{IsPlannedRun}
use Rattle.run_trace.specs.declared.model.PlannedRun.{PlannedRun}
use Rattle.clocked_run.specs.private.Tasks.{Ends, Plans}
use Rattle.clocked_run.specs.declared.task.Task.TheVariants as task

-- the instants of a plan are told apart by its moments
same_instants : (xs ys : List Ratio) → map (λ t. At t) xs ≡ map (λ t. At t) ys → xs ≡ ys
same_instants [] [] same = refl
same_instants [] (y ∷ ys) same = absurd cc
same_instants (x ∷ xs) [] same = absurd cc
same_instants (x ∷ xs) (y ∷ ys) same =
    let first : x ≡ y = cc in
    let rest : map (λ t. At t) xs ≡ map (λ t. At t) ys = cc in
    ap (λ z. z ∷ xs) first ∙ ap (λ zs. y ∷ zs) (same_instants xs ys rest)

-- what is told of the sums of a run is alone
stressed : (s : Setting) (used free : List uses.Use) → IsOrdered s used free → (members : ℕ) (answer : Answer) → AddsUp members s answer → Stresses members s answer
stressed s used free are members answer (inl (S, meets, same)) = subst (λ a. Stresses members s a) (sym same) (stress_done s used free are members S meets)
stressed s used free are members answer (inr (text, line, run, same)) = subst (λ a. Stresses members s a) (sym same) (stress_faulted s used free are members text line run)

module _ (reads : List ℕ → Stage (List ℕ)) (c : Choice) (flat : FlatModel) where
  pub run_unclocked : (end : End) → Halts (clocking_of flat) end → Halts (setting_of reads c flat) end
  unfolding setting_of
  run_unclocked end halts = halts_first _ _ end halts

  module _ (clocking : Clocking) (clocked : (clocking_of flat).makes clocking) where
    pub run_unordered : (end : End) → Halts (ordered flat clocking) end → Halts (setting_of reads c flat) end
    unfolding setting_of
    run_unordered end halts = halts_next _ _ clocking end clocked (halts_first _ _ end halts)

    module _ (order : List Use) (is_order : (ordered flat clocking).makes order) where
      pub run_untabled : (end : End) → Halts (table_of reads flat c.table) end → Halts (setting_of reads c flat) end
      unfolding setting_of
      run_untabled end halts = halts_next _ _ clocking end clocked (halts_next _ _ order end is_order (halts_first _ _ end halts))

      module _ (table : Table) (is_table : (table_of reads flat c.table).makes table) where
        pub run_uncounted : (end : End) → Halts (counted clocking table c.stop) end → Halts (setting_of reads c flat) end
        unfolding setting_of
        run_uncounted end halts = halts_next _ _ clocking end clocked (halts_next _ _ order end is_order (halts_next _ _ table end is_table (halts_first _ _ end halts)))

        setting_makes : (instants : List Ratio) → (counted clocking table c.stop).makes tt → AreInstants clocking.clocks table.times c.stop instants → (s : Setting)
            → s ≡ record { model = flat; clocking = clocking; table = table; instants = instants } → (setting_of reads c flat).makes s
        unfolding setting_of timed always ◌>>=◌
        setting_makes instants few are s same = (clocking, clocked, (order, is_order, (table, is_table, (tt, few, (instants, are, same)))))

        -- the setting of a new plan is made, and has a free order
        pub run_plans : (plan : GridPlan) (workers : ℕ) → (counted clocking table c.stop).makes tt → IsNewPlan clocking.clocks table.times c.stop (length clocking.sites) (grid_seen plan)
            → Plans (setting_of reads c flat) (record { flat = flat; clocking = clocking; order = order; table = table; plan = plan; workers = workers })
        unfolding ordered layer
        run_plans plan workers few new s is =
            let moments : moments_of s.instants ≡ moments_of new.instants = ap (λ (p : Planned). p.ahead) (sym is.plan_is ∙ new.plan_is) in
            let same : s.instants ≡ new.instants = same_instants s.instants new.instants (let rest : map (λ t. At t) s.instants ≡ map (λ t. At t) new.instants = cc in rest) in
            let setting : s ≡ record { model = flat; clocking = clocking; table = table; instants = new.instants } = setting_is s flat clocking table new.instants is.model is.clocking is.table same in
            let modelled : IsModel flat = subst (λ m. IsModel m) is.model is.is_model in
            let answered : IsAnswered flat clocking = subst (λ k. IsAnswered flat k) is.clocking (subst (λ m. IsAnswered m s.clocking) is.model is.answered) in
            let of_model : IsTableOf flat table = subst (λ x. IsTableOf flat x) is.table (subst (λ m. IsTableOf m s.table) is.model is.table_of) in
            let free = run_ordered flat clocking table new.instants modelled answered of_model order is_order in (
              setting_makes new.instants few new.are s setting,
              subst (λ z. (used : List uses.Use) × (free : List uses.Use) × IsOrdered z used free) (sym setting) (map use_of order, free.0, free.1),
            )
          where
            setting_is : (s : Setting) (m : FlatModel) (k : Clocking) (t : Table) (ts : List Ratio) → s.model ≡ m → s.clocking ≡ k → s.table ≡ t → s.instants ≡ ts → s ≡ record { model = m; clocking = k; table = t; instants = ts }
            setting_is s m k t ts a b d e =
                ap (λ x. record { model = x; clocking = s.clocking; table = s.table; instants = s.instants }) a
                ∙ ap (λ x. record { model = m; clocking = x; table = s.table; instants = s.instants }) b
                ∙ ap (λ x. record { model = m; clocking = k; table = x; instants = s.instants }) d
                ∙ ap (λ x. record { model = m; clocking = k; table = t; instants = x }) e

  -- what the run answers, or adds up to, ends the command in its mode
  module _ (run : PlannedRun) (plans : Plans (setting_of reads c flat) run) where
    pub run_does : Ends (in_mode reads Run c flat) (task.Run run)
    unfolding in_mode ends_with ◌>>=◌
    run_does s is answer runs = let (made, (used, free, are)) = plans s is in inr (s, made, runs_alone s used free are answer runs)

    pub stress_does : (members : ℕ) → Ends (in_mode reads (Stress members) c flat) (task.Stress members run)
    unfolding in_mode ends_with ◌>>=◌
    stress_does members s is answer adds = let (made, (used, free, are)) = plans s is in inr (s, made, stressed s used free are members answer adds)

  -- where no setting is made the command ends in both modes
  pub run_halts : (end : End) → Halts (setting_of reads c flat) end → Halts (in_mode reads Run c flat) end
  unfolding in_mode
  run_halts end halts = halts_first _ _ end halts

  pub stress_halts : (members : ℕ) (end : End) → Halts (setting_of reads c flat) end → Halts (in_mode reads (Stress members) c flat) end
  unfolding in_mode
  stress_halts members end halts = halts_first _ _ end halts

-- and it has a setting
pub can_run : (flat : FlatModel) (clocking : Clocking) (order : List Use) (table : Table) (plan : GridPlan) (stop : Ratio) (run : PlannedRun) → IsModel flat → (clocking_of flat).makes clocking → (ordered flat clocking).makes order
    → IsTableOf flat table → IsTime stop → (counted clocking table stop).makes tt → IsNewPlan clocking.clocks table.times stop (length clocking.sites) (grid_seen plan)
    → run.flat ≡ flat → run.clocking ≡ clocking → run.order ≡ order → run.table ≡ table → run.plan ≡ plan → (s : Setting) × IsPlannedRun run s
unfolding ordered counted layer
can_run flat clocking order table plan stop run is clocked is_order is_table is_time few new a b d e f =
    let s : Setting = record { model = flat; clocking = clocking; table = table; instants = new.instants } in (
      s,
      record {
        model = sym a;
        clocking = sym b;
        table = sym e;
        is_model = is;
        answered = is_answered flat clocking clocked;
        table_of = is_table;
        order = subst (λ o. orders.Answers s (Ok o)) (sym d) (is_order s refl refl);
        stop = stop;
        is_time = is_time;
        few = few;
        are = new.are;
        plan_is = ap grid_seen f ∙ new.plan_is;
      },
    )
