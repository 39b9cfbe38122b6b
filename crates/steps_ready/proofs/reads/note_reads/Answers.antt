use Rattle.std.proofs.Common.{ap, sym, subst, ◌∙◌, ◌≡◌, ◌+◌, ◌++◌, ◌∷◌, [], false, length}
use Rattle.std.proofs.lemmas.Option.{slice_get-get_or}
use Rattle.tree_step.specs.declared.taking.Entry.{Entry}
use Rattle.tree_step.specs.Changed.{AreReadsOf}
use Rattle.steps_ready.proofs.Gathered.{pushed_long, reads_more}
use Rattle.steps_ready.proofs.reads.note_reads.Goals as goal

pub loop-entry-preserved : goal.loop-entry-preserved
loop-entry-preserved c =
    let default : Entry = record { equation = 0; name = 0; spine = record { left = false }; clock = 0 } in
    let next = c.in_ok-reads_by.field-0 in
    let pushed : c.push.new.self ≡ c.loop-entry.reads ++ next ∷ [] = c.in_ok-push.ensures.ok in
    record {
      long = ap length pushed ∙ pushed_long c.loop-entry.reads next ∙ ap (λ n. n + 1) c.loop-entry.invariant.long;
      are = subst (AreReadsOf c.args.flat.now.equations c.args.entries.now) (sym pushed)
          (reads_more c.args.flat.now.equations c.args.entries.now c.loop-entry.reads next _ c.loop-entry.entry-index c.loop-entry.invariant.long
          (slice_get-get_or c.args.entries.now c.loop-entry.entry-index default c.loop-entry-test.true) c.in_ok-reads_by.ensures c.loop-entry.invariant.are);
    }
