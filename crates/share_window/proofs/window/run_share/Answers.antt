use Rattle.std.proofs.Common.{rules, arith, ◌≡◌, refl, ap, ◌∙◌, sym, subst, ◌<◌, true, false, is_some, length, get_or, Some, None, slice_get, slice_set}
use Rattle.std.specs.Vec.{with_items}
use Rattle.std.proofs.lemmas.Option.{slice_get-get_or}
use Rattle.share_run.specs.Standing.{holding_of}
use Rattle.partition_step.specs.Writing.{IsWritten}
use Rattle.share_window.specs.Windows.{row_from, HasRunShare}
use Rattle.share_window.specs.private.Owning.{own_by}
use Rattle.share_window.proofs.Shown.{some_not_none, none_of, row_here, row_away, row_wide}
use Rattle.share_window.proofs.Windowed.{run_first, may_take, is_wide, runs_failed, runs_more, runs_whole}
use Rattle.share_window.proofs.window.run_share.Goals as goal

pub loop-done-init : goal.loop-done-init
loop-done-init g c = record {
  far = run_first (holding_of c.args.uses.now c.args.slots.now c.args.cells.now c.args.left.now) c.args.model.now c.args.moments.now c.args.now.now c.args.own.now (λ j. row_from (slice_get c.args.rows.now j));
  columns = λ j. refl;
}

pub step_moment-told-requires-clause-wide : goal.step_moment-told-requires-clause-wide
step_moment-told-requires-clause-wide g c κs within =
    let found : slice_get c.args.moments.now c.loop-done.done ≡ Some c.index-moments-done.result =
    slice_get-get_or c.args.moments.now c.loop-done.done c.index-moments-done.result c.loop-done-test.true ∙ ap Some (sym c.index-moments-done.is) in
    c.loop-done.auto.now ∙ is_wide (holding_of c.args.uses.now c.args.slots.now c.args.cells.now c.args.left.now) (holding_of c.args.uses.now c.loop-done.slots c.loop-done.cells c.loop-done.left)
    c.args.model.now c.args.moments.now c.args.now.now c.args.own.now (λ j. row_from (slice_get c.loop-done.rows j)) c.loop-done.done c.loop-done.invariant.far c.index-moments-done.result found c.requires.can

pub step_moment-told-requires-clause-can : goal.step_moment-told-requires-clause-can
step_moment-told-requires-clause-can g c κs within =
    let found : slice_get c.args.moments.now c.loop-done.done ≡ Some c.index-moments-done.result =
    slice_get-get_or c.args.moments.now c.loop-done.done c.index-moments-done.result c.loop-done-test.true ∙ ap Some (sym c.index-moments-done.is) in
    may_take (holding_of c.args.uses.now c.args.slots.now c.args.cells.now c.args.left.now) (holding_of c.args.uses.now c.loop-done.slots c.loop-done.cells c.loop-done.left)
    c.args.model.now c.args.moments.now c.args.now.now c.args.own.now (λ j. row_from (slice_get c.loop-done.rows j)) c.loop-done.done c.loop-done.invariant.far c.index-moments-done.result found c.requires.can

pub returns-then-is_some-clause-columns : goal.returns-then-is_some-clause-columns
returns-then-is_some-clause-columns g c = c.loop-done.invariant.columns

pub returns-then-is_some-clause-runs : goal.returns-then-is_some-clause-runs
returns-then-is_some-clause-runs g c =
    let found : slice_get c.args.moments.now c.loop-done.done ≡ Some c.index-moments-done.result =
    slice_get-get_or c.args.moments.now c.loop-done.done c.index-moments-done.result c.loop-done-test.true ∙ ap Some (sym c.index-moments-done.is) in
    let told = c.step_moment-told in
    let some : is_some told.result ≡ true = search rules in
    runs_failed (holding_of c.args.uses.now c.args.slots.now c.args.cells.now c.args.left.now) (holding_of c.args.uses.now c.loop-done.slots c.loop-done.cells c.loop-done.left)
    c.args.model.now c.args.moments.now c.args.now.now c.args.own.now (λ j. row_from (slice_get c.loop-done.rows j)) c.loop-done.done c.loop-done.invariant.far c.index-moments-done.result found
    (holding_of c.args.uses.now told.new.slots told.new.cells told.new.left) told.new.now told.result refl told.ensures.takes (some_not_none told.result some)

pub loop-done-preserved : goal.loop-done-preserved
loop-done-preserved g c =
    let found : slice_get c.args.moments.now c.loop-done.done ≡ Some c.index-moments-done.result =
    slice_get-get_or c.args.moments.now c.loop-done.done c.index-moments-done.result c.loop-done-test.true ∙ ap Some (sym c.index-moments-done.is) in
    let told = c.step_moment-told in
    let none : is_some told.result ≡ false = search rules in
    let room = c.requires.room in
    let test = c.loop-done-test.true in
    let size = c.loop-done.auto.rows in
    let within : c.loop-done.done < length c.loop-done.rows = omega (arith, room, test, size) in
    let written : IsWritten (own_by c.args.own.now told.new.now) (get_or c.loop-done.rows c.loop-done.done c.index-rows-done.result).items c.copy_own.new.row =
    subst (λ row. IsWritten (own_by c.args.own.now told.new.now) row c.copy_own.new.row) c.as_mut_slice.ensures.value c.copy_own.ensures in
    record {
      far = runs_more (holding_of c.args.uses.now c.args.slots.now c.args.cells.now c.args.left.now) (holding_of c.args.uses.now c.loop-done.slots c.loop-done.cells c.loop-done.left)
          c.args.model.now c.args.moments.now c.args.now.now c.args.own.now (λ j. row_from (slice_get c.loop-done.rows j)) c.loop-done.done c.loop-done.invariant.far c.index-moments-done.result found
          (holding_of c.args.uses.now told.new.slots told.new.cells told.new.left) told.new.now told.result refl told.ensures.takes (none_of told.result none) told.ensures.goes told.ensures.keeps
          (λ j. row_from (slice_get (slice_set c.loop-done.rows c.loop-done.done (with_items (get_or c.loop-done.rows c.loop-done.done c.index-rows-done.result) c.copy_own.new.row)) j))
          (row_here c.loop-done.rows c.loop-done.done c.index-rows-done.result (own_by c.args.own.now told.new.now) c.copy_own.new.row within written)
          (row_away c.loop-done.rows c.loop-done.done c.index-rows-done.result (own_by c.args.own.now told.new.now) c.copy_own.new.row within written);
      columns = λ j. row_wide c.loop-done.rows c.loop-done.done c.index-rows-done.result (own_by c.args.own.now told.new.now) c.copy_own.new.row within written j ∙ c.loop-done.invariant.columns j;
    }

pub returns-clause-columns : goal.returns-clause-columns
returns-clause-columns g c = c.loop-done.invariant.columns

pub returns-clause-runs : goal.returns-clause-runs
returns-clause-runs g c =
    let past = c.loop-done-test.false in
    let end = c.loop-done.auto.done-end in
    let all : c.loop-done.done ≡ length c.args.moments.now = omega (arith, past, end) in
    λ s uses stages others A n is.
    subst (λ k. HasRunShare (holding_of c.args.uses.now c.args.slots.now c.args.cells.now c.args.left.now) (holding_of c.args.uses.now c.loop-done.slots c.loop-done.cells c.loop-done.left)
    c.args.moments.now c.args.own.now (λ j. row_from (slice_get c.loop-done.rows j)) k None s uses others A n) all
    (runs_whole (holding_of c.args.uses.now c.args.slots.now c.args.cells.now c.args.left.now) (holding_of c.args.uses.now c.loop-done.slots c.loop-done.cells c.loop-done.left)
    c.args.model.now c.args.moments.now c.args.now.now c.args.own.now (λ j. row_from (slice_get c.loop-done.rows j)) c.loop-done.done c.loop-done.invariant.far all s uses stages others A n is)
