use Rattle.std.proofs.Common.{◌≡◌, refl, ap, ap₂, ◌∙◌, sym, length, slice_get}
use Rattle.std.specs.Vec.{with_items}
use Rattle.std.proofs.lemmas.List.{with_items_is}
use Rattle.share_run.specs.Standing.{holding_of}
use Rattle.share_window.specs.Owned.{holding_by, holding_in}
use Rattle.share_window.specs.Windows.{row_from}
use Rattle.share_window.proofs.Carried.{may_carry, carried}
use Rattle.share_window.proofs.owned.Share.run.Goals as goal

pub run_share-self-requires-clause-can : goal.run_share-self-requires-clause-can
run_share-self-requires-clause-can g c κs within =
    let w = c.args.self.now in
    let slots = c.as_mut_slice-slots in
    let cells = c.as_mut_slice-cells in
    may_carry c.args.model.now c.args.moments.now (holding_of c.lend-uses.result slots.result.now cells.result.now w.left) (holding_in w) c.as_mut_slice-now.result.now w.now.items
    (c.lend-uses.ensures slots.result.now cells.result.now w.left ∙ ap₂ (λ ss cs. holding_by w.uses ss cs w.left) slots.ensures.value cells.ensures.value)
    c.as_mut_slice-now.ensures.value c.requires.can

pub returns : goal.returns
returns g c =
    let w = c.args.self.now in
    let slots = c.as_mut_slice-slots in
    let cells = c.as_mut_slice-cells in
    let run = c.run_share-self in
    let new_slots : (with_items w.slots run.new.slots).items ≡ run.new.slots = with_items_is w.slots run.new.slots (run.auto.slots ∙ ap length slots.ensures.value ∙ sym w.slots.ok.0) in
    let new_cells : (with_items w.cells run.new.cells).items ≡ run.new.cells = with_items_is w.cells run.new.cells (run.auto.cells ∙ ap length cells.ensures.value ∙ sym w.cells.ok.0) in
    let new_now : (with_items w.now run.new.now).items ≡ run.new.now = with_items_is w.now run.new.now (run.auto.now ∙ ap length c.as_mut_slice-now.ensures.value ∙ sym w.now.ok.0) in
    let new_rows : (with_items w.rows run.new.rows).items ≡ run.new.rows = with_items_is w.rows run.new.rows (run.auto.rows ∙ ap length c.as_mut_slice-rows.ensures.value ∙ sym w.rows.ok.0) in
    record {
      uses = refl;
      own = refl;
      wide = ap length new_now ∙ run.ensures.wide ∙ ap length c.as_mut_slice-now.ensures.value;
      rows = ap length new_rows ∙ run.ensures.rows ∙ ap length c.as_mut_slice-rows.ensures.value;
      columns = λ j. ap (λ rs. length (row_from (slice_get rs j))) new_rows ∙ run.ensures.columns j ∙ ap (λ rs. length (row_from (slice_get rs j))) c.as_mut_slice-rows.ensures.value;
      runs = carried c.args.model.now c.args.moments.now run.result.done run.result.told
          (holding_of c.lend-uses.result slots.result.now cells.result.now w.left) (holding_in w)
          (holding_of c.lend-uses.result run.new.slots run.new.cells run.new.left) (holding_by w.uses (with_items w.slots run.new.slots).items (with_items w.cells run.new.cells).items run.new.left)
          c.as_mut_slice-now.result.now w.now.items c.as_slice-own.result.now w.own run.new.rows (with_items w.rows run.new.rows).items
          (c.lend-uses.ensures slots.result.now cells.result.now w.left ∙ ap₂ (λ ss cs. holding_by w.uses ss cs w.left) slots.ensures.value cells.ensures.value)
          (c.lend-uses.ensures run.new.slots run.new.cells run.new.left ∙ ap₂ (λ ss cs. holding_by w.uses ss cs run.new.left) (sym new_slots) (sym new_cells))
          c.as_mut_slice-now.ensures.value c.as_slice-own.ensures (sym new_rows) run.ensures.runs;
    }
