use Rattle.std.proofs.Common.{◌≡◌, ◌∙◌, refl, ap, sym, subst, ◌<◌, Some, length, length-append, slice_get, [], ◌∷◌, arith}
use Rattle.std.proofs.lemmas.Option.{slice_get_read}
use Rattle.flat_model.specs.Setting.{flattened}
use Rattle.eq_order.proofs.Reading.{AreRows, rows_push, reads_of_rows}
use Rattle.eq_order.proofs.reads.reads.Goals as goal

pub loop-i-init : goal.loop-i-init
loop-i-init c = record { long = ap length c.in_ok-reads.ensures.items; rows = λ j equation below at. absurd (omega (arith, below)) }

pub loop-i-preserved : goal.loop-i-preserved
loop-i-preserved c =
    let i = c.loop-i.i in
    let within : i < length c.args.flat.now.equations = omega (arith, c.loop-i-test.true, c.len-i-end.ensures) in
    let found : slice_get c.args.flat.now.equations i ≡ Some c.index-as_slice-i.result =
    ap (λ all. slice_get all i) (sym c.as_slice-in-loop-i.ensures)
    ∙ slice_get_read c.as_slice-in-loop-i.result.now (length c.as_slice-in-loop-i.result.now) i c.index-as_slice-i.result refl (omega (arith, within, ap length c.as_slice-in-loop-i.ensures)) c.index-as_slice-i.is in
    let class = c.class_at-class.ensures ∙ ap (λ all. flattened (slice_get all i)) c.as_slice.ensures in
    record {
      long = ap length c.in_ok-push.ensures.items ∙ (let grown = length-append c.loop-i.reads.items (c.in_ok-row.field-0 ∷ []) in omega (arith, grown, c.loop-i.invariant.long));
      rows = rows_push c.args.clocking.now c.args.known.now c.args.flat.now.equations i c.loop-i.reads.items c.push.new.self.items c.in_ok-row.field-0 c.index-as_slice-i.result c.class_at-class.result
          c.loop-i.invariant.long c.in_ok-push.ensures.items found class c.in_ok-row.ensures c.loop-i.invariant.rows;
    }

pub returns : goal.returns
returns c =
    let end : c.loop-i.i ≡ length c.args.flat.now.equations = omega (arith, c.loop-i-test.false, c.loop-i.auto.i-end, c.len-i-end.ensures) in
    record {
      long = c.loop-i.invariant.long ∙ end;
      reads = reads_of_rows c.args.flat.now c.args.clocking.now c.args.known.now c.loop-i.reads.items c.requires.known (c.loop-i.invariant.long ∙ end)
          (subst (λ n. AreRows c.args.clocking.now c.args.known.now c.args.flat.now.equations n c.loop-i.reads.items) end c.loop-i.invariant.rows);
    }
