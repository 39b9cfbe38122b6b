use Rattle.std.proofs.Common.{ap, sym, ◌∙◌, ◌++◌, [], ◌∷◌, get_or, take, append_assoc, arith}
use Rattle.std.proofs.lemmas.List.{take_more}
use Rattle.trace_print.proofs.piece.add.Goals as goal

pub loop-byte-preserved : goal.loop-byte-preserved
loop-byte-preserved c =
    let piece = c.args.piece.now in
    let k = c.loop-byte.byte-index in
    let inv = c.loop-byte.invariant in record {
      text = c.push_reserved.ensures.items ∙ ap (λ items. items ++ get_or piece k 0 ∷ []) inv.text ∙ append_assoc c.args.line.now.items (take k piece) (get_or piece k 0 ∷ [])
          ∙ ap (λ items. c.args.line.now.items ++ items) (sym (take_more piece k 0 c.loop-byte-test.true));
      len = omega (arith, c.push_reserved.ensures.len, inv.len);
      room = c.push_reserved.ensures.capacity ∙ inv.room;
    }
