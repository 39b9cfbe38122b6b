use Rattle.std.proofs.Common.{arith, ◌<◌, length, subst, sym}
use Rattle.input_table.specs.Headers.{IsInputCalled}
use Rattle.input_table.specs.private.Finding.{number_of}
use Rattle.input_table.proofs.Found.{whole_found, noted_in, passed_more, input_at, no_input_at}
use Rattle.input_table.proofs.header.inputs.Goals as goal
use Rattle.input_table.proofs.header.inputs.Goals.{then-name+in_ok-note, else-name}

pub loop-at-preserved : goal.loop-at-preserved
loop-at-preserved c =
    let names = c.args.names.now in
    let at = c.loop-at.at in
    let name = c.index-names-at.result in
    let less : at < length names = c.loop-at-test.true in
    elim c.if-name.branch [
      | then-name+in_ok-note w ↦
          let input = input_at names at name less c.index-names-at.is w.if-name.true in
          let input_ : IsInputCalled names w.as_bytes.result.now at = subst (λ t. IsInputCalled names t at) (sym w.as_bytes.ensures) input in
          rw w.found-is (noted_in names at c.loop-at.found.entries w.note.new.found.entries w.as_bytes.result.now c.loop-at.invariant w.in_ok-note.ensures input_)
      | else-name w ↦ λ text.
          rw w.found-is (passed_more names at text (number_of text c.loop-at.found.entries) (c.loop-at.invariant text) (no_input_at names at name less c.index-names-at.is w.if-name.false))
    ]

pub returns : goal.returns
returns c = whole_found c.args.names.now c.loop-at.at c.loop-at.found.entries (omega arith) c.loop-at.invariant
