use Rattle.std.proofs.Common.{◌≡◌, ap, ap₂, sym, ◌∙◌, ◌+◌, ◌++◌, codes, true, false, drop, length, arith}
use Rattle.std.proofs.lemmas.List.{drop_all}
use Rattle.flat_model.specs.Trace.{is_column, column_texts, cells_text, header_text}
use Rattle.trace_print.proofs.Cells.{cell_more, columns_at, column_len, no_column_len, header_front}
use Rattle.trace_print.proofs.line.write_header.Goals as goal

pub loop-name-preserved : goal.loop-name-preserved
loop-name-preserved c =
    let names = c.args.names.now in
    let k = c.loop-name.name-index in
    let name = c.name-item.result in
    let done = c.loop-name.line.items in
    let inv = c.loop-name.invariant in
    let yes : is_column name.kind ≡ true = sym c.is_column.ensures ∙ c.if-not-is_column.false in record {
      text = ap (λ items. items ++ cells_text (column_texts (drop (k + 1) names)))
          (c.add-in-loop-name-2.ensures.text ∙ ap₂ (λ a b. a ++ b) c.add-in-loop-name.ensures.text c.as_bytes.ensures)
          ∙ cell_more done name.text (column_texts (drop (k + 1) names)) (header_text names)
          (ap (λ cells. done ++ cells_text cells) (sym (columns_at names k name true c.loop-name-test.true c.name-item.is yes)) ∙ inv.text);
      len = omega (
        arith,
        c.add-in-loop-name-2.ensures.len,
        c.add-in-loop-name-2.ensures.room,
        c.add-in-loop-name.ensures.len,
        c.add-in-loop-name.ensures.room,
        ap (λ t. length t) c.as_bytes.ensures,
        column_len names k name c.loop-name-test.true c.name-item.is yes,
        inv.len,
      );
      room = c.add-in-loop-name-2.ensures.room ∙ c.add-in-loop-name.ensures.room ∙ inv.room;
    }

pub loop-name-preserved-then-not-is_column : goal.loop-name-preserved-then-not-is_column
loop-name-preserved-then-not-is_column c =
    let names = c.args.names.now in
    let k = c.loop-name.name-index in
    let name = c.name-item.result in
    let inv = c.loop-name.invariant in
    let no : is_column name.kind ≡ false = sym c.is_column.ensures ∙ c.if-not-is_column.true in record {
      text = ap (λ cells. c.loop-name.line.items ++ cells_text cells) (sym (columns_at names k name false c.loop-name-test.true c.name-item.is no)) ∙ inv.text;
      len = omega (arith, no_column_len names k name c.loop-name-test.true c.name-item.is no, inv.len);
      room = inv.room;
    }

pub add-requires : goal.add-requires
add-requires c = omega (arith, c.requires, header_front c.args.names.now, c.clear.ensures.len, c.clear.ensures.capacity)

pub loop-name-init : goal.loop-name-init
loop-name-init c = record {
  text = ap (λ items. items ++ cells_text (column_texts c.args.names.now)) (c.add.ensures.text ∙ ap (λ items. items ++ codes "time") c.clear.ensures.items);
  len = omega (arith, c.requires, header_front c.args.names.now, c.add.ensures.len, c.add.ensures.room, c.clear.ensures.len, c.clear.ensures.capacity);
  room = c.add.ensures.room ∙ c.clear.ensures.capacity;
}

pub add-requires-in-loop-name : goal.add-requires-in-loop-name
add-requires-in-loop-name c =
    omega (
      arith,
      column_len c.args.names.now c.loop-name.name-index c.name-item.result c.loop-name-test.true c.name-item.is (sym c.is_column.ensures ∙ c.if-not-is_column.false),
      c.loop-name.invariant.len,
    )

pub add-requires-in-loop-name-2 : goal.add-requires-in-loop-name-2
add-requires-in-loop-name-2 c =
    omega (
      arith,
      c.add-in-loop-name.ensures.len,
      c.add-in-loop-name.ensures.room,
      ap (λ t. length t) c.as_bytes.ensures,
      column_len c.args.names.now c.loop-name.name-index c.name-item.result c.loop-name-test.true c.name-item.is (sym c.is_column.ensures ∙ c.if-not-is_column.false),
      c.loop-name.invariant.len,
    )

pub add-requires-2 : goal.add-requires-2
add-requires-2 c =
    omega (arith, ap (λ names. length (cells_text (column_texts names))) (drop_all c.loop-name.name-index c.args.names.now c.loop-name-test.false), c.loop-name.invariant.len)

pub returns : goal.returns
returns c =
    let inv = c.loop-name.invariant in record {
      text = c.add-2.ensures.text ∙ ap (λ names. c.loop-name.line.items ++ cells_text (column_texts names)) (sym (drop_all c.loop-name.name-index c.args.names.now c.loop-name-test.false)) ∙ inv.text;
      room = c.add-2.ensures.room ∙ inv.room;
    }
