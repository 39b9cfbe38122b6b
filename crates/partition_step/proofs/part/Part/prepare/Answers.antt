use Rattle.std.proofs.Common.{◌≡◌, ◌∙◌, sym, subst, ap, map, length}
use Rattle.std.specs.Prelude.{IfSome}
use Rattle.part_code.specs.Coded.{IsCodeOf}
use Rattle.partition_step.specs.private.Laying.{new_cell}
use Rattle.partition_step.proofs.Prepared.{prepares, none_yet}
use Rattle.partition_step.proofs.part.Part.prepare.Goals as goal

pub returns-clause-prepared : goal.returns-clause-prepared
returns-clause-prepared c =
    let cells : c.in_ok-cells.cells.items ≡ map (new_cell c.args.flat.now.names) c.args.uses.now = c.in_ok-cells.ensures ∙ ap (λ names. map (new_cell names) c.args.uses.now) c.as_slice.ensures in
    let room : length c.in_ok-clocks.clocks.items ≡ length c.in_ok-laid.laid.classes.items = sym c.in_ok-clocks.clocks.ok.0 ∙ c.in_ok-clocks.ensures.len ∙ c.len.ensures ∙ c.in_ok-laid.laid.classes.ok.0 in
    let coded : IfSome c.in_ok-code.code (IsCodeOf c.args.flat.now.equations c.args.flat.now.names c.in_ok-laid.laid.entries) = subst (λ es. IfSome c.in_ok-code.code (IsCodeOf c.args.flat.now.equations c.args.flat.now.names es)) c.as_slice-2.ensures c.in_ok-code.ensures.code in
    prepares c.args.flat.now c.args.clocking.now c.args.uses.now c.args.places.now c.place.new.places
    (record { entries = c.in_ok-laid.laid.entries; cells = c.in_ok-cells.cells; classes = c.in_ok-laid.laid.classes; clocks = c.in_ok-clocks.clocks; code = c.in_ok-code.code })
    c.in_ok-laid.ensures cells room coded c.place.ensures.own

pub returns-clause-fresh : goal.returns-clause-fresh
returns-clause-fresh c = λ x.
    let cells : c.in_ok-cells.cells.items ≡ map (new_cell c.args.flat.now.names) c.args.uses.now = c.in_ok-cells.ensures ∙ ap (λ names. map (new_cell names) c.args.uses.now) c.as_slice.ensures in
    none_yet c.args.flat.now.names c.args.uses.now c.place.new.places c.in_ok-cells.cells.items cells x
