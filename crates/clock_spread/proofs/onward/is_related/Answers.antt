use Rattle.std.proofs.Common.{refl}
use Rattle.clock_terms.specs.Position.{progression_of_grid}
use Rattle.clock_terms.specs.Asked.{converted}
use Rattle.clock_terms.proofs.Progressions.{same_sym, same_trans}
use Rattle.clock_terms.proofs.Conversions.{converted_proper, asks_converted, converted_asks}
use Rattle.clock_spread.proofs.Limits.{fine_not_too_fine, grid_proper}
use Rattle.clock_spread.proofs.onward.is_related.Goals as goal

pub returns-in-Some : goal.returns-in-Some
returns-in-Some c =
    let y = progression_of_grid c.args.derived in
    let u = progression_of_grid c.args.argument in
    let g = progression_of_grid c.in-Some.grid in
    let p = converted_proper c.args.by u c.requires.given (grid_proper c.args.argument) in (
      λ e. converted_asks c.args.by y u c.requires.given (grid_proper c.args.derived) (grid_proper c.args.argument)
          (same_trans y g (converted c.args.by u) (grid_proper c.in-Some.grid) (same_sym g y (c.are_same.ensures.0 e)) c.in-Some.ensures.value),
      λ h. c.are_same.ensures.1 (same_trans g (converted c.args.by u) y p c.in-Some.ensures.value
          (same_sym y (converted c.args.by u) (asks_converted c.args.by y u c.requires.given (grid_proper c.args.derived) (grid_proper c.args.argument) h))),
    )

pub returns-in-None : goal.returns-in-None
returns-in-None c =
    let y = progression_of_grid c.args.derived in
    let u = progression_of_grid c.args.argument in
    let p = converted_proper c.args.by u c.requires.given (grid_proper c.args.argument) in (
      λ e. absurd cc,
      λ h. absurd (fine_not_too_fine c.args.derived (converted c.args.by u) p
          (asks_converted c.args.by y u c.requires.given (grid_proper c.args.derived) (grid_proper c.args.argument) h) c.requires.derived (c.in-None.ensures.none.0 refl)),
    )
