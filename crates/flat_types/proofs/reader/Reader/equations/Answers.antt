use Rattle.std.proofs.Common.{◌<◌, ◌∙◌, sym, length, arith, refl}
use Rattle.std.proofs.lemmas.Option.{slice_get_read}
use Rattle.flat_types.specs.private.Checked.{checked}
use Rattle.flat_types.proofs.OneAnswer.{right_before}
use Rattle.flat_types.proofs.reader.Reader.equations.Goals as goal

pub returns-in-Err : goal.returns-in-Err
returns-in-Err c =
    let within : c.loop-i.i < length c.args.equations.now = omega arith in (
      (
        c.index-equations-i.result,
        slice_get_read c.args.equations.now (length c.args.equations.now) c.loop-i.i c.index-equations-i.result refl within c.index-equations-i.is,
        sym c.in_ok-equation.ensures ∙ c.in-Err.is,
      ),
      right_before (checked c.args.self.now.names.now c.args.clocks.now) c.args.equations.now c.loop-i.found c.loop-i.i c.loop-i.invariant.found,
    )
