use Rattle.std.proofs.Common.{rules, ◌≡◌, subst}
use Rattle.step_code.specs.declared.compile.NoCode.TheVariants.{Unknown, Large}
use Rattle.part_code.specs.Uncoded.{HasNoCode}
use Rattle.part_code.specs.private.Refused.{IsDueTo}
use Rattle.part_code.proofs.preparing.prepare_code.Goals as goal

pub returns-in-Err-Unknown-clause-none : goal.returns-in-Err-Unknown-clause-none
returns-in-Err-Unknown-clause-none c =
    let kind : c.in-Err-Unknown.field-0 ≡ Unknown = search rules in
    subst (IsDueTo (HasNoCode c.args.flat.now.equations c.args.flat.now.names c.args.entries.now)) kind c.in-Err-Unknown.ensures.refused

pub returns-in-Err-Large-clause-none : goal.returns-in-Err-Large-clause-none
returns-in-Err-Large-clause-none c =
    let kind : c.in-Err-Large.field-0 ≡ Large = search rules in
    subst (IsDueTo (HasNoCode c.args.flat.now.equations c.args.flat.now.names c.args.entries.now)) kind c.in-Err-Large.ensures.refused
