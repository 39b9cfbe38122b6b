use Rattle.std.proofs.Common.{ℕ, List, Option, Some, None, subst}
use Rattle.mo_parser.specs.declared.tree.ClassDef.{ClassDef}
use Rattle.class_scopes.specs.Faults.{IsFirstPlace, IsFirstOf, IsKept}
use Rattle.class_scopes.specs.declared.end.NameCode.{NameCode}
use Rattle.class_scopes.specs.declared.end.NameCode.TheVariants as code
use Rattle.flat_answer.specs.Broken.{Breaks}
use Rattle.mo_flatten.proofs.Staged.{placed_first, placed_kept, five_end, eight_end, nine_end, eleven_end, keeps_eleven}
use Rattle.mo_flatten.proofs.rules.ordered.Goals as goal

pub returns-in-Some : goal.returns-in-Some
returns-in-Some c =
    let named = c.args.scopes.now.named in
    five_end named.file.text.now named.file.classes.now named.chosen c.in_ok-order.ensures.1 c.in-Some.at
    (placed_first (Breaks named.file.text.now named.file.classes.now (Some named.chosen) code.N5) c.in_ok-at.field-0 c.in-Some.at c.in_ok-at.ensures c.in-Some.is)

pub returns-in-Some-unfit_connect : goal.returns-in-Some-unfit_connect
returns-in-Some-unfit_connect c =
    let named = c.args.scopes.now.named in
    let five = placed_kept (Breaks named.file.text.now named.file.classes.now (Some named.chosen) code.N5) c.in_ok-at.field-0 c.in_ok-at.ensures c.in-None.is in
    eight_end named.file.text.now named.file.classes.now named.chosen c.in_ok-order.ensures.1 five c.in-Some-unfit_connect.at c.in-Some-unfit_connect.ensures

pub returns-in-Some-refused_type : goal.returns-in-Some-refused_type
returns-in-Some-refused_type c =
    let named = c.args.scopes.now.named in
    let five = placed_kept (Breaks named.file.text.now named.file.classes.now (Some named.chosen) code.N5) c.in_ok-at.field-0 c.in_ok-at.ensures c.in-None.is in
    nine_end named.file.text.now named.file.classes.now named.chosen c.in_ok-order.ensures.1 five c.in-None-unfit_connect.ensures c.in-Some-refused_type.at c.in-Some-refused_type.ensures

pub returns-in-Some-2 : goal.returns-in-Some-2
returns-in-Some-2 c =
    let named = c.args.scopes.now.named in
    let five = placed_kept (Breaks named.file.text.now named.file.classes.now (Some named.chosen) code.N5) c.in_ok-at.field-0 c.in_ok-at.ensures c.in-None.is in
    eleven_end named.file.text.now named.file.classes.now named.chosen c.in_ok-order.ensures.1 five c.in-None-unfit_connect.ensures c.in-None-refused_type.ensures c.in-Some-2.at
    (placed_first (Breaks named.file.text.now named.file.classes.now (Some named.chosen) code.N11) c.in_ok-at-2.field-0 c.in-Some-2.at c.in_ok-at-2.ensures c.in-Some-2.is)

pub returns-in-None-2 : goal.returns-in-None-2
returns-in-None-2 c =
    let named = c.args.scopes.now.named in
    let five = placed_kept (Breaks named.file.text.now named.file.classes.now (Some named.chosen) code.N5) c.in_ok-at.field-0 c.in_ok-at.ensures c.in-None.is in
    let eleven = placed_kept (Breaks named.file.text.now named.file.classes.now (Some named.chosen) code.N11) c.in_ok-at-2.field-0 c.in_ok-at-2.ensures c.in-None-2.is in (
      c.in_ok-order.ensures.0,
      keeps_eleven named.file.text.now named.file.classes.now named.chosen c.in_ok-order.ensures.1 five c.in-None-unfit_connect.ensures c.in-None-refused_type.ensures eleven,
    )
