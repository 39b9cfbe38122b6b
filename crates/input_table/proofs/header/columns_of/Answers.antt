use Rattle.std.proofs.Common.{◌≡◌, ◌∙◌, sym, subst, arith, length}
use Rattle.csv.specs.Records.{fields_of}
use Rattle.input_table.specs.private.Finding.{AreNoted}
use Rattle.input_table.proofs.Columns.{all_right, missing_is, restored}
use Rattle.input_table.proofs.header.columns_of.Goals as goal

pub returns-in-None : goal.returns-in-None
returns-in-None c =
    let long : length c.columns_seen.new.seen ≡ c.in_ok-seen.seen.len = omega arith in
    let same : c.deref.result.now ≡ c.columns_seen.new.seen = c.deref.ensures.value ∙ restored c.columns_seen.new.seen c.in_ok-seen.seen.items c.in_ok-seen.seen.len long in
    let noted = subst (λ seen. AreNoted c.in_ok-columns.columns seen) (sym same) c.in_ok-columns.ensures.noted in
    c.in-None.ensures (fields_of c.args.header.now) c.in_ok-columns.columns c.requires.names c.in_ok-columns.ensures.columns noted

pub returns : goal.returns
returns c =
    let long : length c.columns_seen.new.seen ≡ c.in_ok-seen.seen.len = omega arith in
    let same : c.deref.result.now ≡ c.columns_seen.new.seen = c.deref.ensures.value ∙ restored c.columns_seen.new.seen c.in_ok-seen.seen.items c.in_ok-seen.seen.len long in
    let noted = subst (λ seen. AreNoted c.in_ok-columns.columns seen) (sym same) c.in_ok-columns.ensures.noted in
    missing_is c.args.names.now (fields_of c.args.header.now) c.in-Some.text.now c.missing.result c.missing.ensures
    (all_right c.args.names.now c.requires.names (fields_of c.args.header.now) c.in_ok-columns.columns c.in_ok-columns.ensures.columns)
    (c.in-Some.ensures (fields_of c.args.header.now) c.in_ok-columns.columns c.requires.names c.in_ok-columns.ensures.columns noted)
