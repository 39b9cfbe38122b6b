use Rattle.std.proofs.Common.{◌≡◌, ◌<◌, ◌∙◌, sym, refl, rules, arith, subst, length, None, Some, set, ◌+◌, ◌++◌, ◌∷◌, [], true}
use Rattle.std.proofs.lemmas.List.{length-set}
use Rattle.std.proofs.lemmas.Option.{slice_get_within}
use Rattle.csv.specs.Records.{fields_of}
use Rattle.input_table.specs.Fields.{text_in}
use Rattle.input_table.specs.private.Finding.{AreFirst, AreNoted}
use Rattle.input_table.proofs.Columns.{is_no_input, is_repeated, first_more, noted_one_more}
use Rattle.input_table.proofs.Found.{found_of}
use Rattle.input_table.proofs.header.columns_seen.Goals as goal

pub returns-in_default-clause-columns : goal.returns-in_default-clause-columns
returns-in_default-clause-columns c =
    let names = c.args.names.now in
    let fields = fields_of c.args.header.now in
    let none = found_of names c.args.inputs.now.entries c.text_in.result.now (text_in fields c.loop-place.place) None c.requires.found c.text_in.ensures c.in_default.ensures in
    let within : c.loop-place.place < length fields = omega arith in
    (refl, c.loop-place.place, refl, is_no_input names c.requires.names fields c.loop-place.place c.loop-place.columns c.loop-place.invariant.first within none)

pub bounds-seen-x : goal.bounds-seen-x
bounds-seen-x c =
    let names = c.args.names.now in
    let is = found_of names c.args.inputs.now.entries c.text_in.result.now (text_in (fields_of c.args.header.now) c.loop-place.place) (Some c.in-Some.x) c.requires.found c.text_in.ensures c.in-Some.ensures in
    let less = slice_get_within names c.in-Some.x is.0 is.1 in
    omega (arith, less, c.loop-place.invariant.long)

pub returns-then-seen-x-clause-columns : goal.returns-then-seen-x-clause-columns
returns-then-seen-x-clause-columns c =
    let names = c.args.names.now in
    let fields = fields_of c.args.header.now in
    let is = found_of names c.args.inputs.now.entries c.text_in.result.now (text_in fields c.loop-place.place) (Some c.in-Some.x) c.requires.found c.text_in.ensures c.in-Some.ensures in
    let within : c.loop-place.place < length fields = omega arith in
    (refl, c.loop-place.place, refl, is_repeated names c.requires.names fields c.loop-place.place c.loop-place.columns c.loop-place.seen c.in-Some.x c.loop-place.invariant.first c.loop-place.invariant.noted within is c.if-seen-x.true)

pub bounds-seen-x-in-loop-place : goal.bounds-seen-x-in-loop-place
bounds-seen-x-in-loop-place c =
    let names = c.args.names.now in
    let is = found_of names c.args.inputs.now.entries c.text_in.result.now (text_in (fields_of c.args.header.now) c.loop-place.place) (Some c.in-Some.x) c.requires.found c.text_in.ensures c.in-Some.ensures in
    let less = slice_get_within names c.in-Some.x is.0 is.1 in
    omega (arith, less, c.loop-place.invariant.long)

pub loop-place-preserved : goal.loop-place-preserved
loop-place-preserved c =
    let names = c.args.names.now in
    let fields = fields_of c.args.header.now in
    let is = found_of names c.args.inputs.now.entries c.text_in.result.now (text_in fields c.loop-place.place) (Some c.in-Some.x) c.requires.found c.text_in.ensures c.in-Some.ensures in
    let less = slice_get_within names c.in-Some.x is.0 is.1 in
    let pushed : c.push.new.self ≡ c.loop-place.columns ++ c.in-Some.x ∷ [] = search rules in
    let inv = c.loop-place.invariant in
    let first = first_more names c.requires.names fields c.loop-place.place c.loop-place.columns c.loop-place.seen c.in-Some.x inv.first inv.noted is c.if-seen-x.false in
    let noted = noted_one_more c.loop-place.columns c.loop-place.seen c.in-Some.x inv.noted (omega (arith, less, inv.long)) in
    record {
      long = length-set c.loop-place.seen c.in-Some.x true ∙ inv.long;
      first = subst (λ columns. AreFirst names fields (c.loop-place.place + 1) columns) (sym pushed) first;
      noted = subst (λ columns. AreNoted columns (set c.loop-place.seen c.in-Some.x true)) (sym pushed) noted;
    }
