use Rattle.std.proofs.Common.{◌≡◌, ◌<◌, rules, subst, sym, [], ◌∷◌, length, false}
use Rattle.csv.specs.Machine.{Runs, next_record}
use Rattle.csv.specs.Reading.{default_config}
use Rattle.csv.specs.Records.{fields_of, partial_of}
use Rattle.csv.specs.declared.parser.State.TheVariants as st
use Rattle.input_table.specs.private.Plain.{IsFieldEnd, has_quote}
use Rattle.input_table.proofs.PlainRecords.{no_record, first_field, comma_step, line_step, end_step}
use Rattle.input_table.proofs.plain.take_record.Goals as goal

pub returns-then-is_empty : goal.returns-then-is_empty
returns-then-is_empty c = λ _.
    let short : length c.without_line_ends-rest.result.now ≡ 0 = search rules in
    no_record c.args.text.now c.without_line_ends-rest.result.now short c.without_line_ends-rest.ensures.same

pub fields-init : goal.fields-init
fields-init c =
    let some : 0 < length c.without_line_ends-rest.result.now = search rules in record {
      goes = λ _. rw c.clear.ensures.fields (first_field c.args.text.now c.without_line_ends-rest.result.now some c.without_line_ends-rest.ensures.start c.without_line_ends-rest.ensures.same);
      quotes = c.without_line_ends-rest.ensures.quotes;
      whole = c.clear.ensures.partial;
    }

pub fields-preserved : goal.fields-preserved
fields-preserved c =
    let runs : Runs default_config st.InField c.split_at.result.0.now = subst (λ f. Runs default_config st.InField f) (sym c.split_at.ensures.front) c.field_len.ensures.field in
    let comma : c.split_at.result.1.now ≡ 44 ∷ c.in-Some.others.now = search rules in
    let more : (no : has_quote c.args.text.now ≡ false)
    → (next_record default_config st.StartRecord [] [] c.args.text.now ≡ next_record default_config st.StartField (fields_of c.push_field.new.self) [] c.in-Some.others.now) × (has_quote c.in-Some.others.now ≡ false) =
    λ no. comma_step c.args.text.now c.fields.rest.now c.split_at.result.0.now c.split_at.result.1.now (fields_of c.fields.row) (fields_of c.push_field.new.self) (partial_of c.fields.row)
    (c.fields.invariant.goes no) (c.fields.invariant.quotes no) c.fields.invariant.whole c.split_at.ensures.by_index.0 runs c.in_ok-push_field.ensures.fields c.in-Some.others.now comma in
    record { goes = λ no. (more no).0; quotes = λ no. (more no).1; whole = c.in_ok-push_field.ensures.partial }

pub returns-then-mark-ne44 : goal.returns-then-mark-ne44
returns-then-mark-ne44 c = λ no.
    let runs : Runs default_config st.InField c.split_at.result.0.now = subst (λ f. Runs default_config st.InField f) (sym c.split_at.ensures.front) c.field_len.ensures.field in
    let end : IsFieldEnd c.split_at.result.1.now = subst IsFieldEnd (sym c.split_at.ensures.back) c.field_len.ensures.end in
    line_step c.args.text.now c.fields.rest.now c.split_at.result.0.now c.split_at.result.1.now (fields_of c.fields.row) (fields_of c.push_field.new.self) (partial_of c.fields.row)
    (c.fields.invariant.goes no) (c.fields.invariant.quotes no) c.fields.invariant.whole c.split_at.ensures.by_index.0 runs c.in_ok-push_field.ensures.fields
    c.in-Some.mark.now c.in-Some.others.now c.in-Some.ensures.cases.0 c.if-mark-ne44.true end

pub returns-in_default : goal.returns-in_default
returns-in_default c = λ no.
    let runs : Runs default_config st.InField c.split_at.result.0.now = subst (λ f. Runs default_config st.InField f) (sym c.split_at.ensures.front) c.field_len.ensures.field in
    end_step c.args.text.now c.fields.rest.now c.split_at.result.0.now c.split_at.result.1.now (fields_of c.fields.row) (fields_of c.push_field.new.self) (partial_of c.fields.row)
    (c.fields.invariant.goes no) (c.fields.invariant.quotes no) c.fields.invariant.whole c.split_at.ensures.by_index.0 runs c.in_ok-push_field.ensures.fields c.in_default.ensures.cases
