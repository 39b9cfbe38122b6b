-- A row that is read in one pass: its record, its cells and its instant.
use Rattle.std.proofs.Common.{◌≡◌, ◌∙◌, ap, sym, subst, refl, ℕ, zero, suc, ◌+◌, ◌<◌, ◌≤◌, ◌⊎◌, inl, inr, false, List, [], ◌∷◌, ◌++◌, length, take, Some, slice_get, slice_index_or, arith}
use Rattle.std.specs.Borrow.{Bor}
use Rattle.std.proofs.lemmas.List.{append_assoc, length-append}
use Rattle.csv.specs.Machine.{Runs, next_record}
use Rattle.csv.specs.Reading.{default_config}
use Rattle.csv.specs.declared.parser.State.{State}
use Rattle.csv.specs.declared.parser.State.TheVariants as st
use Rattle.rational_time.specs.declared.ratio.Ratio.{Ratio}
use Rattle.rational_time.specs.Fraction.{Below}
use Rattle.sync_values.specs.declared.value.Value.{Value}
use Rattle.flat_model.specs.declared.model.FlatName.{FlatName}
use Rattle.input_table.specs.declared.header.Form.{Form}
use Rattle.input_table.specs.Fields.{Record, IsValue, text_in, trimmed}
use Rattle.input_table.specs.Rows.{ValueIs, written}
use Rattle.input_table.specs.private.Plain.{IsBetween, IsRecordStart, has_quote}
use Rattle.input_table.specs.private.Front.{IsPlain, AllPlain, InstantFront, ValueFront}
use Rattle.input_table.specs.private.Reading.{above_in, last_time}
use Rattle.input_table.specs.private.Quick.{in_columns, AreWritten, CellsFront, LineEnds, CellsTaken, RowTaken}
use Rattle.input_table.proofs.Columns.{in_push}
use Rattle.input_table.proofs.Cells.{row_read}
use Rattle.input_table.proofs.Fronts.{trimmed_plain}
use Rattle.input_table.proofs.PlainRecords.{joins, before_comma, before_line_end, behind_no_quote, rest_no_quote, first_field}

-- the record

runs_plain : (field : List ℕ) → IsPlain field → Runs default_config st.InField field
unfolding Runs
runs_plain [] p = tt
runs_plain (b ∷ rest) p = (joins b p.0.0 p.0.1 p.0.2, runs_plain rest p.1)

abbrev StandsFor : List ℕ → Record → List ℕ → Type 0
StandsFor text fields others = (after : State) × IsBetween after × (next_record default_config st.StartRecord [] [] text ≡ Some (fields, after, others)) × (has_quote others ≡ false)

-- the fields up to the end of the line
fields_taken : (fields : Record) (f : List ℕ) (cs : Record) (mark : ℕ) (others : List ℕ) → IsPlain f → AllPlain cs → (mark ≡ 13) ⊎ (mark ≡ 10) → has_quote (f ++ in_columns cs (mark ∷ others)) ≡ false
    → (after : State) × IsBetween after × (next_record default_config st.StartField fields [] (f ++ in_columns cs (mark ∷ others)) ≡ Some (fields ++ f ∷ cs, after, others)) × (has_quote others ≡ false)
fields_taken fields f [] mark others p all is none =
    let end = before_line_end fields f others mark (runs_plain f p) none is in
    (end.0, end.1, end.2, rest_no_quote mark others (behind_no_quote f (mark ∷ others) none))
fields_taken fields f (c ∷ cs) mark others p all is none =
    let behind = c ++ in_columns cs (mark ∷ others) in
    let no : has_quote behind ≡ false = rest_no_quote 44 behind (behind_no_quote f (44 ∷ behind) none) in
    let more = fields_taken (fields ++ f ∷ []) c cs mark others all.0 all.1 is no in (
      more.0,
      more.1,
      before_comma fields f behind (runs_plain f p) none ∙ more.2 ∙ ap (λ (r : Record). Some (r, more.0, others)) (append_assoc fields (f ∷ []) (c ∷ cs)),
      more.3,
    )

some_left : (fields : Record) (mark : ℕ) (others : List ℕ) → 0 < length (in_columns fields (mark ∷ others))
some_left [] mark others = omega arith
some_left (f ∷ fields) mark others = omega arith

record_taken : (text start end others f : List ℕ) (cs : Record) → LineEnds end others → start ≡ f ++ in_columns cs end → IsPlain f → AllPlain cs → IsRecordStart start
    → next_record default_config st.StartRecord [] [] start ≡ next_record default_config st.StartRecord [] [] text → has_quote start ≡ false → StandsFor text (f ∷ cs) others
record_taken text start end others f cs (mark, is, end_is) joined p all begins same none =
    let whole : start ≡ f ++ in_columns cs (mark ∷ others) = joined ∙ ap (λ e. f ++ in_columns cs e) end_is in
    let some : 0 < length start = omega (arith, ap length whole, length-append f (in_columns cs (mark ∷ others)), some_left cs mark others) in
    let goes = first_field text start some begins same in
    let fields = fields_taken [] f cs mark others p all is (subst (λ s. has_quote s ≡ false) whole none) in
    (fields.0, fields.1, goes ∙ ap (λ s. next_record default_config st.StartField [] [] s) whole ∙ fields.2, fields.3)

-- the cells

more_columns : (fields : Record) (f rest : List ℕ) → in_columns fields (44 ∷ (f ++ rest)) ≡ in_columns (fields ++ f ∷ []) rest
more_columns [] f rest = refl
more_columns (g ∷ fields) f rest = ap (λ r. 44 ∷ (g ++ r)) (more_columns fields f rest)

plain_push : (fields : Record) (f : List ℕ) → AllPlain fields → IsPlain f → AllPlain (fields ++ f ∷ [])
plain_push [] f all p = (p, tt)
plain_push (g ∷ fields) f all p = (all.0, plain_push fields f all.1 p)

field_before : (fields : Record) (f : List ℕ) (k : ℕ) → k < length fields → slice_index_or (fields ++ f ∷ []) k [] ≡ slice_index_or fields k []
field_before [] f k less = absurd (omega arith)
field_before (g ∷ fields) f zero less = refl
field_before (g ∷ fields) f (suc k) less = field_before fields f k (omega arith)

field_last : (fields : Record) (f : List ℕ) → slice_index_or (fields ++ f ∷ []) (length fields) [] ≡ f
field_last [] f = refl
field_last (g ∷ fields) f = field_last fields f

plain_at : (fields : Record) (k : ℕ) → AllPlain fields → IsPlain (slice_index_or fields k [])
plain_at [] k all = tt
plain_at (g ∷ fields) zero all = all.0
plain_at (g ∷ fields) (suc k) all = plain_at fields k all.1

module _ (names : List FlatName) (columns : List ℕ) (text : List ℕ) (old : List Value) where
  pub no_cells : CellsFront names columns text old 0 text old
  no_cells = record {
    fields = [];
    values = [];
    joined = refl;
    plain = tt;
    long = refl;
    wide = refl;
    new_is = nil_right old;
    written = λ k v there. cc;
  }
    where
      nil_right : (vs : List Value) → vs ≡ vs ++ []
      nil_right [] = refl
      nil_right (v ∷ vs) = ap (λ (w : List Value). v ∷ w) (nil_right vs)

  -- one cell more
  pub cells_more : (new new_ : List Value) (count x : ℕ) (rest field behind : List ℕ) (name : FlatName) (v : Value) → CellsFront names columns text old count rest new → rest ≡ 44 ∷ field
      → ValueFront field name.kind v behind → slice_get columns count ≡ Some x → slice_get names x ≡ Some name → new_ ≡ new ++ v ∷ [] → CellsFront names columns text old (count + 1) behind new_
  cells_more new new_ count x rest field behind name v cells rest_is front column found pushed = record {
    fields = cells.fields ++ front.field ∷ [];
    values = cells.values ++ v ∷ [];
    joined = cells.joined ∙ ap (λ r. in_columns cells.fields r) (rest_is ∙ ap (λ r. 44 ∷ r) front.joined) ∙ more_columns cells.fields front.field behind;
    plain = plain_push cells.fields front.field cells.plain front.plain;
    long = omega (arith, length-append cells.fields (front.field ∷ []), cells.long);
    wide = omega (arith, length-append cells.values (v ∷ []), cells.wide);
    new_is = pushed ∙ ap (λ (vs : List Value). vs ++ v ∷ []) cells.new_is ∙ append_assoc old cells.values (v ∷ []);
    written = λ k w there. elim (in_push cells.values v w k there) [
      | inl before ↦
          let was = cells.written k w before.1 in
          (was.0, was.1, was.2, was.3, subst (λ f. IsValue f was.1.kind w) (sym (field_before cells.fields front.field k (omega (arith, before.0, cells.long, cells.wide)))) was.4)
      | inr last ↦
          let at : k ≡ count = omega (arith, last.0, cells.wide) in
          let place : k ≡ length cells.fields = omega (arith, at, cells.long) in
          let field_is : front.field ≡ slice_index_or (cells.fields ++ front.field ∷ []) k [] = sym (ap (λ n. slice_index_or (cells.fields ++ front.field ∷ []) n []) place ∙ field_last cells.fields front.field) in
          (x, name, subst (λ n. slice_get columns n ≡ Some x) (sym at) column, found, subst (λ f. IsValue f name.kind w) field_is (subst (λ u. IsValue front.field name.kind u) (sym last.1) front.value))
    ];
  }

-- the row

module _ (form : Form) (names : List FlatName) (columns : List ℕ) where
  values_are : (f : List ℕ) (fields : Record) (values old : List Value) → AllPlain fields → AreWritten names columns fields values
      → (k : ℕ) (v : Value) → slice_get values k ≡ Some v → ValueIs form names columns (above_in (length columns) old k) (f ∷ fields) k v
  values_are f fields values old all were k v there =
      let is = were k v there in
      let next : k + 1 ≡ suc k = omega arith in
      let field_is : slice_index_or (f ∷ fields) (k + 1) [] ≡ slice_index_or fields k [] = ap (λ n. slice_index_or (f ∷ fields) n []) next in
      let text_is : slice_index_or fields k [] ≡ text_in (f ∷ fields) (k + 1) = sym (ap trimmed field_is ∙ trimmed_plain (slice_index_or fields k []) (plain_at fields k all)) in
      (is.0, is.1, is.2, is.3, written (subst (λ t. IsValue t is.1.kind v) text_is is.4))

  pub row_taken : (text start behind : List ℕ) (before t : Ratio) (times times_ : List Ratio) (old new : List Value) (rest : Bor (List ℕ)) → Some before ≡ last_time times
      → next_record default_config st.StartRecord [] [] start ≡ next_record default_config st.StartRecord [] [] text → IsRecordStart start → (has_quote text ≡ false → has_quote start ≡ false)
      → InstantFront form before start t behind → Below before t → CellsTaken names columns behind old (Some rest) new → times_ ≡ times ++ t ∷ []
      → RowTaken form names columns text times old (Some rest) times_ new
  row_taken text start behind before t times times_ old new rest last same begins quotes instant rises (end, ends, cells) pushed = λ none. (
    instant.field ∷ cells.fields,
    record_taken text start end rest.now instant.field cells.fields ends (instant.joined ∙ ap (λ b. instant.field ++ b) cells.joined) instant.plain cells.plain begins same (quotes none),
    λ rows hold.
        row_read form names columns (instant.field ∷ cells.fields) rows times times_ old new (Some before) instant.field t 0 tt hold last
        (sym (trimmed_plain instant.field instant.plain)) (omega (arith, cells.long)) (instant.instant, rises, instant.range)
        (cells.values, cells.new_is, cells.wide, values_are instant.field cells.fields cells.values old cells.plain cells.written) pushed,
  )

-- the elements that are kept

pub take_front : {A : Type 0} (n : ℕ) (xs ys : List A) → n ≤ length xs → take n (xs ++ ys) ≡ take n xs
take_front zero xs ys le = refl
take_front (suc n) [] ys le = absurd (omega arith)
take_front (suc n) (x ∷ xs) ys le = ap (λ l. x ∷ l) (take_front n xs ys (omega arith))
