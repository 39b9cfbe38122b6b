-- The records of a text without quotes, field by field.
use Rattle.std.proofs.Common.{◌≡◌, ◌≢◌, ◌∙◌, ap, sym, subst, refl, ℕ, ◌==◌, ◌||◌, ◌++◌, List, [], ◌∷◌, Bool, true, false, Some, None, ◌⊎◌, inl, inr, arith, eqb-true, suc, ◌+◌, ◌<◌, length, take, get_or}
use Rattle.std.proofs.lemmas.Bool.{ne_eqb}
use Rattle.csv.specs.Machine.{Runs, next_record, step}
use Rattle.csv.specs.Reading.{default_config, strip_bom}
use Rattle.csv.specs.declared.parser.Action.TheVariants as act
use Rattle.csv.specs.declared.parser.State.{State}
use Rattle.csv.specs.declared.parser.State.TheVariants as st
use Rattle.csv.proofs.ReadFacts.{run-copies, runs-step}
use Rattle.std.proofs.Math.Seq.{take-suc}
use Rattle.input_table.specs.Fields.{Record}
use Rattle.input_table.specs.private.Plain.{has_quote, IsFieldEnd, IsRecordStart}

-- a text without quotes has none in front and none behind
pub first_no_quote : (byte : ℕ) (rest : List ℕ) → has_quote (byte ∷ rest) ≡ false → (byte == 34) ≡ false
first_no_quote byte rest none = left (byte == 34) (has_quote rest) none
  where
    left : (a b : Bool) → (a || b) ≡ false → a ≡ false
    left true b e = cc
    left false b e = refl

pub rest_no_quote : (byte : ℕ) (rest : List ℕ) → has_quote (byte ∷ rest) ≡ false → has_quote rest ≡ false
rest_no_quote byte rest none = right (byte == 34) (has_quote rest) none
  where
    right : (a b : Bool) → (a || b) ≡ false → b ≡ false
    right true b e = cc
    right false b e = e

pub behind_no_quote : (front behind : List ℕ) → has_quote (front ++ behind) ≡ false → has_quote behind ≡ false
behind_no_quote [] behind none = none
behind_no_quote (byte ∷ front) behind none = behind_no_quote front behind (rest_no_quote byte (front ++ behind) none)

-- a byte that ends no field joins the field at hand
pub joins : (byte : ℕ) → byte ≢ 44 → byte ≢ 13 → byte ≢ 10 → step default_config st.InField byte ≡ (st.InField, act.Copy)
joins byte a b d = rw (ne_eqb byte 44 a, ne_eqb byte 13 b, ne_eqb byte 10 d) refl

-- behind a return stands what stands at the start of a record
pub after_cr : (xs : List ℕ) → next_record default_config st.AfterCr [] [] xs ≡ next_record default_config st.StartRecord [] [] xs
unfolding next_record
after_cr [] = refl
after_cr (byte ∷ rest) = by_feed (byte == 10) refl
  where
    by_feed : (b : Bool) → (byte == 10) ≡ b → next_record default_config st.AfterCr [] [] (byte ∷ rest) ≡ next_record default_config st.StartRecord [] [] (byte ∷ rest)
    by_feed false e = rw e refl
    by_feed true e = let is : byte ≡ 10 = eqb-true byte 10 e in rw is refl

-- an end of a line before a record is passed over
pub skip_line_end : (byte : ℕ) (rest : List ℕ) → (byte ≡ 13) ⊎ (byte ≡ 10) → next_record default_config st.StartRecord [] [] (byte ∷ rest) ≡ next_record default_config st.StartRecord [] [] rest
unfolding next_record
skip_line_end byte rest (inl is) = rw is refl
skip_line_end byte rest (inr is) = rw is refl

-- a record begins with its first field
pub begins_field : (text : List ℕ) → (text ≡ [] → ⊥) → IsRecordStart text → next_record default_config st.StartRecord [] [] text ≡ next_record default_config st.StartField [] [] text
unfolding next_record
begins_field [] some start = absurd (some refl)
begins_field (byte ∷ rest) some start = rw (ne_eqb byte 13 start.0, ne_eqb byte 10 start.1) refl

-- a field is taken up to its end
data Within : State → Type 0 where
  within : Within st.InField
  at_start : Within st.StartField

field_taken : (fields : Record) (field behind : List ℕ) → Runs default_config st.InField field → has_quote (field ++ behind) ≡ false
    → (state : State) × Within state × (next_record default_config st.StartField fields [] (field ++ behind) ≡ next_record default_config state fields field behind)
unfolding next_record Runs
field_taken fields [] behind runs none = (st.StartField, at_start, refl)
field_taken fields (byte ∷ field) behind runs none =
    let here : step default_config st.StartField byte ≡ (st.InField, act.Copy) = rw (first_no_quote byte (field ++ behind) none) runs.0 in
    (st.InField, within, rw here (run-copies default_config st.InField fields (byte ∷ []) field behind runs.1))

ends_at_comma : (state : State) (fields : Record) (field rest : List ℕ) → Within state → next_record default_config state fields field (44 ∷ rest) ≡ next_record default_config st.StartField (fields ++ field ∷ []) [] rest
unfolding next_record
ends_at_comma state fields field rest within = refl
ends_at_comma state fields field rest at_start = refl

ends_at_line : (state : State) (fields : Record) (field rest : List ℕ) (byte : ℕ) → Within state → (byte ≡ 13) ⊎ (byte ≡ 10)
    → (after : State) × ((after ≡ st.StartRecord) ⊎ (after ≡ st.AfterCr)) × (next_record default_config state fields field (byte ∷ rest) ≡ Some (fields ++ field ∷ [], after, rest))
unfolding next_record
ends_at_line state fields field rest byte within (inl is) = (st.AfterCr, inr refl, rw is refl)
ends_at_line state fields field rest byte within (inr is) = (st.StartRecord, inl refl, rw is refl)
ends_at_line state fields field rest byte at_start (inl is) = (st.AfterCr, inr refl, rw is refl)
ends_at_line state fields field rest byte at_start (inr is) = (st.StartRecord, inl refl, rw is refl)

ends_at_end : (state : State) (fields : Record) (field : List ℕ) → Within state → next_record default_config state fields field [] ≡ Some (fields ++ field ∷ [], st.StartRecord, [])
unfolding next_record
ends_at_end state fields field within = refl
ends_at_end state fields field at_start = refl

-- a field before a comma, before the end of a line, and before the end of the text
pub before_comma : (fields : Record) (field rest : List ℕ) → Runs default_config st.InField field → has_quote (field ++ 44 ∷ rest) ≡ false
    → next_record default_config st.StartField fields [] (field ++ 44 ∷ rest) ≡ next_record default_config st.StartField (fields ++ field ∷ []) [] rest
before_comma fields field rest runs none =
    let taken = field_taken fields field (44 ∷ rest) runs none in taken.2 ∙ ends_at_comma taken.0 fields field rest taken.1

pub before_line_end : (fields : Record) (field rest : List ℕ) (byte : ℕ) → Runs default_config st.InField field → has_quote (field ++ byte ∷ rest) ≡ false → (byte ≡ 13) ⊎ (byte ≡ 10)
    → (after : State) × ((after ≡ st.StartRecord) ⊎ (after ≡ st.AfterCr)) × (next_record default_config st.StartField fields [] (field ++ byte ∷ rest) ≡ Some (fields ++ field ∷ [], after, rest))
before_line_end fields field rest byte runs none is =
    let taken = field_taken fields field (byte ∷ rest) runs none in
    let end = ends_at_line taken.0 fields field rest byte taken.1 is in
    (end.0, end.1, taken.2 ∙ end.2)

pub before_end : (fields : Record) (field behind : List ℕ) → behind ≡ [] → Runs default_config st.InField field → has_quote (field ++ behind) ≡ false
    → next_record default_config st.StartField fields [] (field ++ behind) ≡ Some (fields ++ field ∷ [], st.StartRecord, behind)
before_end fields field behind is runs none =
    let taken = field_taken fields field behind runs none in
    taken.2 ∙ at_end taken.0 behind taken.1 is
  where
    at_end : (state : State) (behind : List ℕ) → Within state → behind ≡ [] → next_record default_config state fields field behind ≡ Some (fields ++ field ∷ [], st.StartRecord, behind)
    at_end state behind w none = rw none (ends_at_end state fields field w)

-- a text without a mark
pub no_mark : (text : List ℕ) → length text ≡ 0 → strip_bom text ≡ text
unfolding strip_bom
no_mark [] short = refl
no_mark (byte ∷ rest) short = absurd (omega arith)

pub other_first : (text rest : List ℕ) (first : ℕ) → text ≡ first ∷ rest → (first == 239) ≡ false → strip_bom text ≡ text
unfolding strip_bom
other_first text rest first is other = rw is (kept rest)
  where
    kept : (rest : List ℕ) → strip_bom (first ∷ rest) ≡ first ∷ rest
    kept [] = refl
    kept (b ∷ []) = refl
    kept (b ∷ c ∷ more) = rw other refl

-- no byte and one more byte of a field
pub runs_none : Runs default_config st.InField []
unfolding Runs
runs_none = tt

pub runs_more : (text : List ℕ) (at : ℕ) → at < length text → get_or text at 0 ≢ 44 → get_or text at 0 ≢ 13 → get_or text at 0 ≢ 10
    → Runs default_config st.InField (take at text) → Runs default_config st.InField (take (at + 1) text)
runs_more text at inside a b d runs =
    let more : take (at + 1) text ≡ take at text ++ get_or text at 0 ∷ [] = subst (λ n. take n text ≡ take at text ++ get_or text at 0 ∷ []) (let e : suc at ≡ at + 1 = omega arith in e) (take-suc text at 0 inside) in
    subst (λ t. Runs default_config st.InField t) (sym more) (runs-step default_config st.InField (take at text) (get_or text at 0) runs (joins (get_or text at 0) a b d))

-- an end of a line in front is passed over
pub passed : (text rest others : List ℕ) (first : ℕ) → rest ≡ first ∷ others → (first ≡ 13) ⊎ (first ≡ 10) → next_record default_config st.StartRecord [] [] rest ≡ next_record default_config st.StartRecord [] [] text
    → next_record default_config st.StartRecord [] [] others ≡ next_record default_config st.StartRecord [] [] text
passed text rest others first is end same = sym (skip_line_end first others end) ∙ ap (λ r. next_record default_config st.StartRecord [] [] r) (sym is) ∙ same

pub none_in_rest : (rest others : List ℕ) (first : ℕ) → rest ≡ first ∷ others → has_quote rest ≡ false → has_quote others ≡ false
none_in_rest rest others first is none = rest_no_quote first others (subst (λ r. has_quote r ≡ false) is none)

pub starts_record : (rest others : List ℕ) (first : ℕ) → rest ≡ first ∷ others → first ≢ 13 → first ≢ 10 → IsRecordStart rest
starts_record rest others first is a b = rw is (a, b)

pub nothing_starts : (rest : List ℕ) → length rest ≡ 0 → IsRecordStart rest
nothing_starts [] short = tt
nothing_starts (byte ∷ rest) short = absurd (omega arith)

-- no record in an empty text
pub no_record : (text rest : List ℕ) → length rest ≡ 0 → next_record default_config st.StartRecord [] [] rest ≡ next_record default_config st.StartRecord [] [] text → next_record default_config st.StartRecord [] [] text ≡ None
unfolding next_record
no_record text [] short same = sym same
no_record text (byte ∷ rest) short same = absurd (omega arith)

pub first_field : (text rest : List ℕ) → 0 < length rest → IsRecordStart rest → next_record default_config st.StartRecord [] [] rest ≡ next_record default_config st.StartRecord [] [] text
    → next_record default_config st.StartRecord [] [] text ≡ next_record default_config st.StartField [] [] rest
first_field text rest some start same = sym same ∙ begins_field rest (λ empty. let none : length rest ≡ 0 = ap length empty in omega arith) start

module _ (text rest field behind : List ℕ) (fields fields_ : Record) (partial : List ℕ)
    (goes : next_record default_config st.StartRecord [] [] text ≡ next_record default_config st.StartField fields [] rest)
    (quotes : has_quote rest ≡ false) (whole : partial ≡ []) (joined : rest ≡ field ++ behind) (runs : Runs default_config st.InField field)
    (pushed : fields_ ≡ fields ++ (partial ++ field) ∷ []) where
  none : has_quote (field ++ behind) ≡ false
  none = subst (λ r. has_quote r ≡ false) joined quotes

  goes_on : next_record default_config st.StartRecord [] [] text ≡ next_record default_config st.StartField fields [] (field ++ behind)
  goes_on = goes ∙ ap (λ r. next_record default_config st.StartField fields [] r) joined

  pushed_field : fields ++ field ∷ [] ≡ fields_
  pushed_field = sym (pushed ∙ ap (λ p. fields ++ (p ++ field) ∷ []) whole)

  -- one field more, before a comma
  pub comma_step : (others : List ℕ) → behind ≡ 44 ∷ others
      → (next_record default_config st.StartRecord [] [] text ≡ next_record default_config st.StartField fields_ [] others) × (has_quote others ≡ false)
  comma_step others is =
      let no = subst (λ b. has_quote (field ++ b) ≡ false) is none in (
        goes_on ∙ ap (λ b. next_record default_config st.StartField fields [] (field ++ b)) is ∙ before_comma fields field others runs no ∙ ap (λ f. next_record default_config st.StartField f [] others) pushed_field,
        rest_no_quote 44 others (behind_no_quote field (44 ∷ others) no),
      )

  -- the last field, before the end of a line
  pub line_step : (mark : ℕ) (others : List ℕ) → behind ≡ mark ∷ others → mark ≢ 44 → IsFieldEnd behind
      → (state : State) × ((state ≡ st.StartRecord) ⊎ (state ≡ st.AfterCr)) × (next_record default_config st.StartRecord [] [] text ≡ Some (fields_, state, others)) × (has_quote others ≡ false)
  line_step mark others is other end =
      let no = subst (λ b. has_quote (field ++ b) ≡ false) is none in
      let marks : (mark ≡ 44) ⊎ ((mark ≡ 13) ⊎ (mark ≡ 10)) = subst IsFieldEnd is end in
      let last = before_line_end fields field others mark runs no (without_comma mark other marks) in (
        last.0,
        last.1,
        goes_on ∙ ap (λ b. next_record default_config st.StartField fields [] (field ++ b)) is ∙ last.2 ∙ ap (λ (f : Record). Some (f, last.0, others)) pushed_field,
        rest_no_quote mark others (behind_no_quote field (mark ∷ others) no),
      )
    where
      without_comma : (mark : ℕ) → mark ≢ 44 → (mark ≡ 44) ⊎ ((mark ≡ 13) ⊎ (mark ≡ 10)) → (mark ≡ 13) ⊎ (mark ≡ 10)
      without_comma mark other (inl comma) = absurd (other comma)
      without_comma mark other (inr line) = line

  -- the last field, before the end of the text
  pub end_step : length behind ≡ 0
      → (state : State) × ((state ≡ st.StartRecord) ⊎ (state ≡ st.AfterCr)) × (next_record default_config st.StartRecord [] [] text ≡ Some (fields_, state, behind)) × (has_quote behind ≡ false)
  end_step short = (
    st.StartRecord,
    inl refl,
    goes_on ∙ before_end fields field behind (empty behind short) runs none ∙ ap (λ (f : Record). Some (f, st.StartRecord, behind)) pushed_field,
    behind_no_quote field behind none,
  )
    where
      empty : (xs : List ℕ) → length xs ≡ 0 → xs ≡ []
      empty [] e = refl
      empty (x ∷ xs) e = absurd (omega arith)
