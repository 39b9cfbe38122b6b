-- A reader goes on from record to record.
use Rattle.std.proofs.Common.{◌≡◌, ◌∙◌, List, ℕ, [], ◌∷◌, ◌++◌, ◌+◌, ◌≤◌, length, Bool, true, false, Option, Some, None, inl, inr, IfSome, refl, ap, arith, sym, subst}
use Rattle.std.specs.Borrow.{Bor}
use Rattle.csv.specs.Machine.{Read, next_record}
use Rattle.csv.specs.Reading.{default_config, strip_bom, Reached, Ready, ReadRecord, ReadsNext, NextIs}
use Rattle.csv.specs.Records.{fields_of}
use Rattle.csv.specs.declared.parser.Config.{Config}
use Rattle.csv.specs.declared.parser.State.{State}
use Rattle.csv.specs.declared.parser.State.TheVariants as st
use Rattle.csv.specs.declared.reader.Reader.{Reader}
use Rattle.csv.specs.declared.reader.Trim.TheVariants as trim
use Rattle.csv.proofs.ReadFacts.{rows-more, rows-end, reached-more}
use Rattle.input_table.specs.declared.records.Records.{Records}
use Rattle.input_table.specs.private.Plain.{IsBetween, TakesRecord, has_quote}
use Rattle.input_table.proofs.PlainRecords.{after_cr}
use Rattle.input_table.specs.Fields.{Record}
use Rattle.input_table.specs.private.Standing.{IsStanding, IsReaderAt, GoesOn, Took, Begin}
use Rattle.input_table.proofs.Counts.{first_of_all, are_all, records_few, next_few, length-strip_bom}

-- the records that a reader gave are the first of the text
pub they_begin : (text : List ℕ) (rows : List Record) (records : Records) → IsStanding text rows records → Begin rows text
they_begin text rows records is = first_of_all default_config rows is.state (strip_bom text) is.left is.reached

-- and no more than the bytes of the text and one
pub they_are_few : (text : List ℕ) (rows : List Record) (records : Records) → IsStanding text rows records → length rows ≤ length text + 1
they_are_few text rows records is =
    omega (arith, records_few default_config rows st.StartRecord is.state (strip_bom text) is.left is.reached, length-strip_bom text)

-- what was read are the fields of the next record
read_next : (o : Option Read) (fields : Record) (s2 : State) (ys : List ℕ) → NextIs o true fields s2 ys → (p : Read) × (o ≡ Some p) × (fields ≡ p.0)
read_next None fields s2 ys is = cc
read_next (Some p) fields s2 ys is = (p, refl, is.1)

fields_read : (cfg : Config) (s s2 : State) (before after : Option (List ℕ)) (xs : List ℕ) (fields : Record) → before ≡ Some xs → ReadsNext cfg s before after true fields s2
    → (p : Read) × (next_record cfg s [] [] xs ≡ Some p) × (fields ≡ p.0)
fields_read cfg s s2 None after xs fields is read = cc
fields_read cfg s s2 (Some zs) None xs fields is read = absurd read
fields_read cfg s s2 (Some zs) (Some ys) xs fields is read =
    let same : zs ≡ xs = cc in
    let next = read_next (next_record cfg s [] [] zs) fields s2 ys read in
    (next.0, rw (← same) next.1, next.2)

-- where the taking begins
pub goes_from : (o : Option (Bor (List ℕ))) (text : List ℕ) (rdr : Reader (Bor (List ℕ))) → IsReaderAt st.StartRecord (strip_bom text) rdr
    → IfSome o (λ rest. (rest.now ≡ strip_bom text) × (has_quote rest.now ≡ false)) → GoesOn st.StartRecord (strip_bom text) o rdr
goes_from None text rdr at none = at
goes_from (Some rest) text rdr at is = (inl refl, is.0, subst (λ t. has_quote t ≡ false) is.0 is.1)

-- after a read of the reader
pub took : (text : List ℕ) (rows : List Record) (old new : Records) (found : Bool) → IsStanding text rows old → old.unquoted ≡ None → new.unquoted ≡ None
    → (old.rdr.trim ≡ trim.None → Ready old.rdr → ReadRecord (λ s. Some s.now) old.rdr new.rdr found (fields_of new.row)) → (old.rdr.trim ≡ trim.None → new.rdr.first ≡ true) → Took text rows found new
took text rows old new found is none still reads firsts =
    let at : IsReaderAt is.state is.left old.rdr = subst (λ o. GoesOn is.state is.left o old.rdr) none is.goes in
    by_reader found at (reads at.plain at.ready) (firsts at.plain)
  where
    by_reader : (found : Bool) → IsReaderAt is.state is.left old.rdr → ReadRecord (λ s. Some s.now) old.rdr new.rdr found (fields_of new.row) → new.rdr.first ≡ true → Took text rows found new
    by_reader true at read first =
        let reached = subst (λ s. Reached default_config st.StartRecord (strip_bom text) rows s is.left) (sym at.is) is.reached in
        let more = rows-more (λ (s : Bor (List ℕ)). Some s.now) old.rdr new.rdr (fields_of new.row) default_config st.StartRecord (strip_bom text) is.left rows at.config at.source reached read in
        let next = fields_read old.rdr.config old.rdr.state new.rdr.state _ _ is.left (fields_of new.row) at.source read.0 in
        let found : next_record default_config is.state [] [] is.left ≡ Some next.0 = rw (← at.config, ← at.is) next.1 in
        let few : length (fields_of new.row) ≤ length text + 1 = omega (arith, ap length next.2, next_few default_config rows is.state (strip_bom text) is.left next.0 is.reached found, length-strip_bom text) in
        let goes : IsReaderAt new.rdr.state more.0 new.rdr = record { plain = read.3 ∙ at.plain; ready = inl first; config = read.2 ∙ at.config; is = refl; source = more.1 } in
        (record { state = new.rdr.state; left = more.0; reached = more.2; goes = subst (λ o. GoesOn new.rdr.state more.0 o new.rdr) (sym still) goes }, few)
    by_reader false at read first =
        let end : next_record default_config is.state [] [] is.left ≡ None =
        rw (← at.is) (rows-end (λ (s : Bor (List ℕ)). Some s.now) old.rdr new.rdr (fields_of new.row) default_config is.left at.config at.source read) in
        are_all default_config rows (strip_bom text) (is.state, is.left, is.reached, end)

-- the end of a line that came before changes no record
between : (state : State) (xs : List ℕ) → IsBetween state → next_record default_config state [] [] xs ≡ next_record default_config st.StartRecord [] [] xs
between state xs (inl start) = rw start refl
between state xs (inr after) = rw after (after_cr xs)

-- what is left of a text without quotes
pub left_of : (text : List ℕ) (rows : List Record) (old : Records) (rest : Bor (List ℕ)) (is : IsStanding text rows old) → old.unquoted ≡ Some rest → IsBetween is.state × (rest.now ≡ is.left) × (has_quote is.left ≡ false)
left_of text rows old rest is some = subst (λ o. GoesOn is.state is.left o old.rdr) some is.goes

-- after a record was taken of a text without quotes
pub goes_behind : (text : List ℕ) (rows : List Record) (fields : Record) (old new : Records) (rest after : Bor (List ℕ)) → IsStanding text rows old → old.unquoted ≡ Some rest → new.unquoted ≡ Some after
    → TakesRecord rest.now fields (Some after) → IsStanding text (rows ++ fields ∷ []) new × (length fields ≤ length text + 1)
goes_behind text rows fields old new rest after is some then_ (state, middle, next, none) =
    let left = left_of text rows old rest is some in
    let found : next_record default_config is.state [] [] is.left ≡ Some (fields, state, after.now) =
    between is.state is.left left.0 ∙ subst (λ xs. next_record default_config st.StartRecord [] [] xs ≡ Some (fields, state, after.now)) left.1 next in
    let few : length fields ≤ length text + 1 =
    omega (arith, next_few default_config rows is.state (strip_bom text) is.left (fields, state, after.now) is.reached found, length-strip_bom text) in
    let goes : GoesOn state after.now (Some after) new.rdr = (middle, refl, none) in (
      record {
        state = state;
        left = after.now;
        reached = reached-more default_config st.StartRecord is.state (strip_bom text) is.left rows (fields, state, after.now) is.reached found;
        goes = subst (λ o. GoesOn state after.now o new.rdr) (sym then_) goes;
      },
      few,
    )

pub took_plain : (text : List ℕ) (rows : List Record) (old new : Records) (rest after : Bor (List ℕ)) → IsStanding text rows old → old.unquoted ≡ Some rest → new.unquoted ≡ Some after
    → TakesRecord rest.now (fields_of new.row) (Some after) → Took text rows true new
took_plain text rows old new rest after is some then_ takes = goes_behind text rows (fields_of new.row) old new rest after is some then_ takes

-- where there was none
pub took_last : (text : List ℕ) (rows : List Record) (old new : Records) (rest : Bor (List ℕ)) (fields : Record) → IsStanding text rows old → old.unquoted ≡ Some rest
    → TakesRecord rest.now fields None → Took text rows false new
took_last text rows old new rest fields is some none =
    let left = left_of text rows old rest is some in
    let end : next_record default_config is.state [] [] is.left ≡ None =
    between is.state is.left left.0 ∙ subst (λ xs. next_record default_config st.StartRecord [] [] xs ≡ None) left.1 none in
    are_all default_config rows (strip_bom text) (is.state, is.left, is.reached, end)
