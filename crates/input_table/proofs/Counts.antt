-- How many records a text has, how many fields a record, and the records that follow some.
use Rattle.std.proofs.Common.{◌≡◌, ◌⊎◌, ◌<◌, ◌≤◌, ◌+◌, ◌++◌, ◌∙◌, ℕ, zero, suc, List, [], ◌∷◌, Option, Some, None, length, inl, inr, refl, ap, sym, arith, cond, true, false, Bool}
use Rattle.std.proofs.lemmas.List.{length-append}
use Rattle.csv.specs.Machine.{Read, next_record, step, is_end, fields_after, field_after, ends_at_end}
use Rattle.csv.specs.Reading.{AreRecords, Reached, records, records_from, strip_bom, is_bom}
use Rattle.csv.specs.declared.parser.Config.{Config}
use Rattle.csv.specs.declared.parser.Action.{Action}
use Rattle.csv.specs.declared.parser.Action.TheVariants as act
use Rattle.csv.specs.declared.parser.State.{State}
use Rattle.csv.specs.declared.parser.State.TheVariants as st
use Rattle.input_table.specs.Fields.{Record}

-- what a record leaves is shorter, or nothing was left
abbrev Leaves : List ℕ → Read → Type 0
Leaves xs p = (length p.2 < length xs) ⊎ ((p.1 ≡ st.StartRecord) × (p.2 ≡ []))

shorter : (cfg : Config) (s : State) (fields : Record) (field xs : List ℕ) (p : Read) → next_record cfg s fields field xs ≡ Some p → Leaves xs p
unfolding next_record
shorter cfg s fields field [] p e = at_end (ends_at_end s) e
  where
    at_end : (b : Bool) → cond b (Some (fields ++ (field ∷ []), st.StartRecord, [])) None ≡ Some p → Leaves [] p
    at_end true h = let q : (fields ++ (field ∷ []), st.StartRecord, []) ≡ p = cc in inr (ap (λ (x : Read). x.1) (sym q), ap (λ (x : Read). x.2) (sym q))
    at_end false h = cc
shorter cfg s fields field (c ∷ rest) p e = more (is_end (step cfg s c).1) (λ h. shorter cfg (step cfg s c).0 (fields_after (step cfg s c).1 fields field) (field_after (step cfg s c).1 c field) rest p h) e
  where
    after : Record
    after = fields_after (step cfg s c).1 fields field

    goes_on : Option Read
    goes_on = next_record cfg (step cfg s c).0 after (field_after (step cfg s c).1 c field) rest

    more : (b : Bool) → (goes_on ≡ Some p → Leaves rest p) → cond b (Some (after, (step cfg s c).0, rest)) goes_on ≡ Some p → Leaves (c ∷ rest) p
    more true again h = let q : rest ≡ p.2 = cc in inl (rw (← q) (omega arith))
    more false again h = elim (again h) [
      | inl less ↦ inl (omega arith)
      | inr none ↦ inr none
    ]

-- an action adds one field at most
one_more : (a : Action) (fields : Record) (field : List ℕ) → length (fields_after a fields field) ≤ length fields + 1
one_more act.EndField fields field = omega (arith, length-append fields (field ∷ []))
one_more act.Skip fields field = omega arith
one_more act.Copy fields field = omega arith
one_more act.EndRecord fields field = omega (arith, length-append fields (field ∷ []))

-- a record has no more fields than bytes and one
fields_few : (cfg : Config) (s : State) (fields : Record) (field xs : List ℕ) (p : Read) → next_record cfg s fields field xs ≡ Some p → length p.0 ≤ length fields + length xs + 1
unfolding next_record
fields_few cfg s fields field [] p e = at_end (ends_at_end s) e
  where
    at_end : (b : Bool) → cond b (Some (fields ++ (field ∷ []), st.StartRecord, [])) None ≡ Some p → length p.0 ≤ length fields + 0 + 1
    at_end true h = let q : (fields ++ (field ∷ []), st.StartRecord, []) ≡ p = cc in let parts : fields ++ (field ∷ []) ≡ p.0 = ap (λ (x : Read). x.0) q in omega (arith, ap length parts, length-append fields (field ∷ []))
    at_end false h = cc
fields_few cfg s fields field (c ∷ rest) p e = more (is_end (step cfg s c).1) (λ h. fields_few cfg (step cfg s c).0 (fields_after (step cfg s c).1 fields field) (field_after (step cfg s c).1 c field) rest p h) e
  where
    after : Record
    after = fields_after (step cfg s c).1 fields field

    goes_on : Option Read
    goes_on = next_record cfg (step cfg s c).0 after (field_after (step cfg s c).1 c field) rest

    more : (b : Bool) → (goes_on ≡ Some p → length p.0 ≤ length after + length rest + 1) → cond b (Some (after, (step cfg s c).0, rest)) goes_on ≡ Some p → length p.0 ≤ length fields + length (c ∷ rest) + 1
    more true again h = let q : after ≡ p.0 = cc in omega (arith, ap length q, one_more (step cfg s c).1 fields field)
    more false again h = omega (arith, again h, one_more (step cfg s c).1 fields field)

-- there are at most as many records as bytes, and one
pub records_few : (cfg : Config) (rows : List Record) (s s2 : State) (xs ys : List ℕ) → Reached cfg s xs rows s2 ys → length rows ≤ length xs + 1
unfolding Reached next_record
records_few cfg [] s s2 xs ys reached = omega arith
records_few cfg (r ∷ rs) s s2 xs ys (p, found, row, more) =
    elim (shorter cfg s [] [] xs p found) [
      | inl less ↦ let rest : length rs ≤ length p.2 + 1 = records_few cfg rs p.1 s2 p.2 ys more in omega arith
      | inr none ↦ let last : rs ≡ [] = nothing rs p.1 p.2 none.0 none.1 more in rw last (omega arith)
    ]
  where
    nothing : (rs : List Record) (t : State) (zs : List ℕ) → t ≡ st.StartRecord → zs ≡ [] → Reached cfg t zs rs s2 ys → rs ≡ []
    nothing [] t zs start empty h = refl
    nothing (x ∷ xs) t zs start empty h = let bad : next_record cfg st.StartRecord [] [] [] ≡ Some h.0 = rw (start, empty) at h.1 in cc

-- records leave no more bytes than there were
leaves_less : (cfg : Config) (rows : List Record) (s s2 : State) (xs ys : List ℕ) → Reached cfg s xs rows s2 ys → length ys ≤ length xs
unfolding Reached
leaves_less cfg [] s s2 xs ys reached = omega (arith, ap length reached.1)
leaves_less cfg (r ∷ rs) s s2 xs ys (p, found, row, more) =
    elim (shorter cfg s [] [] xs p found) [
      | inl less ↦ omega (arith, leaves_less cfg rs p.1 s2 p.2 ys more)
      | inr none ↦ let empty : length p.2 ≡ 0 = ap length none.1 in omega (arith, leaves_less cfg rs p.1 s2 p.2 ys more)
    ]

-- the records of a text are those that were read, and then those of what is left
goes_on : (cfg : Config) (rows : List Record) (n : ℕ) (s s2 : State) (xs ys : List ℕ) → Reached cfg s xs rows s2 ys → length rows ≤ n
    → (m : ℕ) × (records_from cfg n s xs ≡ rows ++ records_from cfg m s2 ys)
unfolding Reached records_from
goes_on cfg [] n s s2 xs ys reached many = (n, rw (reached.0, reached.1) refl)
goes_on cfg (r ∷ rs) zero s s2 xs ys reached many = absurd (omega arith)
goes_on cfg (r ∷ rs) (suc n) s s2 xs ys (p, found, row, more) many =
    let less : length rs ≤ n = omega arith in
    let rest = goes_on cfg rs n p.1 s2 p.2 ys more less in
    (rest.0, rw (found, row, rest.1) refl)

none_left : (cfg : Config) (n : ℕ) (s : State) (ys : List ℕ) → next_record cfg s [] [] ys ≡ None → records_from cfg n s ys ≡ []
unfolding records_from
none_left cfg zero s ys done = refl
none_left cfg (suc n) s ys done = rw done refl

-- the records that were read are the first of all
pub first_of_all : (cfg : Config) (rows : List Record) (s2 : State) (xs ys : List ℕ) → Reached cfg st.StartRecord xs rows s2 ys → (rest : List Record) × (records cfg xs ≡ rows ++ rest)
first_of_all cfg rows s2 xs ys reached =
    let all = goes_on cfg rows (length xs + 1) st.StartRecord s2 xs ys reached (records_few cfg rows st.StartRecord s2 xs ys reached) in
    (records_from cfg all.0 s2 ys, all.1)

-- where no record is left, those that were read are all
pub are_all : (cfg : Config) (rows : List Record) (xs : List ℕ) → AreRecords cfg st.StartRecord xs rows → records cfg xs ≡ rows
are_all cfg rows xs (s2, ys, reached, done) =
    let all = goes_on cfg rows (length xs + 1) st.StartRecord s2 xs ys reached (records_few cfg rows st.StartRecord s2 xs ys reached) in
    let nothing = none_left cfg all.0 s2 ys done in
    all.1 ∙ rw nothing (nil_right rows)
  where
    nil_right : (zs : List Record) → zs ++ [] ≡ zs
    nil_right [] = refl
    nil_right (z ∷ zs) = ap (λ t. z ∷ t) (nil_right zs)

-- the next record of a text has no more fields than the text bytes, and one
pub next_few : (cfg : Config) (rows : List Record) (s2 : State) (xs ys : List ℕ) (p : Read) → Reached cfg st.StartRecord xs rows s2 ys → next_record cfg s2 [] [] ys ≡ Some p → length p.0 ≤ length xs + 1
next_few cfg rows s2 xs ys p reached found =
    omega (arith, leaves_less cfg rows st.StartRecord s2 xs ys reached, fields_few cfg s2 [] [] ys p found)

pub length-strip_bom : (text : List ℕ) → length (strip_bom text) ≤ length text
unfolding strip_bom
length-strip_bom [] = omega arith
length-strip_bom (a ∷ []) = omega arith
length-strip_bom (a ∷ b ∷ []) = omega arith
length-strip_bom (a ∷ b ∷ c ∷ rest) = by_mark (is_bom a b c)
  where
    by_mark : (mark : Bool) → length (cond mark rest (a ∷ b ∷ c ∷ rest)) ≤ length (a ∷ b ∷ c ∷ rest)
    by_mark true = omega arith
    by_mark false = omega arith
