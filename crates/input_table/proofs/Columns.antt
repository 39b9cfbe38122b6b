-- The columns of a header, one after the other.
use Rattle.std.proofs.Common.{◌≡◌, ◌≢◌, ◌∙◌, ap, sym, subst, refl, ℕ, zero, suc, ◌+◌, ◌-◌, ◌<◌, ◌⊎◌, inl, inr, Bool, true, false, List, [], ◌∷◌, ◌++◌, length, Some, None, Err, slice_get, get_or, set, take, drop, arith, get_or-set_same, get_or-set_other}
use Rattle.std.proofs.lemmas.Option.{slice_get_within, slice_get-get_or, get_or_from_slice_get}
use Rattle.std.proofs.lemmas.Bool.{false≢true}
use Rattle.std.proofs.lemmas.Bool.Decides.{eqb_tells}
use Rattle.std.proofs.lemmas.List.{length-append}
use Rattle.std.proofs.Math.Seq.{take-append_seam}
use Rattle.flat_model.specs.declared.model.FlatName.{FlatName}
use Rattle.flat_model.specs.Models.{AreNames}
use Rattle.flat_model.specs.declared.place.Place.TheVariants as place
use Rattle.input_table.specs.declared.ends.TableCode.TheVariants.{I2}
use Rattle.input_table.specs.declared.ends.TableEnd.{TableEnd}
use Rattle.input_table.specs.declared.ends.TableEnd.TheVariants.{Fault, NoMemory}
use Rattle.input_table.specs.Fields.{Record, text_in}
use Rattle.input_table.specs.Headers.{IsInputCalled, IsWrongColumn, IsMissing}
use Rattle.input_table.specs.private.Finding.{IsFound, AreFirst, AreNoted, AreWhole, IsFirstWrong, IsFirstMissing, IsMissingFault, ColumnsAre}

-- what a list with one element more has
pub in_push : {A : Type 0} (xs : List A) (x y : A) (k : ℕ) → slice_get (xs ++ x ∷ []) k ≡ Some y → ((k < length xs) × (slice_get xs k ≡ Some y)) ⊎ ((k ≡ length xs) × (y ≡ x))
in_push [] x y zero is = let same : x ≡ y = cc in inr (refl, sym same)
in_push [] x y (suc k) is = cc
in_push (z ∷ zs) x y zero is = inl (omega arith, is)
in_push (z ∷ zs) x y (suc k) is = elim (in_push zs x y k is) [
  | inl old ↦ inl (omega (arith, old.0), old.1)
  | inr last ↦ inr (omega (arith, last.0), last.1)
]

pub push_keeps : {A : Type 0} (xs ys : List A) (y : A) (k : ℕ) → slice_get xs k ≡ Some y → slice_get (xs ++ ys) k ≡ Some y
push_keeps [] ys y k is = cc
push_keeps (z ∷ zs) ys y zero is = is
push_keeps (z ∷ zs) ys y (suc k) is = push_keeps zs ys y k is

pub push_last : {A : Type 0} (xs ys : List A) (y : A) → slice_get (xs ++ y ∷ ys) (length xs) ≡ Some y
push_last [] ys y = refl
push_last (z ∷ zs) ys y = push_last zs ys y

module _ (names : List FlatName) (are : AreNames names) where
  not_before : (text : List ℕ) (x y : ℕ) → IsInputCalled names text x → IsInputCalled names text y → x < y → ⊥
  not_before text x y (a, found, input, called) (b, there, other, named) less =
      let first : get_or names x a ≡ a = get_or_from_slice_get names x a a found in
      let second : get_or names y a ≡ b = get_or_from_slice_get names y b a there in
      are.apart x y a less (slice_get_within names y b there) (ap (λ (n : FlatName). n.text) first ∙ called ∙ sym named ∙ sym (ap (λ (n : FlatName). n.text) second))

  -- a text is that of one input
  pub same_input : (text : List ℕ) (x y : ℕ) → IsInputCalled names text x → IsInputCalled names text y → x ≡ y
  same_input text x y a b =
      let up : x < y → ⊥ = not_before text x y a b in
      let down : y < x → ⊥ = not_before text y x b a in
      omega arith

  module _ (header : Record) where
    -- the input of a column
    abbrev At : List ℕ → ℕ → Type 0
    At columns c = (k : ℕ) × (x : ℕ) × (k + 1 ≡ c) × (slice_get columns k ≡ Some x) × IsInputCalled names (text_in header c) x

    pub column_at : (place : ℕ) (columns : List ℕ) → AreFirst names header place columns → (c : ℕ) → 0 < c → c < place → At columns c
    column_at place columns first c some less =
        let e : (c - 1) + 1 ≡ c = omega arith in
        let short : c - 1 < length columns = omega (arith, first.long) in
        let found = slice_get-get_or columns (c - 1) 0 short in
        (c - 1, get_or columns (c - 1) 0, e, found, subst (λ n. IsInputCalled names (text_in header n) (get_or columns (c - 1) 0)) e (first.called (c - 1) (get_or columns (c - 1) 0) found))

    -- no column before the place is wrong
    pub none_wrong : (place : ℕ) (columns : List ℕ) → AreFirst names header place columns → (c : ℕ) → c < place → IsWrongColumn names header c → ⊥
    none_wrong place columns first c less is = by_cause is.wrong
      where
        at : At columns c
        at = column_at place columns first c is.later less

        by_cause : ((x : ℕ) → IsInputCalled names (text_in header c) x → ⊥) ⊎ ((before : ℕ) × (0 < before) × (before < c) × (text_in header before ≡ text_in header c)) → ⊥
        by_cause (inl none) = none at.1 at.4
        by_cause (inr (before, some, earlier, same)) =
            let other = column_at place columns first before some (omega arith) in
            let one : other.1 ≡ at.1 = same_input (text_in header c) other.1 at.1 (subst (λ t. IsInputCalled names t other.1) same other.4) at.4 in
            let place_is : other.0 ≡ at.0 = first.once other.0 at.0 at.1 (subst (λ x. slice_get columns other.0 ≡ Some x) one other.3) at.3 in
            omega (arith, other.2, at.2)

    -- a column that is no input
    pub is_no_input : (place : ℕ) (columns : List ℕ) → AreFirst names header place columns → place < length header → IsFound names (text_in header place) None → IsFirstWrong names header place
    is_no_input place columns first within none =
        record { wrong = record { later = omega (arith, first.long); within = within; wrong = inl none }; first = none_wrong place columns first }

    -- a column that repeats one before it
    pub is_repeated : (place : ℕ) (columns : List ℕ) (seen : List Bool) (x : ℕ) → AreFirst names header place columns → AreNoted columns seen → place < length header
        → IsInputCalled names (text_in header place) x → get_or seen x false ≡ true → IsFirstWrong names header place
    is_repeated place columns seen x first noted within is was =
        let k = noted.only x was in
        let there = first.called k.0 x k.1 in
        let one : there.0 ≡ is.0 = let a = there.1 in let b = is.1 in cc in
        let text : text_in header (k.0 + 1) ≡ text_in header place = sym there.3 ∙ ap (λ (n : FlatName). n.text) one ∙ is.3 in
        let less = slice_get_within columns k.0 x k.1 in
        record {
          wrong = record { later = omega (arith, first.long); within = within; wrong = inr (k.0 + 1, omega arith, omega (arith, first.long, less), text) };
          first = none_wrong place columns first;
        }

    -- one column more
    pub first_more : (place : ℕ) (columns : List ℕ) (seen : List Bool) (x : ℕ) → AreFirst names header place columns → AreNoted columns seen
        → IsInputCalled names (text_in header place) x → get_or seen x false ≡ false → AreFirst names header (place + 1) (columns ++ x ∷ [])
    first_more place columns seen x first noted is fresh = record {
      long = omega (arith, first.long, length-append columns (x ∷ []));
      called = called;
      once = once;
    }
      where
        fresh_in : (k : ℕ) → slice_get columns k ≡ Some x → ⊥
        fresh_in k there = false≢true (sym fresh ∙ noted.noted k x there)

        called : (k y : ℕ) → slice_get (columns ++ x ∷ []) k ≡ Some y → IsInputCalled names (text_in header (k + 1)) y
        called k y there = elim (in_push columns x y k there) [
          | inl old ↦ first.called k y old.1
          | inr last ↦ let place_is : place ≡ k + 1 = omega (arith, first.long, last.0) in subst (λ n. IsInputCalled names (text_in header n) y) place_is (subst (λ z. IsInputCalled names (text_in header place) z) (sym last.1) is)
        ]

        both : (i j y : ℕ) → ((i < length columns) × (slice_get columns i ≡ Some y)) ⊎ ((i ≡ length columns) × (y ≡ x))
            → ((j < length columns) × (slice_get columns j ≡ Some y)) ⊎ ((j ≡ length columns) × (y ≡ x)) → i ≡ j
        both i j y (inl a) (inl b) = first.once i j y a.1 b.1
        both i j y (inl a) (inr b) = absurd (fresh_in i (subst (λ z. slice_get columns i ≡ Some z) b.1 a.1))
        both i j y (inr a) (inl b) = absurd (fresh_in j (subst (λ z. slice_get columns j ≡ Some z) a.1 b.1))
        both i j y (inr a) (inr b) = a.0 ∙ sym b.0

        once : (i j y : ℕ) → slice_get (columns ++ x ∷ []) i ≡ Some y → slice_get (columns ++ x ∷ []) j ≡ Some y → i ≡ j
        once i j y a b = both i j y (in_push columns x y i a) (in_push columns x y j b)

    -- a whole header has no wrong column
    pub all_right : (columns : List ℕ) → AreFirst names header (length header) columns → (c : ℕ) → IsWrongColumn names header c → ⊥
    all_right columns first c is = none_wrong (length header) columns first c is.within is

    -- the first input that is not noted has no column
    pub is_missing : (columns : List ℕ) (seen : List Bool) (at : ℕ) (name : FlatName) → AreFirst names header (length header) columns → AreNoted columns seen
        → slice_get names at ≡ Some name → name.input ≡ true → get_or seen at false ≡ false
        → ((y : ℕ) (other : FlatName) → y < at → slice_get names y ≡ Some other → other.input ≡ true → get_or seen y false ≡ true)
        → IsFirstMissing names header name.text
    is_missing columns seen at name first noted found input unseen before = record {
      x = at;
      name = name;
      is = refl;
      missing = record { found = found; input = input; absent = absent };
      first = earlier;
    }
      where
        absent : (c : ℕ) → 0 < c → c < length header → text_in header c ≡ name.text → ⊥
        absent c some within text =
            let column = column_at (length header) columns first c some within in
            let one : column.1 ≡ at = same_input (text_in header c) column.1 at column.4 (name, found, input, sym text) in
            false≢true (sym unseen ∙ subst (λ y. get_or seen y false ≡ true) one (noted.noted column.0 column.1 column.3))

        earlier : (y : ℕ) (other : FlatName) → y < at → IsMissing names header y other → ⊥
        earlier y other less missing =
            let k = noted.only y (before y other less missing.found missing.input) in
            let there = first.called k.0 y k.1 in
            let one : there.0 ≡ other = let a = there.1 in let b = missing.found in cc in
            let within = slice_get_within columns k.0 y k.1 in
            missing.absent (k.0 + 1) (omega arith) (omega (arith, first.long, within)) (sym there.3 ∙ ap (λ (n : FlatName). n.text) one)

    -- where all inputs are noted, the columns are whole
    pub are_whole : (columns : List ℕ) (seen : List Bool) → AreFirst names header (length header) columns → AreNoted columns seen
        → ((y : ℕ) (other : FlatName) → y < length names → slice_get names y ≡ Some other → other.input ≡ true → get_or seen y false ≡ true)
        → AreWhole names header columns
    are_whole columns seen first noted all = record {
      long = sym first.long;
      called = first.called;
      are = record {
        inputs = λ k d less. let is = first.called k (get_or columns k d) (slice_get-get_or columns k d less) in (is.0, is.1, is.2);
        all = λ x is. let k = noted.only x (all x is.0 (slice_get_within names x is.0 is.1) is.1 is.2) in (k.0, slice_get_within columns k.0 x k.1, get_or_from_slice_get columns k.0 x x k.1);
        once = λ i j d less within same.
            let a = slice_get-get_or columns i d (omega arith) in
            let b = slice_get-get_or columns j d within in
            let one = first.once i j (get_or columns i d) a (b ∙ ap (λ (x : ℕ). Some x) (sym same)) in
            omega arith;
      };
    }

-- one name more is noted
pub noted_one_more : (columns : List ℕ) (seen : List Bool) (x : ℕ) → AreNoted columns seen → x < length seen → AreNoted (columns ++ x ∷ []) (set seen x true)
noted_one_more columns seen x was within = record { noted = noted; only = only }
  where
    marked : (y : ℕ) → y ≡ x → get_or (set seen x true) y false ≡ true
    marked y same = rw same (get_or-set_same seen x true false within)

    others : (y : ℕ) → y ≢ x → get_or (set seen x true) y false ≡ get_or seen y false
    others y apart = get_or-set_other seen x y true false apart

    noted : (k y : ℕ) → slice_get (columns ++ x ∷ []) k ≡ Some y → get_or (set seen x true) y false ≡ true
    noted k y there = elim (eqb_tells y x) [
      | inl same ↦ marked y same.1
      | inr apart ↦ elim (in_push columns x y k there) [
        | inl old ↦ others y apart.1 ∙ was.noted k y old.1
        | inr last ↦ absurd (apart.1 last.1)
      ]
    ]

    only : (y : ℕ) → get_or (set seen x true) y false ≡ true → (k : ℕ) × (slice_get (columns ++ x ∷ []) k ≡ Some y)
    only y is = elim (eqb_tells y x) [
      | inl same ↦ (length columns, rw same.1 (push_last columns [] x))
      | inr apart ↦ let k = was.only y (sym (others y apart.1) ∙ is) in (k.0, push_keeps columns (x ∷ []) y k.0 k.1)
    ]

-- I2, or no memory for it
pub missing_is : (names : List FlatName) (header : Record) (text : List ℕ) (end : TableEnd) → IsMissingFault text end → ((c : ℕ) → IsWrongColumn names header c → ⊥)
    → IsFirstMissing names header text → ColumnsAre names header (Err end)
missing_is names header text (Fault I2 (place.Name other)) is right missing = (right, subst (λ t. IsFirstMissing names header t) (sym is) missing)
missing_is names header text (Fault code at) is right missing = absurd is
missing_is names header text NoMemory is right missing = tt

-- a name below the next number is noted, if it is an input
pub checked_more : (names : List FlatName) (seen : List Bool) (at : ℕ) (name : FlatName) → at < length names → name ≡ get_or names at name
    → (name.input ≡ true → get_or seen at false ≡ true)
    → ((y : ℕ) (other : FlatName) → y < at → slice_get names y ≡ Some other → other.input ≡ true → get_or seen y false ≡ true)
    → (y : ℕ) (other : FlatName) → y < at + 1 → slice_get names y ≡ Some other → other.input ≡ true → get_or seen y false ≡ true
checked_more names seen at name less is here below y other under found input = elim (eqb_tells y at) [
  | inl same ↦
      let there : slice_get names at ≡ Some name = slice_get-get_or names at name less ∙ ap (λ (n : FlatName). Some n) (sym is) in
      let again : slice_get names at ≡ Some other = subst (λ z. slice_get names z ≡ Some other) same.1 found in
      let one : name ≡ other = cc in
      subst (λ z. get_or seen z false ≡ true) (sym same.1) (here (ap (λ (n : FlatName). n.input) one ∙ input))
  | inr apart ↦ below y other (omega (arith, apart.1)) found input
]

-- the element of a number
pub name_at : (names : List FlatName) (at : ℕ) (name : FlatName) → at < length names → name ≡ get_or names at name → slice_get names at ≡ Some name
name_at names at name less is = slice_get-get_or names at name less ∙ ap (λ (n : FlatName). Some n) (sym is)

-- a vector written through a slice of all of it
pub restored : (ws xs : List Bool) (n : ℕ) → length ws ≡ n → take n (ws ++ drop (length ws) xs) ≡ ws
restored ws xs n long = ap (λ m. take m (ws ++ drop (length ws) xs)) (sym long) ∙ take-append_seam ws (drop (length ws) xs)
