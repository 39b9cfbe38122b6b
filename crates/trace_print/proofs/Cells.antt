-- Lines cell by cell: the columns of a header, the values of a row, and how long they are.
use Rattle.std.proofs.Common.{◌≡◌, refl, ap, sym, ◌∙◌, ℕ, suc, ◌+◌, ◌≤◌, ◌<◌, Bool, true, false, if◌then◌else◌, codes, map, List, [], ◌∷◌, ◌++◌, Option, length, length-append, get_or, drop, append_assoc, arith}
use Rattle.std.proofs.lemmas.List.{drop_more}
use Rattle.std.specs.List.{All}
use Rattle.std.proofs.lemmas.List.Elements.{All-get_or}
use Rattle.flat_model.specs.Models.{IsName}
use Rattle.sync_values.specs.declared.value.Value.{Value}
use Rattle.flat_model.specs.declared.model.FlatName.{FlatName}
use Rattle.flat_model.specs.Trace.{header_text, is_column, columns_from, column_texts, cells_text, cell_text}

-- what is left of a list at one of its items
pub left_at : {A : Type 0} (xs : List A) (k : ℕ) (x : A) → k < length xs → x ≡ get_or xs k x → drop k xs ≡ x ∷ drop (k + 1) xs
left_at xs k x within at = drop_more xs k x within ∙ ap (λ u. u ∷ drop (k + 1) xs) (sym at)

-- one more cell of a line
pub cell_more : (done cell : List ℕ) (rest : List (List ℕ)) (all : List ℕ) → done ++ cells_text (cell ∷ rest) ≡ all → ((done ++ codes ",") ++ cell) ++ cells_text rest ≡ all
cell_more done cell rest all so_far = append_assoc (done ++ codes ",") cell (cells_text rest) ∙ append_assoc done (codes ",") (cell ++ cells_text rest) ∙ so_far

-- the cell of a name that is a column, and none of one that is not
pub columns_at : (names : List FlatName) (k : ℕ) (name : FlatName) (b : Bool) → k < length names → name ≡ get_or names k name → is_column name.kind ≡ b
    → column_texts (drop k names) ≡ (if b then (name.text ∷ column_texts (drop (k + 1) names)) else column_texts (drop (k + 1) names))
columns_at names k name b within at is =
    ap column_texts (left_at names k name within at) ∙ ap (λ t. if t then (name.text ∷ column_texts (drop (k + 1) names)) else column_texts (drop (k + 1) names)) is

-- a row with one more cell
pub row_more : (values : List (Option Value)) (k : ℕ) (v : Option Value) (done after all : List ℕ) → k < length values → after ≡ (done ++ codes ",") ++ cell_text (get_or values k v)
    → done ++ cells_text (map cell_text (drop k values)) ≡ all → after ++ cells_text (map cell_text (drop (k + 1) values)) ≡ all
row_more values k v done after all within is so_far =
    ap (λ text. text ++ cells_text (map cell_text (drop (k + 1) values))) is
    ∙ cell_more done (cell_text (get_or values k v)) (map cell_text (drop (k + 1) values)) all
    (ap (λ vs. done ++ cells_text (map cell_text vs)) (sym (drop_more values k v within)) ∙ so_far)

-- as many columns as texts of columns
one_more : (b : Bool) (x : ℕ) (text : List ℕ) (xs : List ℕ) (texts : List (List ℕ)) → length texts ≡ length xs
    → length (if b then (text ∷ texts) else texts) ≡ length (if b then (x ∷ xs) else xs)
one_more true x text xs texts same = ap suc same
one_more false x text xs texts same = same

pub as_many : (x : ℕ) (names : List FlatName) → length (column_texts names) ≡ length (columns_from x names)
as_many x [] = refl
as_many x (name ∷ names) = one_more (is_column name.kind) x name.text (columns_from (suc x) names) (column_texts names) (as_many (suc x) names)

-- the bytes of a line with one more cell in front
pub cells_len : (cell : List ℕ) (rest : List (List ℕ)) → length (cells_text (cell ∷ rest)) ≡ length cell + 1 + length (cells_text rest)
cells_len cell rest =
    let whole = length-append (codes "," ++ cell) (cells_text rest) in
    let front = length-append (codes ",") cell in
    let comma : length (codes ",") ≡ 1 = refl in
    omega (arith, whole, front, comma)

-- the bytes that are left of a header at a name that is a column, and at one that is not
pub column_len : (names : List FlatName) (k : ℕ) (name : FlatName) → k < length names → name ≡ get_or names k name → is_column name.kind ≡ true
    → length (cells_text (column_texts (drop k names))) ≡ length name.text + 1 + length (cells_text (column_texts (drop (k + 1) names)))
column_len names k name within at is = ap (λ cells. length (cells_text cells)) (columns_at names k name true within at is) ∙ cells_len name.text (column_texts (drop (k + 1) names))

pub no_column_len : (names : List FlatName) (k : ℕ) (name : FlatName) → k < length names → name ≡ get_or names k name → is_column name.kind ≡ false
    → length (cells_text (column_texts (drop k names))) ≡ length (cells_text (column_texts (drop (k + 1) names)))
no_column_len names k name within at is = ap (λ cells. length (cells_text cells)) (columns_at names k name false within at is)

-- as many columns are left
pub column_counts : (names : List FlatName) (k : ℕ) (name : FlatName) → k < length names → name ≡ get_or names k name → is_column name.kind ≡ true
    → length (column_texts (drop k names)) ≡ suc (length (column_texts (drop (k + 1) names)))
column_counts names k name within at is = ap (λ cells. length cells) (columns_at names k name true within at is)

pub no_column_counts : (names : List FlatName) (k : ℕ) (name : FlatName) → k < length names → name ≡ get_or names k name → is_column name.kind ≡ false
    → length (column_texts (drop k names)) ≡ length (column_texts (drop (k + 1) names))
no_column_counts names k name within at is = ap (λ cells. length cells) (columns_at names k name false within at is)

-- the text of a name is short
pub short_at : (names : List FlatName) (k : ℕ) (name : FlatName) → All IsName names → k < length names → name ≡ get_or names k name → length name.text ≤ 4127
short_at names k name each within at =
    let short = (All-get_or IsName names k name within each).short in
    let same : length name.text ≡ length (get_or names k name).text = ap (λ n. length n.text) at in
    omega (arith, short, same)

-- the bytes of a header
pub header_front : (names : List FlatName) → length (header_text names) ≡ 4 + length (cells_text (column_texts names))
header_front names = length-append (codes "time") (cells_text (column_texts names))
