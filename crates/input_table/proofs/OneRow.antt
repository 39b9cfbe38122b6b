-- A record stands for one row, or breaks one first rule.
use Rattle.std.proofs.Common.{◌≡◌, ◌∙◌, ap, ap₂, sym, subst, refl, ℕ, suc, ◌+◌, ◌<◌, ◌⊎◌, inl, inr, true, false, List, [], ◌∷◌, length, codes, get_or, Option, Some, None, slice_get, pos, neg_ℤ, arith}
use Rattle.std.specs.Str.Parse.{digits_value}
use Rattle.std.proofs.lemmas.List.{length-append}
use Rattle.std.proofs.lemmas.Option.{slice_get-get_or}
use Rattle.rational_time.specs.declared.ratio.Ratio.{Ratio}
use Rattle.rational_time.specs.Fraction.{Below}
use Rattle.flat_model.proofs.InstantsLeft.{one_ratio}
use Rattle.sync_values.specs.declared.value.Value.{Value}
use Rattle.sync_values.specs.declared.value.Value.TheVariants as value_
use Rattle.flat_model.specs.declared.model.FlatName.{FlatName}
use Rattle.flat_model.specs.declared.model.NameKind.{NameKind}
use Rattle.flat_model.specs.declared.model.NameKind.TheVariants as kind
use Rattle.input_table.specs.declared.ends.TableCode.{TableCode}
use Rattle.input_table.specs.declared.header.Form.{Form}
use Rattle.input_table.specs.Fields.{Record, text_in, IsTimeText, IsValue, natural, negative, truth, falsity}
use Rattle.input_table.specs.Rows.{Row, IsSum, IsInstant, IsInOrder, IsCell, ValueIs, IsRow, BreaksIn, written, added, kept, length_, time, start, rising, value, time_of_row, cell_of_row}
use Rattle.input_table.proofs.Times.{time_once}
use Rattle.input_table.proofs.Sums.{sum_once, plus_no_time}
use Rattle.input_table.proofs.Numbers.{Written, plain, plus, minus, written_as, first_digit}

time_text_once : (text : List ℕ) (t u : Ratio) → IsTimeText text t → IsTimeText text u → t ≡ u
time_text_once text t u a b =
    let same = time_once text t u a.num a.den b.num b.den a.writes b.writes a.is b.is in one_ratio t u same.0 same.1

pub instant_once : (form : Form) (before : Option Ratio) (text : List ℕ) (t u : Ratio) → IsInstant form before text t → IsInstant form before text u → t ≡ u
instant_once form before text t u (written a) (written b) = time_text_once text t u a b
instant_once form before text t u (written a) (added short rest more is time_ sum within) = absurd (plus_no_time text rest t is a)
instant_once form before text t u (added short rest more is time_ sum within) (written b) = absurd (plus_no_time text rest u is b)
instant_once form before text t u (added short rest more is time_ sum within) (added short_ rest_ more_ is_ time__ sum_ within_) =
    let same : rest_ ≡ rest = cc in
    let one : more_ ≡ more = time_text_once rest more_ more (subst (λ r. IsTimeText r more_) same time__) time_ in
    let parts = sum_once before more t u sum (subst (λ m. IsSum before m u) one sum_) in
    one_ratio t u parts.0 parts.1

-- an Integer is written by one value
written_once : (text : List ℕ) (v w : Value) → Written text v → Written text w → v ≡ w
written_once text v w (plain some all small is) (plain some_ all_ small_ is_) = is ∙ sym is_
written_once text v w (plain some all small is) (plus digits at some_ all_ small_ is_) = let d = first_digit text some all in let e = ap (λ t. get_or t 0 0) at in absurd (omega (arith, d, e))
written_once text v w (plain some all small is) (minus digits at some_ all_ small_ is_) = let d = first_digit text some all in let e = ap (λ t. get_or t 0 0) at in absurd (omega (arith, d, e))
written_once text v w (plus digits at some_ all_ small_ is_) (plain some all small is) = let d = first_digit text some all in let e = ap (λ t. get_or t 0 0) at in absurd (omega (arith, d, e))
written_once text v w (minus digits at some_ all_ small_ is_) (plain some all small is) = let d = first_digit text some all in let e = ap (λ t. get_or t 0 0) at in absurd (omega (arith, d, e))
written_once text v w (plus digits at some all small is) (plus digits_ at_ some_ all_ small_ is_) =
    let same : digits ≡ digits_ = cc in is ∙ ap (λ (d : List ℕ). value_.Int (pos (digits_value 10 d))) same ∙ sym is_
written_once text v w (minus digits at some all small is) (minus digits_ at_ some_ all_ small_ is_) =
    let same : digits ≡ digits_ = cc in is ∙ ap (λ (d : List ℕ). value_.Int (neg_ℤ (pos (digits_value 10 d)))) same ∙ sym is_
written_once text v w (plus digits at some all small is) (minus digits_ at_ some_ all_ small_ is_) = let bad : 43 ≡ 45 = ap (λ t. get_or t 0 0) (sym at ∙ at_) in absurd (omega (arith, bad))
written_once text v w (minus digits at some all small is) (plus digits_ at_ some_ all_ small_ is_) = let bad : 45 ≡ 43 = ap (λ t. get_or t 0 0) (sym at ∙ at_) in absurd (omega (arith, bad))

-- the words of a Boolean begin with four different bytes
true_byte : (text : List ℕ) → (text ≡ codes "true") ⊎ (text ≡ codes "1") → (get_or text 0 0 ≡ 116) ⊎ (get_or text 0 0 ≡ 49)
true_byte text (inl is) = inl (ap (λ t. get_or t 0 0) is)
true_byte text (inr is) = inr (ap (λ t. get_or t 0 0) is)

false_byte : (text : List ℕ) → (text ≡ codes "false") ⊎ (text ≡ codes "0") → (get_or text 0 0 ≡ 102) ⊎ (get_or text 0 0 ≡ 48)
false_byte text (inl is) = inl (ap (λ t. get_or t 0 0) is)
false_byte text (inr is) = inr (ap (λ t. get_or t 0 0) is)

not_both : (n : ℕ) → (n ≡ 116) ⊎ (n ≡ 49) → (n ≡ 102) ⊎ (n ≡ 48) → ⊥
not_both n (inl a) (inl b) = omega (arith, a, b)
not_both n (inl a) (inr b) = omega (arith, a, b)
not_both n (inr a) (inl b) = omega (arith, a, b)
not_both n (inr a) (inr b) = omega (arith, a, b)

apart_words : (text : List ℕ) → (text ≡ codes "true") ⊎ (text ≡ codes "1") → (text ≡ codes "false") ⊎ (text ≡ codes "0") → ⊥
apart_words text yes_ no_ = not_both (get_or text 0 0) (true_byte text yes_) (false_byte text no_)

true_once : (text : List ℕ) (k : NameKind) (w : Value) → k ≡ kind.Boolean → (text ≡ codes "true") ⊎ (text ≡ codes "1") → IsValue text k w → value_.Bool true ≡ w
true_once text k w is words (natural sign digits split mark some all small) = cc
true_once text k w is words (negative digits split some all small) = cc
true_once text k w is words (truth other) = refl
true_once text k w is words (falsity other) = absurd (apart_words text words other)

false_once : (text : List ℕ) (k : NameKind) (w : Value) → k ≡ kind.Boolean → (text ≡ codes "false") ⊎ (text ≡ codes "0") → IsValue text k w → value_.Bool false ≡ w
false_once text k w is words (natural sign digits split mark some all small) = cc
false_once text k w is words (negative digits split some all small) = cc
false_once text k w is words (truth other) = absurd (apart_words text other words)
false_once text k w is words (falsity other) = refl

-- a text writes one value of a type
value_once : (text : List ℕ) (k l : NameKind) (v w : Value) → k ≡ l → IsValue text k v → IsValue text l w → v ≡ w
value_once text k l v w same (natural sign digits split mark some all small) b =
    written_once text _ w (written_as text kind.Integer _ refl (natural sign digits split mark some all small)) (written_as text l w (sym same) b)
value_once text k l v w same (negative digits split some all small) b =
    written_once text _ w (written_as text kind.Integer _ refl (negative digits split some all small)) (written_as text l w (sym same) b)
value_once text k l v w same (truth is) b = true_once text l w (sym same) is b
value_once text k l v w same (falsity is) b = false_once text l w (sym same) is b

-- the empty text writes none
no_value : (text : List ℕ) (k : NameKind) (v : Value) → text ≡ [] → IsValue text k v → ⊥
no_value text k v empty (natural sign digits split mark some all small) = omega (arith, some, ap length (sym empty ∙ split), length-append sign digits)
no_value text k v empty (negative digits split some all small) = omega (arith, some, ap length (sym empty ∙ split), length-append (codes "-") digits)
no_value text k v empty (truth is) = elim (true_byte text is) [ inl a ↦ omega (arith, a, ap (λ t. get_or t 0 0) empty) | inr a ↦ omega (arith, a, ap (λ t. get_or t 0 0) empty) ]
no_value text k v empty (falsity is) = elim (false_byte text is) [ inl a ↦ omega (arith, a, ap (λ t. get_or t 0 0) empty) | inr a ↦ omega (arith, a, ap (λ t. get_or t 0 0) empty) ]

cell_once : (form : Form) (above : Option Value) (k : NameKind) (text : List ℕ) (v w : Value) → IsCell form above k text v → IsCell form above k text w → v ≡ w
cell_once form above k text v w (written a) (written b) = value_once text k k v w refl a b
cell_once form above k text v w (written a) (kept short empty there) = absurd (no_value text k v empty a)
cell_once form above k text v w (kept short empty there) (written b) = absurd (no_value text k w empty b)
cell_once form above k text v w (kept short empty there) (kept short_ empty_ there_) = cc

pub cell_value_once : (form : Form) (names : List FlatName) (columns : List ℕ) (above : Option Value) (record_ : Record) (k : ℕ) (v w : Value)
    → ValueIs form names columns above record_ k v → ValueIs form names columns above record_ k w → v ≡ w
cell_value_once form names columns above record_ k v w a b =
    let one : b.0 ≡ a.0 = let p = a.2 in let q = b.2 in cc in
    let there : slice_get names a.0 ≡ Some b.1 = subst (λ z. slice_get names z ≡ Some b.1) one b.3 in
    let name : b.1 ≡ a.1 = let p = a.3 in cc in
    cell_once form above a.1.kind (text_in record_ (k + 1)) v w a.4 (subst (λ (n : FlatName). IsCell form above n.kind (text_in record_ (k + 1)) w) name b.4)

-- lists with the same elements are one
pub list_ext : {A : Type 0} (xs ys : List A) → length xs ≡ length ys → ((k : ℕ) (x y : A) → slice_get xs k ≡ Some x → slice_get ys k ≡ Some y → x ≡ y) → xs ≡ ys
list_ext [] [] long same = refl
list_ext [] (y ∷ ys) long same = absurd (omega arith)
list_ext (x ∷ xs) [] long same = absurd (omega arith)
list_ext (x ∷ xs) (y ∷ ys) long same = ap₂ (λ a as_. a ∷ as_) (same 0 x y refl refl) (list_ext xs ys (omega arith) (λ k a b p q. same (suc k) a b p q))

module _ (form : Form) (names : List FlatName) (columns : List ℕ) (before : Option Row) (record_ : Record) where
  pub row_once : (row other : Row) → IsRow form names columns before record_ row → IsRow form names columns before record_ other → row ≡ other
  row_once row other a b =
      let times = instant_once form (time_of_row before) (text_in record_ 0) row.time other.time a.time b.time in
      let cells = list_ext row.cells other.cells (a.wide ∙ sym b.wide) (λ k v w p q. cell_value_once form names columns (cell_of_row before k) record_ k v w (a.values k v p) (b.values k w q)) in
      ap₂ (λ t vs. record { time = t; cells = vs }) times cells

  zero_first : (t : Ratio) → before ≡ None → IsInOrder (time_of_row before) t → t.num ≡ 0
  zero_first t nothing order = subst (λ b. IsInOrder (time_of_row b) t) nothing order

  above_last : (last : Row) (t : Ratio) → before ≡ Some last → IsInOrder (time_of_row before) t → Below last.time t
  above_last last t there order = subst (λ b. IsInOrder (time_of_row b) t) there order

  -- a record that stands for a row breaks no rule
  pub row_or_break : (row : Row) (code : TableCode) (column : ℕ) → IsRow form names columns before record_ row → BreaksIn form names columns before record_ code column → ⊥
  row_or_break row code column is (length_ other) = other is.full
  row_or_break row code column is (time full none) = none row.time is.time
  row_or_break row code column is (start full nothing t at off) =
      let same : t ≡ row.time = instant_once form (time_of_row before) (text_in record_ 0) t row.time at is.time in
      off (zero_first t nothing (subst (λ u. IsInOrder (time_of_row before) u) (sym same) is.order))
  row_or_break row code column is (rising full last there t at off) =
      let same : t ≡ row.time = instant_once form (time_of_row before) (text_in record_ 0) t row.time at is.time in
      off (above_last last t there (subst (λ u. IsInOrder (time_of_row before) u) (sym same) is.order))
  row_or_break row code column is (value full t at order k less earlier none) =
      let v = get_or row.cells k (value_.Bool false) in
      none v (is.values k v (slice_get-get_or row.cells k (value_.Bool false) (omega (arith, less, is.wide))))

  same_value : (k l : ℕ) → ((j : ℕ) → j < k → (v : Value) × ValueIs form names columns (cell_of_row before j) record_ j v) → ((v : Value) → ValueIs form names columns (cell_of_row before k) record_ k v → ⊥)
      → ((j : ℕ) → j < l → (v : Value) × ValueIs form names columns (cell_of_row before j) record_ j v) → ((v : Value) → ValueIs form names columns (cell_of_row before l) record_ l v → ⊥) → k ≡ l
  same_value k l earlier none earlier_ none_ =
      let up : k < l → ⊥ = λ less. let v = earlier_ k less in none v.0 v.1 in
      let down : l < k → ⊥ = λ less. let v = earlier l less in none_ v.0 v.1 in
      omega arith

  abbrev Same : TableCode → ℕ → TableCode → ℕ → Type 0
  Same code column other place = (code ≡ other) × (column ≡ place)

  -- a record breaks one first rule
  pub break_once : (code other : TableCode) (column place : ℕ) → BreaksIn form names columns before record_ code column → BreaksIn form names columns before record_ other place → Same code column other place
  break_once code other column place (length_ a) (length_ b) = (refl, refl)
  break_once code other column place (length_ a) (time full none) = absurd (a full)
  break_once code other column place (length_ a) (start full nothing t at off) = absurd (a full)
  break_once code other column place (length_ a) (rising full last there t at off) = absurd (a full)
  break_once code other column place (length_ a) (value full t at order k less earlier none) = absurd (a full)
  break_once code other column place (time full none) (length_ a) = absurd (a full)
  break_once code other column place (start full nothing t at off) (length_ a) = absurd (a full)
  break_once code other column place (rising full last there t at off) (length_ a) = absurd (a full)
  break_once code other column place (value full t at order k less earlier none) (length_ a) = absurd (a full)
  break_once code other column place (time full none) (time full_ none_) = (refl, refl)
  break_once code other column place (time full none) (start full_ nothing t at off) = absurd (none t at)
  break_once code other column place (time full none) (rising full_ last there t at off) = absurd (none t at)
  break_once code other column place (time full none) (value full_ t at order k less earlier none_) = absurd (none t at)
  break_once code other column place (start full nothing t at off) (time full_ none) = absurd (none t at)
  break_once code other column place (rising full last there t at off) (time full_ none) = absurd (none t at)
  break_once code other column place (value full t at order k less earlier none) (time full_ none_) = absurd (none_ t at)
  break_once code other column place (start full nothing t at off) (start full_ nothing_ t_ at_ off_) = (refl, refl)
  break_once code other column place (start full nothing t at off) (rising full_ last there t_ at_ off_) = let bad : None ≡ Some last = sym nothing ∙ there in cc
  break_once code other column place (rising full_ last there t_ at_ off_) (start full nothing t at off) = let bad : None ≡ Some last = sym nothing ∙ there in cc
  break_once code other column place (start full nothing t at off) (value full_ t_ at_ order k less earlier none) =
      let same : t ≡ t_ = instant_once form (time_of_row before) (text_in record_ 0) t t_ at at_ in
      absurd (off (zero_first t nothing (subst (λ u. IsInOrder (time_of_row before) u) (sym same) order)))
  break_once code other column place (value full_ t_ at_ order k less earlier none) (start full nothing t at off) =
      let same : t ≡ t_ = instant_once form (time_of_row before) (text_in record_ 0) t t_ at at_ in
      absurd (off (zero_first t nothing (subst (λ u. IsInOrder (time_of_row before) u) (sym same) order)))
  break_once code other column place (rising full last there t at off) (rising full_ last_ there_ t_ at_ off_) = (refl, refl)
  break_once code other column place (rising full last there t at off) (value full_ t_ at_ order k less earlier none) =
      let same : t ≡ t_ = instant_once form (time_of_row before) (text_in record_ 0) t t_ at at_ in
      absurd (off (above_last last t there (subst (λ u. IsInOrder (time_of_row before) u) (sym same) order)))
  break_once code other column place (value full_ t_ at_ order k less earlier none) (rising full last there t at off) =
      let same : t ≡ t_ = instant_once form (time_of_row before) (text_in record_ 0) t t_ at at_ in
      absurd (off (above_last last t there (subst (λ u. IsInOrder (time_of_row before) u) (sym same) order)))
  break_once code other column place (value full t at order k less earlier none) (value full_ t_ at_ order_ l less_ earlier_ none_) =
      (refl, ap (λ n. n + 2) (same_value k l earlier none earlier_ none_))
