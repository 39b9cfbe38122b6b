-- The map of the inputs by their texts.
use Rattle.std.proofs.Common.{◌≡◌, ◌∙◌, ap, sym, subst, refl, ℕ, ◌+◌, ◌<◌, ◌≤◌, inl, inr, length, get_or, Bool, true, false, cond, List, [], ◌∷◌, Option, Some, None, slice_get, arith}
use Rattle.std.specs.Borrow.{Bor}
use Rattle.std.specs.Str.{bytes_eq}
use Rattle.std.proofs.lemmas.Option.{slice_get_within, slice_get-get_or}
use Rattle.std.proofs.lemmas.Slice.Eq.{bytes_eq-Decides}
use Rattle.std.proofs.lemmas.Bool.Decides.{eqb_tells}
use Rattle.indexmap.specs.IndexMap.{insert_entry}
use Rattle.flat_model.specs.declared.model.FlatName.{FlatName}
use Rattle.input_table.specs.Headers.{IsInputCalled}
use Rattle.input_table.specs.private.Finding.{number_of, IsFound}

abbrev pub Entries : Type 0
Entries = List (Bor (List ℕ) × ℕ)

abbrev pub same_text : Bor (List ℕ) → Bor (List ℕ) → Bool
same_text a b = bytes_eq a.now b.now

-- a text that is inserted is found, and others as before
pub insert_found : (text : List ℕ) (es : Entries) (k : Bor (List ℕ)) (v : ℕ) → number_of text (insert_entry same_text es k v) ≡ cond (bytes_eq text k.now) (Some v) (number_of text es)
insert_found text [] k v = refl
insert_found text (e ∷ es) k v = by_key (bytes_eq k.now e.0.now) refl (insert_found text es k v)
  where
    twice : (b : Bool) (first second : Option ℕ) (x : ℕ) → cond b first second ≡ cond b first (cond b (Some x) second)
    twice true first second x = refl
    twice false first second x = refl

    apart : (b c : Bool) → bytes_eq text e.0.now ≡ b → bytes_eq text k.now ≡ c → (bytes_eq k.now e.0.now ≡ true → ⊥)
        → number_of text (insert_entry same_text es k v) ≡ cond c (Some v) (number_of text es)
        → cond b (Some e.1) (number_of text (insert_entry same_text es k v)) ≡ cond c (Some v) (cond b (Some e.1) (number_of text es))
    apart true true here there other again =
        absurd (other ((bytes_eq-Decides k.now e.0.now).1 (sym ((bytes_eq-Decides text k.now).0 there) ∙ (bytes_eq-Decides text e.0.now).0 here)))
    apart true false here there other again = refl
    apart false c here there other again = again

    by_key : (b : Bool) → bytes_eq k.now e.0.now ≡ b → number_of text (insert_entry same_text es k v) ≡ cond (bytes_eq text k.now) (Some v) (number_of text es)
        → number_of text (cond b ((e.0, v) ∷ es) (e ∷ insert_entry same_text es k v)) ≡ cond (bytes_eq text k.now) (Some v) (number_of text (e ∷ es))
    by_key true is again =
        let same : k.now ≡ e.0.now = (bytes_eq-Decides k.now e.0.now).0 is in
        rw same (twice (bytes_eq text e.0.now) (Some v) (number_of text es) e.1)
    by_key false is again = apart (bytes_eq text e.0.now) (bytes_eq text k.now) refl refl (λ w. let no_ : false ≡ true = sym is ∙ w in cc) again

-- the inputs below a number are found by their texts
abbrev pub FoundBelow : List FlatName → ℕ → List ℕ → Option ℕ → Type 0
FoundBelow names at text None = (x : ℕ) → x < at → IsInputCalled names text x → ⊥
FoundBelow names at text (Some x) = IsInputCalled names text x

pub none_yet : (names : List FlatName) (text : List ℕ) → FoundBelow names 0 text None
none_yet names text x less is = omega arith

-- one more input is noted
pub noted_more : (names : List FlatName) (at : ℕ) (text key : List ℕ) (found : Option ℕ) → FoundBelow names at text found → IsInputCalled names key at
    → FoundBelow names (at + 1) text (cond (bytes_eq text key) (Some at) found)
noted_more names at text key found below is = by_key (bytes_eq text key) refl found below
  where
    not_here : (x : ℕ) → bytes_eq text key ≡ false → x ≡ at → IsInputCalled names text x → ⊥
    not_here x other same (name, found_, input, called) =
        let there : slice_get names at ≡ Some name = rw (← same) found_ in
        let one : name ≡ is.0 = cc in
        let text_is : text ≡ key = sym called ∙ ap (λ (n : FlatName). n.text) one ∙ is.3 in
        let bad : bytes_eq text key ≡ true = (bytes_eq-Decides text key).1 text_is in cc

    by_key : (b : Bool) → bytes_eq text key ≡ b → (found : Option ℕ) → FoundBelow names at text found → FoundBelow names (at + 1) text (cond b (Some at) found)
    by_key true same found below = subst (λ t. IsInputCalled names t at) (sym ((bytes_eq-Decides text key).0 same)) is
    by_key false other None below = λ x less called. elim (eqb_tells x at) [
      | inl same ↦ not_here x other same.1 called
      | inr apart ↦ below x (omega (arith, apart.1)) called
    ]
    by_key false other (Some x) below = below

-- a name that is no input is not noted
pub passed_more : (names : List FlatName) (at : ℕ) (text : List ℕ) (found : Option ℕ) → FoundBelow names at text found → ((text : List ℕ) → IsInputCalled names text at → ⊥)
    → FoundBelow names (at + 1) text found
passed_more names at text None below none = λ x less called. elim (eqb_tells x at) [
  | inl same ↦ none text (subst (λ y. IsInputCalled names text y) same.1 called)
  | inr apart ↦ below x (omega (arith, apart.1)) called
]
passed_more names at text (Some x) below none = below

-- at the end every input is found
pub all_found : (names : List FlatName) (text : List ℕ) (at : ℕ) (found : Option ℕ) → ((x : ℕ) → IsInputCalled names text x → x < at) → FoundBelow names at text found → IsFound names text found
all_found names text at None within below = λ x called. below x (within x called) called
all_found names text at (Some x) within below = below

-- what a map that finds the inputs has for a text
pub found_of : (names : List FlatName) (entries : Entries) (text other : List ℕ) (found : Option ℕ) → ((text : List ℕ) → IsFound names text (number_of text entries))
    → text ≡ other → found ≡ number_of text entries → IsFound names other found
found_of names entries text other found finds same is = subst (λ t. IsFound names t found) same (subst (λ o. IsFound names text o) (sym is) (finds text))

-- an input is noted, and all below the next number are found
pub noted_in : (names : List FlatName) (at : ℕ) (before after : Entries) (key : List ℕ) → ((text : List ℕ) → FoundBelow names at text (number_of text before))
    → ((other : List ℕ) → number_of other after ≡ cond (bytes_eq other key) (Some at) (number_of other before)) → IsInputCalled names key at
    → (text : List ℕ) → FoundBelow names (at + 1) text (number_of text after)
noted_in names at before after key below is input text =
    subst (λ o. FoundBelow names (at + 1) text o) (sym (is text)) (noted_more names at text key (number_of text before) (below text) input)

-- the input of a number
pub input_at : (names : List FlatName) (at : ℕ) (name : FlatName) → at < length names → name ≡ get_or names at name → name.input ≡ true → IsInputCalled names name.text at
input_at names at name less is input = (name, slice_get-get_or names at name less ∙ ap (λ (n : FlatName). Some n) (sym is), input, refl)

pub no_input_at : (names : List FlatName) (at : ℕ) (name : FlatName) → at < length names → name ≡ get_or names at name → name.input ≡ false → (text : List ℕ) → IsInputCalled names text at → ⊥
no_input_at names at name less is input text (other, found, so, called) =
    let there : slice_get names at ≡ Some name = slice_get-get_or names at name less ∙ ap (λ (n : FlatName). Some n) (sym is) in
    let one : other ≡ name = cc in
    let bad : true ≡ false = sym so ∙ ap (λ (n : FlatName). n.input) one ∙ input in cc

-- the inputs of all numbers are found
pub whole_found : (names : List FlatName) (at : ℕ) (entries : Entries) → length names ≤ at → ((text : List ℕ) → FoundBelow names at text (number_of text entries)) → (text : List ℕ) → IsFound names text (number_of text entries)
whole_found names at entries past below text =
    all_found names text at (number_of text entries) (λ x is. let less = slice_get_within names x is.0 is.1 in omega (arith, less, past)) (below text)
