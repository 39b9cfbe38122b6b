-- A number for each kind of token, and lists of such numbers.
use Rattle.std.proofs.Common.{◌≡◌, ℕ, zero, suc, ◌⊎◌, inl, inr, ◌+◌, ◌*◌, Bool, true, false, not, ◌||◌, ◌&&◌, nat_eq, List, [], ◌∷◌, ◌++◌, Option, Some, None, refl, ap, sym, ◌∙◌, arith}
use Rattle.std.proofs.lemmas.Bool.{eqb-true}
use Rattle.mo_lexer.specs.declared.token.Token.{Token}
use Rattle.mo_lexer.specs.declared.token.TokenKind.{TokenKind}
use Rattle.mo_lexer.specs.declared.token.TokenKind.TheVariants as k
use Rattle.mo_lexer.specs.declared.token.Word.{Word}
use Rattle.mo_lexer.specs.declared.token.Sym.{Sym}
use Rattle.mo_lexer.specs.contracts.token.Word as the_words
use Rattle.mo_lexer.specs.contracts.token.Sym as the_symbols
use denote.Enum.Declared.{tag_of}
use Rattle.mo_parser.specs.grammar.Places.{head}

-- words have even numbers and symbols odd ones
abbrev pub kw : Word → ℕ
kw x = 2 * tag_of the_words.the_type x + 10

abbrev pub sy : Sym → ℕ
sy x = 2 * tag_of the_symbols.the_type x + 11

abbrev pub tag : TokenKind → ℕ
tag k.Ident = 0
tag (k.Keyword x) = kw x
tag (k.Integer n) = 1
tag k.Real = 2
tag k.Text = 3
tag (k.Symbol x) = sy x
tag k.End = 4

abbrev pub among : List ℕ → ℕ → Bool
among [] n = false
among (m ∷ ms) n = nat_eq m n || among ms n

-- the next token is one of these, or none of these
abbrev pub In : List ℕ → List Token → Type 0
In ms a = among ms (tag (head a).kind) ≡ true

abbrev pub Out : List ℕ → List Token → Type 0
Out ms a = among ms (tag (head a).kind) ≡ false

-- all of the first list are in the second, or none
abbrev pub within : List ℕ → List ℕ → Bool
within [] ys = true
within (x ∷ xs) ys = among ys x && within xs ys

abbrev pub apart : List ℕ → List ℕ → Bool
apart [] ys = true
apart (x ∷ xs) ys = not (among ys x) && apart xs ys

both_true : (a b : Bool) → (a && b) ≡ true → (a ≡ true) × (b ≡ true)
both_true true b h = (refl, h)
both_true false b h = cc

or_cases : (a b : Bool) → (a || b) ≡ true → (a ≡ true) ⊎ (b ≡ true)
or_cases true b h = inl refl
or_cases false b h = inr h

neither : (a b : Bool) → (a || b) ≡ false → (a ≡ false) × (b ≡ false)
neither true b h = cc
neither false b h = (refl, h)

is_false : (a : Bool) → not a ≡ true → a ≡ false
is_false true h = cc
is_false false h = refl

pub among_within : (xs ys : List ℕ) (n : ℕ) → within xs ys ≡ true → among xs n ≡ true → among ys n ≡ true
among_within [] ys n w i = cc
among_within (x ∷ xs) ys n w i =
    let (here, rest) = both_true (among ys x) (within xs ys) w in
    elim (or_cases (nat_eq x n) (among xs n) i) [
      | inl same ↦ ap (λ m. among ys m) (sym (eqb-true x n same)) ∙ here
      | inr later ↦ among_within xs ys n rest later
    ]

pub among_apart : (xs ys : List ℕ) (n : ℕ) → apart xs ys ≡ true → among xs n ≡ true → among ys n ≡ false
among_apart [] ys n w i = cc
among_apart (x ∷ xs) ys n w i =
    let (here, rest) = both_true (not (among ys x)) (apart xs ys) w in
    elim (or_cases (nat_eq x n) (among xs n) i) [
      | inl same ↦ ap (λ m. among ys m) (sym (eqb-true x n same)) ∙ is_false (among ys x) here
      | inr later ↦ among_apart xs ys n rest later
    ]

pub out_within : (xs ys : List ℕ) (n : ℕ) → within xs ys ≡ true → among ys n ≡ false → among xs n ≡ false
out_within xs ys n w o = by_cases (among xs n) refl
  where
    by_cases : (b : Bool) → among xs n ≡ b → among xs n ≡ false
    by_cases true e = let bad : among ys n ≡ true = among_within xs ys n w e in cc
    by_cases false e = e

pub in_left : (xs ys : List ℕ) (n : ℕ) → among xs n ≡ true → among (xs ++ ys) n ≡ true
in_left [] ys n i = cc
in_left (x ∷ xs) ys n i = by_cases (nat_eq x n) i (λ h. in_left xs ys n h)
  where
    by_cases : (b : Bool) → (b || among xs n) ≡ true → (among xs n ≡ true → among (xs ++ ys) n ≡ true) → (b || among (xs ++ ys) n) ≡ true
    by_cases true h again = refl
    by_cases false h again = again h

pub in_right : (xs ys : List ℕ) (n : ℕ) → among ys n ≡ true → among (xs ++ ys) n ≡ true
in_right [] ys n i = i
in_right (x ∷ xs) ys n i = by_cases (nat_eq x n) (in_right xs ys n i)
  where
    by_cases : (b : Bool) → among (xs ++ ys) n ≡ true → (b || among (xs ++ ys) n) ≡ true
    by_cases true h = refl
    by_cases false h = h

pub out_left : (xs ys : List ℕ) (n : ℕ) → among (xs ++ ys) n ≡ false → among xs n ≡ false
out_left [] ys n o = refl
out_left (x ∷ xs) ys n o =
    let (here, rest) = neither (nat_eq x n) (among (xs ++ ys) n) o in rw here (out_left xs ys n rest)

pub out_right : (xs ys : List ℕ) (n : ℕ) → among (xs ++ ys) n ≡ false → among ys n ≡ false
out_right [] ys n o = o
out_right (x ∷ xs) ys n o =
    let (here, rest) = neither (nat_eq x n) (among (xs ++ ys) n) o in out_right xs ys n rest

-- the list where a rule may spell no tokens, and the empty list elsewhere
abbrev pub if_none : ℕ → List ℕ → List ℕ
if_none zero ms = ms
if_none (suc n) ms = []

-- what begins a place that is too deep at once: any token but those of the list
abbrev pub At_once : Option (List ℕ) → List Token → Type 0
At_once None a = ⊥
At_once (Some ms) a = Out ms a

-- none of the tokens at which a rule begins, or at once is too deep, is in the list
abbrev pub parted : List ℕ → Option (List ℕ) → List ℕ → Bool
parted s None ms = apart s ms
parted s (Some xs) ms = apart s ms && within ms xs

pub parted_apart : (s : List ℕ) (o : Option (List ℕ)) (ms : List ℕ) → parted s o ms ≡ true → apart s ms ≡ true
parted_apart s None ms fine = fine
parted_apart s (Some xs) ms fine = (both_true (apart s ms) (within ms xs) fine).0

pub begun_out : (s : List ℕ) (o : Option (List ℕ)) (ms : List ℕ) (a : List Token) → parted s o ms ≡ true → In s a ⊎ At_once o a → Out ms a
begun_out s o ms a fine (inl i) = among_apart s ms _ (parted_apart s o ms fine) i
begun_out s None ms a fine (inr never) = absurd never
begun_out s (Some xs) ms a fine (inr out) = out_within ms xs _ (both_true (apart s ms) (within ms xs) fine).1 out

-- where a sequence is too deep at once, by the first rule, or by the second if the first may spell no tokens
abbrev pub joint : Option (List ℕ) → ℕ → Option (List ℕ) → Option (List ℕ)
joint None zero o = o
joint None (suc l) o = None
joint (Some ms) zero o = Some []
joint (Some ms) (suc l) o = Some ms

pub joint_left : (o : Option (List ℕ)) (l : ℕ) (p : Option (List ℕ)) (a : List Token) → At_once o a → At_once (joint o l p) a
joint_left None l p a never = absurd never
joint_left (Some ms) zero p a out = refl
joint_left (Some ms) (suc l) p a out = out

pub joint_right : (o : Option (List ℕ)) (p : Option (List ℕ)) (a : List Token) → At_once p a → At_once (joint o 0 p) a
joint_right None p a there = there
joint_right (Some ms) None a never = absurd never
joint_right (Some ms) (Some xs) a there = refl

pub never_none : {X : Type 0} → ◌≡◌ {A = ℕ} 1 0 → X
never_none e = absurd (omega arith)
