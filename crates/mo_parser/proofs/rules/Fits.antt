-- What ties a rule to the function that reads it.
use Rattle.std.proofs.Common.{◌≡◌, ◌≤◌, ◌<◌, ◌+◌, ◌⊎◌, inl, inr, ℕ, true, List, Option, length}
use Rattle.mo_lexer.specs.declared.token.Token.{Token}
use Rattle.mo_parser.specs.grammar.Rules.{Rule}
use Rattle.mo_parser.specs.grammar.Places.{Front, Swap}
use Rattle.mo_parser.specs.reading.Outcomes.{Parser, Read, Deep}
use Rattle.mo_parser.proofs.rules.Kinds.{In, Out, At_once, within, among_within, out_within}
use Rattle.mo_parser.proofs.rules.Lists.{Below, Halts, Tail, moved, rest_of}

-- what spells a value on top of any tokens
abbrev pub Some_of : {A : Type 0} → Rule A → Type 0
Some_of R = (t : _) × ((c : List Token) → (a : List Token) × R.spells t a c)

-- what was read before the place b begins something that is spelled, on top of any tokens
abbrev pub Goes_on : {A : Type 0} → Rule A → List Token → List Token → Type 0
Goes_on R a b = (t : _) × ((c : List Token) → (a' : List Token) × (b' : List Token) × Front a b a' b' × R.spells t a' c)

-- The rule R and the function p that reads it, at n levels of brackets and if-expressions. What is spelled begins with a token of the first list, a token of the second can lengthen it, and it has at least so many tokens.
-- Where the levels may run out before the first token, the option has the tokens at which they do not.
pub record Fits {A : Type 0} (starts more : List ℕ) (least : ℕ) (opens : Option (List ℕ)) (R : ℕ → Rule A) (p : ℕ → Parser A) (n : ℕ) : Type 0 where
  pub sound : (t : A) (a b : List Token) → p n a ≡ Read t b → (R n).spells t a b
  pub complete : (t : A) (a b : List Token) → (R n).spells t a b → Out more b → p n a ≡ Read t b
  pub first : (t : A) (a b : List Token) → (R n).spells t a b → In starts a ⊎ ((least ≡ 0) × (a ≡ b))
  pub size : (t : A) (a b : List Token) → (R n).spells t a b → length b + least ≤ length a
  -- the levels run out just where the rule exceeds them
  pub deep_sound : (a b : List Token) → p n a ≡ Deep b → (R n).exceeds a b
  pub deep_complete : (a b : List Token) → (R n).exceeds a b → p n a ≡ Deep b
  pub deep_first : (a b : List Token) → (R n).exceeds a b → In starts a ⊎ At_once opens a
  -- a function looks at the tokens that it takes and at the one after them, and at no other
  pub takes : (a : List Token) → Tail a (rest_of (p n a))
  pub local : (a a' b' : List Token) → Swap a (rest_of (p n a)) a' b' → p n a' ≡ moved (p n a) b'
  -- more levels change nothing but that the levels ran out
  pub deeper : (m : ℕ) → n ≤ m → (t : A) (a b : List Token) → (R n).spells t a b → (R m).spells t a b
  pub below : (m : ℕ) → n ≤ m → (a : List Token) → Below (p n a) (p m a)
  -- what is spelled may stand before any tokens, and what was begun can be ended
  pub puts : (t : A) (a b b' : List Token) → (R n).spells t a b → (a' : List Token) × Front a b a' b' × (R n).spells t a' b'
  pub goes : (a b : List Token) → Halts (p n a) b → (m : ℕ) → n < m → Goes_on (R m) a b
  pub some : (m : ℕ) → 0 < m → Some_of (R m)

-- with longer lists of tokens
pub fits_as : {A : Type 0} {s m : List ℕ} {l : ℕ} {o : Option (List ℕ)} {R : ℕ → Rule A} {p : ℕ → Parser A} {n : ℕ} (s' m' : List ℕ) → within s s' ≡ true → within m m' ≡ true → Fits s m l o R p n → Fits s' m' l o R p n
fits_as {s = s} {m = m} s' m' in_s in_m f = record {
  sound = f.sound;
  complete = λ t a b r o. f.complete t a b r (out_within m m' _ in_m o);
  first = λ t a b r. elim (f.first t a b r) [ inl i ↦ inl (among_within s s' _ in_s i) | inr e ↦ inr e ];
  size = f.size;
  deep_sound = f.deep_sound;
  deep_complete = f.deep_complete;
  deep_first = λ a b r. elim (f.deep_first a b r) [ inl i ↦ inl (among_within s s' _ in_s i) | inr e ↦ inr e ];
  takes = f.takes;
  local = f.local;
  deeper = f.deeper;
  below = f.below;
  puts = f.puts;
  goes = f.goes;
  some = f.some;
}
