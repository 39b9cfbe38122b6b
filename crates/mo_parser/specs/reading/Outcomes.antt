-- How a list of tokens is read, one token ahead.
use Rattle.std.specs.Prelude.{ℕ, zero, suc, ◌≡◌, Bool, if◌then◌else◌, List, [], ◌∷◌, length, Option, Some, None, Result, Ok, Err, ⊤}
use Rattle.mo_lexer.specs.declared.token.Token.{Token}
use Rattle.mo_parser.specs.declared.grammar.tokens.Halt.{Halt}
use Rattle.mo_parser.specs.declared.grammar.tokens.Halt.TheVariants as halt
use Rattle.mo_parser.specs.grammar.Places.{head}

-- what was read with the tokens after it, or the tokens from the first one that nothing can stand at, or from the first that stands too deep
pub data Outcome (A : Type 0) : Type 0 where
  Read : A → List Token → Outcome A
  Stuck : List Token → Outcome A
  Deep : List Token → Outcome A

abbrev pub Parser : Type 0 → Type 0
Parser A = List Token → Outcome A

abbrev pub and_then : {A B : Type 0} → Outcome A → (A → Parser B) → Outcome B
and_then (Read x rest) f = f x rest
and_then (Stuck rest) f = Stuck rest
and_then (Deep rest) f = Deep rest

infixl 10 ◌>>=◌
abbrev pub ◌>>=◌ : {A B : Type 0} → Parser A → (A → Parser B) → Parser B
p >>= f = λ ts. and_then (p ts) f

infixl 10 ◌>>◌
abbrev pub ◌>>◌ : {A B : Type 0} → Parser A → Parser B → Parser B
p >> q = p >>= (λ _. q)

abbrev pub gives : {A : Type 0} → A → Parser A
gives x ts = Read x ts

abbrev pub tail : List Token → List Token
tail [] = []
tail (t ∷ ts) = ts

abbrev pub one_by : {A : Type 0} → Option A → Parser A
one_by (Some x) ts = Read x (tail ts)
one_by None ts = Stuck ts

abbrev pub one : {A : Type 0} → (Token → Option A) → Parser A
one f ts = one_by (f (head ts)) ts

-- one of two, by the next token
abbrev pub choose : {A : Type 0} → (Token → Bool) → Parser A → Parser A → Parser A
choose test p q ts = if test (head ts) then p ts else q ts

-- nothing can stand here if the next token is such a one
abbrev pub unless : {A : Type 0} → (Token → Bool) → Parser A → Parser A
unless test p ts = if test (head ts) then Stuck ts else p ts

abbrev pub optional : {A : Type 0} → (Token → Bool) → Parser A → Parser (Option A)
optional test p = choose test (p >>= (λ x. gives (Some x))) (gives None)

abbrev pub dropped : {A : Type 0} → (Token → Bool) → Parser A → Parser (Unit {0})
dropped test p = choose test (p >> gives tt) (gives tt)

-- a step as long as the next token begins one, at most so many times
unfoldable pub turns : {A : Type 0} → (Token → Bool) → (A → Parser A) → ℕ → A → Parser A
turns test step zero x ts = Read x ts
turns test step (suc n) x ts = if test (head ts) then and_then (step x ts) (turns test step n) else Read x ts

-- each turn takes a token, so their count is enough
abbrev pub many : {A : Type 0} → (Token → Bool) → (A → Parser A) → A → Parser A
many test step x ts = turns test step (length ts) x ts

-- what a function that reads answers: the outcome, unless memory fails
abbrev pub ReadsTokens : {A : Type 0} → Outcome A → Result A Halt → List Token → Type 0
ReadsTokens outcome (Ok x) rest = outcome ≡ Read x rest
ReadsTokens outcome (Err halt.NoMemory) rest = ⊤
ReadsTokens outcome (Err halt.Stuck) rest = outcome ≡ Stuck rest
ReadsTokens outcome (Err halt.Deep) rest = outcome ≡ Deep rest
