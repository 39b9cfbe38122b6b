-- How the rules of the grammar are made.
use Rattle.std.specs.Prelude.{◌≡◌, ◌⊎◌, Bool, false, List, ◌∷◌, Option, Some, None}
use Rattle.mo_lexer.specs.declared.token.Token.{Token}
use Rattle.mo_parser.specs.grammar.Places.{head}

-- A rule of the grammar, where a token may stand inside so many levels of brackets and if-expressions.
pub record Rule (A : Type 0) : Type 1 where
  -- the tokens a begin with some that spell this value, and the tokens b follow them
  pub spells : A → List Token → List Token → Type 0
  -- the tokens a begin with some that may begin what is spelled, and the next one, which begins b, stands inside too many levels
  pub exceeds : List Token → List Token → Type 0

-- no token at all spells this value
unfoldable pub gives : {A : Type 0} → A → Rule A
gives x = record { spells = λ y a b. (x ≡ y) × (a ≡ b); exceeds = λ a b. ⊥ }

-- one token
unfoldable pub one : {A : Type 0} → (Token → Option A) → Rule A
one f = record { spells = λ x a b. (t : Token) × (a ≡ t ∷ b) × (f t ≡ Some x); exceeds = λ a b. ⊥ }

-- a rule, and after it one that may ask for the value of the first
infixl 10 ◌>>=◌
unfoldable pub ◌>>=◌ : {A B : Type 0} → Rule A → (A → Rule B) → Rule B
R >>= S = record {
  spells = λ y a c. (x : _) × (b : List Token) × R.spells x a b × (S x).spells y b c;
  exceeds = λ a c. R.exceeds a c ⊎ ((x : _) × (b : List Token) × R.spells x a b × (S x).exceeds b c);
}

infixl 10 ◌>>◌
abbrev pub ◌>>◌ : {A B : Type 0} → Rule A → Rule B → Rule B
R >> S = R >>= (λ _. S)

-- one of two rules
unfoldable pub either : {A : Type 0} → Rule A → Rule A → Rule A
either R S = record { spells = λ x a b. R.spells x a b ⊎ S.spells x a b; exceeds = λ a b. R.exceeds a b ⊎ S.exceeds a b }

-- what stands here stands inside too many levels
unfoldable pub too_deep : {A : Type 0} → Rule A
too_deep = record { spells = λ x a b. ⊥; exceeds = λ a b. a ≡ b }

-- a rule behind an opening bracket, where a closing one, which the test tells, stands outside the pair
unfoldable pub inside : {A : Type 0} → (Token → Bool) → Rule A → Rule A
inside closes R = record { spells = R.spells; exceeds = λ a b. R.exceeds a b × (closes (head a) ≡ false) }

-- a step any number of times, each from the value that the one before it gave
module _ {A : Type 0} (step : A → Rule A) where
  pub data Steps : A → A → List Token → List Token → Type 0 where
    over : (x : A) (a : List Token) → Steps x x a a
    again : (x y z : A) (a b c : List Token) → (step x).spells y a b → Steps y z b c → Steps x z a c

  unfoldable pub many : A → Rule A
  many x = record { spells = Steps x; exceeds = λ a c. (y : A) × (b : List Token) × Steps x y a b × (step y).exceeds b c }

abbrev pub optional : {A : Type 0} → Rule A → Rule (Option A)
optional R = either (R >>= (λ x. gives (Some x))) (gives None)

-- what is read and dropped, where it stands
abbrev pub dropped : {A : Type 0} → Rule A → Rule (Unit {0})
dropped R = either (R >> gives tt) (gives tt)
