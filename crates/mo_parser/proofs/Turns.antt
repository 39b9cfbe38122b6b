-- A recursion on a count of turns, beside a loop that counts up.
use Rattle.std.proofs.Common.{◌≡◌, ◌⊎◌, inl, inr, ℕ, zero, suc, ◌+◌, ◌-◌, ◌<◌, ◌≤◌, Bool, true, false, List, Result, Ok, Err, IfOk, IfErr, ap, sym, subst, ◌∙◌, refl, arith}
use Rattle.mo_lexer.specs.declared.token.Token.{Token}
use Rattle.mo_parser.specs.declared.grammar.tokens.Halt.{Halt}
use Rattle.mo_parser.specs.declared.grammar.tokens.Halt.TheVariants as halt
use Rattle.mo_parser.specs.grammar.Places.{head}
use Rattle.mo_parser.specs.reading.Outcomes.{Outcome, Parser, Read, ReadsTokens, and_then, turns}

module _ {A : Type 0} {e : Outcome A} (test : Token → Bool) (step : A → Parser A) (n at : ℕ) where
  one_more : (x : A) (ts : List Token) → at < n → e ≡ turns test step (n - at) x ts → test (head ts) ≡ true → e ≡ and_then (step x ts) (turns test step (n - (at + 1)))
  unfolding turns
  one_more x ts below is goes =
      let turn : n - at ≡ suc (n - (at + 1)) = omega arith in is ∙ ap (λ m. turns test step m x ts) turn ∙ rw goes refl

  -- one turn of the loop, which read y before the tokens rest
  pub turned : (x y : A) (ts rest : List Token) → at < n → e ≡ turns test step (n - at) x ts → test (head ts) ≡ true → step x ts ≡ Read y rest → e ≡ turns test step (n - (at + 1)) y rest
  turned x y ts rest below is goes one = one_more x ts below is goes ∙ ap (λ (o : Outcome A). and_then o (turns test step (n - (at + 1)))) one

  -- a turn that read nothing
  pub failed : (x : A) (ts rest : List Token) (r : Result A Halt) (h : Halt) → at < n → e ≡ turns test step (n - at) x ts → test (head ts) ≡ true → ReadsTokens (step x ts) (Err h) rest → r ≡ Err h → ReadsTokens e r rest
  failed x ts rest r h below is goes none same = let Q : Result A Halt → Type 0 = λ r. ReadsTokens e r rest in subst Q (sym same) (by h none)
    where
      by : (h : Halt) → ReadsTokens (step x ts) (Err h) rest → ReadsTokens e (Err h) rest
      by halt.NoMemory none = tt
      by halt.Stuck none = one_more x ts below is goes ∙ ap (λ (o : Outcome A). and_then o (turns test step (n - (at + 1)))) none
      by halt.Deep none = one_more x ts below is goes ∙ ap (λ (o : Outcome A). and_then o (turns test step (n - (at + 1)))) none

  -- the end of the loop
  pub ended : (x : A) (ts : List Token) → e ≡ turns test step (n - at) x ts → (n ≤ at) ⊎ (test (head ts) ≡ false) → e ≡ Read x ts
  unfolding turns
  ended x ts is (inl all) = let none : n - at ≡ 0 = omega arith in is ∙ ap (λ m. turns test step m x ts) none
  ended x ts is (inr stops) = is ∙ at_once (n - at)
    where
      at_once : (k : ℕ) → turns test step k x ts ≡ Read x ts
      at_once zero = refl
      at_once (suc k) = rw stops refl

pub deeper : {X : Type 0} (f : ℕ → X) (n : ℕ) → 0 < n → f n ≡ f (suc (n - 1))
deeper f n some = let e : n ≡ suc (n - 1) = omega arith in ap f e

-- what follows a part that was read
pub then_reads : {A B : Type 0} (o : Outcome A) (f : A → Parser B) (x : A) (at rest : List Token) (r : Result B Halt) → o ≡ Read x at → ReadsTokens (f x at) r rest → ReadsTokens (and_then o f) r rest
then_reads o f x at rest r is next = rw is next

-- a value that was made where memory did not fail
pub made_reads : {A : Type 0} (x : A) (rest : List Token) (r : Result A Halt) → IfOk r (λ y. y ≡ x) → IfErr r (λ h. h ≡ halt.NoMemory) → ReadsTokens (Read x rest) r rest
made_reads x rest (Ok y) is refused = ap (λ z. Read z rest) (sym is)
made_reads x rest (Err halt.NoMemory) is refused = tt
made_reads x rest (Err halt.Stuck) is refused = cc
made_reads x rest (Err halt.Deep) is refused = cc

pub then_is : {A B : Type 0} (o : Outcome A) (f : A → Parser B) (x : A) (at : List Token) (all : Outcome B) → o ≡ Read x at → f x at ≡ all → and_then o f ≡ all
then_is o f x at all is next = rw is next

pub same_value : {A : Type 0} (x y : A) (rest : List Token) → x ≡ y → Read y rest ≡ Read x rest
same_value x y rest same = ap (λ z. Read z rest) (sym same)
