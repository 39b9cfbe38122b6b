-- What holds of all that a rule spells, where something holds of its tokens.
use Rattle.std.proofs.Common.{◌≡◌, refl, subst, sym, ap, ◌∙◌, ◌⊎◌, inl, inr, ℕ, ℤ, Bool, true, false, List, [], ◌∷◌, ◌++◌, Option, Some, None, length, ◌≤◌}
use Rattle.mo_lexer.specs.declared.token.Token.{Token}
use Rattle.mo_parser.specs.grammar.Rules.{Rule, gives, one, ◌>>=◌, ◌>>◌, either, too_deep, inside, Steps, over, again, many, optional, dropped}

-- it holds of each
abbrev pub Every : {A : Type 0} → (A → Type 0) → List A → Type 0
Every P [] = Unit {0}
Every P (x ∷ xs) = P x × Every P xs

-- it holds where there is one
abbrev pub Maybe : {A : Type 0} → (A → Type 0) → Option A → Type 0
Maybe P (Some x) = P x
Maybe P None = Unit {0}

abbrev pub Any_of : (A : Type 0) → A → Type 0
Any_of A x = Unit {0}

pub every_push : {A : Type 0} (P : A → Type 0) (xs : List A) (x : A) → Every P xs → P x → Every P (xs ++ x ∷ [])
every_push P [] x all is = (is, tt)
every_push P (y ∷ xs) x all is = (all.0, every_push P xs x all.1 is)

module _ (Good : Token → Type 0) where
  pub record Told {A : Type 0} (P : A → Type 0) (R : Rule A) : Type 0 where
    pub told : (x : A) (a b : List Token) → R.spells x a b → Every Good a → P x × Every Good b

  pub told_gives : {A : Type 0} {P : A → Type 0} (x : A) → P x → Told P (gives x)
  unfolding gives
  told_gives {P = P} x is = record { told = λ y a b s all. (subst P s.0 is, subst (Every Good) s.1 all) }

  pub told_one : {A : Type 0} {P : A → Type 0} {f : Token → Option A} → ((t : Token) (x : A) → Good t → f t ≡ Some x → P x) → Told P (one f)
  unfolding one
  told_one each = record {
    told = λ x a b s all.
        let here = subst (Every Good) s.1 all in
        (each s.0 x here.0 s.2, here.1);
  }

  pub told_any : {A : Type 0} (f : Token → Option A) → Told (Any_of A) (one f)
  told_any f = told_one (λ t x good is. tt)

  pub told_then : {A B : Type 0} {P : A → Type 0} {Q : B → Type 0} {R : Rule A} {S : A → Rule B} → Told P R → ((x : A) → P x → Told Q (S x)) → Told Q (R >>= S)
  unfolding ◌>>=◌
  told_then r next = record {
    told = λ y a c s all.
        let first = r.told s.0 a s.1 s.2 all in
        (next s.0 first.0).told y s.1 c s.3 first.1;
  }

  pub told_either : {A : Type 0} {P : A → Type 0} {R S : Rule A} → Told P R → Told P S → Told P (either R S)
  unfolding either
  told_either r t = record { told = λ x a b s all. elim s [ inl i ↦ r.told x a b i all | inr i ↦ t.told x a b i all ] }

  pub told_deep : {A : Type 0} {P : A → Type 0} → Told P too_deep
  unfolding too_deep
  told_deep = record { told = λ x a b s all. absurd s }

  pub told_inside : {A : Type 0} {P : A → Type 0} (closes : Token → Bool) {R : Rule A} → Told P R → Told P (inside closes R)
  unfolding inside
  told_inside closes r = record { told = λ x a b s all. r.told x a b s all }

  module _ {A : Type 0} (P : A → Type 0) (step : A → Rule A) (each : (x : A) → P x → Told P (step x)) where
    told_steps : (x y : A) (a b : List Token) → Steps step x y a b → P x → Every Good a → P y × Every Good b
    told_steps _ _ _ _ (over x a) is all = (is, all)
    told_steps _ _ _ _ (again x y z a b c s rest) is all =
        let first = (each x is).told y a b s all in
        told_steps y z b c rest first.0 first.1

  pub told_many : {A : Type 0} {P : A → Type 0} {step : A → Rule A} {x : A} → ((y : A) → P y → Told P (step y)) → P x → Told P (many step x)
  unfolding many
  told_many {P = P} {step = step} {x = x} each is = record { told = λ y a b s all. told_steps P step each x y a b s is all }

  pub told_optional : {A : Type 0} {P : A → Type 0} {R : Rule A} → Told P R → Told (Maybe P) (optional R)
  told_optional r = told_either (told_then r (λ x is. told_gives _ is)) (told_gives _ tt)

  pub told_dropped : {A : Type 0} {P : A → Type 0} {R : Rule A} → Told P R → Told (Any_of (Unit {0})) (dropped R)
  told_dropped r = told_either (told_then r (λ x is. told_gives _ tt)) (told_gives _ tt)
