-- A raw model has one answer.
use Rattle.std.proofs.Common.{◌≡◌, refl, ap, ◌∙◌, sym, subst, ℕ, zero, suc, ◌<◌, arith, take, List, [], ◌∷◌, map, Option, Some, None, Result, Ok, Err, inl, inr, option_map}
use Rattle.std.specs.Prelude.{slice_get}
use Rattle.std.proofs.lemmas.Bool.{cases_order}
use Rattle.std.proofs.lemmas.Option.{slice_get-map, same_Some}
use Rattle.flat_model.specs.declared.model.FlatModel.{FlatModel}
use Rattle.flat_model.specs.declared.raw.RawModel.{RawModel}
use Rattle.flat_types.specs.declared.ends.TypeCode.{TypeCode}
use Rattle.flat_types.specs.declared.ends.TypeEnd.TheVariants.{Fault, NoMemory}
use Rattle.flat_types.specs.Typed.{clause_clock, equation_of, code_of, IsFirstOf, Breaks, clock, own, IsTypedAs}
use Rattle.flat_types.specs.Laws.{AnswerLaw}

-- what is right in both is the same
same_right : {A : Type 0} (xs ys : List A) → map {B = Result A TypeCode} (λ x. Ok x) xs ≡ map (λ y. Ok y) ys → xs ≡ ys
same_right [] [] e = refl
same_right [] (y ∷ ys) e = absurd (cc e)
same_right (x ∷ xs) [] e = absurd (cc e)
same_right (x ∷ xs) (y ∷ ys) e =
    let rest = same_right xs ys (cc e) in
    let head : x ≡ y = cc e in cc

same_model : (f g : FlatModel) → f.names ≡ g.names → f.equations ≡ g.equations → f.clauses ≡ g.clauses → f ≡ g
same_model f g names equations clauses = λ i. record { names = names i; equations = equations i; clauses = clauses i }

-- where all of a list are right, none breaks a rule
pub right_at : {A B : Type 0} (f : A → Result B TypeCode) (xs : List A) (ys : List B) (k : ℕ) (x : A) (code : TypeCode)
    → map f xs ≡ map (λ y. Ok y) ys → slice_get xs k ≡ Some x → code_of (f x) ≡ Some code → ⊥
right_at {A} {B} f xs ys k x code e is h = by_right (slice_get ys k) (sym (ap (option_map f) is) ∙ sym (slice_get-map f xs k) ∙ ap (λ zs. slice_get zs k) e ∙ slice_get-map (λ y. Ok y) ys k)
  where
    by_right : (o : Option B) → Some (f x) ≡ option_map (λ y. Ok y) o → ⊥
    by_right (Some y) p = let right : f x ≡ Ok y = cc p in let e : None ≡ Some code = ap code_of (sym right) ∙ h in absurd (cc e)
    by_right None p = absurd (cc p)

-- the same of the first ones of a list
take_at : {A : Type 0} (xs : List A) (i j : ℕ) (x : A) → j < i → slice_get xs j ≡ Some x → slice_get (take i xs) j ≡ Some x
take_at [] i j x less is = absurd (cc is)
take_at (y ∷ ys) zero j x less is = absurd (omega arith)
take_at (y ∷ ys) (suc i) zero x less is = is
take_at (y ∷ ys) (suc i) (suc j) x less is = take_at ys i j x (omega arith) is

pub right_before : {A B : Type 0} (f : A → Result B TypeCode) (xs : List A) (ys : List B) (i : ℕ) → map f (take i xs) ≡ map (λ y. Ok y) ys
    → (j : ℕ) (x : A) (code : TypeCode) → j < i → slice_get xs j ≡ Some x → f x ≡ Err code → ⊥
right_before f xs ys i e j x code less is h = right_at f (take i xs) ys j x code e (take_at xs i j x less is) (ap code_of h)

never_both : (raw : RawModel) (flat : FlatModel) (i : ℕ) (code : TypeCode) → IsTypedAs raw flat → Breaks raw i code → ⊥
never_both raw flat i code typed (clock equation k clause same is first found e) = right_at (clause_clock raw.names) raw.clauses flat.clauses k clause same typed.clauses found e
never_both raw flat i code typed (own equation same is quiet e) = right_at (equation_of raw.names) raw.equations flat.equations i equation same typed.equations is e

-- an equation breaks one rule first
one_code : (raw : RawModel) (i : ℕ) (a b : TypeCode) → Breaks raw i a → Breaks raw i b → a ≡ b
one_code raw i a b (clock equation k clause a' is first found e) (clock other l another b' at first' found' h) =
    let same : equation ≡ other = same_Some equation other (sym is ∙ at) in
    let number : k ≡ l = same_Some k l (sym first.clause ∙ ap (λ it. it.clause) same ∙ first'.clause) in
    let one : clause ≡ another = same_Some clause another (sym found ∙ ap (slice_get raw.clauses) number ∙ found') in
    same_Some a' b' (sym e ∙ ap (λ it. code_of (clause_clock raw.names it)) one ∙ h)
one_code raw i a b (own equation a' is quiet e) (own other b' at quiet' h) =
    let same : equation ≡ other = same_Some equation other (sym is ∙ at) in
    same_Some a' b' (sym e ∙ ap (λ it. code_of (equation_of raw.names it)) same ∙ h)
one_code raw i a b (clock equation k clause a' is first found e) (own other b' at quiet h) =
    let same : equation ≡ other = same_Some equation other (sym is ∙ at) in
    let none = quiet k clause (subst (λ it. IsFirstOf raw i k it) same first) found in
    let wrong : Some a' ≡ None = sym e ∙ none in absurd (cc wrong)
one_code raw i a b (own equation a' is quiet e) (clock other k clause b' at first found h) =
    let same : other ≡ equation = same_Some other equation (sym at ∙ is) in
    let none = quiet k clause (subst (λ it. IsFirstOf raw i k it) same first) found in
    let wrong : Some b' ≡ None = sym h ∙ none in absurd (cc wrong)

pub one_answer : AnswerLaw
one_answer raw (Ok f) (Ok g) p q found other =
    ap (λ it. Ok it) (same_model f g (p.names ∙ sym q.names) (same_right f.equations g.equations (sym p.equations ∙ q.equations)) (same_right f.clauses g.clauses (sym p.clauses ∙ q.clauses)))
one_answer raw (Ok f) (Err (Fault code i)) p q found other = absurd (never_both raw f i code p q.0)
one_answer raw (Err (Fault code i)) (Ok f) p q found other = absurd (never_both raw f i code q p.0)
one_answer raw (Err (Fault a i)) (Err (Fault b j)) p q found other = elim (cases_order i j) [
  | inl same ↦ let code : a ≡ b = one_code raw j a b (subst (λ k. Breaks raw k a) same p.0) q.0 in cc
  | inr apart ↦ elim apart [
    | inl below ↦ absurd (q.1 i a below p.0)
    | inr above ↦ absurd (p.1 j b above q.0)
  ]
]
one_answer raw (Err NoMemory) b p q found other = absurd (found refl)
one_answer raw (Ok f) (Err NoMemory) p q found other = absurd (other refl)
one_answer raw (Err (Fault code i)) (Err NoMemory) p q found other = absurd (other refl)
