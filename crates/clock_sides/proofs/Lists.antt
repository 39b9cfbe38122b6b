-- What is found in lists, and what holds of each of their elements.
use Rattle.std.proofs.Common.{◌≡◌, refl, subst, ℕ, zero, suc, Bool, true, false, ◌&&◌, List, [], ◌∷◌, ◌++◌, slice_get, Some, Contains, arith}
use Rattle.std.proofs.lemmas.Bool.{false≢true}
use Rattle.std.proofs.lemmas.Option.{none-some}
use Rattle.std.proofs.lemmas.List.Elements.{Contains-append_left, Contains-append_right}
use Rattle.clock_terms.specs.Mentions.{Mention, Cut}
use Rattle.clock_terms.proofs.Joining.{here, there, in_none}
use Rattle.clock_ready.proofs.Good.{Each}

-- some mention is of this kind
abbrev pub Found : (Mention → Type 0) → List Mention → Type 0
Found P ms = (m : Mention) × Contains ms m × P m

pub found_here : (P : Mention → Type 0) (m : Mention) (ms : List Mention) → P m → Found P (m ∷ ms)
found_here P m ms p = (m, here m ms, p)

pub found_there : (P : Mention → Type 0) (m : Mention) (ms : List Mention) → Found P ms → Found P (m ∷ ms)
found_there P m ms f = (f.0, there m ms f.0 f.1, f.2)

pub found_left : (P : Mention → Type 0) (xs ys : List Mention) → Found P xs → Found P (xs ++ ys)
found_left P xs ys f = (f.0, Contains-append_left xs ys f.0 f.1, f.2)

pub found_right : (P : Mention → Type 0) (xs ys : List Mention) → Found P ys → Found P (xs ++ ys)
found_right P xs ys f = (f.0, Contains-append_right xs ys f.0 f.1, f.2)

-- some part that is cut has such a mention
abbrev pub FoundCut : (Mention → Type 0) → List Cut → Type 0
FoundCut P cuts = (cut : Cut) × Contains cuts cut × Found P cut.mentions

pub cut_left : (P : Mention → Type 0) (xs ys : List Cut) → FoundCut P xs → FoundCut P (xs ++ ys)
cut_left P xs ys f = (f.0, Contains-append_left xs ys f.0 f.1, f.2)

pub cut_right : (P : Mention → Type 0) (xs ys : List Cut) → FoundCut P ys → FoundCut P (xs ++ ys)
cut_right P xs ys f = (f.0, Contains-append_right xs ys f.0 f.1, f.2)

pub each_left : {X : Type 0} (P : X → Type 0) (xs ys : List X) → Each P (xs ++ ys) → Each P xs
each_left P [] ys h = tt
each_left P (x ∷ xs) ys h = (h.0, each_left P xs ys h.1)

pub each_right : {X : Type 0} (P : X → Type 0) (xs ys : List X) → Each P (xs ++ ys) → Each P ys
each_right P [] ys h = h
each_right P (x ∷ xs) ys h = each_right P xs ys h.1

pub each_from : {X : Type 0} (P : X → Type 0) (xs : List X) → ((x : X) → Contains xs x → P x) → Each P xs
each_from P [] h = tt
each_from P (x ∷ xs) h = (h x (here x xs), each_from P xs (λ y within. h y (there x xs y within)))

pub at_of : {X : Type 0} (xs : List X) (x : X) → Contains xs x → (j : ℕ) × (slice_get xs j ≡ Some x)
at_of [] x c = absurd (in_none x c)
at_of (y ∷ ys) x (zero, lt, e) = (0, subst (λ z. Some y ≡ Some z) e refl)
at_of (y ∷ ys) x (suc k, lt, e) = let r = at_of ys x (k, omega (arith, lt), e) in (suc r.0, r.1)

pub contains_at : {X : Type 0} (xs : List X) (n : ℕ) (x : X) → slice_get xs n ≡ Some x → Contains xs x
contains_at [] n x e = absurd (none-some x e)
contains_at (y ∷ ys) zero x e = let same : y ≡ x = cc in subst (λ z. Contains (y ∷ ys) z) same (here y ys)
contains_at (y ∷ ys) (suc n) x e = there y ys x (contains_at ys n x e)

pub both_true : (a b : Bool) → a ≡ true → b ≡ true → (a && b) ≡ true
both_true true b e f = f
both_true false b e f = absurd (false≢true e)
