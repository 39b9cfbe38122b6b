-- Names with dots between their parts.
use Rattle.std.proofs.Common.{◌≡◌, refl, ap, ◌∙◌, sym, ℕ, ◌<◌, ◌-◌, List, [], ◌∷◌, ◌++◌, map, length, take, drop, get_or, arith}
use Rattle.std.proofs.lemmas.List.{take_all}
use Rattle.class_scopes.specs.Spelled.{Ident, dotted}

-- what stands behind the first part
abbrev pub behind : List Ident → Ident
behind [] = []
behind (x ∷ rest) = 46 ∷ (x ++ behind rest)

pub dotted_behind : (x : Ident) (rest : List Ident) → dotted (x ∷ rest) ≡ x ++ behind rest
dotted_behind x [] = sym (none_behind x)
  where
    none_behind : (xs : List ℕ) → xs ++ [] ≡ xs
    none_behind [] = refl
    none_behind (z ∷ xs) = ap (λ r. z ∷ r) (none_behind xs)
dotted_behind x (y ∷ rest) = ap (λ z. x ++ 46 ∷ z) (dotted_behind y rest)

pub dots_start : {A : Type 0} (f : A → Ident) (r : List A) (name : Ident) (d : A) → 0 < length r → name ≡ f (get_or r 0 d)
    → name ++ behind (map f (drop 0 (take (length r - 1) (drop 1 r)))) ≡ dotted (map f r)
dots_start f [] name d some is = absurd (omega (arith, some))
dots_start f (x ∷ xs) name d some is =
    let whole : take (length (x ∷ xs) - 1) xs ≡ xs = take_all (length (x ∷ xs) - 1) xs (omega arith) in
    ap (λ n. n ++ behind (map f (take (length (x ∷ xs) - 1) xs))) is ∙ ap (λ ys. f x ++ behind (map f ys)) whole ∙ sym (dotted_behind (f x) (map f xs))
