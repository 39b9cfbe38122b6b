-- Lists of tokens that agree up to a place, and outcomes that are moved there.
use Rattle.std.proofs.Common.{◌≡◌, ◌≤◌, ◌⊎◌, inl, inr, suc, List, [], ◌∷◌, length, refl, ap, sym, subst, arith}
use Rattle.mo_lexer.specs.declared.token.Token.{Token}
use Rattle.mo_parser.specs.grammar.Places.{Front, Swap, head, here, next, start, there}
use Rattle.mo_parser.specs.reading.Outcomes.{Outcome, Parser, Read, Stuck, Deep, and_then, tail}

-- c is what is left of a after some tokens
pub data Tail : List Token → List Token → Type 0 where
  none : (a : List Token) → Tail a a
  more : (x : Token) (a c : List Token) → Tail a c → Tail (x ∷ a) c

pub tail_length : (a c : List Token) → Tail a c → length c ≤ length a
tail_length a c (none b) = omega arith
tail_length a c (more x b d t) = let rest : length d ≤ length b = tail_length b d t in omega arith

pub joined : (a c d : List Token) → Tail a c → Tail c d → Tail a d
joined a c d (none b) t = t
joined a c d (more x b e s) t = more x b d (joined b e d s t)

pub tail_of : (a : List Token) → Tail a (tail a)
tail_of [] = none []
tail_of (x ∷ a) = more x a a (none a)

pub swap_tail : (a b a' b' : List Token) → Swap a b a' b' → Tail a b
swap_tail a b a' b' (here c c' h) = none c
swap_tail a b a' b' (there x c d c' d' s) = more x c d (swap_tail c d c' d' s)

pub same_head : (a b a' b' : List Token) → Swap a b a' b' → head a ≡ head a'
same_head a b a' b' (here c c' h) = h
same_head a b a' b' (there x c d c' d' s) = refl

-- the next token at the two places is the same
pub next_same : (a b a' b' : List Token) → Swap a b a' b' → head b ≡ head b'
next_same a b a' b' (here c c' h) = h
next_same a b a' b' (there x c d c' d' s) = next_same c d c' d' s

pub swap_same : (a a' b' : List Token) → Swap a a a' b' → a' ≡ b'
swap_same a a' b' s = go a a a' b' s refl
  where
    go : (a b a' b' : List Token) → Swap a b a' b' → a ≡ b → a' ≡ b'
    go a b a' b' (here c c' h) e = refl
    go a b a' b' (there x c d c' d' s) e =
        let less : length d ≤ length c = tail_length c d (swap_tail c d c' d' s) in let same : suc (length c) ≡ length d = ap length e in absurd (omega arith)

-- one token, and then the place
pub swap_one : (x : Token) (a a' b' : List Token) → Swap (x ∷ a) a a' b' → a' ≡ x ∷ b'
swap_one x a a' b' s = go (x ∷ a) a a' b' s refl
  where
    go : (c d a' b' : List Token) → Swap c d a' b' → c ≡ x ∷ d → a' ≡ x ∷ b'
    go c d a' b' (here b g' h) e = let long : length b ≡ suc (length b) = ap length e in absurd (omega arith)
    go c d a' b' (there v f g f' g' s) e =
        let same : f ≡ g = cc in let first : v ≡ x = cc in
        let Q : List Token → Type 0 = λ ts. Swap ts g f' g' in
        let rest : f' ≡ g' = swap_same g f' g' (subst Q same s) in
        rw (first, rest) refl

-- a place between
pub split : (a b a' b' c : List Token) → Tail a c → Tail c b → Swap a b a' b' → (c' : List Token) × Swap a c a' c' × Swap c b c' b'
split a b a' b' c (none d) t s = (a', here d a' (same_head d b a' b' s), s)
split a b a' b' c (more x d f r) t (here g g' h) =
    let less : length f ≤ length d = tail_length d f r in let longer : suc (length d) ≤ length f = tail_length f (x ∷ d) t in absurd (omega arith)
split a b a' b' c (more x d f r) t (there y g i g' i' s) =
    let (c', first, second) = split d i g' i' f r t s in (c', there x d f g' c' first, second)

pub front_joined : (a b c a' b' c' : List Token) → Front a b a' b' → Front b c b' c' → Front a c a' c'
front_joined a b c a' b' c' (start d d') g = g
front_joined a b c a' b' c' (next x d f d' f' h) g = next x d c d' c' (front_joined d f c d' f' c' h g)

-- where nothing stands between
pub front_none : (a b b' : List Token) → a ≡ b → Front a b b' b'
front_none a b b' same = let Q : List Token → Type 0 = λ ts. Front a ts b' b' in subst Q same (start a b')

pub front_one : (x : Token) (a b b' : List Token) → a ≡ x ∷ b → Front a b (x ∷ b') b'
front_one x a b b' same = let Q : List Token → Type 0 = λ ts. Front ts b (x ∷ b') b' in subst Q (sym same) (next x b b b' b' (start b b'))

abbrev pub rest_of : {A : Type 0} → Outcome A → List Token
rest_of (Read x rest) = rest
rest_of (Stuck rest) = rest
rest_of (Deep rest) = rest

-- the same outcome elsewhere
abbrev pub moved : {A : Type 0} → Outcome A → List Token → Outcome A
moved (Read x rest) to = Read x to
moved (Stuck rest) to = Stuck to
moved (Deep rest) to = Deep to

-- the same outcome, unless the depth ran out
abbrev pub Below : {A : Type 0} → Outcome A → Outcome A → Type 0
Below (Read x r) o = Read x r ≡ o
Below (Stuck r) o = Stuck r ≡ o
Below (Deep r) o = Unit {0}

pub same_below : {A : Type 0} (o : Outcome A) → Below o o
same_below (Read x r) = refl
same_below (Stuck r) = refl
same_below (Deep r) = tt

-- the reading ends at this place without an answer
abbrev pub Halts : {A : Type 0} → Outcome A → List Token → Type 0
Halts (Read x rest) b = ⊥
Halts (Stuck rest) b = rest ≡ b
Halts (Deep rest) b = rest ≡ b

-- what a sequence read, part by part
pub parts_read : {A B : Type 0} (o : Outcome A) (f : A → Parser B) (y : B) (rest : List Token) → and_then o f ≡ Read y rest → (x : A) × (after : List Token) × (o ≡ Read x after) × (f x after ≡ Read y rest)
parts_read (Read x after) f y rest h = (x, after, refl, h)
parts_read (Stuck ts) f y rest h = cc
parts_read (Deep ts) f y rest h = cc

pub parts_deep : {A B : Type 0} (o : Outcome A) (f : A → Parser B) (c : List Token) → and_then o f ≡ Deep c → (o ≡ Deep c) ⊎ ((x : A) × (rest : List Token) × (o ≡ Read x rest) × (f x rest ≡ Deep c))
parts_deep (Read x rest) f c h = inr (x, rest, refl, h)
parts_deep (Stuck rest) f c h = cc
parts_deep (Deep rest) f c h = inl (let same : rest ≡ c = cc in ap (λ (ts : List Token). Deep ts) same)

pub parts_halt : {A B : Type 0} (o : Outcome A) (f : A → Parser B) (b : List Token) → Halts (and_then o f) b → Halts o b ⊎ ((x : A) × (rest : List Token) × (o ≡ Read x rest) × Halts (f x rest) b)
parts_halt (Read x rest) f b h = inr (x, rest, refl, h)
parts_halt (Stuck rest) f b h = inl h
parts_halt (Deep rest) f b h = inl h

pub parts_below : {A B : Type 0} (o p : Outcome A) (f g : A → Parser B) → Below o p → ((x : A) (r : List Token) → Below (f x r) (g x r)) → Below (and_then o f) (and_then p g)
parts_below (Read x r) (Read y s) f g h each = let xs : x ≡ y = cc in let rs : r ≡ s = cc in rw (← xs, ← rs) (each x r)
parts_below (Read x r) (Stuck s) f g h each = cc
parts_below (Read x r) (Deep s) f g h each = cc
parts_below (Stuck r) (Read y s) f g h each = cc
parts_below (Stuck r) (Stuck s) f g h each = let rs : r ≡ s = cc in ap (λ (ts : List Token). Stuck ts) rs
parts_below (Stuck r) (Deep s) f g h each = cc
parts_below (Deep r) p f g h each = tt
