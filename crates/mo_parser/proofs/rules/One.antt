-- One token.
use Rattle.std.proofs.Common.{◌≡◌, inl, ℕ, suc, true, false, List, [], ◌∷◌, length, Option, Some, None, refl, ap, sym, ◌∙◌, subst, arith}
use Rattle.mo_lexer.specs.declared.token.Token.{Token}
use Rattle.mo_parser.specs.grammar.Places.{Swap, head}
use Rattle.mo_parser.specs.grammar.Rules as rule
use Rattle.mo_parser.specs.reading.Outcomes.{Outcome, Read, Stuck, Deep, tail, one_by}
use Rattle.mo_parser.specs.reading.Outcomes as read
use Rattle.mo_parser.proofs.rules.Fits.{Fits, Goes_on}
use Rattle.mo_parser.proofs.rules.Kinds.{among, tag}
use Rattle.mo_parser.proofs.rules.Lists.{Halts, Tail, front_none, front_one, moved, none, rest_of, same_below, same_head, swap_one, swap_same, tail_of}

module _ {A : Type 0} (f : Token → Option A) (tags : List ℕ) (is : (t : Token) (x : A) → f t ≡ Some x → among tags (tag t.kind) ≡ true) (no_end : among tags 4 ≡ false) where
  abbrev stuck : List Token → Outcome A
  stuck us = Stuck us

  -- a token that is taken is there
  there_is : (a : List Token) (x : A) → f (head a) ≡ Some x → a ≡ head a ∷ tail a
  there_is [] x h = let bad : among tags 4 ≡ true = is (head []) x h in cc
  there_is (t ∷ a) x h = refl

  sound_by : (t : A) (a b : List Token) (o : Option A) → f (head a) ≡ o → one_by o a ≡ Read t b → (u : Token) × (a ≡ u ∷ b) × (f u ≡ Some t)
  sound_by t a b (Some x) e h =
      let value : x ≡ t = cc in let rest : tail a ≡ b = cc in
      (head a, there_is a x e ∙ ap (λ (ts : List Token). head a ∷ ts) rest, e ∙ ap (λ (y : A). Some y) value)
  sound_by t a b None e h = cc

  deep_never : (a b : List Token) (o : Option A) → one_by o a ≡ Deep b → ⊥
  deep_never a b (Some x) h = cc
  deep_never a b None h = cc

  takes_by : (a : List Token) (o : Option A) → Tail a (rest_of (one_by o a))
  takes_by a (Some x) = tail_of a
  takes_by a None = none a

  local_by : (a a' b' : List Token) (o : Option A) → f (head a) ≡ o → f (head a') ≡ o → Swap a (rest_of (one_by o a)) a' b' → one_by (f (head a')) a' ≡ moved (one_by o a) b'
  local_by a a' b' (Some x) e e' s =
      let Q : List Token → Type 0 = λ ts. Swap ts (tail a) a' b' in
      let is_there : a' ≡ head a ∷ b' = swap_one (head a) (tail a) a' b' (subst Q (there_is a x e) s) in
      rw e' (ap (λ (ts : List Token). Read x (tail ts)) is_there)
  local_by a a' b' None e e' s = rw e' (ap stuck (swap_same a a' b' s))

  goes_by : (a b : List Token) (o : Option A) → Halts (one_by o a) b → (u : Token) (x : A) → f u ≡ Some x → Goes_on (rule.one f) a b
  unfolding rule.one
  goes_by a b (Some y) h u x e = absurd h
  goes_by a b None h u x e = (x, λ c. (u ∷ c, u ∷ c, front_none a b (u ∷ c) h, (u, refl, e)))

  pub fits_one : {n : ℕ} (u : Token) (x : A) → f u ≡ Some x → Fits tags [] 1 None (λ _. rule.one f) (λ _. read.one f) n
  unfolding rule.one
  fits_one u x e = record {
    sound = λ t a b h. sound_by t a b (f (head a)) refl h;
    complete = λ t a b r o. let (v, at, value) = r in rw (at, value) refl;
    first = λ t a b r. let (v, at, value) = r in inl (rw at (is v t value));
    size = λ t a b r. let (v, at, value) = r in let long : length a ≡ suc (length b) = ap length at in omega arith;
    deep_sound = λ a b h. deep_never a b (f (head a)) h;
    deep_complete = λ a b r. absurd r;
    deep_first = λ a b r. absurd r;
    takes = λ a. takes_by a (f (head a));
    local = λ a a' b' s. local_by a a' b' (f (head a)) refl (ap f (sym (same_head a _ a' b' s))) s;
    deeper = λ m le t a b r. r;
    below = λ m le a. same_below (one_by (f (head a)) a);
    puts = λ t a b b' r. let (v, at, value) = r in (v ∷ b', front_one v a b b' at, (v, refl, value));
    goes = λ a b h m lt. goes_by a b (f (head a)) h u x e;
    some = λ m lt. (x, λ c. (u ∷ c, (u, refl, e)));
  }
