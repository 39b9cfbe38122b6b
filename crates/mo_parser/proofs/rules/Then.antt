-- A rule after another.
use Rattle.std.proofs.Common.{◌≡◌, ◌≤◌, ◌<◌, ◌+◌, ◌++◌, max, ◌⊎◌, inl, inr, ℕ, true, List, Option, length, refl, ap, sym, ◌∙◌, subst, arith}
use Rattle.mo_lexer.specs.declared.token.Token.{Token}
use Rattle.mo_parser.specs.grammar.Places.{Front, Swap}
use Rattle.mo_parser.specs.grammar.Rules.{Rule, ◌>>=◌}
use Rattle.mo_parser.specs.reading.Outcomes.{Outcome, Parser, Read, Stuck, Deep, and_then}
use Rattle.mo_parser.proofs.rules.Fits.{Fits, Goes_on, Some_of}
use Rattle.mo_parser.proofs.rules.Kinds.{In, Out, At_once, among_apart, begun_out, if_none, in_left, in_right, joint, joint_left, joint_right, out_left, out_right, parted, parted_apart}
use Rattle.mo_parser.proofs.rules.Lists.{Halts, Tail, front_joined, joined, moved, parts_below, parts_deep, parts_halt, parts_read, rest_of, split}

module _ {A B : Type 0} {s1 m1 s2 m2 : List ℕ} {l1 l2 : ℕ} {o1 o2 : Option (List ℕ)} {R : ℕ → Rule A} {p : ℕ → Parser A} {S : A → ℕ → Rule B} {q : A → ℕ → Parser B} {n : ℕ}
    (f : Fits s1 m1 l1 o1 R p n) (g : (x : A) → Fits s2 m2 l2 o2 (S x) (q x) n) where
  abbrev Spelled : ℕ → B → List Token → List Token → Type 0
  Spelled k t a c = (x : A) × (b : List Token) × (R k).spells x a b × (S x k).spells t b c

  abbrev Exceeded : ℕ → List Token → List Token → Type 0
  Exceeded k a c = (R k).exceeds a c ⊎ ((x : A) × (b : List Token) × (R k).spells x a b × (S x k).exceeds b c)

  abbrev Both : ℕ → Rule B
  Both k = record { spells = Spelled k; exceeds = Exceeded k }

  complete_then : parted s2 o2 m1 ≡ true → (t : B) (a c : List Token) → Spelled n t a c → Out (m2 ++ if_none l2 m1) c → and_then (p n a) (λ x. q x n) ≡ Read t c
  complete_then fine t a c (x, b, r, s) o =
      let stops : Out m1 b = elim ((g x).first t b c s) [
        | inl i ↦ among_apart s2 m1 _ (parted_apart s2 o2 m1 fine) i
        | inr none ↦
            let here : Out (if_none l2 m1) c = out_right m2 (if_none l2 m1) _ o in
            let Q : ℕ → Type 0 = λ l. Out (if_none l m1) c in
            let there : Out m1 c = subst Q none.0 here in
            let P : List Token → Type 0 = λ ts. Out m1 ts in subst P (sym none.1) there
      ] in
      rw (f.complete x a b r stops) ((g x).complete t b c s (out_left m2 (if_none l2 m1) _ o))

  first_then : (t : B) (a c : List Token) → Spelled n t a c → In (s1 ++ if_none l1 s2) a ⊎ ((max l1 l2 ≡ 0) × (a ≡ c))
  first_then t a c (x, b, r, s) =
      elim (f.first x a b r) [
        | inl i ↦ inl (in_left s1 (if_none l1 s2) _ i)
        | inr none ↦ elim ((g x).first t b c s) [
          | inl j ↦
              let Q : List Token → Type 0 = λ ts. In s2 ts in let at : In s2 a = subst Q (sym none.1) j in
              let P : ℕ → Type 0 = λ l. In (if_none l s2) a in
              inl (in_right s1 (if_none l1 s2) _ (subst P (sym none.0) at))
          | inr also ↦ let e = none.0 in let d = also.0 in inr (omega (arith, e, d), none.1 ∙ also.1)
        ]
      ]

  size_then : (t : B) (a c : List Token) → Spelled n t a c → length c + max l1 l2 ≤ length a
  size_then t a c (x, b, r, s) = let one = f.size x a b r in let two = (g x).size t b c s in omega (arith, one, two)

  deep_sound_then : (a c : List Token) → and_then (p n a) (λ x. q x n) ≡ Deep c → Exceeded n a c
  deep_sound_then a c h =
      elim (parts_deep (p n a) (λ x. q x n) c h) [
        | inl early ↦ inl (f.deep_sound a c early)
        | inr late ↦ let (x, b, is, later) = late in inr (x, b, f.sound x a b is, (g x).deep_sound b c later)
      ]

  deep_complete_then : parted s2 o2 m1 ≡ true → (a c : List Token) → Exceeded n a c → and_then (p n a) (λ x. q x n) ≡ Deep c
  deep_complete_then fine a c (inl r) = rw (f.deep_complete a c r) refl
  deep_complete_then fine a c (inr (x, b, r, s)) =
      let stops : Out m1 b = begun_out s2 o2 m1 b fine ((g x).deep_first b c s) in rw (f.complete x a b r stops) ((g x).deep_complete b c s)

  deep_first_then : (a c : List Token) → Exceeded n a c → In (s1 ++ if_none l1 s2) a ⊎ At_once (joint o1 l1 o2) a
  deep_first_then a c (inl r) = elim (f.deep_first a c r) [ inl i ↦ inl (in_left s1 (if_none l1 s2) _ i) | inr once ↦ inr (joint_left o1 l1 o2 a once) ]
  deep_first_then a c (inr (x, b, r, s)) =
      elim (f.first x a b r) [
        | inl i ↦ inl (in_left s1 (if_none l1 s2) _ i)
        | inr none ↦
            let P : ℕ → Type 0 = λ l. In (s1 ++ if_none l s2) a ⊎ At_once (joint o1 l o2) a in
            let Q : List Token → Type 0 = λ ts. In s2 ts ⊎ At_once o2 ts in
            let at : In s2 a ⊎ At_once o2 a = subst Q (sym none.1) ((g x).deep_first b c s) in
            subst P (sym none.0) (elim at [ inl i ↦ inl (in_right s1 s2 _ i) | inr once ↦ inr (joint_right o1 o2 a once) ])
      ]

  takes_then : (a : List Token) (o : Outcome A) → Tail a (rest_of o) → Tail a (rest_of (and_then o (λ x. q x n)))
  takes_then a (Read x c) t = joined a c (rest_of (q x n c)) t ((g x).takes c)
  takes_then a (Stuck c) t = t
  takes_then a (Deep c) t = t

  local_then : (a a' b' : List Token) (o : Outcome A) → Tail a (rest_of o) → ((c' : List Token) → Swap a (rest_of o) a' c' → p n a' ≡ moved o c') → Swap a (rest_of (and_then o (λ x. q x n))) a' b'
      → and_then (p n a') (λ x. q x n) ≡ moved (and_then o (λ x. q x n)) b'
  local_then a a' b' (Read x c) t again s =
      let (c', one, two) = split a (rest_of (q x n c)) a' b' c t ((g x).takes c) s in
      ap (λ (o : Outcome A). and_then o (λ x. q x n)) (again c' one) ∙ (g x).local c c' b' two
  local_then a a' b' (Stuck c) t again s = ap (λ (o : Outcome A). and_then o (λ x. q x n)) (again b' s)
  local_then a a' b' (Deep c) t again s = ap (λ (o : Outcome A). and_then o (λ x. q x n)) (again b' s)

  puts_then : (t : B) (a c c' : List Token) → Spelled n t a c → (a' : List Token) × Front a c a' c' × Spelled n t a' c'
  puts_then t a c c' (x, b, r, s) =
      let (b', two, s') = (g x).puts t b c c' s in
      let (a', one, r') = f.puts x a b b' r in
      (a', front_joined a b c a' b' c' one two, (x, b', r', s'))

  goes_then : (a b : List Token) → Halts (and_then (p n a) (λ x. q x n)) b → (m : ℕ) → n < m → Goes_on (Both m) a b
  goes_then a b h m lt =
      elim (parts_halt (p n a) (λ x. q x n) b h) [
        | inl early ↦
            let (x, begun) = f.goes a b early m lt in
            let (t, rest) = (g x).some m (let l = lt in omega (arith, l)) in
            (t, λ c. let (d, s) = rest c in let (a', b', front, r) = begun d in (a', b', front, (x, d, r, s)))
        | inr late ↦
            let (x, d, is, ended) = late in
            let (t, rest) = (g x).goes d b ended m lt in (
              t,
              λ c.
                  let (d', b', two, s) = rest c in
                  let (a', one, r) = f.puts x a d d' (f.sound x a d is) in
                  (a', b', front_joined a d b a' d' b' one two, (x, d', f.deeper m (let l = lt in omega (arith, l)) x a' d' r, s)),
            )
      ]

  some_then : (m : ℕ) → 0 < m → Some_of (Both m)
  some_then m lt =
      let (x, begun) = f.some m lt in let (t, rest) = (g x).some m lt in
      (t, λ c. let (b, s) = rest c in let (a, r) = begun b in (a, (x, b, r, s)))

  pub fits_then : parted s2 o2 m1 ≡ true → Fits (s1 ++ if_none l1 s2) (m2 ++ if_none l2 m1) (max l1 l2) (joint o1 l1 o2) (λ k. R k >>= (λ x. S x k)) (λ k ts. and_then (p k ts) (λ x. q x k)) n
  unfolding ◌>>=◌
  fits_then fine = record {
    sound = λ t a c h. let (x, b, one, two) = parts_read (p n a) (λ x. q x n) t c h in (x, b, f.sound x a b one, (g x).sound t b c two);
    complete = complete_then fine;
    first = first_then;
    size = size_then;
    deep_sound = deep_sound_then;
    deep_complete = deep_complete_then fine;
    deep_first = deep_first_then;
    takes = λ a. takes_then a (p n a) (f.takes a);
    local = λ a a' b' s. local_then a a' b' (p n a) (f.takes a) (λ c' w. f.local a a' c' w) s;
    deeper = λ m le t a c both. let (x, b, r, s) = both in (x, b, f.deeper m le x a b r, (g x).deeper m le t b c s);
    below = λ m le a. parts_below (p n a) (p m a) (λ x. q x n) (λ x. q x m) (f.below m le a) (λ x r. (g x).below m le r);
    puts = puts_then;
    goes = goes_then;
    some = some_then;
  }
