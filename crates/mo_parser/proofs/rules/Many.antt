-- A rule any number of times.
use Rattle.std.proofs.Common.{◌≡◌, ◌≤◌, ◌<◌, ◌+◌, ◌++◌, max, ◌⊎◌, inl, inr, ℕ, zero, suc, Bool, true, false, if◌then◌else◌, List, [], ◌∷◌, None, length, refl, ap, sym, ◌∙◌, subst, arith}
use Rattle.mo_lexer.specs.declared.token.Token.{Token}
use Rattle.mo_parser.specs.grammar.Places.{Front, Swap, head}
use Rattle.mo_parser.specs.grammar.Rules.{Rule, Steps, over, again}
use Rattle.mo_parser.specs.grammar.Rules as rule
use Rattle.mo_parser.specs.reading.Outcomes.{Outcome, Parser, Read, Stuck, Deep, and_then, turns}
use Rattle.mo_parser.specs.reading.Outcomes as read
use Rattle.mo_parser.proofs.rules.Choose.{Tells}
use Rattle.mo_parser.proofs.rules.Fits.{Fits, Goes_on}
use Rattle.mo_parser.proofs.rules.Kinds.{In, Out, among, apart, among_apart, among_within, never_none, out_left, out_right, within}
use Rattle.mo_parser.proofs.rules.Lists.{Below, Halts, Tail, front_joined, front_none, joined, moved, none, parts_below, parts_deep, parts_halt, parts_read, rest_of, same_head, split, swap_same}

module _ {A : Type 0} (test : Token → Bool) (ts : List ℕ) (tells : Tells test ts) (no_end : among ts 4 ≡ false) {s m : List ℕ} {R : A → ℕ → Rule A} {p : A → ℕ → Parser A} {n : ℕ}
    (f : (x : A) → Fits s m 1 None (R x) (p x) n) where
  abbrev step : ℕ → A → Rule A
  step k x = R x k

  abbrev Exceeded : ℕ → A → List Token → List Token → Type 0
  Exceeded k x a c = (y : A) × (b : List Token) × Steps (step k) x y a b × (step k y).exceeds b c

  abbrev Many : ℕ → A → Rule A
  Many k x = record { spells = Steps (step k) x; exceeds = Exceeded k x }

  abbrev go : ℕ → ℕ → A → Parser A
  go k = turns test (λ x. p x k)

  ends_not : test (head []) ≡ false
  ends_not = tells (head []) ∙ no_end

  -- each turn takes a token
  turn_shorter : (x y : A) (a b : List Token) → p x n a ≡ Read y b → length b < length a
  turn_shorter x y a b h = let z = (f x).size y a b ((f x).sound y a b h) in omega (arith, z)

  sound_turns : (k : ℕ) (x z : A) (a c : List Token) → go n k x a ≡ Read z c → Steps (step n) x z a c
  unfolding turns
  sound_turns zero x z a c h =
      let value : x ≡ z = cc in let rest : a ≡ c = cc in
      let Q : A → Type 0 = λ y. Steps (step n) x y a c in let P : List Token → Type 0 = λ us. Steps (step n) x x a us in
      subst Q value (subst P rest (over x a))
  sound_turns (suc k) x z a c h = by_test (test (head a)) h (λ y b one. sound_turns k y z b c one)
    where
      by_test : (t : Bool) → (if t then and_then (p x n a) (go n k) else Read x a) ≡ Read z c → ((y : A) (b : List Token) → go n k y b ≡ Read z c → Steps (step n) y z b c) → Steps (step n) x z a c
      by_test true h more = let (y, b, one, two) = parts_read (p x n a) (go n k) z c h in again x y z a b c ((f x).sound y a b one) (more y b two)
      by_test false h more =
          let value : x ≡ z = cc in let rest : a ≡ c = cc in
          let Q : A → Type 0 = λ y. Steps (step n) x y a c in let P : List Token → Type 0 = λ us. Steps (step n) x x a us in
          subst Q value (subst P rest (over x a))

  stops : (k : ℕ) (x : A) (a : List Token) → Out ts a → go n k x a ≡ Read x a
  unfolding turns
  stops zero x a o = refl
  stops (suc k) x a o = let not : test (head a) ≡ false = tells (head a) ∙ o in rw not refl

  first_many : (x z : A) (a b : List Token) → Steps (step n) x z a b → In s a ⊎ ((◌≡◌ {A = ℕ} 0 0) × (a ≡ b))
  first_many x z a b (over y c) = inr (refl, refl)
  first_many x z a b (again u v w c d e r more) = elim ((f u).first v c d r) [ inl i ↦ inl i | inr e ↦ never_none e.0 ]

  size_many : (x z : A) (a b : List Token) → Steps (step n) x z a b → length b + 0 ≤ length a
  size_many x z a b (over y c) = omega arith
  size_many x z a b (again u v w c d e r more) = let one = (f u).size v c d r in let two = size_many v w d e more in omega (arith, one, two)

  complete_turns : within s ts ≡ true → apart s m ≡ true → (k : ℕ) (x z : A) (a c : List Token) → Steps (step n) x z a c → Out (ts ++ m) c → length a ≤ k → go n k x a ≡ Read z c
  unfolding turns
  complete_turns all fine k x z a c (over y b) o le = stops k y b (out_left ts m _ o)
  complete_turns all fine zero x z a c (again u v w b d e r more) o le =
      let one = (f u).size v b d r in absurd (omega (arith, one))
  complete_turns all fine (suc k) x z a c (again u v w b d e r more) o le =
      let begins : In s b = elim ((f u).first v b d r) [ inl i ↦ i | inr e ↦ never_none e.0 ] in
      let yes : test (head b) ≡ true = tells (head b) ∙ among_within s ts _ all begins in
      let after : Out m d = elim (first_many v w d e more) [
        | inl i ↦ among_apart s m _ fine i
        | inr same ↦ (let P : List Token → Type 0 = λ us. Out m us in subst P (sym same.1) (out_right ts m _ o))
      ] in
      let less = (f u).size v b d r in
      rw (yes, (f u).complete v b d r after) (complete_turns all fine k v w d e more o (omega (arith, less)))

  deep_sound_turns : (k : ℕ) (x : A) (a c : List Token) → go n k x a ≡ Deep c → Exceeded n x a c
  unfolding turns
  deep_sound_turns zero x a c h = cc
  deep_sound_turns (suc k) x a c h = by_test (test (head a)) h (λ y b one. deep_sound_turns k y b c one)
    where
      by_test : (t : Bool) → (if t then and_then (p x n a) (go n k) else Read x a) ≡ Deep c → ((y : A) (b : List Token) → go n k y b ≡ Deep c → Exceeded n y b c) → Exceeded n x a c
      by_test true h more =
          elim (parts_deep (p x n a) (go n k) c h) [
            | inl early ↦ (x, a, over x a, (f x).deep_sound a c early)
            | inr late ↦
                let (y, b, is, rest) = late in
                let (z, d, steps, ends) = more y b rest in (z, d, again x y z a b d ((f x).sound y a b is) steps, ends)
          ]
      by_test false h more = cc

  begins_step : (x : A) (a c : List Token) → (step n x).exceeds a c → In s a
  begins_step x a c ends = elim ((f x).deep_first a c ends) [ inl i ↦ i | inr never ↦ absurd never ]

  deep_first_many : (x y : A) (a b c : List Token) → Steps (step n) x y a b → (step n y).exceeds b c → In s a
  deep_first_many x y a b c (over z d) ends = begins_step z d c ends
  deep_first_many x y a b c (again u v w d e g r more) ends = elim ((f u).first v d e r) [ inl i ↦ i | inr e ↦ never_none e.0 ]

  goes_in : within s ts ≡ true → (a : List Token) → In s a → test (head a) ≡ true
  goes_in all a begins = tells (head a) ∙ among_within s ts _ all begins

  -- a token is left where a step begins
  some_left : within s ts ≡ true → (a : List Token) → In s a → length a ≤ 0 → ⊥
  some_left all [] begins le = let bad : among ts 4 ≡ true = among_within s ts 4 all begins in cc
  some_left all (t ∷ a) begins le = absurd (omega arith)

  deep_complete_turns : within s ts ≡ true → apart s m ≡ true → (k : ℕ) (x y : A) (a b c : List Token) → Steps (step n) x y a b → (step n y).exceeds b c → length a ≤ k → go n k x a ≡ Deep c
  unfolding turns
  deep_complete_turns all fine zero x y a b c steps ends le = absurd (some_left all a (deep_first_many x y a b c steps ends) le)
  deep_complete_turns all fine (suc k) x y a b c (over z d) ends le = rw (goes_in all d (begins_step z d c ends), (f z).deep_complete d c ends) refl
  deep_complete_turns all fine (suc k) x y a b c (again u v w d e g r more) ends le =
      let begins : In s d = elim ((f u).first v d e r) [ inl i ↦ i | inr e ↦ never_none e.0 ] in
      let after : Out m e = among_apart s m _ fine (deep_first_many v w e g c more ends) in
      let less = (f u).size v d e r in
      rw (goes_in all d begins, (f u).complete v d e r after) (deep_complete_turns all fine k v w e g c more ends (omega (arith, less)))

  takes_turns : (k : ℕ) (x : A) (a : List Token) → Tail a (rest_of (go n k x a))
  unfolding turns
  takes_turns zero x a = none a
  takes_turns (suc k) x a = by_test (test (head a)) (p x n a) ((f x).takes a) (λ y b. takes_turns k y b)
    where
      by_test : (t : Bool) (o : Outcome A) → Tail a (rest_of o) → ((y : A) (b : List Token) → Tail b (rest_of (go n k y b))) → Tail a (rest_of (if t then and_then o (go n k) else Read x a))
      by_test true (Read y b) t more = joined a b (rest_of (go n k y b)) t (more y b)
      by_test true (Stuck b) t more = t
      by_test true (Deep b) t more = t
      by_test false o t more = none a

  -- as many turns as tokens are enough
  enough : (j k : ℕ) (x : A) (a : List Token) → length a ≤ j → length a ≤ k → go n j x a ≡ go n k x a
  unfolding turns
  enough zero zero x a u v = refl
  enough zero (suc k) x [] u v = rw ends_not refl
  enough zero (suc k) x (t ∷ a) u v = absurd (omega arith)
  enough (suc j) zero x [] u v = rw ends_not refl
  enough (suc j) zero x (t ∷ a) u v = absurd (omega arith)
  enough (suc j) (suc k) x a u v = by_test (test (head a)) (p x n a) refl (λ y b c d. enough j k y b c d)
    where
      by_test : (t : Bool) (o : Outcome A) → p x n a ≡ o → ((y : A) (b : List Token) → length b ≤ j → length b ≤ k → go n j y b ≡ go n k y b)
          → (if t then and_then o (go n j) else Read x a) ≡ (if t then and_then o (go n k) else Read x a)
      by_test true (Read y b) is more = let less = turn_shorter x y a b is in more y b (omega (arith, less)) (omega (arith, less))
      by_test true (Stuck b) is more = refl
      by_test true (Deep b) is more = refl
      by_test false o is more = refl

  local_turns : (k : ℕ) (x : A) (a a' b' : List Token) → Swap a (rest_of (go n k x a)) a' b' → go n k x a' ≡ moved (go n k x a) b'
  unfolding turns
  local_turns zero x a a' b' w = ap (λ (us : List Token). Read x us) (swap_same a a' b' w)
  local_turns (suc k) x a a' b' w =
      rw (sym (ap test (same_head a _ a' b' w))) (by_test (test (head a)) (p x n a) ((f x).takes a) (λ c' v. (f x).local a a' c' v) (λ y b c' d' v. local_turns k y b c' d' v) w)
    where
      by_test : (t : Bool) (o : Outcome A) → Tail a (rest_of o) → ((c' : List Token) → Swap a (rest_of o) a' c' → p x n a' ≡ moved o c') → ((y : A) (b c' d' : List Token) → Swap b (rest_of (go n k y b)) c' d' → go n k y c' ≡ moved (go n k y b) d')
          → Swap a (rest_of (if t then and_then o (go n k) else Read x a)) a' b'
          → (if t then and_then (p x n a') (go n k) else Read x a') ≡ moved (if t then and_then o (go n k) else Read x a) b'
      by_test true (Read y b) t same more w =
          let (c', one, two) = split a (rest_of (go n k y b)) a' b' b t (takes_turns k y b) w in
          ap (λ (o : Outcome A). and_then o (go n k)) (same c' one) ∙ more y b c' b' two
      by_test true (Stuck b) t same more w = ap (λ (o : Outcome A). and_then o (go n k)) (same b' w)
      by_test true (Deep b) t same more w = ap (λ (o : Outcome A). and_then o (go n k)) (same b' w)
      by_test false o t same more w = ap (λ (us : List Token). Read x us) (swap_same a a' b' w)

  local_many : (x : A) (a a' b' : List Token) → Swap a (rest_of (go n (length a) x a)) a' b' → go n (length a') x a' ≡ moved (go n (length a) x a) b'
  local_many x a a' b' w =
      let k = max (length a) (length a') in
      let mine : go n (length a) x a ≡ go n k x a = enough (length a) k x a (omega arith) (omega arith) in
      let its : go n (length a') x a' ≡ go n k x a' = enough (length a') k x a' (omega arith) (omega arith) in
      let Q : Outcome A → Type 0 = λ o. Swap a (rest_of o) a' b' in
      its ∙ local_turns k x a a' b' (subst Q mine w) ∙ ap (λ (o : Outcome A). moved o b') (sym mine)

  deeper_many : (k : ℕ) → n ≤ k → (x z : A) (a b : List Token) → Steps (step n) x z a b → Steps (step k) x z a b
  deeper_many k le x z a b (over y c) = over y c
  deeper_many k le x z a b (again u v w c d e r more) = again u v w c d e ((f u).deeper k le v c d r) (deeper_many k le v w d e more)

  below_turns : (k : ℕ) → n ≤ k → (j : ℕ) (x : A) (a : List Token) → Below (go n j x a) (go k j x a)
  unfolding turns
  below_turns k le zero x a = refl
  below_turns k le (suc j) x a = by_test (test (head a)) (λ y b. below_turns k le j y b)
    where
      by_test : (t : Bool) → ((y : A) (b : List Token) → Below (go n j y b) (go k j y b)) → Below (if t then and_then (p x n a) (go n j) else Read x a) (if t then and_then (p x k a) (go k j) else Read x a)
      by_test true more = parts_below (p x n a) (p x k a) (go n j) (go k j) ((f x).below k le a) more
      by_test false more = refl

  puts_many : (x z : A) (a b b' : List Token) → Steps (step n) x z a b → (a' : List Token) × Front a b a' b' × Steps (step n) x z a' b'
  puts_many x z a b b' (over y c) = (b', front_none c c b' refl, over y b')
  puts_many x z a b b' (again u v w c d e r more) =
      let (d', two, more') = puts_many v w d e b' more in
      let (c', one, r') = (f u).puts v c d d' r in
      (c', front_joined c d e c' d' b' one two, again u v w c' d' b' r' more')

  goes_turns : (k : ℕ) (x : A) (a b : List Token) → Halts (go n k x a) b → (j : ℕ) → n < j → Goes_on (Many j x) a b
  unfolding turns
  goes_turns zero x a b h j lt = absurd h
  goes_turns (suc k) x a b h j lt = by_test (test (head a)) h (λ y d e. goes_turns k y d b e j lt)
    where
      by_test : (t : Bool) → Halts (if t then and_then (p x n a) (go n k) else Read x a) b → ((y : A) (d : List Token) → Halts (go n k y d) b → Goes_on (Many j y) d b) → Goes_on (Many j x) a b
      by_test true h more =
          elim (parts_halt (p x n a) (go n k) b h) [
            | inl early ↦
                let (y, begun) = (f x).goes a b early j lt in
                (y, λ c. let (a', b', front, r) = begun c in (a', b', front, again x y y a' c c r (over y c)))
            | inr late ↦
                let (y, d, is, ended) = late in
                let (z, rest) = more y d ended in (
                  z,
                  λ c.
                      let (d', b', two, all) = rest c in
                      let (a', one, r) = (f x).puts y a d d' ((f x).sound y a d is) in
                      (a', b', front_joined a d b a' d' b' one two, again x y z a' d' c ((f x).deeper j (let l = lt in omega (arith, l)) y a' d' r) all),
                )
          ]
      by_test false h more = absurd h

  pub fits_many : within s ts ≡ true → apart s m ≡ true → (x : A) → Fits s (ts ++ m) 0 None (λ k. rule.many (λ y. R y k) x) (λ k. read.many test (λ y. p y k) x) n
  unfolding rule.many
  fits_many all fine x = record {
    sound = λ z a c h. sound_turns (length a) x z a c h;
    complete = λ z a c r o. complete_turns all fine (length a) x z a c r o (omega arith);
    first = λ z a c r. first_many x z a c r;
    size = λ z a c r. size_many x z a c r;
    deep_sound = λ a c h. deep_sound_turns (length a) x a c h;
    deep_complete = λ a c r. let (y, b, steps, ends) = r in deep_complete_turns all fine (length a) x y a b c steps ends (omega arith);
    deep_first = λ a c r. let (y, b, steps, ends) = r in inl (deep_first_many x y a b c steps ends);
    takes = λ a. takes_turns (length a) x a;
    local = local_many x;
    deeper = λ k le z a b r. deeper_many k le x z a b r;
    below = λ k le a. below_turns k le (length a) x a;
    puts = λ z a b b' r. puts_many x z a b b' r;
    goes = λ a b h j lt. goes_turns (length a) x a b h j lt;
    some = λ j lt. (x, λ c. (c, over x c));
  }
