-- One of two rules, told by the next token.
use Rattle.std.proofs.Common.{◌≡◌, ◌≤◌, ◌<◌, ◌+◌, ◌++◌, ◌⊎◌, inl, inr, ℕ, Bool, true, false, if◌then◌else◌, List, [], Option, Some, None, length, refl, ap, sym, ◌∙◌, subst, arith}
use Rattle.mo_lexer.specs.declared.token.Token.{Token}
use Rattle.mo_parser.specs.grammar.Places.{Front, Swap, head}
use Rattle.mo_parser.specs.grammar.Rules.{Rule, either, inside}
use Rattle.mo_parser.specs.reading.Outcomes.{Outcome, Parser, Read, Stuck, Deep, choose, unless}
use Rattle.mo_parser.proofs.rules.Fits.{Fits, Goes_on, Some_of}
use Rattle.mo_parser.proofs.rules.Kinds.{In, Out, At_once, among, apart, among_apart, among_within, begun_out, if_none, in_left, in_right, never_none, out_left, out_right, parted, parted_apart, tag, within}
use Rattle.mo_parser.proofs.rules.Lists.{Below, Halts, Tail, front_none, moved, none, rest_of, same_head, swap_same}

-- the test tells the tokens of the list
abbrev pub Tells : (Token → Bool) → List ℕ → Type 0
Tells test ts = (t : Token) → test t ≡ among ts (tag t.kind)

module _ {A : Type 0} (test : Token → Bool) (ts : List ℕ) (tells : Tells test ts) {s1 m1 s2 m2 : List ℕ} {l2 : ℕ} {o2 : Option (List ℕ)} {R S : ℕ → Rule A} {p q : ℕ → Parser A} {n : ℕ}
    (f : Fits s1 m1 1 None R p n) (g : Fits s2 m2 l2 o2 S q n) where
  abbrev Spelled : ℕ → A → List Token → List Token → Type 0
  Spelled k t a b = (R k).spells t a b ⊎ (S k).spells t a b

  abbrev Exceeded : ℕ → List Token → List Token → Type 0
  Exceeded k a b = (R k).exceeds a b ⊎ (S k).exceeds a b

  abbrev Either : ℕ → Rule A
  Either k = record { spells = Spelled k; exceeds = Exceeded k }

  abbrev Chosen : ℕ → Parser A
  Chosen k = choose test (p k) (q k)

  sound_by : (x : Bool) (t : A) (a b : List Token) → (if x then p n a else q n a) ≡ Read t b → Spelled n t a b
  sound_by true t a b h = inl (f.sound t a b h)
  sound_by false t a b h = inr (g.sound t a b h)

  complete_either : within s1 ts ≡ true → parted s2 o2 ts ≡ true → (t : A) (a b : List Token) → Spelled n t a b → Out (if_none l2 ts ++ (m1 ++ m2)) b → Chosen n a ≡ Read t b
  complete_either all fine t a b (inl r) o =
      let rest = out_right (if_none l2 ts) (m1 ++ m2) _ o in
      let begins : In s1 a = elim (f.first t a b r) [ inl i ↦ i | inr e ↦ never_none e.0 ] in
      let yes : test (head a) ≡ true = tells (head a) ∙ among_within s1 ts _ all begins in
      rw yes (f.complete t a b r (out_left m1 m2 _ rest))
  complete_either all fine t a b (inr s) o =
      let rest = out_right (if_none l2 ts) (m1 ++ m2) _ o in
      let stops : Out ts a = elim (g.first t a b s) [
        | inl i ↦ among_apart s2 ts _ (parted_apart s2 o2 ts fine) i
        | inr e ↦
            let here : Out (if_none l2 ts) b = out_left (if_none l2 ts) (m1 ++ m2) _ o in
            let Q : ℕ → Type 0 = λ l. Out (if_none l ts) b in
            let there : Out ts b = subst Q e.0 here in
            let P : List Token → Type 0 = λ us. Out ts us in subst P (sym e.1) there
      ] in
      let not : test (head a) ≡ false = tells (head a) ∙ stops in
      rw not (g.complete t a b s (out_right m1 m2 _ rest))

  first_either : (t : A) (a b : List Token) → Spelled n t a b → In (s1 ++ s2) a ⊎ ((l2 ≡ 0) × (a ≡ b))
  first_either t a b (inl r) = elim (f.first t a b r) [ inl i ↦ inl (in_left s1 s2 _ i) | inr e ↦ never_none e.0 ]
  first_either t a b (inr s) = elim (g.first t a b s) [ inl i ↦ inl (in_right s1 s2 _ i) | inr e ↦ inr e ]

  size_either : l2 ≤ 1 → (t : A) (a b : List Token) → Spelled n t a b → length b + l2 ≤ length a
  size_either le t a b (inl r) = let one = f.size t a b r in let l = le in omega (arith, one, l)
  size_either le t a b (inr s) = g.size t a b s

  deep_sound_by : (x : Bool) (a b : List Token) → (if x then p n a else q n a) ≡ Deep b → Exceeded n a b
  deep_sound_by true a b h = inl (f.deep_sound a b h)
  deep_sound_by false a b h = inr (g.deep_sound a b h)

  deep_complete_either : within s1 ts ≡ true → parted s2 o2 ts ≡ true → (a b : List Token) → Exceeded n a b → Chosen n a ≡ Deep b
  deep_complete_either all fine a b (inl r) =
      let begins : In s1 a = elim (f.deep_first a b r) [ inl i ↦ i | inr never ↦ absurd never ] in
      let yes : test (head a) ≡ true = tells (head a) ∙ among_within s1 ts _ all begins in
      rw yes (f.deep_complete a b r)
  deep_complete_either all fine a b (inr s) =
      let not : test (head a) ≡ false = tells (head a) ∙ begun_out s2 o2 ts a fine (g.deep_first a b s) in rw not (g.deep_complete a b s)

  deep_first_either : (a b : List Token) → Exceeded n a b → In (s1 ++ s2) a ⊎ At_once o2 a
  deep_first_either a b (inl r) = elim (f.deep_first a b r) [ inl i ↦ inl (in_left s1 s2 _ i) | inr never ↦ absurd never ]
  deep_first_either a b (inr s) = elim (g.deep_first a b s) [ inl i ↦ inl (in_right s1 s2 _ i) | inr once ↦ inr once ]

  takes_by : (x : Bool) (a : List Token) → Tail a (rest_of (if x then p n a else q n a))
  takes_by true a = f.takes a
  takes_by false a = g.takes a

  local_by : (x : Bool) (a a' b' : List Token) → Swap a (rest_of (if x then p n a else q n a)) a' b' → (if x then p n a' else q n a') ≡ moved (if x then p n a else q n a) b'
  local_by true a a' b' s = f.local a a' b' s
  local_by false a a' b' s = g.local a a' b' s

  deeper_either : (m : ℕ) → n ≤ m → (t : A) (a b : List Token) → Spelled n t a b → Spelled m t a b
  deeper_either m le t a b (inl r) = inl (f.deeper m le t a b r)
  deeper_either m le t a b (inr s) = inr (g.deeper m le t a b s)

  below_by : (m : ℕ) → n ≤ m → (x : Bool) (a : List Token) → Below (if x then p n a else q n a) (if x then p m a else q m a)
  below_by m le true a = f.below m le a
  below_by m le false a = g.below m le a

  puts_either : (t : A) (a b b' : List Token) → Spelled n t a b → (a' : List Token) × Front a b a' b' × Spelled n t a' b'
  puts_either t a b b' (inl r) = let (a', front, s) = f.puts t a b b' r in (a', front, inl s)
  puts_either t a b b' (inr r) = let (a', front, s) = g.puts t a b b' r in (a', front, inr s)

  goes_by : (x : Bool) (a b : List Token) → Halts (if x then p n a else q n a) b → (m : ℕ) → n < m → Goes_on (Either m) a b
  goes_by true a b h m lt = let (t, rest) = f.goes a b h m lt in (t, λ c. let (a', b', front, r) = rest c in (a', b', front, inl r))
  goes_by false a b h m lt = let (t, rest) = g.goes a b h m lt in (t, λ c. let (a', b', front, r) = rest c in (a', b', front, inr r))

  some_either : (m : ℕ) → 0 < m → Some_of (Either m)
  some_either m lt = let (t, rest) = f.some m lt in (t, λ c. let (a, r) = rest c in (a, inl r))

  pub fits_choose : within s1 ts ≡ true → parted s2 o2 ts ≡ true → l2 ≤ 1 → Fits (s1 ++ s2) (if_none l2 ts ++ (m1 ++ m2)) l2 o2 (λ k. either (R k) (S k)) (λ k. choose test (p k) (q k)) n
  unfolding either
  fits_choose all fine le = record {
    sound = λ t a b h. sound_by (test (head a)) t a b h;
    complete = complete_either all fine;
    first = first_either;
    size = size_either le;
    deep_sound = λ a b h. deep_sound_by (test (head a)) a b h;
    deep_complete = deep_complete_either all fine;
    deep_first = deep_first_either;
    takes = λ a. takes_by (test (head a)) a;
    local = λ a a' b' s. rw (sym (ap test (same_head a _ a' b' s))) (local_by (test (head a)) a a' b' s);
    deeper = deeper_either;
    below = λ m le a. below_by m le (test (head a)) a;
    puts = puts_either;
    goes = λ a b h m lt. goes_by (test (head a)) a b h m lt;
    some = some_either;
  }

-- a test that refuses what cannot begin the rule in any case
module _ {A : Type 0} (test : Token → Bool) (ts : List ℕ) (tells : Tells test ts) {s m : List ℕ} {R : ℕ → Rule A} {p : ℕ → Parser A} {n : ℕ} (f : Fits s m 1 (Some []) R p n) where
  abbrev stuck : List Token → Outcome A
  stuck us = Stuck us

  sound_unless : (x : Bool) (t : A) (a b : List Token) → (if x then Stuck a else p n a) ≡ Read t b → (R n).spells t a b
  sound_unless true t a b h = cc
  sound_unless false t a b h = f.sound t a b h

  deep_sound_unless : (x : Bool) (a b : List Token) → test (head a) ≡ x → (if x then Stuck a else p n a) ≡ Deep b → (R n).exceeds a b × (test (head a) ≡ false)
  deep_sound_unless true a b e h = cc
  deep_sound_unless false a b e h = (f.deep_sound a b h, e)

  takes_unless : (x : Bool) (a : List Token) → Tail a (rest_of (if x then Stuck a else p n a))
  takes_unless true a = none a
  takes_unless false a = f.takes a

  local_unless : (x : Bool) (a a' b' : List Token) → Swap a (rest_of (if x then Stuck a else p n a)) a' b' → (if x then Stuck a' else p n a') ≡ moved (if x then Stuck a else p n a) b'
  local_unless true a a' b' s = ap stuck (swap_same a a' b' s)
  local_unless false a a' b' s = f.local a a' b' s

  below_unless : (k : ℕ) → n ≤ k → (x : Bool) (a : List Token) → Below (if x then stuck a else p n a) (if x then Stuck a else p k a)
  below_unless k le true a = refl
  below_unless k le false a = f.below k le a

  goes_unless : (x : Bool) (a b : List Token) → Halts (if x then stuck a else p n a) b → (k : ℕ) → n < k → Goes_on (R k) a b
  goes_unless true a b h k lt = let (t, rest) = f.some k (let l = lt in omega (arith, l)) in (t, λ c. let (b', r) = rest c in (b', b', front_none a b b' h, r))
  goes_unless false a b h k lt = f.goes a b h k lt

  pub fits_unless : apart s ts ≡ true → Fits s m 1 (Some ts) (λ k. inside test (R k)) (λ k. unless test (p k)) n
  unfolding inside
  fits_unless fine = record {
    sound = λ t a b h. sound_unless (test (head a)) t a b h;
    complete = λ t a b r o.
        let begins : In s a = elim (f.first t a b r) [ inl i ↦ i | inr e ↦ never_none e.0 ] in
        let not : test (head a) ≡ false = tells (head a) ∙ among_apart s ts _ fine begins in
        rw not (f.complete t a b r o);
    first = f.first;
    size = f.size;
    deep_sound = λ a b h. deep_sound_unless (test (head a)) a b refl h;
    deep_complete = λ a b r. rw r.1 (f.deep_complete a b r.0);
    deep_first = λ a b r. inr (sym (tells (head a)) ∙ r.1);
    takes = λ a. takes_unless (test (head a)) a;
    local = λ a a' b' w. rw (sym (ap test (same_head a _ a' b' w))) (local_unless (test (head a)) a a' b' w);
    deeper = f.deeper;
    below = λ k le a. below_unless k le (test (head a)) a;
    puts = f.puts;
    goes = λ a b h k lt. goes_unless (test (head a)) a b h k lt;
    some = f.some;
  }
