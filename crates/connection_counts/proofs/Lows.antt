-- Different numbers that are joined to lesser ones are at most as many as the pairs: a pair more makes one more such number.
use Rattle.std.proofs.Common.{◌≡◌, ◌≢◌, refl, sym, subst, ap, ℕ, zero, suc, ◌<◌, ◌≤◌, ◌⊎◌, inl, inr, List, [], ◌∷◌, length, arith}
use Rattle.std.proofs.lemmas.Bool.{cases_lt}
use Rattle.mo_connect.specs.declared.Pair.{Pair}
use Rattle.mo_connect.specs.Chain.{stay, forward, backward, IsPair, AreJoined}
use Rattle.mo_connect.proofs.Chains.{follow, reversed}

-- a number is joined to a lesser one
abbrev pub IsLow : List Pair → ℕ → Type 0
IsLow pairs y = (x : ℕ) × (x < y) × AreJoined pairs x y

-- it is not so that this is not so
abbrev pub Not : Type 0 → Type 0
Not A = A → ⊥

abbrev pub AllLow : List Pair → List ℕ → Type 0
AllLow pairs [] = Unit {0}
AllLow pairs (y ∷ ys) = Not (Not (IsLow pairs y)) × AllLow pairs ys

abbrev pub IsFresh : ℕ → List ℕ → Type 0
IsFresh y [] = Unit {0}
IsFresh y (z ∷ zs) = (y ≢ z) × IsFresh y zs

abbrev pub AreDistinct : List ℕ → Type 0
AreDistinct [] = Unit {0}
AreDistinct (y ∷ ys) = IsFresh y ys × AreDistinct ys

nothing_joined : (x y : ℕ) → AreJoined [] x y → x ≡ y
nothing_joined x y (stay z) = refl
nothing_joined x y (forward u v w step more) = absurd (omega (arith, step.1))
nothing_joined x y (backward u v w step more) = absurd (omega (arith, step.1))

module _ (p : Pair) (pairs : List Pair) where
  -- a chain with one pair more goes through it or not
  pub data Crosses (x y : ℕ) : Type 0 where
    not : AreJoined pairs x y → Crosses x y
    along : AreJoined pairs x p.a → AreJoined pairs p.b y → Crosses x y
    against : AreJoined pairs x p.b → AreJoined pairs p.a y → Crosses x y

  one_step : (x u : ℕ) → IsPair (p ∷ pairs) x u → ((p.a ≡ x) × (p.b ≡ u)) ⊎ IsPair pairs x u
  one_step x u (zero, within, is) = inl (ap (λ q. q.a) is, ap (λ q. q.b) is)
  one_step x u (suc k, within, is) = inr (k, omega (arith, within), is)

  goes_on : (x u y : ℕ) → AreJoined pairs x u → Crosses u y → Crosses x y
  goes_on x u y first (Crosses.not more) = Crosses.not (follow (IsPair pairs) x u y first more)
  goes_on x u y first (Crosses.along to from) = Crosses.along (follow (IsPair pairs) x u p.a first to) from
  goes_on x u y first (Crosses.against to from) = Crosses.against (follow (IsPair pairs) x u p.b first to) from

  from_first : (y : ℕ) → Crosses p.b y → Crosses p.a y
  from_first y (Crosses.not more) = Crosses.along (stay p.a) more
  from_first y (Crosses.along to from) = Crosses.along (stay p.a) from
  from_first y (Crosses.against to from) = Crosses.not from

  from_second : (y : ℕ) → Crosses p.a y → Crosses p.b y
  from_second y (Crosses.not more) = Crosses.against (stay p.b) more
  from_second y (Crosses.along to from) = Crosses.not from
  from_second y (Crosses.against to from) = Crosses.against (stay p.b) from

  pub crossing : (x y : ℕ) → AreJoined (p ∷ pairs) x y → Crosses x y
  crossing x y (stay z) = Crosses.not (stay x)
  crossing x y (forward u v w step more) = by (one_step x v step) (crossing v y more)
    where
      by : ((p.a ≡ x) × (p.b ≡ v)) ⊎ IsPair pairs x v → Crosses v y → Crosses x y
      by (inl (one, other)) rest = subst (λ n. Crosses n y) one (from_first y (subst (λ n. Crosses n y) (sym other) rest))
      by (inr old) rest = goes_on x v y (forward x v v old (stay v)) rest
  crossing x y (backward u v w step more) = by (one_step v x step) (crossing v y more)
    where
      by : ((p.a ≡ v) × (p.b ≡ x)) ⊎ IsPair pairs v x → Crosses v y → Crosses x y
      by (inl (one, other)) rest = subst (λ n. Crosses n y) other (from_second y (subst (λ n. Crosses n y) (sym one) rest))
      by (inr old) rest = goes_on x v y (backward x v v old (stay v)) rest

  module _ (y z : ℕ) (differ : y ≢ z) (least_y : Not (IsLow pairs y)) (least_z : Not (IsLow pairs z)) where
    -- two numbers that are the least of theirs are not joined
    apart : AreJoined pairs y z → ⊥
    apart joined =
        let not_below : y < z → ⊥ = λ less. least_z (y, less, joined) in
        let not_above : z < y → ⊥ = λ less. least_y (z, less, reversed (IsPair pairs) y z joined) in
        differ (omega (arith, not_below, not_above))

    crossed : (x w : ℕ) → x < y → w < z → AreJoined pairs x z → AreJoined pairs w y → ⊥
    crossed x w one other to_z to_y =
        let not_x : x < z → ⊥ = λ less. least_z (x, less, to_z) in
        let not_w : w < y → ⊥ = λ less. least_y (w, less, to_y) in
        omega (arith, one, other, not_x, not_w)

    -- one pair more does not give both a lesser one
    pub two_least : IsLow (p ∷ pairs) y → IsLow (p ∷ pairs) z → ⊥
    two_least (x, one, to_y) (w, other, to_z) = by (crossing x y to_y) (crossing w z to_z)
      where
        by : Crosses x y → Crosses w z → ⊥
        by (Crosses.not here) any = least_y (x, one, here)
        by (Crosses.along a b) (Crosses.not here) = least_z (w, other, here)
        by (Crosses.along a b) (Crosses.along c d) = apart (follow (IsPair pairs) y p.b z (reversed (IsPair pairs) p.b y b) d)
        by (Crosses.along a b) (Crosses.against c d) = crossed x w one other (follow (IsPair pairs) x p.a z a d) (follow (IsPair pairs) w p.b y c b)
        by (Crosses.against a b) (Crosses.not here) = least_z (w, other, here)
        by (Crosses.against a b) (Crosses.along c d) = crossed x w one other (follow (IsPair pairs) x p.b z a d) (follow (IsPair pairs) w p.a y c b)
        by (Crosses.against a b) (Crosses.against c d) = apart (follow (IsPair pairs) y p.a z (reversed (IsPair pairs) p.a y b) d)

  -- all are joined to lesser ones without the pair, or all but one
  pub record AllButOne (ys : List ℕ) : Type 0 where
    pub others : List ℕ
    pub long : length ys ≡ suc (length others)
    pub distinct : AreDistinct others
    pub low : AllLow pairs others
    pub among : (z : ℕ) → IsFresh z ys → IsFresh z others

  abbrev Found : List ℕ → Type 0
  Found ys = AllLow pairs ys ⊎ AllButOne ys

  all_others : (y : ℕ) → Not (IsLow pairs y) → Not (Not (IsLow (p ∷ pairs) y)) → (zs : List ℕ) → IsFresh y zs → AllLow (p ∷ pairs) zs → AllLow pairs zs
  all_others y least low [] fresh all = tt
  all_others y least low (z ∷ zs) fresh all =
      (λ least_z. low (λ low_y. all.0 (λ low_z. two_least y z fresh.0 least least_z low_y low_z)), all_others y least low zs fresh.1 all.1)

  with_more : (y : ℕ) (ys : List ℕ) → IsFresh y ys → Not (Not (IsLow pairs y)) → Found ys → Found (y ∷ ys)
  with_more y ys fresh low (inl all) = inl (low, all)
  with_more y ys fresh low (inr one) = inr (record {
    others = y ∷ one.others;
    long = ap suc one.long;
    distinct = (one.among y fresh, one.distinct);
    low = (low, one.low);
    among = λ z apart. (apart.0, one.among z apart.1);
  })

  pub found : (ys : List ℕ) → AreDistinct ys → AllLow (p ∷ pairs) ys → Not (Not (Found ys))
  found [] distinct all = λ none. none (inl tt)
  found (y ∷ ys) distinct all = λ none. found ys distinct.1 all.1 (λ rest. by none rest)
    where
      by : Not (Found (y ∷ ys)) → Found ys → ⊥
      by none rest =
          let least : IsLow pairs y → ⊥ = λ low. none (with_more y ys distinct.0 (λ not. not low) rest) in
          none (inr (record {
            others = ys;
            long = refl;
            distinct = distinct.1;
            low = all_others y least all.0 ys distinct.0 all.1;
            among = λ z apart. apart.1;
          }))

within : (limit n : ℕ) → (limit < n → ⊥) → n ≤ limit
within limit n none = by (cases_lt limit n)
  where
    by : (limit < n) ⊎ (n ≤ limit) → n ≤ limit
    by (inl more) = absurd (none more)
    by (inr few) = few

one_more : (p : Pair) (pairs : List Pair) (ys : List ℕ) → AreDistinct ys → ((zs : List ℕ) → AreDistinct zs → AllLow pairs zs → length zs ≤ length pairs)
    → length (p ∷ pairs) < length ys → AllLow pairs ys ⊎ AllButOne p pairs ys → ⊥
one_more p pairs ys distinct again more (inl all) = let few = again ys distinct all in omega (arith, few, more)
one_more p pairs ys distinct again more (inr one) =
    let few = again one.others one.distinct one.low in
    let long = one.long in
    omega (arith, few, more, long)

pub at_most : (pairs : List Pair) (ys : List ℕ) → AreDistinct ys → AllLow pairs ys → length ys ≤ length pairs
at_most [] [] distinct all = omega arith
at_most [] (y ∷ ys) distinct all = absurd (all.0 (λ low. let same = nothing_joined low.0 y low.2 in omega (arith, low.1, same)))
at_most (p ∷ pairs) ys distinct all =
    within (length (p ∷ pairs)) (length ys) (λ more. found p pairs ys distinct all (λ f. one_more p pairs ys distinct (at_most pairs) more f))
