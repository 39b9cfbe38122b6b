-- Parents that change and keep what they link.
use Rattle.std.proofs.Common.{◌≡◌, ◌≢◌, ℕ, ◌<◌, ◌+◌, ◌-◌, zero, suc, List, [], ◌∷◌, ◌++◌, ◌⊎◌, inl, inr, length, get_or, set, min, max, refl, sym, ap, subst, ◌∙◌, arith}
use Rattle.std.proofs.lemmas.Bool.{cases_eq, cases_lt}
use Rattle.std.proofs.lemmas.List.{get_or-set_same, get_or-set_other, get_or_default, get_or_append_left, get_or-append_right, get_or_push}
use Rattle.std.proofs.lemmas.List.Elements.{Contains-push, Contains-push_cases, Contains-append_left}
use Rattle.mo_connect.specs.declared.Pair.{Pair}
use Rattle.mo_connect.specs.Chain.{Chain, stay, forward, backward, IsPair, AreJoined}
use Rattle.mo_connect.specs.private.Links.{parent_of, IsRoot, Falls, AreLinked, KeepsLinks, LinksJoined}
use Rattle.mo_connect.proofs.Chains.{follow, reversed, refined}

-- a number and its parent
pub link : (parents : List ℕ) (x y : ℕ) → parent_of parents x ≡ y → AreLinked parents x y
link parents x y is = forward x y y is (stay y)

-- what a read of a place gives
pub parent_at : (parents : List ℕ) (x : ℕ) → x < length parents → get_or parents x 0 ≡ parent_of parents x
parent_at parents x within = get_or_default parents x 0 x within

set_same : (parents : List ℕ) (x y : ℕ) → x < length parents → parent_of (set parents x y) x ≡ y
set_same parents x y within = get_or-set_same parents x y x within

set_other : (parents : List ℕ) (x y z : ℕ) → z ≢ x → parent_of (set parents x y) z ≡ parent_of parents z
set_other parents x y z other = get_or-set_other parents x z y z other

pub kept_all : (parents : List ℕ) → Falls parents → KeepsLinks parents parents
kept_all parents falls = record { falls = falls; onward = λ x y chain. chain; back = λ x y chain. chain; roots = λ x root. root }

pub kept_twice : (old between new : List ℕ) → KeepsLinks old between → KeepsLinks between new → KeepsLinks old new
kept_twice old between new first second = record {
  falls = second.falls;
  onward = λ x y chain. second.onward x y (first.onward x y chain);
  back = λ x y chain. first.back x y (second.back x y chain);
  roots = λ x root. second.roots x (first.roots x root);
}

-- a number that gets its parent's parent as its own
module _ (parents : List ℕ) (at : ℕ) (falls : Falls parents) (within : at < length parents) where
  abbrev halved : List ℕ
  halved = set parents at (parent_of parents (parent_of parents at))

  halved_at : parent_of halved at ≡ parent_of parents (parent_of parents at)
  halved_at = set_same parents at (parent_of parents (parent_of parents at)) within

  halved_past : (x : ℕ) → x ≢ at → parent_of halved x ≡ parent_of parents x
  halved_past x other = set_other parents at (parent_of parents (parent_of parents at)) x other

  halved_falls : Falls halved
  halved_falls x = elim (cases_eq x at) [
    | inl same ↦ let once = falls at in let twice = falls (parent_of parents at) in rw (same, halved_at) (omega arith)
    | inr other ↦ rw (halved_past x other) (falls x)
  ]

  halved_onward : (x y : ℕ) → parent_of parents x ≡ y → AreLinked halved x y
  halved_onward x y is = elim (cases_eq x at) [
    | inl same ↦ subst (λ z. AreLinked halved z y) (sym same) (subst (AreLinked halved at) (ap (parent_of parents) (sym same) ∙ is) up)
    | inr other ↦ link halved x y (halved_past x other ∙ is)
  ]
    where
      up : AreLinked halved at (parent_of parents at)
      up = elim (cases_eq (parent_of parents at) at) [
        | inl root ↦ subst (AreLinked halved at) (sym root) (stay at)
        | inr other ↦ forward at (parent_of parents (parent_of parents at)) (parent_of parents at) halved_at
            (backward (parent_of parents (parent_of parents at)) (parent_of parents at) (parent_of parents at) (halved_past (parent_of parents at) other) (stay (parent_of parents at)))
      ]

  halved_back : (x y : ℕ) → parent_of halved x ≡ y → AreLinked parents x y
  halved_back x y is = elim (cases_eq x at) [
    | inl same ↦ subst (λ z. AreLinked parents z y) (sym same)
        (forward at (parent_of parents at) y refl (link parents (parent_of parents at) y (sym halved_at ∙ ap (parent_of halved) (sym same) ∙ is)))
    | inr other ↦ link parents x y (sym (halved_past x other) ∙ is)
  ]

  halved_roots : (x : ℕ) → IsRoot parents x → IsRoot halved x
  halved_roots x root = elim (cases_eq x at) [
    | inl same ↦ rw (same, halved_at) (let at_root : parent_of parents at ≡ at = rw same at root in rw (at_root, at_root) refl)
    | inr other ↦ halved_past x other ∙ root
  ]

  pub halved_keeps : KeepsLinks parents (set parents at (parent_of parents (parent_of parents at)))
  halved_keeps = record {
    falls = halved_falls;
    onward = refined (λ x y. parent_of parents x ≡ y) (λ x y. parent_of halved x ≡ y) halved_onward;
    back = refined (λ x y. parent_of halved x ≡ y) (λ x y. parent_of parents x ≡ y) halved_back;
    roots = halved_roots;
  }

  -- the numbers right under a root are one more
  pub flat_more : ((x : ℕ) → x < at → IsRoot parents (parent_of parents x)) → (x : ℕ) → x < at + 1
      → IsRoot halved (parent_of halved x)
  flat_more flat x below = elim (cases_eq x at) [
    | inl same ↦ subst (λ z. IsRoot halved (parent_of halved z)) (sym same) (rw halved_at (halved_roots (parent_of parents (parent_of parents at)) top))
    | inr other ↦ rw (halved_past x other) (halved_roots (parent_of parents x) (flat x (omega arith)))
  ]
    where
      top : IsRoot parents (parent_of parents (parent_of parents at))
      top = elim (cases_eq (parent_of parents at) at) [
        | inl root ↦ rw (root, root, root) refl
        | inr other ↦ flat (parent_of parents at) (let low = falls at in omega arith)
      ]

-- what the reads of a number's parent and of that one's parent give
pub reads : (parents : List ℕ) (at : ℕ) → Falls parents → at < length parents
    → (get_or parents at 0 ≡ parent_of parents at) × (get_or parents (get_or parents at 0) 0 ≡ parent_of parents (parent_of parents at))
reads parents at falls within =
    let once = parent_at parents at within in
    let low = falls at in
    let inside : parent_of parents at < length parents = omega arith in
    (once, ap (λ x. get_or parents x 0) once ∙ parent_at parents (parent_of parents at) inside)

-- one turn of a climb to the root
pub climb_keeps : (old now : List ℕ) (at above : ℕ) → at < length now → above ≡ parent_of now (parent_of now at)
    → KeepsLinks old now → KeepsLinks old (set now at above)
climb_keeps old now at above within is kept =
    rw is (kept_twice old now (set now at (parent_of now (parent_of now at))) kept (halved_keeps now at kept.falls within))

pub climb_links : (now : List ℕ) (start at above : ℕ) → Falls now → at < length now → above ≡ parent_of now (parent_of now at)
    → AreLinked now start at → AreLinked (set now at above) start above
climb_links now start at above falls within is linked =
    let new : List ℕ = set now at (parent_of now (parent_of now at)) in
    rw is (follow (λ x y. parent_of new x ≡ y) start at (parent_of now (parent_of now at)) ((halved_keeps now at falls within).onward start at linked)
    (link new at (parent_of now (parent_of now at)) (set_same now at (parent_of now (parent_of now at)) within)))

-- a root that is hung under another number
module _ (parents : List ℕ) (high low : ℕ) (root : IsRoot parents high) (within : high < length parents) where
  abbrev hung : List ℕ
  hung = set parents high low

  hung_past : (x : ℕ) → x ≢ high → parent_of hung x ≡ parent_of parents x
  hung_past x other = set_other parents high low x other

  hung_onward : (x y : ℕ) → AreLinked parents x y → AreLinked hung x y
  hung_onward = refined (λ x y. parent_of parents x ≡ y) (λ x y. parent_of hung x ≡ y) (λ x y is. elim (cases_eq x high) [
    | inl same ↦ let there : x ≡ y = same ∙ sym root ∙ ap (parent_of parents) (sym same) ∙ is in subst (AreLinked hung x) there (stay x)
    | inr other ↦ link hung x y (hung_past x other ∙ is)
  ])

  hung_back : (Finer : ℕ → ℕ → Type 0) → ((x y : ℕ) → AreLinked parents x y → Chain Finer x y) → Chain Finer high low → (x y : ℕ)
      → AreLinked hung x y → Chain Finer x y
  hung_back Finer before new = refined (λ x y. parent_of hung x ≡ y) Finer (λ x y is. elim (cases_eq x high) [
    | inl same ↦ let there : low ≡ y = sym (set_same parents high low within) ∙ ap (parent_of hung) (sym same) ∙ is in
        subst (λ z. Chain Finer z y) (sym same) (subst (Chain Finer high) there new)
    | inr other ↦ before x y (link parents x y (sym (hung_past x other) ∙ is))
  ])

  -- one of the two numbers of a pair is linked to the one, and the other to the other
  abbrev Ends : Pair → Type 0
  Ends pair = (AreLinked parents pair.a high × AreLinked parents pair.b low) ⊎ (AreLinked parents pair.a low × AreLinked parents pair.b high)

  meet : (Finer : ℕ → ℕ → Type 0) → ((x y : ℕ) → AreLinked parents x y → Chain Finer x y) → (pair : Pair) → Ends pair
      → Chain Finer high low → Chain Finer pair.a pair.b
  meet Finer before pair (inl (a, b)) between =
      follow Finer pair.a high pair.b (before pair.a high a) (follow Finer high low pair.b between (reversed Finer pair.b low (before pair.b low b)))
  meet Finer before pair (inr (a, b)) between = follow Finer pair.a low pair.b (before pair.a low a)
      (follow Finer low high pair.b (reversed Finer high low between) (reversed Finer pair.b high (before pair.b high b)))

  meet_back : (Finer : ℕ → ℕ → Type 0) → ((x y : ℕ) → AreLinked parents x y → Chain Finer x y) → (pair : Pair) → Ends pair
      → Chain Finer pair.a pair.b → Chain Finer high low
  meet_back Finer before pair (inl (a, b)) between =
      follow Finer high pair.a low (reversed Finer pair.a high (before pair.a high a)) (follow Finer pair.a pair.b low between (before pair.b low b))
  meet_back Finer before pair (inr (a, b)) between =
      follow Finer high pair.b low (reversed Finer pair.b high (before pair.b high b))
      (follow Finer pair.b pair.a low (reversed Finer pair.a pair.b between) (before pair.a low a))

  -- the parents now link what the pairs and one pair more join
  pub hung_joins : (pair : Pair) → Ends pair → (pairs : List Pair) → LinksJoined pairs parents
      → LinksJoined (pairs ++ pair ∷ []) (set parents high low)
  hung_joins pair ends pairs links = record {
    linked = refined (IsPair (pairs ++ pair ∷ [])) (λ x y. parent_of hung x ≡ y) after;
    joined = hung_back (IsPair (pairs ++ pair ∷ [])) before
        (meet_back (IsPair (pairs ++ pair ∷ [])) before pair ends (forward pair.a pair.b pair.b (Contains-push pairs pair) (stay pair.b)));
  }
    where
      met : AreLinked hung pair.a pair.b
      met = meet (λ x y. parent_of hung x ≡ y) hung_onward pair ends (link hung high low (set_same parents high low within))

      after : (x y : ℕ) → IsPair (pairs ++ pair ∷ []) x y → AreLinked hung x y
      after x y listed = elim (Contains-push_cases pairs pair (record { a = x; b = y }) listed) [
        | inl old ↦ hung_onward x y (links.linked x y (forward x y y old (stay y)))
        | inr is ↦ subst (λ (p : Pair). AreLinked hung p.a p.b) is met
      ]

      before : (x y : ℕ) → AreLinked parents x y → AreJoined (pairs ++ pair ∷ []) x y
      before x y chain = refined (IsPair pairs) (IsPair (pairs ++ pair ∷ []))
          (λ u v listed. forward u v v (Contains-append_left pairs (pair ∷ []) (record { a = u; b = v }) listed) (stay v)) x y (links.joined x y chain)

-- parents that keep their links link what the same pairs join
pub moved : (pairs : List Pair) (old new : List ℕ) → KeepsLinks old new → LinksJoined pairs old → LinksJoined pairs new
moved pairs old new kept links = record {
  linked = λ x y chain. kept.onward x y (links.linked x y chain);
  joined = λ x y chain. links.joined x y (kept.back x y chain);
}

-- the roots over the numbers of a pair, of which the higher one is hung under the other
pub join_links : (new : List ℕ) (pair : Pair) (first second : ℕ) → IsRoot new first → IsRoot new second
    → AreLinked new pair.a first → AreLinked new pair.b second
    → first < length new → second < length new → (pairs : List Pair)
    → LinksJoined pairs new → LinksJoined (pairs ++ pair ∷ []) (set new (max first second) (min first second))
join_links new pair first second root root' a b within within' pairs links = elim (cases_lt first second) [
  | inl below ↦
      let high : max first second ≡ second = omega arith in
      let low : min first second ≡ first = omega arith in
      rw (high, low) (hung_joins new second first root' within' pair (inr (a, b)) pairs links)
  | inr above ↦
      let high : max first second ≡ first = omega arith in
      let low : min first second ≡ second = omega arith in
      rw (high, low) (hung_joins new first second root within pair (inl (a, b)) pairs links)
]

-- where each number is its own parent, only equal numbers are linked
pub roots_links : (parents : List ℕ) → ((x : ℕ) → IsRoot parents x) → LinksJoined [] parents
roots_links parents root = record {
  linked = refined (IsPair []) (λ x y. parent_of parents x ≡ y) (λ x y listed. absurd (omega (arith, listed.1)));
  joined =
      refined (λ x y. parent_of parents x ≡ y) (IsPair []) (λ x y is. subst (Chain (IsPair []) x) (sym (root x) ∙ is) (stay x));
}

past_one : (x n d : ℕ) → 0 < n → get_or (x ∷ []) n d ≡ d
past_one x zero d past = absurd (omega (arith, past))
past_one x (suc n) d past = refl

-- one more number that is its own parent
pub root_pushed : (parents : List ℕ) (x y : ℕ) → length parents ≡ x → IsRoot parents y → IsRoot (parents ++ x ∷ []) y
root_pushed parents x y size root = elim (cases_lt y x) [
  | inl below ↦ get_or_append_left parents (x ∷ []) y y (omega (arith, below, size)) ∙ root
  | inr above ↦ elim (cases_lt x y) [
    | inl past ↦ get_or-append_right parents (x ∷ []) x y y size above ∙ past_one x (y - x) y (omega (arith, past))
    | inr not_past ↦ let same : x ≡ y = omega (arith, above, not_past) in get_or_push parents x y y (size ∙ same) ∙ same
  ]
]
