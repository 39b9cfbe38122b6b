-- The lists of members that are filled are the classes.
use Rattle.std.proofs.Common.{◌≡◌, ◌≢◌, ℕ, zero, suc, ◌<◌, Bool, true, List, [], ◌∷◌, inl, inr, length, get_or, refl, sym, ap, subst, ◌∙◌, arith}
use Rattle.std.proofs.lemmas.Bool.{cases_eq, cases_lt, cases_Bool}
use Rattle.std.proofs.lemmas.List.{get_or_default, get_or_past}
use Rattle.std.proofs.lemmas.List.Elements.{Contains-get_or, All-filter, filter_passes}
use Rattle.std.proofs.lemmas.List.Kept.{AllPairs-filter}
use Rattle.std.specs.List.{All, AllPairs, Any, Contains, filter}
use Rattle.mo_connect.specs.declared.Pair.{Pair}
use Rattle.mo_connect.specs.Chain.{stay, forward, backward, AreJoined}
use Rattle.mo_connect.specs.Classes.{AreClasses}
use Rattle.mo_connect.specs.private.Links.{parent_of, IsFlat, AreLinked, LinksJoined}
use Rattle.mo_connect.specs.private.Gathered.{HasMembers, is_filled}
use Rattle.mo_connect.proofs.Chains.{unchanged}

filled_some : (xs : List ℕ) → is_filled xs ≡ true → xs ≢ []
filled_some [] filled none = cc
filled_some (x ∷ xs) filled none = cc

some_filled : (xs : List ℕ) → xs ≢ [] → is_filled xs ≡ true
some_filled [] some = absurd (some refl)
some_filled (x ∷ xs) some = refl

contains_some : (xs : List ℕ) (x : ℕ) → Contains xs x → xs ≢ []
contains_some xs x (k, within, is) none = let empty : length xs ≡ 0 = ap length none in omega (arith, within, empty)

-- what an element that passes has, one of those kept has
kept_any : {X : Type 0} (P : X → Type 0) (test : X → Bool) (xs : List X) (k : ℕ) (d : X) → k < length xs
    → test (get_or xs k d) ≡ true → P (get_or xs k d) → Any P (filter test xs)
kept_any P test [] k d within passes has = absurd (omega (arith, within))
kept_any P test (x ∷ xs) zero d within passes has = rw passes (zero, x, omega arith, refl, has)
kept_any {X} P test (x ∷ xs) (suc k) d within passes has =
    let rest = kept_any P test xs k d (omega (arith, within)) passes has in
    elim (cases_Bool (test x)) [
      | inl passed ↦ rw passed (suc rest.0, rest.1, (let below = rest.2 in omega (arith, below)), rest.3, rest.4)
      | inr left ↦ rw left rest
    ]

module _ (count : ℕ) (pairs : List Pair) (parents : List ℕ) (lists : List (List ℕ)) (links : LinksJoined pairs parents) (flat : IsFlat parents)
    (size : length parents ≡ count) (filed : length lists ≡ count) (has : (root : ℕ) → HasMembers parents count root (get_or lists root [])) where
  -- a filled list is that of a root
  record IsOf (class : List ℕ) : Type 0 where
    root : ℕ
    some : class ≢ []
    members : HasMembers parents count root class

  each : All (λ class. (root : ℕ) × HasMembers parents count root class) lists
  each k d within = (k, rw (get_or_default lists k d [] within) (has k))

  kept : All IsOf (filter is_filled lists)
  kept k d within =
      let found = All-filter is_filled (λ class. (root : ℕ) × HasMembers parents count root class) lists each k d within in
      record { root = found.0; some = filled_some (get_or (filter is_filled lists) k d) (filter_passes is_filled lists k d within); members = found.1 }

  -- linked numbers are under one root
  one_root : (x y : ℕ) → AreLinked parents x y → parent_of parents x ≡ parent_of parents y
  one_root =
      unchanged (λ x y. parent_of parents x ≡ y) (parent_of parents) (λ x y is. is ∙ sym (ap (parent_of parents) (sym is) ∙ flat x ∙ is))

  -- numbers under one root are linked
  under_one : (x y root : ℕ) → parent_of parents x ≡ root → parent_of parents y ≡ root → AreLinked parents x y
  under_one x y root is is' = forward x root y is (backward root y y is' (stay y))

  -- the list of a number's root
  abbrev list_of : ℕ → List ℕ
  list_of x = get_or lists (parent_of parents x) []

  -- a number that is not its own root is in the root's list
  listed : (x : ℕ) → x ≢ parent_of parents x → Contains (list_of x) x
  listed x other = elim (cases_lt x count) [
    | inl within ↦ (has (parent_of parents x)).whole x within refl other
    | inr past ↦ absurd (other (sym (get_or_past parents x x (omega (arith, past, size)))))
  ]

  -- a root is in its list, if that has a member
  root_listed : (x y : ℕ) → Contains (list_of x) y → Contains (list_of x) (parent_of parents x)
  root_listed x y member =
      let some = contains_some (list_of x) y member in
      let first = (has (parent_of parents x)).first some in
      let several = (has (parent_of parents x)).several some in
      subst (Contains (list_of x)) first (Contains-get_or (list_of x) 0 0 (omega (arith, several)))

  -- different numbers under one root are both in its list
  both_listed : (x y : ℕ) → x ≢ y → parent_of parents x ≡ parent_of parents y → Contains (list_of x) x × Contains (list_of x) y
  both_listed x y other same = elim (cases_eq x (parent_of parents x)) [
    | inl own ↦
        let member : Contains (list_of x) y = rw same (listed y (λ also. other (own ∙ same ∙ sym also))) in
        (subst (Contains (list_of x)) (sym own) (root_listed x y member), member)
    | inr under ↦
        let member = listed x under in (
          member,
          elim (cases_eq y (parent_of parents y)) [
            | inl own ↦ subst (Contains (list_of x)) (same ∙ sym own) (root_listed x x member)
            | inr also ↦ rw same (listed y also)
          ],
        )
  ]

  together : (x y : ℕ) → x ≢ y → AreJoined pairs x y → Any (λ class. Contains class x × Contains class y) (filter is_filled lists)
  together x y other chain =
      let both = both_listed x y other (one_root x y (links.linked x y chain)) in
      let some = contains_some (list_of x) x both.0 in
      let within : parent_of parents x < length lists = elim (cases_lt (parent_of parents x) (length lists)) [
        | inl inside ↦ inside
        | inr past ↦ absurd (some (get_or_past lists (parent_of parents x) [] past))
      ] in
      kept_any (λ class. Contains class x × Contains class y) is_filled lists (parent_of parents x) [] within (some_filled (list_of x) some) both

  below : (class : List ℕ) → IsOf class → All (λ x. x < count) class
  below class of k d within = (of.members.under (get_or class k d) (Contains-get_or class k d within)).0

  -- the lists of two roots
  record AreOfTwo (class later : List ℕ) : Type 0 where
    root : ℕ
    next : ℕ
    rises : root < next
    members : HasMembers parents count root class
    others : HasMembers parents count next later

  pairwise : AllPairs AreOfTwo (filter is_filled lists)
  pairwise = AllPairs-filter AreOfTwo is_filled lists (λ i j d below within. record {
    root = i;
    next = j;
    rises = below;
    members = rw (get_or_default lists i d [] (omega (arith, below, within))) (has i);
    others = rw (get_or_default lists j d [] within) (has j);
  })

  pub are_classes : AreClasses count pairs (filter is_filled lists)
  are_classes = record {
    below = λ k d within. below (get_or (filter is_filled lists) k d) (kept k d within);
    joined = λ k d within x y one other. let class = kept k d within in
        links.joined x y (under_one x y class.root (class.members.under x one).1 (class.members.under y other).1);
    together = together;
    apart = λ i j d below within x one other. let two = pairwise i j d below within in
        let first = (two.members.under x one).1 in let second = (two.others.under x other).1 in let rises = two.rises in omega (arith, first, second, rises);
    several = λ k d within. let class = kept k d within in class.members.several class.some;
    rising = λ k d within. (kept k d within).members.rising;
    ordered = λ i j d below within. let two = pairwise i j d below within in
        let first = two.members.first (kept i d (omega (arith, below, within))).some in
        let second = two.others.first (kept j d within).some in
        let rises = two.rises in omega (arith, first, second, rises);
  }
