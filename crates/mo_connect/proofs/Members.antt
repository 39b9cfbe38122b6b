-- Lists of members that grow by one number.
use Rattle.std.proofs.Common.{◌≡◌, ◌≢◌, ℕ, ◌<◌, ◌+◌, List, [], ◌∷◌, ◌++◌, inl, inr, length, get_or, set, refl, sym, ap, ◌∙◌, arith}
use Rattle.std.proofs.lemmas.Bool.{cases_eq, cases_lt}
use Rattle.std.proofs.lemmas.List.{get_or-set_same, get_or-set_other, get_or_append_left, get_or_push, get_or_past, length_push, get_or_read}
use Rattle.std.proofs.lemmas.List.Elements.{Contains-push, Contains-push_cases, Contains-append_left, Contains-get_or}
use Rattle.std.specs.List.{Contains}
use Rattle.std.specs.List.Sorted.{IsStrictlyIncreasing}
use Rattle.mo_connect.specs.private.Links.{parent_of, IsRoot, IsFlat}
use Rattle.mo_connect.specs.private.Gathered.{HasMembers, with_member}

no_member : (x : ℕ) → Contains [] x → ⊥
no_member x (k, within, is) = omega (arith, within)

-- a number above all others at the end
increasing_push : (xs : List ℕ) (y : ℕ) → IsStrictlyIncreasing xs → ((x : ℕ) → Contains xs x → x < y)
    → IsStrictlyIncreasing (xs ++ y ∷ [])
increasing_push xs y rising above k within = elim (cases_lt (k + 1) (length xs)) [
  | inl inside ↦
      let left = get_or_append_left xs (y ∷ []) 0 k (omega arith) in
      let right = get_or_append_left xs (y ∷ []) 0 (k + 1) inside in
      rw (left, right) (rising k inside)
  | inr last ↦
      let size = length_push xs y in
      let left = get_or_append_left xs (y ∷ []) 0 k (omega (arith, size)) in
      let right : get_or (xs ++ y ∷ []) (k + 1) 0 ≡ y = get_or_push xs y 0 (k + 1) (omega (arith, size)) in
      rw (left, right) (above (get_or xs k 0) (Contains-get_or xs k 0 (omega (arith, size))))
]

-- a number that is not under the root, or is the root itself
pub not_more : (parents : List ℕ) (x root : ℕ) (members : List ℕ) → (parent_of parents x ≡ root → x ≢ root → ⊥)
    → HasMembers parents x root members → HasMembers parents (x + 1) root members
not_more parents x root members apart has = record {
  rising = has.rising;
  under = λ y member. let old = has.under y member in (omega (arith, old.0), old.1);
  first = has.first;
  several = has.several;
  whole = λ y below is other. elim (cases_eq y x) [
    | inl same ↦ absurd (apart (ap (parent_of parents) (sym same) ∙ is) (λ root. other (same ∙ root)))
    | inr before ↦ has.whole y (omega (arith, below, before)) is other
  ];
}

-- a number that is under the root
pub one_more : (parents : List ℕ) (x root : ℕ) (members : List ℕ) → IsFlat parents → parent_of parents x ≡ root → root < x
    → HasMembers parents x root members → HasMembers parents (x + 1) root (with_member members root x)
one_more parents x root [] flat is below has = record {
  rising =
      increasing_push (root ∷ []) x (λ k within. absurd (omega (arith, within))) (λ y member. elim (Contains-push_cases [] root y member) [
        | inl none ↦ absurd (no_member y none)
        | inr same ↦ rw (← same) below
      ]);
  under = λ y member. elim (Contains-push_cases (root ∷ []) x y member) [
    | inl before ↦ elim (Contains-push_cases [] root y before) [
      | inl none ↦ absurd (no_member y none)
      | inr same ↦ rw (← same) (omega arith, ap (parent_of parents) (sym is) ∙ flat x ∙ is)
    ]
    | inr same ↦ rw (← same) (omega arith, is)
  ];
  first = λ some. refl;
  several = λ some. omega arith;
  whole = λ y bounded under other. elim (cases_eq y x) [
    | inl same ↦ rw same (Contains-push (root ∷ []) x)
    | inr before ↦ absurd (no_member y (has.whole y (omega (arith, bounded, before)) under other))
  ];
}
one_more parents x root (first ∷ others) flat is below has = record {
  rising = increasing_push (first ∷ others) x has.rising (λ y member. (has.under y member).0);
  under = λ y member. elim (Contains-push_cases (first ∷ others) x y member) [
    | inl before ↦ let old = has.under y before in (omega (arith, old.0), old.1)
    | inr same ↦ rw (← same) (omega arith, is)
  ];
  first = λ some. has.first (λ none. cc);
  several =
      λ some. let before = has.several (λ none. cc) in let size = length_push (first ∷ others) x in omega (arith, before, size);
  whole = λ y bounded under other. elim (cases_eq y x) [
    | inl same ↦ rw same (Contains-push (first ∷ others) x)
    | inr before ↦ Contains-append_left (first ∷ others) (x ∷ []) y (has.whole y (omega (arith, bounded, before)) under other)
  ];
}

-- an empty list at the end changes no list
unpushed : (lists : List (List ℕ)) (root : ℕ) → get_or (lists ++ [] ∷ []) root [] ≡ get_or lists root []
unpushed lists root = elim (cases_lt root (length lists)) [
  | inl inside ↦ get_or_append_left lists ([] ∷ []) [] root inside
  | inr past ↦ elim (cases_eq root (length lists)) [
    | inl last ↦ get_or_push lists [] [] root (sym last) ∙ sym (get_or_past lists root [] past)
    | inr beyond ↦
        let size = length_push lists [] in
        get_or_past (lists ++ [] ∷ []) root [] (omega (arith, size, past, beyond)) ∙ sym (get_or_past lists root [] past)
  ]
]

-- the lists of all roots after a number that is a root
pub root_added : (parents : List ℕ) (x : ℕ) (lists now : List (List ℕ)) → now ≡ lists ++ [] ∷ [] → IsRoot parents x
    → ((root : ℕ) → HasMembers parents x root (get_or lists root []))
    → (root : ℕ) → HasMembers parents (x + 1) root (get_or now root [])
root_added parents x lists now pushed own has root =
    rw (pushed, unpushed lists root) (not_more parents x root (get_or lists root []) (λ is other. other (sym own ∙ is)) (has root))

-- the lists of all roots after a number that is under a root
pub member_added : (parents : List ℕ) (x top : ℕ) (lists pushed now : List (List ℕ)) (old new : List ℕ)
    → pushed ≡ lists ++ [] ∷ [] → old ≡ get_or pushed top old → new ≡ with_member old top x → now ≡ set pushed top new
    → IsFlat parents → parent_of parents x ≡ top → top < x → length lists ≡ x
    → ((root : ℕ) → HasMembers parents x root (get_or lists root []))
    → (root : ℕ) → HasMembers parents (x + 1) root (get_or now root [])
member_added parents x top lists pushed now old new more read made written flat is below size has root =
    let longer = length_push lists [] in
    let within : top < length pushed = rw more (omega (arith, longer, size, below)) in
    let before : old ≡ get_or lists top [] = get_or_read pushed top old within read [] ∙ ap (λ all. get_or all top []) more ∙ unpushed lists top in
    elim (cases_eq root top) [
      | inl same ↦ rw (same, written, get_or-set_same pushed top new [] within, made, before)
          (one_more parents x top (get_or lists top []) flat is below (has top))
      | inr other ↦ rw (written, get_or-set_other pushed top root new [] other, more, unpushed lists root)
          (not_more parents x root (get_or lists root []) (λ under apart. other (sym under ∙ is)) (has root))
    ]
