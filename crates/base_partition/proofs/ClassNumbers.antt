-- The firsts of joined numbers are such as number classes.
use Rattle.std.proofs.Common.{◌≡◌, refl, sym, ◌∙◌, ℕ, zero, suc, ◌+◌, ◌<◌, ◌≤◌, ◌⊎◌, inl, inr, ⊎_elim, Bool, true, false, List, [], ◌∷◌, length, slice_index_or, get_or, arith}
use Rattle.std.proofs.lemmas.List.{get_or_default}
use Rattle.std.proofs.lemmas.List.Elements.{Contains-get_or}
use Rattle.mo_connect.specs.declared.Pair.{Pair}
use Rattle.mo_connect.specs.Chain.{AreJoined, IsPair, stay}
use Rattle.mo_connect.proofs.Chains.{follow}
use Rattle.base_partition.specs.private.First.{IsFirst}
use Rattle.base_partition.specs.private.Numbered.{is_member, first_of, HasFirsts, AreNumbers, AreClassNumbers, AreTogether}

pub past : {X : Type 0} (xs : List X) (d : X) (i : ℕ) → length xs ≤ i → slice_index_or xs i d ≡ d
past [] d zero h = refl
past [] d (suc i) h = refl
past (x ∷ xs) d zero h = absurd (omega (arith, h))
past (x ∷ xs) d (suc i) h = past xs d i (omega (arith, h))

pub inside_or_past : (a n : ℕ) → (a < n) ⊎ (n ≤ a)
inside_or_past a zero = inr (omega arith)
inside_or_past zero (suc n) = inl (omega arith)
inside_or_past (suc a) (suc n) = ⊎_elim (λ lt. inl (omega (arith, lt))) (λ le. inr (omega (arith, le))) (inside_or_past a n)

-- a flag that is set stands in the list
pub set_inside : (flags : List Bool) (a : ℕ) → slice_index_or flags a false ≡ true → a < length flags
set_inside flags a m = ⊎_elim (λ lt. lt) (λ le. absurd (let e : true ≡ false = sym m ∙ past flags false a le in cc e)) (inside_or_past a (length flags))

module _ (pairs : List Pair) (first : List ℕ) (members : List Bool) (size : length members ≡ length first) (firsts : (x : ℕ) → x < length first → IsFirst pairs x (first_of first x)) where
  first_below : (a : ℕ) → first_of first a ≤ a
  first_below a = ⊎_elim (λ lt. (firsts a lt).least a (stay a)) (λ le. let e = past first 0 a le in omega (arith, e)) (inside_or_past a (length first))

  member_inside : (a : ℕ) → is_member members a ≡ true → a < length first
  member_inside a m = let lt = set_inside members a m in omega (arith, lt, size)

  own_first : (a : ℕ) → a < length first → first_of first (first_of first a) ≡ first_of first a
  own_first a lt =
      let low = first_below a in
      let f = firsts (first_of first a) (omega (arith, low, lt)) in
      let down = first_below (first_of first a) in
      let up = (firsts a lt).least (first_of first (first_of first a)) (follow (IsPair pairs) (first_of first (first_of first a)) (first_of first a) a f.joined (firsts a lt).joined) in
      omega (arith, down, up)

  -- where joined numbers are members together, the firsts number them
  pub firsts_fit : AreTogether pairs members → HasFirsts first members
  firsts_fit together = record {
    below = first_below;
    member = λ a m. together (first_of first a) a (firsts a (member_inside a m)).joined ∙ m;
    own = λ a m. own_first a (member_inside a m);
  }

  module _ (listed places : List ℕ) (h : AreNumbers first members (length first) listed places) where
    -- first numbers of different places are not joined
    apart : (k l d : ℕ) → k < l → l < length listed → AreJoined pairs (slice_index_or listed k d) (slice_index_or listed l d) → ⊥
    apart k l d lt within j =
        let a = slice_index_or listed k d in
        let b = slice_index_or listed l d in
        let ea : a ≡ slice_index_or listed k 0 = get_or_default listed k d 0 (omega (arith, lt, within)) in
        let eb : b ≡ slice_index_or listed l 0 = get_or_default listed l d 0 within in
        let rises = h.rising k l lt within in
        let own = h.own b (Contains-get_or listed l d within) in
        let e : first_of first b ≡ b = own.2 in
        let least = (firsts b own.0).least a j in
        omega (arith, rises, e, least, ea, eb)

    pub class_numbers : AreClassNumbers pairs members listed places
    class_numbers = record {
      count = h.count ∙ sym size;
      numbered = record {
        rising = λ k within. h.rising k (k + 1) (omega arith) within;
        members = λ k d within. (h.own (get_or listed k d) (Contains-get_or listed k d within)).1;
        found = λ a m. (first_of first a, h.found a (member_inside a m) m, (firsts a (member_inside a m)).joined, first_below a);
        apart = apart;
      };
      others = λ a out. ⊎_elim (λ lt. h.others a lt out) (λ le. past places 0 a (let n = h.count in omega (arith, n, le))) (inside_or_past a (length first));
    }
