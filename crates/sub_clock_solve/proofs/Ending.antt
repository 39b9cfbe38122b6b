-- The answers, from what is kept after all rounds.
use Rattle.std.proofs.Common.{◌≡◌, ◌∙◌, refl, sym, ap, subst, ℕ, zero, suc, ◌+◌, ◌<◌, ◌≤◌, ◌^◌, inl, inr, Bool, true, false, List, [], ◌∷◌, ◌++◌, Option, Some, None, All, length, take, drop, arith}
use Rattle.std.proofs.lemmas.List.{append-nil}
use Rattle.std.proofs.lemmas.List.Elements.{All-tail}
use Rattle.std.proofs.lemmas.List.Sums.{count_by_more_yes}
use Rattle.rational_time.specs.Multiple.{HasMultipleBelow}
use Rattle.clock_terms.specs.declared.data.Terms.{Terms}
use Rattle.clock_terms.specs.declared.data.Classes.{Classes}
use Rattle.clock_terms.specs.declared.data.Grid.{Grid}
use Rattle.clock_terms.specs.Position.{IsProper}
use Rattle.clock_terms.specs.Clocking.{Said, Held}
use Rattle.clock_spread.specs.declared.offers.Found.{Found}
use Rattle.clock_spread.specs.declared.offers.Found.TheVariants.{Not, Kept, Lost}
use Rattle.clock_spread.specs.Found.{IsFineFound, Agrees, NoneLost, found_of}
use Rattle.clock_spread.specs.Queue.{marked}
use Rattle.clock_terms.specs.Least.{IsLeast}
use Rattle.clock_spread.specs.Rounds.{AreGotten}
use Rattle.clock_spread.proofs.Only.{source_conflict, relation_conflict}
use Rattle.sub_clock_solve.specs.Solving.{said_of, place_of, AreGrids, AreSolved, GetsNone, IsTooFineAt, FailsAt, HasNoClocking}
use Rattle.sub_clock_solve.specs.Grain.{denominators, IsGrainPast}
use Rattle.sub_clock_solve.specs.private.Gathering.{kept_of, kept_grids}
use Rattle.sub_clock_solve.specs.private.Spreading.{IsSpread}
use Rattle.sub_clock_solve.proofs.Grains.{fewer_below}
use Rattle.sub_clock_solve.proofs.Gathers.{AllKept, kept_length, kept_take, kept_get, kept_more, den_append}
use Rattle.sub_clock_solve.proofs.Rounding.{final, final_agree, final_gotten, unknown_gets_none, gets_none_unknown, none_too_fine, first_too_fine}

-- ---- denominators of the first clocks
pub take_drop : (n : ℕ) (gs : List Grid) → take n gs ++ drop n gs ≡ gs
take_drop zero gs = refl
take_drop (suc n) [] = refl
take_drop (suc n) (g ∷ gs) = ap (λ l. g ∷ l) (take_drop n gs)

take_take : (m k : ℕ) (gs : List Grid) → m ≤ k → take m (take k gs) ≡ take m gs
take_take zero k gs le = refl
take_take (suc m) zero gs le = absurd (omega (arith, le))
take_take (suc m) (suc k) [] le = refl
take_take (suc m) (suc k) (g ∷ gs) le = ap (λ l. g ∷ l) (take_take m k gs (omega (arith, le)))

-- the first clocks have a common multiple below the limit where more have one
first_below : (m k : ℕ) (gs : List Grid) → m ≤ k → HasMultipleBelow (2 ^ 40) (denominators (take k gs)) → HasMultipleBelow (2 ^ 40) (denominators (take m gs))
first_below m k gs le h =
    let parts : denominators (take k gs) ≡ denominators (take m gs) ++ denominators (drop m (take k gs)) =
    ap denominators (sym (take_drop m (take k gs))) ∙ den_append (take m (take k gs)) (drop m (take k gs)) ∙ ap (λ l. denominators l ++ denominators (drop m (take k gs))) (take_take m k gs le) in
    fewer_below (2 ^ 40) (denominators (take m gs)) (denominators (drop m (take k gs))) (subst (λ l. HasMultipleBelow (2 ^ 40) l) parts h)

fine_at : (fs : List Found) → All IsFineFound fs → (c : ℕ) → IsFineFound (found_of fs c)
fine_at [] h c = tt
fine_at (f ∷ fs) h zero = h 0 f (omega arith)
fine_at (f ∷ fs) h (suc c) = fine_at fs (All-tail IsFineFound f fs h) c

kept_or : (f : Found) → (f ≡ Not → ⊥) → (f ≡ Lost → ⊥) → (g : Grid) × (f ≡ Kept g)
kept_or Not n l = absurd (n refl)
kept_or (Kept g) n l = (g, refl)
kept_or Lost n l = absurd (l refl)

pub unknown_answer : (terms : Terms) (classes : Classes) (found : List Found) (lost : Option ℕ) → IsSpread terms classes found lost → (c : ℕ)
    → IsLeast (λ c. (marked classes.clocked c ≡ true) × (found_of found c ≡ Not)) c → IsLeast (GetsNone (said_of terms classes)) c
unknown_answer terms classes found lost s c h =
    (unknown_gets_none terms classes found lost s c h.0, λ m lt none. h.1 m lt (gets_none_unknown terms classes found lost s m none))

pub known_all : (clocked : List Bool) (found : List Found) → ((n : ℕ) → (marked clocked n ≡ true) × (found_of found n ≡ Not) → ⊥) → (c : ℕ) → marked clocked c ≡ true → found_of found c ≡ Not → ⊥
known_all clocked found h c t e = h c (t, e)

pub lost_answer : (terms : Terms) (classes : Classes) (found : List Found) (c : ℕ) → IsSpread terms classes found (Some c)
    → ((c : ℕ) → marked classes.clocked c ≡ true → found_of found c ≡ Not → ⊥) → IsTooFineAt terms classes c
lost_answer terms classes found c s known =
    inl (final terms classes found (Some c) s, final_gotten terms classes found (Some c) s known, first_too_fine terms classes found (Some c) s c s.settles.first)

module _ (terms : Terms) (classes : Classes) (found : List Found) (s : IsSpread terms classes found None)
    (known : (c : ℕ) → marked classes.clocked c ≡ true → found_of found c ≡ Not → ⊥) where
  abbrev pub grids : List Grid
  grids = kept_grids found classes.clocked

  abbrev pub ends : Held
  ends = final terms classes found None s

  pub none_lost : NoneLost found
  none_lost = s.settles.kept refl

  all_kept : AllKept found classes.clocked
  all_kept c t = kept_or (found_of found c) (known c t) (none_lost c)

  are_grids : AreGrids classes ends grids
  are_grids = record {
    same_length = kept_length found classes.clocked s.same_length all_kept;
    each = λ c t.
        let (g, is) = all_kept c t in
        let (p, at, same) = subst (λ f. Agrees f (ends c)) is (final_agree terms classes found None s c) in
        (p, g, at, kept_get found classes.clocked c g s.same_length all_kept t is, (subst IsFineFound is (fine_at found s.fine c), same));
  }

  pub solved : AreSolved terms classes ends grids
  solved = record {
    gotten = final_gotten terms classes found None s known;
    none_too_fine = none_too_fine terms classes found None s s.settles.first;
    are_grids = are_grids;
  }

  take_place : (c : ℕ) → kept_grids (take c found) (take c classes.clocked) ≡ take (place_of classes c) grids
  take_place c = kept_take found classes.clocked c s.same_length all_kept

  pub past_at : (c : ℕ) → c < length classes.clocked → HasMultipleBelow (2 ^ 40) (denominators (kept_grids (take c found) (take c classes.clocked)))
      → (HasMultipleBelow (2 ^ 40) (denominators (kept_grids (take (c + 1) found) (take (c + 1) classes.clocked))) → ⊥) → IsTooFineAt terms classes c
  past_at c within before past = inr (ends, grids, solved, (is_clocked, (at_place, earlier)))
    where
      inside : c < length found
      inside = let e = s.same_length in omega (arith, e, within)

      more : (b : Bool) → marked classes.clocked c ≡ b → b ≡ true
      more true e = refl
      more false e = absurd (past (subst (λ l. HasMultipleBelow (2 ^ 40) (denominators l))
          (sym (kept_more found classes.clocked c Not false inside within ∙ ap (λ b. kept_grids (take c found) (take c classes.clocked) ++ kept_of b (found_of found c)) e ∙ nothing (found_of found c))) before))
        where
          nothing : (f : Found) → kept_grids (take c found) (take c classes.clocked) ++ kept_of false f ≡ kept_grids (take c found) (take c classes.clocked)
          nothing Not = append-nil (kept_grids (take c found) (take c classes.clocked))
          nothing (Kept g) = append-nil (kept_grids (take c found) (take c classes.clocked))
          nothing Lost = append-nil (kept_grids (take c found) (take c classes.clocked))

      is_clocked : marked classes.clocked c ≡ true
      is_clocked = more (marked classes.clocked c) refl

      next : place_of classes (c + 1) ≡ place_of classes c + 1
      next = count_by_more_yes (λ b. b) classes.clocked c false within is_clocked

      at_place : IsGrainPast grids (place_of classes c)
      at_place h = past (subst (λ l. HasMultipleBelow (2 ^ 40) (denominators l)) (sym (take_place (c + 1) ∙ ap (λ n. take n grids) next)) h)

      earlier : (m : ℕ) → m < place_of classes c → IsGrainPast grids m → ⊥
      earlier m lt h = h (first_below (m + 1) (place_of classes c) grids (omega (arith, lt)) (subst (λ l. HasMultipleBelow (2 ^ 40) (denominators l)) (take_place c) before))

-- ---- conflicts
pub conflict_none : (said : Said) (held : Held) (e : ℕ) → All (λ source. IsProper source.clock) said.sources → AreGotten said held → FailsAt said held e → HasNoClocking said
conflict_none said held e proper g (inl (source, within, is, fails)) = λ other h. source_conflict said held other source proper g within fails h
conflict_none said held e proper g (inr (relation, within, is, (given, fails))) = λ other h. relation_conflict said held other relation proper g within given fails h
