-- What is kept after all rounds, and the clocks of the rounds.
use Rattle.std.proofs.Common.{◌≡◌, ◌∙◌, refl, sym, ap, subst, ℕ, zero, suc, ◌+◌, ◌-◌, ◌<◌, ◌≤◌, ◌⊎◌, inl, inr, ⊎_elim, Bool, true, false, ◌==◌, if◌then◌else◌, List, [], ◌∷◌, Option, Some, None, arith, All}
use Rattle.std.proofs.lemmas.List.Elements.{All-head, All-tail}
use Rattle.clock_terms.specs.declared.data.Terms.{Terms}
use Rattle.clock_terms.specs.declared.data.Classes.{Classes}
use Rattle.clock_terms.specs.Position.{Progression, IsProper}
use Rattle.clock_terms.specs.Source.{Source, sources_of}
use Rattle.clock_terms.specs.Clocking.{Said, Held}
use Rattle.clock_spread.specs.declared.offers.Found.{Found}
use Rattle.clock_spread.specs.declared.offers.Found.TheVariants.{Not, Kept, Lost}
use Rattle.clock_spread.specs.Found.{Agrees, Agree, class_in, found_of}
use Rattle.clock_spread.specs.Queue.{marked}
use Rattle.clock_spread.specs.Rounds.{first_some, if_clocked, seeded, offered, after_round, Gets, AreGotten}
use Rattle.clock_spread.specs.Turn.{said_by, following, after_more, AreProper, NewlyTooFine, IsFirstLost}
use Rattle.clock_spread.proofs.Losing.{more_proper}
use Rattle.clock_spread.proofs.Spreading.{settled, stays}
use Rattle.sub_clock_solve.specs.Solving.{said_of, GetsNone, TakesTooFine, IsAnyTooFine, IsFirstTooFine, NoneTooFine}
use Rattle.sub_clock_solve.specs.private.Seeding.{start_of}
use Rattle.sub_clock_solve.specs.private.Spreading.{IsSpread}

some_same : {A : Type 0} {a b : A} → Some a ≡ Some b → a ≡ b
some_same e = cc

none_some : {A : Type 0} {a : A} → None ≡ Some a → ⊥
none_some e = absurd cc

true_false : {b : Bool} → b ≡ true → b ≡ false → ⊥
true_false e f = absurd cc

-- ---- the clocks of round 0 are proper
seeded_proper : (class_of : ℕ → ℕ) (ss : List Source) (c : ℕ) (p : Progression) → All (λ s. IsProper s.clock) ss → seeded class_of ss c ≡ Some p → IsProper p
seeded_proper class_of [] c p proper e = absurd (none_some e)
seeded_proper class_of (s ∷ ss) c p proper e = by (λ later. seeded_proper class_of ss c p (All-tail (λ s. IsProper s.clock) s ss proper) later) (class_of s.node == c) e
  where
    by : (seeded class_of ss c ≡ Some p → IsProper p) → (b : Bool) → (if b then Some s.clock else seeded class_of ss c) ≡ Some p → IsProper p
    by again true e = subst IsProper (some_same e) (All-head (λ s. IsProper s.clock) s ss proper)
    by again false e = again e

if_clocked_is : (b : Bool) (o : Option Progression) (p : Progression) → if_clocked b o ≡ Some p → (b ≡ true) × (o ≡ Some p)
if_clocked_is true o p e = (refl, e)
if_clocked_is false o p e = absurd (none_some e)

pub start_proper : (class_of : List ℕ) (clocked : List Bool) (sources : List Source) → All (λ s. IsProper s.clock) sources
    → AreProper (start_of class_of clocked sources)
start_proper class_of clocked sources proper c p e = seeded_proper (class_in class_of) sources c p proper (if_clocked_is (marked clocked c) (seeded (class_in class_of) sources c) p e).1

module _ (terms : Terms) (classes : Classes) (found : List Found) (lost : Option ℕ) (s : IsSpread terms classes found lost) where
  abbrev said : Said
  said = said_of terms classes

  abbrev plain : Said
  plain = said_by classes.class_of classes.clocked terms.relations

  abbrev start : Held
  start = start_of classes.class_of classes.clocked (sources_of terms.constructors)

  abbrev rounds : ℕ
  rounds = s.settles.rounds

  -- the clocks after some more rounds are those after that round
  pub more_round : (n : ℕ) → after_more plain start n ≡ after_round said n
  more_round zero = refl
  more_round (suc n) = ap (λ held. following plain held) (more_round n)

  -- the clocks at the end
  abbrev pub final : Held
  final = after_round said rounds

  pub final_is : after_more plain start rounds ≡ final
  final_is = more_round rounds

  pub final_agree : Agree found final
  final_agree = subst (λ held. Agree found held) final_is s.settles.agree

  pub final_proper : AreProper final
  final_proper = subst (λ held. AreProper held) final_is (more_proper plain start (start_proper classes.class_of classes.clocked (sources_of terms.constructors) s.proper) rounds)

  still : (c : ℕ) → after_round said (suc rounds) c ≡ final c
  still c = subst (λ held. following plain held c ≡ held c) final_is (s.settles.still c)

  -- what a class gets it has at the end
  pub gets_final : (c : ℕ) (p : Progression) → Gets said c p → final c ≡ Some p
  gets_final c p (m, e) =
      sym (settled said rounds still m c) ∙ ap (λ n. after_round said n c) (let g : m + rounds ≡ rounds + m = omega arith in g) ∙ stays said m c p e rounds

  unclocked_none : (n c : ℕ) → said.clocked c ≡ false → after_round said n c ≡ None
  unclocked_none zero c f = unclocked (said.clocked c) (seeded said.class_of said.sources c) f
    where
      unclocked : (b : Bool) (o : Option Progression) → b ≡ false → if_clocked b o ≡ None
      unclocked true o e = absurd cc
      unclocked false o e = refl
  unclocked_none (suc n) c f = both (after_round said n c) (said.clocked c) (offered said.class_of (after_round said n) said.relations c) (unclocked_none n c f) f
    where
      both : (a : Option Progression) (b : Bool) (o : Option Progression) → a ≡ None → b ≡ false → first_some a (if_clocked b o) ≡ None
      both None false o e f = refl
      both None true o e f = absurd cc
      both (Some a) b o e f = absurd (none_some (sym e))

  -- ---- classes without a clock
  not_none : (c : ℕ) → found_of found c ≡ Not → final c ≡ None
  not_none c e = subst (λ f. Agrees f (final c)) e (final_agree c)

  pub unknown_gets_none : (c : ℕ) → (marked classes.clocked c ≡ true) × (found_of found c ≡ Not) → GetsNone said c
  unknown_gets_none c (t, e) = (t, λ clock gets. none_some (sym (not_none c e) ∙ gets_final c clock gets))

  kept_some : (c : ℕ) → (found_of found c ≡ Not → ⊥) → (p : Progression) × (final c ≡ Some p)
  kept_some c some = has (found_of found c) (final_agree c) some
    where
      has : (f : Found) → Agrees f (final c) → (f ≡ Not → ⊥) → (p : Progression) × (final c ≡ Some p)
      has Not h n = absurd (n refl)
      has (Kept g) h n = (h.0, h.1)
      has Lost h n = h

  not_or : (f : Found) → (f ≡ Not) ⊎ (f ≡ Not → ⊥)
  not_or Not = inl refl
  not_or (Kept g) = inr (λ e. absurd cc)
  not_or Lost = inr (λ e. absurd cc)

  pub gets_none_unknown : (c : ℕ) → GetsNone said c → (marked classes.clocked c ≡ true) × (found_of found c ≡ Not)
  gets_none_unknown c (t, none) = (t, ⊎_elim (λ e. e) (λ some. let h = kept_some c some in absurd (none h.0 (rounds, h.1))) (not_or (found_of found c)))

  pub final_gotten : ((c : ℕ) → marked classes.clocked c ≡ true → found_of found c ≡ Not → ⊥) → AreGotten said final
  final_gotten known = record {
    clocked = λ c t. let h = kept_some c (known c t) in (h.0, h.1, (rounds, h.1));
    unclocked = λ c f. unclocked_none rounds c f;
  }

  -- ---- clocks that are too fine
  round_proper : (n : ℕ) → AreProper (after_round said n)
  round_proper n = subst (λ held. AreProper held) (more_round n) (more_proper plain start (start_proper classes.class_of classes.clocked (sources_of terms.constructors) s.proper) n)

  newly_takes : (n c : ℕ) → NewlyTooFine plain (after_more plain start n) c → TakesTooFine said (suc n) c
  newly_takes n c h = subst (λ held. NewlyTooFine plain held c) (more_round n) h

  takes_newly : (n c : ℕ) → TakesTooFine said (suc n) c → NewlyTooFine plain (after_more plain start n) c
  takes_newly n c h = subst (λ held. NewlyTooFine plain held c) (sym (more_round n)) h

  -- a round after the last takes nothing
  later_none : (k c : ℕ) (p : Progression) → after_round said (k + rounds) c ≡ None → after_round said (suc (k + rounds)) c ≡ Some p → ⊥
  later_none k c p none new = none_some (sym none ∙ settled said rounds still k c ∙ sym (settled said rounds still (suc k) c) ∙ ap (λ n. after_round said n c) (let g : suc k + rounds ≡ suc (k + rounds) = omega arith in g) ∙ new)

  none_at_start : (c : ℕ) → TakesTooFine said 0 c → ⊥
  none_at_start c (p, is, over) = s.fine_start c p is over

  pub none_too_fine : IsFirstLost plain start rounds None → NoneTooFine said
  none_too_fine h zero c takes = none_at_start c takes
  none_too_fine h (suc n) c takes = ⊎_elim
      (λ lt. h n lt c (takes_newly n c takes))
      (λ le. let (p, (none, new), over) = takes in
      let e : n ≡ (n - rounds) + rounds = omega (arith, le) in
      later_none (n - rounds) c p (subst (λ m. after_round said m c ≡ None) e none) (subst (λ m. after_round said (suc m) c ≡ Some p) e new))
      (less_or n rounds)
    where
      less_or : (n m : ℕ) → (n < m) ⊎ (m ≤ n)
      less_or n m = grind arith

  pub first_too_fine : (c : ℕ) → IsFirstLost plain start rounds (Some c) → IsFirstTooFine said c
  first_too_fine c (m, within, before, least) = (
    suc m,
    ((c, newly_takes m c least.0), λ n lt. earlier n lt),
    (newly_takes m c least.0, λ d lt takes. least.1 d lt (takes_newly m d takes)),
  )
    where
      earlier : (n : ℕ) → n < suc m → IsAnyTooFine said n → ⊥
      earlier zero lt (d, takes) = none_at_start d takes
      earlier (suc n) lt (d, takes) = before n (omega (arith, lt)) d (takes_newly n d takes)
