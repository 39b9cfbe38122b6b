-- Clocks with a part that reaches the limit.
use Rattle.std.proofs.Common.{◌≡◌, ◌≢◌, ◌∙◌, refl, sym, subst, ℕ, zero, suc, ◌+◌, ◌<◌, ◌^◌, ◌⊎◌, inl, inr, ⊎_elim, Bool, true, false, ◌&&◌, ◌==◌, if◌then◌else◌, List, [], ◌∷◌, Option, Some, None, option_map, length, get_or, drop, arith, All}
use Rattle.std.proofs.lemmas.List.{drop_more}
use Rattle.flat_model.specs.declared.clock.Conversion.{Conversion}
use Rattle.clock_terms.specs.declared.data.Grid.{Grid}
use Rattle.clock_terms.specs.declared.data.Relation.{Relation}
use Rattle.clock_terms.specs.Position.{Progression, AreSame, progression_of_grid, IsTooFine, IsProper}
use Rattle.clock_terms.specs.Asked.{converted, inverse, IsGiven}
use Rattle.clock_terms.specs.Clocking.{Said, Held}
use Rattle.clock_terms.proofs.Conversions.{converted_same, converted_proper, inverse_given}
use Rattle.clock_spread.specs.declared.offers.Found.{Found}
use Rattle.clock_spread.specs.declared.offers.Found.TheVariants.{Not, Kept, Lost}
use Rattle.clock_spread.specs.Rounds.{is_given, first_some, seeded, offer, offered, if_clocked, after_round}
use Rattle.clock_terms.specs.Source.{Source}
use Rattle.std.proofs.lemmas.List.Elements.{All-head, All-tail}
use Rattle.clock_spread.specs.Found.{Agrees, IsExact, IsFineFound, NoneLost, found_of}
use Rattle.clock_spread.specs.Least.{IsLeastOf, IsNumberIn}
use Rattle.clock_spread.specs.Turn.{AreProper, following, after_more, NewlyTooFine, AreLost, IsNextLost, IsFirstLost}
use Rattle.clock_spread.proofs.Limits.{grid_proper, fine_not_too_fine}
use Rattle.clock_spread.proofs.Sizes.{too_fine_same}
use Rattle.clock_spread.proofs.Only.{given_is}

some_same : {A : Type 0} {a b : A} → Some a ≡ Some b → a ≡ b
some_same e = cc

none_some : {A : Type 0} {a : A} → None ≡ Some a → ⊥
none_some e = absurd cc

mapped_is : {A B : Type 0} (f : A → B) (o : Option A) (a : A) → o ≡ Some a → option_map f o ≡ Some (f a)
mapped_is f None a e = absurd (none_some e)
mapped_is f (Some b) a e = cc

-- a kept clock whose conversion is too fine stands for one whose conversion is
pub lost_exact : (by : Conversion) (g : Grid) (o : Option Progression) → IsGiven by → Agrees (Kept g) o → IsTooFine (2 ^ 40) (converted by (progression_of_grid g))
    → (x : Progression) × (option_map (converted by) o ≡ Some x) × IsTooFine (2 ^ 40) x
lost_exact by g o given (p, e, same) over = (
  converted by p,
  mapped_is (converted by) o p e,
  too_fine_same (2 ^ 40) (converted by (progression_of_grid g)) (converted by p) (converted_proper by (progression_of_grid g) given (grid_proper g)) (converted_same by (progression_of_grid g) p same) over,
)

-- the first offer that is there
exact_first : (found : Found) (a b : Option Progression) → IsExact found a → IsExact found (first_some a b)
exact_first Not a b h = tt
exact_first (Kept g) a b h = tt
exact_first Lost None b h = absurd (none_some h.1)
exact_first Lost (Some p) b h = h

pub exact_here : (found : Found) (class_of : ℕ → ℕ) (held : Held) (rs : List Relation) (i c : ℕ) (d : Relation) → i < length rs → IsExact found (offer class_of held (get_or rs i d) c)
    → IsExact found (offered class_of held (drop i rs) c)
exact_here found class_of held rs i c d within h =
    rw (drop_more rs i d within) (exact_first found (offer class_of held (get_or rs i d) c) (offered class_of held (drop (i + 1) rs) c) h)

-- ---- clocks stay proper

proper_first : (a b : Option Progression) (p : Progression) → first_some a b ≡ Some p → (a ≡ Some p) ⊎ (b ≡ Some p)
proper_first None b p e = inr e
proper_first (Some a) b p e = inl e

mapped_from : {A B : Type 0} (f : A → B) (o : Option A) (p : B) → option_map f o ≡ Some p → (a : A) × (o ≡ Some a) × (f a ≡ p)
mapped_from f None p e = absurd (none_some e)
mapped_from f (Some a) p e = (a, refl, some_same e)

both_true : (a b : Bool) → (a && b) ≡ true → a ≡ true
both_true true b e = refl
both_true false b e = absurd cc

if_clocked_is : (b : Bool) (o : Option Progression) (p : Progression) → if_clocked b o ≡ Some p → o ≡ Some p
if_clocked_is true o p e = e
if_clocked_is false o p e = absurd (none_some e)

-- what each given conversion keeps holds of the clocks of all rounds, where it holds of those that are there at first
module _ (P : Progression → Type 0) (keeps : (by : Conversion) (u : Progression) → IsGiven by → P u → P (converted by u)) where
  abbrev pub Keep : Held → Type 0
  Keep held = (c : ℕ) (p : Progression) → held c ≡ Some p → P p

  offer_keeps : (class_of : ℕ → ℕ) (held : Held) (r : Relation) (c : ℕ) (p : Progression) → Keep held → offer class_of held r c ≡ Some p → P p
  offer_keeps class_of held r c p all e = by (is_given r.by) (class_of r.result == c) (class_of r.argument == c) refl e
    where
      moved : (by : Conversion) (x : ℕ) → IsGiven by → option_map (converted by) (held x) ≡ Some p → P p
      moved by x given e = let (a, at, is) = mapped_from (converted by) (held x) p e in subst P is (keeps by a given (all x a at))

      by : (g a b : Bool) → is_given r.by ≡ g
          → (if g && a then option_map (converted r.by) (held (class_of r.argument)) else if g && b then option_map (converted (inverse r.by)) (held (class_of r.result)) else None) ≡ Some p → P p
      by true true b g e = moved r.by (class_of r.argument) (given_is r.by g) e
      by true false true g e = moved (inverse r.by) (class_of r.result) (inverse_given r.by (given_is r.by g)) e
      by true false false g e = absurd (none_some e)
      by false a b g e = absurd (none_some e)

  offered_keeps : (class_of : ℕ → ℕ) (held : Held) (rs : List Relation) (c : ℕ) (p : Progression) → Keep held → offered class_of held rs c ≡ Some p → P p
  offered_keeps class_of held [] c p all e = absurd (none_some e)
  offered_keeps class_of held (r ∷ rs) c p all e = ⊎_elim
      (λ this. offer_keeps class_of held r c p all this)
      (λ later. offered_keeps class_of held rs c p all later)
      (proper_first (offer class_of held r c) (offered class_of held rs c) p e)

  pub following_keeps : (said : Said) (held : Held) → Keep held → Keep (following said held)
  following_keeps said held all c p e = ⊎_elim
      (λ old. all c p old)
      (λ new. offered_keeps said.class_of held said.relations c p all (if_clocked_is (said.clocked c) (offered said.class_of held said.relations c) p new))
      (proper_first (held c) (if_clocked (said.clocked c) (offered said.class_of held said.relations c)) p e)

  seeded_keeps : (class_of : ℕ → ℕ) (ss : List Source) (c : ℕ) (p : Progression) → All (λ s. P s.clock) ss → seeded class_of ss c ≡ Some p → P p
  seeded_keeps class_of [] c p all e = absurd (none_some e)
  seeded_keeps class_of (s ∷ ss) c p all e = by (λ later. seeded_keeps class_of ss c p (All-tail (λ s. P s.clock) s ss all) later) (class_of s.node == c) e
    where
      by : (seeded class_of ss c ≡ Some p → P p) → (b : Bool) → (if b then Some s.clock else seeded class_of ss c) ≡ Some p → P p
      by again true e = subst P (some_same e) (All-head (λ s. P s.clock) s ss all)
      by again false e = again e

  pub round_keeps : (said : Said) → All (λ s. P s.clock) said.sources → (round : ℕ) → Keep (after_round said round)
  round_keeps said all zero c p e = seeded_keeps said.class_of said.sources c p all (if_clocked_is (said.clocked c) (seeded said.class_of said.sources c) p e)
  round_keeps said all (suc round) c p e = following_keeps said (after_round said round) (round_keeps said all round) c p e

pub following_proper : (said : Said) (held : Held) → AreProper held → AreProper (following said held)
following_proper said held proper = following_keeps IsProper (λ by u given p. converted_proper by u given p) said held proper

pub more_proper : (said : Said) (held : Held) → AreProper held → (n : ℕ) → AreProper (after_more said held n)
more_proper said held proper zero = proper
more_proper said held proper (suc n) = following_proper said (after_more said held n) (more_proper said held proper n)

-- ---- what is not lost is not too fine
pub kept_fine : (found : Found) (o : Option Progression) (p : Progression) → IsFineFound found → Agrees found o → o ≡ Some p → IsProper p → IsTooFine (2 ^ 40) p → found ≡ Lost
kept_fine Not o p fine h e proper over = absurd (none_some (sym h ∙ e))
kept_fine (Kept g) o p fine (q, is, same) e proper over =
    let equal : q ≡ p = some_same (sym is ∙ e) in
    absurd (fine_not_too_fine g p proper (subst (λ x. AreSame (progression_of_grid g) x) equal same) fine over)
kept_fine Lost o p fine h e proper over = refl

pub exact_lost : (found : Found) (o : Option Progression) → found ≡ Lost → IsExact found o → (p : Progression) × (o ≡ Some p) × IsTooFine (2 ^ 40) p
exact_lost Not o e h = absurd cc
exact_lost (Kept g) o e h = absurd cc
exact_lost Lost o e h = h

-- ---- the first that is lost, round by round

nothing_lost : (found : List Found) (next : List ℕ) (said : Said) (held : Held) → AreLost said held found next → IsLeastOf (IsNumberIn (λ c. c) (λ c. found_of found c ≡ Lost) next) None → (c : ℕ) → found_of found c ≢ Lost
nothing_lost found next said held lost none c e = none c (c, lost.listed c e, refl, e)

pub first_more : (said : Said) (held : Held) (n : ℕ) (before lost : Option ℕ) (found : List Found) (next : List ℕ)
    → IsFirstLost said held n before → (before ≡ None → AreLost said (after_more said held n) found next) → IsNextLost before found next lost → IsFirstLost said held (suc n) lost
first_more said held n (Some c) lost found next h are next_lost = subst (λ o. IsFirstLost said held (suc n) o) (sym next_lost) (h.0, omega (arith, h.1), h.2, h.3)
first_more said held n None None found next h are next_lost = λ m lt c new. ⊎_elim
    (λ less. h m less c new)
    (λ is. next_lost c (c, (are refl).listed c ((are refl).lost c (at m is c new)), refl, (are refl).lost c (at m is c new)))
    (less_or m lt)
  where
    less_or : (m : ℕ) → m < suc n → (m < n) ⊎ (m ≡ n)
    less_or m lt = grind arith

    at : (m : ℕ) → m ≡ n → (c : ℕ) → NewlyTooFine said (after_more said held m) c → NewlyTooFine said (after_more said held n) c
    at m e c new = subst (λ k. NewlyTooFine said (after_more said held k) c) e new
first_more said held n None (Some c) found next h are next_lost =
    let (x, within, is, e) = next_lost.0 in (
      n,
      omega arith,
      h,
      (
        (are refl).too_fine c (subst (λ y. found_of found y ≡ Lost) is e),
        λ m lt new. next_lost.1 m lt (m, (are refl).listed m ((are refl).lost m new), refl, (are refl).lost m new),
      ),
    )

pub none_more : (said : Said) (held : Held) (n : ℕ) (before lost : Option ℕ) (found : List Found) (next : List ℕ)
    → (before ≡ None → AreLost said (after_more said held n) found next) → IsNextLost before found next lost → lost ≡ None → NoneLost found
none_more said held n (Some c) lost found next are next_lost e = absurd (none_some (sym e ∙ next_lost))
none_more said held n None lost found next are next_lost e = nothing_lost found next said (after_more said held n) (are refl) (subst (λ o. IsLeastOf (IsNumberIn (λ c. c) (λ c. found_of found c ≡ Lost) next) o) e next_lost)
