-- Every clocking gives each class just the clock that it gets in a round.
use Rattle.std.proofs.Common.{◌≡◌, ◌∙◌, refl, sym, subst, ℕ, zero, suc, ◌==◌, ◌⊎◌, inl, inr, Bool, true, false, ◌&&◌, if◌then◌else◌, List, [], ◌∷◌, Option, Some, None, option_map, All, Contains}
use Rattle.std.proofs.lemmas.List.Elements.{All-head, All-tail, All-contains}
use Rattle.std.proofs.lemmas.Bool.{eqb-true, ltb-true}
use Rattle.flat_model.specs.declared.clock.Conversion.{Conversion}
use Rattle.flat_model.specs.declared.clock.Conversion.TheVariants.{Sub, Super, Shift, Back, NoClock}
use Rattle.clock_terms.specs.declared.data.Relation.{Relation}
use Rattle.clock_terms.specs.Position.{Progression, IsProper, AreSame}
use Rattle.clock_terms.specs.Asked.{converted, inverse, IsGiven}
use Rattle.clock_terms.specs.Source.{Source}
use Rattle.clock_terms.specs.Clocking.{Said, Held, SourceHolds, RelationHolds, IsClocking}
use Rattle.clock_terms.proofs.Progressions.{same_sym, same_trans, same_ticks, ticks_same}
use Rattle.clock_terms.proofs.Conversions.{asks_converted, converted_asks, converted_same, converted_proper, asks_back, inverse_given}
use Rattle.clock_spread.specs.Rounds.{is_given, first_some, seeded, offer, offered, if_clocked, after_round, Gets, AllGet, AreGotten}

by_test : {P : Type 0} (b : Bool) → (b ≡ true → P) → (b ≡ false → P) → P
by_test true f g = f refl
by_test false f g = g refl

some_same : {A : Type 0} {a b : A} → Some a ≡ Some b → a ≡ b
some_same e = cc

none_some : {A : Type 0} {a : A} → None ≡ Some a → ⊥
none_some e = absurd cc

both_true : (a b : Bool) → (a && b) ≡ true → (a ≡ true) × (b ≡ true)
both_true true b e = (refl, e)
both_true false b e = absurd cc

pub given_is : (by : Conversion) → is_given by ≡ true → IsGiven by
given_is (Sub f) e = ltb-true _ _ e
given_is (Super f) e = ltb-true _ _ e
given_is (Shift k r) e = ltb-true _ _ e
given_is (Back k r) e = ltb-true _ _ e
given_is NoClock e = absurd cc

first_some_is : {A : Type 0} (a b : Option A) (p : A) → first_some a b ≡ Some p → (a ≡ Some p) ⊎ (b ≡ Some p)
first_some_is None b p e = inr e
first_some_is (Some a) b p e = inl e

mapped : {A B : Type 0} (f : A → B) (o : Option A) (p : B) → option_map f o ≡ Some p → (a : A) × (o ≡ Some a) × (f a ≡ p)
mapped f None p e = absurd (none_some e)
mapped f (Some a) p e = (a, refl, some_same e)

if_clocked_is : (b : Bool) (o : Option Progression) (p : Progression) → if_clocked b o ≡ Some p → o ≡ Some p
if_clocked_is true o p e = e
if_clocked_is false o p e = absurd (none_some e)

module _ (said : Said) (held : Held) (h : IsClocking said held) where
  -- the clocking has this clock for the class
  abbrev Fits : ℕ → Progression → Type 0
  Fits c p = IsProper p × (q : Progression) × (held c ≡ Some q) × IsProper q × AreSame q p

  held_proper : (c : ℕ) (q : Progression) → held c ≡ Some q → IsProper q
  held_proper c q e = by_test (said.clocked c)
      (λ t. let r = h.clocked c t in subst IsProper (some_same (sym r.1 ∙ e)) r.2.proper)
      (λ f. absurd (none_some (sym (h.unclocked c f) ∙ e)))

  fits_here : (c d : ℕ) (p : Progression) → d ≡ c → Fits d p → Fits c p
  fits_here c d p e f = subst (λ n. Fits n p) e f

  seeded_fits : (ss : List Source) (c : ℕ) (p : Progression) → All (λ s. IsProper s.clock) ss → All (SourceHolds said held) ss
      → seeded said.class_of ss c ≡ Some p → Fits c p
  seeded_fits [] c p proper holds e = absurd (none_some e)
  seeded_fits (s ∷ ss) c p proper holds e = by_test (said.class_of s.node == c)
      (λ t.
      let this : Some s.clock ≡ Some p = subst (λ b. (if b then Some s.clock else seeded said.class_of ss c) ≡ Some p) t e in
      let (q, at, together) = All-head (SourceHolds said held) s ss holds in
      let good = All-head (λ s. IsProper s.clock) s ss proper in
      let own = held_proper (said.class_of s.node) q at in
      let found : Fits (said.class_of s.node) s.clock = (good, q, at, own, ticks_same q s.clock own good together) in
      subst (λ x. Fits c x) (some_same this) (fits_here c (said.class_of s.node) s.clock (eqb-true (said.class_of s.node) c t) found))
      (λ f.
      let later : seeded said.class_of ss c ≡ Some p = subst (λ b. (if b then Some s.clock else seeded said.class_of ss c) ≡ Some p) f e in
      seeded_fits ss c p (All-tail (λ s. IsProper s.clock) s ss proper) (All-tail (SourceHolds said held) s ss holds) later)

  -- what a relation gives its result from the clock of its argument
  onward : (r : Relation) (a : Progression) → IsGiven r.by → RelationHolds said held r → Fits (said.class_of r.argument) a → Fits (said.class_of r.result) (converted r.by a)
  onward r a given (y, u, at_y, at_u, asks) (proper, v, at_v, good, same) =
      let equal : u ≡ v = some_same (sym at_u ∙ at_v) in
      let same_u : AreSame u a = subst (λ x. AreSame x a) (sym equal) same in
      let proper_y = held_proper (said.class_of r.result) y at_y in
      let proper_u = held_proper (said.class_of r.argument) u at_u in
      let is = asks_converted r.by y u given proper_y proper_u asks in (
        converted_proper r.by a given proper,
        y,
        at_y,
        proper_y,
        same_trans y (converted r.by u) (converted r.by a) (converted_proper r.by u given proper_u) is (converted_same r.by u a same_u),
      )

  -- and its argument from the clock of its result
  backward : (r : Relation) (a : Progression) → IsGiven r.by → RelationHolds said held r → Fits (said.class_of r.result) a → Fits (said.class_of r.argument) (converted (inverse r.by) a)
  backward r a given (y, u, at_y, at_u, asks) (proper, v, at_v, good, same) =
      let equal : y ≡ v = some_same (sym at_y ∙ at_v) in
      let same_y : AreSame y a = subst (λ x. AreSame x a) (sym equal) same in
      let proper_y = held_proper (said.class_of r.result) y at_y in
      let proper_u = held_proper (said.class_of r.argument) u at_u in
      let is = asks_back r.by y u given proper_y proper_u asks in
      let back = inverse_given r.by given in (
        converted_proper (inverse r.by) a back proper,
        u,
        at_u,
        proper_u,
        same_trans u (converted (inverse r.by) y) (converted (inverse r.by) a) (converted_proper (inverse r.by) y back proper_y) is (converted_same (inverse r.by) y a same_y),
      )

  offer_fits : (before : Held) (r : Relation) (c : ℕ) (p : Progression) → ((c : ℕ) (p : Progression) → before c ≡ Some p → Fits c p)
      → RelationHolds said held r → offer said.class_of before r c ≡ Some p → Fits c p
  offer_fits before r c p known holds e =
      let forward = option_map (converted r.by) (before (said.class_of r.argument)) in
      let back = option_map (converted (inverse r.by)) (before (said.class_of r.result)) in
      by_test (is_given r.by && said.class_of r.result == c)
      (λ t.
      let two = both_true (is_given r.by) (said.class_of r.result == c) t in
      let (a, at, is) = mapped (converted r.by) (before (said.class_of r.argument)) p
      (subst (λ b. (if b then forward else if is_given r.by && said.class_of r.argument == c then back else None) ≡ Some p) t e) in
      subst (λ x. Fits c x) is (fits_here c (said.class_of r.result) (converted r.by a) (eqb-true (said.class_of r.result) c two.1)
      (onward r a (given_is r.by two.0) holds (known (said.class_of r.argument) a at))))
      (λ f.
      let rest : (if is_given r.by && said.class_of r.argument == c then back else None) ≡ Some p =
      subst (λ b. (if b then forward else if is_given r.by && said.class_of r.argument == c then back else None) ≡ Some p) f e in
      by_test (is_given r.by && said.class_of r.argument == c)
      (λ t.
      let two = both_true (is_given r.by) (said.class_of r.argument == c) t in
      let (a, at, is) = mapped (converted (inverse r.by)) (before (said.class_of r.result)) p (subst (λ b. (if b then back else None) ≡ Some p) t rest) in
      subst (λ x. Fits c x) is (fits_here c (said.class_of r.argument) (converted (inverse r.by) a) (eqb-true (said.class_of r.argument) c two.1)
      (backward r a (given_is r.by two.0) holds (known (said.class_of r.result) a at))))
      (λ g. absurd (none_some (subst (λ b. (if b then back else None) ≡ Some p) g rest))))

  offered_fits : (before : Held) (rs : List Relation) (c : ℕ) (p : Progression) → ((c : ℕ) (p : Progression) → before c ≡ Some p → Fits c p)
      → All (RelationHolds said held) rs → offered said.class_of before rs c ≡ Some p → Fits c p
  offered_fits before [] c p known holds e = absurd (none_some e)
  offered_fits before (r ∷ rs) c p known holds e =
      elim (first_some_is (offer said.class_of before r c) (offered said.class_of before rs c) p e) [
        | inl this ↦ offer_fits before r c p known (All-head (RelationHolds said held) r rs holds) this
        | inr later ↦ offered_fits before rs c p known (All-tail (RelationHolds said held) r rs holds) later
      ]

  pub round_fits : All (λ s. IsProper s.clock) said.sources → (round c : ℕ) (p : Progression) → after_round said round c ≡ Some p → Fits c p
  round_fits proper zero c p e = seeded_fits said.sources c p proper h.sources (if_clocked_is (said.clocked c) (seeded said.class_of said.sources c) p e)
  round_fits proper (suc round) c p e =
      elim (first_some_is (after_round said round c) (if_clocked (said.clocked c) (offered said.class_of (after_round said round) said.relations c)) p e) [
        | inl old ↦ round_fits proper round c p old
        | inr new ↦ offered_fits (after_round said round) said.relations c p (round_fits proper round) h.relations
            (if_clocked_is (said.clocked c) (offered said.class_of (after_round said round) said.relations c) p new)
      ]

-- law: where every class gets a clock, every clocking gives it that clock
pub clocking_gives : (said : Said) (held : Held) → All (λ s. IsProper s.clock) said.sources → IsClocking said held
    → (c : ℕ) (p : Progression) → Gets said c p → (q : Progression) × (held c ≡ Some q) × AreSame q p
clocking_gives said held proper h c p (round, e) = let f = round_fits said held h proper round c p e in (f.1, f.2, f.4)

-- so there is at most one clocking
pub one_clocking : (said : Said) (held other : Held) → All (λ s. IsProper s.clock) said.sources → AllGet said → IsClocking said held → IsClocking said other
    → (c : ℕ) → said.clocked c ≡ true → (p : Progression) × (q : Progression) × (held c ≡ Some p) × (other c ≡ Some q) × AreSame p q
one_clocking said held other proper all h k c t =
    let (g, gets) = all c t in
    let a = round_fits said held h proper gets.0 c g gets.1 in
    let b = round_fits said other k proper gets.0 c g gets.1 in
    (a.1, b.1, a.2, b.2, same_trans a.1 g b.1 a.0 a.4 (same_sym b.1 g b.4))

-- law of conflicts: a constructor or a given relation that does not hold on the clocks of the rounds holds in no clocking
pub source_conflict : (said : Said) (gotten held : Held) (s : Source) → All (λ s. IsProper s.clock) said.sources → AreGotten said gotten
    → Contains said.sources s → (SourceHolds said gotten s → ⊥) → IsClocking said held → ⊥
source_conflict said gotten held s proper g within fails h =
    let (q, at, together) = All-contains (SourceHolds said held) said.sources s h.sources within in
    let c = said.class_of s.node in
    let good = All-contains (λ s. IsProper s.clock) said.sources s proper within in
    by_test (said.clocked c)
    (λ t.
    let (p, at_p, gets) = g.clocked c t in
    let (proper_p, r, at_r, proper_r, same) = round_fits said held h proper gets.0 c p gets.1 in
    let own : IsProper q = subst IsProper (some_same (sym at_r ∙ at)) proper_r in
    let same_q : AreSame q p = subst (λ x. AreSame x p) (some_same (sym at_r ∙ at)) same in
    let both = same_trans p q s.clock own (same_sym q p same_q) (ticks_same q s.clock own good together) in
    fails (p, at_p, record { site = both.site; ticks = same_ticks p s.clock both }))
    (λ f. absurd (none_some (sym (h.unclocked c f) ∙ at)))

pub relation_conflict : (said : Said) (gotten held : Held) (r : Relation) → All (λ s. IsProper s.clock) said.sources → AreGotten said gotten
    → Contains said.relations r → IsGiven r.by → (RelationHolds said gotten r → ⊥) → IsClocking said held → ⊥
relation_conflict said gotten held r proper g within given fails h =
    let (y, u, at_y, at_u, asks) = All-contains (RelationHolds said held) said.relations r h.relations within in
    let c = said.class_of r.result in
    let d = said.class_of r.argument in
    by_test (said.clocked c)
    (λ t. by_test (said.clocked d)
    (λ w.
    let (p, at_p, gets_p) = g.clocked c t in
    let (v, at_v, gets_v) = g.clocked d w in
    let (proper_p, y2, at_y2, proper_y2, same_p) = round_fits said held h proper gets_p.0 c p gets_p.1 in
    let (proper_v, u2, at_u2, proper_u2, same_v) = round_fits said held h proper gets_v.0 d v gets_v.1 in
    let proper_y : IsProper y = subst IsProper (some_same (sym at_y2 ∙ at_y)) proper_y2 in
    let proper_u : IsProper u = subst IsProper (some_same (sym at_u2 ∙ at_u)) proper_u2 in
    let same_y : AreSame y p = subst (λ x. AreSame x p) (some_same (sym at_y2 ∙ at_y)) same_p in
    let same_u : AreSame u v = subst (λ x. AreSame x v) (some_same (sym at_u2 ∙ at_u)) same_v in
    let is = asks_converted r.by y u given proper_y proper_u asks in
    let onto = same_trans y (converted r.by u) (converted r.by v) (converted_proper r.by u given proper_u) is (converted_same r.by u v same_u) in
    let whole = same_trans p y (converted r.by v) proper_y (same_sym y p same_y) onto in
    fails (p, v, at_p, at_v, converted_asks r.by p v given proper_p proper_v whole))
    (λ f. absurd (none_some (sym (h.unclocked d f) ∙ at_u))))
    (λ f. absurd (none_some (sym (h.unclocked c f) ∙ at_y)))
