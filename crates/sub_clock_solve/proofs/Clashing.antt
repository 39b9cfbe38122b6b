-- Kept clocks and what does not hold of them.
use Rattle.std.proofs.Common.{◌≡◌, ◌∙◌, refl, sym, ap, subst, ℕ, ◌↔◌, Bool, true, false, not, List, [], Option, Some, None}
use Rattle.clock_terms.specs.declared.data.Grid.{Grid}
use Rattle.clock_terms.specs.declared.data.Relation.{Relation}
use Rattle.flat_model.specs.declared.clock.Conversion.{Conversion}
use Rattle.clock_terms.specs.Position.{Progression, AreSame, progression_of_grid, IsProper}
use Rattle.clock_terms.specs.Asked.{Asks, converted, IsGiven}
use Rattle.clock_terms.specs.Source.{Source}
use Rattle.clock_terms.specs.Clocking.{Held, RelationHolds}
use Rattle.clock_terms.proofs.Progressions.{same_sym, same_trans, same_ticks, ticks_same}
use Rattle.clock_terms.proofs.Conversions.{asks_converted, converted_asks, converted_same, converted_proper}
use Rattle.clock_spread.specs.declared.offers.Found.{Found}
use Rattle.clock_spread.specs.declared.offers.Found.TheVariants.{Not, Kept, Lost}
use Rattle.clock_spread.specs.Found.{Agrees, Agree, NoneLost, class_in, found_of}
use Rattle.clock_spread.specs.Turn.{AreProper, said_by}
use Rattle.clock_spread.proofs.Limits.{grid_proper}
use Rattle.sub_clock_solve.specs.declared.given.Given.{Given}
use Rattle.sub_clock_solve.specs.private.Given.{IsSource}
use Rattle.sub_clock_solve.specs.private.Failing.{Differs, kept_grid}

some_same : {A : Type 0} {a b : A} → Some a ≡ Some b → a ≡ b
some_same e = cc

none_some : {A : Type 0} {a : A} → None ≡ Some a → ⊥
none_some e = absurd cc

-- what is kept of a class, where none is lost
no_grid : (f : Found) (o : Option Progression) → kept_grid f ≡ None → (f ≡ Lost → ⊥) → Agrees f o → o ≡ None
no_grid Not o e l h = h
no_grid (Kept g) o e l h = absurd (none_some (sym e))
no_grid Lost o e l h = absurd (l refl)

a_grid : (f : Found) (o : Option Progression) (g : Grid) → kept_grid f ≡ Some g → Agrees f o → (p : Progression) × (o ≡ Some p) × AreSame (progression_of_grid g) p
a_grid Not o g e h = absurd (none_some e)
a_grid (Kept k) o g e h = subst (λ x. (p : Progression) × (o ≡ Some p) × AreSame (progression_of_grid x) p) (some_same e) h
a_grid Lost o g e h = absurd (none_some e)

pub source_none : (class_of : List ℕ) (found : List Found) (held : Held) (given : Given) (source : Source) → NoneLost found → Agree found held → IsSource given source
    → kept_grid (found_of found (class_in class_of given.node)) ≡ None → Differs class_of held source
source_none class_of found held given source kept agree is e (p, at, together) =
    let c = class_in class_of given.node in
    let same : class_in class_of source.node ≡ c = ap (λ n. class_in class_of n) (sym is.node) in
    none_some (sym (no_grid (found_of found c) (held c) e (kept c) (agree c)) ∙ ap held (sym same) ∙ at)

pub source_some : (class_of : List ℕ) (found : List Found) (held : Held) (given : Given) (source : Source) (g : Grid) (b : Bool) → Agree found held → AreProper held → IsSource given source → IsProper source.clock
    → kept_grid (found_of found (class_in class_of given.node)) ≡ Some g → (b ≡ true) ↔ AreSame (progression_of_grid g) (progression_of_grid given.grid) → (b ≡ false) ↔ Differs class_of held source
source_some class_of found held given source g b agree proper is own e test =
    let c = class_in class_of given.node in
    let (p, at, same) = a_grid (found_of found c) (held c) g e (agree c) in
    let one : class_in class_of source.node ≡ c = ap (λ n. class_in class_of n) (sym is.node) in (
      λ f. λ (q, at_q, together).
          let equal : q ≡ p = some_same (sym at_q ∙ ap held one ∙ at) in
          let proper_q : IsProper q = proper (class_in class_of source.node) q at_q in
          let proper_p : IsProper p = proper c p at in
          let q_same : AreSame q source.clock = ticks_same q source.clock proper_q own together in
          let p_same : AreSame p source.clock = subst (λ x. AreSame x source.clock) equal q_same in
          let to_source = same_trans (progression_of_grid g) p source.clock proper_p same p_same in
          let back = same_sym (progression_of_grid given.grid) source.clock is.grid.same in
          clash (sym (test.1 (same_trans (progression_of_grid g) source.clock (progression_of_grid given.grid) own to_source back)) ∙ f),
      λ differs. by b refl (λ t.
          let to_given = test.0 t in
          let p_given = same_trans p (progression_of_grid g) (progression_of_grid given.grid) (grid_proper g) (same_sym (progression_of_grid g) p same) to_given in
          let p_source = same_trans p (progression_of_grid given.grid) source.clock (grid_proper given.grid) p_given is.grid.same in
          differs (p, ap held one ∙ at, record { site = p_source.site; ticks = same_ticks p source.clock p_source })),
    )
  where
    clash : true ≡ false → ⊥
    clash e = absurd cc

    by : (c : Bool) → b ≡ c → (b ≡ true → ⊥) → b ≡ false
    by true e h = absurd (h e)
    by false e h = e

-- what a given conversion asks does not depend on the fractions
pub asks_same : (by : Conversion) (y u p v : Progression) → IsGiven by → IsProper y → IsProper u → IsProper p → IsProper v → AreSame y p → AreSame u v → Asks by y u → Asks by p v
asks_same by y u p v given proper_y proper_u proper_p proper_v same_y same_u asks =
    converted_asks by p v given proper_p proper_v
    (same_trans p y (converted by v) proper_y (same_sym y p same_y)
    (same_trans y (converted by u) (converted by v) (converted_proper by u given proper_u) (asks_converted by y u given proper_y proper_u asks) (converted_same by u v same_u)))

pub relation_none_result : (class_of : List ℕ) (found : List Found) (held : Held) (r : Relation) → NoneLost found → Agree found held
    → kept_grid (found_of found (class_in class_of r.result)) ≡ None → RelationHolds (said_by class_of [] []) held r → ⊥
relation_none_result class_of found held r kept agree e (y, u, at_y, at_u, asks) =
    let c = class_in class_of r.result in none_some (sym (no_grid (found_of found c) (held c) e (kept c) (agree c)) ∙ at_y)

pub relation_none_argument : (class_of : List ℕ) (found : List Found) (held : Held) (r : Relation) → NoneLost found → Agree found held
    → kept_grid (found_of found (class_in class_of r.argument)) ≡ None → RelationHolds (said_by class_of [] []) held r → ⊥
relation_none_argument class_of found held r kept agree e (y, u, at_y, at_u, asks) =
    let c = class_in class_of r.argument in none_some (sym (no_grid (found_of found c) (held c) e (kept c) (agree c)) ∙ at_u)

pub relation_some : (class_of : List ℕ) (found : List Found) (held : Held) (r : Relation) (g h : Grid) (b : Bool) → Agree found held → AreProper held → IsGiven r.by
    → kept_grid (found_of found (class_in class_of r.result)) ≡ Some g → kept_grid (found_of found (class_in class_of r.argument)) ≡ Some h
    → (b ≡ true) ↔ Asks r.by (progression_of_grid g) (progression_of_grid h) → (b ≡ false) ↔ (RelationHolds (said_by class_of [] []) held r → ⊥)
relation_some class_of found held r g h b agree proper given e f test =
    let c = class_in class_of r.result in
    let d = class_in class_of r.argument in
    let (p, at_p, same_p) = a_grid (found_of found c) (held c) g e (agree c) in
    let (v, at_v, same_v) = a_grid (found_of found d) (held d) h f (agree d) in
    let proper_p : IsProper p = proper c p at_p in
    let proper_v : IsProper v = proper d v at_v in (
      λ isnt. λ (y, u, at_y, at_u, asks).
          let is_p : y ≡ p = some_same (sym at_y ∙ at_p) in
          let is_v : u ≡ v = some_same (sym at_u ∙ at_v) in
          let here : Asks r.by p v = subst (λ x. Asks r.by x v) is_p (subst (λ x. Asks r.by y x) is_v asks) in
          clash (sym (test.1 (asks_same r.by p v (progression_of_grid g) (progression_of_grid h) given proper_p proper_v (grid_proper g) (grid_proper h)
          (same_sym (progression_of_grid g) p same_p) (same_sym (progression_of_grid h) v same_v) here)) ∙ isnt),
      λ broken. by b refl (λ t. broken (
        p,
        v,
        at_p,
        at_v,
        asks_same r.by (progression_of_grid g) (progression_of_grid h) p v given (grid_proper g) (grid_proper h) proper_p proper_v same_p same_v (test.0 t),
      )),
    )
  where
    clash : true ≡ false → ⊥
    clash e = absurd cc

    by : (c : Bool) → b ≡ c → (b ≡ true → ⊥) → b ≡ false
    by true e h = absurd (h e)
    by false e h = e

pub not_from : (b : Bool) → not b ≡ true → b ≡ false
not_from true e = absurd cc
not_from false e = refl

pub not_to : (b : Bool) → b ≡ false → not b ≡ true
not_to true e = absurd cc
not_to false e = refl
