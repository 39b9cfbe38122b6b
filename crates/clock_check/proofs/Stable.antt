-- What is not refused holds, of clocks.
use Rattle.std.proofs.Common.{◌≡◌, ◌∙◌, refl, sym, ap, subst, ℕ, zero, suc, ◌*◌, ◌%◌, ◌<◌, ◌≤◌, ◌⊎◌, inl, inr, ⊎_elim, Option, Some, None, option_map, arith, mul-pos}
use Rattle.flat_model.specs.declared.clock.Conversion.{Conversion}
use Rattle.flat_model.specs.declared.clock.Conversion.TheVariants.{Sub, Super, Shift, Back, NoClock}
use Rattle.clock_terms.specs.declared.data.Grid.{Grid}
use Rattle.clock_terms.specs.declared.data.Relation.{Relation}
use Rattle.clock_terms.specs.Position.{Progression, IsProper, AreSame, progression_of_grid}
use Rattle.clock_terms.specs.Asked.{Asks, converted, IsGiven}
use Rattle.clock_terms.specs.Source.{Source}
use Rattle.clock_terms.specs.Clocking.{Said, Held, SourceHolds, RelationHolds}
use Rattle.clock_terms.proofs.Progressions.{same_sym, same_trans, same_ticks, ticks_same}
use Rattle.clock_terms.proofs.Conversions.{asks_converted, converted_asks, converted_same, converted_proper}
use Rattle.clock_spread.proofs.Limits.{grid_proper}
use Rattle.clock_check.specs.Inferring.{IsInferred}
use Rattle.clock_check.proofs.Factors.{factor_law, rest_law, inferred_sub, inferred_super, sub_as_super}

none_some : {A : Type 0} {a : A} → None ≡ Some a → ⊥
none_some e = absurd cc

some_same : {A : Type 0} {a b : A} → Some a ≡ Some b → a ≡ b
some_same e = cc

abbrev pub Not : Type 0 → Type 0
Not P = P → ⊥

equal_or : (a b : ℕ) → (a ≡ b) ⊎ (a ≡ b → ⊥)
equal_or a b = ⊎_elim (λ lt. inr (λ e. absurd (omega (arith, e, lt)))) (λ le. ⊎_elim (λ lt. inr (λ e. absurd (omega (arith, e, lt)))) (λ ge. inl (omega (arith, le, ge))) (less_or b a)) (less_or a b)
  where
    less_or : (m n : ℕ) → (m < n) ⊎ (n ≤ m)
    less_or m n = grind arith

pub stable_nat : (a b : ℕ) → Not (Not (a ≡ b)) → a ≡ b
stable_nat a b h = ⊎_elim (λ e. e) (λ n. absurd (h n)) (equal_or a b)

stable_site : (a b : Option ℕ) → Not (Not (a ≡ b)) → a ≡ b
stable_site None None h = refl
stable_site None (Some b) h = absurd (h (λ e. none_some e))
stable_site (Some a) None h = absurd (h (λ e. none_some (sym e)))
stable_site (Some a) (Some b) h = ap Some (stable_nat a b (λ n. h (λ e. n (some_same e))))

pub stable_same : (a b : Progression) → Not (Not (AreSame a b)) → AreSame a b
stable_same a b h = record {
  site = stable_site a.site b.site (λ n. h (λ s. n s.site));
  period = stable_nat _ _ (λ n. h (λ s. n s.period));
  start = stable_nat _ _ (λ n. h (λ s. n s.start));
}

-- a clock is there or not
there : (o : Option Progression) → ((p : Progression) × (o ≡ Some p)) ⊎ (o ≡ None)
there None = inr refl
there (Some p) = inl (p, refl)

pub stable_source : (said : Said) (held : Held) (s : Source) → ((c : ℕ) (p : Progression) → held c ≡ Some p → IsProper p) → IsProper s.clock → Not (Not (SourceHolds said held s)) → SourceHolds said held s
stable_source said held s proper own h = ⊎_elim
    (λ (p, at).
    let same = stable_same p s.clock (λ n. h (λ (q, at_q, together). n (subst (λ x. AreSame x s.clock) (some_same (sym at_q ∙ at))
    (ticks_same q s.clock (proper (said.class_of s.node) q at_q) own together)))) in
    (p, at, record { site = same.site; ticks = same_ticks p s.clock same }))
    (λ none. absurd (h (λ (q, at_q, together). none_some (sym none ∙ at_q))))
    (there (held (said.class_of s.node)))

stable_relation : (said : Said) (held : Held) (r : Relation) → ((y u : Progression) → held (said.class_of r.result) ≡ Some y → held (said.class_of r.argument) ≡ Some u → Not (Not (Asks r.by y u)) → Asks r.by y u)
    → Not (Not (RelationHolds said held r)) → RelationHolds said held r
stable_relation said held r asks h = ⊎_elim
    (λ (y, at_y). ⊎_elim
    (λ (u, at_u). (
      y,
      u,
      at_y,
      at_u,
      asks y u at_y at_u (λ n. h (λ (p, v, at_p, at_v, asked).
          n (subst (λ x. Asks r.by x u) (some_same (sym at_p ∙ at_y)) (subst (λ x. Asks r.by p x) (some_same (sym at_v ∙ at_u)) asked)))),
    ))
    (λ none. absurd (h (λ (p, v, at_p, at_v, asked). none_some (sym none ∙ at_v))))
    (there (held (said.class_of r.argument))))
    (λ none. absurd (h (λ (p, v, at_p, at_v, asked). none_some (sym none ∙ at_p))))
    (there (held (said.class_of r.result)))

pub stable_given : (said : Said) (held : Held) (r : Relation) → ((c : ℕ) (p : Progression) → held c ≡ Some p → IsProper p) → IsGiven r.by → Not (Not (RelationHolds said held r)) → RelationHolds said held r
stable_given said held r proper given = stable_relation said held r (λ y u at_y at_u h.
    let proper_y = proper (said.class_of r.result) y at_y in
    let proper_u = proper (said.class_of r.argument) u at_u in
    converted_asks r.by y u given proper_y proper_u (stable_same y (converted r.by u) (λ n. h (λ asked. n (asks_converted r.by y u given proper_y proper_u asked)))))

-- ---- factors that are to be inferred
stable_sub : (slower faster : Grid) → 0 < slower.period.num → 0 < faster.period.num → Not (Not (Asks (Sub 0) (progression_of_grid slower) (progression_of_grid faster))) → Asks (Sub 0) (progression_of_grid slower) (progression_of_grid faster)
stable_sub slower faster p q h =
    let law = rest_law slower.period faster.period (mul-pos p faster.period.positive) (mul-pos slower.period.positive q) in
    let inferred = inferred_sub (progression_of_grid slower) (progression_of_grid faster) (grid_proper slower) (grid_proper faster) in
    let factor = law.0 (stable_nat ((slower.period.num * faster.period.den) % (slower.period.den * faster.period.num)) 0 (λ n. h (λ asked. let (f, pos, same) = inferred.0 asked in n (law.1 (f, pos, same.period))))) in
    let both = factor_law slower faster factor in
    both.0 (stable_same (progression_of_grid (record { site = slower.site; period = faster.period; start = slower.start; negative = slower.negative })) (progression_of_grid faster) (λ n. h (λ asked. n (both.1 asked))))

stable_inferred_asks : (by : Conversion) (y u : Grid) → IsInferred by → 0 < y.period.num → 0 < u.period.num → Not (Not (Asks by (progression_of_grid y) (progression_of_grid u))) → Asks by (progression_of_grid y) (progression_of_grid u)
stable_inferred_asks (Sub zero) y u i p q h = stable_sub y u p q h
stable_inferred_asks (Super zero) y u i p q h =
    let turn = sub_as_super (progression_of_grid u) (progression_of_grid y) (grid_proper u) (grid_proper y) in
    turn.0 (stable_sub u y q p (λ n. h (λ asked. n (turn.1 asked))))
stable_inferred_asks (Sub (suc f)) y u i p q h = absurd i
stable_inferred_asks (Super (suc f)) y u i p q h = absurd i
stable_inferred_asks (Shift k r) y u i p q h = absurd i
stable_inferred_asks (Back k r) y u i p q h = absurd i
stable_inferred_asks NoClock y u i p q h = absurd i

-- the clocks of grids, of which none has the period 0
mapped : (o : Option Grid) (p : Progression) → option_map progression_of_grid o ≡ Some p → (g : Grid) × (o ≡ Some g) × (progression_of_grid g ≡ p)
mapped None p e = absurd (none_some e)
mapped (Some g) p e = (g, refl, some_same e)

pub stable_inferred : (said : Said) (grids : ℕ → Option Grid) (r : Relation) → ((c : ℕ) (g : Grid) → grids c ≡ Some g → 0 < g.period.num) → IsInferred r.by
    → Not (Not (RelationHolds said (λ c. option_map progression_of_grid (grids c)) r)) → RelationHolds said (λ c. option_map progression_of_grid (grids c)) r
stable_inferred said grids r rise inferred = stable_relation said (λ c. option_map progression_of_grid (grids c)) r (λ y u at_y at_u h.
    let (g, at_g, is_y) = mapped (grids (said.class_of r.result)) y at_y in
    let (k, at_k, is_u) = mapped (grids (said.class_of r.argument)) u at_u in
    let own = stable_inferred_asks r.by g k inferred (rise (said.class_of r.result) g at_g) (rise (said.class_of r.argument) k at_k)
    (λ n. h (λ asked. n (subst (λ x. Asks r.by x (progression_of_grid k)) (sym is_y) (subst (λ x. Asks r.by y x) (sym is_u) asked)))) in
    subst (λ x. Asks r.by x u) is_y (subst (λ x. Asks r.by (progression_of_grid g) x) is_u own))

-- what an inferred factor asks does not depend on the fractions
pub inferred_same : (by : Conversion) (y u p v : Progression) → IsInferred by → IsProper y → IsProper u → IsProper p → IsProper v → AreSame y p → AreSame u v → Asks by y u → Asks by p v
inferred_same (Sub zero) y u p v i py pu pp pv sy su h =
    let (f, pos, same) = (inferred_sub y u py pu).0 h in
    (inferred_sub p v pp pv).1 (f, pos, same_trans p y (converted (Sub f) v) py (same_sym y p sy) (same_trans y (converted (Sub f) u) (converted (Sub f) v) (converted_proper (Sub f) u pos pu) same (converted_same (Sub f) u v su)))
inferred_same (Super zero) y u p v i py pu pp pv sy su h =
    let (f, pos, same) = (inferred_super y u py pu).0 h in
    (inferred_super p v pp pv).1 (f, pos, same_trans p y (converted (Super f) v) py (same_sym y p sy) (same_trans y (converted (Super f) u) (converted (Super f) v) (converted_proper (Super f) u pos pu) same (converted_same (Super f) u v su)))
inferred_same (Sub (suc f)) y u p v i py pu pp pv sy su h = absurd i
inferred_same (Super (suc f)) y u p v i py pu pp pv sy su h = absurd i
inferred_same (Shift k r) y u p v i py pu pp pv sy su h = absurd i
inferred_same (Back k r) y u p v i py pu pp pv sy su h = absurd i
inferred_same NoClock y u p v i py pu pp pv sy su h = absurd i
