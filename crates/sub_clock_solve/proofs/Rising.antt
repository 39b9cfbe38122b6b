-- No clock of the rounds has the period 0, and each is on the axis of a constructor.
use Rattle.std.proofs.Common.{◌≡◌, ◌∙◌, refl, sym, subst, ℕ, zero, suc, ◌+◌, ◌*◌, ◌<◌, Bool, true, false, List, [], ◌∷◌, Some, None, All, arith, mul-pos}
use Rattle.std.proofs.lemmas.List.Elements.{All-head, All-tail}
use Rattle.flat_model.specs.declared.clock.Conversion.{Conversion}
use Rattle.flat_model.specs.declared.clock.Conversion.TheVariants.{Sub, Super, Shift, Back, NoClock}
use Rattle.clock_terms.specs.declared.data.Constructor.{Constructor}
use Rattle.clock_terms.specs.declared.data.Terms.{Terms}
use Rattle.clock_terms.specs.declared.data.Classes.{Classes}
use Rattle.clock_terms.specs.Position.{Progression}
use Rattle.clock_terms.specs.Asked.{converted, IsGiven}
use Rattle.clock_terms.specs.Source.{Kind, Inferred, Every, AtSite, Other, kind_of, Source, every, at_site, source_before, sources_from, sources_of}
use Rattle.clock_terms.specs.Clocking.{Held}
use Rattle.clock_spread.specs.Rounds.{AreGotten}
use Rattle.clock_spread.proofs.Losing.{round_keeps}
use Rattle.sub_clock_solve.specs.Solving.{said_of}
use Rattle.sub_clock_solve.specs.Standing.{IsGivenKind, IsGivenClock, FitTogether}

none_some : {A : Type 0} {a : A} → None ≡ Some a → ⊥
none_some e = absurd cc

some_same : {A : Type 0} {a b : A} → Some a ≡ Some b → a ≡ b
some_same e = cc

true_false : {b : Bool} → b ≡ true → b ≡ false → ⊥
true_false e f = absurd cc

-- the period is above 0
pub record IsRising (p : Progression) : Type 0 where
  pub less : p.period.less ≡ 0
  pub more : 0 < p.period.more

rising_converted : (by : Conversion) (u : Progression) → IsGiven by → IsRising u → IsRising (converted by u)
rising_converted (Sub f) u g r = record { less = let e = r.less in by f u.period.less e; more = mul-pos g r.more }
  where
    by : (f n : ℕ) → n ≡ 0 → f * n ≡ 0
    by f zero e = omega arith
    by f (suc n) e = absurd (omega (arith, e))
rising_converted (Super f) u g r = record { less = let e = r.less in omega (arith, e); more = let m = r.more in omega (arith, m) }
rising_converted (Shift k n) u g r = record { less = r.less; more = r.more }
rising_converted (Back k n) u g r = record { less = r.less; more = r.more }
rising_converted NoClock u g r = r

rising_by : (kind : Kind) (k : Constructor) (site : ℕ) (rest : ℕ → List Source) → IsGivenKind kind → ((n : ℕ) → All (λ s. IsRising s.clock) (rest n)) → All (λ s. IsRising s.clock) (source_before kind k site rest)
rising_by Inferred k site rest p h = h site
rising_by Other k site rest p h = h site
rising_by (Every n r) k site rest p h = by
  where
    by : All (λ s. IsRising s.clock) (record { node = k.node; equation = k.equation; clock = every n r } ∷ rest site)
    by zero d lt = record { less = refl; more = p.0 }
    by (suc i) d lt = h site i d (omega (arith, lt))
rising_by AtSite k site rest p h = by
  where
    by : All (λ s. IsRising s.clock) (record { node = k.node; equation = k.equation; clock = at_site site } ∷ rest (site + 1))
    by zero d lt = record { less = refl; more = omega arith }
    by (suc i) d lt = h (site + 1) i d (omega (arith, lt))

pub sources_rising : (site : ℕ) (ks : List Constructor) → All (λ k. IsGivenClock k.clock) ks → All (λ s. IsRising s.clock) (sources_from site ks)
sources_rising site [] h = λ k d lt. absurd (omega (arith, lt))
sources_rising site (k ∷ ks) h = rising_by (kind_of k.clock) k site (λ n. sources_from n ks) (All-head (λ k. IsGivenClock k.clock) k ks h) (λ n. sources_rising n ks (All-tail (λ k. IsGivenClock k.clock) k ks h))

-- what holds of all sources, and is kept by conversions, holds of the clocks that the classes get
pub gotten_keeps : (P : Progression → Type 0) → ((by : Conversion) (u : Progression) → IsGiven by → P u → P (converted by u)) → (terms : Terms) (classes : Classes) (held : Held) → AreGotten (said_of terms classes) held
    → All (λ s. P s.clock) (sources_of terms.constructors) → (c : ℕ) (p : Progression) → held c ≡ Some p → P p
gotten_keeps P keeps terms classes held g all c p e = by ((said_of terms classes).clocked c) refl
  where
    by : (b : Bool) → (said_of terms classes).clocked c ≡ b → P p
    by true t = let (q, at, gets) = g.clocked c t in subst P (some_same (sym at ∙ e)) (round_keeps P keeps (said_of terms classes) all gets.0 c q gets.1)
    by false f = absurd (none_some (sym (g.unclocked c f) ∙ e))

pub gotten_rising : (terms : Terms) (classes : Classes) → FitTogether terms classes → (held : Held) → AreGotten (said_of terms classes) held → (c : ℕ) (p : Progression) → held c ≡ Some p → IsRising p
gotten_rising terms classes fit held g c p e = gotten_keeps IsRising rising_converted terms classes held g (sources_rising 0 terms.constructors fit.clocks) c p e
