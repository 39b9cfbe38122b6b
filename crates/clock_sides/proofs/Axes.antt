-- The clocks of one base partition go by one axis.
use Rattle.std.proofs.Common.{◌≡◌, ◌∙◌, refl, ap, sym, ℕ, zero, suc, ◌==◌, ◌&&◌, ◌⊎◌, inl, inr, ⊎_elim, Bool, true, false, if◌then◌else◌, List, [], ◌∷◌, Option, Some, None, option_map, Contains}
use Rattle.std.proofs.lemmas.Bool.{false≢true, and_parts}
use Rattle.std.proofs.lemmas.Bool.Decides.{eqb_tells}
use Rattle.std.proofs.lemmas.Option.{none-some}
use Rattle.flat_model.specs.declared.clock.Conversion.{Conversion}
use Rattle.flat_model.specs.declared.clock.Conversion.TheVariants.{Sub, Super, Shift, Back, NoClock}
use Rattle.clock_terms.specs.declared.data.Relation.{Relation}
use Rattle.clock_terms.specs.Asked.{converted, inverse}
use Rattle.clock_terms.specs.Position.{Progression}
use Rattle.clock_terms.specs.Clocking.{Said, Held}
use Rattle.clock_terms.specs.Source.{Source}
use Rattle.clock_terms.proofs.Joining.{here, there}
use Rattle.clock_spread.specs.Rounds.{is_given, first_some, seeded, offer, offered, if_clocked, after_round}

-- ---- where the clock of a class comes from

converted_site : (by : Conversion) (u : Progression) → (converted by u).site ≡ u.site
converted_site (Sub f) u = refl
converted_site (Super f) u = refl
converted_site (Shift k r) u = refl
converted_site (Back k r) u = refl
converted_site NoClock u = refl

pub mapped_from : {A B : Type 0} (f : A → B) (o : Option A) (b : B) → option_map f o ≡ Some b → (a : A) × (o ≡ Some a) × (f a ≡ b)
mapped_from f None b e = absurd (none-some b e)
mapped_from f (Some a) b e = (a, refl, cc)

first_from : {A : Type 0} (a b : Option A) (p : A) → first_some a b ≡ Some p → (a ≡ Some p) ⊎ (b ≡ Some p)
first_from None b p e = inr e
first_from (Some a) b p e = inl e

taken_if : (b : Bool) (o : Option Progression) (p : Progression) → if_clocked b o ≡ Some p → (b ≡ true) × (o ≡ Some p)
taken_if true o p e = (refl, e)
taken_if false o p e = absurd (none-some p e)

pub equal_of : (a b : ℕ) → (a == b) ≡ true → a ≡ b
equal_of a b e = ⊎_elim (λ h. h.1) (λ h. absurd (false≢true (sym h.0 ∙ e))) (eqb_tells a b)

seeded_from : (class_of : ℕ → ℕ) (ss : List Source) (c : ℕ) (p : Progression) → seeded class_of ss c ≡ Some p → (s : Source) × Contains ss s × (class_of s.node ≡ c) × (s.clock ≡ p)
seeded_from class_of [] c p e = absurd (none-some p e)
seeded_from class_of (s ∷ ss) c p e = by (class_of s.node == c) refl e (seeded_from class_of ss c p)
  where
    by : (b : Bool) → (class_of s.node == c) ≡ b → (if b then Some s.clock else seeded class_of ss c) ≡ Some p
        → (seeded class_of ss c ≡ Some p → (s : Source) × Contains ss s × (class_of s.node ≡ c) × (s.clock ≡ p))
        → (t : Source) × Contains (s ∷ ss) t × (class_of t.node ≡ c) × (t.clock ≡ p)
    by true test e later = (s, here s ss, equal_of (class_of s.node) c test, cc)
    by false test e later = let r = later e in (r.0, there s ss r.0 r.1, r.2, r.3)

-- a relation leads to class c from class d, which has a clock on the axis
record Leads (class_of : ℕ → ℕ) (held : Held) (r : Relation) (c : ℕ) (p : Progression) : Type 0 where
  other : ℕ
  clock : Progression
  has : held other ≡ Some clock
  axis : clock.site ≡ p.site
  ends : ((class_of r.result ≡ c) × (class_of r.argument ≡ other)) ⊎ ((class_of r.argument ≡ c) × (class_of r.result ≡ other))

offer_from : (class_of : ℕ → ℕ) (held : Held) (r : Relation) (c : ℕ) (p : Progression) → offer class_of held r c ≡ Some p → Leads class_of held r c p
offer_from class_of held r c p e = by (is_given r.by && class_of r.result == c) (is_given r.by && class_of r.argument == c) refl refl e
  where
    by : (a b : Bool) → (is_given r.by && class_of r.result == c) ≡ a → (is_given r.by && class_of r.argument == c) ≡ b
        → (if a then option_map (converted r.by) (held (class_of r.argument)) else if b then option_map (converted (inverse r.by)) (held (class_of r.result)) else None) ≡ Some p
        → Leads class_of held r c p
    by true b t u e =
        let (x, has, is) = mapped_from (converted r.by) (held (class_of r.argument)) p e in
        record {
          other = class_of r.argument;
          clock = x;
          has = has;
          axis = sym (converted_site r.by x) ∙ ap (λ q. q.site) is;
          ends = inl (equal_of (class_of r.result) c (and_parts (is_given r.by) (class_of r.result == c) t).1, refl);
        }
    by false true t u e =
        let (x, has, is) = mapped_from (converted (inverse r.by)) (held (class_of r.result)) p e in
        record {
          other = class_of r.result;
          clock = x;
          has = has;
          axis = sym (converted_site (inverse r.by) x) ∙ ap (λ q. q.site) is;
          ends = inr (equal_of (class_of r.argument) c (and_parts (is_given r.by) (class_of r.argument == c) u).1, refl);
        }
    by false false t u e = absurd (none-some p e)

offered_from : (class_of : ℕ → ℕ) (held : Held) (rs : List Relation) (c : ℕ) (p : Progression) → offered class_of held rs c ≡ Some p
    → (r : Relation) × Contains rs r × Leads class_of held r c p
offered_from class_of held [] c p e = absurd (none-some p e)
offered_from class_of held (r ∷ rs) c p e = ⊎_elim
    (λ own. (r, here r rs, offer_from class_of held r c p own))
    (λ later. let f = offered_from class_of held rs c p later in (f.0, there r rs f.0 f.1, f.2))
    (first_from (offer class_of held r c) (offered class_of held rs c) p e)

module _ (said : Said) (part : ℕ → ℕ)
    (related : (r : Relation) → Contains said.relations r → said.clocked (said.class_of r.result) ≡ true → said.clocked (said.class_of r.argument) ≡ true
    → part (said.class_of r.result) ≡ part (said.class_of r.argument)) where
  -- a constructor in a clocked class of the same part has the axis
  pub record ComesFrom (c : ℕ) (p : Progression) : Type 0 where
    pub source : Source
    pub is : Contains said.sources source
    pub clocked : said.clocked (said.class_of source.node) ≡ true
    pub same : part (said.class_of source.node) ≡ part c
    pub axis : source.clock.site ≡ p.site

  only_clocked : (round c : ℕ) (p : Progression) → after_round said round c ≡ Some p → said.clocked c ≡ true
  only_clocked zero c p e = (taken_if (said.clocked c) (seeded said.class_of said.sources c) p e).0
  only_clocked (suc round) c p e = ⊎_elim
      (λ old. only_clocked round c p old)
      (λ new. (taken_if (said.clocked c) (offered said.class_of (after_round said round) said.relations c) p new).0)
      (first_from (after_round said round c) (if_clocked (said.clocked c) (offered said.class_of (after_round said round) said.relations c)) p e)

  pub comes_from : (round c : ℕ) (p : Progression) → after_round said round c ≡ Some p → ComesFrom c p
  comes_from zero c p e =
      let taken = taken_if (said.clocked c) (seeded said.class_of said.sources c) p e in
      let (s, within, class, is) = seeded_from said.class_of said.sources c p taken.1 in
      record {
        source = s;
        is = within;
        clocked = ap said.clocked class ∙ taken.0;
        same = ap part class;
        axis = ap (λ q. q.site) is;
      }
  comes_from (suc round) c p e = ⊎_elim
      (λ old. comes_from round c p old)
      (λ new.
      let taken = taken_if (said.clocked c) (offered said.class_of (after_round said round) said.relations c) p new in
      let (r, within, leads) = offered_from said.class_of (after_round said round) said.relations c p taken.1 in
      let before = comes_from round leads.other leads.clock leads.has in
      let other = only_clocked round leads.other leads.clock leads.has in
      record {
        source = before.source;
        is = before.is;
        clocked = before.clocked;
        same = before.same ∙ ⊎_elim
            (λ h. sym (ap part (sym h.0) ∙ related r within (ap said.clocked h.0 ∙ taken.0) (ap said.clocked h.1 ∙ other) ∙ ap part h.1))
            (λ h. ap part (sym h.1) ∙ related r within (ap said.clocked h.1 ∙ other) (ap said.clocked h.0 ∙ taken.0) ∙ ap part h.0)
            leads.ends;
        axis = before.axis ∙ leads.axis;
      })
      (first_from (after_round said round c) (if_clocked (said.clocked c) (offered said.class_of (after_round said round) said.relations c)) p e)
