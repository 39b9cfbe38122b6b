-- Terms and classes that fit together.
use Rattle.std.proofs.Common.{◌≡◌, ◌∙◌, refl, sym, ap, subst, ℕ, zero, suc, ◌<◌, ⊎_elim, Bool, true, false, List, [], ◌∷◌, Option, Some, None, All, length, slice_index_or, Contains, arith}
use Rattle.std.specs.List.{count_by}
use Rattle.clock_terms.specs.declared.data.Terms.{Terms}
use Rattle.clock_terms.specs.declared.data.Classes.{Classes}
use Rattle.clock_terms.specs.Position.{Progression}
use Rattle.clock_terms.specs.Source.{sources_of}
use Rattle.clock_terms.specs.Clocking.{Said}
use Rattle.clock_spread.specs.Rounds.{first_some, if_clocked, offered, after_round}
use Rattle.sub_clock_solve.specs.Solving.{said_of, TakesTooFine, IsSolution}
use Rattle.sub_clock_solve.specs.Standing.{HasClass, FitTogether, HaveClasses}

none_some : {A : Type 0} {a : A} → None ≡ Some a → ⊥
none_some e = absurd cc

-- where there is a class each entry is one
pub some_classes : (terms : Terms) (classes : Classes) → 0 < length classes.clocked → FitTogether terms classes → HaveClasses terms classes
some_classes terms classes some fit = record {
  nodes = λ k d lt. (fit.nodes k d lt).within;
  ends = λ k d lt. let both = fit.ends k d lt in (both.0.within, both.1.within);
  class_of = λ k d lt. ⊎_elim (λ less. less) (λ e. let f = e in omega (arith, f, some)) (fit.entries k d lt);
  clocks = fit.clocks;
}

-- where there is none nothing is said
no_element : {X : Type 0} (P : X → Type 0) (xs : List X) → ((x : X) → P x → ⊥) → All P xs → xs ≡ []
no_element P [] none h = refl
no_element P (x ∷ xs) none h = absurd (none x (h 0 x (omega arith)))

never : (said : Said) → ((c : ℕ) → said.clocked c ≡ false) → (n c : ℕ) → after_round said n c ≡ None
never said none zero c = by (said.clocked c) _ (none c)
  where
    by : (b : Bool) (o : Option Progression) → b ≡ false → if_clocked b o ≡ None
    by true o e = absurd cc
    by false o e = refl
never said none (suc n) c = both (after_round said n c) (said.clocked c) (offered said.class_of (after_round said n) said.relations c) (never said none n c) (none c)
  where
    both : (a : Option Progression) (b : Bool) (o : Option Progression) → a ≡ None → b ≡ false → first_some a (if_clocked b o) ≡ None
    both None false o e f = refl
    both None true o e f = absurd cc
    both (Some a) b o e f = absurd (none_some (sym e))

takes_none : (said : Said) → ((c : ℕ) → said.clocked c ≡ false) → (n c : ℕ) → TakesTooFine said n c → ⊥
takes_none said none zero c (p, takes, over) = none_some (sym (never said none 0 c) ∙ takes)
takes_none said none (suc n) c (p, takes, over) = none_some (sym (never said none (suc n) c) ∙ takes.1)

pub no_classes : (terms : Terms) (classes : Classes) → classes.clocked ≡ [] → FitTogether terms classes → IsSolution terms classes []
no_classes terms classes empty fit = (
  (λ c. None),
  record {
    gotten = record { clocked = λ c t. absurd (clash (sym t ∙ none c)); unclocked = λ c f. refl };
    none_too_fine = takes_none (said_of terms classes) none;
    are_grids = record { same_length = ap (λ l. count_by (λ b. b) l) (sym empty); each = λ c t. absurd (clash (sym t ∙ none c)) };
  },
  record { multiple = 1; positive = omega arith; below = omega arith; divided = tt },
  λ e. ⊎_elim
      (λ (s, within, is, fails). nothing (subst (λ l. Contains (sources_of l) s) constructors within))
      (λ (r, within, is, fails). nothing (subst (λ l. Contains l r) relations within)),
)
  where
    none : (c : ℕ) → slice_index_or classes.clocked c false ≡ false
    none c = ap (λ l. slice_index_or l c false) empty

    clash : true ≡ false → ⊥
    clash e = absurd cc

    size : (n : ℕ) → n < length classes.clocked → ⊥
    size n lt = let e = ap length empty in absurd (omega (arith, e, lt))

    constructors : terms.constructors ≡ []
    constructors = no_element (λ k. HasClass classes k.node) terms.constructors (λ k h. size _ h.class) fit.nodes

    relations : terms.relations ≡ []
    relations = no_element (λ r. HasClass classes r.result × HasClass classes r.argument) terms.relations (λ r h. size _ h.0.class) fit.ends

    nothing : {X : Type 0} {x : X} → Contains [] x → ⊥
    nothing (k, within, is) = absurd (omega (arith, within))

pub some_length : {X : Type 0} (xs : List X) → (xs ≡ [] → ⊥) → 0 < length xs
some_length [] h = absurd (h refl)
some_length (x ∷ xs) h = omega arith
