-- Uses of parts that need nothing of each other give the same whether they are taken side by side or one after the other.
use Rattle.std.proofs.Common.{◌≡◌, refl, ◌∙◌, sym, subst, ℕ, List, [], ◌∷◌, ◌++◌, inl, inr}
use Rattle.std.proofs.Math.Path.{fun_ext}
use Rattle.std.proofs.lemmas.Bool.{cases_eq}
use Rattle.sync_values.specs.declared.value.Value.{Value}
use Rattle.flat_model.specs.Assignment.{Assignment}
use Rattle.flat_model.specs.Setting.{Setting}
use Rattle.flat_model.specs.Uses.{Use}
use Rattle.flat_model.specs.Given.{Row}
use Rattle.flat_model.proofs.OneSolution.{AreSitesUnclocked}
use Rattle.moment_theory.specs.Free.{IsReachedBy}
use Rattle.moment_theory.proofs.Ordered.{IsFreeUse, AreFreeUses}
use Rattle.moment_theory.specs.Taken.{put, Gives, IsTaken, AreTaken}
use Rattle.flat_model.proofs.Above.{IsBelow}
use Rattle.moment_theory.proofs.Rows.{below_same}
use Rattle.moment_theory.proofs.Transfer.{IsSound, Needs, can_up, only_up}
use Rattle.moment_theory.proofs.Taking.{IsClear, over, same_over, below_over, put_same, put_other, step_clear, step_sound, unchanged, taken_sound}

-- a set of names that holds the names of these uses and what they need
abbrev pub HoldsNeeds : (s : Setting) → (ℕ → Type 0) → (uses : List Use) → AreFreeUses s uses → Type 0
HoldsNeeds s N [] order = Unit {0}
HoldsNeeds s N (entry ∷ later) order = N entry.name × ((y : ℕ) → Needs s entry later order.0 y → N y) × HoldsNeeds s N later order.1

abbrev pub SameOn : (ℕ → Type 0) → Row → Row → Type 0
SameOn N a b = (y : ℕ) → N y → a y ≡ b y

module _ (s : Setting) (unclocked : AreSitesUnclocked s) (S : Assignment) (m : ℕ) (N : ℕ → Type 0) where
  pub gives_same : (a b : Row) (entry : Use) (later : List Use) (free : IsFreeUse s entry later) → ((y : ℕ) → Needs s entry later free y → N y) → SameOn N a b → IsSound s (over s unclocked S m a) m
      → (v : Value) → Gives s S m a entry v → Gives s S m b entry v
  gives_same a b entry later free needs same sound v gives =
      let up : (y : ℕ) → Needs s entry later free y → IsBelow (over s unclocked S m a y m) (over s unclocked S m b y m) = λ y n. below_over s unclocked S m a b y (below_same (a y) (b y) (same y (needs y n))) in record {
        equation = gives.equation;
        name = gives.name;
        can = can_up s unclocked (over s unclocked S m a) (over s unclocked S m b) m (same_over s unclocked S m a b) entry later free up sound gives.equation gives.name gives.can;
        only = only_up s unclocked (over s unclocked S m a) (over s unclocked S m b) m (same_over s unclocked S m a b) entry later free up sound gives.equation gives.name v gives.can gives.only;
      }

  -- the step that is taken over one row is taken over another that is the same on what it needs
  step_apart : (a b next : Row) (entry : Use) (later : List Use) (free : IsFreeUse s entry later) → N entry.name → ((y : ℕ) → Needs s entry later free y → N y) → SameOn N a b
      → IsSound s (over s unclocked S m a) m → IsSound s (over s unclocked S m b) m → IsTaken s S m entry a next → (other : Row) × IsTaken s S m entry b other × SameOn N next other
  step_apart a b next entry later free own needs same sound_a sound_b (inl (v, gives, is)) = (
    put b entry.name v,
    inl (v, gives_same a b entry later free needs same sound_a v gives, λ y. refl),
    λ y n. is y ∙ (elim (cases_eq y entry.name) [
      | inl here ↦ subst (λ z. put a entry.name v z ≡ put b entry.name v z) (sym here) (put_same a entry.name v ∙ sym (put_same b entry.name v))
      | inr apart ↦ put_other a entry.name v y apart ∙ same y n ∙ sym (put_other b entry.name v y apart)
    ]),
  )
  step_apart a b next entry later free own needs same sound_a sound_b (inr (none, is)) = (
    b,
    inr (λ v gives. none v (gives_same b a entry later free needs (λ y n. sym (same y n)) sound_b v gives), λ y. refl),
    λ y n. is y ∙ same y n,
  )

  pub taken_apart : (uses : List Use) (order : AreFreeUses s uses) → HoldsNeeds s N uses order → (a b last : Row) → SameOn N a b → IsClear uses a → IsClear uses b
      → IsSound s (over s unclocked S m a) m → IsSound s (over s unclocked S m b) m → AreTaken s S m uses a last → (other : Row) × AreTaken s S m uses b other × SameOn N last other
  taken_apart [] order holds a b last same clear_a clear_b sound_a sound_b taken = (b, (λ y. refl), λ y n. taken y ∙ same y n)
  taken_apart (entry ∷ later) order holds a b last same clear_a clear_b sound_a sound_b (next, step, rest) =
      let (other, again, same_next) = step_apart a b next entry later order.0 holds.0 holds.1 same sound_a sound_b step in
      let (end, taken, same_last) = taken_apart later order.1 holds.2 next other last same_next
      (step_clear s unclocked S m entry later a next order.0 clear_a step) (step_clear s unclocked S m entry later b other order.0 clear_b again)
      (step_sound s unclocked S m entry later a next order.0 (clear_a entry.name (inl refl)) step sound_a) (step_sound s unclocked S m entry later b other order.0 (clear_b entry.name (inl refl)) again sound_b) rest in
      (end, (other, again, taken), same_last)

-- two runs of uses are one run
pub append_taken : (s : Setting) (S : Assignment) (m : ℕ) (first second : List Use) (a b c : Row) → AreTaken s S m first a b → AreTaken s S m second b c → AreTaken s S m (first ++ second) a c
append_taken s S m [] second a b c one two = subst (λ r. AreTaken s S m second r c) (fun_ext one) two
append_taken s S m (entry ∷ first) second a b c (next, step, rest) two = (next, step, append_taken s S m first second next b c rest two)

-- a part that was taken by itself from the same base may be taken behind others that reach nothing that it needs: it gives the same
module _ (s : Setting) (unclocked : AreSitesUnclocked s) (S : Assignment) (m : ℕ) (base : Row) (sound : IsSound s (over s unclocked S m base) m)
    (others part : List Use) (order_others : AreFreeUses s others) (order : AreFreeUses s part) (clear_others : IsClear others base) (clear : IsClear part base)
    (N : ℕ → Type 0) (holds : HoldsNeeds s N part order) (apart : (y : ℕ) → N y → IsReachedBy y others → ⊥) (distinct : (y : ℕ) → IsReachedBy y part → IsReachedBy y others → ⊥) where
  pub record IsBeside (there own : Row) : Type 0 where
    pub row : Row
    pub taken : AreTaken s S m (others ++ part) base row
    pub as_alone : SameOn N own row
    pub others_kept : (y : ℕ) → (IsReachedBy y part → ⊥) → row y ≡ there y

  pub beside : (there own : Row) → AreTaken s S m others base there → AreTaken s S m part base own → IsBeside there own
  beside there own one two =
      let kept : SameOn N base there = λ y n. sym (unchanged s unclocked S m others base there one y (apart y n)) in
      let clear_there : IsClear part there = λ y reached. unchanged s unclocked S m others base there one y (distinct y reached) ∙ clear y reached in
      let sound_there = taken_sound s unclocked S m others base there order_others clear_others one sound in
      let (row, taken, same) = taken_apart s unclocked S m N part order holds base there own kept clear clear_there sound sound_there two in record {
        row = row;
        taken = append_taken s S m others part base there row one taken;
        as_alone = same;
        others_kept = λ y not. unchanged s unclocked S m part there row taken y not;
      }
