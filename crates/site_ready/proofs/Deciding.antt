-- The group of names in the classes of event conditions.
use Rattle.std.proofs.Common.{◌≡◌, ◌∙◌, refl, ap, sym, ℕ, zero, suc, ◌+◌, ◌==◌, ◌&&◌, ◌||◌, ◌⊎◌, inl, inr, ⊎_elim, Bool, true, false, not, List, [], ◌∷◌, length, slice_get, Option, Some, None, arith}
use Rattle.std.proofs.lemmas.Bool.{false≢true, and_parts, eq-eqb}
use Rattle.std.proofs.lemmas.Option.{none-some}
use Rattle.flat_model.specs.declared.model.FlatModel.{FlatModel}
use Rattle.flat_model.specs.declared.model.FlatName.{FlatName}
use Rattle.clock_terms.specs.declared.data.Cause.{Cause}
use Rattle.clock_terms.specs.declared.data.Cause.TheVariants.{Sampled, Condition}
use Rattle.clock_terms.specs.declared.data.Classes.{Classes}
use Rattle.clock_terms.specs.Classing.{class_in}
use Rattle.clock_terms.specs.Nodes.{Node, nodes_of}
use Rattle.clock_sides.proofs.Axes.{equal_of}
use Rattle.clock_sides.proofs.Lists.{both_true}
use Rattle.site_ready.specs.Laws.{IsUnderCondition, IsGroupOf}

abbrev is_condition : Option Cause → Bool
is_condition (Some Condition) = true
is_condition (Some Sampled) = false
is_condition None = false

condition_cause : (o : Option Cause) → is_condition o ≡ true → o ≡ Some Condition
condition_cause (Some Condition) e = refl
condition_cause (Some Sampled) e = absurd (false≢true e)
condition_cause None e = absurd (false≢true e)

-- a name that is no input
abbrev is_variable : Option FlatName → Bool
is_variable None = false
is_variable (Some name) = not name.input

variable_is : (o : Option FlatName) → is_variable o ≡ true → (name : FlatName) × (o ≡ Some name) × (name.input ≡ false)
variable_is None e = absurd (false≢true e)
variable_is (Some name) e = (name, refl, by name.input e)
  where
    by : (b : Bool) → not b ≡ true → b ≡ false
    by false e = refl
    by true e = absurd (false≢true e)

either_true : (a b : Bool) → (a || b) ≡ true → (a ≡ true) ⊎ (b ≡ true)
either_true true b e = inl refl
either_true false b e = inr e

left_true : (a b : Bool) → a ≡ true → (a || b) ≡ true
left_true true b e = refl
left_true false b e = absurd (false≢true e)

right_true : (a b : Bool) → b ≡ true → (a || b) ≡ true
right_true true b e = refl
right_true false b e = e

module _ (model : FlatModel) (classes : Classes) where
  -- one of these nodes, numbered from n on, is a condition of class c
  abbrev has_condition : ℕ → List Node → ℕ → Bool
  has_condition n [] c = false
  has_condition n (node ∷ nodes) c = (is_condition node.cause && class_in classes n == c) || has_condition (n + 1) nodes c

  found_in : (n : ℕ) (nodes : List Node) (c : ℕ) → has_condition n nodes c ≡ true
      → (j : ℕ) × (node : Node) × (slice_get nodes j ≡ Some node) × (node.cause ≡ Some Condition) × (c ≡ class_in classes (n + j))
  found_in n [] c e = absurd (false≢true e)
  found_in n (node ∷ nodes) c e = ⊎_elim
      (λ own.
      let both = and_parts (is_condition node.cause) (class_in classes n == c) own in
      (0, node, refl, condition_cause node.cause both.0, sym (equal_of (class_in classes n) c both.1) ∙ ap (λ m. class_in classes m) (let z : n ≡ n + 0 = omega arith in z)))
      (λ later.
      let (j, other, at, cause, class) = found_in (n + 1) nodes c later in
      (suc j, other, at, cause, class ∙ ap (λ m. class_in classes m) (let z : n + 1 + j ≡ n + suc j = omega arith in z)))
      (either_true (is_condition node.cause && class_in classes n == c) (has_condition (n + 1) nodes c) e)

  is_in : (n : ℕ) (nodes : List Node) (c j : ℕ) (node : Node) → slice_get nodes j ≡ Some node → node.cause ≡ Some Condition → c ≡ class_in classes (n + j) → has_condition n nodes c ≡ true
  is_in n [] c j node at cause class = absurd (none-some node at)
  is_in n (first ∷ nodes) c zero node at cause class =
      let same : first ≡ node = cc in
      let own : is_condition first.cause ≡ true = ap (λ o. is_condition o) (ap (λ k. k.cause) same ∙ cause) in
      left_true (is_condition first.cause && class_in classes n == c) (has_condition (n + 1) nodes c)
      (both_true (is_condition first.cause) (class_in classes n == c) own
      (eq-eqb (class_in classes n) c (ap (λ m. class_in classes m) (let z : n ≡ n + 0 = omega arith in z) ∙ sym class)))
  is_in n (first ∷ nodes) c (suc j) node at cause class =
      right_true (is_condition first.cause && class_in classes n == c) (has_condition (n + 1) nodes c)
      (is_in (n + 1) nodes c j node at cause (class ∙ ap (λ m. class_in classes m) (let z : n + suc j ≡ n + 1 + j = omega arith in z)))

  group : ℕ → Bool
  group y = is_variable (slice_get model.names y) && has_condition (length model.names) (nodes_of model) (class_in classes y)

  tells : IsGroupOf model classes group
  unfolding group
  tells y = (to, from)
    where
      to : (is_variable (slice_get model.names y) && has_condition (length model.names) (nodes_of model) (class_in classes y)) ≡ true → IsUnderCondition model classes y
      to e =
          let both = and_parts _ _ e in
          let (name, at, own) = variable_is (slice_get model.names y) both.0 in
          let (j, node, is, cause, class) = found_in (length model.names) (nodes_of model) (class_in classes y) both.1 in
          record { name = name; is_named = at; own = own; number = j; node = node; is_node = is; cause = cause; class = class }

      from : IsUnderCondition model classes y → (is_variable (slice_get model.names y) && has_condition (length model.names) (nodes_of model) (class_in classes y)) ≡ true
      from h = both_true (is_variable (slice_get model.names y)) (has_condition (length model.names) (nodes_of model) (class_in classes y))
          (ap (λ o. is_variable o) h.is_named ∙ ap (λ b. not b) h.own)
          (is_in (length model.names) (nodes_of model) (class_in classes y) h.number h.node h.is_node h.cause h.class)

  pub there_is : (group : ℕ → Bool) × IsGroupOf model classes group
  there_is = (group, tells)
