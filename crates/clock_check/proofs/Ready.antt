-- A clocking gives a run its classes and clocks.
use Rattle.std.proofs.Common.{◌≡◌, ◌∙◌, refl, sym, ap, subst, ℕ, zero, suc, ◌+◌, ◌<◌, Bool, true, false, if◌then◌else◌, List, [], ◌∷◌, ◌++◌, length, take, get_or, slice_index_or, slice_get, Option, Some, None, arith}
use Rattle.std.proofs.lemmas.List.{length-append}
use Rattle.sync_values.specs.declared.value.Value.TheVariants as value
use Rattle.flat_model.specs.declared.model.NameKind.TheVariants as kind
use Rattle.std.proofs.lemmas.Option.{slice_get-get_or, get_or_from_slice_get}
use Rattle.rational_time.specs.declared.ratio.Ratio.{Ratio}
use Rattle.flat_model.specs.declared.clock.Clocking.{Clocking}
use Rattle.flat_model.specs.declared.equation.Equation.{Equation}
use Rattle.flat_model.specs.declared.model.FlatModel.{FlatModel}
use Rattle.flat_model.specs.declared.model.FlatName.{FlatName}
use Rattle.flat_model.specs.declared.table.Table.{Table}
use Rattle.flat_model.specs.declared.clock.ClockExpr.{ClockExpr}
use Rattle.flat_model.specs.Runnable.{IsClassBelow}
use Rattle.flat_model.specs.Setting.{flattened}
use Rattle.flat_model.specs.Models.{clause_of}
use Rattle.clock_terms.specs.declared.data.Terms.{Terms}
use Rattle.clock_terms.specs.declared.data.Classes.{Classes}
use Rattle.clock_terms.specs.Classing.{AreClassesOf, class_in, is_clocked}
use Rattle.clock_terms.specs.Mentions.{clock_cuts}
use Rattle.clock_terms.specs.Nodes.{Node, cut_nodes, own_node, side_cuts, leading_clock, nodes_of_equation, nodes_from}
use Rattle.clock_terms.specs.Said.{AreTermsOf, numbered}
use Rattle.sub_clock_solve.specs.Solving.{place_of}
use Rattle.sub_clock_solve.proofs.Gathers.{count, count_true, count_false}
use Rattle.clock_check.specs.ClockingOf.{number_in, class_of_name, IsClockingOf}
use Rattle.clock_check.specs.Laws.{IsReady}

-- the place of a clocked class is below their count
place_below : (clocked : List Bool) (c : ℕ) → slice_index_or clocked c false ≡ true → count (take c clocked) < count clocked
place_below [] c t = absurd cc
place_below (true ∷ bs) zero t = let e = count_true bs in omega (arith, e)
place_below (false ∷ bs) zero t = absurd cc
place_below (true ∷ bs) (suc c) t = let h = place_below bs c t in let e = count_true bs in let f = count_true (take c bs) in omega (arith, h, e, f)
place_below (false ∷ bs) (suc c) t = let h = place_below bs c t in let e = count_false bs in let f = count_false (take c bs) in omega (arith, h, e, f)

number_below : (classes : Classes) (n c : ℕ) → n ≡ count classes.clocked → IsClassBelow n (number_in classes c)
number_below classes n c e = by (is_clocked classes c) refl
  where
    by : (b : Bool) → is_clocked classes c ≡ b → IsClassBelow n (if b then Some (place_of classes c) else None)
    by true t = let h = place_below classes.clocked c t in omega (arith, h, e)
    by false f = tt

name_below : (classes : Classes) (n x : ℕ) (name : FlatName) → n ≡ count classes.clocked → IsClassBelow n (class_of_name classes x name)
name_below classes n x name e = by name.input
  where
    by : (b : Bool) → IsClassBelow n (if b then None else number_in classes (class_in classes x))
    by true = tt
    by false = number_below classes n (class_in classes x) e

-- each equation has its node
pub own_at : {A : Type 0} (xs : List A) (a : A) (ys : List A) → slice_get (xs ++ a ∷ ys) (length xs) ≡ Some a
own_at [] a ys = refl
own_at (x ∷ xs) a ys = own_at xs a ys

pub get_left : {A : Type 0} (xs ys : List A) (j : ℕ) (a : A) → slice_get xs j ≡ Some a → slice_get (xs ++ ys) j ≡ Some a
get_left [] ys j a e = absurd cc
get_left (x ∷ xs) ys zero a e = e
get_left (x ∷ xs) ys (suc j) a e = get_left xs ys j a e

pub get_right : {A : Type 0} (xs ys : List A) (j : ℕ) → slice_get (xs ++ ys) (length xs + j) ≡ slice_get ys j
get_right [] ys j = ap (λ n. slice_get ys n) (let e : 0 + j ≡ j = omega arith in e)
get_right (x ∷ xs) ys j = ap (λ n. slice_get (x ∷ (xs ++ ys)) n) (let e : suc (length xs) + j ≡ suc (length xs + j) = omega arith in e) ∙ get_right xs ys j

pub node_for : (clauses : List ClockExpr) (before equations : List Equation) (k : ℕ) → k < length equations
    → (j : ℕ) × (node : Node) × (slice_get (nodes_from clauses before equations) j ≡ Some node) × (node.equation ≡ length before + k) × (node.cause ≡ None)
node_for clauses before [] k lt = absurd (omega (arith, lt))
node_for clauses before (equation ∷ rest) zero lt =
    let clock = leading_clock clauses before (clause_of equation) in
    let cuts = cut_nodes (length before) (clock_cuts clock) in
    let own = own_node clock (length before) equation in (
      length cuts,
      own,
      get_left (cuts ++ own ∷ cut_nodes (length before) (side_cuts equation)) (nodes_from clauses (before ++ equation ∷ []) rest) (length cuts) own
          (own_at cuts own (cut_nodes (length before) (side_cuts equation))),
      (let e : length before ≡ length before + 0 = omega arith in e),
      refl,
    )
node_for clauses before (equation ∷ rest) (suc k) lt =
    let nodes = nodes_of_equation (leading_clock clauses before (clause_of equation)) (length before) equation in
    let (j, node, at, is, none) = node_for clauses (before ++ equation ∷ []) rest k (omega (arith, lt)) in
    let size : length (before ++ equation ∷ []) ≡ length before + 1 = length-append before (equation ∷ []) in
    (length nodes + j, node, get_right nodes (nodes_from clauses (before ++ equation ∷ []) rest) j ∙ at, omega (arith, is, size), none)

pub ready : (model : FlatModel) (terms : Terms) (classes : Classes) (clocking : Clocking) (table : Table) (instants : List Ratio)
    → AreTermsOf model terms → AreClassesOf model classes → IsClockingOf model terms classes clocking
    → IsReady (record { model = model; clocking = clocking; table = table; instants = instants })
ready model terms classes clocking table instants are_terms are_classes is = record {
  classes = record {
    names = is.name_count;
    equations = is.equation_count;
    partitions = is.partition_count ∙ sym is.clock_count;
    of_name = λ x d lt. name_at x d lt;
    of_equation = λ k d lt. equation_at k d lt;
  };
  clocks = is.limits;
  inputs = λ x (name, at, input). ap (λ o. flattened o) (is.names x name at ∙ ap (λ b. Some (if b then None else number_in classes (class_in classes x))) input);
}
  where
    name_at : (x : ℕ) (d : Option ℕ) → x < length clocking.of_name → IsClassBelow (length clocking.clocks) (get_or clocking.of_name x d)
    name_at x d lt =
        let e : FlatName = record { text = []; kind = kind.Integer; input = false; start = value.Bool false } in
        let size = is.name_count in
        let name = get_or model.names x e in
        let at = slice_get-get_or model.names x e (omega (arith, size, lt)) in
        subst (λ o. IsClassBelow (length clocking.clocks) o) (sym (get_or_from_slice_get clocking.of_name x (class_of_name classes x name) d (is.names x name at)))
        (name_below classes (length clocking.clocks) x name is.clock_count)

    equation_at : (k : ℕ) (d : Option ℕ) → k < length clocking.of_equation → IsClassBelow (length clocking.clocks) (get_or clocking.of_equation k d)
    equation_at k d lt =
        let size = is.equation_count in
        let (j, node, at, same, none) = node_for model.clauses [] model.equations k (omega (arith, size, lt)) in
        let equal : node.equation ≡ k = same ∙ (let e : 0 + k ≡ k = omega arith in e) in
        let entry = ap (λ n. slice_get clocking.of_equation n) (sym equal) ∙ is.equations j node at none in
        subst (λ o. IsClassBelow (length clocking.clocks) o) (sym (get_or_from_slice_get clocking.of_equation k (number_in classes (class_in classes (numbered model j))) d entry))
        (number_below classes (length clocking.clocks) (class_in classes (numbered model j)) is.clock_count)
