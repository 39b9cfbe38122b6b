-- How many equations the groups of instances are.
use Rattle.std.proofs.Common.{◌≡◌, refl, ◌∙◌, ℕ, suc, Bool, true, false, List, [], ◌∷◌, map, flat_map, length, Option, Some, None, arith, length-append}
use Rattle.std.specs.List.{sum_by}
use Rattle.std.proofs.lemmas.List.{length-map}
use Rattle.std.proofs.lemmas.List.Sums.{sum_by-cons}
use Rattle.mo_parser.specs.declared.tree.ClassDef.{ClassDef}
use Rattle.mo_parser.specs.declared.tree.TreeEq.{TreeEq}
use Rattle.mo_parser.specs.declared.tree.TreeEq.TheOpen.{TreeEq-F}
use Rattle.mo_parser.specs.declared.tree.TreeEq.TheViews.{out-TreeEq}
use Rattle.flat_model.specs.declared.raw.RawExpr.{RawExpr}
use Rattle.class_scopes.specs.Spelled.{Ident}
use Rattle.class_scopes.specs.Types.{class_equations}
use Rattle.flat_instances.specs.Instances.{Placed, Item, Declared, Own}
use Rattle.parameter_values.specs.Values.{Values, is_parameter}
use Rattle.flat_expressions.specs.Expressions.{NumberOf, expr_of}
use Rattle.flat_expressions.specs.Equations.{Sides, Group, Alone, Clause, clause, in_clause, equations_from, sides_by, sides_at, groups_by, groups_at, groups_of, groups, binding_sides}
use Rattle.instance_totals.proofs.Sums.{sum_of_parts, same_sum}
use Rattle.class_sizes.specs.Equations.{inside_by, inside_equations, equations_by, equations_at}
use Rattle.item_sizes.specs.Items.{binding_equations, item_equations}

abbrev group_size : Group → ℕ
group_size (Alone sides) = 1
group_size (Clause clock inside) = length inside

sizes_of : (clause : ℕ) (all : List Group) → length (equations_from clause all) ≡ sum_by group_size all
sizes_of clause [] = refl
sizes_of clause (Alone sides ∷ all) =
    let rest = sizes_of clause all in
    let whole = sum_by-cons group_size (Alone sides) all in
    omega (arith, rest, whole)
sizes_of clause (Clause clock inside ∷ all) =
    let rest = sizes_of (suc clause) all in
    let whole = sum_by-cons group_size (Clause clock inside) all in
    let parts = length-append (map (in_clause (Some clause)) inside) (equations_from (suc clause) all) in
    let here = length-map inside (in_clause (Some clause)) in
    omega (arith, rest, whole, parts, here)

clause_size : (clock : RawExpr) (sides : List Sides) → sum_by group_size (clause clock sides) ≡ length sides
clause_size clock [] = refl
clause_size clock (side ∷ sides) = sum_by-cons group_size (Clause clock (side ∷ sides)) [] ∙ omega arith

length_parts : {A B : Type 0} (f : A → List B) (xs : List A) → length (flat_map f xs) ≡ sum_by (λ x. length (f x)) xs
length_parts f [] = refl
length_parts f (x ∷ xs) =
    let rest = length_parts f xs in
    let whole = sum_by-cons (λ y. length (f y)) x xs in
    let parts = length-append (f x) (flat_map f xs) in
    omega (arith, rest, whole, parts)

module _ (text : List ℕ) (values : Values) (number : NumberOf) where
  inside_size : (scope : Ident) (layer : TreeEq-F TreeEq) → length (sides_by text values number scope layer) ≡ inside_by layer
  inside_size scope (TreeEq-F.Equal left right) = refl
  inside_size scope (TreeEq-F.Connect a b) = refl
  inside_size scope (TreeEq-F.When clock inside) = refl

  layer_size : (scope : Ident) (layer : TreeEq-F TreeEq) → sum_by group_size (groups_by text values number scope layer) ≡ equations_by layer
  layer_size scope (TreeEq-F.Equal left right) = refl
  layer_size scope (TreeEq-F.Connect a b) = refl
  layer_size scope (TreeEq-F.When clock inside) =
      clause_size (expr_of text values number scope clock) (flat_map (sides_at text values number scope) inside)
      ∙ length_parts (sides_at text values number scope) inside
      ∙ same_sum (λ e. length (sides_at text values number scope e)) inside_equations (λ e. inside_size scope (out-TreeEq e)) inside

  binding_size : (fixed : Bool) (name : Ident) (binding : Option Placed)
      → sum_by group_size (map Alone (binding_sides text values number fixed name binding)) ≡ binding_equations fixed binding
  binding_size true name None = refl
  binding_size false name None = refl
  binding_size true name (Some placed) = refl
  binding_size false name (Some placed) = refl

  module _ (classes : List ClassDef) where
    item_size : (item : Item) → sum_by group_size (groups_of text values number classes item) ≡ item_equations text classes item
    item_size (Declared v) = binding_size (is_parameter v) v.name v.binding
    item_size (Own scope class) =
        sum_of_parts group_size (groups_at text values number scope) (class_equations text classes class)
        ∙ same_sum (λ e. sum_by group_size (groups_at text values number scope e)) equations_at (λ e. layer_size scope (out-TreeEq e)) (class_equations text classes class)

    -- the equations of items, without those of connections
    pub equations_counted : (clause : ℕ) (all : List Item) → length (equations_from clause (groups text values number classes all)) ≡ sum_by (item_equations text classes) all
    equations_counted clause all =
        sizes_of clause (groups text values number classes all) ∙ sum_of_parts group_size (groups_of text values number classes) all
        ∙ same_sum (λ item. sum_by group_size (groups_of text values number classes item)) (item_equations text classes) item_size all
