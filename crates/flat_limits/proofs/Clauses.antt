-- Each clause has an equation.
use Rattle.std.proofs.Common.{◌≡◌, ap, sym, ◌∙◌, ℕ, zero, suc, ◌+◌, ◌<◌, ◌≤◌, Bool, true, false, List, [], ◌∷◌, ◌++◌, map, flat_map, length, Option, Some, None, length-append, arith}
use Rattle.std.proofs.lemmas.List.{length-map}
use Rattle.mo_parser.specs.declared.tree.ClassDef.{ClassDef}
use Rattle.mo_parser.specs.declared.tree.TreeEq.{TreeEq}
use Rattle.mo_parser.specs.declared.tree.TreeEq.TheOpen.{TreeEq-F}
use Rattle.mo_parser.specs.declared.tree.TreeEq.TheViews.{out-TreeEq}
use Rattle.flat_model.specs.declared.raw.RawExpr.{RawExpr}
use Rattle.class_scopes.specs.Spelled.{Ident}
use Rattle.class_scopes.specs.Types.{class_equations}
use Rattle.flat_instances.specs.Instances.{Item, Declared, Own}
use Rattle.parameter_values.specs.Values.{Values, is_parameter}
use Rattle.flat_expressions.specs.Expressions.{NumberOf, expr_of}
use Rattle.flat_expressions.specs.Equations.{Sides, Group, Alone, Clause, in_clause, equations_from, clocks_of, clause, sides_in, groups_by, groups_at, binding_sides, groups_of, groups}

abbrev pub IsFull : Group → Type 0
IsFull (Alone sides) = Unit {0}
IsFull (Clause clock inside) = 0 < length inside

abbrev pub AreFull : List Group → Type 0
AreFull [] = Unit {0}
AreFull (group ∷ rest) = IsFull group × AreFull rest

full_append : (xs ys : List Group) → AreFull xs → AreFull ys → AreFull (xs ++ ys)
full_append [] ys one other = other
full_append (x ∷ xs) ys one other = (one.0, full_append xs ys one.1 other)

full_all : {A : Type 0} (f : A → List Group) → ((x : A) → AreFull (f x)) → (xs : List A) → AreFull (flat_map f xs)
full_all f each [] = tt
full_all f each (x ∷ xs) = full_append (f x) (flat_map f xs) (each x) (full_all f each xs)

full_alone : (all : List Sides) → AreFull (map Alone all)
full_alone [] = tt
full_alone (sides ∷ all) = (tt, full_alone all)

full_clause : (clock : RawExpr) (inside : List Sides) → AreFull (clause clock inside)
full_clause clock [] = tt
full_clause clock (sides ∷ rest) = (omega arith, tt)

module _ (text : List ℕ) (values : Values) (number : NumberOf) where
  full_by : (scope : Ident) (equation : TreeEq-F TreeEq) → AreFull (groups_by text values number scope equation)
  full_by scope (TreeEq-F.Equal left right) = (tt, tt)
  full_by scope (TreeEq-F.When clock inside) = full_clause (expr_of text values number scope clock) (sides_in text values number scope inside)
  full_by scope (TreeEq-F.Connect a b) = tt

  full_of : (classes : List ClassDef) (item : Item) → AreFull (groups_of text values number classes item)
  full_of classes (Declared v) = full_alone (binding_sides text values number (is_parameter v) v.name v.binding)
  full_of classes (Own scope class) = full_all (groups_at text values number scope) (λ equation. full_by scope (out-TreeEq equation)) (class_equations text classes class)

  pub are_full : (classes : List ClassDef) (items : List Item) → AreFull (groups text values number classes items)
  are_full classes items = full_all (groups_of text values number classes) (full_of classes) items

-- so there are no more clauses than equations
pub fewer_clauses : (k : ℕ) (all : List Group) → AreFull all → length (clocks_of all) ≤ length (equations_from k all)
fewer_clauses k [] full = omega arith
fewer_clauses k (Alone sides ∷ rest) full = let more = fewer_clauses k rest full.1 in omega (arith, more)
fewer_clauses k (Clause clock inside ∷ rest) full =
    let more = fewer_clauses (suc k) rest full.1 in
    let long = length-append (map (in_clause (Some k)) inside) (equations_from (suc k) rest) in
    let same = length-map inside (in_clause (Some k)) in
    omega (arith, more, long, same, full.0)
