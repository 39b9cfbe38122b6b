-- Lists of parts that are read one after the other.
use Rattle.std.proofs.Common.{◌≡◌, refl, ap, sym, ℕ, ◌≤◌, List, [], ◌∷◌, ◌++◌, length, drop, Option, Some, None, option_map, append_assoc}
use Rattle.std.proofs.Math.ListN.{drop_of_length-le}
use Rattle.flat_model.specs.declared.expression.Expr.{Expr}
use Rattle.flat_model.specs.declared.model.FlatName.{FlatName}
use Rattle.flat_model.specs.declared.model.NameKind.{NameKind}
use Rattle.flat_types.specs.declared.outcome.Outcome.{Outcome}
use Rattle.flat_types.specs.Outcomes.{as_value, as_values}
use Rattle.flat_types.specs.Readings.{in_turn}

-- what is found, and the rest where there is one
abbrev pub behind : {A : Type 0} → List A → Option (List A) → Option (List A)
behind found None = None
behind found (Some rest) = Some (found ++ rest)

behind-more : {A : Type 0} (found : List A) (x : A) (rest : Option (List A)) → behind found (option_map (λ xs. x ∷ xs) rest) ≡ behind (found ++ x ∷ []) rest
behind-more found x None = refl
behind-more found x (Some rest) = ap Some (sym (append_assoc found (x ∷ []) rest))

module _ (names : List FlatName) where
  -- one more part is an expression
  pub values_more : (found : List Expr) (expr : Expr) (type : NameKind) (part : Outcome) (rest : List Outcome) → as_value names part ≡ Some (expr, type)
      → behind found (as_values names (part ∷ rest)) ≡ behind (found ++ expr ∷ []) (as_values names rest)
  values_more found expr type part rest is = rw is (behind-more found expr (as_values names rest))

  -- a part is no expression
  pub values_none : (found : List Expr) (part : Outcome) (rest : List Outcome) → as_value names part ≡ None → behind found (as_values names (part ∷ rest)) ≡ None
  values_none found part rest is = rw is refl

turn_left : (branches : List Outcome) (other : Outcome) → in_turn [] branches other ≡ other ∷ []
turn_left branches other = refl

turn_right : (conditions : List Outcome) (other : Outcome) → in_turn conditions [] other ≡ other ∷ []
turn_right [] other = refl
turn_right (condition ∷ conditions) other = refl

-- behind the last condition or branch only the last branch is left
pub no_condition : (conditions branches : List Outcome) (other : Outcome) (n : ℕ) → length conditions ≤ n → in_turn (drop n conditions) (drop n branches) other ≡ other ∷ []
no_condition conditions branches other n past = rw (drop_of_length-le conditions past) (turn_left (drop n branches) other)

pub no_branch : (conditions branches : List Outcome) (other : Outcome) (n : ℕ) → length branches ≤ n → in_turn (drop n conditions) (drop n branches) other ≡ other ∷ []
no_branch conditions branches other n past = rw (drop_of_length-le branches past) (turn_right (drop n conditions) other)
