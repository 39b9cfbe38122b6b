-- What values still miss, by the numbers of parameters.
use Rattle.std.specs.Prelude.{ℕ, nat_lt, List, [], ◌∷◌, ◌++◌, flat_map, Option, Some, None, Bool, true, false, ◌&&◌, ◌||◌, not, is_some, if◌then◌else◌}
use Rattle.mo_order.specs.Graphs.{Graph, IsOrder, IsLeastOnCycle}
use Rattle.mo_order.specs.Values.{Slots}
use Rattle.mo_parser.specs.declared.tree.Path.{Path}
use Rattle.mo_parser.specs.declared.tree.TreeExpr.{TreeExpr}
use Rattle.flat_model.specs.declared.model.NameKind.{NameKind}
use Rattle.class_scopes.specs.Spelled.{Ident, idents, dotted, is_time}
use Rattle.class_scopes.specs.Tables.{Numbered, number_of}
use Rattle.scope_names.specs.Written.{names_in}
use Rattle.flat_instances.specs.Instances.{Placed}
use Rattle.parameter_values.specs.declared.evaluate.Outcome.{Outcome}
use Rattle.parameter_values.specs.Values.{of_kind}
use Rattle.parameter_values.specs.Slots.{value_at}
use Rattle.parameter_values.specs.Outcomes.{answer_of}
use Rattle.parameter_values.specs.Givens.{Valued, value_with}
use Rattle.value_rules.specs.declared.missing.Needs.{Needs as KeptNeeds}
use Rattle.value_rules.specs.Needs.{Needs, needed}

abbrev pub is_no_value : Option NameKind → Outcome → Bool
is_no_value kind outcome = not (is_some (of_kind kind (answer_of outcome)))

abbrev pub is_missing : Slots → ℕ → ℕ → Bool
is_missing slots count number = nat_lt number count && not (is_some (value_at slots number))

-- the least number on a cycle, or there is an order
abbrev pub IsFirstWaiting : Graph → Option ℕ → Type 0
IsFirstWaiting graph (Some x) = IsLeastOnCycle graph x
IsFirstWaiting graph None = (order : List ℕ) × IsOrder graph order

module _ (text : List ℕ) (table : Numbered) (slots : Slots) (count : ℕ) where
  abbrev pub missing_number : Option ℕ → List ℕ
  missing_number (Some number) = if is_missing slots count number then number ∷ [] else []
  missing_number None = []

  abbrev pub missing_read : Ident → Path → List ℕ
  missing_read scope path = if is_time (idents text path) then [] else missing_number (number_of table (scope ++ dotted (idents text path)))

  abbrev pub missing_reads : Ident → TreeExpr → List ℕ
  missing_reads scope expr = flat_map (missing_read scope) (names_in expr)

  abbrev pub unless_value : Bool → Placed → Option (List ℕ)
  unless_value true placed = Some (missing_reads placed.scope placed.expr)
  unless_value false placed = None

  -- where an expression gives no value, the parameters without one that it reads
  abbrev pub missing_for : Option NameKind → Option Placed → Option (List ℕ)
  missing_for kind (Some placed) = unless_value (not (is_some (value_with text table slots (kind, Some placed)))) placed
  missing_for kind None = None

  abbrev pub missing_of : Valued → Option (List ℕ)
  missing_of valued = missing_for valued.0 valued.1

  abbrev pub or_none : Option (List ℕ) → List ℕ
  or_none (Some reads) = reads
  or_none None = []

  abbrev pub waiting : Valued → List ℕ
  waiting valued = or_none (missing_of valued)

  abbrev pub reads_none : Option (List ℕ) → Bool
  reads_none (Some []) = true
  reads_none _ = false

  abbrev pub fails : Valued → Bool
  fails valued = reads_none (missing_of valued)

  abbrev pub either_fails : Needs → Bool
  either_fails needs = fails needs.0 || fails needs.1

  abbrev pub failing : KeptNeeds → Bool
  failing needs = either_fails (needed needs)
