-- The reading of an expression whose types are not known yet: what each node is, the parts before it.
use Rattle.std.specs.Prelude.{ℕ, ◌==◌, Bool, true, false, List, [], ◌∷◌, length, map, Option, Some, None, Result, Ok, Err, is_none, option_map, if◌then◌else◌}
use Rattle.std.specs.List.{list_all, list_any}
use Rattle.sync_values.specs.declared.value.Rel.{Rel}
use Rattle.sync_values.specs.declared.value.ChainOp.{ChainOp}
use Rattle.sync_values.specs.declared.value.ChainOp.TheVariants.{Times, Over, And, Or}
use Rattle.flat_model.specs.declared.model.NameKind.{NameKind}
use Rattle.flat_model.specs.declared.model.NameKind.TheVariants as kind
use Rattle.flat_model.specs.declared.model.FlatName.{FlatName}
use Rattle.flat_model.specs.declared.expression.Expr.{Expr}
use Rattle.flat_model.specs.declared.expression.Expr.TheVariants as e
use Rattle.flat_model.specs.declared.expression.Fun.{Fun}
use Rattle.flat_model.specs.declared.clock.Conversion.TheVariants as by
use Rattle.flat_model.specs.declared.clock.ClockExpr.TheVariants as c
use Rattle.flat_model.specs.declared.raw.RawExpr.{RawExpr}
use Rattle.flat_model.specs.declared.raw.RawExpr.TheOpen.{RawExpr-F}
use Rattle.flat_model.specs.declared.raw.RawExpr.TheFolds.{fold-RawExpr}
use Rattle.flat_model.specs.Typing.{is_type, type_of_value, arity, chain_type, relation_type, if_type, typed_if}
use Rattle.flat_types.specs.declared.ends.TypeCode.{TypeCode}
use Rattle.flat_types.specs.declared.ends.TypeCode.TheVariants.{Y1, Y3, Y4, Y5}
use Rattle.flat_types.specs.declared.outcome.Outcome.{Outcome}
use Rattle.flat_types.specs.declared.outcome.Outcome.TheVariants.{Name, Valued, Clocked, Broken}
use Rattle.flat_types.specs.declared.callee.Callee.{Callee}
use Rattle.flat_types.specs.declared.callee.Callee.TheVariants.{Arithmetic, Integer, Interval, Operator, Sample, Clock, LeftOut}
use Rattle.flat_types.specs.declared.callee.Operator as op
use Rattle.flat_types.specs.declared.callee.Operator.TheVariants as operator
use Rattle.flat_types.specs.Callees.{callee}
use Rattle.flat_types.specs.Outcomes.{first_broken, counter, kind_of_name, as_value, as_clock, as_values, type_of_part, made, component, of_variable, converted, both, clock_of, clocked, clock_by, sampled}

-- a node: what it is; what it is as a factor of the interval form, and as the argument of `integer`; the type that its
-- form gives where its parts break no rule and the call is of a known function with a right number of arguments
pub record Reading : Type 0 where
  pub found : Outcome
  pub interval : Option (Result (Option ℕ) TypeCode)
  pub product : Option (Result (Option ℕ × Outcome) TypeCode)
  pub gives : Option NameKind

-- a node that is no interval and no product with one
abbrev pub plain : Outcome → Option NameKind → Reading
plain found gives = record { found = found; interval = None; product = None; gives = gives }

abbrev pub found_in : List Reading → List Outcome
found_in parts = map (λ part. part.found) parts

-- what a node is where no part breaks a rule
abbrev pub after : List Outcome → Outcome → Outcome
after parts own = after_first (first_broken parts)
  where
    after_first : Option TypeCode → Outcome
    after_first (Some code) = Broken code
    after_first None = own

-- the same of two parts, and of one
abbrev pub after_both : Outcome → Outcome → Outcome → Outcome
after_both left right own = after (left ∷ right ∷ []) own

abbrev pub after_one : Outcome → Outcome → Outcome
after_one part own = after (part ∷ []) own

-- both parts, where both are expressions
abbrev pub both_of : (Expr → Expr → Expr) → Option (Expr × NameKind) → Option (Expr × NameKind) → Option Expr
both_of make (Some a) (Some b) = Some (make a.0 b.0)
both_of make _ _ = None

-- a choice, where all parts are expressions
abbrev pub all_three : Option (List Expr) → Option (List Expr) → Option (Expr × NameKind) → Option Expr
all_three (Some a) (Some b) (Some c) = Some (e.If a b c.0)
all_three _ _ _ = None

-- a type that is given only where no part breaks a rule
abbrev pub given : List Outcome → Option NameKind → Option NameKind
given parts type = if is_none (first_broken parts) then type else None

abbrev pub is_quotient : ChainOp → Bool
is_quotient Over = true
is_quotient _ = false

-- one operator, a product
abbrev pub is_times : List ChainOp → Bool
is_times (Times ∷ []) = true
is_times _ = false

abbrev pub chain_gives : List ChainOp → Option NameKind
chain_gives [] = None
chain_gives (And ∷ ops) = Some kind.Boolean
chain_gives (Or ∷ ops) = Some kind.Boolean
chain_gives (op ∷ ops) = Some kind.Integer

abbrev pub same_type : Option NameKind → Option NameKind → Bool
same_type (Some type) other = is_type type other
same_type None other = false

-- conditions and branches in the order of the text, and the last branch
abbrev pub in_turn : List Outcome → List Outcome → Outcome → List Outcome
in_turn (condition ∷ conditions) (branch ∷ branches) other = condition ∷ (branch ∷ in_turn conditions branches other)
in_turn conditions branches other = other ∷ []

-- the interval form of a name and a factor
abbrev pub with_counter : Option ℕ → Outcome → Outcome
with_counter u k = by_counter (counter 1 k)
  where
    by_counter : Option ℕ → Outcome
    by_counter (Some n) = Valued (e.IntervalTimes u n) kind.Integer
    by_counter None = Broken Y4

abbrev pub of_product : Result (Option ℕ × Outcome) TypeCode → Outcome
of_product (Ok product) = with_counter product.0 product.1
of_product (Err code) = Broken code

-- an interval and a factor, the first factor's rules first
abbrev pub first_interval : Result (Option ℕ) TypeCode → Outcome → Result (Option ℕ × Outcome) TypeCode
first_interval (Err code) k = Err code
first_interval (Ok u) (Broken code) = Err code
first_interval (Ok u) k = Ok (u, k)

abbrev pub second_interval : Outcome → Result (Option ℕ) TypeCode → Result (Option ℕ × Outcome) TypeCode
second_interval (Broken code) interval = Err code
second_interval k (Err code) = Err code
second_interval k (Ok u) = Ok (u, k)

-- what `integer` is of an argument with a product that is an interval and a factor, or without
abbrev pub integer_found : Outcome → Option (Result (Option ℕ × Outcome) TypeCode) → Outcome
integer_found found (Some product) = of_product product
integer_found found None = after_one found (Broken Y1)

abbrev pub integer_gives : Outcome → Option (Result (Option ℕ × Outcome) TypeCode) → Option NameKind
integer_gives found (Some (Ok product)) = Some kind.Integer
integer_gives found (Some (Err code)) = None
integer_gives found None = given (found ∷ []) (Some kind.Integer)

-- an interval outside its form
abbrev pub interval_alone : List Outcome → Outcome
interval_alone [] = Broken Y5
interval_alone (part ∷ []) = Broken Y5
interval_alone _ = Broken Y3

module _ (names : List FlatName) where
  abbrev pub types_of : List Outcome → List (Option NameKind)
  types_of parts = map (type_of_part names) parts

  -- a name in any place, with the type Clock
  abbrev pub gives_of : Outcome → Option NameKind
  gives_of (Name x) = kind_of_name names x
  gives_of (Valued expr type) = Some type
  gives_of (Clocked clock) = Some kind.Clock
  gives_of (Broken code) = None

  -- a name as an argument, whatever rule it breaks there
  abbrev pub name_gives : Outcome → Option NameKind
  name_gives (Name x) = kind_of_name names x
  name_gives _ = None

  abbrev pub chain_found : List Outcome → List ChainOp → Outcome
  chain_found parts ops =
      if list_any is_quotient ops then Broken Y5
      else made (chain_type (types_of parts) ops) (option_map (λ exprs. e.Chain exprs ops) (as_values names parts))

  abbrev pub relation_found : Rel → Outcome → Outcome → Outcome
  relation_found rel left right =
      made (relation_type (type_of_part names left) (type_of_part names right))
      (both_of (λ a b. e.Relation rel a b) (as_value names left) (as_value names right))

  abbrev pub single_found : (Expr → Expr) → NameKind → Outcome → Outcome
  single_found make type part =
      made (typed_if (is_type type (type_of_part names part)) type) (option_map (λ typed. make typed.0) (as_value names part))

  abbrev pub if_found : List Outcome → List Outcome → Outcome → Outcome
  if_found conditions branches other =
      made (if_type (types_of conditions) (types_of branches) (type_of_part names other))
      (all_three (as_values names conditions) (as_values names branches) (as_value names other))

  -- the calls, whose arguments break no rule; first the number of arguments, then the rules in the order Y5, Y2, Y4, Y1
  abbrev pub arithmetic : Fun → List Outcome → Outcome
  arithmetic function parts =
      if length parts == arity function then made (typed_if (list_all (is_type kind.Integer) (types_of parts)) kind.Integer)
      (option_map (λ exprs. e.Apply function exprs) (as_values names parts)) else Broken Y3

  -- a variable as an argument: any component, or no input
  abbrev pub variable : Bool → Outcome → Result (ℕ × NameKind) TypeCode
  variable refuses part = of_component (component names refuses part)
    where
      of_kind : ℕ → Option NameKind → Result (ℕ × NameKind) TypeCode
      of_kind x (Some kind.Integer) = Ok (x, kind.Integer)
      of_kind x (Some kind.Boolean) = Ok (x, kind.Boolean)
      of_kind x _ = Err Y1

      of_component : Result ℕ TypeCode → Result (ℕ × NameKind) TypeCode
      of_component (Ok x) = of_kind x (kind_of_name names x)
      of_component (Err code) = Err code

  -- what is made of a variable
  abbrev pub previous_found : Outcome → Outcome
  previous_found u = of_variable (λ x type. Valued (e.Previous x) type) (variable false u)

  abbrev pub hold_found : Outcome → Outcome
  hold_found u = of_variable (λ x type. Valued (e.Hold x) type) (variable true u)

  abbrev pub no_clock_found : Outcome → Outcome
  no_clock_found u = of_variable (λ x type. Valued (e.Convert by.NoClock x) type) (variable true u)

  abbrev pub first_tick_found : Outcome → Outcome
  first_tick_found u = of_variable (λ x type. Valued (e.FirstTick (Some x)) kind.Boolean) (variable false u)

  -- an operator of clocked variables, with the names that it takes
  abbrev pub operator_found : op.Operator → List Outcome → Outcome
  operator_found operator.Previous (u ∷ []) = previous_found u
  operator_found operator.Hold (u ∷ []) = hold_found u
  operator_found operator.NoClock (u ∷ []) = no_clock_found u
  operator_found operator.FirstTick [] = Valued (e.FirstTick None) kind.Boolean
  operator_found operator.FirstTick (u ∷ []) = first_tick_found u
  operator_found operator.SubSample (u ∷ []) = converted names (component names true u) (Some (by.Sub 0))
  operator_found operator.SubSample (u ∷ (f ∷ [])) = converted names (component names true u) (option_map (λ n. by.Sub n) (counter 0 f))
  operator_found operator.SuperSample (u ∷ []) = converted names (component names true u) (Some (by.Super 0))
  operator_found operator.SuperSample (u ∷ (f ∷ [])) = converted names (component names true u) (option_map (λ n. by.Super n) (counter 0 f))
  operator_found operator.ShiftSample (u ∷ (k ∷ [])) = converted names (component names true u) (option_map (λ n. by.Shift n 1) (counter 0 k))
  operator_found operator.ShiftSample (u ∷ (k ∷ (r ∷ []))) = converted names (component names true u) (both (λ m n. by.Shift m n) (counter 0 k) (counter 1 r))
  operator_found operator.BackSample (u ∷ (k ∷ [])) = converted names (component names true u) (option_map (λ n. by.Back n 1) (counter 0 k))
  operator_found operator.BackSample (u ∷ (k ∷ (r ∷ []))) = converted names (component names true u) (both (λ m n. by.Back m n) (counter 0 k) (counter 1 r))
  operator_found _ parts = Broken Y3

  -- the left limit of an expression, on a clock that is given or inferred
  abbrev pub sample_found : List Outcome → Outcome
  sample_found (part ∷ []) = sampled (as_value names part) (Some None)
  sample_found (part ∷ (clock ∷ [])) = sampled (as_value names part) (option_map (λ it. Some it) (as_clock names clock))
  sample_found parts = Broken Y3

  -- a clock by a counter and a resolution, by a condition, or inferred
  abbrev pub clock_found : List Outcome → Outcome
  clock_found [] = Clocked c.Inferred
  clock_found (part ∷ []) = clock_by part (as_value names part)
  clock_found (n ∷ (r ∷ [])) = clocked (both clock_of (counter 0 n) (counter 1 r)) Y4
  clock_found parts = Broken Y3

  -- a call whose arguments break no rule
  abbrev pub call_found : Callee → List Outcome → Outcome
  call_found (Arithmetic function) parts = arithmetic function parts
  call_found (Operator called) parts = operator_found called parts
  call_found Sample parts = sample_found parts
  call_found Clock parts = clock_found parts
  call_found Interval parts = interval_alone parts
  call_found LeftOut parts = Broken Y5
  call_found _ parts = Broken Y3

  -- the type that a call gives by its form
  abbrev pub operator_gives : op.Operator → List Outcome → Option NameKind
  operator_gives operator.FirstTick [] = Some kind.Boolean
  operator_gives operator.FirstTick (u ∷ []) = Some kind.Boolean
  operator_gives operator.Previous (u ∷ []) = name_gives u
  operator_gives operator.Hold (u ∷ []) = name_gives u
  operator_gives operator.NoClock (u ∷ []) = name_gives u
  operator_gives operator.SubSample (u ∷ []) = name_gives u
  operator_gives operator.SubSample (u ∷ (f ∷ [])) = name_gives u
  operator_gives operator.SuperSample (u ∷ []) = name_gives u
  operator_gives operator.SuperSample (u ∷ (f ∷ [])) = name_gives u
  operator_gives operator.ShiftSample (u ∷ (k ∷ [])) = name_gives u
  operator_gives operator.ShiftSample (u ∷ (k ∷ (r ∷ []))) = name_gives u
  operator_gives operator.BackSample (u ∷ (k ∷ [])) = name_gives u
  operator_gives operator.BackSample (u ∷ (k ∷ (r ∷ []))) = name_gives u
  operator_gives _ parts = None

  abbrev pub call_gives : Callee → List Outcome → Option NameKind
  call_gives (Arithmetic function) parts = if length parts == arity function then Some kind.Integer else None
  call_gives (Operator called) parts = operator_gives called parts
  call_gives Sample (part ∷ []) = gives_of part
  call_gives Sample (part ∷ (clock ∷ [])) = gives_of part
  call_gives Clock [] = Some kind.Clock
  call_gives Clock (part ∷ []) = Some kind.Clock
  call_gives Clock (n ∷ (r ∷ [])) = Some kind.Clock
  call_gives _ parts = None

  -- a choice gives the type of its branches, where they give one
  abbrev pub choice_gives : List Outcome → List Outcome → Outcome → Option NameKind
  choice_gives conditions branches other = given (in_turn conditions branches other) (branch_type (gives_of other))
    where
      branch_type : Option NameKind → Option NameKind
      branch_type type = if list_all (λ branch. same_type type (gives_of branch)) branches then type else None

  -- a part that gives a Boolean
  abbrev pub gives_boolean : Outcome → Bool
  gives_boolean part = is_type kind.Boolean (gives_of part)

  -- the variable whose interval is asked for
  abbrev pub interval_name : Outcome → Result ℕ TypeCode
  interval_name (Broken code) = Err code
  interval_name u = on_component (component names false u)
    where
      on_kind_of : ℕ → Option NameKind → Result ℕ TypeCode
      on_kind_of x (Some kind.Integer) = Ok x
      on_kind_of x (Some kind.Boolean) = Ok x
      on_kind_of x _ = Err Y1

      on_component : Result ℕ TypeCode → Result ℕ TypeCode
      on_component (Ok x) = on_kind_of x (kind_of_name names x)
      on_component (Err code) = Err code

  -- `interval(u)`, u optional, as a factor of its form
  abbrev pub interval_of : Callee → List Outcome → Option (Result (Option ℕ) TypeCode)
  interval_of Interval [] = Some (Ok None)
  interval_of Interval (u ∷ []) = Some (named (interval_name u))
    where
      named : Result ℕ TypeCode → Result (Option ℕ) TypeCode
      named (Ok x) = Ok (Some x)
      named (Err code) = Err code
  interval_of _ parts = None

  -- two factors, one an interval: what the product is in its form
  abbrev pub product_of_two : List Reading → Option (Result (Option ℕ × Outcome) TypeCode)
  product_of_two (a ∷ (b ∷ [])) = by_factors a.interval b.interval
    where
      by_factors : Option (Result (Option ℕ) TypeCode) → Option (Result (Option ℕ) TypeCode) → Option (Result (Option ℕ × Outcome) TypeCode)
      by_factors (Some interval) other = Some (first_interval interval b.found)
      by_factors None (Some interval) = Some (second_interval a.found interval)
      by_factors None None = None
  product_of_two parts = None

  abbrev pub product_of : List Reading → List ChainOp → Option (Result (Option ℕ × Outcome) TypeCode)
  product_of parts ops = if is_times ops then product_of_two parts else None

  -- `integer` of one argument: the interval form, or a rule that is broken
  abbrev pub integer_read : Reading → Reading
  integer_read part = record { found = integer_found part.found part.product; interval = None; product = None; gives = integer_gives part.found part.product }

  abbrev pub call_read : Callee → List Reading → Reading
  call_read Integer (part ∷ []) = integer_read part
  call_read Integer parts = plain (after (found_in parts) (Broken Y3)) None
  call_read called parts = record {
    found = after (found_in parts) (call_found called (found_in parts));
    interval = interval_of called (found_in parts);
    product = None;
    gives = given (found_in parts) (call_gives called (found_in parts));
  }

  abbrev pub read_level : RawExpr-F Reading → Reading
  read_level (RawExpr-F.Const v) = plain (Valued (e.Const v) (type_of_value v)) (Some (type_of_value v))
  read_level (RawExpr-F.Name x) = plain (Name x) (kind_of_name names x)
  read_level (RawExpr-F.Call name parts) = call_read (callee name) parts
  read_level (RawExpr-F.Chain parts ops) = record {
    found = after (found_in parts) (chain_found (found_in parts) ops);
    interval = None;
    product = product_of parts ops;
    gives = given (found_in parts) (chain_gives ops);
  }
  read_level (RawExpr-F.Relation rel left right) =
      plain (after (left.found ∷ right.found ∷ []) (relation_found rel left.found right.found)) (given (left.found ∷ right.found ∷ []) (Some kind.Boolean))
  read_level (RawExpr-F.Neg part) = plain (after (part.found ∷ []) (single_found (λ it. e.Neg it) kind.Integer part.found)) (given (part.found ∷ []) (Some kind.Integer))
  read_level (RawExpr-F.Not part) = plain (after (part.found ∷ []) (single_found (λ it. e.Not it) kind.Boolean part.found)) (given (part.found ∷ []) (Some kind.Boolean))
  read_level (RawExpr-F.Power left right) = plain (after (left.found ∷ right.found ∷ []) (Broken Y5)) None
  read_level (RawExpr-F.If conditions branches other) =
      plain (after (in_turn (found_in conditions) (found_in branches) other.found) (if_found (found_in conditions) (found_in branches) other.found))
      (choice_gives (found_in conditions) (found_in branches) other.found)
  read_level RawExpr-F.Time = plain (Broken Y5) None

  -- what an expression is, or the first rule that a node of it breaks
  unfoldable pub reading : RawExpr → Reading
  reading = fold-RawExpr Reading read_level

  -- the same, alone
  abbrev pub node_of : RawExpr → Outcome
  node_of raw = (reading raw).found
