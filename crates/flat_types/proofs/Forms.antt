-- Which nodes are intervals, and which are products with one.
use Rattle.std.proofs.Common.{◌≡◌, refl, ℕ, ◌≤◌, List, [], ◌∷◌, map, length, arith}
use Rattle.flat_model.specs.declared.model.FlatName.{FlatName}
use Rattle.flat_model.specs.declared.raw.RawExpr.{RawExpr}
use Rattle.flat_types.specs.declared.callee.Callee.{Callee}
use Rattle.flat_types.specs.declared.callee.Callee.TheVariants as to
use Rattle.std.proofs.Common.{ap, ◌∙◌, true, false, Bool, Option, Some, None, Result, Ok, Err}
use Rattle.sync_values.specs.declared.value.ChainOp.TheVariants.{Times}
use Rattle.flat_model.specs.declared.raw.RawExpr.TheVariants as r
use Rattle.flat_model.specs.declared.model.NameKind.TheVariants as kind
use Rattle.flat_model.specs.Typing.{is_type}
use Rattle.flat_types.specs.declared.ends.TypeCode.{TypeCode}
use Rattle.flat_types.specs.declared.ends.TypeCode.TheVariants.{Y3}
use Rattle.flat_types.specs.declared.outcome.Outcome.TheVariants.{Broken}
use Rattle.std.specs.Prelude.{is_none, if◌then◌else◌}
use Rattle.flat_types.specs.Outcomes.{first_broken}
use Rattle.flat_types.specs.Callees.{callee}
use Rattle.flat_types.specs.Readings.{Reading, reading, node_of, call_read, call_found, call_gives, given, after, product_of_two, interval_of, integer_found, integer_gives, of_product, first_interval, second_interval}
use Rattle.flat_types.proofs.Nodes.{reading-Call, reading-Chain, nodes_found}

module _ (names : List FlatName) where
  -- no call is a product
  pub no_call_product : (called : Callee) (parts : List Reading) → (call_read names called parts).product ≡ None
  no_call_product to.Integer [] = refl
  no_call_product to.Integer (part ∷ []) = refl
  no_call_product to.Integer (part ∷ (next ∷ parts)) = refl
  no_call_product (to.Arithmetic function) parts = refl
  no_call_product (to.Operator operator) parts = refl
  no_call_product to.Sample parts = refl
  no_call_product to.Clock parts = refl
  no_call_product to.Interval parts = refl
  no_call_product to.LeftOut parts = refl
  no_call_product to.Unknown parts = refl

  -- a call of another function is no interval
  pub no_call_interval : (called : Callee) (parts : List Reading) → (called ≡ to.Interval → ⊥) → (call_read names called parts).interval ≡ None
  no_call_interval to.Integer [] other = refl
  no_call_interval to.Integer (part ∷ []) other = refl
  no_call_interval to.Integer (part ∷ (next ∷ parts)) other = refl
  no_call_interval (to.Arithmetic function) parts other = refl
  no_call_interval (to.Operator operator) parts other = refl
  no_call_interval to.Sample parts other = refl
  no_call_interval to.Clock parts other = refl
  no_call_interval to.Interval parts other = absurd (other refl)
  no_call_interval to.LeftOut parts other = refl
  no_call_interval to.Unknown parts other = refl

  -- nor is one of two arguments or more
  pub long_call_interval : (called : Callee) (parts : List RawExpr) → called ≡ to.Interval → 2 ≤ length parts → (call_read names called (map (reading names) parts)).interval ≡ None
  long_call_interval called [] is long = absurd (omega arith)
  long_call_interval called (part ∷ []) is long = absurd (omega arith)
  long_call_interval called (part ∷ (next ∷ parts)) is long = rw is refl

  -- two factors are just two
  pub no_pair : (parts : List RawExpr) → (length parts ≡ 2 → ⊥) → product_of_two names (map (reading names) parts) ≡ None
  no_pair [] other = refl
  no_pair (a ∷ []) other = refl
  no_pair (a ∷ (b ∷ [])) other = absurd (other refl)
  no_pair (a ∷ (b ∷ (c ∷ parts))) other = refl

  -- `integer` takes one argument
  pub not_one : (parts : List RawExpr) → (length parts ≡ 1 → ⊥) → (call_read names to.Integer (map (reading names) parts)).found ≡ after (map (node_of names) parts) (Broken Y3)
  not_one [] other = refl
  not_one (part ∷ []) other = absurd (other refl)
  not_one (part ∷ (next ∷ parts)) other = ap (λ found. after found (Broken Y3)) (nodes_found names (part ∷ (next ∷ parts)))

  -- what another call is, and what it gives
  pub other_call : (called : Callee) (parts : List RawExpr) → (called ≡ to.Integer → ⊥)
      → (call_read names called (map (reading names) parts)).found ≡ after (map (node_of names) parts) (call_found names called (map (node_of names) parts))
  other_call to.Integer parts other = absurd (other refl)
  other_call (to.Arithmetic function) parts other = rw (nodes_found names parts) refl
  other_call (to.Operator operator) parts other = rw (nodes_found names parts) refl
  other_call to.Sample parts other = rw (nodes_found names parts) refl
  other_call to.Clock parts other = rw (nodes_found names parts) refl
  other_call to.Interval parts other = rw (nodes_found names parts) refl
  other_call to.LeftOut parts other = rw (nodes_found names parts) refl
  other_call to.Unknown parts other = rw (nodes_found names parts) refl

  pub other_gives : (called : Callee) (parts : List RawExpr) → (called ≡ to.Integer → ⊥)
      → (call_read names called (map (reading names) parts)).gives ≡ given (map (node_of names) parts) (call_gives names called (map (node_of names) parts))
  other_gives to.Integer parts other = absurd (other refl)
  other_gives (to.Arithmetic function) parts other = rw (nodes_found names parts) refl
  other_gives (to.Operator operator) parts other = rw (nodes_found names parts) refl
  other_gives to.Sample parts other = rw (nodes_found names parts) refl
  other_gives to.Clock parts other = rw (nodes_found names parts) refl
  other_gives to.Interval parts other = rw (nodes_found names parts) refl
  other_gives to.LeftOut parts other = rw (nodes_found names parts) refl
  other_gives to.Unknown parts other = rw (nodes_found names parts) refl

  -- `integer` gives no Boolean
  pub integer_gives_none : (parts : List Reading) → is_type kind.Boolean (call_read names to.Integer parts).gives ≡ false
  integer_gives_none [] = refl
  integer_gives_none (part ∷ []) = by_product part.product
    where
      by_broken : (b : Bool) → is_type kind.Boolean (if b then Some kind.Integer else None) ≡ false
      by_broken true = refl
      by_broken false = refl

      by_product : (o : _) → is_type kind.Boolean (integer_gives part.found o) ≡ false
      by_product (Some (Ok product)) = refl
      by_product (Some (Err code)) = refl
      by_product None = by_broken (is_none (first_broken (part.found ∷ [])))
  integer_gives_none (part ∷ (next ∷ parts)) = refl

  -- the interval of a call of `interval`
  interval_read : (name : List ℕ) (parts : List RawExpr) → callee name ≡ to.Interval → (reading names (r.Call name parts)).interval ≡ interval_of names to.Interval (map (node_of names) parts)
  interval_read name parts is = rw (reading-Call names name parts, is, nodes_found names parts) refl

  product_read : (a b : RawExpr) → (reading names (r.Chain (a ∷ (b ∷ [])) (Times ∷ []))).product ≡ product_of_two names (reading names a ∷ (reading names b ∷ []))
  product_read a b = rw (reading-Chain names (a ∷ (b ∷ [])) (Times ∷ [])) refl

  -- a product whose first factor is an interval, or its second one
  pub product_first : (part a b : RawExpr) (name : List ℕ) (parts : List RawExpr) (interval : Result (Option ℕ) TypeCode)
      → part ≡ r.Chain (a ∷ (b ∷ [])) (Times ∷ []) → a ≡ r.Call name parts → callee name ≡ to.Interval → interval_of names to.Interval (map (node_of names) parts) ≡ Some interval
      → integer_found (node_of names part) (reading names part).product ≡ of_product (first_interval interval (node_of names b))
  product_first part a b name parts interval is call to_interval given_is =
      let product : (reading names part).product ≡ Some (first_interval interval (node_of names b)) =
      ap (λ it. (reading names it).product) is ∙ product_read a b ∙ by_interval (ap (λ it. (reading names it).interval) call ∙ interval_read name parts to_interval ∙ given_is) in
      ap (λ it. integer_found (node_of names part) it) product
    where
      by_interval : (reading names a).interval ≡ Some interval → product_of_two names (reading names a ∷ (reading names b ∷ [])) ≡ Some (first_interval interval (node_of names b))
      by_interval e = rw e refl

  pub product_second : (part a b : RawExpr) (name : List ℕ) (parts : List RawExpr) (interval : Result (Option ℕ) TypeCode)
      → part ≡ r.Chain (a ∷ (b ∷ [])) (Times ∷ []) → (reading names a).interval ≡ None → b ≡ r.Call name parts → callee name ≡ to.Interval
      → interval_of names to.Interval (map (node_of names) parts) ≡ Some interval
      → integer_found (node_of names part) (reading names part).product ≡ of_product (second_interval (node_of names a) interval)
  product_second part a b name parts interval is first call to_interval given_is =
      let product : (reading names part).product ≡ Some (second_interval (node_of names a) interval) =
      ap (λ it. (reading names it).product) is ∙ product_read a b ∙ by_interval first (ap (λ it. (reading names it).interval) call ∙ interval_read name parts to_interval ∙ given_is) in
      ap (λ it. integer_found (node_of names part) it) product
    where
      by_interval : (reading names a).interval ≡ None → (reading names b).interval ≡ Some interval
          → product_of_two names (reading names a ∷ (reading names b ∷ [])) ≡ Some (second_interval (node_of names a) interval)
      by_interval e f = rw (e, f) refl

  -- a product of two without an interval
  pub product_neither : (part a b : RawExpr) → part ≡ r.Chain (a ∷ (b ∷ [])) (Times ∷ []) → (reading names a).interval ≡ None → (reading names b).interval ≡ None → (reading names part).product ≡ None
  product_neither part a b is first second = ap (λ it. (reading names it).product) is ∙ product_read a b ∙ by_interval first second
    where
      by_interval : (reading names a).interval ≡ None → (reading names b).interval ≡ None → product_of_two names (reading names a ∷ (reading names b ∷ [])) ≡ None
      by_interval e f = rw (e, f) refl
