-- The equations of `reading`, one for each kind of expression.
use Rattle.std.proofs.Common.{◌≡◌, refl, ap, ◌∙◌, sym, ℕ, List, [], ◌∷◌, Some, None, map}
use Rattle.sync_values.specs.declared.value.Value.{Value}
use Rattle.sync_values.specs.declared.value.Rel.{Rel}
use Rattle.sync_values.specs.declared.value.ChainOp.{ChainOp}
use Rattle.flat_model.specs.declared.model.FlatName.{FlatName}
use Rattle.flat_model.specs.declared.raw.RawExpr.{RawExpr}
use Rattle.flat_model.specs.declared.raw.RawExpr.TheVariants as r
use Rattle.flat_model.specs.declared.raw.RawExpr.TheOpen.{RawExpr-F}
use Rattle.flat_model.specs.declared.raw.RawExpr.TheFolds.{fold-roll-RawExpr}
use Rattle.flat_model.specs.declared.expression.Expr.TheVariants as e
use Rattle.flat_model.specs.Typing.{type_of_value}
use Rattle.flat_types.specs.declared.ends.TypeCode.TheVariants.{Y5}
use Rattle.flat_types.specs.declared.outcome.Outcome.TheVariants as o
use Rattle.flat_types.specs.declared.outcome.Outcome.TheVariants.{Valued, Broken}
use Rattle.flat_types.specs.Outcomes.{kind_of_name}
use Rattle.flat_types.specs.Callees.{callee}
use Rattle.flat_types.specs.declared.outcome.Outcome.{Outcome}
use Rattle.flat_types.specs.Readings.{Reading, plain, read_level, reading, node_of, found_in, call_read, after, after_both, after_one, in_turn, chain_found, relation_found, single_found, if_found}
use Rattle.flat_model.specs.declared.model.NameKind.TheVariants as kind

module _ (names : List FlatName) where
  pub reading-Const : (v : Value) → reading names (r.Const v) ≡ plain (Valued (e.Const v) (type_of_value v)) (Some (type_of_value v))
  unfolding reading
  reading-Const v = ap (reading names) (sym (r.rolls-Const v)) ∙ fold-roll-RawExpr Reading (read_level names) (RawExpr-F.Const v)

  pub reading-Name : (x : ℕ) → reading names (r.Name x) ≡ plain (o.Name x) (kind_of_name names x)
  unfolding reading
  reading-Name x = ap (reading names) (sym (r.rolls-Name x)) ∙ fold-roll-RawExpr Reading (read_level names) (RawExpr-F.Name x)

  pub reading-Call : (name : List ℕ) (parts : List RawExpr) → reading names (r.Call name parts) ≡ read_level names (RawExpr-F.Call name (map (reading names) parts))
  unfolding reading
  reading-Call name parts = ap (reading names) (sym (r.rolls-Call name parts)) ∙ fold-roll-RawExpr Reading (read_level names) (RawExpr-F.Call name parts)

  pub reading-Chain : (parts : List RawExpr) (ops : List ChainOp) → reading names (r.Chain parts ops) ≡ read_level names (RawExpr-F.Chain (map (reading names) parts) ops)
  unfolding reading
  reading-Chain parts ops = ap (reading names) (sym (r.rolls-Chain parts ops)) ∙ fold-roll-RawExpr Reading (read_level names) (RawExpr-F.Chain parts ops)

  pub reading-Relation : (rel : Rel) (left right : RawExpr) → reading names (r.Relation rel left right) ≡ read_level names (RawExpr-F.Relation rel (reading names left) (reading names right))
  unfolding reading
  reading-Relation rel left right = ap (reading names) (sym (r.rolls-Relation rel left right)) ∙ fold-roll-RawExpr Reading (read_level names) (RawExpr-F.Relation rel left right)

  pub reading-Neg : (part : RawExpr) → reading names (r.Neg part) ≡ read_level names (RawExpr-F.Neg (reading names part))
  unfolding reading
  reading-Neg part = ap (reading names) (sym (r.rolls-Neg part)) ∙ fold-roll-RawExpr Reading (read_level names) (RawExpr-F.Neg part)

  pub reading-Not : (part : RawExpr) → reading names (r.Not part) ≡ read_level names (RawExpr-F.Not (reading names part))
  unfolding reading
  reading-Not part = ap (reading names) (sym (r.rolls-Not part)) ∙ fold-roll-RawExpr Reading (read_level names) (RawExpr-F.Not part)

  pub reading-Power : (left right : RawExpr) → reading names (r.Power left right) ≡ read_level names (RawExpr-F.Power (reading names left) (reading names right))
  unfolding reading
  reading-Power left right = ap (reading names) (sym (r.rolls-Power left right)) ∙ fold-roll-RawExpr Reading (read_level names) (RawExpr-F.Power left right)

  pub reading-If : (conditions branches : List RawExpr) (other : RawExpr) → reading names (r.If conditions branches other) ≡ read_level names (RawExpr-F.If (map (reading names) conditions) (map (reading names) branches) (reading names other))
  unfolding reading
  reading-If conditions branches other = ap (reading names) (sym (r.rolls-If conditions branches other)) ∙ fold-roll-RawExpr Reading (read_level names) (RawExpr-F.If conditions branches other)

  pub reading-Time : reading names r.Time ≡ plain (Broken Y5) None
  unfolding reading
  reading-Time = ap (reading names) (sym r.rolls-Time) ∙ fold-roll-RawExpr Reading (read_level names) RawExpr-F.Time

module _ (names : List FlatName) where
  abbrev nodes : List RawExpr → List Outcome
  nodes parts = map (node_of names) parts

  found_nodes : (parts : List RawExpr) → found_in (map (reading names) parts) ≡ nodes parts
  found_nodes [] = refl
  found_nodes (part ∷ parts) = ap (λ rest. node_of names part ∷ rest) (found_nodes parts)

  -- the equations of `node_of`
  pub node-Const : (v : Value) → node_of names (r.Const v) ≡ Valued (e.Const v) (type_of_value v)
  node-Const v = ap (λ it. it.found) (reading-Const names v)

  pub node-Name : (x : ℕ) → node_of names (r.Name x) ≡ o.Name x
  node-Name x = ap (λ it. it.found) (reading-Name names x)

  pub node-Call : (name : List ℕ) (parts : List RawExpr) → node_of names (r.Call name parts) ≡ (call_read names (callee name) (map (reading names) parts)).found
  node-Call name parts = ap (λ it. it.found) (reading-Call names name parts)

  pub node-Chain : (parts : List RawExpr) (ops : List ChainOp) → node_of names (r.Chain parts ops) ≡ after (nodes parts) (chain_found names (nodes parts) ops)
  node-Chain parts ops = ap (λ it. it.found) (reading-Chain names parts ops) ∙ ap (λ found. after found (chain_found names found ops)) (found_nodes parts)

  pub node-Relation : (rel : Rel) (left right : RawExpr)
      → node_of names (r.Relation rel left right) ≡ after_both (node_of names left) (node_of names right) (relation_found names rel (node_of names left) (node_of names right))
  node-Relation rel left right = ap (λ it. it.found) (reading-Relation names rel left right)

  pub node-Neg : (part : RawExpr) → node_of names (r.Neg part) ≡ after_one (node_of names part) (single_found names (λ it. e.Neg it) kind.Integer (node_of names part))
  node-Neg part = ap (λ it. it.found) (reading-Neg names part)

  pub node-Not : (part : RawExpr) → node_of names (r.Not part) ≡ after_one (node_of names part) (single_found names (λ it. e.Not it) kind.Boolean (node_of names part))
  node-Not part = ap (λ it. it.found) (reading-Not names part)

  pub node-Power : (left right : RawExpr) → node_of names (r.Power left right) ≡ after_both (node_of names left) (node_of names right) (Broken Y5)
  node-Power left right = ap (λ it. it.found) (reading-Power names left right)

  pub node-If : (conditions branches : List RawExpr) (other : RawExpr) → node_of names (r.If conditions branches other)
      ≡ after (in_turn (nodes conditions) (nodes branches) (node_of names other)) (if_found names (nodes conditions) (nodes branches) (node_of names other))
  node-If conditions branches other =
      ap (λ it. it.found) (reading-If names conditions branches other)
      ∙ ap (λ found. after (in_turn found (found_in (map (reading names) branches)) (node_of names other)) (if_found names found (found_in (map (reading names) branches)) (node_of names other))) (found_nodes conditions)
      ∙ ap (λ found. after (in_turn (nodes conditions) found (node_of names other)) (if_found names (nodes conditions) found (node_of names other))) (found_nodes branches)

  pub node-Time : node_of names r.Time ≡ Broken Y5
  node-Time = ap (λ it. it.found) (reading-Time names)

  -- several parts, whose nodes are read
  pub nodes_found : (parts : List RawExpr) → found_in (map (reading names) parts) ≡ map (node_of names) parts
  nodes_found parts = found_nodes parts

pub ruleset readings = (reading-Const, reading-Name, reading-Call, reading-Chain, reading-Relation, reading-Neg, reading-Not, reading-Power, reading-If, reading-Time)
