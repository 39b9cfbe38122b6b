-- Each node of an expression whose constants are values is good.
use Rattle.std.proofs.Common.{◌≡◌, ◌∙◌, sym, subst, Bool, true, List, [], ◌∷◌, map}
use Rattle.std.proofs.lemmas.Bool.{and_parts}
use Rattle.flat_model.specs.declared.model.FlatName.{FlatName}
use Rattle.flat_model.specs.declared.model.NameKind.TheVariants as kind
use Rattle.flat_model.specs.declared.expression.Expr.TheVariants as e
use Rattle.flat_model.specs.declared.raw.RawExpr.{RawExpr}
use Rattle.flat_model.specs.declared.raw.RawExpr.TheOpen.{RawExpr-F}
use Rattle.flat_model.specs.declared.raw.RawExpr.TheViews.{roll-RawExpr}
use Rattle.flat_model.specs.declared.raw.RawExpr.TheFolds.{fold-roll-RawExpr, map-RawExpr, ind-RawExpr}
use Rattle.flat_model.specs.Counters.{all_fit}
use Rattle.flat_model.specs.RawModels.{constants_in_level, constants_fit}
use Rattle.flat_types.specs.declared.callee.Callee.{Callee}
use Rattle.flat_types.specs.declared.callee.Callee.TheVariants as to
use Rattle.flat_types.specs.declared.ends.TypeCode.TheVariants.{Y3, Y5}
use Rattle.flat_types.specs.declared.outcome.Outcome.TheVariants.{Broken}
use Rattle.flat_types.specs.Callees.{callee}
use Rattle.flat_types.specs.Readings.{Reading, found_in, after, in_turn, call_found, call_read, chain_found, relation_found, single_found, if_found, read_level, reading}
use Rattle.typed_model.proofs.Values.{good-Const}
use Rattle.typed_model.proofs.NodeParts.{Each, IsGood, after_good}
use Rattle.typed_model.proofs.Forms.{chain_good, relation_good, neg_good, not_good, if_good}
use Rattle.typed_model.proofs.Calls.{call_good}
use Rattle.typed_model.proofs.Intervals.{IsGoodInterval, IsGoodProduct, AreGoodIntervals, interval_good, product_good, integer_good}

-- a node by itself, as an interval, and as a product with one
pub record IsGoodReading (names : List FlatName) (node : Reading) : Type 0 where
  pub found : IsGood names node.found
  pub interval : IsGoodInterval names node.interval
  pub product : IsGoodProduct names node.product

module _ (names : List FlatName) where
  found_good : (parts : List Reading) → Each (IsGoodReading names) parts → Each (IsGood names) (found_in parts)
  found_good [] good = tt
  found_good (part ∷ parts) good = (good.0.found, found_good parts good.1)

  intervals_good : (parts : List Reading) → Each (IsGoodReading names) parts → AreGoodIntervals names parts
  intervals_good [] good = tt
  intervals_good (part ∷ parts) good = (good.0.interval, intervals_good parts good.1)

  -- a call of another function than `integer`
  plain_call_good : (called : Callee) (parts : List Reading) → Each (IsGoodReading names) parts → IsGood names (call_found names called (found_in parts))
  plain_call_good called parts good = call_good names called (found_in parts) (found_good parts good)

  behind : (called : Callee) (parts : List Reading) → Each (IsGoodReading names) parts → IsGood names (after (found_in parts) (call_found names called (found_in parts)))
  behind called parts good = after_good names (found_in parts) (call_found names called (found_in parts)) (plain_call_good called parts good)

  call_read_good : (called : Callee) (parts : List Reading) → Each (IsGoodReading names) parts → IsGoodReading names (call_read names called parts)
  call_read_good to.Integer [] good = record { found = tt; interval = tt; product = tt }
  call_read_good to.Integer (part ∷ []) good = record { found = integer_good names part.found part.product good.0.product; interval = tt; product = tt }
  call_read_good to.Integer (part ∷ (next ∷ parts)) good = record { found = after_good names (found_in (part ∷ (next ∷ parts))) (Broken Y3) tt; interval = tt; product = tt }
  call_read_good (to.Arithmetic function) parts good = record { found = behind (to.Arithmetic function) parts good; interval = tt; product = tt }
  call_read_good (to.Operator operator) parts good = record { found = behind (to.Operator operator) parts good; interval = tt; product = tt }
  call_read_good to.Sample parts good = record { found = behind to.Sample parts good; interval = tt; product = tt }
  call_read_good to.Clock parts good = record { found = behind to.Clock parts good; interval = tt; product = tt }
  call_read_good to.Interval parts good = record { found = behind to.Interval parts good; interval = interval_good names to.Interval (found_in parts); product = tt }
  call_read_good to.LeftOut parts good = record { found = behind to.LeftOut parts good; interval = tt; product = tt }
  call_read_good to.Unknown parts good = record { found = behind to.Unknown parts good; interval = tt; product = tt }

  abbrev IsGoodRaw : RawExpr → Type 0
  IsGoodRaw raw = constants_fit raw ≡ true → IsGoodReading names (reading names raw)

  constants_roll : (y : RawExpr-F RawExpr) → constants_fit (roll-RawExpr y) ≡ constants_in_level (map-RawExpr RawExpr Bool constants_fit y)
  unfolding constants_fit
  constants_roll y = fold-roll-RawExpr Bool constants_in_level y

  reading_roll : (y : RawExpr-F RawExpr) → reading names (roll-RawExpr y) ≡ read_level names (map-RawExpr RawExpr Reading (reading names) y)
  unfolding reading
  reading_roll y = fold-roll-RawExpr Reading (read_level names) y

  module _ {A : Type 0} (f : A → RawExpr) (all : (a : A) → IsGoodRaw (f a)) where
    parts_good : (ps : List A) → all_fit (map constants_fit (map f ps)) ≡ true → Each (IsGoodReading names) (map (reading names) (map f ps))
    parts_good [] fit = tt
    parts_good (p ∷ ps) fit = let h = and_parts _ _ fit in (all p h.0, parts_good ps h.1)

    abbrev read_parts : List A → List Reading
    read_parts ps = map (reading names) (map f ps)

    level_good : (y : RawExpr-F A) → constants_in_level (map-RawExpr RawExpr Bool constants_fit (map-RawExpr A RawExpr f y)) ≡ true
        → IsGoodReading names (read_level names (map-RawExpr RawExpr Reading (reading names) (map-RawExpr A RawExpr f y)))
    level_good (RawExpr-F.Const v) fit = record { found = good-Const names v fit; interval = tt; product = tt }
    level_good (RawExpr-F.Name x) fit = record { found = tt; interval = tt; product = tt }
    level_good (RawExpr-F.Call name ps) fit = call_read_good (callee name) (read_parts ps) (parts_good ps fit)
    level_good (RawExpr-F.Chain ps ops) fit =
        let parts = found_good (read_parts ps) (parts_good ps fit) in
        record {
          found = after_good names (found_in (read_parts ps)) (chain_found names (found_in (read_parts ps)) ops) (chain_good names (found_in (read_parts ps)) ops parts);
          interval = tt;
          product = product_good names (read_parts ps) ops (intervals_good (read_parts ps) (parts_good ps fit));
        }
    level_good (RawExpr-F.Relation rel a b) fit =
        let h = and_parts _ _ fit in
        let left = (reading names (f a)).found in
        let right = (reading names (f b)).found in
        record {
          found = after_good names (left ∷ right ∷ []) (relation_found names rel left right) (relation_good names rel left right (all a h.0).found (all b h.1).found);
          interval = tt;
          product = tt;
        }
    level_good (RawExpr-F.Neg a) fit =
        let part = (reading names (f a)).found in
        record { found = after_good names (part ∷ []) (single_found names (λ it. e.Neg it) kind.Integer part) (neg_good names part (all a fit).found); interval = tt; product = tt }
    level_good (RawExpr-F.Not a) fit =
        let part = (reading names (f a)).found in
        record { found = after_good names (part ∷ []) (single_found names (λ it. e.Not it) kind.Boolean part) (not_good names part (all a fit).found); interval = tt; product = tt }
    level_good (RawExpr-F.Power a b) fit = record { found = after_good names ((reading names (f a)).found ∷ (reading names (f b)).found ∷ []) (Broken Y5) tt; interval = tt; product = tt }
    level_good (RawExpr-F.If cs bs other) fit =
        let h = and_parts _ _ fit in
        let k = and_parts _ _ h.0 in
        let conditions = found_in (read_parts cs) in
        let branches = found_in (read_parts bs) in
        let last = (reading names (f other)).found in
        record {
          found = after_good names (in_turn conditions branches last) (if_found names conditions branches last)
              (if_good names conditions branches last (found_good (read_parts cs) (parts_good cs k.0)) (found_good (read_parts bs) (parts_good bs k.1)) (all other h.1).found);
          interval = tt;
          product = tt;
        }
    level_good RawExpr-F.Time fit = record { found = tt; interval = tt; product = tt }

    rolled : (y : RawExpr-F A) → IsGoodRaw (roll-RawExpr (map-RawExpr A RawExpr f y))
    rolled y fit =
        let z = map-RawExpr A RawExpr f y in
        subst (λ it. IsGoodReading names it) (sym (reading_roll z)) (level_good y (sym (constants_roll z) ∙ fit))

  pub reading_good : (raw : RawExpr) → constants_fit raw ≡ true → IsGoodReading names (reading names raw)
  reading_good = ind-RawExpr IsGoodRaw (λ x y is. subst (λ z. IsGoodRaw (roll-RawExpr z)) is (rolled (λ p. p.0) (λ p. p.1) y))
