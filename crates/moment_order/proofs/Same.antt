-- An order of the uses, as the lower crates have it.
use Rattle.std.proofs.Common.{List, map, Ok}
use Rattle.eq_order.specs.declared.uses.Use as answered
use Rattle.eq_order.specs.Order as ordered
use Rattle.flat_model.specs.Order.{IsOrder}
use Rattle.flat_model.specs.Setting.{Setting}

pub answered_order : (s : Setting) (order : List answered.Use) → ordered.Answers s (Ok order) → IsOrder s (map ordered.use_of order)
answered_order s order (is_order, spines) = record { uses_are = is_order.uses_are; reached = is_order.reached; used = is_order.used }
