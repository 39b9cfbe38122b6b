-- Event clocks of two conditions, and each name a conversion of the other: `when Clock(u > 5) then a = noClock(b) + 1; end when; when Clock(u < 5) then b = noClock(a) + 1; end when;`, where u is an input. The program refuses this model, since its base partition has two constructors; the definitions are of all settings.
use Rattle.std.specs.Prelude.{false, true, [], ◌∷◌, Some, None, pos, codes}
use Rattle.sync_values.specs.declared.value.Value.TheVariants as value
use Rattle.sync_values.specs.declared.value.Rel.TheVariants.{Greater, Less}
use Rattle.sync_values.specs.declared.value.ChainOp.TheVariants.{Plus}
use Rattle.flat_model.specs.declared.clock.Clock.TheVariants as clock
use Rattle.flat_model.specs.declared.clock.ClockExpr.TheVariants.{Event}
use Rattle.flat_model.specs.declared.clock.Conversion.TheVariants.{NoClock}
use Rattle.flat_model.specs.declared.model.NameKind.TheVariants as kind
use Rattle.flat_model.specs.declared.model.FlatName.{FlatName}
use Rattle.flat_model.specs.declared.equation.Equation.TheVariants.{Valued}
use Rattle.flat_model.specs.declared.expression.Expr.{Expr}
use Rattle.flat_model.specs.declared.expression.Expr.TheVariants.{Const, Read, Chain, Relation, Convert}
use Rattle.flat_model.specs.Setting.{Setting}
use Rattle.flat_model.specs.Uses.{AreUses, Reads}
use Rattle.clocked_rows.specs.Instants.{whole}

-- u > 5 and u < 5
abbrev pub above : Expr
above = Relation Greater (Read 0) (Const (value.Int (pos 5)))

abbrev pub below : Expr
below = Relation Less (Read 0) (Const (value.Int (pos 5)))

-- noClock(b) + 1 and noClock(a) + 1
abbrev pub one_more_than_b : Expr
one_more_than_b = Chain (Convert NoClock 2 ∷ Const (value.Int (pos 1)) ∷ []) (Plus ∷ [])

abbrev pub one_more_than_a : Expr
one_more_than_a = Chain (Convert NoClock 1 ∷ Const (value.Int (pos 1)) ∷ []) (Plus ∷ [])

abbrev pub a : FlatName
a = record { text = codes "a"; kind = kind.Integer; input = false; start = value.Int (pos 0) }

abbrev pub b : FlatName
b = record { text = codes "b"; kind = kind.Integer; input = false; start = value.Int (pos 0) }

abbrev pub setting : Setting
setting = record {
  model = record {
    names = record { text = codes "u"; kind = kind.Integer; input = true; start = value.Int (pos 0) } ∷ a ∷ b ∷ [];
    equations = Valued (Read 1) one_more_than_b (Some 0) ∷ Valued (Read 2) one_more_than_a (Some 1) ∷ [];
    clauses = Event above ∷ Event below ∷ [];
  };
  clocking = record {
    of_name = None ∷ Some 0 ∷ Some 1 ∷ [];
    of_equation = Some 0 ∷ Some 1 ∷ [];
    clocks = clock.Event 0 1 0 ∷ clock.Event 1 1 0 ∷ [];
    partitions = 0 ∷ 0 ∷ [];
    sites = above ∷ below ∷ [];
  };
  table = record { times = whole 0 ∷ []; columns = 0 ∷ []; cells = value.Int (pos 5) ∷ [] };
  instants = whole 0 ∷ [];
}

-- the clocks share no instant, so neither equation reads the other's name now, and each reaches its own; if they did, neither could be first
abbrev pub HasUses : Type 0
HasUses = AreUses setting (record { equation = 0; name = 1 } ∷ record { equation = 1; name = 2 } ∷ [])

abbrev pub IsOtherUnread : Type 0
IsOtherUnread = (Reads setting 0 2 → ⊥) × (Reads setting 1 1 → ⊥)
