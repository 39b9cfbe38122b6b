-- A name that stands bare and under a conversion in one equation: `when Clock(1) then x + superSample(x, 1) = 2; y = previous(y) + 1; end when;`.
use Rattle.std.specs.Prelude.{zero, suc, false, [], ◌∷◌, Some, None, pos, codes}
use Rattle.sync_values.specs.declared.value.Value.TheVariants as value
use Rattle.sync_values.specs.declared.value.ChainOp.TheVariants.{Plus}
use Rattle.flat_model.specs.declared.clock.Clock.TheVariants.{Periodic}
use Rattle.flat_model.specs.declared.clock.ClockExpr.TheVariants.{Rational}
use Rattle.flat_model.specs.declared.clock.Conversion.TheVariants.{Super}
use Rattle.flat_model.specs.declared.model.NameKind.TheVariants as kind
use Rattle.flat_model.specs.declared.model.FlatName.{FlatName}
use Rattle.flat_model.specs.declared.equation.Equation.{Equation}
use Rattle.flat_model.specs.declared.equation.Equation.TheVariants.{Valued}
use Rattle.flat_model.specs.declared.expression.Expr.{Expr}
use Rattle.flat_model.specs.declared.expression.Expr.TheVariants.{Const, Read, Chain, Previous, Convert}
use Rattle.flat_model.specs.Assignment.{Assignment}
use Rattle.flat_model.specs.Setting.{Setting}
use Rattle.flat_model.specs.Meets.{Meets}
use Rattle.flat_model.specs.Uses.{AreUses, IsSolvableFor}
use Rattle.clocked_rows.specs.Instants.{whole}

-- x + superSample(x, 1)
abbrev pub doubled : Expr
doubled = Chain (Read 0 ∷ Convert (Super 1) 0 ∷ []) (Plus ∷ [])

abbrev pub doubling : Equation
doubling = Valued doubled (Const (value.Int (pos 2))) (Some 0)

-- previous(y) + 1
abbrev pub next : Expr
next = Chain (Previous 1 ∷ Const (value.Int (pos 1)) ∷ []) (Plus ∷ [])

abbrev pub x : FlatName
x = record { text = codes "x"; kind = kind.Integer; input = false; start = value.Int (pos 0) }

abbrev pub y : FlatName
y = record { text = codes "y"; kind = kind.Integer; input = false; start = value.Int (pos 0) }

abbrev pub setting : Setting
setting = record {
  model = record { names = x ∷ y ∷ []; equations = doubling ∷ Valued (Read 1) next (Some 0) ∷ []; clauses = Rational 1 1 ∷ [] };
  clocking = record {
    of_name = Some 0 ∷ Some 0 ∷ [];
    of_equation = Some 0 ∷ Some 0 ∷ [];
    clocks = Periodic (whole 1) (whole 0) ∷ [];
    partitions = 0 ∷ [];
    sites = [];
  };
  table = record { times = whole 0 ∷ []; columns = []; cells = [] };
  instants = whole 0 ∷ [];
}

-- the first equation is not solvable for x, so that the second alone is used
abbrev pub IsUnsolvable : Type 0
IsUnsolvable = IsSolvableFor 0 doubling → ⊥

abbrev pub HasUses : Type 0
HasUses = AreUses setting (record { equation = 1; name = 1 } ∷ [])

-- x is 1 and y is 1 at the instant 0, which meets the model: what is not used is still asked
abbrev pub values : Assignment
values zero (suc zero) = Some (value.Int (pos 1))
values (suc zero) (suc zero) = Some (value.Int (pos 1))
values x m = None

abbrev pub IsMet : Type 0
IsMet = Meets setting values 1
