-- A hold of a name that fails where it ticks: `y = hold(a); when Clock(1) then a = previous(a) + 1; end when;`, where a starts with 9223372036854775807.
use Rattle.std.specs.Prelude.{◌≡◌, zero, suc, false, List, [], ◌∷◌, Some, None, pos, codes}
use Rattle.sync_values.specs.declared.value.Value.TheVariants as value
use Rattle.sync_values.specs.declared.value.Fail.TheVariants.{TooLarge}
use Rattle.sync_values.specs.declared.value.ChainOp.TheVariants.{Plus}
use Rattle.flat_model.specs.declared.clock.Clock.TheVariants.{Periodic}
use Rattle.flat_model.specs.declared.clock.ClockExpr.TheVariants.{Rational}
use Rattle.flat_model.specs.declared.clock.Moment.TheVariants.{At}
use Rattle.flat_model.specs.declared.model.NameKind.TheVariants as kind
use Rattle.flat_model.specs.declared.model.FlatName.{FlatName}
use Rattle.flat_model.specs.declared.equation.Equation.{Equation}
use Rattle.flat_model.specs.declared.equation.Equation.TheVariants.{Valued}
use Rattle.flat_model.specs.declared.expression.Expr.TheVariants.{Const, Read, Chain, Previous, Hold}
use Rattle.flat_model.specs.declared.fault.FaultPlace.TheVariants as place
use Rattle.flat_model.specs.Assignment.{Assignment}
use Rattle.flat_model.specs.Setting.{Setting}
use Rattle.flat_model.specs.Meets.{MeetsBefore}
use Rattle.flat_model.specs.Runs.{fault_line}
use Rattle.flat_model.specs.Uses.{Use}
use Rattle.flat_model.specs.Faults.{IsFirstToFail}
use Rattle.clocked_rows.specs.Instants.{whole}

abbrev pub a : FlatName
a = record { text = codes "a"; kind = kind.Integer; input = false; start = value.Int (pos 9223372036854775807) }

abbrev pub y : FlatName
y = record { text = codes "y"; kind = kind.Integer; input = false; start = value.Int (pos 0) }

abbrev pub holding : Equation
holding = Valued (Read 1) (Hold 0) None

abbrev pub counting : Equation
counting = Valued (Read 0) (Chain (Previous 0 ∷ Const (value.Int (pos 1)) ∷ []) (Plus ∷ [])) (Some 0)

abbrev pub setting : Setting
setting = record {
  model = record { names = a ∷ y ∷ []; equations = holding ∷ counting ∷ []; clauses = Rational 1 1 ∷ [] };
  clocking = record {
    of_name = Some 0 ∷ None ∷ [];
    of_equation = None ∷ Some 0 ∷ [];
    clocks = Periodic (whole 1) (whole 0) ∷ [];
    partitions = 0 ∷ [];
    sites = [];
  };
  table = record { times = whole 0 ∷ []; columns = []; cells = [] };
  instants = whole 0 ∷ [];
}

-- at Initial y has a's start; at the instant 0 nothing has a value
abbrev pub values : Assignment
values (suc zero) zero = Some (value.Int (pos 9223372036854775807))
values x m = None

abbrev pub uses : List Use
uses = record { equation = 1; name = 0 } ∷ record { equation = 0; name = 1 } ∷ []

abbrev pub IsMetBefore : Type 0
IsMetBefore = MeetsBefore setting values 1

-- the second equation is the first to fail there: a ticks and has no value, so the hold of it has none, and the first equation does not count
abbrev pub IsFirst : Type 0
IsFirst = IsFirstToFail setting values uses 1 (place.Equation 1) TooLarge

abbrev pub IsLine : Type 0
IsLine = fault_line (At (whole 0)) (place.Equation 1) TooLarge ≡ codes "fault too-large at 0 in equation 2\n"
