-- An Integer that no equation binds: what its type alone asks of its values.
use Rattle.std.specs.Prelude.{ℕ, zero, suc, false, true, [], ◌∷◌, Some, None, pos, codes}
use Rattle.sync_values.specs.declared.value.Value.TheVariants as value
use Rattle.flat_model.specs.declared.model.NameKind.TheVariants as kind
use Rattle.flat_model.specs.Assignment.{Assignment}
use Rattle.flat_model.specs.Setting.{Setting}
use Rattle.flat_model.specs.Meets.{MeetsAt, Meets}
use Rattle.flat_model.specs.Given.{with_value}
use Rattle.clocked_rows.specs.Instants.{whole}

abbrev pub setting : Setting
setting = record {
  model = record {
    names = record { text = codes "x"; kind = kind.Integer; input = false; start = value.Int (pos 0) } ∷ [];
    equations = [];
    clauses = [];
  };
  clocking = record { of_name = None ∷ []; of_equation = []; clocks = []; partitions = []; sites = [] };
  table = record { times = whole 0 ∷ []; columns = []; cells = [] };
  instants = whole 0 ∷ [];
}

-- x is the greatest Integer
abbrev pub values : Assignment
values zero m = Some (value.Int (pos 9223372036854775807))
values (suc x) m = None

abbrev pub IsMet : Type 0
IsMet = Meets setting values 1

-- a Boolean is no value of x
abbrev pub IsOtherTypeRefused : Type 0
IsOtherTypeRefused = MeetsAt setting (with_value values 1 0 (value.Bool true)) 1 → ⊥

-- nor is a number that does not fit 64 bits
abbrev pub IsTooLargeRefused : Type 0
IsTooLargeRefused = MeetsAt setting (with_value values 1 0 (value.Int (pos 9223372036854775808))) 1 → ⊥

-- what is no name of the model has no value
abbrev pub IsStrangerRefused : Type 0
IsStrangerRefused = (x : ℕ) → MeetsAt setting (with_value values 1 (suc x) (value.Int (pos 0))) 1 → ⊥
