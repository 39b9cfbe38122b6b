-- What unclocked uses stand on that are evaluated only where something changed. This project's own.
use Rattle.std.specs.Prelude.{◌≡◌, ℕ, suc, List, Option, Some, None, slice_get, Contains}
use Rattle.sync_values.specs.declared.value.Value.{Value}
use Rattle.flat_model.specs.declared.equation.Equation.{Equation}
use Rattle.flat_model.specs.declared.equation.Equation.TheVariants.{Valued, Clocks}
use Rattle.flat_model.specs.declared.expression.Expr.{Expr}
use Rattle.flat_model.specs.Values.{value_in}
use Rattle.flat_model.specs.Asks.{AsksFor, OfNow, OfLast}
use Rattle.flat_model.specs.Assignment.{Assignment}
use Rattle.flat_model.specs.Given.{Row}
use Rattle.flat_model.specs.Meets.{HasOneValue}
use Rattle.flat_model.specs.Setting.{Setting, class_of_equation, views_at}
use Rattle.flat_model.specs.Uses.{Use}
use Rattle.tree_step.specs.declared.cell.Cell.{Cell}
use Rattle.tree_step.specs.declared.changed.Reads.{Reads}
use Rattle.tree_step.specs.declared.taking.Entry.{Entry}
use Rattle.tree_step.specs.Starts.{Sight, IsAmong, IsStart}

-- all whose values a side asks for at the moment, and all whose last values it does
abbrev pub HasSideReads : Expr → Reads → Type 0
HasSideReads e reads = ((y : ℕ) → AsksFor e 0 (OfNow y) → Contains reads.bare y) × ((z : ℕ) → AsksFor e 0 (OfLast z) → Contains reads.held z)

-- the same of an equation
abbrev pub HasReads : Equation → Reads → Type 0
HasReads (Valued left right clause) reads = HasSideReads left reads × HasSideReads right reads
HasReads (Clocks left right clause) reads = Unit {0}

-- in the place of each entry are the reads of its equation
abbrev pub AreReadsOf : List Equation → List Entry → List Reads → Type 0
AreReadsOf equations entries reads =
    (i : ℕ) (entry : Entry) (own : Reads) (equation : Equation) → slice_get entries i ≡ Some entry → slice_get reads i ≡ Some own → slice_get equations entry.equation ≡ Some equation → HasReads equation own

-- the values at the moment before; before Initial there are none
pub record IsValuesBefore (S : Assignment) (m : ℕ) (now : List (Option Value)) : Type 0 where
  pub first : (y : ℕ) → m ≡ 0 → value_in now y ≡ None
  pub later : (y k : ℕ) → m ≡ suc k → value_in now y ≡ S y k

-- the equations of unclocked uses were met at the moment before
abbrev pub WereMet : Setting → Assignment → ℕ → List Entry → Type 0
WereMet s S m entries = (entry : Entry) (equation : Equation) (k : ℕ) → IsAmong entry entries → slice_get s.model.equations entry.equation ≡ Some equation → m ≡ suc k → HasOneValue (views_at s S (class_of_equation s entry.equation) k) equation

-- uses that can be taken, all of unclocked equations that were met at the moment before, with what these read and the values of that moment
pub record CanStartChanged (sight : Sight) (entries : List Entry) (reads : List Reads) (cells : List Cell) : Type 0 where
  pub s : Setting
  pub uses : List Use
  pub before : List Use
  pub after : List Use
  pub S : Assignment
  pub m : ℕ
  pub base : Row
  pub start : IsStart s uses before after S m base sight entries cells
  pub unclocked : (entry : Entry) → IsAmong entry entries → class_of_equation s entry.equation ≡ None
  pub reads_are : AreReadsOf sight.equations entries reads
  pub left_is : IsValuesBefore S m sight.left.now
  pub were_met : WereMet s S m entries
