-- A share with all that it keeps, over the moments of a window. This project's own.
use Rattle.std.specs.Prelude.{◌≡◌, ℕ, ◌<◌, ◌≤◌, List, length, get_or}
use Rattle.flat_model.specs.declared.table.Left.{Left}
use Rattle.fork_steps.specs.declared.slot.Slot.{Slot}
use Rattle.moment_body.specs.declared.model.ClockedModel.{ClockedModel}
use Rattle.moment_steps.specs.declared.piece.Piece.{Piece}
use Rattle.share_run.specs.declared.share.ShareUses.{ShareUses}
use Rattle.share_run.specs.Standing.{Holding, holding_of}
use Rattle.share_window.specs.declared.owned.KeptUses.{KeptUses}
use Rattle.share_window.specs.declared.owned.Share.{Share}
use Rattle.share_window.specs.Windows.{CanRunShare, RunsShare, AreAsWide}
use Rattle.tree_step.specs.declared.cell.Cell.{Cell}
use Rattle.window_plan.specs.declared.moment.PlannedMoment.{PlannedMoment}

-- what a share has, from the uses that it keeps
abbrev pub holding_by : KeptUses → List (Slot Piece) → List Cell → Left → Holding
holding_by uses slots cells left =
    record { classes = uses.classes; owners = uses.owners; waiting = uses.waiting; always = uses.always; numbers = uses.numbers; places = uses.places; slots = slots; cells = cells; left = left }

-- the same from all that it keeps
abbrev pub holding_in : Share → Holding
holding_in share = holding_by share.uses share.slots.items share.cells.items share.left

-- what is lent is what is kept
abbrev pub IsLent : KeptUses → ShareUses → Type 0
IsLent kept lent =
    (slots : List (Slot Piece)) (cells : List Cell) (left : Left) → holding_of lent slots cells left ≡ holding_by kept slots cells left

-- a share may be run over these moments, and has a row for each
pub record CanRunOver (share : Share) (model : ClockedModel) (moments : List PlannedMoment) : Type 0 where
  pub room : length moments ≤ length share.rows.items
  pub can : CanRunShare (holding_in share) model moments share.now.items

-- a share was run over these moments: its uses stay, and so does its room
pub record HasRunOver (old : Share) (model : ClockedModel) (moments : List PlannedMoment) (new : Share) : Type 0 where
  pub uses : new.uses ≡ old.uses
  pub own : new.own ≡ old.own
  pub wide : length new.now.items ≡ length old.now.items
  pub rows : length new.rows.items ≡ length old.rows.items
  pub columns : AreAsWide old.rows.items new.rows.items
  pub runs : RunsShare (holding_in old) (holding_in new) model moments old.now.items old.own new.rows.items new.ran.done new.ran.told

-- each of these shares was run over these moments
pub record HaveRunOver (old : List Share) (model : ClockedModel) (moments : List PlannedMoment) (new : List Share) : Type 0 where
  pub long : length new ≡ length old
  pub each : (i : ℕ) (default : Share) → i < length old → HasRunOver (get_or old i default) model moments (get_or new i default)
