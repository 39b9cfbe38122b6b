-- The command up to what is left to do.
use Rattle.std.proofs.Common.{◌≡◌, subst, sym, inr, ℕ, List, ◌≤◌}
use Rattle.command_words.specs.Choice.{Choice, IsMode}
use Rattle.command_words.specs.declared.command.Mode.{Mode}
use Rattle.command_words.specs.declared.command.Mode.TheVariants as mode
use Rattle.flat_model.specs.declared.model.FlatModel.{FlatModel}
use Rattle.flat_model.specs.Tables.{IsTime}
use Rattle.command_answer.specs.Actions.{model_of, in_mode, actions}
use Rattle.command_answer.specs.Layers.{asked}
use Rattle.command_answer.specs.Stages.{Answer, Stage, ◌>>=◌, layer, printed}
use Rattle.command_stages.specs.declared.end.End.{End}
use Rattle.command_stages.specs.Ends.{Halts}
use Rattle.command_stages.specs.Segments.{HasFewMembers}
use Rattle.command_stages.proofs.Halting.{halts_first, halts_next}
use Rattle.clocked_run.specs.declared.task.Task.{Task}
use Rattle.clocked_run.specs.declared.task.Task.TheVariants.{Print, Run, Stress}
use Rattle.clocked_run.specs.private.Tasks.{Ends}

module _ (reads : List ℕ → Stage (List ℕ)) (words : List (List ℕ)) where
  pub unasked : (end : End) → Halts (asked words) end → Halts (actions reads words) end
  unfolding actions
  unasked end halts = halts_first _ _ end halts

  module _ (c : Choice) (asks : (asked words).makes c) where
    pub unmodelled : (end : End) → Halts (model_of reads c) end → Halts (actions reads words) end
    unfolding actions
    unmodelled end halts = halts_next _ _ c end asks (halts_first _ _ end halts)

    module _ (flat : FlatModel) (models : (model_of reads c).makes flat) (mode : Mode) (is : c.mode ≡ mode) where
      -- the answer in the mode of the command
      moded : (answer : Answer) → (in_mode reads mode c flat).ends answer → (actions reads words).ends answer
      unfolding actions ◌>>=◌
      moded answer ends = inr (c, asks, inr (flat, models, subst (λ m. (in_mode reads m c flat).ends answer) (sym is) ends))

      pub unmoded : (end : End) → Halts (in_mode reads mode c flat) end → Halts (actions reads words) end
      unmoded end halts answer told = moded answer (halts answer told)

      pub does : (task : Task) → Ends (in_mode reads mode c flat) task → Ends (actions reads words) task
      does (Print text) ends = moded (printed text.items) ends
      does (Run run) ends = λ s is answer runs. moded answer (ends s is answer runs)
      does (Stress members run) ends = λ s is answer adds. moded answer (ends s is answer adds)

-- the stop and the workers of a command
pub stop_is : (words : List (List ℕ)) (c : Choice) → (asked words).makes c → IsTime c.stop
unfolding asked layer
stop_is words c asks = (asks.choice_is.stop.early, asks.choice_is.stop.den_fits)

pub workers_are : (words : List (List ℕ)) (c : Choice) → (asked words).makes c → (1 ≤ c.workers) × (c.workers ≤ 64)
unfolding asked layer
workers_are words c asks = (asks.choice_is.workers.some, asks.choice_is.workers.few)

-- the members of the stress model are not too many
few_in : (name model : List ℕ) (mode : Mode) → IsMode name model mode → HasFewMembers mode
few_in name model mode.Run is = tt
few_in name model mode.Flat is = tt
few_in name model mode.Clocks is = tt
few_in name model (mode.Stress members) is = is.1.few

pub members_are : (words : List (List ℕ)) (c : Choice) → (asked words).makes c → HasFewMembers c.mode
unfolding asked layer
members_are words c asks = few_in _ _ c.mode asks.choice_is.mode
