-- What a runner keeps and shows, and for what it stands. This project's own.
use Rattle.std.specs.Prelude.{◌≡◌, ℕ, []}
use Rattle.flat_model.specs.declared.model.FlatModel.{FlatModel}
use Rattle.flat_model.specs.Assignment.{Assignment}
use Rattle.flat_model.specs.Setting.{Setting}
use Rattle.tick_plan.specs.Plans.{Planned}
use Rattle.run_ahead.specs.Ahead.{Window, Running, Stands}
use Rattle.run_moments.specs.Moving.{IsPlanBefore, one_window}
use Rattle.moment_body.specs.declared.moments.Moments.{Moments}
use Rattle.moment_body.specs.Kept.{IsKeptBy}
use Rattle.moment_steps.specs.declared.staged.StagedSteps.{StagedSteps}
use Rattle.moment_steps.specs.Steps.{stages_of, stands_of}
use Rattle.fork_runner.specs.declared.runner.Runner.{Runner}

-- what the moments keep is that of an assignment before a moment of a setting
abbrev pub is_kept : Moments StagedSteps → Setting → Assignment → ℕ → Type 0
is_kept body = IsKeptBy (stages_of body.steps) (stands_of body.steps) body.model body.sheet

-- and so is what the plan gave
abbrev pub keeps_of : {P : Type 0} → (P → Planned) → Runner P → Setting → Assignment → ℕ → Type 0
keeps_of planned runner s A n = is_kept runner.body s A n × IsPlanBefore s A n (planned runner.plan)

-- the moment that was run last, with its row, and the fault
abbrev pub window_of : {P : Type 0} → Runner P → Window
window_of runner = one_window runner.ran runner.body.sheet.row.items runner.fault

-- the same, and how many moments of it were given
abbrev pub seen_of : {P : Type 0} → Runner P → Running
seen_of runner = record { window = window_of runner; given = runner.given }

-- the model that is run
abbrev pub flat_of : {P : Type 0} → Runner P → FlatModel
flat_of runner = runner.body.model.flat

-- no moment is left
abbrev pub is_over : {P : Type 0} → (P → Planned) → Runner P → Type 0
is_over planned runner = (planned runner.plan).ahead ≡ []

-- a runner stands for an assignment before a moment of a setting
abbrev pub StandsFor : {P : Type 0} → (P → Planned) → Runner P → Setting → Assignment → ℕ → Type 0
StandsFor planned runner = Stands (keeps_of planned runner) (seen_of runner)

-- it stands for some assignment before some moment
abbrev pub StandsForSome : {P : Type 0} → (P → Planned) → Runner P → Type 0
StandsForSome planned runner = (s : Setting) × (S : Assignment) × (m : ℕ) × StandsFor planned runner s S m
