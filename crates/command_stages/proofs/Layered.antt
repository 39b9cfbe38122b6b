-- The stages of single layers, as the layers answer.
use Rattle.std.proofs.Common.{sym, ◌∙◌, ℕ, List, Ok, Err}
use Rattle.rational_time.specs.declared.ratio.Ratio.{Ratio}
use Rattle.command_words.specs.Answer.{IsCommand, IsUsage}
use Rattle.command_words.specs.Choice.{Choice}
use Rattle.command_words.specs.declared.command.UsageFault.{UsageFault}
use Rattle.flat_model.specs.declared.clock.Clocking.{Clocking}
use Rattle.flat_model.specs.declared.model.FlatModel.{FlatModel}
use Rattle.flat_model.specs.declared.raw.RawModel.{RawModel}
use Rattle.flat_model.specs.declared.table.Table.{Table}
use Rattle.flat_types.specs.declared.ends.TypeEnd.{TypeEnd}
use Rattle.flat_types.specs.Typed as types
use Rattle.flat_types.specs.declared.ends.TypeEnd.TheVariants as type
use Rattle.flat_model.specs.Models.{IsModel}
use Rattle.flat_model.specs.RawModels.{IsRawModel}
use Rattle.typed_model.proofs.Models.{typed_is_model}
use Rattle.eq_order.specs.declared.ends.OrderEnd.{OrderEnd}
use Rattle.eq_order.specs.declared.uses.Use.{Use}
use Rattle.tick_plan.specs.declared.plan_end.PlanEnd.{PlanEnd}
use Rattle.tick_plan.specs.declared.plan_end.PlanEnd.TheVariants as plan
use Rattle.tick_plan.specs.NewPlan.{AreFewEnough, IsEnd}
use Rattle.command_answer.specs.Layers.{asked, ordered, typed, counted, Orders}
use Rattle.command_answer.specs.Stages.{layer}
use Rattle.command_stages.specs.declared.end.End.TheVariants.{Usage}
use Rattle.command_stages.specs.Ends.{Halts, IsPrintable, of_types, of_order, of_plan}
use Rattle.command_stages.proofs.Halting.{types_told, order_told, plan_told}

pub asked_makes : (words : List (List ℕ)) (choice : Choice) → IsCommand words choice → (asked words).makes choice
unfolding asked layer
asked_makes words choice is = is

pub asked_halts : (words : List (List ℕ)) (fault : UsageFault) → IsUsage words fault → Halts (asked words) (Usage fault)
unfolding asked layer
asked_halts words fault p answer is = (fault, p, is)

pub typed_makes : (raw : RawModel) (flat : FlatModel) → types.Answers raw (Ok flat) → (typed raw).makes flat
unfolding typed layer
typed_makes raw flat p = p

pub typed_halts : (raw : RawModel) (e : TypeEnd) → types.Answers raw (Err e) → Halts (typed raw) (of_types e)
unfolding typed layer
typed_halts raw e p answer is = (e, p, sym (types_told e) ∙ is)

pub ordered_makes : (flat : FlatModel) (clocking : Clocking) (order : List Use) → Orders flat clocking (Ok order) → (ordered flat clocking).makes order
unfolding ordered layer
ordered_makes flat clocking order p = p

pub ordered_halts : (flat : FlatModel) (clocking : Clocking) (e : OrderEnd) → Orders flat clocking (Err e) → Halts (ordered flat clocking) (of_order e)
unfolding ordered layer
ordered_halts flat clocking e p answer is = (e, p, sym (order_told e) ∙ is)

pub counted_makes : (clocking : Clocking) (table : Table) (stop : Ratio) → AreFewEnough clocking.clocks table.times stop → (counted clocking table stop).makes tt
unfolding counted layer
counted_makes clocking table stop p = p

pub counted_halts : (clocking : Clocking) (table : Table) (stop : Ratio) (e : PlanEnd) → IsEnd clocking.clocks table.times stop e → Halts (counted clocking table stop) (of_plan e)
unfolding counted layer
counted_halts clocking table stop e p answer is = (e, p, sym (plan_told e) ∙ is)

-- their places are short
pub types_short : (e : TypeEnd) → IsPrintable (of_types e)
types_short (type.Fault code i) = tt
types_short type.NoMemory = tt

pub plan_short : (e : PlanEnd) → IsPrintable (of_plan e)
plan_short (plan.TooMany count) = tt
plan_short plan.NoMemory = tt

-- the typed model is a flat model
pub typed_model : (raw : RawModel) (flat : FlatModel) → IsRawModel raw → types.Answers raw (Ok flat) → IsModel flat
typed_model raw flat is typed = typed_is_model raw flat is typed
