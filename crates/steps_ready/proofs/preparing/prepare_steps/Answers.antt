use Rattle.std.proofs.Common.{rules, ◌≡◌, ◌<◌, ◌^◌, ◌∙◌, ap, sym, subst, ℕ, length, map, Some, slice_get}
use Rattle.std.specs.Prelude.{All}
use Rattle.moment_steps.specs.declared.taking.UnclockedReads.{UnclockedReads}
use Rattle.tree_step.specs.Changed.{AreReadsOf}
use Rattle.steps_ready.specs.Division.{part_of, AreDivided}
use Rattle.steps_ready.specs.Parting.{AreReady}
use Rattle.steps_ready.specs.Starting.{start_of}
use Rattle.steps_ready.proofs.Divided.{parts_few}
use Rattle.steps_ready.proofs.Standing.{are_staged, stands}
use Rattle.steps_ready.proofs.preparing.prepare_steps.Goals as goal

pub prepare_parts-requires-clause-few : goal.prepare_parts-requires-clause-few
prepare_parts-requires-clause-few c =
    let division = c.in_ok-division.division in
    let few : length c.args.order.now < 2 ^ 32 = search rules in
    λ k. subst (λ parts. length (part_of parts k) < 2 ^ 32) (sym c.deref.ensures.value)
    (parts_few c.as_slice-2.result.now c.args.order.now c.count_partitions-count.result division.pure division.waiting division.parts.items c.in_ok-division.ensures (2 ^ 32) few k)

pub returns-clause-prepared : goal.returns-clause-prepared
returns-clause-prepared c = λ s from.
    let model = c.args.flat.now in
    let clocking = c.args.clocking.now in
    let order = c.args.order.now in
    let stages = c.in_ok-stages.stages in
    let count = c.count_partitions-count.result in
    let pure = c.in_ok-division.division.pure in
    let waiting = c.in_ok-division.division.waiting in
    let parts = c.in_ok-division.division.parts.items in
    let places = c.in_ok-parted.parted.places in
    let slots = c.in_ok-parted.parted.slots.items in
    let below : All (λ k. k < count) clocking.partitions = subst (λ ps. All (λ k. k < count) ps) c.as_slice.ensures c.count_partitions-count.ensures.below in
    let divided : AreDivided stages order count pure waiting parts = subst (λ own. AreDivided own order count pure waiting parts) c.as_slice-2.ensures c.in_ok-division.ensures in
    let size : length slots ≡ length parts = sym c.in_ok-parted.parted.slots.ok.0 ∙ c.in_ok-parted.ensures.size ∙ ap length c.deref.ensures.value in
    let ready : AreReady model clocking parts places slots = subst (λ all. AreReady model clocking all places slots) c.deref.ensures.value c.in_ok-parted.ensures.ready in
    let are = c.in_ok-stages.ensures s from.model from.clocking_is from.ordered.0.uses_are in
    let long : length c.in_ok-numbers.numbers ≡ length model.names = search rules in
    let room : length c.in_ok-cells.cells.items ≡ length model.names = search rules in
    let told_room : length c.in_ok-ticks.ticks.items ≡ length clocking.clocks = search rules in
    let few : length clocking.clocks < 2 ^ 32 = search rules in
    let wide : length c.in_ok-left.left.now ≡ length model.names = c.in_ok-left.ensures.now ∙ ap length c.as_slice-5.ensures in
    let none = c.in_ok-left.ensures.none in
    let noted : UnclockedReads = record { pure = c.in_ok-pure.pure; waiting = c.in_ok-waiting.waiting } in
    let pure_reads = subst (λ es. AreReadsOf model.equations es noted.pure) c.as_slice-3.ensures c.in_ok-pure.ensures in
    let waiting_reads = subst (λ es. AreReadsOf model.equations es noted.waiting) c.as_slice-4.ensures c.in_ok-waiting.ensures in
    let starts = c.in_ok-left.ensures.last ∙ ap (λ names. map start_of names) c.as_slice-5.ensures in
    let numbered = subst (λ n. (x : ℕ) → x < n → slice_get c.in_ok-numbers.numbers x ≡ Some x) (sym c.in_ok-numbers.ensures.size ∙ long) c.in_ok-numbers.ensures.each in
    record {
      staged = are_staged model clocking order stages count pure waiting parts places slots below divided size ready s from are;
      stand = λ A. stands model clocking order stages count pure waiting parts places slots below divided size ready s from are
          noted pure_reads waiting_reads c.in_ok-always.always c.in_ok-numbers.numbers c.in_ok-cells.cells.items c.in_ok-ticks.ticks.items c.in_ok-left.left c.in_ok-always.ensures long numbered room told_room few wide none starts A;
    }
