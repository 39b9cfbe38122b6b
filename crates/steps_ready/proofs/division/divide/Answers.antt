use Rattle.std.proofs.Common.{rules, arith, ◌≡◌, ◌<◌, ◌≤◌, ◌⊎◌, inl, inr, ◌∙◌, sym, length, vec_len}
use Rattle.std.proofs.lemmas.Bool.{cases_lt}
use Rattle.moment_order.specs.declared.stage.Stage.TheVariants.{Pure, Partition, Waiting}
use Rattle.steps_ready.specs.Division.{part_of}
use Rattle.steps_ready.proofs.Divided.{entries_next, uses_next, entries_last, uses_last}
use Rattle.steps_ready.proofs.division.divide.Goals as goal

pub loop-at-preserved : goal.loop-at-preserved
loop-at-preserved c =
    let stages = c.args.stages.now in
    let order = c.args.order.now in
    let at = c.loop-at.at in
    let one : at < length stages = search rules in
    let two : at < length order = search rules in
    let same : vec_len c.loop-at.division.parts ≡ c.args.count = c.loop-at.invariant.size in
    record {
      size = c.put.ensures.size ∙ same;
      pure_are = entries_next Pure stages order at _ _ one two c.loop-at.division.pure c.put.new.division.pure _ c.loop-at.invariant.pure_are c.in_ok-put.ensures.pure;
      waiting_are = entries_next Waiting stages order at _ _ one two c.loop-at.division.waiting c.put.new.division.waiting _ c.loop-at.invariant.waiting_are c.in_ok-put.ensures.waiting;
      parts_are = λ k lt. uses_next (Partition k) stages order at _ _ one two (part_of c.loop-at.division.parts.items k) (part_of c.put.new.division.parts.items k) _ (c.loop-at.invariant.parts_are k lt)
          (c.in_ok-put.ensures.parts k (omega (arith, lt, same)));
    }

pub returns : goal.returns
returns c =
    let stages = c.args.stages.now in
    let order = c.args.order.now in
    let at = c.loop-at.at in
    let past : (length stages ≤ at) ⊎ (length order ≤ at) = elim (cases_lt at (length stages)) [
      | inl within ↦ inr (let end = c.loop-at-test.false in omega (arith, within, end))
      | inr behind ↦ inl behind
    ] in
    record {
      pure_are = entries_last Pure stages order at _ _ past c.loop-at.invariant.pure_are;
      waiting_are = entries_last Waiting stages order at _ _ past c.loop-at.invariant.waiting_are;
      size = sym c.loop-at.division.parts.ok.0 ∙ c.loop-at.invariant.size;
      parts_are = λ k lt. uses_last (Partition k) stages order at _ _ past (c.loop-at.invariant.parts_are k lt);
    }
