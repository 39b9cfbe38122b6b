use Rattle.std.proofs.Common.{rules, arith, ◌≡◌, ◌+◌, ◌<◌, ap, sym, subst, ◌∙◌, length, Some, get_or, slice_set, length-set}
use Rattle.std.proofs.lemmas.Option.{slice_get-get_or}
use Rattle.part_groups.specs.private.Owners.{AreOwners}
use Rattle.part_groups.proofs.Owning.{owners_still, owners_more, whole_back}
use Rattle.part_groups.proofs.units.owners_of.Goals as goal
use Rattle.part_groups.proofs.units.owners_of.Goals.{in-Some, in_default}

pub loop-at-preserved : goal.loop-at-preserved
loop-at-preserved c =
    let within : c.loop-at.at < length c.args.order.now = search rules in
    elim c.match-unit_at.branch [
      | in-Some w ↦
          let old = c.loop-at.owners in
          let set : w.own.new.owners ≡ slice_set old.items (get_or c.args.order.now c.loop-at.at _).name (Some w.in-Some.unit) = w.own.ensures ∙ ap (λ os. slice_set os (get_or c.args.order.now c.loop-at.at _).name (Some w.in-Some.unit)) w.deref_mut.ensures.value in
          let size : length w.own.new.owners ≡ length old.items = ap length set ∙ length-set old.items (get_or c.args.order.now c.loop-at.at _).name (Some w.in-Some.unit) in
          subst (λ v. AreOwners c.args.names c.args.order.now c.args.units.now (c.loop-at.at + 1) v.items) (sym w.owners-is)
          (subst (AreOwners c.args.names c.args.order.now c.args.units.now (c.loop-at.at + 1)) (sym (whole_back old.len old.items w.own.new.owners old.ok.0 size))
          (owners_more c.args.names c.args.order.now c.args.units.now c.loop-at.at w.in-Some.unit (get_or c.args.order.now c.loop-at.at _) old.items w.own.new.owners (slice_get-get_or c.args.order.now c.loop-at.at _ within)
          (sym c.unit_at.ensures ∙ w.in-Some.is) set c.loop-at.invariant))
      | in_default w ↦ subst (λ v. AreOwners c.args.names c.args.order.now c.args.units.now (c.loop-at.at + 1) v.items) (sym w.owners-is)
          (owners_still c.args.names c.args.order.now c.args.units.now c.loop-at.at c.loop-at.owners.items (sym c.unit_at.ensures ∙ w.in_default.is) c.loop-at.invariant)
    ]

pub returns : goal.returns
returns c = subst (λ n. AreOwners c.args.names c.args.order.now c.args.units.now n c.loop-at.owners.items)
    (let past = c.loop-at-test.false in let end = c.loop-at.auto.at-end in let all : c.loop-at.at ≡ length c.args.order.now = omega (arith, past, end) in all) c.loop-at.invariant
