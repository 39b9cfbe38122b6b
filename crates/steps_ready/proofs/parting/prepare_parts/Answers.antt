use Rattle.std.proofs.Common.{rules, ◌≡◌, ◌≤◌, ◌∙◌, ap, sym, subst, [], length, Some, slice_get}
use Rattle.std.proofs.lemmas.List.{get_or_read, with_items_is}
use Rattle.std.proofs.lemmas.Option.{slice_get-get_or}
use Rattle.steps_ready.specs.Division.{part_of}
use Rattle.steps_ready.specs.Parting.{AreReady}
use Rattle.steps_ready.proofs.EachPart.{ready_next}
use Rattle.steps_ready.proofs.parting.prepare_parts.Goals as goal

pub loop-k-preserved : goal.loop-k-preserved
loop-k-preserved c =
    let model = c.args.flat.now in
    let clocking = c.args.clocking.now in
    let parts = c.args.parts.now in
    let k = c.loop-k.k in
    let slots = c.loop-k.slots.items in
    let old = c.deref_mut.result.now in
    let new = c.prepare.new.places in
    let own = c.as_slice.result.now in
    let size : length new ≡ c.loop-k.places.len = search rules in
    let count : length slots ≡ k = search rules in
    let own_is : own ≡ part_of parts k = c.as_slice.ensures ∙ get_or_read parts k c.index-parts-k.result c.loop-k-test.true c.index-parts-k.is [] in
    let found : slice_get parts (length slots) ≡ Some own = ap (slice_get parts) count ∙ slice_get-get_or parts k [] c.loop-k-test.true ∙ ap Some (sym own_is) in
    let was : AreReady model clocking parts old slots = subst (λ ps. AreReady model clocking parts ps slots) (sym c.deref_mut.ensures.value) c.loop-k.invariant.ready in
    let wide : length model.names ≤ length old = search rules in
    let next = ready_next model clocking parts old new slots own _ was found wide c.in_ok-part.ensures.prepared c.in_ok-part.ensures.rest in
    record {
      size = search rules;
      wide = c.loop-k.invariant.wide;
      ready = subst (λ ps. AreReady model clocking parts ps c.push.new.self.items) (sym (with_items_is c.loop-k.places new size))
          (subst (AreReady model clocking parts new) (sym c.in_ok-push.ensures.items) next);
    }

pub returns-clause-ready : goal.returns-clause-ready
returns-clause-ready c = subst (λ ps. AreReady c.args.flat.now c.args.clocking.now c.args.parts.now ps c.loop-k.slots.items) (sym c.from_vec.ensures) c.loop-k.invariant.ready
