use Rattle.std.proofs.Common.{rules, ◌≡◌, ap, ◌∙◌, sym, subst, true, length, vec_len, None}
use Rattle.std.specs.Vec.{with_items}
use Rattle.std.proofs.lemmas.List.{with_items_is}
use Rattle.part_stretches.specs.Running.{RunsFrom}
use Rattle.tree_step.specs.Starts.{sight_of}
use Rattle.part_words.specs.Words.{AreFilled}
use Rattle.coded_step.specs.private.Landing.{ticking_of, AreLanded}
use Rattle.coded_step.proofs.Taken.{taken_by_code}
use Rattle.coded_step.proofs.taking.take_coded.Goals as goal

pub returns-clause-takes : goal.returns-clause-takes
returns-clause-takes c = λ done.
    let size : length c.fill_words.new.words ≡ vec_len c.args.code.now.words = c.fill_words.ensures.size ∙ ap length c.deref_mut.ensures.value ∙ sym c.args.code.now.words.ok.0 in
    let filled : c.deref_mut-2.result.now ≡ c.fill_words.new.words = c.deref_mut-2.ensures.value ∙ with_items_is c.args.code.now.words c.fill_words.new.words size in
    let words : c.deref-3.result.now ≡ c.run_ticking.new.words =
    c.deref-3.ensures.value ∙ with_items_is (with_items c.args.code.now.words c.fill_words.new.words) c.run_ticking.new.words (c.run_ticking.ensures.size ∙ ap length filled ∙ size) in
    let whole : c.run_ticking.result ≡ true = search rules in
    let fills : AreFilled (sight_of c.args.scene.now) c.args.cells.now c.args.code.now.keys c.fill_words.new.words =
    subst (λ ks. AreFilled (sight_of c.args.scene.now) c.args.cells.now ks c.fill_words.new.words) c.as_slice.ensures c.fill_words.ensures.words in
    let runs : RunsFrom 0 (ticking_of c.args.scene.now.clocks.now) c.args.code.now.stretches.items c.fill_words.new.words c.run_ticking.new.words None =
    subst (λ ws. RunsFrom 0 (ticking_of c.args.scene.now.clocks.now) c.args.code.now.stretches.items ws c.run_ticking.new.words None) filled
    (subst (λ xs. RunsFrom 0 (ticking_of c.args.scene.now.clocks.now) xs c.deref_mut-2.result.now c.run_ticking.new.words None) c.deref.ensures.value (c.run_ticking.ensures.runs whole)) in
    let landed : AreLanded c.args.scene.now.clocks.now c.args.entries.now c.args.code.now.landings.items c.run_ticking.new.words c.args.cells.now c.land.new.cells =
    subst (λ ws. AreLanded c.args.scene.now.clocks.now c.args.entries.now c.args.code.now.landings.items ws c.args.cells.now c.land.new.cells) words
    (subst (λ ls. AreLanded c.args.scene.now.clocks.now c.args.entries.now ls c.deref-3.result.now c.args.cells.now c.land.new.cells) c.deref-2.ensures.value c.land.ensures) in
    taken_by_code (sight_of c.args.scene.now) c.args.entries.now c.args.cells.now c.land.new.cells c.args.code.now c.fill_words.new.words c.run_ticking.new.words fills runs landed
