use Rattle.std.proofs.Common.{◌≡◌, ◌∙◌, ap, ◌-◌, take, drop, length, arith, length-drop}
use Rattle.std.proofs.lemmas.List.{take_all}
use Rattle.outside_io.specs.Texts.{grown}
use Rattle.outside_io.proofs.Growth.{grown-take}
use Rattle.outside_io.proofs.sink.put_all.Goals as goal

pub loop-done-preserved : goal.loop-done-preserved
loop-done-preserved g c =
    let p = c.args.piece.now in
    let i = c.loop-done.done in
    let n = c.in-Taken.count in
    let rest : take (length p - i) (drop i p) ≡ drop i p = take_all (length p - i) (drop i p) (omega (arith, length-drop i p)) in
    let took = rw rest at c.in-Taken.ensures.takes in
    record {
      within = omega (arith, took.1, length-drop i p);
      text = took.2 ∙ ap (grown (take n (drop i p))) c.loop-done.invariant.text ∙ grown-take p i n (g.O.Sink.text c.args.sink.now);
      counts = omega (arith, c.in-Taken.ensures.counts, c.loop-done.invariant.counts);
      quiet = c.in-Taken.ensures.quiet (λ failed. cc failed) ∙ c.loop-done.invariant.quiet;
      untouched = λ none. absurd (omega (arith, took.0, none));
    }
