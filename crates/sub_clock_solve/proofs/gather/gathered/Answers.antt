use Rattle.std.proofs.Common.{rules, ◌≡◌, ◌∙◌, ◌++◌, ◌<◌, sym, ap, ap₂, true, false, length, take}
use Rattle.std.proofs.lemmas.List.{get_or_default}
use Rattle.clock_spread.specs.declared.offers.Found.TheVariants.{Not}
use Rattle.clock_spread.specs.Found.{found_of}
use Rattle.clock_spread.specs.Queue.{marked}
use Rattle.sub_clock_solve.specs.private.Gathering.{kept_grids, kept_of}
use Rattle.sub_clock_solve.proofs.Gathers.{kept_more, kept_false}
use Rattle.sub_clock_solve.proofs.gather.gathered.Goals as goal
use Rattle.sub_clock_solve.proofs.gather.gathered.Goals.{then-clocked-class+in_ok-keep, else-clocked-class}

pub loop-class-preserved : goal.loop-class-preserved
loop-class-preserved c =
    let i = c.loop-class.class in
    let found = c.args.found.now in
    let clocked = c.args.clocked.now in
    let inside : c.loop-class.class < length c.args.found.now = search rules in
    let within : c.loop-class.class < length c.args.clocked.now = search rules in
    let at : c.index-found-class.result ≡ found_of found i = c.index-found-class.is ∙ get_or_default found i c.index-found-class.result Not inside in
    let more = kept_more found clocked i Not false inside within in
    elim c.if-clocked-class.branch [
      | then-clocked-class+in_ok-keep w ↦
          let is : marked c.args.clocked.now c.loop-class.class ≡ true = search rules in
          let grids : c.if-clocked-class.grids ≡ c.loop-class.grids ++ kept_of true c.index-found-class.result = search rules in
          grids ∙ ap₂ (λ l f. l ++ kept_of true f) c.loop-class.invariant at ∙ sym (more ∙ ap (λ b. kept_grids (take i found) (take i clocked) ++ kept_of b (found_of found i)) is)
      | else-clocked-class w ↦
          let is : marked c.args.clocked.now c.loop-class.class ≡ false = search rules in
          let grids : c.if-clocked-class.grids ≡ c.loop-class.grids = search rules in
          grids ∙ c.loop-class.invariant ∙ sym (more ∙ ap (λ b. kept_grids (take i found) (take i clocked) ++ kept_of b (found_of found i)) is ∙ kept_false (kept_grids (take i found) (take i clocked)) (found_of found i))
    ]
