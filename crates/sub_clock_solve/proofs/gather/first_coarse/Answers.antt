use Rattle.std.proofs.Common.{rules, arith, ◌≡◌, ◌∙◌, ◌<◌, ◌^◌, refl, sym, subst, false, length, take, get_or}
use Rattle.std.proofs.lemmas.List.{get_or_default}
use Rattle.rational_time.specs.Multiple.{HasMultipleBelow}
use Rattle.clock_spread.specs.declared.offers.Found.TheVariants.{Not}
use Rattle.clock_spread.specs.Found.{found_of}
use Rattle.sub_clock_solve.specs.Grain.{denominators, IsGrain}
use Rattle.sub_clock_solve.specs.private.Gathering.{kept_grids}
use Rattle.sub_clock_solve.proofs.Grains.{grain_none, grain_has}
use Rattle.sub_clock_solve.proofs.Gathers.{class_more}
use Rattle.sub_clock_solve.proofs.gather.first_coarse.Goals as goal

pub loop-class-init : goal.loop-class-init
loop-class-init c = (grain_none, omega arith)

pub returns-in_default : goal.returns-in_default
returns-in_default c =
    let i = c.loop-class.class in
    let found = c.args.found.now in
    let clocked = c.args.clocked.now in
    let within : c.loop-class.class < length c.args.clocked.now = search rules in
    let inside : c.loop-class.class < length c.args.found.now = search rules in
    let at : c.index-found-class.result ≡ found_of found i = c.index-found-class.is ∙ get_or_default found i c.index-found-class.result Not inside in
    let more = class_more found clocked i c.index-found-class.result (get_or clocked i false) inside within at refl in
    let before = denominators (kept_grids (take i found) (take i clocked)) in
    let none = c.in_default.ensures {u = tt} before c.loop-class.invariant.0 in
    (within, grain_has before c.loop-class.grain c.loop-class.invariant.0 c.loop-class.invariant.1, λ h. none (subst (λ l. HasMultipleBelow (2 ^ 40) l) more h))

pub loop-class-preserved : goal.loop-class-preserved
loop-class-preserved c =
    let i = c.loop-class.class in
    let found = c.args.found.now in
    let clocked = c.args.clocked.now in
    let within : c.loop-class.class < length c.args.clocked.now = search rules in
    let inside : c.loop-class.class < length c.args.found.now = search rules in
    let at : c.index-found-class.result ≡ found_of found i = c.index-found-class.is ∙ get_or_default found i c.index-found-class.result Not inside in
    let more = class_more found clocked i c.index-found-class.result (get_or clocked i false) inside within at refl in
    let next = c.in-Some.ensures {u = tt} (denominators (kept_grids (take i found) (take i clocked))) c.loop-class.invariant.0 in
    (subst (λ l. IsGrain l c.in-Some.next) (sym more) next.0, next.1)
