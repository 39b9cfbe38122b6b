use Rattle.std.proofs.Common.{rules, arith, ◌≡◌, ◌∙◌, ◌≤◌, ◌<◌, ◌+◌, refl, sym, subst, length, get_or, take}
use Rattle.std.proofs.lemmas.List.{get_or_default, take_all}
use Rattle.clock_spread.specs.declared.offers.Found.TheVariants.{Not, Lost}
use Rattle.clock_spread.specs.Found.{found_of}
use Rattle.clock_spread.specs.Least.{IsLeastOf, IsNumberIn}
use Rattle.clock_spread.proofs.Leasts.{least_more}
use Rattle.clock_spread.proofs.turn.least_lost.Goals as goal

pub loop-class-preserved : goal.loop-class-preserved
loop-class-preserved c =
    let i = c.loop-class.class-index in
    let within : i < length c.args.next.now = search rules in
    let class = get_or c.args.next.now i 0 in
    let inside : class < length c.args.found.now = c.requires i 0 within in
    let at : c.index-found-class.result ≡ found_of c.args.found.now class = c.index-found-class.is ∙ get_or_default c.args.found.now class c.index-found-class.result Not inside in
    subst (λ o. IsLeastOf (IsNumberIn (λ x. x) (λ x. found_of c.args.found.now x ≡ Lost) (take (i + 1) c.args.next.now)) o) (sym c.lesser-least.ensures)
    (least_more (λ x. x) (λ x. found_of c.args.found.now x ≡ Lost) c.args.next.now i 0 c.loop-class.least class c.is_lost.result within refl
    (λ t. sym at ∙ c.is_lost.ensures.0 t) (λ e. c.is_lost.ensures.1 (at ∙ e)) c.loop-class.invariant)

pub returns : goal.returns
returns c =
    let past : length c.args.next.now ≤ c.loop-class.class-index = omega arith in
    let all : take c.loop-class.class-index c.args.next.now ≡ c.args.next.now = take_all c.loop-class.class-index c.args.next.now past in
    subst (λ l. IsLeastOf (IsNumberIn (λ x. x) (λ x. found_of c.args.found.now x ≡ Lost) l) c.loop-class.least) all c.loop-class.invariant
