use Rattle.std.proofs.Common.{◌∙◌, ◌<◌, refl, sym, ap, subst, None, Some, false}
use Rattle.rational_time.specs.Fraction.{IsFraction}
use Rattle.clock_terms.specs.Source.{kind_of}
use Rattle.sub_clock_solve.specs.private.Given.{GivesNone, GivesGrid}
use Rattle.sub_clock_solve.specs.Standing.{IsGivenKind}
use Rattle.clock_terms.proofs.ClockKinds.{kind_of-Name, kind_of-Inferred, kind_of-Rational, kind_of-Event, kind_of-Convert}
use Rattle.sub_clock_solve.proofs.Giving.{every_grid, site_grid}
use Rattle.sub_clock_solve.proofs.given.grid_of.Goals as goal

pub make-requires : goal.make-requires
make-requires c =
    let n = c.in-Rational.counter in
    let r = c.in-Rational.resolution in
    let limits = subst IsGivenKind (ap kind_of c.in-Rational.is ∙ kind_of-Rational n r) c.requires in
    subst (λ x. 0 < x) (sym c.from-in-Rational.ensures) limits.2

pub returns-in-Rational : goal.returns-in-Rational
returns-in-Rational c =
    let n = c.in-Rational.counter in
    let r = c.in-Rational.resolution in
    let kind = ap kind_of c.in-Rational.is ∙ kind_of-Rational n r in
    let limits = subst IsGivenKind kind c.requires in
    let period : IsFraction c.make.result n r = subst (λ x. IsFraction c.make.result x r) c.from.ensures (subst (λ x. IsFraction c.make.result c.from.result x) c.from-in-Rational.ensures c.make.ensures) in
    subst (λ k. GivesGrid k c.args.site (record { site = None; period = c.make.result; start = c.make-in-Rational.result; negative = false })) (sym kind)
    (every_grid c.make.result c.make-in-Rational.result n r limits period c.make-in-Rational.ensures, refl)

pub returns-in-Event : goal.returns-in-Event
returns-in-Event c =
    let kind = ap kind_of c.in-Event.is ∙ kind_of-Event c.in-Event.field-0 in
    subst (λ k. GivesGrid k c.args.site (record { site = Some c.args.site; period = c.make-in-Event.result; start = c.make-in-Event-2.result; negative = false })) (sym kind)
    (site_grid c.make-in-Event.result c.make-in-Event-2.result c.args.site c.make-in-Event.ensures c.make-in-Event-2.ensures, refl)

pub returns-in-Name : goal.returns-in-Name
returns-in-Name c = subst GivesNone (sym (ap kind_of c.in-Name.is ∙ kind_of-Name c.in-Name.field-0)) tt

pub returns-in-Inferred : goal.returns-in-Inferred
returns-in-Inferred c = subst GivesNone (sym (ap kind_of c.in-Inferred.is ∙ kind_of-Inferred)) tt

pub returns-in-Convert : goal.returns-in-Convert
returns-in-Convert c = subst GivesNone (sym (ap kind_of c.in-Convert.is ∙ kind_of-Convert c.in-Convert.field-0 c.in-Convert.field-1)) tt
