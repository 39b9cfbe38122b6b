use Rattle.std.proofs.Common.{rules, ◌≡◌, ◌∙◌, ◌++◌, ◌∷◌, [], refl, sym, ap, subst}
use Rattle.clock_terms.specs.Source.{kind_of}
use Rattle.clock_terms.proofs.ClockKinds.{kind_of-Name, kind_of-Inferred, kind_of-Rational, kind_of-Event, kind_of-Convert}
use Rattle.clock_check.specs.private.Making.{adds_by}
use Rattle.clock_check.proofs.parts.add_site.Goals as goal

pub returns-in_ok-push-in-Event : goal.returns-in_ok-push-in-Event
returns-in_ok-push-in-Event c =
    let kind = ap kind_of c.in-Event.is ∙ kind_of-Event c.in-Event.condition in
    let copy : c.in_ok-copied_expr-in-Event.field-0 ≡ c.in-Event.condition = search rules in
    let added : c.push.new.self ≡ c.args.sites.now ++ c.in-Event.condition ∷ [] = c.in_ok-push-in-Event.ensures.ok ∙ ap (λ e. c.args.sites.now ++ e ∷ []) copy in
    subst (λ k. adds_by k c.args.constructor.now.clock c.args.sites.now c.push.new.self) (sym kind) (c.in-Event.condition, c.in-Event.is, added)

pub returns-in-Rational : goal.returns-in-Rational
returns-in-Rational c = subst (λ k. adds_by k c.args.constructor.now.clock c.args.sites.now c.args.sites.now) (sym (ap kind_of c.in-Rational.is ∙ kind_of-Rational c.in-Rational.field-0 c.in-Rational.field-1)) refl

pub returns-in-Name : goal.returns-in-Name
returns-in-Name c = subst (λ k. adds_by k c.args.constructor.now.clock c.args.sites.now c.args.sites.now) (sym (ap kind_of c.in-Name.is ∙ kind_of-Name c.in-Name.field-0)) refl

pub returns-in-Inferred : goal.returns-in-Inferred
returns-in-Inferred c = subst (λ k. adds_by k c.args.constructor.now.clock c.args.sites.now c.args.sites.now) (sym (ap kind_of c.in-Inferred.is ∙ kind_of-Inferred)) refl

pub returns-in-Convert : goal.returns-in-Convert
returns-in-Convert c = subst (λ k. adds_by k c.args.constructor.now.clock c.args.sites.now c.args.sites.now) (sym (ap kind_of c.in-Convert.is ∙ kind_of-Convert c.in-Convert.field-0 c.in-Convert.field-1)) refl
