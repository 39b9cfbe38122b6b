use Rattle.std.proofs.Common.{◌∙◌, ap, Some}
use Rattle.plan_tests.proofs.Risings.{none_noted}
use Rattle.plan_tests.proofs.planning.go_on.Goals as goal

pub note-requires-clause-at : goal.note-requires-clause-at
note-requires-clause-at g c = (c.in-At.field-0, ap (λ plan. plan.given) c.in-Some.ensures.2 ∙ ap (λ moment. Some moment) c.in-At.is)

pub note-requires-clause-fresh : goal.note-requires-clause-fresh
note-requires-clause-fresh g c = ap (λ plan. plan.noted) c.in-Some.ensures.2 ∙ none_noted _ c.requires
