use Rattle.std.proofs.Common.{◌∙◌, ap, ap₂, sym, length}
use Rattle.moment_body.proofs.Written.{whole_back}
use Rattle.window_plan.specs.Windows.{Plans, EndsSo}
use Rattle.window_plan.proofs.Turning.{moved}
use Rattle.window_plan.proofs.window.WindowPlan.plan.Goals as goal

pub returns-clause-plans : goal.returns-clause-plans
returns-clause-plans g c =
    let w = c.args.self.now in
    let new = c.plan_moments-self.new in
    let low = whole_back w.low.len w.low.items new.low w.low.ok.0 (c.plan_moments-self.auto.low ∙ ap length c.as_mut_slice.ensures.value) in
    let moments = whole_back w.moments.len w.moments.items new.moments w.moments.ok.0 (c.plan_moments-self.auto.moments ∙ ap length c.as_mut_slice-2.ensures.value) in
    moved (λ old later. Plans c.args.model.now old later c.plan_moments-self.result) _ _ _ _
    (ap₂ (λ l ms. record { plan = g.P.TickSource.planned c.args.plan.now; pure = w.pure; low = l; moments = ms }) c.as_mut_slice.ensures.value c.as_mut_slice-2.ensures.value)
    (sym (ap₂ (λ l ms. record { plan = g.P.TickSource.planned new.plan; pure = new.pure; low = l; moments = ms }) low moments)) c.plan_moments-self.ensures.plans

pub returns-clause-ends : goal.returns-clause-ends
returns-clause-ends g c =
    let w = c.args.self.now in
    let new = c.plan_moments-self.new in
    let low = whole_back w.low.len w.low.items new.low w.low.ok.0 (c.plan_moments-self.auto.low ∙ ap length c.as_mut_slice.ensures.value) in
    let moments = whole_back w.moments.len w.moments.items new.moments w.moments.ok.0 (c.plan_moments-self.auto.moments ∙ ap length c.as_mut_slice-2.ensures.value) in
    moved (λ old later. EndsSo old later c.plan_moments-self.result) _ _ _ _
    (ap₂ (λ l ms. record { plan = g.P.TickSource.planned c.args.plan.now; pure = w.pure; low = l; moments = ms }) c.as_mut_slice.ensures.value c.as_mut_slice-2.ensures.value)
    (sym (ap₂ (λ l ms. record { plan = g.P.TickSource.planned new.plan; pure = new.pure; low = l; moments = ms }) low moments)) c.plan_moments-self.ensures.ends
