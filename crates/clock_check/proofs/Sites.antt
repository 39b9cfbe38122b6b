-- Conditions of event constructors, constructor by constructor.
use Rattle.std.proofs.Common.{◌≡◌, ◌∙◌, refl, sym, ap, subst, ℕ, ◌+◌, ◌<◌, ◌≤◌, List, [], ◌∷◌, ◌++◌, length, get_or, drop}
use Rattle.std.proofs.lemmas.List.{append-nil, append_assoc, drop_more, drop_all}
use Rattle.flat_model.specs.declared.expression.Expr.{Expr}
use Rattle.clock_terms.specs.declared.data.Constructor.{Constructor}
use Rattle.clock_terms.specs.Source.{Kind, Inferred, Every, AtSite, Other, kind_of}
use Rattle.clock_check.specs.ClockingOf.{sites_before, AreSites}
use Rattle.clock_check.specs.private.Making.{adds_by, AddsSite}

abbrev pub Continues : List Constructor → List Expr → List Constructor → Type 0
Continues all old rest = (sites : List Expr) → AreSites rest sites → AreSites all (old ++ sites)

step_by : (kind : Kind) (k : Constructor) (ks rest : List Constructor) (old new : List Expr) → adds_by kind k.clock old new → ((sites : List Expr) → sites_before kind k.clock (AreSites rest) sites → AreSites ks (old ++ sites)) → Continues ks new rest
step_by Inferred k ks rest old new adds h sites are = subst (λ l. AreSites ks (l ++ sites)) (sym adds) (h sites are)
step_by (Every n r) k ks rest old new adds h sites are = subst (λ l. AreSites ks (l ++ sites)) (sym adds) (h sites are)
step_by Other k ks rest old new adds h sites are = subst (λ l. AreSites ks (l ++ sites)) (sym adds) (h sites are)
step_by AtSite k ks rest old new (condition, at, added) h sites are =
    subst (λ l. AreSites ks (l ++ sites)) (sym added)
    (subst (λ l. AreSites ks l) (sym (append_assoc old (condition ∷ []) sites)) (h (condition ∷ sites) (condition, sites, at, refl, are)))

pub site_step : (ks : List Constructor) (i : ℕ) (k : Constructor) (old new : List Expr) → i < length ks → k ≡ get_or ks i k → AddsSite k old new → Continues ks old (drop i ks) → Continues ks new (drop (i + 1) ks)
site_step ks i k old new within is adds h =
    let whole : drop i ks ≡ k ∷ drop (i + 1) ks = drop_more ks i k within ∙ ap (λ x. x ∷ drop (i + 1) ks) (sym is) in
    step_by (kind_of k.clock) k ks (drop (i + 1) ks) old new adds (subst (λ l. Continues ks old l) whole h)

pub sites_end : (ks : List Constructor) (i : ℕ) (old : List Expr) → length ks ≤ i → Continues ks old (drop i ks) → AreSites ks old
sites_end ks i old past h = subst (λ l. AreSites ks l) (append-nil old) (h [] (subst (λ l. AreSites l []) (sym (drop_all i ks past)) refl))
