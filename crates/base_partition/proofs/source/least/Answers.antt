use Rattle.std.proofs.Common.{rules, ◌≡◌, ◌<◌, ◌++◌, [], ◌∷◌, length, refl, sym, subst, get_or, take}
use Rattle.std.proofs.lemmas.List.{take_more}
use Rattle.base_partition.specs.private.Sources.{no_sources, mixed_in, lesser_of, IsLeastOf}
use Rattle.base_partition.proofs.LeastSecond.{least_push}
use Rattle.base_partition.proofs.source.least.Goals as goal

pub loop-base-preserved : goal.loop-base-preserved
loop-base-preserved c =
    let i = c.loop-base.base-index in
    let b = get_or c.args.bases.now c.loop-base.base-index no_sources in
    let within : c.loop-base.base-index < length c.args.bases.now = search rules in
    let e : c.lesser-found.result ≡ lesser_of c.loop-base.found (mixed_in (get_or c.args.bases.now c.loop-base.base-index no_sources)) = search rules in
    let more = take_more c.args.bases.now i no_sources within in
    subst (λ bs. IsLeastOf bs c.lesser-found.result) (sym more)
    (subst (λ r. IsLeastOf (take i c.args.bases.now ++ b ∷ []) r) (sym e) (least_push (take i c.args.bases.now) b c.loop-base.found (mixed_in b) refl c.loop-base.invariant))
