use Rattle.std.proofs.Common.{rules, ◌≡◌, ◌<◌, ◌++◌, [], ◌∷◌, length, true, sym, subst, slice_set, slice_index_or}
use Rattle.clock_terms.specs.Classing.{class_in, is_clocked, partition_in}
use Rattle.base_partition.specs.Classified.{is_source, is_event}
use Rattle.base_partition.specs.private.Sources.{no_sources, with_source, AreKept}
use Rattle.base_partition.proofs.Summing.{in_kept}
use Rattle.base_partition.proofs.source.note.Goals as goal

pub returns-then-partition-bases-clause-kept : goal.returns-then-partition-bases-clause-kept
returns-then-partition-bases-clause-kept c = λ before h.
    let k = c.args.constructor.now in
    let classes = c.args.classes.now in
    let own = c.number_in-partition.result in
    let source : is_source c.args.constructor.now ≡ true = search rules in
    let clocked : is_clocked c.args.classes.now (class_in c.args.classes.now c.args.constructor.now.node) ≡ true = search rules in
    let is : partition_in c.args.classes.now (class_in c.args.classes.now c.args.constructor.now.node) ≡ c.number_in-partition.result = search rules in
    let inside : c.number_in-partition.result < length c.args.bases.now = search rules in
    let e : c.with.result ≡ with_source (slice_index_or c.args.bases.now c.number_in-partition.result no_sources) c.args.constructor.now.equation (is_event c.args.constructor.now) = search rules in
    subst (λ b. AreKept classes (before ++ k ∷ []) (slice_set c.args.bases.now own b)) (sym e) (in_kept classes k before c.args.bases.now source clocked own is inside h)
