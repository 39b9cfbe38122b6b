use Rattle.std.proofs.Common.{rules, ◌≡◌, ◌+◌, ◌<◌, length, sym, subst, ◌∙◌, slice_index_or}
use Rattle.mo_connect.specs.Chain.{AreBelow}
use Rattle.clock_terms.specs.Said.{IsMarkedUnclocked}
use Rattle.base_partition.specs.private.Members.{members_of}
use Rattle.base_partition.specs.private.Numbered.{AreClassNumbers, AreTogether}
use Rattle.base_partition.specs.private.Marks.{HasMarks}
use Rattle.base_partition.specs.private.Pairs.{class_pairs}
use Rattle.base_partition.specs.private.Placed.{ArePlaces}
use Rattle.base_partition.proofs.ClassesFit.{joins_together, has_classes, firsts_within, marks_are, pairs_below, pairs_together, partition_below, classes_are, members_count}
use Rattle.base_partition.proofs.group.divide.Goals as goal

pub numbered-requires-clause-together : goal.numbered-requires-clause-together
numbered-requires-clause-together c =
    let is : c.as_slice-2.result.now ≡ members_of c.args.flat.now.names (length c.args.terms.now.nodes) = search rules in
    joins_together c.args.flat.now c.args.terms.now c.requires c.as_slice-2.result.now is

pub marks-requires : goal.marks-requires
marks-requires c =
    let is : c.as_slice-4.result.now ≡ members_of c.args.flat.now.names (length c.args.terms.now.nodes) = search rules in
    let numbers : AreClassNumbers c.args.terms.now.joins c.as_slice-4.result.now c.in_ok-numbers.numbers.firsts c.as_slice-3.result.now = search rules in
    let size : c.len-4.result ≡ length c.in_ok-numbers.numbers.firsts = search rules in
    λ x h. subst (λ n. slice_index_or c.as_slice-3.result.now x 0 < n) (sym size)
    (has_classes c.args.flat.now c.args.terms.now c.requires c.as_slice-4.result.now is c.in_ok-numbers.numbers.firsts c.as_slice-3.result.now numbers x h)

pub marks-requires-2 : goal.marks-requires-2
marks-requires-2 c =
    let is : c.as_slice-7.result.now ≡ members_of c.args.flat.now.names (length c.args.terms.now.nodes) = search rules in
    let numbers : AreClassNumbers c.args.terms.now.joins c.as_slice-7.result.now c.in_ok-numbers.numbers.firsts c.as_slice-6.result.now = search rules in
    let size : c.len-5.result ≡ length c.in_ok-numbers.numbers.firsts = search rules in
    λ x h. subst (λ n. slice_index_or c.as_slice-6.result.now x 0 < n) (sym size)
    (has_classes c.args.flat.now c.args.terms.now c.requires c.as_slice-7.result.now is c.in_ok-numbers.numbers.firsts c.as_slice-6.result.now numbers x h)

pub numbered-requires-2-clause-below : goal.numbered-requires-2-clause-below
numbered-requires-2-clause-below c =
    let model = c.args.flat.now in
    let terms = c.args.terms.now in
    let members = c.in_ok-members.members in
    let firsts = c.in_ok-numbers.numbers.firsts in
    let class_of = c.in_ok-numbers.numbers.places in
    let is : c.in_ok-members.members ≡ members_of c.args.flat.now.names (length c.args.terms.now.nodes) = search rules in
    let numbers : AreClassNumbers c.args.terms.now.joins c.in_ok-members.members c.in_ok-numbers.numbers.firsts c.in_ok-numbers.numbers.places = search rules in
    let e : c.in_ok-pairs.pairs ≡ class_pairs c.in_ok-members.members c.in_ok-numbers.numbers.places c.args.terms.now.conversions = search rules in
    let size : c.in-Ok-try_from.class_count ≡ length c.in_ok-numbers.numbers.firsts = search rules in
    subst (λ n. AreBelow n c.in_ok-pairs.pairs) (sym size)
    (subst (λ ps. AreBelow (length firsts) ps) (sym e) (pairs_below model terms c.requires members is firsts class_of numbers))

pub numbered-requires-2-clause-together : goal.numbered-requires-2-clause-together
numbered-requires-2-clause-together c =
    let model = c.args.flat.now in
    let terms = c.args.terms.now in
    let members = c.in_ok-members.members in
    let firsts = c.in_ok-numbers.numbers.firsts in
    let class_of = c.in_ok-numbers.numbers.places in
    let is : c.in_ok-members.members ≡ members_of c.args.flat.now.names (length c.args.terms.now.nodes) = search rules in
    let numbers : AreClassNumbers c.args.terms.now.joins c.in_ok-members.members c.in_ok-numbers.numbers.firsts c.in_ok-numbers.numbers.places = search rules in
    let e : c.in_ok-pairs.pairs ≡ class_pairs c.in_ok-members.members c.in_ok-numbers.numbers.places c.args.terms.now.conversions = search rules in
    let marks : HasMarks c.in_ok-members.members c.in_ok-numbers.numbers.places c.args.terms.now.clocked (length c.in_ok-numbers.numbers.firsts) c.as_slice-12.result.now = search rules in
    subst (λ ps. AreTogether ps c.as_slice-12.result.now) (sym e) (pairs_together model terms c.requires members is firsts class_of numbers c.as_slice-12.result.now marks)

pub places-requires-clause-within : goal.places-requires-clause-within
places-requires-clause-within c =
    let is : c.in_ok-members.members ≡ members_of c.args.flat.now.names (length c.args.terms.now.nodes) = search rules in
    let numbers : AreClassNumbers c.args.terms.now.joins c.in_ok-members.members c.as_slice-14.result.now c.in_ok-numbers.numbers.places = search rules in
    let nodes : c.as_slice-13.result.now ≡ c.args.terms.now.nodes = search rules in
    λ k d within. subst (λ ns. slice_index_or c.as_slice-14.result.now k d < length c.args.flat.now.names + length ns) (sym nodes)
    (firsts_within c.args.flat.now c.args.terms.now c.requires c.in_ok-members.members is c.as_slice-14.result.now c.in_ok-numbers.numbers.places numbers k d within)

pub returns : goal.returns
returns c =
    let model = c.args.flat.now in
    let terms = c.args.terms.now in
    let members = c.in_ok-members.members in
    let firsts = c.in_ok-numbers.numbers.firsts in
    let class_of = c.in_ok-numbers.numbers.places in
    let clocked = c.in_ok-clocked.clocked in
    let is : c.in_ok-members.members ≡ members_of c.args.flat.now.names (length c.args.terms.now.nodes) = search rules in
    let numbers : AreClassNumbers c.args.terms.now.joins c.in_ok-members.members c.in_ok-numbers.numbers.firsts c.in_ok-numbers.numbers.places = search rules in
    let e : c.in_ok-pairs.pairs ≡ class_pairs c.in_ok-members.members c.in_ok-numbers.numbers.places c.args.terms.now.conversions = search rules in
    let marks : HasMarks c.in_ok-members.members c.in_ok-numbers.numbers.places c.args.terms.now.clocked (length c.in_ok-numbers.numbers.firsts) c.in_ok-clocked.clocked = search rules in
    let unmarks : HasMarks c.in_ok-members.members c.in_ok-numbers.numbers.places c.args.terms.now.unclocked (length c.in_ok-numbers.numbers.firsts) c.in_ok-unclocked.unclocked = search rules in
    let based : AreClassNumbers c.in_ok-pairs.pairs c.in_ok-clocked.clocked c.in_ok-partitions.partitions.firsts c.in_ok-partitions.partitions.places = search rules in
    let placed : ArePlaces c.args.flat.now c.in_ok-numbers.numbers.firsts c.in_ok-places.places = search rules in
    let size : c.len-bases.result ≡ length c.in_ok-partitions.partitions.firsts = search rules in
    let partitioned = subst (λ ps. AreClassNumbers ps clocked c.in_ok-partitions.partitions.firsts c.in_ok-partitions.partitions.places) e based in
    record {
      are = classes_are model terms c.requires members is firsts class_of numbers clocked marks c.in_ok-partitions.partitions.firsts c.in_ok-partitions.partitions.places partitioned c.in_ok-places.places
          (members_count model terms c.requires members is) placed;
      count = marks.count_is ∙ sym unmarks.count_is;
      unclocked = marks_are model terms c.requires members is firsts class_of numbers (IsMarkedUnclocked model) terms.unclocked (length firsts) c.in_ok-unclocked.unclocked c.requires.unclocked unmarks;
      bases = λ k h. subst (λ n. slice_index_or c.in_ok-partitions.partitions.places k 0 < n) (sym size)
          (partition_below model terms c.requires members is firsts class_of numbers clocked marks c.in_ok-partitions.partitions.firsts c.in_ok-partitions.partitions.places partitioned k h);
    }
