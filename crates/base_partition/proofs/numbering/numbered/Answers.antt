use Rattle.std.proofs.Common.{rules, ◌≡◌, ℕ, ◌<◌, length}
use Rattle.base_partition.specs.private.First.{IsFirst}
use Rattle.base_partition.specs.private.Numbered.{first_of, AreNumbers}
use Rattle.base_partition.proofs.ClassNumbers.{firsts_fit, class_numbers}
use Rattle.base_partition.proofs.numbering.numbered.Goals as goal

pub number-requires-clause-firsts : goal.number-requires-clause-firsts
number-requires-clause-firsts c =
    let size : length c.args.members.now ≡ length c.as_slice.result.now = search rules in
    let firsts : (x : ℕ) → x < length c.as_slice.result.now → IsFirst c.args.pairs.now x (first_of c.as_slice.result.now x) = search rules in
    firsts_fit c.args.pairs.now c.as_slice.result.now c.args.members.now size firsts c.requires.together

pub returns : goal.returns
returns c =
    let size : length c.args.members.now ≡ length c.as_slice.result.now = search rules in
    let firsts : (x : ℕ) → x < length c.as_slice.result.now → IsFirst c.args.pairs.now x (first_of c.as_slice.result.now x) = search rules in
    let h : AreNumbers c.as_slice.result.now c.args.members.now (length c.as_slice.result.now) c.in_ok-number.field-0.firsts c.in_ok-number.field-0.places = search rules in
    class_numbers c.args.pairs.now c.as_slice.result.now c.args.members.now size firsts c.in_ok-number.field-0.firsts c.in_ok-number.field-0.places h
