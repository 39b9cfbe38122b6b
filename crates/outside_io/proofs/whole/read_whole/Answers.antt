use Rattle.std.proofs.Common.{arith, ◌≡◌, ◌∙◌, length}
use Rattle.outside_io.proofs.Fronts.{front_more, front_whole, front_longer}
use Rattle.outside_io.proofs.whole.read_whole.Goals as goal

pub loop-part-preserved : goal.loop-part-preserved
loop-part-preserved g c =
    let place : c.len-in-loop-part.result ≡ length c.loop-part.bytes.items = omega (arith, c.len-in-loop-part.ensures, c.loop-part.bytes.ok) in
    let given = rw (c.loop-part.invariant.holds, c.loop-part.invariant.flag, place) at c.in-Bytes.ensures.gives in
    record {
      front = rw c.in_ok-extend_from_slice-in-Bytes.ensures.items (front_more _ c.loop-part.bytes.items c.read.new.into c.in-Bytes.count given.1 c.loop-part.invariant.front given.2);
      counts = λ other. omega (arith, c.loop-part.invariant.counts other, c.read.ensures.counts other);
      quiet = λ other. c.read.ensures.quiet (λ failed. cc failed) other ∙ c.loop-part.invariant.quiet other;
      holds = c.read.ensures.holds ∙ c.loop-part.invariant.holds;
      flag = c.read.ensures.flag ∙ c.loop-part.invariant.flag;
    }

pub returns-in_err-extend_from_slice-in-Bytes-clause-counts : goal.returns-in_err-extend_from_slice-in-Bytes-clause-counts
returns-in_err-extend_from_slice-in-Bytes-clause-counts g c = λ other. omega (arith, c.loop-part.invariant.counts other, c.read.ensures.counts other)

pub returns-in_err-extend_from_slice-in-Bytes-clause-holds : goal.returns-in_err-extend_from_slice-in-Bytes-clause-holds
returns-in_err-extend_from_slice-in-Bytes-clause-holds g c = c.read.ensures.holds ∙ c.loop-part.invariant.holds

pub returns-in_err-extend_from_slice-in-Bytes-clause-flag : goal.returns-in_err-extend_from_slice-in-Bytes-clause-flag
returns-in_err-extend_from_slice-in-Bytes-clause-flag g c = c.read.ensures.flag ∙ c.loop-part.invariant.flag

pub returns-in-End-clause-whole : goal.returns-in-End-clause-whole
returns-in-End-clause-whole g c =
    let place : c.len-in-loop-part.result ≡ length c.loop-part.bytes.items = omega (arith, c.len-in-loop-part.ensures, c.loop-part.bytes.ok) in
    front_whole _ c.loop-part.bytes.items c.loop-part.invariant.front (rw (c.loop-part.invariant.holds, c.loop-part.invariant.flag, place) at c.in-End.ensures.gives)

pub returns-in-End-clause-counts : goal.returns-in-End-clause-counts
returns-in-End-clause-counts g c = λ other. omega (arith, c.loop-part.invariant.counts other, c.read.ensures.counts other)

pub returns-in-End-clause-holds : goal.returns-in-End-clause-holds
returns-in-End-clause-holds g c = c.read.ensures.holds ∙ c.loop-part.invariant.holds

pub returns-in-End-clause-flag : goal.returns-in-End-clause-flag
returns-in-End-clause-flag g c = c.read.ensures.flag ∙ c.loop-part.invariant.flag

pub returns-in-Failed-clause-counts : goal.returns-in-Failed-clause-counts
returns-in-Failed-clause-counts g c = λ other. omega (arith, c.loop-part.invariant.counts other, c.read.ensures.counts other)

pub returns-in-Failed-clause-holds : goal.returns-in-Failed-clause-holds
returns-in-Failed-clause-holds g c = c.read.ensures.holds ∙ c.loop-part.invariant.holds

pub returns-in-Failed-clause-flag : goal.returns-in-Failed-clause-flag
returns-in-Failed-clause-flag g c = c.read.ensures.flag ∙ c.loop-part.invariant.flag

pub returns-clause-long : goal.returns-clause-long
returns-clause-long g c = λ _. front_longer _ c.loop-part.bytes.items c.args.limit c.loop-part.invariant.front (omega (arith, c.loop-part-test.false, c.len.ensures))

pub returns-clause-counts : goal.returns-clause-counts
returns-clause-counts g c = c.loop-part.invariant.counts

pub returns-clause-holds : goal.returns-clause-holds
returns-clause-holds g c = c.loop-part.invariant.holds

pub returns-clause-flag : goal.returns-clause-flag
returns-clause-flag g c = c.loop-part.invariant.flag
