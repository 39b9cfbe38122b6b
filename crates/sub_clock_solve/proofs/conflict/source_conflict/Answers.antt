use Rattle.std.proofs.Common.{rules, arith, ◌+◌, ◌<◌, ◌≤◌, sym, subst, length, take, get_or}
use Rattle.std.proofs.lemmas.List.{take_all}
use Rattle.clock_terms.specs.Source.{Source, every}
use Rattle.clock_spread.specs.Least.{IsLeastOf, IsNumberIn}
use Rattle.clock_spread.proofs.Leasts.{least_more}
use Rattle.sub_clock_solve.specs.private.Failing.{Differs}
use Rattle.sub_clock_solve.specs.private.Given.{IsSource}
use Rattle.sub_clock_solve.proofs.Giving.{source_at, sources_length}
use Rattle.sub_clock_solve.proofs.conflict.source_conflict.Goals as goal

none : Source
none = record { node = 0; equation = 0; clock = every 1 1 }

pub loop-given-preserved : goal.loop-given-preserved
loop-given-preserved c = λ held sources agree proper are own.
    let i = c.loop-given.given-index in
    let within : c.loop-given.given-index < length c.args.givens.now = search rules in
    let same = sources_length c.args.givens.now sources are in
    let inside : i < length sources = omega (arith, same, within) in
    let given = c.given-item.result in
    let source = get_or sources i none in
    let is : IsSource given source = subst (λ g. IsSource g source) (sym c.given-item.is) (source_at c.args.givens.now sources i given none are within) in
    let test = c.differs.ensures held source agree proper is (own i none inside) in
    subst (λ o. IsLeastOf (IsNumberIn (λ s. s.equation) (Differs c.args.class_of.now held) (take (i + 1) sources)) o) (sym c.lesser-least.ensures)
    (least_more (λ s. s.equation) (Differs c.args.class_of.now held) sources i none c.loop-given.least given.equation c.differs.result inside is.equation test.0 test.1 (c.loop-given.invariant held sources agree proper are own))

pub returns : goal.returns
returns c = λ held sources agree proper are own.
    let past : length c.args.givens.now ≤ c.loop-given.given-index = omega arith in
    let same = sources_length c.args.givens.now sources are in
    let end : length sources ≤ c.loop-given.given-index = omega (arith, same, past) in
    subst (λ l. IsLeastOf (IsNumberIn (λ s. s.equation) (Differs c.args.class_of.now held) l) c.loop-given.least)
    (take_all c.loop-given.given-index sources end) (c.loop-given.invariant held sources agree proper are own)
