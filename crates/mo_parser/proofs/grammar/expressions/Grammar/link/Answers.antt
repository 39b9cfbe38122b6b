use Rattle.std.proofs.Common.{◌≡◌, rules}
use Rattle.mo_parser.specs.reading.Outcomes.{Read, one}
use Rattle.mo_parser.specs.reading.Expressions.{link}
use Rattle.mo_parser.proofs.Turns.{made_reads, then_reads}
use Rattle.mo_parser.proofs.grammar.expressions.Grammar.link.Goals as goal

pub returns : goal.returns
unfolding link
returns g c =
    let first : one g.C.Chain.op_by c.args.tokens.now ≡ Read c.in_ok-op.op c.operator.new.tokens = search rules in
    then_reads _ _ _ _ _ _ first (then_reads _ _ _ _ _ _ c.in_ok-part.ensures (made_reads _ _ _ c.linked.ensures.ok c.linked.ensures.err))
