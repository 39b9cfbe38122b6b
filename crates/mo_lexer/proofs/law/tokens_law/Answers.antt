use Rattle.mo_lexer.proofs.Exists.{tokens_or_fault}
use Rattle.mo_lexer.proofs.Laws.{one_token_list, one_fault, never_both}
use Rattle.mo_lexer.proofs.law.tokens_law.Goals as goal

pub returns : goal.returns
returns c = record {
  either = tokens_or_fault c.args.text.now;
  one_list = one_token_list c.args.text.now;
  one_code = λ code other at place f g. (one_fault c.args.text.now code other at place f g).0;
  one_place = λ code other at place f g. (one_fault c.args.text.now code other at place f g).1;
  never_both = λ tokens fault. never_both c.args.text.now tokens.0 fault.0 fault.1 tokens.1 fault.2;
}
