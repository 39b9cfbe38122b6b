use Rattle.std.proofs.Common.{◌∙◌, arith}
use Rattle.mo_lexer.proofs.KeywordLemmas.{keyword_sized, keyword_none}
use Rattle.mo_lexer.proofs.keyword.keyword.Goals as goal

pub returns-in-2 : goal.returns-in-2
returns-in-2 c = c.entry.ensures ∙ keyword_sized c.args.word.now 2 (omega arith)

pub returns-in-3 : goal.returns-in-3
returns-in-3 c = c.entry-in-3.ensures ∙ keyword_sized c.args.word.now 3 (omega arith)

pub returns-in-4 : goal.returns-in-4
returns-in-4 c = c.entry-in-4.ensures ∙ keyword_sized c.args.word.now 4 (omega arith)

pub returns-in-5 : goal.returns-in-5
returns-in-5 c = c.entry-in-5.ensures ∙ keyword_sized c.args.word.now 5 (omega arith)

pub returns-in-6 : goal.returns-in-6
returns-in-6 c = c.entry-in-6.ensures ∙ keyword_sized c.args.word.now 6 (omega arith)

pub returns-in-7 : goal.returns-in-7
returns-in-7 c = c.entry-in-7.ensures ∙ keyword_sized c.args.word.now 7 (omega arith)

pub returns-in-8 : goal.returns-in-8
returns-in-8 c = c.entry-in-8.ensures ∙ keyword_sized c.args.word.now 8 (omega arith)

pub returns-in-9 : goal.returns-in-9
returns-in-9 c = c.entry-in-9.ensures ∙ keyword_sized c.args.word.now 9 (omega arith)

pub returns-in-10 : goal.returns-in-10
returns-in-10 c = c.entry-in-10.ensures ∙ keyword_sized c.args.word.now 10 (omega arith)

pub returns-in-11 : goal.returns-in-11
returns-in-11 c = c.entry-in-11.ensures ∙ keyword_sized c.args.word.now 11 (omega arith)

pub returns-in-12 : goal.returns-in-12
returns-in-12 c = c.entry-in-12.ensures ∙ keyword_sized c.args.word.now 12 (omega arith)

pub returns-in-13 : goal.returns-in-13
returns-in-13 c = c.entry-in-13.ensures ∙ keyword_sized c.args.word.now 13 (omega arith)

pub returns-in_default : goal.returns-in_default
returns-in_default c = keyword_none c.args.word.now (λ low high. omega arith)
