use Rattle.flatten_tests.proofs.flattened.tree_of.Goals as goal

pub returns-in-Ok-parse : goal.returns-in-Ok-parse
returns-in-Ok-parse c = (c.in-Ok.tokens, c.in-Ok.ensures, c.in-Ok-parse.ensures)
