use Rattle.std.proofs.Common.{◌≡◌, Err, drop, take, rules, subst}
use Rattle.mo_lexer.specs.Tokens.{Begins, BeginsNone, token_of, no_piece, refused}
use Rattle.mo_lexer.proofs.lexing.next.Goals as goal

pub returns-in_default : goal.returns-in_default
returns-in_default c = no_piece c.args.at c.requires (subst BeginsNone c.rest_from-rest.ensures c.in_default.ensures)

pub returns-in-Err : goal.returns-in-Err
returns-in-Err c =
    let begins : Begins c.in-Some.piece c.in-Some.len (drop c.args.at c.args.text.now) = subst (Begins c.in-Some.piece c.in-Some.len) c.rest_from-rest.ensures c.in-Some.ensures in
    let is : token_of c.in-Some.piece (take c.in-Some.len (drop c.args.at c.args.text.now)) ≡ Err c.in-Err.code = search rules in
    refused c.args.at c.in-Some.piece c.in-Some.len c.in-Err.code begins is
