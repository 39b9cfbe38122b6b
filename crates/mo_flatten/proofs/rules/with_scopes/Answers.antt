use Rattle.std.proofs.Common.{subst, Some}
use Rattle.class_scopes.specs.Faults.{IsFirstPlace}
use Rattle.scope_names.specs.N3 as N3
use Rattle.mo_flatten.proofs.Staged.{reached_here, three_end, scoped_here}
use Rattle.mo_flatten.proofs.rules.with_scopes.Goals as goal

pub unknown_name-requires : goal.unknown_name-requires
unknown_name-requires c =
    reached_here c.requires.0 c.requires.1 c.requires.2 c.args.named c.in_ok-scopes.scopes c.in_ok-scopes.ensures c.requires.3

pub returns-in-Some : goal.returns-in-Some
returns-in-Some c text classes choice are =
    let scopes = c.in_ok-scopes.scopes in
    three_end text classes choice c.args.named scopes c.in_ok-scopes.ensures are c.in-Some.at
    (subst (IsFirstPlace (N3.Breaks scopes.named.file.text.now scopes.named.file.classes.now (Some scopes.named.chosen))) c.in-Some.is c.in_ok-at.ensures)

pub returns : goal.returns
returns c text classes choice are =
    let scopes = c.in_ok-scopes.scopes in
    scoped_here text classes choice c.args.named scopes c.in_ok-scopes.ensures are
    (subst (IsFirstPlace (N3.Breaks scopes.named.file.text.now scopes.named.file.classes.now (Some scopes.named.chosen))) c.in-None.is c.in_ok-at.ensures)
