use Rattle.std.proofs.Common.{sym, subst}
use Rattle.mo_lexer.specs.Tokens.{AreTokens}
use Rattle.mo_flatten.proofs.Sizing.{sized_are}
use Rattle.mo_flatten.proofs.rules.sized.Goals as goal

pub returns : goal.returns
returns c =
    sized_are c.args.scopes.now c.in_ok-order.ensures.1 c.as_slice-2.result.now
    (subst (AreTokens c.args.scopes.now.named.file.text.now) (sym c.as_slice-2.ensures) c.in_ok-tokens.ensures) c.sized_instances.result c.sized_instances.ensures
