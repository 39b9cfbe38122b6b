-- N10, over the tokens of the text.
use Rattle.std.proofs.Common.{◌≡◌, refl, subst, ℕ, ◌<◌, List, Some, Result, Ok, Err, arith}
use Rattle.mo_lexer.specs.Tokens.{AreTokens}
use Rattle.mo_lexer.specs.declared.token.Token.{Token}
use Rattle.mo_lexer.proofs.Laws.{one_token_list}
use Rattle.mo_parser.specs.declared.tree.ClassDef.{ClassDef}
use Rattle.class_scopes.specs.declared.end.NameCode.TheVariants as code
use Rattle.class_scopes.specs.declared.end.RuleEnd.{RuleEnd}
use Rattle.class_scopes.specs.declared.end.RuleEnd.TheVariants.{Broken, NoMemory}
use Rattle.class_scopes.specs.Faults.{IsFirstOf, IsKept}
use Rattle.instance_sizes.specs.N10 as N10
use Rattle.instance_sizes.specs.Sizes.{Sizes}
use Rattle.flat_answer.specs.Broken.{BreaksSize, KeepsBefore}
use Rattle.flat_answer.proofs.Ranks.{keeps_more}
use Rattle.scope_names.specs.declared.scopes.Scopes.{Scopes}
use Rattle.flat_instances.specs.declared.item.Item.{Item}
use Rattle.std.specs.Global.{Global}
use Rattle.std.specs.declared.vec.Vec.{Vec}
use Rattle.mo_flatten.specs.private.Stages.{IsEnd, Sized}
use Rattle.mo_flatten.proofs.Staged.{ends_at}

module _ (text : List ℕ) (classes : List ClassDef) (chosen : ℕ) (tokens : List Token) (are : AreTokens text tokens) where
  counted : (place : ℕ) → BreaksSize text classes (Some chosen) place → N10.Breaks text classes tokens (Some chosen) place
  counted place (others, have, broken) = subst (λ ts. N10.Breaks text classes ts (Some chosen) place) (one_token_list text others tokens have are) broken

  pub size_kept : IsKept (N10.Breaks text classes tokens (Some chosen)) → IsKept (BreaksSize text classes (Some chosen))
  size_kept kept place broken = kept place (counted place broken)

  first_size : (at : ℕ) → IsFirstOf (N10.Breaks text classes tokens (Some chosen)) at → IsFirstOf (BreaksSize text classes (Some chosen)) at
  first_size at first = record {
    broken = (tokens, are, first.broken);
    least = λ other broken. first.least other (counted other broken);
  }

  module _ (before : KeepsBefore text classes (Some chosen) 8) where
    pub keeps_size : IsKept (N10.Breaks text classes tokens (Some chosen)) → KeepsBefore text classes (Some chosen) 9
    keeps_size kept = keeps_more text classes (Some chosen) code.N10 8 9 refl refl before (size_kept kept)

    pub size_end : (end : RuleEnd) → Sizes text classes tokens chosen (Err end) → IsEnd text classes (Some chosen) end
    size_end (Broken code.N10 at) first = ends_at text classes (Some chosen) code.N10 at 8 refl (omega arith) before (first_size at first)
    size_end (Broken code.N1 at) bad = absurd bad
    size_end (Broken code.N2 at) bad = absurd bad
    size_end (Broken code.N3 at) bad = absurd bad
    size_end (Broken code.N4 at) bad = absurd bad
    size_end (Broken code.N5 at) bad = absurd bad
    size_end (Broken code.N6 at) bad = absurd bad
    size_end (Broken code.N7 at) bad = absurd bad
    size_end (Broken code.N8 at) bad = absurd bad
    size_end (Broken code.N9 at) bad = absurd bad
    size_end (Broken code.N11 at) bad = absurd bad
    size_end NoMemory any = tt

pub sized_are : (scopes : Scopes) → KeepsBefore scopes.named.file.text.now scopes.named.file.classes.now (Some scopes.named.chosen) 8 → (tokens : List Token) → AreTokens scopes.named.file.text.now tokens
    → (r : Result (Vec Item Global) RuleEnd) → Sizes scopes.named.file.text.now scopes.named.file.classes.now tokens scopes.named.chosen r → Sized scopes r
sized_are scopes before tokens are (Ok items) sizes = record {
  keeps = keeps_size scopes.named.file.text.now scopes.named.file.classes.now scopes.named.chosen tokens are before sizes.0;
  are = sizes.1;
}
sized_are scopes before tokens are (Err end) sizes = size_end scopes.named.file.text.now scopes.named.file.classes.now scopes.named.chosen tokens are before end sizes
