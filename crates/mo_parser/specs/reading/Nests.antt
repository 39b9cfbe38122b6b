-- A function value that reads whole expressions to a depth.
use Rattle.std.specs.Prelude.{ℕ, List, Result}
use Rattle.std.specs.declared.alloc.Global.{Global}
use denote.Ref.{MutBor}
use Rattle.mo_lexer.specs.declared.token.Token.{Token}
use Rattle.mo_parser.specs.declared.tree.TreeExpr.{TreeExpr}
use Rattle.mo_parser.specs.declared.grammar.tokens.Halt.{Halt}
use Rattle.mo_parser.specs.reading.Outcomes.{ReadsTokens}
use Rattle.mo_parser.specs.declared.tree.Arg.{Arg}
use Rattle.mo_parser.specs.reading.Expressions.{expr}
use Rattle.mo_parser.specs.reading.Comments.{balanced}
use Rattle.mo_parser.specs.reading.Modifications.{args}

pub record Nests (depth : ℕ) (pre : Global → MutBor (List Token) → ℕ → Type 0)
    (post : Global → MutBor (List Token) → ℕ → Result TreeExpr Halt → MutBor (List Token) → Type 0) : Type 0 where
  pub callable : (alloc : Global) (old : MutBor (List Token)) → pre alloc old depth
  pub reads : (alloc : Global) (old new : MutBor (List Token)) (r : Result TreeExpr Halt) → post alloc old depth r new
      → ReadsTokens (expr depth old.now) r new.now

-- the same for the tokens in the brackets of notes
pub record NestsPairs (depth : ℕ) (pre : MutBor (List Token) → ℕ → Type 0)
    (post : MutBor (List Token) → ℕ → Result (Unit {0}) Halt → MutBor (List Token) → Type 0) : Type 0 where
  pub callable : (old : MutBor (List Token)) → pre old depth
  pub reads : (old new : MutBor (List Token)) (r : Result (Unit {0}) Halt) → post old depth r new
      → ReadsTokens (balanced depth old.now) r new.now

-- and for the arguments of modifications
pub record NestsArgs (depth : ℕ) (pre : Global → MutBor (List Token) → ℕ → Type 0)
    (post : Global → MutBor (List Token) → ℕ → Result (List Arg) Halt → MutBor (List Token) → Type 0) : Type 0 where
  pub callable : (alloc : Global) (old : MutBor (List Token)) → pre alloc old depth
  pub reads : (alloc : Global) (old new : MutBor (List Token)) (r : Result (List Arg) Halt) → post alloc old depth r new
      → ReadsTokens (args depth old.now) r new.now
