-- What reading a list of tokens answers.
use Rattle.std.specs.Prelude.{ℕ, ◌≡◌, ◌⊎◌, Bool, true, false, List, Result, Ok, Err, ⊤}
use Rattle.mo_lexer.specs.declared.token.Token.{Token}
use Rattle.mo_parser.specs.declared.tree.Tree.{Tree}
use Rattle.mo_parser.specs.declared.syntax.ParseEnd.{ParseEnd}
use Rattle.mo_parser.specs.declared.syntax.ParseEnd.TheVariants as ends
use Rattle.mo_parser.specs.declared.syntax.SyntaxCode.{SyntaxCode}
use Rattle.mo_parser.specs.declared.syntax.SyntaxCode.TheVariants as code
use Rattle.mo_parser.specs.grammar.Kinds.{is_end, is_foreign}
use Rattle.mo_parser.specs.grammar.Classes.{file}
use Rattle.mo_parser.specs.grammar.Places.{Front, Swap, head}

-- the tokens up to their end spell the tree, where so many levels of brackets and if-expressions may be opened
abbrev pub Derives : List ℕ → ℕ → Tree → List Token → Type 0
Derives text n tree tokens = (rest : List Token) × (file text n).spells tree tokens rest × (is_end (head rest) ≡ true)

-- at most one tree spells a list of tokens
abbrev pub OneTree : Type 0
OneTree = (text : List ℕ) (m n : ℕ) (t u : Tree) (tokens : List Token) → Derives text m t tokens → Derives text n u tokens → t ≡ u

-- some list that begins with the tokens before the rest is spelled
abbrev pub GoesOn : List ℕ → List Token → List Token → Type 0
GoesOn text tokens rest = (n : ℕ) × (t : Tree) × (a : List Token) × (b : List Token) × Front tokens rest a b × Derives text n t a

-- no list that begins with these tokens and the first of the rest is spelled
abbrev pub GoesNoFurther : List ℕ → ℕ → List Token → List Token → Type 0
GoesNoFurther text n tokens rest = (t : Tree) (a b : List Token) → Swap tokens rest a b → Derives text n t a → ⊥

-- the tokens before the rest stand inside at most n levels, and the next one inside more
abbrev pub IsDeep : List ℕ → ℕ → List Token → List Token → Type 0
IsDeep text n tokens rest = (file text n).exceeds tokens rest

-- the rest begins with the first token that nothing can stand at, at any depth, and no token before it is too deep
pub record IsRefused (text : List ℕ) (n : ℕ) (tokens rest : List Token) : Type 0 where
  pub before : GoesOn text tokens rest
  pub here : (m : ℕ) → GoesNoFurther text m tokens rest
  pub shallow : (other : List Token) → IsDeep text n tokens other → ⊥

pub record IsTooDeep (text : List ℕ) (n : ℕ) (tokens rest : List Token) : Type 0 where
  pub deep : IsDeep text n tokens rest
  pub before : GoesOn text tokens rest
  pub here : GoesNoFurther text n tokens rest

abbrev pub IsFault : List ℕ → ℕ → List Token → SyntaxCode → List Token → Type 0
IsFault text n tokens code.S1 rest = IsRefused text n tokens rest × (is_foreign (head rest) ≡ false)
IsFault text n tokens code.S2 rest = IsTooDeep text n tokens rest
IsFault text n tokens code.S3 rest = IsRefused text n tokens rest × (is_foreign (head rest) ≡ true)

-- each list of tokens has a tree or a fault, never both, and at most one fault
pub record FaultLaw : Type 0 where
  pub tree_or_fault : (text : List ℕ) (n : ℕ) (tokens : List Token) → ((t : Tree) × Derives text n t tokens) ⊎ ((c : SyntaxCode) × (rest : List Token) × IsFault text n tokens c rest)
  pub never_both : (text : List ℕ) (n : ℕ) (tokens rest : List Token) (t : Tree) (c : SyntaxCode) → Derives text n t tokens → IsFault text n tokens c rest → ⊥
  pub one_fault : (text : List ℕ) (n : ℕ) (tokens rest other : List Token) (c d : SyntaxCode) → IsFault text n tokens c rest → IsFault text n tokens d other → (c ≡ d) × (rest ≡ other)

-- the tree, or a fault with the first byte of its token; want of memory is a free answer
abbrev pub Answers : List ℕ → ℕ → List Token → Result Tree ParseEnd → Type 0
Answers text n tokens (Ok tree) = Derives text n tree tokens
Answers text n tokens (Err (ends.Fault c at)) = (rest : List Token) × (at ≡ (head rest).at) × IsFault text n tokens c rest
Answers text n tokens (Err ends.NoMemory) = ⊤

-- the code and the place of a token that nothing allows
abbrev pub code_by : Bool → SyntaxCode
code_by true = code.S3
code_by false = code.S1

abbrev pub refused_at : Token → ParseEnd
refused_at t = ends.Fault (code_by (is_foreign t)) t.at
