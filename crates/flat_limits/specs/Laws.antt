-- What holds of the flat model of each text.
use Rattle.std.specs.Prelude.{ℕ, List, Option}
use Rattle.mo_lexer.specs.Tokens.{AreTokens}
use Rattle.mo_lexer.specs.declared.token.Token.{Token}
use Rattle.mo_parser.specs.declared.tree.Tree.{Tree}
use Rattle.mo_parser.specs.grammar.Faults.{Derives}
use Rattle.flat_model.specs.RawModels.{IsRawModel}
use Rattle.flat_model.specs.declared.raw.RawModel.{RawModel}
use Rattle.flat_answer.specs.Broken.{KeepsAll}
use Rattle.flat_answer.specs.Flat.{IsFlat}

-- the flat model of the tree of a text is one before its types are known, where no rule is broken
abbrev pub FlatLimitsLaw : Type 0
FlatLimitsLaw = (text : List ℕ) (tokens : List Token) (levels : ℕ) (tree : Tree) (chosen : Option ℕ) (model : RawModel) → AreTokens text tokens → Derives text levels tree tokens
    → KeepsAll text tree.classes chosen → IsFlat text tree.classes chosen model → IsRawModel model
