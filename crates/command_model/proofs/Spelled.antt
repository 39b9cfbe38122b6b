-- What is known of the tree of a text.
use Rattle.std.proofs.Common.{ℕ, List}
use Rattle.mo_parser.specs.declared.tree.Tree.{Tree}
use Rattle.command_answer.specs.Layers.{lexed, parsed}
use Rattle.command_answer.specs.Stages.{◌>>=◌, layer}
use Rattle.command_stages.specs.Segments.{tree_of}
use Rattle.mo_flatten.specs.Texts.{IsTreeOf}

pub is_tree : (text : List ℕ) (tree : Tree) → (tree_of text).makes tree → IsTreeOf text tree
unfolding tree_of lexed parsed layer ◌>>=◌
is_tree text tree (tokens, are, spelt) = (tokens, are, spelt)
