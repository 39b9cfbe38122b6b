-- The trees of expressions, made of their parts.
use Rattle.std.specs.Prelude.{ℕ, [], ◌∷◌, ◌++◌, Option, Some, None}
use Rattle.sync_values.specs.declared.value.Value.{Value}
use Rattle.sync_values.specs.declared.value.Rel.{Rel}
use Rattle.sync_values.specs.declared.value.ChainOp.{ChainOp}
use Rattle.mo_lexer.specs.declared.token.Token.{Token}
use Rattle.mo_parser.specs.declared.tree.TreeExpr.{TreeExpr, roll-TreeExpr, out-TreeExpr}
use Rattle.mo_parser.specs.declared.tree.TreeNode.{TreeNode}
use Rattle.mo_parser.specs.declared.tree.TreeNode.TheVariants as n
use Rattle.mo_parser.specs.declared.grammar.names.Named.{Named}
use Rattle.mo_parser.specs.declared.grammar.parts.Links.{Links}
use Rattle.mo_parser.specs.declared.grammar.parts.Branches.{Branches}
use Rattle.mo_parser.specs.declared.grammar.parts.Arguments.{Arguments}

-- an expression from one byte of the text to another, and its first byte and the one after its last
unfoldable pub spanning : TreeNode → ℕ → ℕ → TreeExpr
spanning node at end = roll-TreeExpr (record { node = node; span = record { at = at; end = end } })

unfoldable pub begins : TreeExpr → ℕ
begins e = (out-TreeExpr e).span.at

unfoldable pub ends : TreeExpr → ℕ
ends e = (out-TreeExpr e).span.end

-- the same expression with tokens around it that leave no node
unfoldable pub widened : ℕ → ℕ → TreeExpr → TreeExpr
widened at end e = spanning (out-TreeExpr e).node at end

abbrev pub constant_by : Option Value → Token → Option TreeExpr
constant_by (Some v) t = Some (spanning (n.Const v) t.at t.end)
constant_by None t = None

abbrev pub named_expr : Named → TreeExpr
named_expr x = spanning (n.Name x.path) x.span.at x.span.end

abbrev pub called : Named → Arguments → TreeExpr
called x found = spanning (n.Call x.path found.all) x.span.at found.end

abbrev pub powered : TreeExpr → TreeExpr → TreeExpr
powered a b = spanning (n.Power a b) (begins a) (ends b)

abbrev pub negated : ℕ → TreeExpr → TreeExpr
negated at e = spanning (n.Neg e) at (ends e)

abbrev pub inverted : ℕ → TreeExpr → TreeExpr
inverted at e = spanning (n.Not e) at (ends e)

abbrev pub related : Rel → TreeExpr → TreeExpr → TreeExpr
related r a b = spanning (n.Relation r a b) (begins a) (ends b)

-- the parts of a chain: the first, and one more with the operator before it
abbrev pub alone : TreeExpr → Links
alone e = record { parts = e ∷ []; ops = []; end = ends e }

abbrev pub linked : Links → ChainOp → TreeExpr → Links
linked l op e = record { parts = l.parts ++ e ∷ []; ops = l.ops ++ op ∷ []; end = ends e }

abbrev pub chained : ℕ → Links → TreeExpr
chained at l = spanning (n.Chain l.parts l.ops) at l.end

-- the conditions and branches of an if-expression
abbrev pub no_branches : Branches
no_branches = record { conditions = []; branches = [] }

abbrev pub branched : Branches → TreeExpr → TreeExpr → Branches
branched b c e = record { conditions = b.conditions ++ c ∷ []; branches = b.branches ++ e ∷ [] }

abbrev pub chosen : ℕ → Branches → TreeExpr → TreeExpr
chosen at b other = spanning (n.If b.conditions b.branches other) at (ends other)
