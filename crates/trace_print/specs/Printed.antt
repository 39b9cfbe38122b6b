-- The text of an expression, with round brackets around every operator. This project's own, in the words of Modelica.
use Rattle.std.specs.Prelude.{ℕ, List, [], ◌∷◌, ◌++◌, Option, Some, None, codes, decimal, slice_get}
use Rattle.sync_values.specs.declared.value.Rel.{Rel}
use Rattle.sync_values.specs.declared.value.Rel.TheVariants.{Less, LessEq, Greater, GreaterEq, Equal, Unequal}
use Rattle.sync_values.specs.declared.value.ChainOp.{ChainOp}
use Rattle.sync_values.specs.declared.value.ChainOp.TheVariants.{Plus, Minus, Times, Over, And, Or}
use Rattle.flat_model.specs.declared.clock.Conversion.{Conversion}
use Rattle.flat_model.specs.declared.clock.Conversion.TheVariants.{Sub, Super, Shift, Back, NoClock}
use Rattle.flat_model.specs.declared.clock.ClockExpr.{ClockExpr}
use Rattle.flat_model.specs.declared.clock.ClockExpr.TheOpen.{ClockExpr-F, Expr-F}
use Rattle.flat_model.specs.declared.clock.ClockExpr.TheFolds.{fold-ClockExpr, fold-Expr}
use Rattle.flat_model.specs.declared.expression.Expr.{Expr}
use Rattle.flat_model.specs.declared.expression.Fun.{Fun}
use Rattle.flat_model.specs.declared.expression.Fun.TheVariants.{Div, Mod, Rem, Abs, Min, Max}
use Rattle.flat_model.specs.declared.model.FlatName.{FlatName}
use Rattle.flat_model.specs.Trace.{value_text}

abbrev pub rel_text : Rel → List ℕ
rel_text Less = codes " < "
rel_text LessEq = codes " <= "
rel_text Greater = codes " > "
rel_text GreaterEq = codes " >= "
rel_text Equal = codes " == "
rel_text Unequal = codes " <> "

abbrev pub op_text : ChainOp → List ℕ
op_text Plus = codes " + "
op_text Minus = codes " - "
op_text Times = codes " * "
op_text Over = codes " / "
op_text And = codes " and "
op_text Or = codes " or "

abbrev pub fun_text : Fun → List ℕ
fun_text Div = codes "div"
fun_text Mod = codes "mod"
fun_text Rem = codes "rem"
fun_text Abs = codes "abs"
fun_text Min = codes "min"
fun_text Max = codes "max"

-- the text of a name, and nothing where there is none of this number
abbrev pub text_of_name : Option FlatName → List ℕ
text_of_name None = []
text_of_name (Some name) = name.text

abbrev pub name_text : List FlatName → ℕ → List ℕ
name_text names x = text_of_name (slice_get names x)

-- a comma and a space between each and the next
abbrev pub separated : List (List ℕ) → List ℕ
separated [] = []
separated (text ∷ []) = text
separated (text ∷ more) = text ++ codes ", " ++ separated more

abbrev pub call_text : List ℕ → List (List ℕ) → List ℕ
call_text function arguments = function ++ codes "(" ++ separated arguments ++ codes ")"

-- a chain is grouped to the left: the parts so far are the left side of the next operator
abbrev pub grouped : List ℕ → List ChainOp → List (List ℕ) → List ℕ
grouped text (op ∷ ops) (part ∷ parts) = grouped (codes "(" ++ text ++ op_text op ++ part ++ codes ")") ops parts
grouped text _ _ = text

abbrev pub chain_text : List ChainOp → List (List ℕ) → List ℕ
chain_text ops [] = []
chain_text ops (first ∷ rest) = grouped first ops rest

-- each condition with its branch, behind `if` and then behind `elseif`
abbrev pub choices : List ℕ → List (List ℕ) → List (List ℕ) → List ℕ
choices word (condition ∷ conditions) (branch ∷ branches) = word ++ condition ++ codes " then " ++ branch ++ choices (codes " elseif ") conditions branches
choices word _ _ = []

abbrev pub if_text : List (List ℕ) → List (List ℕ) → List ℕ → List ℕ
if_text conditions branches other = choices (codes "(if ") conditions branches ++ codes " else " ++ other ++ codes ")"

-- an inferred factor is 0, and a resolution is always there
abbrev pub conversion_text : Conversion → List ℕ → List ℕ
conversion_text (Sub factor) u = call_text (codes "subSample") (u ∷ decimal factor ∷ [])
conversion_text (Super factor) u = call_text (codes "superSample") (u ∷ decimal factor ∷ [])
conversion_text (Shift counter resolution) u = call_text (codes "shiftSample") (u ∷ decimal counter ∷ decimal resolution ∷ [])
conversion_text (Back counter resolution) u = call_text (codes "backSample") (u ∷ decimal counter ∷ decimal resolution ∷ [])
conversion_text NoClock u = call_text (codes "noClock") (u ∷ [])

-- an argument that may lack
abbrev pub argument_text : List FlatName → Option ℕ → List ℕ
argument_text names None = []
argument_text names (Some x) = name_text names x

abbrev pub interval_text : List ℕ → ℕ → List ℕ
interval_text u k = codes "integer((interval(" ++ u ++ codes ") * " ++ decimal k ++ codes "))"

-- a `sample` without a clock has one argument
abbrev pub sample_text : List ℕ → Option (List ℕ) → List ℕ
sample_text part None = call_text (codes "sample") (part ∷ [])
sample_text part (Some clock) = call_text (codes "sample") (part ∷ clock ∷ [])

abbrev pub clock_level : List FlatName → ClockExpr-F (List ℕ) (List ℕ) → List ℕ
clock_level names (ClockExpr-F.Name x) = name_text names x
clock_level names ClockExpr-F.Inferred = codes "Clock()"
clock_level names (ClockExpr-F.Rational counter resolution) = call_text (codes "Clock") (decimal counter ∷ decimal resolution ∷ [])
clock_level names (ClockExpr-F.Event condition) = call_text (codes "Clock") (condition ∷ [])
clock_level names (ClockExpr-F.«ClockExpr::Convert» by x) = conversion_text by (name_text names x)

abbrev pub expr_level : List FlatName → Expr-F (List ℕ) (List ℕ) → List ℕ
expr_level names (Expr-F.Const v) = value_text v
expr_level names (Expr-F.Read x) = name_text names x
expr_level names (Expr-F.Chain parts ops) = chain_text ops parts
expr_level names (Expr-F.Relation rel left right) = codes "(" ++ left ++ rel_text rel ++ right ++ codes ")"
expr_level names (Expr-F.Neg part) = codes "(-" ++ part ++ codes ")"
expr_level names (Expr-F.Not part) = codes "(not " ++ part ++ codes ")"
expr_level names (Expr-F.If conditions branches other) = if_text conditions branches other
expr_level names (Expr-F.Apply function parts) = call_text (fun_text function) parts
expr_level names (Expr-F.Previous x) = call_text (codes "previous") (name_text names x ∷ [])
expr_level names (Expr-F.FirstTick x) = call_text (codes "firstTick") (argument_text names x ∷ [])
expr_level names (Expr-F.IntervalTimes x k) = interval_text (argument_text names x) k
expr_level names (Expr-F.Hold x) = call_text (codes "hold") (name_text names x ∷ [])
expr_level names (Expr-F.«Expr::Convert» by x) = conversion_text by (name_text names x)
expr_level names (Expr-F.Sample part clock) = sample_text part clock

-- the text of an expression, and of an expression for a clock, over the names of a model
unfoldable pub expr_text : List FlatName → Expr → List ℕ
expr_text names = fold-Expr (List ℕ) (List ℕ) (clock_level names) (expr_level names)

unfoldable pub clock_text : List FlatName → ClockExpr → List ℕ
clock_text names = fold-ClockExpr (List ℕ) (List ℕ) (clock_level names) (expr_level names)
