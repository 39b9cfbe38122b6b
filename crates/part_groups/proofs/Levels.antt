-- The equations of `names_in`, one for each kind of expression.
use Rattle.std.proofs.Common.{◌≡◌, ap, ap₂, ◌∙◌, sym, ℕ, List, [], ◌∷◌, ◌++◌, Option, map}
use Rattle.std.proofs.lemmas.List.Folds.{flat_map-map}
use Rattle.sync_values.specs.declared.value.Value.{Value}
use Rattle.sync_values.specs.declared.value.Rel.{Rel}
use Rattle.sync_values.specs.declared.value.ChainOp.{ChainOp}
use Rattle.flat_model.specs.declared.expression.Fun.{Fun}
use Rattle.flat_model.specs.declared.clock.Conversion.{Conversion}
use Rattle.flat_model.specs.declared.clock.ClockExpr.{ClockExpr}
use Rattle.flat_model.specs.declared.expression.Expr.{Expr}
use Rattle.flat_model.specs.declared.expression.Expr.TheVariants.{Const, Read, Chain, Relation, Neg, Not, If, Apply, Previous, FirstTick, IntervalTimes, Hold, Convert, Sample, rolls-Const, rolls-Read, rolls-Chain, rolls-Relation, rolls-Neg, rolls-Not, rolls-If, rolls-Apply, rolls-Previous, rolls-FirstTick, rolls-IntervalTimes, rolls-Hold, rolls-Convert, rolls-Sample}
use Rattle.flat_model.specs.declared.clock.ClockExpr.TheOpen.{Expr-F}
use Rattle.flat_model.specs.declared.clock.ClockExpr.TheFolds.{fold-roll-Expr}
use Rattle.part_groups.specs.private.Asking.{names_in, names_in_level, all_names, joined}

pub parts_joined : (parts : List Expr) → joined (map names_in parts) ≡ all_names parts
parts_joined parts = flat_map-map (λ part. part) names_in parts

pub names_in-Const : (v : Value) → names_in (Const v) ≡ []
unfolding names_in
names_in-Const v = ap names_in (sym (rolls-Const v)) ∙ fold-roll-Expr (Unit {0}) (List ℕ) (λ _. tt) names_in_level (Expr-F.Const v)

pub names_in-Read : (x' : ℕ) → names_in (Read x') ≡ x' ∷ []
unfolding names_in
names_in-Read x' = ap names_in (sym (rolls-Read x')) ∙ fold-roll-Expr (Unit {0}) (List ℕ) (λ _. tt) names_in_level (Expr-F.Read x')

pub names_in-Previous : (x' : ℕ) → names_in (Previous x') ≡ x' ∷ []
unfolding names_in
names_in-Previous x' = ap names_in (sym (rolls-Previous x')) ∙ fold-roll-Expr (Unit {0}) (List ℕ) (λ _. tt) names_in_level (Expr-F.Previous x')

pub names_in-Hold : (x' : ℕ) → names_in (Hold x') ≡ x' ∷ []
unfolding names_in
names_in-Hold x' = ap names_in (sym (rolls-Hold x')) ∙ fold-roll-Expr (Unit {0}) (List ℕ) (λ _. tt) names_in_level (Expr-F.Hold x')

pub names_in-Convert : (conversion : Conversion) (x' : ℕ) → names_in (Convert conversion x') ≡ x' ∷ []
unfolding names_in
names_in-Convert conversion x' = ap names_in (sym (rolls-Convert conversion x')) ∙ fold-roll-Expr (Unit {0}) (List ℕ) (λ _. tt) names_in_level (Expr-F.«Expr::Convert» conversion x')

pub names_in-Chain : (parts : List Expr) (ops : List ChainOp) → names_in (Chain parts ops) ≡ all_names parts
unfolding names_in
names_in-Chain parts ops = ap names_in (sym (rolls-Chain parts ops)) ∙ fold-roll-Expr (Unit {0}) (List ℕ) (λ _. tt) names_in_level (Expr-F.Chain parts ops) ∙ parts_joined parts

pub names_in-Apply : (function : Fun) (parts : List Expr) → names_in (Apply function parts) ≡ all_names parts
unfolding names_in
names_in-Apply function parts = ap names_in (sym (rolls-Apply function parts)) ∙ fold-roll-Expr (Unit {0}) (List ℕ) (λ _. tt) names_in_level (Expr-F.Apply function parts) ∙ parts_joined parts

pub names_in-Relation : (rel : Rel) (left right : Expr) → names_in (Relation rel left right) ≡ names_in left ++ names_in right
unfolding names_in
names_in-Relation rel left right = ap names_in (sym (rolls-Relation rel left right)) ∙ fold-roll-Expr (Unit {0}) (List ℕ) (λ _. tt) names_in_level (Expr-F.Relation rel left right)

pub names_in-Neg : (part : Expr) → names_in (Neg part) ≡ names_in part
unfolding names_in
names_in-Neg part = ap names_in (sym (rolls-Neg part)) ∙ fold-roll-Expr (Unit {0}) (List ℕ) (λ _. tt) names_in_level (Expr-F.Neg part)

pub names_in-Not : (part : Expr) → names_in (Not part) ≡ names_in part
unfolding names_in
names_in-Not part = ap names_in (sym (rolls-Not part)) ∙ fold-roll-Expr (Unit {0}) (List ℕ) (λ _. tt) names_in_level (Expr-F.Not part)

pub names_in-If : (conditions branches : List Expr) (other : Expr) → names_in (If conditions branches other) ≡ all_names conditions ++ (all_names branches ++ names_in other)
unfolding names_in
names_in-If conditions branches other = ap names_in (sym (rolls-If conditions branches other)) ∙ fold-roll-Expr (Unit {0}) (List ℕ) (λ _. tt) names_in_level (Expr-F.If conditions branches other) ∙ ap₂ (λ cs bs. cs ++ (bs ++ names_in other)) (parts_joined conditions) (parts_joined branches)

pub names_in-Sample : (part : Expr) (clock : Option ClockExpr) → names_in (Sample part clock) ≡ names_in part
unfolding names_in
names_in-Sample part clock = ap names_in (sym (rolls-Sample part clock)) ∙ fold-roll-Expr (Unit {0}) (List ℕ) (λ _. tt) names_in_level (Expr-F.Sample part clock)

pub names_in-FirstTick : (x' : Option ℕ) → names_in (FirstTick x') ≡ []
unfolding names_in
names_in-FirstTick x' = ap names_in (sym (rolls-FirstTick x')) ∙ fold-roll-Expr (Unit {0}) (List ℕ) (λ _. tt) names_in_level (Expr-F.FirstTick x')

pub names_in-IntervalTimes : (x' : Option ℕ) (k : ℕ) → names_in (IntervalTimes x' k) ≡ []
unfolding names_in
names_in-IntervalTimes x' k = ap names_in (sym (rolls-IntervalTimes x' k)) ∙ fold-roll-Expr (Unit {0}) (List ℕ) (λ _. tt) names_in_level (Expr-F.IntervalTimes x' k)

pub ruleset namings = (names_in-Const, names_in-Read, names_in-Previous, names_in-Hold, names_in-Convert, names_in-Chain, names_in-Apply, names_in-Relation, names_in-Neg, names_in-Not, names_in-If, names_in-Sample, names_in-FirstTick, names_in-IntervalTimes)
