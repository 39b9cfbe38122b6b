use Rattle.std.proofs.Common.{◌≡◌, ◌≢◌, ap, ◌∙◌, sym, Bool, true, ◌&&◌}
use Rattle.sync_values.specs.declared.value.Value.TheVariants as value
use Rattle.sync_values.specs.declared.value.Rel.{Rel}
use Rattle.flat_model.specs.declared.expression.Expr.{Expr}
use Rattle.flat_model.specs.declared.expression.Expr.TheVariants.{Const, Relation}
use Rattle.flat_model.specs.declared.evaluate.Vantage.TheVariants.{Now}
use Rattle.flat_model.specs.Operators.{Is, Absent, relation}
use Rattle.flat_model.specs.Views.{Views}
use Rattle.flat_model.specs.Meaning.{value_of}
use Rattle.flat_model.specs.Samples.{may_stand}
use Rattle.flat_model.proofs.Values.{value_of-Relation, value_of-Const}
use Rattle.flat_model.proofs.Standings.{may_stand-Relation, may_stand-Const}
use Rattle.layer_tests.proofs.flat_models.related.Goals as goal

relation_present : (rel : Rel) (left right : Expr) (a b : Bool) (views : Views) → left ≡ Const (value.Bool a) → right ≡ Const (value.Bool b) → value_of (Relation rel left right) views ≢ Absent
relation_present rel left right a b views is_left is_right absent =
    let left_value : value_of left views ≡ Is (value.Bool a) = ap (λ e. value_of e views) is_left ∙ value_of-Const (value.Bool a) views in
    let right_value : value_of right views ≡ Is (value.Bool b) = ap (λ e. value_of e views) is_right ∙ value_of-Const (value.Bool b) views in
    let whole = value_of-Relation rel left right views ∙ ap (λ l. relation rel l (value_of right views)) left_value ∙ ap (λ r. relation rel (Is (value.Bool a)) r) right_value in
    absurd (cc (sym whole ∙ absent))

relation_plain : (rel : Rel) (left right : Expr) (a b : Bool) → left ≡ Const (value.Bool a) → right ≡ Const (value.Bool b) → may_stand (Relation rel left right) Now ≡ true
relation_plain rel left right a b is_left is_right =
    let left_plain : may_stand left Now ≡ true = ap (λ e. may_stand e Now) is_left ∙ may_stand-Const (value.Bool a) Now in
    let right_plain : may_stand right Now ≡ true = ap (λ e. may_stand e Now) is_right ∙ may_stand-Const (value.Bool b) Now in
    may_stand-Relation rel left right Now ∙ ap (λ l. l && may_stand right Now) left_plain ∙ right_plain

pub value-requires-clause-present : goal.value-requires-clause-present
value-requires-clause-present g c = relation_present c.args.rel c.boxed-left.result c.boxed-right.result c.args.a c.args.b _ c.boxed-left.ensures c.boxed-right.ensures

pub value-requires-clause-samples : goal.value-requires-clause-samples
value-requires-clause-samples g c = relation_plain c.args.rel c.boxed-left.result c.boxed-right.result c.args.a c.args.b c.boxed-left.ensures c.boxed-right.ensures
