-- The constants of each kind of raw expression, from those of its parts.
use Rattle.std.proofs.Common.{◌≡◌, ◌∙◌, ap, sym, ℕ, Bool, true, ◌&&◌, List, map}
use Rattle.sync_values.specs.declared.value.Value.{Value}
use Rattle.sync_values.specs.declared.value.Rel.{Rel}
use Rattle.sync_values.specs.declared.value.ChainOp.{ChainOp}
use Rattle.flat_model.specs.declared.raw.RawExpr.{RawExpr}
use Rattle.flat_model.specs.declared.raw.RawExpr.TheVariants.{Const, Name, Time, rolls-Time, Call, Chain, Relation, Neg, Not, Power, If, rolls-Const, rolls-Name, rolls-Call, rolls-Chain, rolls-Relation, rolls-Neg, rolls-Not, rolls-Power, rolls-If}
use Rattle.flat_model.specs.declared.raw.RawExpr.TheOpen.{RawExpr-F}
use Rattle.flat_model.specs.declared.raw.RawExpr.TheViews.{roll-RawExpr}
use Rattle.flat_model.specs.declared.raw.RawExpr.TheFolds.{fold-roll-RawExpr, map-RawExpr}
use Rattle.flat_model.specs.Counters.{all_fit}
use Rattle.flat_model.specs.RawModels.{constants_in_level, constants_fit}
use Rattle.flat_model.specs.Typing.{is_value}

constants_roll : (y : RawExpr-F RawExpr) → constants_fit (roll-RawExpr y) ≡ constants_in_level (map-RawExpr RawExpr Bool constants_fit y)
unfolding constants_fit
constants_roll y = fold-roll-RawExpr Bool constants_in_level y

pub fits-Const : (v : Value) → constants_fit (Const v) ≡ is_value v
fits-Const v = ap constants_fit (sym (rolls-Const v)) ∙ constants_roll (RawExpr-F.Const v)

pub fits-Name : (x : ℕ) → constants_fit (Name x) ≡ true
fits-Name x = ap constants_fit (sym (rolls-Name x)) ∙ constants_roll (RawExpr-F.Name x)

pub fits-Call : (text : List ℕ) (parts : List RawExpr) → constants_fit (Call text parts) ≡ all_fit (map constants_fit parts)
fits-Call text parts = ap constants_fit (sym (rolls-Call text parts)) ∙ constants_roll (RawExpr-F.Call text parts)

pub fits-Chain : (parts : List RawExpr) (ops : List ChainOp) → constants_fit (Chain parts ops) ≡ all_fit (map constants_fit parts)
fits-Chain parts ops = ap constants_fit (sym (rolls-Chain parts ops)) ∙ constants_roll (RawExpr-F.Chain parts ops)

pub fits-Relation : (rel : Rel) (left right : RawExpr) → constants_fit (Relation rel left right) ≡ (constants_fit left && constants_fit right)
fits-Relation rel left right = ap constants_fit (sym (rolls-Relation rel left right)) ∙ constants_roll (RawExpr-F.Relation rel left right)

pub fits-Neg : (part : RawExpr) → constants_fit (Neg part) ≡ constants_fit part
fits-Neg part = ap constants_fit (sym (rolls-Neg part)) ∙ constants_roll (RawExpr-F.Neg part)

pub fits-Not : (part : RawExpr) → constants_fit (Not part) ≡ constants_fit part
fits-Not part = ap constants_fit (sym (rolls-Not part)) ∙ constants_roll (RawExpr-F.Not part)

pub fits-Power : (left right : RawExpr) → constants_fit (Power left right) ≡ (constants_fit left && constants_fit right)
fits-Power left right = ap constants_fit (sym (rolls-Power left right)) ∙ constants_roll (RawExpr-F.Power left right)

pub fits-If : (conditions branches : List RawExpr) (other : RawExpr)
    → constants_fit (If conditions branches other) ≡ (all_fit (map constants_fit conditions) && all_fit (map constants_fit branches) && constants_fit other)
fits-If conditions branches other = ap constants_fit (sym (rolls-If conditions branches other)) ∙ constants_roll (RawExpr-F.If conditions branches other)

pub fits-Time : constants_fit Time ≡ true
fits-Time = ap constants_fit (sym rolls-Time) ∙ constants_roll RawExpr-F.Time

pub ruleset constants = (fits-Const, fits-Name, fits-Call, fits-Chain, fits-Relation, fits-Neg, fits-Not, fits-Power, fits-If, fits-Time)
