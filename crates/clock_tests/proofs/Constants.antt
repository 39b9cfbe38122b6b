-- The constants of each kind of raw expression are values where those of its parts are.
use Rattle.std.proofs.Common.{◌≡◌, ◌∙◌, ap, ap₂, sym, ℕ, Bool, true, ◌&&◌, List, [], ◌∷◌, ◌++◌, map}
use Rattle.std.proofs.lemmas.List.{map-append}
use Rattle.std.proofs.lemmas.List.Folds.{list_all-append}
use Rattle.sync_values.specs.declared.value.Value.{Value}
use Rattle.sync_values.specs.declared.value.Rel.{Rel}
use Rattle.sync_values.specs.declared.value.ChainOp.{ChainOp}
use Rattle.flat_model.specs.declared.raw.RawExpr.{RawExpr}
use Rattle.flat_model.specs.declared.raw.RawExpr.TheVariants.{Const, Name, Call, Chain, Relation, Neg, Not, Power, If, rolls-Const, rolls-Name, rolls-Call, rolls-Chain, rolls-Relation, rolls-Neg, rolls-Not, rolls-Power, rolls-If}
use Rattle.flat_model.specs.declared.raw.RawExpr.TheOpen.{RawExpr-F}
use Rattle.flat_model.specs.declared.raw.RawExpr.TheViews.{roll-RawExpr}
use Rattle.flat_model.specs.declared.raw.RawExpr.TheFolds.{fold-roll-RawExpr, map-RawExpr}
use Rattle.flat_model.specs.Counters.{all_fit}
use Rattle.flat_model.specs.RawModels.{constants_in_level, constants_fit}
use Rattle.flat_model.specs.Typing.{is_value}

constants_roll : (y : RawExpr-F RawExpr) → constants_fit (roll-RawExpr y) ≡ constants_in_level (map-RawExpr RawExpr Bool constants_fit y)
unfolding constants_fit
constants_roll y = fold-roll-RawExpr Bool constants_in_level y

-- one part more
pub more_fit : (parts : List RawExpr) (part : RawExpr) → all_fit (map constants_fit parts) ≡ true → constants_fit part ≡ true → all_fit (map constants_fit (parts ++ part ∷ [])) ≡ true
more_fit parts part before here =
    ap all_fit (map-append constants_fit parts (part ∷ [])) ∙ list_all-append (λ b. b) (map constants_fit parts) (constants_fit part ∷ [])
    ∙ ap₂ (λ a b. a && (b && true)) before here

pub fits-Const : (v : Value) → is_value v ≡ true → constants_fit (Const v) ≡ true
fits-Const v is = ap constants_fit (sym (rolls-Const v)) ∙ constants_roll (RawExpr-F.Const v) ∙ is

pub fits-Name : (x : ℕ) → constants_fit (Name x) ≡ true
fits-Name x = ap constants_fit (sym (rolls-Name x)) ∙ constants_roll (RawExpr-F.Name x)

pub fits-Call : (text : List ℕ) (parts : List RawExpr) → all_fit (map constants_fit parts) ≡ true → constants_fit (Call text parts) ≡ true
fits-Call text parts fit = ap constants_fit (sym (rolls-Call text parts)) ∙ constants_roll (RawExpr-F.Call text parts) ∙ fit

pub fits-Chain : (parts : List RawExpr) (ops : List ChainOp) → all_fit (map constants_fit parts) ≡ true → constants_fit (Chain parts ops) ≡ true
fits-Chain parts ops fit = ap constants_fit (sym (rolls-Chain parts ops)) ∙ constants_roll (RawExpr-F.Chain parts ops) ∙ fit

pub fits-Relation : (rel : Rel) (left right : RawExpr) → constants_fit left ≡ true → constants_fit right ≡ true → constants_fit (Relation rel left right) ≡ true
fits-Relation rel left right one two = ap constants_fit (sym (rolls-Relation rel left right)) ∙ constants_roll (RawExpr-F.Relation rel left right) ∙ ap₂ (λ a b. a && b) one two

pub fits-Neg : (part : RawExpr) → constants_fit part ≡ true → constants_fit (Neg part) ≡ true
fits-Neg part fit = ap constants_fit (sym (rolls-Neg part)) ∙ constants_roll (RawExpr-F.Neg part) ∙ fit

pub fits-Not : (part : RawExpr) → constants_fit part ≡ true → constants_fit (Not part) ≡ true
fits-Not part fit = ap constants_fit (sym (rolls-Not part)) ∙ constants_roll (RawExpr-F.Not part) ∙ fit

pub fits-Power : (left right : RawExpr) → constants_fit left ≡ true → constants_fit right ≡ true → constants_fit (Power left right) ≡ true
fits-Power left right one two = ap constants_fit (sym (rolls-Power left right)) ∙ constants_roll (RawExpr-F.Power left right) ∙ ap₂ (λ a b. a && b) one two

pub fits-If : (conditions branches : List RawExpr) (other : RawExpr) → all_fit (map constants_fit conditions) ≡ true → all_fit (map constants_fit branches) ≡ true → constants_fit other ≡ true
    → constants_fit (If conditions branches other) ≡ true
fits-If conditions branches other one two three =
    ap constants_fit (sym (rolls-If conditions branches other)) ∙ constants_roll (RawExpr-F.If conditions branches other)
    ∙ ap₂ (λ a b. a && b) (ap₂ (λ a b. a && b) one two) three

pub ruleset constants = (fits-Const, fits-Name, fits-Call, fits-Chain, fits-Relation, fits-Neg, fits-Not, fits-Power, fits-If)
