-- The way to a name, undone step by step.
use Rattle.std.proofs.Common.{◌≡◌, refl, ap, sym, subst, ◌∙◌, ℕ, ◌+◌, true, List, [], ◌∷◌, ◌++◌, append_assoc, map, ◌&&◌, ◌==◌, Bool, length, length-append, Option, Some, None, Result, IfOk, MatchOption, arith}
use Rattle.std.specs.List.{list_all}
use Rattle.std.proofs.lemmas.Bool.{eqb-true, and_parts}
use Rattle.std.proofs.lemmas.List.{length-map}
use Rattle.std.proofs.lemmas.List.Folds.{list_all-append}
use Rattle.std.proofs.lemmas.Result.{IfOk-weaker}
use Rattle.sync_values.specs.declared.value.ChainOp.{ChainOp}
use Rattle.flat_model.specs.declared.expression.Expr.{Expr}
use Rattle.flat_model.specs.declared.clock.ClockExpr.TheOpen.{Expr-F}
use Rattle.flat_model.specs.declared.clock.ClockExpr.TheFolds.{fold-roll-Expr}
use Rattle.flat_model.specs.declared.expression.Expr.TheVariants.{Read, Chain, Neg, Not, rolls-Chain, rolls-Neg, rolls-Not}
use Rattle.flat_model.specs.Occurrences.{is_reached}
use Rattle.eq_orient.specs.Solving.{formed_level, is_formed}
use Rattle.eq_orient.proofs.Reached.{is_reached-Read}
use Rattle.undone_side.specs.Undone.{without_back, front_part, without_front, UndoesTo, own, first, later}
use Rattle.undone_side.specs.private.Steps.{LeadsTo}

pub at_name : (x y : ℕ) (e side : Expr) → e ≡ Read y → is_reached x e ≡ true → UndoesTo x e side side
at_name x y e side is reached = own e side (is ∙ ap Read (eqb-true y x (sym (is_reached-Read x y) ∙ ap (is_reached x) (sym is) ∙ reached)))

abbrev pub IsUndoneBy : ℕ → Expr → Expr → Option Expr → Type 0
IsUndoneBy x e whole side = MatchOption side (is_formed e ≡ true → ⊥) (UndoesTo x e whole)

-- what the rest of the way leads to, the whole way does
pub step : {E : Type 0} (x : ℕ) (e part whole rest : Expr) (r : Result (Option Expr) E) → (is_formed e ≡ true → is_formed part ≡ true) → ((side : Expr) → UndoesTo x part rest side → UndoesTo x e whole side)
    → IfOk r (IsUndoneBy x part rest) → IfOk r (IsUndoneBy x e whole)
step x e part whole rest r formed up = IfOk-weaker r (IsUndoneBy x part rest) (IsUndoneBy x e whole) by_side
  where
    by_side : (o : Option Expr) → IsUndoneBy x part rest o → IsUndoneBy x e whole o
    by_side None none = λ all. none (formed all)
    by_side (Some side) undoes = up side undoes

-- ---- chains have one operator fewer than parts

formed-Neg : (part : Expr) → is_formed (Neg part) ≡ is_formed part
unfolding is_formed
formed-Neg part = ap is_formed (sym (rolls-Neg part)) ∙ fold-roll-Expr (Unit {0}) Bool (λ _. tt) formed_level (Expr-F.Neg part)

formed-Not : (part : Expr) → is_formed (Not part) ≡ is_formed part
unfolding is_formed
formed-Not part = ap is_formed (sym (rolls-Not part)) ∙ fold-roll-Expr (Unit {0}) Bool (λ _. tt) formed_level (Expr-F.Not part)

formed-Chain : (parts : List Expr) (ops : List ChainOp) → is_formed (Chain parts ops) ≡ (length (map is_formed parts) == length ops + 1 && list_all (λ part. part) (map is_formed parts))
unfolding is_formed
formed-Chain parts ops = ap is_formed (sym (rolls-Chain parts ops)) ∙ fold-roll-Expr (Unit {0}) Bool (λ _. tt) formed_level (Expr-F.Chain parts ops)

pub formed_neg : (e part : Expr) → e ≡ Neg part → is_formed e ≡ true → is_formed part ≡ true
formed_neg e part is all = sym (ap is_formed is ∙ formed-Neg part) ∙ all

pub formed_not : (e part : Expr) → e ≡ Not part → is_formed e ≡ true → is_formed part ≡ true
formed_not e part is all = sym (ap is_formed is ∙ formed-Not part) ∙ all

all_mapped : (parts : List Expr) → list_all (λ b. b) (map is_formed parts) ≡ list_all is_formed parts
all_mapped [] = refl
all_mapped (p ∷ parts) = ap (λ b. is_formed p && b) (all_mapped parts)

chain_formed : (e : Expr) (parts : List Expr) (ops : List ChainOp) → e ≡ Chain parts ops → is_formed e ≡ true → (length parts ≡ length ops + 1) × (list_all is_formed parts ≡ true)
chain_formed e parts ops is all =
    let tests = and_parts (length (map is_formed parts) == length ops + 1) (list_all (λ b. b) (map is_formed parts)) (sym (ap is_formed is ∙ formed-Chain parts ops) ∙ all) in
    (sym (length-map parts is_formed) ∙ eqb-true (length (map is_formed parts)) (length ops + 1) tests.0, sym (all_mapped parts) ∙ tests.1)

pub formed_part : (e : Expr) (front : List Expr) (part : Expr) (back : List Expr) (ops : List ChainOp) → e ≡ Chain (front ++ part ∷ back) ops → is_formed e ≡ true → is_formed part ≡ true
formed_part e front part back ops is all =
    (and_parts (is_formed part) (list_all is_formed back)
    (and_parts (list_all is_formed front) (list_all is_formed (part ∷ back)) (sym (list_all-append is_formed front (part ∷ back)) ∙ (chain_formed e (front ++ part ∷ back) ops is all).1)).1).0

pub formed_long : (e : Expr) (front : List Expr) (part : Expr) (back : List Expr) (ops : List ChainOp) → e ≡ Chain (front ++ part ∷ back) ops → is_formed e ≡ true → length ops ≡ length front + length back
formed_long e front part back ops is all = let long = (chain_formed e (front ++ part ∷ back) ops is all).0 in let parts = length-append front (part ∷ back) in omega (arith, long, parts)

-- a sum, by its first parts and the others
pub leads_first : (whole : Expr) (front : List Expr) (ops before behind : List ChainOp) (back : List Expr) → length ops ≡ length front + length back → before ++ behind ≡ ops → length before ≡ length front → length before ≡ 0
    → LeadsTo whole front ops back (without_back whole behind back)
leads_first whole [] ops [] behind back long parts same none x part side reached rest = first (Chain (part ∷ back) ops) part back ops whole side refl reached (omega (arith, long)) (subst (λ os. UndoesTo x part (without_back whole os back) side) parts rest)
leads_first whole [] ops (op ∷ before) behind back long parts same none x part side reached rest = absurd (omega (arith, none))
leads_first whole (f ∷ front) ops before behind back long parts same none x part side reached rest = absurd (omega (arith, same, none))

pub leads_later : (whole : Expr) (front : List Expr) (ops before : List ChainOp) (op : ChainOp) (ahead behind : List ChainOp) (back : List Expr) → length ops ≡ length front + length back → before ++ behind ≡ ops → length before ≡ length front → before ≡ ahead ++ op ∷ []
    → LeadsTo whole front ops back (without_front op (front_part front ahead) (without_back whole behind back))
leads_later whole front ops before op ahead behind back long parts same before_is x part side reached rest =
    later (Chain (front ++ part ∷ back) ops) front part back ahead op behind whole side (ap (Chain (front ++ part ∷ back)) ops_are) reached (omega (arith, same, ahead_long)) (omega (arith, long, all_long, same)) rest
  where
    ops_are : ops ≡ ahead ++ op ∷ behind
    ops_are = sym parts ∙ ap (λ os. os ++ behind) before_is ∙ append_assoc ahead (op ∷ []) behind

    ahead_long : length before ≡ length ahead + 1
    ahead_long = ap length before_is ∙ length-append ahead (op ∷ [])

    all_long : length ops ≡ length before + length behind
    all_long = sym (ap length parts) ∙ length-append before behind
