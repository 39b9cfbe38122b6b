-- What operators give of some answers they give where more parts have answers.
use Rattle.std.proofs.Common.{◌≡◌, refl, ap, ◌∙◌, sym, subst, List, [], ◌∷◌, true, false, Option, Some, None}
use Rattle.sync_values.specs.declared.value.Value.{Value}
use Rattle.sync_values.specs.declared.value.Value.TheVariants as value
use Rattle.sync_values.specs.declared.value.Rel.{Rel}
use Rattle.sync_values.specs.declared.value.Fail.{Fail}
use Rattle.sync_values.specs.declared.value.ChainOp.{ChainOp}
use Rattle.sync_values.specs.declared.value.ChainOp.TheVariants.{Plus, Minus, Times, Over, And, Or}
use Rattle.flat_model.specs.declared.expression.Fun.{Fun}
use Rattle.flat_model.specs.declared.expression.Expr.{Expr}
use Rattle.flat_model.specs.declared.clock.ClockExpr.{ClockExpr}
use Rattle.flat_model.specs.declared.clock.ClockExpr.TheOpen.{Expr-F}
use Rattle.flat_model.specs.declared.clock.ClockExpr.TheViews.{roll-Expr}
use Rattle.flat_model.specs.declared.clock.ClockExpr.TheFolds.{fold-roll-Expr, map-Expr}
use Rattle.flat_model.specs.Operators.{Answer, Is, Fails, Absent, joined, chained, chain, negated, inverted, relation, chosen, read}
use Rattle.flat_model.specs.Functions.{called}
use Rattle.flat_model.specs.Views.{Views}
use Rattle.flat_model.specs.Meaning.{Meaning, meaning_of_level, value_of}

-- what is there stays
abbrev pub IsBelow : Option Value → Option Value → Type 0
IsBelow None p = Unit {0}
IsBelow (Some v) p = p ≡ Some v

abbrev pub Above : Answer → Answer → Type 0
Above (Is v) b = b ≡ Is v
Above (Fails kind) b = b ≡ Fails kind
Above Absent b = Unit {0}

abbrev pub AllAbove : List Answer → List Answer → Type 0
AllAbove [] bs = bs ≡ []
AllAbove (a ∷ rest) [] = ⊥
AllAbove (a ∷ rest) (b ∷ bs) = Above a b × AllAbove rest bs

pub above_refl : (a : Answer) → Above a a
above_refl (Is v) = refl
above_refl (Fails kind) = refl
above_refl Absent = tt

pub above_same : (a b : Answer) → a ≡ b → Above a b
above_same a b e = subst (Above a) e (above_refl a)

pub read_up : (o p : Option Value) → IsBelow o p → Above (read o) (read p)
read_up None p h = tt
read_up (Some v) p h = ap read h

joined_absent : (op : ChainOp) (c : Answer) → joined op Absent c ≡ Absent
joined_absent Plus c = refl
joined_absent Minus c = refl
joined_absent Times c = refl
joined_absent Over c = refl
joined_absent And c = refl
joined_absent Or c = refl

joined_fails : (op : ChainOp) (kind : Fail) (c : Answer) → joined op (Fails kind) c ≡ Fails kind
joined_fails Plus kind c = refl
joined_fails Minus kind c = refl
joined_fails Times kind c = refl
joined_fails Over kind c = refl
joined_fails And kind c = refl
joined_fails Or kind c = refl

-- where the second part is missing, the first decides or nothing does
joined_missing : (op : ChainOp) (v : Value) (d : Answer) → Above (joined op (Is v) Absent) (joined op (Is v) d)
joined_missing Plus v d = tt
joined_missing Minus v d = tt
joined_missing Times v d = tt
joined_missing Over v d = tt
joined_missing And (value.Int z) d = tt
joined_missing And (value.Bool true) d = tt
joined_missing And (value.Bool false) d = refl
joined_missing Or (value.Int z) d = tt
joined_missing Or (value.Bool true) d = refl
joined_missing Or (value.Bool false) d = tt

joined_up : (op : ChainOp) (a b c d : Answer) → Above a b → Above c d → Above (joined op a c) (joined op b d)
joined_up op Absent b c d h k = subst (λ z. Above z (joined op b d)) (sym (joined_absent op c)) tt
joined_up op (Fails kind) b c d h k = subst (λ z. Above z (joined op b d)) (sym (joined_fails op kind c)) (ap (λ z. joined op z d) h ∙ joined_fails op kind d)
joined_up op (Is v) b Absent d h k = subst (λ z. Above (joined op (Is v) Absent) (joined op z d)) (sym h) (joined_missing op v d)
joined_up op (Is v) b (Fails kind) d h k = above_same _ _ (ap (λ z. joined op (Is v) z) (sym k) ∙ ap (λ z. joined op z d) (sym h))
joined_up op (Is v) b (Is w) d h k = above_same _ _ (ap (λ z. joined op (Is v) z) (sym k) ∙ ap (λ z. joined op z d) (sym h))

chained_up : (a b : Answer) (ops : List ChainOp) (ps qs : List Answer) → Above a b → AllAbove ps qs → Above (chained a ops ps) (chained b ops qs)
chained_up a b [] ps qs h k = h
chained_up a b (op ∷ ops) [] qs h k = subst (λ z. Above a (chained b (op ∷ ops) z)) (sym k) h
chained_up a b (op ∷ ops) (p ∷ ps) [] h k = absurd k
chained_up a b (op ∷ ops) (p ∷ ps) (q ∷ qs) h k = chained_up (joined op a p) (joined op b q) ops ps qs (joined_up op a b p q h k.0) k.1

pub chain_up : (ops : List ChainOp) (ps qs : List Answer) → AllAbove ps qs → Above (chain ops ps) (chain ops qs)
chain_up ops [] qs k = tt
chain_up ops (p ∷ ps) [] k = absurd k
chain_up ops (p ∷ ps) (q ∷ qs) k = chained_up p q ops ps qs k.0 k.1

pub negated_up : (a b : Answer) → Above a b → Above (negated a) (negated b)
negated_up Absent b h = tt
negated_up (Fails kind) b h = ap negated h
negated_up (Is v) b h = above_same _ _ (ap negated (sym h))

pub inverted_up : (a b : Answer) → Above a b → Above (inverted a) (inverted b)
inverted_up Absent b h = tt
inverted_up (Fails kind) b h = ap inverted h
inverted_up (Is v) b h = above_same _ _ (ap inverted (sym h))

pub relation_up : (rel : Rel) (a b c d : Answer) → Above a b → Above c d → Above (relation rel a c) (relation rel b d)
relation_up rel Absent b c d h k = tt
relation_up rel (Fails kind) b c d h k = ap (λ z. relation rel z d) h
relation_up rel (Is v) b Absent d h k = tt
relation_up rel (Is v) b (Fails kind) d h k = ap (λ z. relation rel z d) h ∙ ap (relation rel (Is v)) k
relation_up rel (Is v) b (Is w) d h k = above_same _ _ (ap (λ z. relation rel (Is v) z) (sym k) ∙ ap (λ z. relation rel z d) (sym h))

pub chosen_up : (cs ds bs es : List Answer) (o p : Answer) → AllAbove cs ds → AllAbove bs es → Above o p → Above (chosen cs bs o) (chosen ds es p)
chosen_up [] ds bs es o p h k l = subst (λ z. Above o (chosen z es p)) (sym h) l
chosen_up (c ∷ cs) [] bs es o p h k l = absurd h
chosen_up (Absent ∷ cs) (d ∷ ds) bs es o p h k l = tt
chosen_up (Fails kind ∷ cs) (d ∷ ds) bs es o p h k l = subst (λ z. chosen (z ∷ ds) es p ≡ Fails kind) (sym h.0) refl
chosen_up (Is (value.Int z) ∷ cs) (d ∷ ds) bs es o p h k l = tt
chosen_up (Is (value.Bool true) ∷ cs) (d ∷ ds) [] es o p h k l = tt
chosen_up (Is (value.Bool false) ∷ cs) (d ∷ ds) [] es o p h k l = tt
chosen_up (Is (value.Bool true) ∷ cs) (d ∷ ds) (b ∷ bs) [] o p h k l = absurd k
chosen_up (Is (value.Bool false) ∷ cs) (d ∷ ds) (b ∷ bs) [] o p h k l = absurd k
chosen_up (Is (value.Bool true) ∷ cs) (d ∷ ds) (b ∷ bs) (e ∷ es) o p h k l = subst (λ z. Above b (chosen (z ∷ ds) (e ∷ es) p)) (sym h.0) k.0
chosen_up (Is (value.Bool false) ∷ cs) (d ∷ ds) (b ∷ bs) (e ∷ es) o p h k l =
    subst (λ z. Above (chosen cs bs o) (chosen (z ∷ ds) (e ∷ es) p)) (sym h.0) (chosen_up cs ds bs es o p h.1 k.1 l)

called_two : (function : Fun) (v w : Value) (ps qs : List Answer) → AllAbove ps qs → Above (called function (Is v ∷ (Is w ∷ ps))) (called function (Is v ∷ (Is w ∷ qs)))
called_two function v w [] qs k = above_same _ _ (ap (λ z. called function (Is v ∷ (Is w ∷ z))) (sym k))
called_two function (value.Bool v) w (p ∷ ps) qs k = tt
called_two function (value.Int v) (value.Bool w) (p ∷ ps) qs k = tt
called_two function (value.Int v) (value.Int w) (p ∷ ps) qs k = tt

called_one : (function : Fun) (v : Value) (ps qs : List Answer) → AllAbove ps qs → Above (called function (Is v ∷ ps)) (called function (Is v ∷ qs))
called_one function v [] qs k = above_same _ _ (ap (λ z. called function (Is v ∷ z)) (sym k))
called_one function v (p ∷ ps) [] k = absurd k
called_one function (value.Int v) (Absent ∷ ps) (q ∷ qs) k = tt
called_one function (value.Bool v) (Absent ∷ ps) (q ∷ qs) k = tt
called_one function (value.Int v) (Fails kind ∷ ps) (q ∷ qs) k = subst (λ z. called function (Is (value.Int v) ∷ (z ∷ qs)) ≡ Fails kind) (sym k.0) refl
called_one function (value.Bool v) (Fails kind ∷ ps) (q ∷ qs) k = subst (λ z. called function (Is (value.Bool v) ∷ (z ∷ qs)) ≡ Fails kind) (sym k.0) refl
called_one function v (Is w ∷ ps) (q ∷ qs) k = subst (λ z. Above (called function (Is v ∷ (Is w ∷ ps))) (called function (Is v ∷ (z ∷ qs)))) (sym k.0) (called_two function v w ps qs k.1)

pub called_up : (function : Fun) (ps qs : List Answer) → AllAbove ps qs → Above (called function ps) (called function qs)
called_up function [] qs k = tt
called_up function (p ∷ ps) [] k = absurd k
called_up function (Absent ∷ ps) (q ∷ qs) k = tt
called_up function (Fails kind ∷ ps) (q ∷ qs) k = subst (λ z. called function (z ∷ qs) ≡ Fails kind) (sym k.0) refl
called_up function (Is v ∷ ps) (q ∷ qs) k = subst (λ z. Above (called function (Is v ∷ ps)) (called function (z ∷ qs))) (sym k.0) (called_one function v ps qs k.1)

pub value_of_roll : (y : Expr-F ClockExpr Expr) (views : Views) → value_of (roll-Expr y) views ≡ meaning_of_level (map-Expr ClockExpr Expr (Unit {0}) Meaning (λ _. tt) value_of y) views
unfolding value_of
value_of_roll y views = ap (λ f. f views) (fold-roll-Expr (Unit {0}) Meaning (λ _. tt) meaning_of_level y)
