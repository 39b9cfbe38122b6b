-- An outcome tells the answer from all larger values, as long as what was missing has none.
use Rattle.std.proofs.Common.{◌≡◌, refl, ap, sym, ◌∙◌, subst, ℕ, Bool, true, false, List, [], ◌∷◌, ◌++◌, map, Option, Some, None, slice_get, option_and_then, if◌then◌else◌, arith}
use Rattle.sync_values.specs.declared.value.Value.{Value}
use Rattle.sync_values.specs.declared.value.Value.TheVariants as value
use Rattle.sync_values.specs.declared.value.ChainOp.{ChainOp}
use Rattle.sync_values.specs.declared.value.ChainOp.TheVariants.{Plus, Minus, Times, Over, And, Or}
use Rattle.sync_values.specs.declared.value.Rel.{Rel}
use Rattle.mo_order.specs.Values.{Slots, Larger}
use Rattle.mo_order.proofs.Places.{get_within, get_inside}
use Rattle.mo_parser.specs.declared.tree.ClassDef.{ClassDef}
use Rattle.mo_parser.specs.declared.tree.TreeExpr.{TreeExpr}
use Rattle.mo_parser.specs.declared.tree.TreeNode.{TreeNode}
use Rattle.mo_parser.specs.declared.tree.TreeNode.TheOpen.{TreeNode-F, TreeExpr-F}
use Rattle.mo_parser.specs.declared.tree.TreeNode.TheViews.{roll-TreeNode, roll-TreeExpr}
use Rattle.mo_parser.specs.declared.tree.TreeNode.TheFolds.{fold-TreeNode, fold-TreeExpr, fold-roll-TreeNode, fold-roll-TreeExpr, map-TreeNode, map-TreeExpr, ind-TreeExpr}
use Rattle.flat_model.specs.declared.expression.Fun.{Fun}
use Rattle.flat_model.specs.Operators.{Answer, Is, Fails, Absent, read, applied, joined, chained, chain, negated, inverted, relation, chosen}
use Rattle.flat_model.specs.Functions.{called}
use Rattle.class_scopes.specs.Spelled.{Ident, idents, dotted, is_time}
use Rattle.class_scopes.specs.Tables.{Numbered, number_of}
use Rattle.parameter_values.specs.Values.{function_named, called_by, answer_level, answer}
use Rattle.parameter_values.specs.Slots.{seen, value_at, itself}
use Rattle.parameter_values.specs.declared.evaluate.Outcome.{Outcome}
use Rattle.parameter_values.specs.declared.evaluate.Outcome.TheVariants as out
use Rattle.parameter_values.specs.Outcomes.{answer_of, outcome_of, Blocked, lift, negated_outcome, inverted_outcome, related_outcome, is_enough, joined_if, joined_outcome, chained_outcome, chain_outcome, chosen_outcome, called_pair, called_outcome, called_outcome_by, slot_outcome, number_outcome, outcome_level, outcome}
use Rattle.parameter_values.proofs.Larger.{joined_absent, joined_fails}

module _ (old new : Slots) (larger : Larger old new) where
  -- the outcome was missing nothing but what has no value, and tells the answer while that has none
  pub record Matches (o : Outcome) (a : Answer) : Type 0 where
    pub blocked : Blocked old o
    pub told : Blocked new o → a ≡ answer_of o

  of_answer : (a : Answer) → Matches (outcome_of a) a
  of_answer (Is v) = record { blocked = tt; told = λ b. refl }
  of_answer (Fails k) = record { blocked = tt; told = λ b. refl }
  of_answer Absent = record { blocked = tt; told = λ b. refl }

  -- an operator that needs the value of its part
  lifted : (F : Value → Outcome) (f : Answer → Answer) → ((v : Value) → Matches (F v) (f (Is v))) → ((k : _) → f (Fails k) ≡ Fails k) → f Absent ≡ Absent
      → (o : Outcome) (a : Answer) → Matches o a → Matches (lift F o) (f a)
  lifted F f each fails absent (out.Known v) a m =
      let is : a ≡ Is v = m.told tt in
      record { blocked = (each v).blocked; told = λ b. ap f is ∙ (each v).told b }
  lifted F f each fails absent (out.Failing k) a m = let is : a ≡ Fails k = m.told tt in record { blocked = tt; told = λ b. ap f is ∙ fails k }
  lifted F f each fails absent (out.Missing n) a m = record { blocked = m.blocked; told = λ b. ap f (m.told b) ∙ absent }

  negated_matches : (o : Outcome) (a : Answer) → Matches o a → Matches (negated_outcome o) (negated a)
  negated_matches o a m = lifted (λ v. outcome_of (negated (Is v))) negated (λ v. of_answer (negated (Is v))) (λ k. refl) refl o a m

  inverted_matches : (o : Outcome) (a : Answer) → Matches o a → Matches (inverted_outcome o) (inverted a)
  inverted_matches o a m = lifted (λ v. outcome_of (inverted (Is v))) inverted (λ v. of_answer (inverted (Is v))) (λ k. refl) refl o a m

  related_matches : (rel : Rel) (l r : Outcome) (a b : Answer) → Matches l a → Matches r b → Matches (related_outcome rel l r) (relation rel a b)
  related_matches rel l r a b m n =
      lifted (λ x. lift (λ y. outcome_of (relation rel (Is x) (Is y))) r) (λ z. relation rel z b)
      (λ x. lifted (λ y. outcome_of (relation rel (Is x) (Is y))) (relation rel (Is x)) (λ y. of_answer (relation rel (Is x) (Is y))) (λ k. refl) refl r b n)
      (λ k. refl) refl l a m

  joined_value : (op : ChainOp) (v : Value) (r : Outcome) (b : Answer) → Matches r b → Matches (joined_if (is_enough op v) op v r) (joined op (Is v) b)
  joined_value Plus (value.Int z) r b n = lifted (λ w. outcome_of (applied Plus (value.Int z) w)) (joined Plus (Is (value.Int z))) (λ w. of_answer (applied Plus (value.Int z) w)) (λ k. refl) refl r b n
  joined_value Plus (value.Bool z) r b n = lifted (λ w. outcome_of (applied Plus (value.Bool z) w)) (joined Plus (Is (value.Bool z))) (λ w. of_answer (applied Plus (value.Bool z) w)) (λ k. refl) refl r b n
  joined_value Minus (value.Int z) r b n = lifted (λ w. outcome_of (applied Minus (value.Int z) w)) (joined Minus (Is (value.Int z))) (λ w. of_answer (applied Minus (value.Int z) w)) (λ k. refl) refl r b n
  joined_value Minus (value.Bool z) r b n = lifted (λ w. outcome_of (applied Minus (value.Bool z) w)) (joined Minus (Is (value.Bool z))) (λ w. of_answer (applied Minus (value.Bool z) w)) (λ k. refl) refl r b n
  joined_value Times (value.Int z) r b n = lifted (λ w. outcome_of (applied Times (value.Int z) w)) (joined Times (Is (value.Int z))) (λ w. of_answer (applied Times (value.Int z) w)) (λ k. refl) refl r b n
  joined_value Times (value.Bool z) r b n = lifted (λ w. outcome_of (applied Times (value.Bool z) w)) (joined Times (Is (value.Bool z))) (λ w. of_answer (applied Times (value.Bool z) w)) (λ k. refl) refl r b n
  joined_value Over (value.Int z) r b n = lifted (λ w. outcome_of (applied Over (value.Int z) w)) (joined Over (Is (value.Int z))) (λ w. of_answer (applied Over (value.Int z) w)) (λ k. refl) refl r b n
  joined_value Over (value.Bool z) r b n = lifted (λ w. outcome_of (applied Over (value.Bool z) w)) (joined Over (Is (value.Bool z))) (λ w. of_answer (applied Over (value.Bool z) w)) (λ k. refl) refl r b n
  joined_value And (value.Int z) r b n = lifted (λ w. outcome_of (applied And (value.Int z) w)) (joined And (Is (value.Int z))) (λ w. of_answer (applied And (value.Int z) w)) (λ k. refl) refl r b n
  joined_value And (value.Bool true) r b n = lifted (λ w. outcome_of (applied And (value.Bool true) w)) (joined And (Is (value.Bool true))) (λ w. of_answer (applied And (value.Bool true) w)) (λ k. refl) refl r b n
  joined_value And (value.Bool false) r b n = record { blocked = tt; told = λ x. refl }
  joined_value Or (value.Int z) r b n = lifted (λ w. outcome_of (applied Or (value.Int z) w)) (joined Or (Is (value.Int z))) (λ w. of_answer (applied Or (value.Int z) w)) (λ k. refl) refl r b n
  joined_value Or (value.Bool true) r b n = record { blocked = tt; told = λ x. refl }
  joined_value Or (value.Bool false) r b n = lifted (λ w. outcome_of (applied Or (value.Bool false) w)) (joined Or (Is (value.Bool false))) (λ w. of_answer (applied Or (value.Bool false) w)) (λ k. refl) refl r b n

  joined_matches : (op : ChainOp) (l r : Outcome) (a b : Answer) → Matches l a → Matches r b → Matches (joined_outcome op l r) (joined op a b)
  joined_matches op l r a b m n =
      lifted (λ v. joined_if (is_enough op v) op v r) (λ z. joined op z b) (λ v. joined_value op v r b n) (λ k. joined_fails op k b) (joined_absent op b) l a m

  -- lists of them, one by one
  abbrev MatchAll : List Outcome → List Answer → Type 0
  MatchAll [] [] = Unit {0}
  MatchAll (o ∷ os) (a ∷ as') = Matches o a × MatchAll os as'
  MatchAll _ _ = ⊥

  chained_matches : (ops : List ChainOp) (o : Outcome) (a : Answer) (os : List Outcome) (xs : List Answer) → Matches o a → MatchAll os xs → Matches (chained_outcome o ops os) (chained a ops xs)
  chained_matches [] o a os xs m all = m
  chained_matches (op ∷ ops) o a [] [] m all = m
  chained_matches (op ∷ ops) o a (p ∷ os) (x ∷ xs) m all = chained_matches ops (joined_outcome op o p) (joined op a x) os xs (joined_matches op o p a x m all.0) all.1
  chained_matches (op ∷ ops) o a [] (x ∷ xs) m all = absurd all
  chained_matches (op ∷ ops) o a (p ∷ os) [] m all = absurd all

  chain_matches : (ops : List ChainOp) (os : List Outcome) (xs : List Answer) → MatchAll os xs → Matches (chain_outcome ops os) (chain ops xs)
  chain_matches ops [] [] all = record { blocked = tt; told = λ b. refl }
  chain_matches ops (o ∷ os) (x ∷ xs) all = chained_matches ops o x os xs all.0 all.1
  chain_matches ops [] (x ∷ xs) all = absurd all
  chain_matches ops (o ∷ os) [] all = absurd all

  chosen_matches : (cs bs : List Outcome) (o : Outcome) (xs ys : List Answer) (a : Answer) → MatchAll cs xs → MatchAll bs ys → Matches o a → Matches (chosen_outcome cs bs o) (chosen xs ys a)
  chosen_matches [] bs o [] ys a all others m = m
  chosen_matches [] bs o (x ∷ xs) ys a all others m = absurd all
  chosen_matches (c ∷ cs) bs o [] ys a all others m = absurd all
  chosen_matches (out.Failing k ∷ cs) bs o (x ∷ xs) ys a all others m =
      let is : x ≡ Fails k = all.0.told tt in record { blocked = tt; told = λ b. ap (λ z. chosen (z ∷ xs) ys a) is }
  chosen_matches (out.Missing n ∷ cs) bs o (x ∷ xs) ys a all others m =
      record { blocked = all.0.blocked; told = λ b. ap (λ z. chosen (z ∷ xs) ys a) (all.0.told b) }
  chosen_matches (out.Known (value.Int z) ∷ cs) bs o (x ∷ xs) ys a all others m =
      let is : x ≡ Is (value.Int z) = all.0.told tt in record { blocked = tt; told = λ b. ap (λ w. chosen (w ∷ xs) ys a) is }
  chosen_matches (out.Known (value.Bool true) ∷ cs) [] o (x ∷ xs) [] a all others m =
      let is : x ≡ Is (value.Bool true) = all.0.told tt in record { blocked = tt; told = λ b. ap (λ w. chosen (w ∷ xs) [] a) is }
  chosen_matches (out.Known (value.Bool false) ∷ cs) [] o (x ∷ xs) [] a all others m =
      let is : x ≡ Is (value.Bool false) = all.0.told tt in record { blocked = tt; told = λ b. ap (λ w. chosen (w ∷ xs) [] a) is }
  chosen_matches (out.Known (value.Bool true) ∷ cs) [] o (x ∷ xs) (y ∷ ys) a all others m = absurd others
  chosen_matches (out.Known (value.Bool false) ∷ cs) [] o (x ∷ xs) (y ∷ ys) a all others m = absurd others
  chosen_matches (out.Known (value.Bool true) ∷ cs) (p ∷ bs) o (x ∷ xs) [] a all others m = absurd others
  chosen_matches (out.Known (value.Bool false) ∷ cs) (p ∷ bs) o (x ∷ xs) [] a all others m = absurd others
  chosen_matches (out.Known (value.Bool true) ∷ cs) (p ∷ bs) o (x ∷ xs) (y ∷ ys) a all others m =
      let is : x ≡ Is (value.Bool true) = all.0.told tt in
      record { blocked = others.0.blocked; told = λ b. ap (λ w. chosen (w ∷ xs) (y ∷ ys) a) is ∙ others.0.told b }
  chosen_matches (out.Known (value.Bool false) ∷ cs) (p ∷ bs) o (x ∷ xs) (y ∷ ys) a all others m =
      let is : x ≡ Is (value.Bool false) = all.0.told tt in
      let rest = chosen_matches cs bs o xs ys a all.1 others.1 m in
      record { blocked = rest.blocked; told = λ b. ap (λ w. chosen (w ∷ xs) (y ∷ ys) a) is ∙ rest.told b }

  pair_matches : (function : Fun) (v w : Value) (os : List Outcome) (xs : List Answer) → MatchAll os xs → Matches (called_pair function v w os) (called function (Is v ∷ (Is w ∷ xs)))
  pair_matches function v w [] [] all = of_answer (called function (Is v ∷ (Is w ∷ [])))
  pair_matches function (value.Int v) (value.Int w) (o ∷ os) (x ∷ xs) all = record { blocked = tt; told = λ b. refl }
  pair_matches function (value.Int v) (value.Bool w) (o ∷ os) (x ∷ xs) all = record { blocked = tt; told = λ b. refl }
  pair_matches function (value.Bool v) w (o ∷ os) (x ∷ xs) all = record { blocked = tt; told = λ b. refl }
  pair_matches function v w [] (x ∷ xs) all = absurd all
  pair_matches function v w (o ∷ os) [] all = absurd all

  second_matches : (function : Fun) (v : Value) (o : Outcome) (a : Answer) (os : List Outcome) (xs : List Answer) → Matches o a → MatchAll os xs
      → Matches (lift (λ w. called_pair function v w os) o) (called function (Is v ∷ (a ∷ xs)))
  second_matches function (value.Int v) o a os xs m all =
      lifted (λ w. called_pair function (value.Int v) w os) (λ z. called function (Is (value.Int v) ∷ (z ∷ xs))) (λ w. pair_matches function (value.Int v) w os xs all) (λ k. refl) refl o a m
  second_matches function (value.Bool v) o a os xs m all =
      lifted (λ w. called_pair function (value.Bool v) w os) (λ z. called function (Is (value.Bool v) ∷ (z ∷ xs))) (λ w. pair_matches function (value.Bool v) w os xs all) (λ k. refl) refl o a m

  called_matches : (function : Fun) (os : List Outcome) (xs : List Answer) → MatchAll os xs → Matches (called_outcome function os) (called function xs)
  called_matches function [] [] all = record { blocked = tt; told = λ b. refl }
  called_matches function (o ∷ []) (x ∷ []) all = lifted (λ v. outcome_of (called function (Is v ∷ []))) (λ z. called function (z ∷ [])) (λ v. of_answer (called function (Is v ∷ []))) (λ k. refl) refl o x all.0
  called_matches function (o ∷ (p ∷ os)) (x ∷ (y ∷ xs)) all =
      lifted (λ v. lift (λ w. called_pair function v w os) p) (λ z. called function (z ∷ (y ∷ xs))) (λ v. second_matches function v p y os xs all.1.0 all.1.1) (λ k. refl) refl o x all.0
  called_matches function [] (x ∷ xs) all = absurd all
  called_matches function (o ∷ os) [] all = absurd all
  called_matches function (o ∷ []) (x ∷ (y ∷ xs)) all = absurd all.1
  called_matches function (o ∷ (p ∷ os)) (x ∷ []) all = absurd all.1

  called_by_matches : (function : Option Fun) (os : List Outcome) (xs : List Answer) → MatchAll os xs → Matches (called_outcome_by function os) (called_by function xs)
  called_by_matches None os xs all = record { blocked = tt; told = λ b. refl }
  called_by_matches (Some function) os xs all = called_matches function os xs all

  slot_matches : (k : ℕ) (s t : Option (Option Value)) → slice_get old k ≡ s → slice_get new k ≡ t → Matches (slot_outcome k s) (read (option_and_then itself t))
  slot_matches k (Some (Some v)) t is now =
      let there = larger.keeps k v is in
      record { blocked = tt; told = λ b. ap (λ z. read (option_and_then itself z)) (sym now ∙ there) }
  slot_matches k (Some None) t is now = record { blocked = is; told = λ b. ap (λ z. read (option_and_then itself z)) (sym now ∙ b) }
  slot_matches k None None is now = record { blocked = tt; told = λ b. refl }
  slot_matches k None (Some t) is now =
      let less = get_within new k t now in
      let size = larger.size in
      let there = get_inside old k (omega (arith, less, size)) in absurd (cc (is, there.1))

  number_matches : (n : Option ℕ) → Matches (number_outcome old n) (read (option_and_then (value_at new) n))
  number_matches None = record { blocked = tt; told = λ b. refl }
  number_matches (Some k) = slot_matches k (slice_get old k) (slice_get new k) refl refl

  module _ (text : List ℕ) (classes : List ClassDef) (table : Numbered) (scope : Ident) where
    name_matches : (t : Bool) (name : Ident) → Matches (if t then out.Missing None else number_outcome old (number_of table name)) (if t then Absent else read (seen table new name))
    name_matches true name = record { blocked = tt; told = λ b. refl }
    name_matches false name = number_matches (number_of table name)

    abbrev node_outcome : TreeNode → Outcome
    node_outcome = fold-TreeNode Outcome Outcome (outcome_level text table old scope) (λ expr. expr.node)

    abbrev expr_outcome : TreeExpr → Outcome
    expr_outcome = fold-TreeExpr Outcome Outcome (outcome_level text table old scope) (λ expr. expr.node)

    abbrev node_answer : TreeNode → Answer
    node_answer = fold-TreeNode Answer Answer (answer_level text classes (seen table new) scope) (λ expr. expr.node)

    abbrev expr_answer : TreeExpr → Answer
    expr_answer = fold-TreeExpr Answer Answer (answer_level text classes (seen table new) scope) (λ expr. expr.node)

    abbrev NodeMatches : TreeNode → Type 0
    NodeMatches node = Matches (node_outcome node) (node_answer node)

    abbrev ExprMatches : TreeExpr → Type 0
    ExprMatches expr = Matches (expr_outcome expr) (expr_answer expr)

    module _ {A B : Type 0} (f : A → TreeNode) (g : B → TreeExpr) (all_f : (x : A) → NodeMatches (f x)) (all_g : (y : B) → ExprMatches (g y)) where
      parts_match : (ps : List B) → MatchAll (map expr_outcome (map g ps)) (map expr_answer (map g ps))
      parts_match [] = tt
      parts_match (p ∷ ps) = (all_g p, parts_match ps)

      abbrev outcomes_in : TreeNode-F A B → TreeNode-F Outcome Outcome
      outcomes_in y = map-TreeNode TreeNode TreeExpr Outcome Outcome node_outcome expr_outcome (map-TreeNode A B TreeNode TreeExpr f g y)

      abbrev answers_in : TreeNode-F A B → TreeNode-F Answer Answer
      answers_in y = map-TreeNode TreeNode TreeExpr Answer Answer node_answer expr_answer (map-TreeNode A B TreeNode TreeExpr f g y)

      level_matches : (y : TreeNode-F A B) → Matches (outcome_level text table old scope (outcomes_in y)) (answer_level text classes (seen table new) scope (answers_in y))
      level_matches (TreeNode-F.Const v) = record { blocked = tt; told = λ b. refl }
      level_matches (TreeNode-F.Name path) = name_matches (is_time (idents text path)) (scope ++ dotted (idents text path))
      level_matches (TreeNode-F.Call path ps) = called_by_matches (function_named (dotted (idents text path))) _ _ (parts_match ps)
      level_matches (TreeNode-F.Chain ps ops) = chain_matches ops _ _ (parts_match ps)
      level_matches (TreeNode-F.Relation rel l r) = related_matches rel _ _ _ _ (all_g l) (all_g r)
      level_matches (TreeNode-F.Neg p) = negated_matches _ _ (all_g p)
      level_matches (TreeNode-F.Not p) = inverted_matches _ _ (all_g p)
      level_matches (TreeNode-F.Power p q) = record { blocked = tt; told = λ b. refl }
      level_matches (TreeNode-F.If cs bs o) = chosen_matches _ _ _ _ _ _ (parts_match cs) (parts_match bs) (all_g o)

      node_matches : (y : TreeNode-F A B) → NodeMatches (roll-TreeNode (map-TreeNode A B TreeNode TreeExpr f g y))
      node_matches y =
          let z = map-TreeNode A B TreeNode TreeExpr f g y in
          let one = fold-roll-TreeNode Outcome Outcome (outcome_level text table old scope) (λ expr. expr.node) z in
          let two = fold-roll-TreeNode Answer Answer (answer_level text classes (seen table new) scope) (λ expr. expr.node) z in
          rw (one, two) (level_matches y)

      whole_matches : (y : TreeExpr-F A B) → ExprMatches (roll-TreeExpr (map-TreeExpr A B TreeNode TreeExpr f g y))
      whole_matches y =
          let z = map-TreeExpr A B TreeNode TreeExpr f g y in
          let one = fold-roll-TreeExpr Outcome Outcome (outcome_level text table old scope) (λ expr. expr.node) z in
          let two = fold-roll-TreeExpr Answer Answer (answer_level text classes (seen table new) scope) (λ expr. expr.node) z in
          rw (one, two) (all_f y.node)

    expr_matches : (expr : TreeExpr) → ExprMatches expr
    expr_matches = ind-TreeExpr NodeMatches ExprMatches
        (λ x y is. subst (λ z. NodeMatches (roll-TreeNode z)) is (node_matches (λ e. e.0) (λ e. e.0) (λ e. e.1) (λ e. e.1) y))
        (λ x y is. subst (λ z. ExprMatches (roll-TreeExpr z)) is (whole_matches (λ e. e.0) (λ e. e.0) (λ e. e.1) (λ e. e.1) y))

    -- what evaluating finds from some values tells the answer from all larger ones
    pub outcome_matches : (expr : TreeExpr) → Matches (outcome text table old scope expr) (answer text classes (seen table new) scope expr)
    unfolding outcome answer
    outcome_matches expr = expr_matches expr
