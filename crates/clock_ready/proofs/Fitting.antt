-- The terms and the classes of a model fit together.
use Rattle.std.proofs.Common.{◌≡◌, refl, ap, ◌∙◌, sym, subst, ℕ, zero, suc, ◌+◌, ◌-◌, ◌<◌, ◌≤◌, nat_le, nat_lt, ◌^◌, ◌⊎◌, inl, inr, ⊎_elim, Bool, true, false, List, [], ◌∷◌, length, slice_get, get_or, flat_map, Option, Some, None, option_map, All, arith}
use Rattle.std.proofs.lemmas.Bool.{false≢true, and_parts}
use Rattle.std.proofs.lemmas.Option.{none-some, slice_get-get_or}
use Rattle.std.proofs.lemmas.Grind.{get_or_default_zero}
use Rattle.sync_values.specs.declared.value.Value.TheVariants as value
use Rattle.flat_model.specs.declared.clock.Conversion.{Conversion}
use Rattle.flat_model.specs.declared.clock.Conversion.TheVariants.{Sub, Super, Shift, Back, NoClock}
use Rattle.flat_model.specs.declared.model.NameKind.{NameKind}
use Rattle.flat_model.specs.declared.model.NameKind.TheVariants as kind
use Rattle.flat_model.specs.declared.model.FlatModel.{FlatModel}
use Rattle.flat_model.specs.declared.model.FlatName.{FlatName}
use Rattle.flat_model.specs.Counters.{is_counter, has_counters}
use Rattle.flat_model.specs.Models.{IsModel}
use Rattle.flat_model.specs.Typing.{types_in}
use Rattle.clock_terms.specs.declared.data.Terms.{Terms}
use Rattle.clock_terms.specs.declared.data.Classes.{Classes}
use Rattle.clock_terms.specs.declared.data.Constructor.{Constructor}
use Rattle.clock_terms.specs.declared.data.Relation.{Relation}
use Rattle.clock_terms.specs.Asked.{IsGiven}
use Rattle.clock_terms.specs.Classing.{IsMember, AreClassesOf, class_in}
use Rattle.clock_terms.specs.Listed.{of_nodes, constructors_by, relations_by, constructors_of, relations_of}
use Rattle.clock_terms.specs.Mentions.{Mention, Stands, Ticks, Samples, Holds, Converts, Gives}
use Rattle.clock_terms.specs.Nodes.{Node, nodes_of}
use Rattle.clock_terms.specs.Said.{AreTermsOf, IsNamed, numbered}
use Rattle.clock_terms.proofs.Marking.{get_below}
use Rattle.sub_clock_solve.specs.Standing.{IsGivenClock, HasClass, FitTogether}
use Rattle.clock_check.specs.Inferring.{IsInferred}
use Rattle.clock_ready.specs.Laws.{HaveKnownFactors}
use Rattle.clock_ready.proofs.Good.{at_least, Each, each_append, all_of_each, IsBelow, IsGood, model_good}

-- a conversion with counters in their range has a factor that is given or to be inferred
known_factor : (by : Conversion) → has_counters by ≡ true → (by ≡ NoClock → ⊥) → IsGiven by ⊎ IsInferred by
known_factor (Sub zero) c n = inr tt
known_factor (Sub (suc f)) c n = inl (omega arith)
known_factor (Super zero) c n = inr tt
known_factor (Super (suc f)) c n = inl (omega arith)
known_factor (Shift k r) c n = let h = and_parts (is_counter 0 k) (is_counter 1 r) c in let l = and_parts (nat_le 1 r) (nat_lt r (2 ^ 31)) h.1 in inl (at_least 1 r l.0)
known_factor (Back k r) c n = let h = and_parts (is_counter 0 k) (is_counter 1 r) c in let l = and_parts (nat_le 1 r) (nat_lt r (2 ^ 31)) h.1 in inl (at_least 1 r l.0)
known_factor NoClock c n = absurd (n refl)

each_mention : {X : Type 0} (Q : X → Type 0) (P : Mention → Type 0) (by : Mention → List X) (ms : List Mention) → Each P ms → ((m : Mention) → P m → Each Q (by m)) → Each Q (flat_map by ms)
each_mention Q P by [] g h = tt
each_mention Q P by (m ∷ ms) g h = each_append Q (by m) (flat_map by ms) (h m g.0) (each_mention Q P by ms g.1 h)

-- what holds of each mention of each node holds of what they give
each_node : {X : Type 0} (Q : X → Type 0) (P : Mention → Type 0) (by : ℕ → ℕ → Mention → List X) (n : ℕ) (nodes : List Node) → Each (λ node. Each P node.mentions) nodes
    → ((j i : ℕ) (m : Mention) → j < length nodes → P m → Each Q (by (n + j) i m)) → Each Q (of_nodes by n nodes)
each_node Q P by n [] g h = tt
each_node Q P by n (node ∷ nodes) g h =
    each_append Q (flat_map (by n node.equation) node.mentions) (of_nodes by (n + 1) nodes)
    (each_mention Q P (by n node.equation) node.mentions g.0 (λ m good. subst (λ k. Each Q (by k node.equation m)) (let e : n + 0 ≡ n = omega arith in e) (h 0 node.equation m (omega arith) good)))
    (each_node Q P by (n + 1) nodes g.1 (λ j i m lt good. subst (λ k. Each Q (by k i m)) (let e : n + suc j ≡ n + 1 + j = omega arith in e) (h (suc j) i m (omega (arith, lt)) good)))

pub named : (names : List FlatName) (x : ℕ) (k : NameKind) → types_in names x ≡ Some k → (name : FlatName) × (slice_get names x ≡ Some name)
named names x k e = by (slice_get names x) refl e
  where
    by : (o : Option FlatName) → slice_get names x ≡ o → option_map (λ name. name.kind) o ≡ Some k → (name : FlatName) × (slice_get names x ≡ Some name)
    by None at e = absurd (none-some k e)
    by (Some name) at e = (name, at)

module _ (model : FlatModel) (terms : Terms) (classes : Classes) (is : IsModel model) (t : AreTermsOf model terms) (k : AreClassesOf model classes) where
  -- a member has a class
  pub member_class : (a : ℕ) → IsMember model a → class_in classes a < length classes.clocked
  member_class a m =
      let r = k.numbered_by.found a m in
      let lt = get_below k.firsts (class_in classes a) r.0 r.1 in
      let size = k.lengths.clocked in
      omega (arith, lt, size)

  node_member : (j : ℕ) → j < length (nodes_of model) → IsMember model (numbered model j)
  node_member j lt = inr (j, refl, lt)

  node_class : (j : ℕ) → j < length (nodes_of model) → HasClass classes (numbered model j)
  node_class j lt = record {
    within = let size = k.lengths.class_of in omega (arith, size, lt);
    class = member_class (numbered model j) (node_member j lt);
  }

  input_apart : (x : ℕ) (name : FlatName) → IsNamed model x name → name.input ≡ true → IsMember model x → ⊥
  input_apart x name at input (inl (other, at', own)) =
      let same : other ≡ name = cc in
      false≢true (sym own ∙ ap (λ n. n.input) same ∙ input)
  input_apart x name at input (inr (j, e, lt)) = let within = get_below model.names x name at in absurd (omega (arith, within, e))

  -- the class of a name, or 0 for an input
  name_class : (x : ℕ) (name : FlatName) → IsNamed model x name → (class_in classes x < length classes.clocked) ⊎ (class_in classes x ≡ 0)
  name_class x name at = by name.input refl
    where
      by : (b : Bool) → name.input ≡ b → (class_in classes x < length classes.clocked) ⊎ (class_in classes x ≡ 0)
      by true input = inr (k.others x (input_apart x name at input))
      by false own = inl (member_class x (inl (name, at, own)))

  -- where there is a node, each name has a class number
  argument_class : (x j : ℕ) → IsBelow (types_in model.names) x → j < length (nodes_of model) → HasClass classes x
  argument_class x j below lt =
      let (name, at) = named model.names x below.0 below.1 in
      let within = get_below model.names x name at in
      let size = k.lengths.class_of in
      let some = (node_class j lt).class in
      record {
        within = omega (arith, within, size);
        class = ⊎_elim (λ h. h) (λ e. omega (arith, e, some)) (name_class x name at);
      }

  abbrev good : Mention → Type 0
  good = IsGood (types_in model.names)

  abbrev IsFitConstructor : Constructor → Type 0
  IsFitConstructor constructor = HasClass classes constructor.node × IsGivenClock constructor.clock

  abbrev IsFitRelation : Relation → Type 0
  IsFitRelation relation = (HasClass classes relation.result × HasClass classes relation.argument) × (IsGiven relation.by ⊎ IsInferred relation.by)

  constructor_fits : (j i : ℕ) (m : Mention) → j < length (nodes_of model) → good m → Each IsFitConstructor (constructors_by (length model.names + j) i m)
  constructor_fits j i (Stands x) lt g = tt
  constructor_fits j i Ticks lt g = tt
  constructor_fits j i Samples lt g = tt
  constructor_fits j i (Holds x) lt g = tt
  constructor_fits j i (Converts by x) lt g = tt
  constructor_fits j i (Gives clock) lt g = ((node_class j lt, g.0), tt)

  relation_fits : (j i : ℕ) (m : Mention) → j < length (nodes_of model) → good m → Each IsFitRelation (relations_by (length model.names + j) i m)
  relation_fits j i (Stands x) lt g = tt
  relation_fits j i Ticks lt g = tt
  relation_fits j i Samples lt g = tt
  relation_fits j i (Holds x) lt g = tt
  relation_fits j i (Gives clock) lt g = tt
  relation_fits j i (Converts NoClock x) lt g = tt
  relation_fits j i (Converts (Sub f) x) lt g = (((node_class j lt, argument_class x j g.0 lt), known_factor (Sub f) g.1 (λ e. absurd cc)), tt)
  relation_fits j i (Converts (Super f) x) lt g = (((node_class j lt, argument_class x j g.0 lt), known_factor (Super f) g.1 (λ e. absurd cc)), tt)
  relation_fits j i (Converts (Shift n r) x) lt g = (((node_class j lt, argument_class x j g.0 lt), known_factor (Shift n r) g.1 (λ e. absurd cc)), tt)
  relation_fits j i (Converts (Back n r) x) lt g = (((node_class j lt, argument_class x j g.0 lt), known_factor (Back n r) g.1 (λ e. absurd cc)), tt)

  all_constructors : All IsFitConstructor terms.constructors
  all_constructors = subst (λ l. All IsFitConstructor l) (sym t.constructors)
      (all_of_each IsFitConstructor (constructors_of model) (each_node IsFitConstructor good constructors_by (length model.names) (nodes_of model) (model_good model is) constructor_fits))

  all_relations : All IsFitRelation terms.relations
  all_relations = subst (λ l. All IsFitRelation l) (sym t.relations)
      (all_of_each IsFitRelation (relations_of model) (each_node IsFitRelation good relations_by (length model.names) (nodes_of model) (model_good model is) relation_fits))

  entry : (x : ℕ) → x < length classes.class_of → (class_in classes x < length classes.clocked) ⊎ (class_in classes x ≡ 0)
  entry x lt = ⊎_elim of_name of_node (split x (length model.names))
    where
      split : (a n : ℕ) → (a < n) ⊎ (n ≤ a)
      split a zero = inr (omega arith)
      split zero (suc n) = inl (omega arith)
      split (suc a) (suc n) = ⊎_elim (λ h. inl (omega (arith, h))) (λ h. inr (omega (arith, h))) (split a n)

      of_name : x < length model.names → (class_in classes x < length classes.clocked) ⊎ (class_in classes x ≡ 0)
      of_name within =
          let e : FlatName = record { text = []; kind = kind.Integer; input = false; start = value.Bool false } in
          name_class x (get_or model.names x e) (slice_get-get_or model.names x e within)

      of_node : length model.names ≤ x → (class_in classes x < length classes.clocked) ⊎ (class_in classes x ≡ 0)
      of_node past =
          let size = k.lengths.class_of in
          let at : x ≡ numbered model (x - length model.names) = omega (arith, past) in
          inl (member_class x (inr (x - length model.names, at, omega (arith, size, lt, past))))

  pub fits : FitTogether terms classes × HaveKnownFactors terms
  fits = (
    record {
      nodes = λ x d lt. (all_constructors x d lt).0;
      ends = λ x d lt. (all_relations x d lt).0;
      entries = λ x d lt. subst (λ c. (c < length classes.clocked) ⊎ (c ≡ 0)) (sym (get_or_default_zero classes.class_of x d lt)) (entry x lt);
      clocks = λ x d lt. (all_constructors x d lt).1;
    },
    λ x d lt. (all_relations x d lt).1,
  )
