-- What the classes and the clocking of a model give for its names and nodes.
use Rattle.std.proofs.Common.{◌≡◌, ◌≢◌, ◌∙◌, refl, ap, sym, subst, ℕ, inl, inr, Bool, true, false, if◌then◌else◌, List, slice_get, unwrap_or, Some, None, option_map, Contains}
use Rattle.std.proofs.lemmas.Bool.{false≢true}
use Rattle.std.proofs.lemmas.Option.{none-some}
use Rattle.flat_model.specs.declared.clock.Clocking.{Clocking}
use Rattle.flat_model.specs.declared.model.FlatModel.{FlatModel}
use Rattle.flat_model.specs.declared.model.FlatName.{FlatName}
use Rattle.flat_model.specs.Arguments.{is_input}
use Rattle.flat_model.specs.Models.{IsModel}
use Rattle.flat_model.specs.Setting.{flattened}
use Rattle.flat_model.specs.Typing.{types_in}
use Rattle.mo_connect.specs.Chain.{stay, forward}
use Rattle.clock_terms.specs.declared.data.Terms.{Terms}
use Rattle.clock_terms.specs.declared.data.Classes.{Classes}
use Rattle.clock_terms.specs.Classing.{IsMember, AreClassesOf, AreConverted, class_in, is_clocked, partition_in}
use Rattle.clock_terms.specs.Mentions.{Mention, Stands, Ticks, Samples, Holds, Converts, Gives, Cut}
use Rattle.clock_terms.specs.Nodes.{Node, nodes_of}
use Rattle.clock_terms.specs.Said.{IsNode, IsNamed, numbered, NeedsClock, TakesLast, IsConversionOf, IsMarkedClocked, IsMarkedUnclocked}
use Rattle.clock_terms.proofs.Marking.{get_below}
use Rattle.sub_clock_solve.specs.Solving.{place_of}
use Rattle.clock_check.specs.ClockingOf.{number_in, IsClockingOf}
use Rattle.base_partition.specs.Classified.{NoneMixed}
use Rattle.clock_ready.proofs.Good.{Each, each_at, IsBelow, IsGood, IsGoodNode, model_good}
use Rattle.clock_ready.proofs.Fitting.{named}
use Rattle.clock_ready.proofs.Numbers.{same_number}
use Rattle.clock_ready.proofs.Own.{each_contained}
use Rattle.clock_sides.proofs.Lists.{each_from}
use Rattle.clock_sides.proofs.Standing.{IsStill}
use Rattle.clock_sides.proofs.Owned.{IsOwn}
use Rattle.clock_sides.proofs.Placed.{IsPlaced, model_own}

-- a name is there and is no input
pub record IsVariable (model : FlatModel) (x : ℕ) : Type 0 where
  pub name : FlatName
  pub is_named : IsNamed model x name
  pub own : name.input ≡ false

no_input : (names : List FlatName) (x : ℕ) (name : FlatName) → slice_get names x ≡ Some name → is_input names x ≡ false → name.input ≡ false
no_input names x name at e = sym (ap (λ o. unwrap_or (option_map (λ name. name.input) o) false) at) ∙ e

taken_good : (names : List FlatName) (Has : Cut → Type 0) (m : Mention) (x : ℕ) → IsGood (types_in names) m → IsOwn names Has m → TakesLast x m → IsBelow (types_in names) x × (is_input names x ≡ false)
taken_good names Has (Stands y) x good own e = absurd e
taken_good names Has Ticks x good own e = absurd e
taken_good names Has Samples x good own e = absurd e
taken_good names Has (Gives clock) x good own e = absurd e
taken_good names Has (Holds y) x good own e = (subst (λ z. IsBelow (types_in names) z) (sym e) good, subst (λ z. is_input names z ≡ false) (sym e) own)
taken_good names Has (Converts by y) x good own e = (subst (λ z. IsBelow (types_in names) z) (sym e) good.0, subst (λ z. is_input names z ≡ false) (sym e) own)

-- a conversion of a name wants a clock, and takes its last value
pub conversion_needs : (x : ℕ) (m : Mention) → IsConversionOf x m → NeedsClock m × TakesLast x m
conversion_needs x (Stands y) e = absurd e
conversion_needs x Ticks e = absurd e
conversion_needs x Samples e = absurd e
conversion_needs x (Gives clock) e = absurd e
conversion_needs x (Holds y) e = absurd e
conversion_needs x (Converts by y) e = (tt, e)

pub number_some : (classes : Classes) (c : ℕ) → is_clocked classes c ≡ true → number_in classes c ≡ Some (place_of classes c)
number_some classes c t = ap (λ b. if b then Some (place_of classes c) else None) t

pub number_none : (classes : Classes) (c : ℕ) → is_clocked classes c ≡ false → number_in classes c ≡ None
number_none classes c f = ap (λ b. if b then Some (place_of classes c) else None) f

pub clocked_by : (classes : Classes) (c : ℕ) (n : ℕ) → number_in classes c ≡ Some n → is_clocked classes c ≡ true
clocked_by classes c n e = by (is_clocked classes c) refl
  where
    by : (b : Bool) → is_clocked classes c ≡ b → b ≡ true
    by true t = refl
    by false f = absurd (none-some n (sym (number_none classes c f) ∙ e))

pub unclocked_by : (classes : Classes) (c : ℕ) → number_in classes c ≡ None → is_clocked classes c ≡ false
unclocked_by classes c e = by (is_clocked classes c) refl
  where
    by : (b : Bool) → is_clocked classes c ≡ b → b ≡ false
    by false f = refl
    by true t = absurd (none-some (place_of classes c) (sym e ∙ number_some classes c t))

module _ (model : FlatModel) (classes : Classes) (is_model : IsModel model) (k : AreClassesOf model classes) where
  pub variable_member : (x : ℕ) → IsVariable model x → IsMember model x
  variable_member x v = inl (v.name, v.is_named, v.own)

  pub node_in : (j : ℕ) (node : Node) → IsNode model j node → IsMember model (numbered model j)
  node_in j node at = inr (j, refl, get_below (nodes_of model) j node at)

  -- the argument of `hold` or of a conversion is a variable
  pub argument : (j : ℕ) (node : Node) (m : Mention) (x : ℕ) → IsNode model j node → Contains node.mentions m → TakesLast x m → IsVariable model x
  argument j node m x at c takes =
      let types = types_in model.names in
      let placed = IsPlaced (nodes_of model) in
      let good = each_contained (IsGood types) node.mentions m (each_at (IsGoodNode types) (nodes_of model) j node (model_good model is_model) at) c in
      let own = each_contained (IsOwn model.names placed) node.mentions m
      (each_at (λ node. Each (IsOwn model.names placed) node.mentions) (nodes_of model) j node (model_own model is_model) at) c in
      let both = taken_good model.names placed m x good own takes in
      let (name, is_named) = named model.names x both.0.0 both.0.1 in
      record { name = name; is_named = is_named; own = no_input model.names x name is_named both.1 }

  -- what is marked as clocked has a clocked class
  pub marked : (a : ℕ) → IsMember model a → IsMarkedClocked model a → is_clocked classes (class_in classes a) ≡ true
  marked a member mark =
      let r = k.numbered_by.found a member in
      (k.clocked (class_in classes a) (get_below k.firsts (class_in classes a) r.0 r.1)).1 (a, member, mark, refl)

  pub needing : (j : ℕ) (node : Node) (m : Mention) → IsNode model j node → Contains node.mentions m → NeedsClock m → is_clocked classes (class_in classes (numbered model j)) ≡ true
  needing j node m at c needs = marked (numbered model j) (node_in j node at) (inr (inr (inl (j, refl, (node, at, (m, c, needs))))))

  pub taken : (j : ℕ) (node : Node) (m : Mention) (x : ℕ) → IsNode model j node → Contains node.mentions m → TakesLast x m → is_clocked classes (class_in classes x) ≡ true
  taken j node m x at c takes = marked x (variable_member x (argument j node m x at c takes)) (inr (inr (inr (j, (node, at, (m, c, takes))))))

  -- a node of an unclocked class mentions nothing that wants a clock
  pub still_node : (j : ℕ) (node : Node) → IsNode model j node → is_clocked classes (class_in classes (numbered model j)) ≡ false → Each IsStill node.mentions
  still_node j node at f = each_from IsStill node.mentions (λ m c needs. false≢true (sym f ∙ needing j node m at c needs))

  -- a conversion stays in one base partition
  pub one_partition : (j : ℕ) (node : Node) (m : Mention) (x : ℕ) → IsNode model j node → Contains node.mentions m → IsConversionOf x m
      → partition_in classes (class_in classes (numbered model j)) ≡ partition_in classes (class_in classes x)
  one_partition j node m x at c conversion =
      let both = conversion_needs x m conversion in
      let c1 = class_in classes (numbered model j) in
      let c2 = class_in classes x in
      let step : AreConverted model (class_in classes) c1 c2 = record {
        node = numbered model j;
        name = x;
        converted = (j, refl, (node, at, (m, c, conversion)));
        own = variable_member x (argument j node m x at c both.1);
        result = refl;
        argument = refl;
      } in
      same_number (AreConverted model (class_in classes)) (λ c. is_clocked classes c ≡ true) k.bases (partition_in classes) k.partitions c1 c2
      (needing j node m at c both.0) (taken j node m x at c both.1) (forward c1 c2 c2 step (stay c2))

  module _ (apart : NoneMixed model classes) where
    -- what is marked as unclocked has an unclocked class
    pub unmarked : (a : ℕ) → IsMember model a → IsMarkedUnclocked model a → is_clocked classes (class_in classes a) ≡ false
    unmarked a member mark = by (is_clocked classes (class_in classes a)) refl
      where
        by : (b : Bool) → is_clocked classes (class_in classes a) ≡ b → b ≡ false
        by false f = refl
        by true t =
            let r = k.numbered_by.found a member in
            absurd (apart (class_in classes a) ((k.clocked (class_in classes a) (get_below k.firsts (class_in classes a) r.0 r.1)).0 t, (a, member, mark, refl)))

    pub cut_unclocked : (j : ℕ) (node : Node) → IsNode model j node → node.cause ≢ None → is_clocked classes (class_in classes (numbered model j)) ≡ false
    cut_unclocked j node at cause = unmarked (numbered model j) (node_in j node at) (inr (inr (j, refl, node, at, cause)))

  module _ (terms : Terms) (clocking : Clocking) (is : IsClockingOf model terms classes clocking) where
    pub variable_class : (x : ℕ) → IsVariable model x → flattened (slice_get clocking.of_name x) ≡ number_in classes (class_in classes x)
    variable_class x v = ap (λ o. flattened o) (is.names x v.name v.is_named ∙ ap (λ b. Some (if b then None else number_in classes (class_in classes x))) v.own)

    pub equation_class : (j : ℕ) (node : Node) (i : ℕ) → IsNode model j node → node.equation ≡ i → node.cause ≡ None
        → flattened (slice_get clocking.of_equation i) ≡ number_in classes (class_in classes (numbered model j))
    equation_class j node i at number none = ap (λ o. flattened o) (ap (λ n. slice_get clocking.of_equation n) (sym number) ∙ is.equations j node at none)
