-- What stands uncut in an equation has its class.
use Rattle.std.proofs.Common.{◌≡◌, ◌∙◌, refl, ap, sym, subst, ℕ, ◌<◌, inl, inr, ⊎_elim, Bool, true, false, if◌then◌else◌, List, [], ◌∷◌, ◌++◌, slice_get, Contains, Some, None}
use Rattle.std.proofs.lemmas.List.Elements.{Contains-append_left, Contains-append_right}
use Rattle.rational_time.specs.declared.ratio.Ratio.{Ratio}
use Rattle.flat_model.specs.declared.clock.Clocking.{Clocking}
use Rattle.flat_model.specs.declared.equation.Equation.{Equation}
use Rattle.flat_model.specs.declared.equation.Equation.TheVariants.{Valued, Clocks}
use Rattle.flat_model.specs.declared.expression.Expr.{Expr}
use Rattle.flat_model.specs.declared.model.FlatModel.{FlatModel}
use Rattle.flat_model.specs.declared.model.FlatName.{FlatName}
use Rattle.flat_model.specs.declared.table.Table.{Table}
use Rattle.flat_model.specs.Models.{IsModel}
use Rattle.flat_model.specs.Occurrences.{uncut_count}
use Rattle.flat_model.specs.Setting.{flattened}
use Rattle.flat_model.specs.Typing.{types_in}
use Rattle.mo_connect.specs.Chain.{stay, forward}
use Rattle.clock_terms.specs.declared.data.Terms.{Terms}
use Rattle.clock_terms.specs.declared.data.Classes.{Classes}
use Rattle.clock_terms.specs.Classing.{IsMember, AreClassesOf, class_in, is_clocked}
use Rattle.clock_terms.specs.Mentions.{Mention, Stands, seen, clock_mentions}
use Rattle.clock_terms.specs.Nodes.{Node, nodes_of, own_node}
use Rattle.clock_terms.specs.Said.{IsNode, IsNamed, numbered, IsJoined, AreOfOneClass}
use Rattle.clock_terms.proofs.Joining.{cons_cases, in_none}
use Rattle.clock_terms.proofs.Marking.{get_below}
use Rattle.sub_clock_solve.specs.Solving.{place_of}
use Rattle.clock_check.specs.ClockingOf.{number_in, class_of_name, IsClockingOf}
use Rattle.clock_ready.specs.Laws.{NoneHasBothMarks, IsEquationOwn}
use Rattle.clock_ready.proofs.Equations.{own_node_of}
use Rattle.clock_ready.proofs.Fitting.{named}
use Rattle.clock_ready.proofs.Good.{Each, each_at, IsGood, IsGoodNode, model_good}
use Rattle.clock_ready.proofs.Numbers.{same_number}
use Rattle.clock_ready.proofs.Shown.{uncut_shown}

pub each_contained : {X : Type 0} (P : X → Type 0) (xs : List X) (x : X) → Each P xs → Contains xs x → P x
each_contained P [] x h c = absurd (in_none x c)
each_contained P (y ∷ ys) x h c = ⊎_elim (λ e. subst P e h.0) (λ rest. each_contained P ys x h.1 rest) (cons_cases y ys x c)

module _ (model : FlatModel) (classes : Classes) (k : AreClassesOf model classes) where
  -- two members of one class have one number
  pub same_class : (a b : ℕ) → IsMember model a → IsMember model b → AreOfOneClass model a b → class_in classes a ≡ class_in classes b
  same_class a b in_a in_b joined = same_number (IsJoined model) (IsMember model) k.firsts (class_in classes) k.numbered_by a b in_a in_b joined

  pub node_member : (j : ℕ) (node : Node) → IsNode model j node → IsMember model (numbered model j)
  node_member j node is = inr (j, refl, get_below (nodes_of model) j node is)

  module _ (apart : NoneHasBothMarks model classes) where
    -- a name that stands uncut in a node has the class of the node
    pub name_in_node : (j : ℕ) (node : Node) (y : ℕ) (name : FlatName) → IsNode model j node → IsNamed model y name → Contains node.mentions (Stands y)
        → class_of_name classes y name ≡ number_in classes (class_in classes (numbered model j))
    name_in_node j node y name is named shown = by name.input refl
      where
        by : (b : Bool) → name.input ≡ b → (if b then None else number_in classes (class_in classes y)) ≡ number_in classes (class_in classes (numbered model j))
        by false own =
            let step = inl (j, refl, record { node = node; is_node = is; stands = shown; name = name; is_named = named; own = own }) in
            ap (λ c. number_in classes c) (same_class y (numbered model j) (inl (name, named, own)) (node_member j node is) (forward y (numbered model j) (numbered model j) step (stay (numbered model j))))
        by true input = unclocked (is_clocked classes (class_in classes (numbered model j))) refl
          where
            unclocked : (b : Bool) → is_clocked classes (class_in classes (numbered model j)) ≡ b → None ≡ (if b then Some (place_of classes (class_in classes (numbered model j))) else None)
            unclocked false f = refl
            unclocked true t =
                let c = class_in classes (numbered model j) in
                let member = node_member j node is in
                let r = k.numbered_by.found (numbered model j) member in
                let marked = (k.clocked c (get_below k.firsts c r.0 r.1)).0 t in
                absurd (apart c marked (numbered model j, member, inl (j, refl, (node, is, (Stands y, shown, (name, named, input)))), refl))

    module _ (terms : Terms) (clocking : Clocking) (model_is : IsModel model) (is : IsClockingOf model terms classes clocking) where
      side_own : (i j : ℕ) (node : Node) (e : Expr) → IsNode model j node → node.equation ≡ i → node.cause ≡ None
          → ((m : Mention) → Contains (seen e).mentions m → Contains node.mentions m)
          → (y : ℕ) → 0 < uncut_count y e → flattened (slice_get clocking.of_name y) ≡ flattened (slice_get clocking.of_equation i)
      side_own i j node e at number none within y some =
          let shown = within (Stands y) (uncut_shown y e some) in
          let good = each_at (IsGoodNode (types_in model.names)) (nodes_of model) j node (model_good model model_is) at in
          let below = each_contained (IsGood (types_in model.names)) node.mentions (Stands y) good shown in
          let (name, is_named) = named model.names y below.0 below.1 in
          ap (λ o. flattened o) (is.names y name is_named)
          ∙ name_in_node j node y name at is_named shown
          ∙ sym (ap (λ o. flattened o) (ap (λ n. slice_get clocking.of_equation n) (sym number) ∙ is.equations j node at none))

      pub equation_own : (table : Table) (instants : List Ratio) (i : ℕ) (equation : Equation) → slice_get model.equations i ≡ Some equation
          → IsEquationOwn (record { model = model; clocking = clocking; table = table; instants = instants }) i equation
      equation_own table instants i (Valued left right clause) e =
          let (j, clock, at) = own_node_of model i (Valued left right clause) e in
          let node = own_node clock i (Valued left right clause) in
          let lead = clock_mentions clock in
          let first = (seen left).mentions in
          let second = (seen right).mentions in (
            λ y some. side_own i j node left at refl refl (λ m h. Contains-append_right lead (first ++ second) m (Contains-append_left first second m h)) y some,
            λ y some. side_own i j node right at refl refl (λ m h. Contains-append_right lead (first ++ second) m (Contains-append_right first second m h)) y some,
          )
      equation_own table instants i (Clocks left right clause) e = tt
