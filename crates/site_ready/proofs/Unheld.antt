-- No clock decides of the names in the classes of event conditions.
use Rattle.std.proofs.Common.{◌≡◌, ◌∙◌, refl, ap, sym, subst, ℕ, ◌⊎◌, inl, inr, ⊎_elim, Bool, true, false, List, ◌++◌, slice_get, Option, Some, None, option_map, Contains}
use Rattle.std.proofs.lemmas.Bool.{false≢true}
use Rattle.std.proofs.lemmas.Option.{none-some, same_Some}
use Rattle.std.proofs.lemmas.List.Elements.{Contains-append_left, Contains-append_right}
use Rattle.rational_time.specs.declared.ratio.Ratio.{Ratio}
use Rattle.flat_model.specs.declared.clock.ClockExpr.{ClockExpr}
use Rattle.flat_model.specs.declared.clock.Clocking.{Clocking}
use Rattle.flat_model.specs.declared.equation.Equation.{Equation}
use Rattle.flat_model.specs.declared.equation.Equation.TheVariants.{Valued, Clocks}
use Rattle.flat_model.specs.declared.model.FlatModel.{FlatModel}
use Rattle.flat_model.specs.declared.model.FlatName.{FlatName}
use Rattle.flat_model.specs.declared.model.NameKind.TheVariants as kind
use Rattle.flat_model.specs.declared.table.Table.{Table}
use Rattle.flat_model.specs.Models.{IsModel}
use Rattle.flat_model.specs.Setting.{Setting, class_of_name}
use Rattle.flat_model.specs.Tables.{IsInput}
use Rattle.flat_model.specs.Typing.{types_in}
use Rattle.flat_model.specs.Uses.{SiteReads}
use Rattle.flat_model.proofs.WholeTypes.{whole_typed}
use Rattle.mo_connect.specs.Chain.{stay, forward}
use Rattle.moment_theory.specs.Division.{AreUnheld, StandsBare, Holds}
use Rattle.clock_terms.specs.declared.data.Cause.TheVariants.{Condition}
use Rattle.clock_terms.specs.Classing.{class_in, is_clocked}
use Rattle.clock_terms.specs.Mentions.{Stands, seen, clock_mentions}
use Rattle.clock_terms.specs.Nodes.{Node, nodes_of, own_node, cut_node}
use Rattle.clock_terms.specs.Said.{IsNode, IsNamed, numbered}
use Rattle.clock_ready.proofs.Equations.{own_node_of}
use Rattle.clock_ready.proofs.Fitting.{named}
use Rattle.clock_ready.proofs.Good.{each_at, IsGood, IsGoodNode, model_good}
use Rattle.clock_ready.proofs.Own.{each_contained, same_class, node_member}
use Rattle.clock_sides.specs.Laws.{IsAnswered}
use Rattle.clock_sides.proofs.Conditions.{IsSite, sites_are}
use Rattle.clock_sides.proofs.Counted.{IsHoldOf, bare_shown, held_shown}
use Rattle.clock_sides.proofs.Facts.{IsVariable, variable_class, number_none, cut_unclocked}
use Rattle.clock_sides.proofs.Lists.{contains_at, Found, found_left, found_right}
use Rattle.clock_sides.proofs.Sides.{standing_is, hold_is}
use Rattle.run_stages.specs.Laws.{IsGrouped, RestOnGroup}
use Rattle.site_ready.specs.Laws.{IsUnderCondition, IsGroupOf}
use Rattle.site_ready.proofs.Valued.{HasValues, bare_valued}

module _ (model : FlatModel) (clocking : Clocking) (table : Table) (instants : List Ratio) (is_model : IsModel model) (a : IsAnswered model clocking) where
  abbrev s : Setting
  s = record { model = model; clocking = clocking; table = table; instants = instants }

  abbrev class : ℕ → ℕ
  class x = class_in a.classes x

  -- a name that stands in a node is an input, or has the class of the node
  stands_is : (j : ℕ) (node : Node) (y : ℕ) → IsNode model j node → Contains node.mentions (Stands y) → (IsVariable model y × (class y ≡ class (numbered model j))) ⊎ IsInput model.names y
  stands_is j node y at c =
      let types = types_in model.names in
      let good = each_contained (IsGood types) node.mentions (Stands y) (each_at (IsGoodNode types) (nodes_of model) j node (model_good model is_model) at) c in
      let (name, is_named) = named model.names y good.0 good.1 in
      by name is_named name.input refl
    where
      by : (name : FlatName) → IsNamed model y name → (b : Bool) → name.input ≡ b → (IsVariable model y × (class y ≡ class (numbered model j))) ⊎ IsInput model.names y
      by name is_named true input = inr (name, is_named, input)
      by name is_named false own =
          let step = inl (j, refl, record { node = node; is_node = at; stands = c; name = name; is_named = is_named; own = own }) in
          inl (
            record { name = name; is_named = is_named; own = own },
            same_class model a.classes a.classified.are y (numbered model j) (inl (name, is_named, own)) (node_member model a.classes a.classified.are j node at)
                (forward y (numbered model j) (numbered model j) step (stay (numbered model j))),
          )

  under : (y : ℕ) (number : ℕ) (node : Node) → IsVariable model y → IsNode model number node → node.cause ≡ Some Condition → class y ≡ class (numbered model number) → IsUnderCondition model a.classes y
  under y number node v at cause e = record { name = v.name; is_named = v.is_named; own = v.own; number = number; node = node; is_node = at; cause = cause; class = e }

  -- what stands bare on a side of equation i, or is held there, is mentioned in its node
  bare_in : (i : ℕ) (equation : Equation) (y : ℕ) (clock : Option ClockExpr) → StandsBare equation y → Contains (own_node clock i equation).mentions (Stands y)
  bare_in i (Valued left right clause) y clock bare =
      let lead = clock_mentions clock in
      let first = (seen left).mentions in
      let second = (seen right).mentions in
      Contains-append_right lead (first ++ second) (Stands y) (⊎_elim
      (λ h. let (m, c, is) = bare_shown y left h in Contains-append_left first second (Stands y) (subst (λ m. Contains first m) (standing_is y m is) c))
      (λ h. let (m, c, is) = bare_shown y right h in Contains-append_right first second (Stands y) (subst (λ m. Contains second m) (standing_is y m is) c))
      bare)
  bare_in i (Clocks left right clause) y clock bare = absurd bare

  hold_in : (i : ℕ) (equation : Equation) (z : ℕ) (clock : Option ClockExpr) → Holds equation z → Found (IsHoldOf z) (own_node clock i equation).mentions
  hold_in i (Valued left right clause) z clock held =
      let lead = clock_mentions clock in
      let first = (seen left).mentions in
      let second = (seen right).mentions in
      found_right (IsHoldOf z) lead (first ++ second) (⊎_elim
      (λ h. found_left (IsHoldOf z) first second (held_shown z left h))
      (λ h. found_right (IsHoldOf z) first second (held_shown z right h))
      held)
  hold_in i (Clocks left right clause) z clock held = absurd held

  module _ (group : ℕ → Bool) (tells : IsGroupOf model a.classes group) where
    unclocked_is : (y : ℕ) → group y ≡ true → class_of_name s y ≡ None
    unclocked_is y inside =
        let h = (tells y).0 inside in
        variable_class model a.classes is_model a.classified.are a.terms clocking a.checked.1 y (record { name = h.name; is_named = h.is_named; own = h.own })
        ∙ number_none a.classes (class y) (ap (λ c. is_clocked a.classes c) h.class
        ∙ cut_unclocked model a.classes is_model a.classified.are a.classified.classes_apart h.number h.node h.is_node (λ e. none-some Condition (sym e ∙ h.cause)))

    sites_is : (c : Option ℕ) (y : ℕ) → SiteReads s c y → (group y ≡ true) ⊎ IsInput model.names y
    sites_is c y (site, factor, shift, condition, clock, at, bare) =
        let is = each_contained (IsSite model) clocking.sites condition (sites_are model a.terms is_model a.are_terms clocking.sites a.checked.1.sites) (contains_at clocking.sites site condition at) in
        let node = cut_node is.equation (record { cause = Condition; mentions = (seen condition).mentions }) in
        let (m, within, stands) = bare_shown y condition bare in
        ⊎_elim
        (λ h. inl ((tells y).1 (under y is.node node h.0 is.is_node refl h.1)))
        (λ input. inr input)
        (stands_is is.node node y is.is_node (subst (λ m. Contains node.mentions m) (standing_is y m stands) within))

    pub rest : RestOnGroup s group
    rest site y condition at bare =
        let is = each_contained (IsSite model) clocking.sites condition (sites_are model a.terms is_model a.are_terms clocking.sites a.checked.1.sites) (contains_at clocking.sites site condition at) in
        let node = cut_node is.equation (record { cause = Condition; mentions = (seen condition).mentions }) in
        let (m, within, stands) = bare_shown y condition bare in
        ⊎_elim
        (λ h. inr (grouped y h.0 ((tells y).1 (under y is.node node h.0 is.is_node refl h.1))
        (bare_valued (types_in model.names) y condition kind.Boolean (whole_typed (types_in model.names) condition kind.Boolean is.type) bare)))
        (λ input. inl input)
        (stands_is is.node node y is.is_node (subst (λ m. Contains node.mentions m) (standing_is y m stands) within))
      where
        grouped : (y : ℕ) → IsVariable model y → group y ≡ true → HasValues (types_in model.names y) → IsGrouped s group y
        grouped y v own has = record {
          own = own;
          name = v.name;
          found = v.is_named;
          valued = λ e. has.2 (same_Some has.0 kind.Clock (sym has.1 ∙ ap (λ o. option_map (λ name. name.kind) o) v.is_named ∙ ap Some e));
        }

    -- the class of the equation in which a name of the group stands bare
    beside_class : (i : ℕ) (equation : Equation) (y j : ℕ) (clock : Option ClockExpr) → IsNode model j (own_node clock i equation) → (h : IsUnderCondition model a.classes y) → StandsBare equation y
        → class (numbered model j) ≡ class (numbered model h.number)
    beside_class i equation y j clock at h bare = ⊎_elim
        (λ own. sym own.1 ∙ h.class)
        (λ input. absurd (false≢true (sym h.own ∙ ap (λ n. n.input) (same_Some h.name input.0 (sym h.is_named ∙ input.1)) ∙ input.2)))
        (stands_is j (own_node clock i equation) y at (bare_in i equation y clock bare))

    beside_is : (i : ℕ) (equation : Equation) (y z : ℕ) → slice_get model.equations i ≡ Some equation → group y ≡ true → StandsBare equation y → StandsBare equation z → (group z ≡ true) ⊎ IsInput model.names z
    beside_is i equation y z e inside bare other =
        let (j, clock, at) = own_node_of model i equation e in
        let h = (tells y).0 inside in
        ⊎_elim
        (λ own. inl ((tells z).1 (under z h.number h.node own.0 h.is_node h.cause (own.1 ∙ beside_class i equation y j clock at h bare))))
        (λ input. inr input)
        (stands_is j (own_node clock i equation) z at (bare_in i equation z clock other))

    holds_is : (i : ℕ) (equation : Equation) (y z : ℕ) → slice_get model.equations i ≡ Some equation → group y ≡ true → StandsBare equation y → Holds equation z → ⊥
    holds_is i equation y z e inside bare held =
        let (j, clock, at) = own_node_of model i equation e in
        let h = (tells y).0 inside in
        let (m, c, hold) = hold_in i equation z clock held in
        a.checked.0.1 h.node.equation (h.number, h.node, h.is_node, refl, h.cause, (numbered model j, (j, refl, (own_node clock i equation, at, (m, c, (hold_is z m hold).0))), beside_class i equation y j clock at h bare))

    pub unheld : AreUnheld s group
    unheld = record {
      unclocked = unclocked_is;
      sites = sites_is;
      beside = beside_is;
      holds = holds_is;
    }
