-- The conditions of sites are Booleans of constants and unclocked names.
use Rattle.std.proofs.Common.{◌≡◌, ◌≢◌, ◌∙◌, refl, ap, sym, subst, ℕ, ◌+◌, true, List, [], ◌∷◌, length, Option, Some, None, All, Contains}
use Rattle.std.proofs.lemmas.Option.{none-some}
use Rattle.rational_time.specs.declared.ratio.Ratio.{Ratio}
use Rattle.flat_model.specs.declared.clock.ClockExpr.{ClockExpr}
use Rattle.flat_model.specs.declared.clock.ClockExpr.TheVariants as clock
use Rattle.flat_model.specs.declared.clock.ClockExpr.TheOpen.{ClockExpr-F}
use Rattle.flat_model.specs.declared.clock.Clocking.{Clocking}
use Rattle.flat_model.specs.declared.expression.Expr.{Expr}
use Rattle.flat_model.specs.declared.model.FlatModel.{FlatModel}
use Rattle.flat_model.specs.declared.model.NameKind.{NameKind}
use Rattle.flat_model.specs.declared.model.NameKind.TheVariants as kind
use Rattle.flat_model.specs.declared.table.Table.{Table}
use Rattle.flat_model.specs.Models.{IsModel}
use Rattle.flat_model.specs.Runnable.{IsCondition}
use Rattle.flat_model.specs.Setting.{Setting}
use Rattle.flat_model.specs.Typing.{types_in, is_type}
use Rattle.flat_model.specs.WholeTyping.{is_typed_clock, whole_type_of}
use Rattle.flat_model.proofs.WholeTypes.{whole_typed}
use Rattle.clock_terms.specs.declared.data.Cause.TheVariants.{Condition}
use Rattle.clock_terms.specs.declared.data.Constructor.{Constructor}
use Rattle.clock_terms.specs.declared.data.Terms.{Terms}
use Rattle.clock_terms.specs.declared.data.Classes.{Classes}
use Rattle.clock_terms.specs.Classing.{AreClassesOf}
use Rattle.clock_terms.specs.Listed.{constructors_by}
use Rattle.clock_terms.specs.Mentions.{Mention, Stands, Ticks, Samples, Holds, Converts, Gives, seen, seen_clock}
use Rattle.clock_terms.specs.Nodes.{Node, nodes_of, cut_node}
use Rattle.clock_terms.specs.Said.{AreTermsOf, IsNode, numbered, IsHold}
use Rattle.clock_terms.specs.Source.{Kind, Inferred, Every, AtSite, Other, kind_of}
use Rattle.clock_terms.proofs.Cutting.{cuts-Event}
use Rattle.clock_terms.proofs.Joining.{in_none, in_one}
use Rattle.clock_check.specs.Checking.{IsNowhere, HoldsInCondition}
use Rattle.clock_check.specs.ClockingOf.{sites_before, AreSites, IsClockingOf}
use Rattle.base_partition.specs.Classified.{NoneMixed}
use Rattle.clock_ready.proofs.Good.{Each, each_at, all_of_each, IsGood, IsGoodNode, model_good, clock_typed_roll}
use Rattle.clock_ready.proofs.Own.{each_contained}
use Rattle.clock_sides.proofs.Lists.{at_of, each_from}
use Rattle.clock_sides.proofs.Counted.{bare_shown}
use Rattle.clock_sides.proofs.Direct.{IsDirect, direct}
use Rattle.clock_sides.proofs.Standing.{IsStill}
use Rattle.clock_sides.proofs.Owned.{IsOwn}
use Rattle.clock_sides.proofs.Placed.{IsPlaced, model_own}
use Rattle.clock_sides.proofs.Facts.{still_node, cut_unclocked}
use Rattle.clock_sides.proofs.Clocks.{in_nodes}
use Rattle.clock_sides.proofs.Sides.{standing_is, cut_name_unclocked}

given_by : (n i : ℕ) (m : Mention) (k : Constructor) → Contains (constructors_by n i m) k → m ≡ Gives k.clock
given_by n i (Stands x) k c = absurd (in_none k c)
given_by n i Ticks k c = absurd (in_none k c)
given_by n i Samples k c = absurd (in_none k c)
given_by n i (Holds x) k c = absurd (in_none k c)
given_by n i (Converts by x) k c = absurd (in_none k c)
given_by n i (Gives clock) k c = ap (λ k. Gives k.clock) (in_one _ k c)

-- what neither wants a clock nor holds is a name or a clock
plain_mention : (m : Mention) → IsStill m → (IsHold m → ⊥) → IsDirect m
plain_mention (Stands x) still free = tt
plain_mention Ticks still free = absurd (still tt)
plain_mention Samples still free = absurd (still tt)
plain_mention (Holds x) still free = absurd (free tt)
plain_mention (Converts by x) still free = absurd (still tt)
plain_mention (Gives clock) still free = tt

boolean_is : (o : Option NameKind) → is_type kind.Boolean o ≡ true → o ≡ Some kind.Boolean
boolean_is (Some kind.Boolean) e = refl
boolean_is (Some kind.Integer) e = absurd cc
boolean_is (Some kind.Clock) e = absurd cc
boolean_is None e = absurd cc

-- the condition of a site is a part that is cut from an equation, and a Boolean
pub record IsSite (model : FlatModel) (condition : Expr) : Type 0 where
  pub equation : ℕ
  pub node : ℕ
  pub is_node : IsNode model node (cut_node equation (record { cause = Condition; mentions = (seen condition).mentions }))
  pub type : whole_type_of (types_in model.names) condition ≡ Some kind.Boolean

module _ (model : FlatModel) (terms : Terms) (is_model : IsModel model) (t : AreTermsOf model terms) where
  -- the condition of a constructor that is mentioned in a node
  given_is : (j : ℕ) (node : Node) (given : ClockExpr) (condition : Expr) → IsNode model j node → Contains node.mentions (Gives given) → given ≡ clock.Event condition → IsSite model condition
  given_is j node given condition at c e =
      let types = types_in model.names in
      let placed = IsPlaced (nodes_of model) in
      let good = each_contained (IsGood types) node.mentions (Gives given) (each_at (IsGoodNode types) (nodes_of model) j node (model_good model is_model) at) c in
      let own = each_contained (IsOwn model.names placed) node.mentions (Gives given)
      (each_at (λ node. Each (IsOwn model.names placed) node.mentions) (nodes_of model) j node (model_own model is_model) at) c in
      let first = (subst (λ l. Each placed l) (ap (λ g. (seen_clock g).cuts) e ∙ cuts-Event condition) own).0 in
      let (l, is_cut) = at_of (nodes_of model) (cut_node first.0 (record { cause = Condition; mentions = (seen condition).mentions })) first.1 in
      let typed : is_type kind.Boolean (whole_type_of types condition) ≡ true
      = sym (clock_typed_roll types (ClockExpr-F.Event condition)) ∙ ap (λ g. is_typed_clock types g) (clock.rolls-Event condition ∙ sym e) ∙ good.1 in
      record { equation = first.0; node = l; is_node = is_cut; type = boolean_is (whole_type_of types condition) typed }

  abbrev IsFit : Constructor → Type 0
  IsFit constructor = (condition : Expr) → constructor.clock ≡ clock.Event condition → IsSite model condition

  constructors_fit : Each IsFit terms.constructors
  constructors_fit = each_from IsFit terms.constructors (λ constructor c condition e.
      let (j, node, at, (m, within, gives)) = in_nodes constructors_by (length model.names) (nodes_of model) constructor (subst (λ l. Contains l constructor) t.constructors c) in
      given_is j node constructor.clock condition at (subst (λ m. Contains node.mentions m) (given_by (length model.names + j) node.equation m constructor gives) within) e)

  before_fit : (kind : Kind) (constructor : Constructor) (Rest : List Expr → Type 0) (sites : List Expr) → IsFit constructor → ((rest : List Expr) → Rest rest → Each (IsSite model) rest)
      → sites_before kind constructor.clock Rest sites → Each (IsSite model) sites
  before_fit Inferred constructor Rest sites fit more h = more sites h
  before_fit Other constructor Rest sites fit more h = more sites h
  before_fit (Every n r) constructor Rest sites fit more h = more sites h
  before_fit AtSite constructor Rest sites fit more (condition, rest, given, whole, h) = subst (λ l. Each (IsSite model) l) (sym whole) (fit condition given, more rest h)

  sites_fit : (constructors : List Constructor) (sites : List Expr) → Each IsFit constructors → AreSites constructors sites → Each (IsSite model) sites
  sites_fit [] sites fit h = subst (λ l. Each (IsSite model) l) (sym h) tt
  sites_fit (constructor ∷ constructors) sites fit h =
      before_fit (kind_of constructor.clock) constructor (AreSites constructors) sites fit.0 (λ rest more. sites_fit constructors rest fit.1 more) h

  pub sites_are : (sites : List Expr) → AreSites terms.constructors sites → Each (IsSite model) sites
  sites_are sites h = sites_fit terms.constructors sites constructors_fit h

module _ (model : FlatModel) (terms : Terms) (classes : Classes) (clocking : Clocking) (table : Table) (instants : List Ratio) (is_model : IsModel model) (t : AreTermsOf model terms)
    (k : AreClassesOf model classes) (apart : NoneMixed model classes) (is : IsClockingOf model terms classes clocking) (free : IsNowhere (HoldsInCondition model classes)) where
  abbrev s : Setting
  s = record { model = model; clocking = clocking; table = table; instants = instants }

  -- the condition of a site is made of names, and they are unclocked
  condition_is : (condition : Expr) → IsSite model condition → IsCondition s condition
  condition_is condition site =
      let node = cut_node site.equation (record { cause = Condition; mentions = (seen condition).mentions }) in
      let l = site.node in
      let at = site.is_node in
      let cause : node.cause ≢ None = λ e. none-some Condition (sym e) in
      let quiet = still_node model classes is_model k l node at (cut_unclocked model classes is_model k apart l node at cause) in
      let no_hold : (m : Mention) → Contains node.mentions m → IsHold m → ⊥ = λ m c hold.
      free site.equation (l, node, at, refl, refl, (numbered model l, (l, refl, (node, at, (m, c, hold))), refl)) in
      record {
        typed = whole_typed (types_in model.names) condition kind.Boolean site.type;
        direct = direct condition (each_from IsDirect node.mentions (λ m c. plain_mention m (each_contained IsStill node.mentions m quiet c) (no_hold m c)));
        unclocked = λ y some.
            let (m, c, stands) = bare_shown y condition some in
            cut_name_unclocked model terms classes clocking table instants is_model k apart is l node y at cause (subst (λ m. Contains node.mentions m) (standing_is y m stands) c);
      }

  pub conditions : All (IsCondition s) clocking.sites
  conditions = all_of_each (IsCondition s) clocking.sites (each_from (IsCondition s) clocking.sites (λ condition c.
      condition_is condition (each_contained (IsSite model) clocking.sites condition (sites_are model terms is_model t clocking.sites is.sites) c)))
