-- What holds of all that the instances of a class have, where it holds of the expressions and names of their classes.
use Rattle.std.proofs.Common.{◌≡◌, refl, subst, sym, ap, ◌∙◌, ℕ, zero, suc, ◌+◌, ◌*◌, ◌≤◌, ◌<◌, Bool, true, false, List, [], ◌∷◌, ◌++◌, map, flat_map, filter, cond, length, codes, Option, Some, None, option_map, option_and_then, Contains, length-append, arith}
use Rattle.std.specs.Option.{option_or}
use Rattle.mo_parser.specs.declared.tree.Arg.{Arg}
use Rattle.mo_parser.specs.declared.tree.Arg.TheViews.{out-Arg}
use Rattle.mo_parser.specs.declared.tree.ClassDef.{ClassDef}
use Rattle.mo_parser.specs.declared.tree.Element.{Element}
use Rattle.mo_parser.specs.declared.tree.Short.{Short}
use Rattle.mo_parser.specs.declared.tree.TreeExpr.{TreeExpr}
use Rattle.class_scopes.specs.Reached.{HasPart}
use Rattle.class_scopes.specs.Spelled.{Ident, spelled, idents}
use Rattle.class_scopes.specs.Types.{type_of, elements_of, short_of}
use Rattle.class_scopes.specs.declared.type_name.TypeName.{TypeName}
use Rattle.class_scopes.specs.declared.type_name.TypeName.TheVariants.{Simple, Foreign, Class}
use Rattle.class_order.specs.N11.{HasDepth, here, deeper}
use Rattle.flat_instances.specs.Instances.{Step, Placed, Variable, Item, Declared, Own, placed, outermost, names_along, short_start, variable, in_component, in_type, in_class, name_here, path_here, items, instances, variables}
use Rattle.flat_instances.specs.Modifications.{first_of, behind, given_behind, given_by, given}
use Rattle.flat_instances.proofs.Givings.{given-level}
use Rattle.flat_limits.proofs.Spelled.{Every, Maybe, every_push}
use Rattle.flat_limits.proofs.Tokens.{IsNameSpan}
use Rattle.flat_limits.proofs.Trees.{Gathers, IsElement, IsClass, IsShort}

-- ---- lists

pub every_append : {A : Type 0} (P : A → Type 0) (xs ys : List A) → Every P xs → Every P ys → Every P (xs ++ ys)
every_append P [] ys one other = other
every_append P (x ∷ xs) ys one other = (one.0, every_append P xs ys one.1 other)

pub every_flat_map : {A B : Type 0} (P : B → Type 0) (f : A → List B) (xs : List A) → Every (λ x. Every P (f x)) xs → Every P (flat_map f xs)
every_flat_map P f [] all = tt
every_flat_map P f (x ∷ xs) all = every_append P (f x) (flat_map f xs) all.0 (every_flat_map P f xs all.1)

pub every_map : {A B : Type 0} (P : B → Type 0) (f : A → B) (xs : List A) → Every (λ x. P (f x)) xs → Every P (map f xs)
every_map P f [] all = tt
every_map P f (x ∷ xs) all = (all.0, every_map P f xs all.1)

pub every_filter : {A : Type 0} (P : A → Type 0) (test : A → Bool) (xs : List A) → Every P xs → Every P (filter test xs)
every_filter P test [] all = tt
every_filter P test (x ∷ xs) all = by (test x) (every_filter P test xs all.1)
  where
    by : (b : Bool) → Every P (filter test xs) → Every P (cond b (x ∷ filter test xs) (filter test xs))
    by true rest = (all.0, rest)
    by false rest = rest

pub every_both : {A : Type 0} (P Q R : A → Type 0) → ((x : A) → P x → Q x → R x) → (xs : List A) → Every P xs → Every Q xs → Every R xs
every_both P Q R each [] ps qs = tt
every_both P Q R each (x ∷ xs) ps qs = (each x ps.0 qs.0, every_both P Q R each xs ps.1 qs.1)

pub every_more : {A : Type 0} (P Q : A → Type 0) → ((x : A) → P x → Q x) → (xs : List A) → Every P xs → Every Q xs
every_more P Q each [] all = tt
every_more P Q each (x ∷ xs) all = (each x all.0, every_more P Q each xs all.1)

pub contains_first : {A : Type 0} (x : A) (xs : List A) → Contains (x ∷ xs) x
contains_first x xs = (0, omega arith, refl)

pub contains_more : {A : Type 0} (x y : A) (xs : List A) → Contains xs y → Contains (x ∷ xs) y
contains_more x y xs (k, within, is) = (suc k, omega (arith, within), is)

pub each_within : {A : Type 0} (xs : List A) → Every (Contains xs) xs
each_within [] = tt
each_within (x ∷ xs) = (contains_first x xs, every_more (Contains xs) (Contains (x ∷ xs)) (λ y. contains_more x y xs) xs (each_within xs))

pub or_is : {A : Type 0} (P : A → Type 0) (a b : Option A) → Maybe P a → Maybe P b → Maybe P (option_or a b)
or_is P (Some x) b one other = one
or_is P None b one other = other

-- ---- modifications

module _ (text : List ℕ) (P : TreeExpr → Type 0) where
  -- it holds of all that an argument gives
  abbrev pub Gives : Arg → Type 0
  Gives a = (path : List Ident) → Maybe P (given_by text a path)

  first_is : (args : List Arg) → Every Gives args → (path : List Ident) → Maybe P (first_of (map (λ giving. giving path) (map (given_by text) args)))
  first_is [] all path = tt
  first_is (a ∷ args) all path = or_is P (given_by text a path) (first_of (map (λ giving. giving path) (map (given_by text) args))) (all.0 path) (first_is args all.1 path)

  behind_is : (binding : Option TreeExpr) (args : List Arg) → Every Gives args → Maybe P binding → (rest : Option (List Ident))
      → Maybe P (given_behind text binding (map (given_by text) args) rest)
  behind_is binding args all is None = tt
  behind_is binding args all is (Some []) = is
  behind_is binding args all is (Some (x ∷ path)) = first_is args all (x ∷ path)

  pub gathers : Gathers P Gives
  gathers a all is path = subst (Maybe P) (sym (given-level text a path)) (behind_is (out-Arg a).binding (out-Arg a).args all is (behind (idents text (out-Arg a).name) path))

  abbrev pub PlacedIs : Placed → Type 0
  PlacedIs there = P there.expr

  abbrev pub ElementIs : Element → Type 0
  ElementIs element = IsElement (IsNameSpan text) P Gives element

  abbrev StepIs : Step → Type 0
  StepIs step = ElementIs step.element

  placed_is : (scope : Ident) (o : Option TreeExpr) → Maybe P o → Maybe PlacedIs (option_map (placed scope) o)
  placed_is scope None is = tt
  placed_is scope (Some e) is = is

  outermost_is : (attribute : List Ident) (path : List Step) → Every StepIs path → Maybe PlacedIs (outermost text attribute path)
  outermost_is attribute [] all = tt
  outermost_is attribute (step ∷ path) all =
      let asked = names_along text path ++ attribute in
      or_is PlacedIs (option_map (placed step.scope) (given text step.element.args step.element.binding asked)) (outermost text attribute path)
      (placed_is step.scope (given text step.element.args step.element.binding asked) (behind_is step.element.binding step.element.args all.0.args all.0.binding (Some asked)))
      (outermost_is attribute path all.1)

  -- a name of at most so many bytes as 32 names and the dots between them can have, and what its value and its start are
  pub record VariableIs (v : Variable) : Type 0 where
    pub short : length v.name ≤ 4127
    pub binding : Maybe PlacedIs v.binding
    pub start : Maybe PlacedIs v.start

  abbrev pub ItemIs : Item → Type 0
  ItemIs (Declared v) = VariableIs v
  ItemIs (Own scope class) = Unit {0}

  abbrev pub ClassIs : ClassDef → Type 0
  ClassIs class = IsClass (IsNameSpan text) P Gives class

  pub elements_are : (classes : List ClassDef) (class : ℕ) → Every ClassIs classes → Every ElementIs (elements_of text classes class)
  elements_are [] class all = tt
  elements_are (c ∷ cs) zero all = all.0.elements
  elements_are (c ∷ cs) (suc n) all = elements_are cs n all.1

  short_is : (classes : List ClassDef) (class : ℕ) → Every ClassIs classes → Maybe (IsShort (IsNameSpan text) P Gives) (short_of text classes class)
  short_is [] class all = tt
  short_is (c ∷ cs) zero all = all.0.short
  short_is (c ∷ cs) (suc n) all = short_is cs n all.1

  -- ---- instances

  module _ (classes : List ClassDef) (are : Every ClassIs classes) (root : ℕ) (shallow : HasDepth text classes 33 root → ⊥) where
    short_given : (o : Option Short) → Maybe (IsShort (IsNameSpan text) P Gives) o
        → Maybe PlacedIs (option_and_then (λ short. option_map (placed []) (given text short.args None (codes "start" ∷ []))) o)
    short_given None is = tt
    short_given (Some short) is = placed_is [] (given text short.args None (codes "start" ∷ [])) (behind_is None short.args is tt (Some (codes "start" ∷ [])))

    short_start_is : (type : TypeName) → Maybe PlacedIs (short_start text classes type)
    short_start_is (Class class) = short_given (short_of text classes class) (short_is classes class are)
    short_start_is (Simple kind) = tt
    short_start_is Foreign = tt

    variable_is : (name : Ident) (type : TypeName) (element : Element) (path : List Step) → length name ≤ 4127 → Every StepIs path → VariableIs (variable text classes name type element path)
    variable_is name type element path short all = record {
      short = short;
      binding = outermost_is [] path all;
      start = or_is PlacedIs (outermost text (codes "start" ∷ []) path) (short_start text classes type) (outermost_is (codes "start" ∷ []) path all) (short_start_is type);
    }

    -- so many components stand above the class
    abbrev Stands : ℕ → ℕ → Type 0
    Stands depth class = (n : ℕ) → HasDepth text classes n class → HasDepth text classes (depth + n) root

    abbrev AreItems : ℕ → ℕ → Type 0
    AreItems levels depth =
        (scope : Ident) (path : List Step) (class : ℕ) → length scope ≤ 129 * depth → Every StepIs path → Stands depth class → Every ItemIs (items text classes levels scope path class)

    module _ (levels depth : ℕ) (sum : depth + suc levels ≡ 33) (below : AreItems levels (depth + 1)) (scope : Ident) (path : List Step) (class : ℕ)
        (long : length scope ≤ 129 * depth) (all : Every StepIs path) (stands : Stands depth class) where
      module _ (element : Element) (is : ElementIs element) (within : Contains (elements_of text classes class) element) where
        abbrev name : Ident
        name = name_here text classes (items text classes levels) scope path element

        abbrev steps : List Step
        steps = path_here text classes (items text classes levels) scope path element

        early : depth ≤ 31
        early =
            let other : depth ≡ 32 → ⊥ = λ same. shallow (subst (λ d. HasDepth text classes (d + 1) root) same (stands 1 (here class element within))) in
            omega (arith, sum, other)

        named : length name ≤ 129 * depth + 128
        named =
            let joined = length-append scope (spelled text element.name) in
            omega (arith, joined, long, is.named.short)

        name_short : length name ≤ 4127
        name_short = omega (arith, named, early)

        steps_are : Every StepIs steps
        steps_are = every_push StepIs path (record { scope = scope; element = element }) all is

        part_are : (c : ℕ) → type_of text classes element.base ≡ Some (Class c) → Every ItemIs (items text classes levels (name ++ 46 ∷ []) steps c)
        part_are c typed =
            let joined = length-append name (46 ∷ []) in
            let part : HasPart text classes class c = record { element = element; declared = within; typed = typed } in
            below (name ++ 46 ∷ []) steps c (omega (arith, joined, named)) steps_are
            (λ n has. subst (λ d. HasDepth text classes d root) (next n) (stands (suc n) (deeper n class c part has)))
          where
            next : (n : ℕ) → depth + suc n ≡ depth + 1 + n
            next n = omega arith

        class_are : (c : ℕ) (short : Option Short) → type_of text classes element.base ≡ Some (Class c)
            → Every ItemIs (in_class text classes (items text classes levels) scope path element (Class c) c short)
        class_are c (Some short) typed = (variable_is name (Class c) element steps name_short steps_are, tt)
        class_are c None typed = part_are c typed

        type_are : (type : Option TypeName) → type_of text classes element.base ≡ type → Every ItemIs (in_type text classes (items text classes levels) scope path element type)
        type_are None typed = tt
        type_are (Some Foreign) typed = tt
        type_are (Some (Simple kind)) typed = (variable_is name (Simple kind) element steps name_short steps_are, tt)
        type_are (Some (Class c)) typed = class_are c (short_of text classes c) typed

        component_are : Every ItemIs (in_component text classes (items text classes levels) scope path element)
        component_are = type_are (type_of text classes element.base) refl

      level_are : Every ItemIs (items text classes (suc levels) scope path class)
      level_are =
          every_append ItemIs (flat_map (in_component text classes (items text classes levels) scope path) (elements_of text classes class)) (Own scope class ∷ [])
          (every_flat_map ItemIs (in_component text classes (items text classes levels) scope path) (elements_of text classes class)
          (every_both ElementIs (Contains (elements_of text classes class)) (λ element. Every ItemIs (in_component text classes (items text classes levels) scope path element))
          component_are (elements_of text classes class) (elements_are classes class are) (each_within (elements_of text classes class))))
          (tt, tt)

    items_are : (levels depth : ℕ) → depth + levels ≡ 33 → AreItems levels depth
    items_are zero depth sum scope path class long all stands = tt
    items_are (suc levels) depth sum scope path class long all stands =
        level_are levels depth sum (items_are levels (depth + 1) (omega (arith, sum))) scope path class long all stands

    pub instances_are : Every ItemIs (instances text classes root)
    unfolding instances
    instances_are = items_are 33 0 refl [] [] root (omega arith) tt (λ n has. subst (λ d. HasDepth text classes d root) (from n) has)
      where
        from : (n : ℕ) → n ≡ 0 + n
        from n = omega arith

  pub variables_are : (classes : List ClassDef) (all : List Item) → Every ItemIs all → Every VariableIs (variables text classes all)
  variables_are classes [] are = tt
  variables_are classes (Declared v ∷ rest) are = (are.0, variables_are classes rest are.1)
  variables_are classes (Own scope class ∷ rest) are = variables_are classes rest are.1
