-- What modifiers give, and what is in force.
use Rattle.std.proofs.Common.{◌≡◌, refl, ap, ap₂, sym, ◌∙◌, ℕ, suc, ◌+◌, ◌-◌, ◌<◌, ◌≤◌, Bool, true, false, List, [], ◌∷◌, ◌++◌, map, length, take, drop, get_or, Option, Some, None, option_map, bytes_eq, if◌then◌else◌, append_assoc, arith}
use Rattle.std.proofs.Math.Seq.{drop-cons, take-append_seam}
use Rattle.std.proofs.lemmas.List.{drop_all, take_all, take_more, map-append}
use Rattle.std.specs.Borrow.{Bor}
use Rattle.std.specs.Option.{option_copied, option_or}
use Rattle.mo_parser.specs.declared.tree.Arg.{Arg}
use Rattle.mo_parser.specs.declared.tree.Arg.TheViews.{out-Arg}
use Rattle.mo_parser.specs.declared.tree.Element.{Element}
use Rattle.mo_parser.specs.declared.tree.Span.{Span}
use Rattle.mo_parser.specs.declared.tree.TreeExpr.{TreeExpr}
use Rattle.class_scopes.specs.Spelled.{Ident, spelled}
use Rattle.flat_instances.specs.declared.modifier.Modifier.{Modifier}
use Rattle.flat_instances.specs.declared.modifiers.Modifiers.{Modifiers}
use Rattle.flat_instances.specs.Instances.{Step, placed, names_along, outermost}
use Rattle.flat_instances.specs.Modifications.{first_of, behind, given_behind, given_by, given}
use Rattle.flat_instances.specs.Force.{listed, AddsTo, gives, modifier_given, first_given, arg_given, args_given, offered, AddsGiving, GiveOutermost, AreInForce, stepped}
use Rattle.flat_instances.proofs.Givings.{Lent, names_lent, given-level, givings}

-- a list of one part at least, and one without
pub parts_split : (parts : List Span) (d : Span) → 0 < length parts → parts ≡ get_or parts 0 d ∷ take (length parts - 1) (drop 1 parts)
parts_split [] d some = absurd (omega (arith, some))
parts_split (x ∷ parts) d some = sym (ap (λ ys. x ∷ ys) (take_all (length (x ∷ parts) - 1) parts (omega arith)))

pub no_parts : (parts : List Span) → length parts < 1 → parts ≡ []
no_parts [] none = refl
no_parts (x ∷ parts) none = absurd (omega (arith, none))

pub or_none : {A : Type 0} (x : Option A) → option_or x None ≡ x
or_none None = refl
or_none (Some a) = refl

pub or_assoc : {A : Type 0} (x y z : Option A) → option_or (option_or x y) z ≡ option_or x (option_or y z)
or_assoc None y z = refl
or_assoc (Some a) y z = refl

pub map_or : {A B : Type 0} (f : A → B) (x y : Option A) → option_map f (option_or x y) ≡ option_or (option_map f x) (option_map f y)
map_or f None y = refl
map_or f (Some a) y = refl

pub first_more : {A : Type 0} (xs ys : List (Option A)) → first_of (xs ++ ys) ≡ option_or (first_of xs) (first_of ys)
first_more [] ys = refl
first_more (x ∷ xs) ys = ap (option_or x) (first_more xs ys) ∙ sym (or_assoc x (first_of xs) (first_of ys))

module _ (text : List ℕ) where
  pub given_push : (before : Ident) (path : List Ident) (ms : List Modifier) (m : Modifier)
      → first_given text before path (ms ++ m ∷ []) ≡ option_or (first_given text before path ms) (modifier_given text m before path)
  given_push before path ms m =
      ap first_of (map-append (λ modifier. modifier_given text modifier before path) ms (m ∷ []))
      ∙ first_more (map (λ modifier. modifier_given text modifier before path) ms) (modifier_given text m before path ∷ [])
      ∙ ap (option_or (first_given text before path ms)) (or_none (modifier_given text m before path))

  -- what is outermost along a path with one more step
  pub outermost_more : (rest : List Ident) (path : List Step) (step : Step)
      → outermost text rest (path ++ step ∷ []) ≡ option_or (outermost text (spelled text step.element.name ∷ rest) path) (option_map (placed step.scope) (given text step.element.args step.element.binding rest))
  outermost_more rest [] step = or_none (option_map (placed step.scope) (given text step.element.args step.element.binding rest))
  outermost_more rest (first ∷ path) step =
      ap₂ (λ names others. option_or (option_map (placed first.scope) (given text first.element.args first.element.binding names)) others) along (outermost_more rest path step)
      ∙ sym (or_assoc (option_map (placed first.scope) (given text first.element.args first.element.binding (names_along text path ++ spelled text step.element.name ∷ rest)))
      (outermost text (spelled text step.element.name ∷ rest) path) (option_map (placed step.scope) (given text step.element.args step.element.binding rest)))
    where
      along : names_along text (path ++ step ∷ []) ++ rest ≡ names_along text path ++ spelled text step.element.name ∷ rest
      along = ap (λ names. names ++ rest) (map-append (λ s. spelled text s.element.name) path (step ∷ []))
          ∙ append_assoc (names_along text path) (spelled text step.element.name ∷ []) rest

  -- what a component's own modifier gives is what its declaration does
  module _ (own : Modifier) (element : Element) (parts : own.parts.now ≡ []) (args : own.args.now ≡ element.args) (binding : option_copied own.binding ≡ element.binding) where
    own_gives : (rest : List Ident) → gives text own rest ≡ given text element.args element.binding rest
    own_gives rest =
        ap (λ ps. given_behind text (option_copied own.binding) (map (given_by text) own.args.now) (behind (map (spelled text) ps) rest)) parts
        ∙ ap₂ (λ b given_args. given_behind text b (map (given_by text) given_args) (Some rest)) binding args

    -- the modifiers of a part, and then its own
    pub entered : (scope : Ident) (path : List Step) (modifiers : Modifiers) (list : List Modifier) → own.scope ≡ length scope
        → list ≡ listed modifiers (spelled text element.name) ++ own ∷ [] → AreInForce text scope path modifiers → GiveOutermost text scope (stepped scope path element) list
    entered scope path modifiers list at all force tail rest =
        ap (first_given text (scope ++ tail) rest) all
        ∙ given_push (scope ++ tail) rest (listed modifiers (spelled text element.name)) own
        ∙ ap₂ option_or (force tail (spelled text element.name) rest) mine
        ∙ sym (outermost_more rest path (record { scope = scope; element = element }))
      where
        front : take own.scope (scope ++ tail) ≡ scope
        front = ap (λ n. take n (scope ++ tail)) at ∙ take-append_seam scope tail

        mine : modifier_given text own (scope ++ tail) rest ≡ option_map (placed scope) (given text element.args element.binding rest)
        mine = ap₂ (λ s g. option_map (placed s) g) front (own_gives rest)

  -- what is in force inside a component
  pub inside_force : (scope name inner : Ident) (path : List Step) (list : List Modifier) (all : Modifiers) → inner ≡ (scope ++ name) ++ 46 ∷ []
      → GiveOutermost text scope path list → ((before part : Ident) (rest : List Ident) → offered text before part rest all ≡ first_given text before (part ∷ rest) list)
      → AreInForce text inner path all
  inside_force scope name inner path list all is give offers tail part rest =
      offers (inner ++ tail) part rest
      ∙ ap (λ before. first_given text before (part ∷ rest) list) (ap (λ i. i ++ tail) is ∙ append_assoc (scope ++ name) (46 ∷ []) tail ∙ append_assoc scope name (46 ∷ tail))
      ∙ give (name ++ 46 ∷ tail) (part ∷ rest)

  module _ (path : List Ident) (modifiers : List Modifier) where
    -- the modifiers before a place give nothing
    abbrev pub Passes : ℕ → Type 0
    Passes i = (name : Ident) → first_given text name path (drop i modifiers) ≡ first_given text name path modifiers

    pub ended : (i : ℕ) → length modifiers ≤ i → Passes i → (name : Ident) → None ≡ first_given text name path modifiers
    ended i all passes name = sym (ap (first_given text name path) (drop_all i modifiers all)) ∙ passes name

    module _ (i : ℕ) (x : Modifier) (within : i < length modifiers) (is : x ≡ get_or modifiers i x) (passes : Passes i) (found : Option (Bor TreeExpr))
        (told : option_copied found ≡ gives text x path) where
      split : drop i modifiers ≡ x ∷ drop (i + 1) modifiers
      split =
          let next : suc i ≡ i + 1 = omega arith in
          drop-cons modifiers i x within ∙ ap (λ y. y ∷ drop (suc i) modifiers) (sym is) ∙ ap (λ n. x ∷ drop n modifiers) next

      level : (name : Ident) → option_or (option_map (placed (take x.scope name)) (option_copied found)) (first_given text name path (drop (i + 1) modifiers)) ≡ first_given text name path modifiers
      level name =
          ap (λ g. option_or (option_map (placed (take x.scope name)) g) (first_given text name path (drop (i + 1) modifiers))) told
          ∙ sym (ap (first_given text name path) split) ∙ passes name

      pub gave : (expr : Bor TreeExpr) → found ≡ Some expr → (name : Ident) → Some (placed (take x.scope name) expr.now) ≡ first_given text name path modifiers
      gave expr some name =
          ap (λ g. option_or (option_map (placed (take x.scope name)) (option_copied g)) (first_given text name path (drop (i + 1) modifiers))) (sym some) ∙ level name

      pub missed : found ≡ None → Passes (i + 1)
      missed none name =
          ap (λ g. option_or (option_map (placed (take x.scope name)) (option_copied g)) (first_given text name path (drop (i + 1) modifiers))) (sym none) ∙ level name

  -- a modifier is added by the first of its parts
  module _ (first : Span) (parts : List Span) (m : Modifier) (old new : Modifiers) (rest_is : m.parts.now ≡ parts) where
    -- what it gives behind a name
    taken : (before name : Ident) (rest : List Ident) (b : Bool) → bytes_eq (spelled text first) name ≡ b
        → first_given text before rest (if b then listed old name ++ m ∷ [] else listed old name)
        ≡ option_or (offered text before name rest old)
        (option_map (placed (take m.scope before)) (given_behind text (option_copied m.binding) (map (given_by text) m.args.now) (if b then behind (map (spelled text) parts) rest else None)))
    taken before name rest true same =
        given_push before rest (listed old name) m
        ∙ ap (λ ps. option_or (offered text before name rest old)
        (option_map (placed (take m.scope before)) (given_behind text (option_copied m.binding) (map (given_by text) m.args.now) (behind (map (spelled text) ps) rest)))) rest_is
    taken before name rest false same = sym (or_none (offered text before name rest old))

    pub part_added : AddsTo (spelled text first) m old new → (before name : Ident) (rest : List Ident)
        → offered text before name rest new
        ≡ option_or (offered text before name rest old)
        (option_map (placed (take m.scope before)) (given_behind text (option_copied m.binding) (map (given_by text) m.args.now) (behind (map (spelled text) (first ∷ parts)) (name ∷ rest))))
    part_added adds before name rest =
        ap (first_given text before rest) (adds name) ∙ taken before name rest (bytes_eq (spelled text first) name) refl

  -- an argument of one part at least
  pub arg_added : (scope : ℕ) (arg : Arg) (first : Span) (parts : List Span) (m : Modifier) (old new : Modifiers)
      → (out-Arg arg).name.parts ≡ first ∷ parts → m.scope ≡ scope → m.parts.now ≡ parts → m.args.now ≡ (out-Arg arg).args → option_copied m.binding ≡ (out-Arg arg).binding
      → AddsTo (spelled text first) m old new → AddsGiving text (arg_given text scope arg) old new
  arg_added scope arg first parts m old new named at left args binding adds before name rest =
      part_added first parts m old new left adds before name rest
      ∙ ap (λ g. option_or (offered text before name rest old) g)
      (ap₂ (λ n b. option_map (placed (take n before)) (given_behind text b (map (given_by text) m.args.now) (behind (map (spelled text) (first ∷ parts)) (name ∷ rest)))) at binding
      ∙ ap₂ (λ given_args ps. option_map (placed (take scope before)) (given_behind text (out-Arg arg).binding (map (given_by text) given_args) (behind (map (spelled text) ps) (name ∷ rest)))) args (sym named)
      ∙ ap (option_map (placed (take scope before))) (sym (given-level text arg (name ∷ rest))))

  -- an argument without parts gives what its arguments give
  pub bare_added : (scope : ℕ) (arg : Arg) (args : List Arg) (old new : Modifiers)
      → (out-Arg arg).name.parts ≡ [] → args ≡ (out-Arg arg).args → AddsGiving text (args_given text scope args) old new → AddsGiving text (arg_given text scope arg) old new
  bare_added scope arg args old new named same adds before name rest =
      adds before name rest
      ∙ ap (λ g. option_or (offered text before name rest old) (option_map (placed (take scope before)) g))
      (ap first_of (sym (givings text (name ∷ rest) args)) ∙ ap (λ given_args. given_behind text (out-Arg arg).binding (map (given_by text) given_args) (Some (name ∷ rest))) same
      ∙ ap (λ ps. given_behind text (out-Arg arg).binding (map (given_by text) (out-Arg arg).args) (behind (map (spelled text) ps) (name ∷ rest))) (sym named)
      ∙ sym (given-level text arg (name ∷ rest)))

  -- a modifier with a part, and one without
  pub modifier_added : (first : Span) (parts : List Span) (modifier m : Modifier) (old new : Modifiers)
      → modifier.parts.now ≡ first ∷ parts → m.scope ≡ modifier.scope → m.parts.now ≡ parts → m.args.now ≡ modifier.args.now → m.binding ≡ modifier.binding
      → AddsTo (spelled text first) m old new → AddsGiving text (modifier_given text modifier) old new
  modifier_added first parts modifier m old new named at left args binding adds before name rest =
      part_added first parts m old new left adds before name rest
      ∙ ap (λ g. option_or (offered text before name rest old) g)
      (ap₂ (λ n b. option_map (placed (take n before)) (given_behind text (option_copied b) (map (given_by text) m.args.now) (behind (map (spelled text) (first ∷ parts)) (name ∷ rest)))) at binding
      ∙ ap₂ (λ given_args ps. option_map (placed (take modifier.scope before)) (given_behind text (option_copied modifier.binding) (map (given_by text) given_args) (behind (map (spelled text) ps) (name ∷ rest)))) args (sym named))

  pub modifier_bare : (modifier : Modifier) (old new : Modifiers) → modifier.parts.now ≡ []
      → AddsGiving text (args_given text modifier.scope modifier.args.now) old new → AddsGiving text (modifier_given text modifier) old new
  modifier_bare modifier old new named adds before name rest =
      adds before name rest
      ∙ ap (λ g. option_or (offered text before name rest old) (option_map (placed (take modifier.scope before)) g))
      (ap first_of (sym (givings text (name ∷ rest) modifier.args.now))
      ∙ ap (λ ps. given_behind text (option_copied modifier.binding) (map (given_by text) modifier.args.now) (behind (map (spelled text) ps) (name ∷ rest))) (sym named))

  -- several arguments, one by one
  module _ (scope : ℕ) (args : List Arg) (i : ℕ) (x : Arg) (within : i < length args) (is : x ≡ get_or args i x) where
    more : (path : List Ident) → first_of (map (λ arg. given_by text arg path) (take (i + 1) args)) ≡ option_or (first_of (map (λ arg. given_by text arg path) (take i args))) (given_by text x path)
    more path =
        ap (λ given_args. first_of (map (λ arg. given_by text arg path) given_args)) (take_more args i x within ∙ ap (λ y. take i args ++ y ∷ []) (sym is))
        ∙ ap first_of (map-append (λ arg. given_by text arg path) (take i args) (x ∷ []))
        ∙ first_more (map (λ arg. given_by text arg path) (take i args)) (given_by text x path ∷ [])
        ∙ ap (option_or (first_of (map (λ arg. given_by text arg path) (take i args)))) (or_none (given_by text x path))

    pub args_more : (start old new : Modifiers) → AddsGiving text (args_given text scope (take i args)) start old → AddsGiving text (arg_given text scope x) old new
        → AddsGiving text (args_given text scope (take (i + 1) args)) start new
    args_more start old new before_it adds before name rest =
        adds before name rest
        ∙ ap (λ o. option_or o (arg_given text scope x before (name ∷ rest))) (before_it before name rest)
        ∙ or_assoc (offered text before name rest start) (args_given text scope (take i args) before (name ∷ rest)) (arg_given text scope x before (name ∷ rest))
        ∙ ap (option_or (offered text before name rest start))
        (sym (map_or (placed (take scope before)) (first_of (map (λ arg. given_by text arg (name ∷ rest)) (take i args))) (given_by text x (name ∷ rest)))
        ∙ ap (option_map (placed (take scope before))) (sym (more (name ∷ rest))))

  pub args_none : (scope : ℕ) (start : Modifiers) → AddsGiving text (args_given text scope []) start start
  args_none scope start before name rest = sym (or_none (offered text before name rest start))

  pub args_all : (scope : ℕ) (args : List Arg) (i : ℕ) (start new : Modifiers) → length args ≤ i → AddsGiving text (args_given text scope (take i args)) start new
      → AddsGiving text (args_given text scope args) start new
  args_all scope args i start new past all before name rest =
      all before name rest ∙ ap (λ given_args. option_or (offered text before name rest start) (args_given text scope given_args before (name ∷ rest))) (take_all i args past)

  -- several modifiers, one by one
  abbrev pub Offers : List Modifier → Modifiers → Type 0
  Offers list all = (before name : Ident) (rest : List Ident) → offered text before name rest all ≡ first_given text before (name ∷ rest) list

  pub offers_none : (all : Modifiers) → ((name : Ident) → listed all name ≡ []) → Offers [] all
  offers_none all none before name rest = ap (first_given text before rest) (none name)

  pub offers_more : (list : List Modifier) (i : ℕ) (x : Modifier) (old new : Modifiers) → i < length list → x ≡ get_or list i x
      → Offers (take i list) old → AddsGiving text (modifier_given text x) old new → Offers (take (i + 1) list) new
  offers_more list i x old new within is offers adds before name rest =
      adds before name rest
      ∙ ap (λ o. option_or o (modifier_given text x before (name ∷ rest))) (offers before name rest)
      ∙ sym (given_push before (name ∷ rest) (take i list) x)
      ∙ ap (first_given text before (name ∷ rest)) (sym (take_more list i x within ∙ ap (λ y. take i list ++ y ∷ []) (sym is)))

  pub offers_all : (list : List Modifier) (i : ℕ) (all : Modifiers) → length list ≤ i → Offers (take i list) all → Offers list all
  offers_all list i all past offers before name rest =
      offers before name rest ∙ ap (first_given text before (name ∷ rest)) (take_all i list past)

-- what a modifier gives, by what is left of a path behind its parts
module _ (text : List ℕ) (m : Modifier) (path : List Ident) (found : Option Lent) (is : option_map names_lent found ≡ behind (map (spelled text) m.parts.now) path) where
  abbrev by_rest : Option (List Ident) → Option TreeExpr
  by_rest rest = given_behind text (option_copied m.binding) (map (given_by text) m.args.now) rest

  pub gives_none : found ≡ None → None ≡ gives text m path
  gives_none none = ap by_rest (sym (ap (option_map names_lent) none) ∙ is)

  pub gives_own : (left : Lent) → found ≡ Some left → length (names_lent left) < 1 → option_copied m.binding ≡ gives text m path
  gives_own left some short = none_left (names_lent left) short ∙ ap by_rest (sym (ap (option_map names_lent) some) ∙ is)
    where
      none_left : (names : List Ident) → length names < 1 → option_copied m.binding ≡ by_rest (Some names)
      none_left [] short = refl
      none_left (x ∷ names) short = absurd (omega (arith, short))

  pub gives_nested : (left : Lent) → found ≡ Some left → 0 < length (names_lent left) → first_of (map (λ arg. given_by text arg (names_lent left)) m.args.now) ≡ gives text m path
  gives_nested left some long = some_left (names_lent left) long ∙ ap by_rest (sym (ap (option_map names_lent) some) ∙ is)
    where
      some_left : (names : List Ident) → 0 < length names → first_of (map (λ arg. given_by text arg names) m.args.now) ≡ by_rest (Some names)
      some_left [] long = absurd (omega (arith, long))
      some_left (x ∷ names) long = sym (ap first_of (givings text (x ∷ names) m.args.now))

-- nothing is in force where nothing is listed
pub none_force : (text : List ℕ) (scope : Ident) (all : Modifiers) → ((name : Ident) → listed all name ≡ []) → AreInForce text scope [] all
none_force text scope all none tail name rest = ap (first_given text (scope ++ tail) rest) (none name)
