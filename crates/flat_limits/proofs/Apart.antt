-- No two names of a flat model are the same.
use Rattle.std.proofs.Common.{◌≡◌, ◌≢◌, refl, subst, sym, ap, ap₂, ◌∙◌, ℕ, zero, suc, ◌+◌, ◌≤◌, ◌<◌, Bool, true, false, ◌||◌, List, [], ◌∷◌, ◌++◌, map, flat_map, filter, cond, length, bytes_eq, Option, Some, None, Contains, AllPairs, arith}
use Rattle.std.proofs.lemmas.List.{append_cancel_left}
use Rattle.std.proofs.lemmas.List.Folds.{list_any-append}
use Rattle.std.proofs.lemmas.Slice.Eq.{bytes_eq-Decides}
use Rattle.std.specs.List.{AllZip}
use Rattle.mo_parser.specs.declared.tree.ClassDef.{ClassDef}
use Rattle.mo_parser.specs.declared.tree.Element.{Element}
use Rattle.mo_parser.specs.declared.tree.Short.{Short}
use Rattle.flat_model.specs.declared.model.FlatName.{FlatName}
use Rattle.class_scopes.specs.N2 as N2
use Rattle.class_scopes.specs.Faults.{IsKept}
use Rattle.class_scopes.specs.Places.{is_among, if_among, repeats}
use Rattle.class_scopes.specs.Reached.{HasPart, IsReached, itself, part}
use Rattle.class_scopes.specs.Spelled.{Ident, spelled}
use Rattle.class_scopes.specs.Types.{type_of, elements_of, short_of}
use Rattle.class_scopes.specs.declared.type_name.TypeName.{TypeName}
use Rattle.class_scopes.specs.declared.type_name.TypeName.TheVariants.{Simple, Foreign, Class}
use Rattle.flat_instances.specs.Instances.{Step, Variable, Item, Declared, Own, in_component, in_type, in_class, name_here, path_here, items, instances, variables}
use Rattle.parameter_values.specs.Values.{Values}
use Rattle.flat_answer.specs.Flat.{IsNameOf}
use Rattle.flat_limits.proofs.Spelled.{Every}
use Rattle.flat_limits.proofs.Tokens.{IsNoDot, IsNameText}
use Rattle.flat_limits.proofs.Placings.{every_append, every_flat_map, every_filter, every_both, every_more, contains_first, contains_more, each_within}
use Rattle.flat_limits.proofs.Grounds.{all_of}

-- ---- pairs of a list

-- it holds of each and of each later one
abbrev pub Apart : {A : Type 0} → (A → A → Type 0) → List A → Type 0
Apart R [] = Unit {0}
Apart R (x ∷ xs) = Every (R x) xs × Apart R xs

apart_append : {A : Type 0} (R : A → A → Type 0) (xs ys : List A) → Apart R xs → Apart R ys → Every (λ x. Every (R x) ys) xs → Apart R (xs ++ ys)
apart_append R [] ys one other across = other
apart_append R (x ∷ xs) ys one other across = (every_append (R x) xs ys one.0 across.0, apart_append R xs ys one.1 other across.1)

pub apart_filter : {A : Type 0} (R : A → A → Type 0) (test : A → Bool) (xs : List A) → Apart R xs → Apart R (filter test xs)
apart_filter R test [] apart = tt
apart_filter R test (x ∷ xs) apart = by (test x) (apart_filter R test xs apart.1)
  where
    by : (b : Bool) → Apart R (filter test xs) → Apart R (cond b (x ∷ filter test xs) (filter test xs))
    by true rest = (every_filter (R x) test xs apart.0, rest)
    by false rest = rest

pub pairs_of : {A : Type 0} (R : A → A → Type 0) (xs : List A) → Apart R xs → AllPairs R xs
pairs_of R [] apart i j d less below = absurd (omega (arith, below))
pairs_of R (x ∷ xs) apart zero zero d less below = absurd (omega (arith, less))
pairs_of R (x ∷ xs) apart zero (suc j) d less below = all_of (R x) xs apart.0 j d (omega (arith, below))
pairs_of R (x ∷ xs) apart (suc i) zero d less below = absurd (omega (arith, less))
pairs_of R (x ∷ xs) apart (suc i) (suc j) d less below = pairs_of R xs apart.1 i j d (omega (arith, less)) (omega (arith, below))

every_one : {A : Type 0} (P : A → Type 0) → ((x : A) → P x) → (xs : List A) → Every P xs
every_one P each [] = tt
every_one P each (x ∷ xs) = (each x, every_one P each xs)

contains_behind : {A : Type 0} (xs ys : List A) (y : A) → Contains ys y → Contains (xs ++ ys) y
contains_behind [] ys y has = has
contains_behind (x ∷ xs) ys y has = contains_more x y (xs ++ ys) (contains_behind xs ys y has)

-- ---- names with dots behind them

-- nothing, or a dot and more
abbrev pub IsTail : List ℕ → Type 0
IsTail [] = Unit {0}
IsTail (b ∷ rest) = b ≡ 46

same_front : (x y r s : List ℕ) → Every IsNoDot x → Every IsNoDot y → IsTail r → IsTail s → x ++ r ≡ y ++ s → x ≡ y
same_front [] [] r s px py tr ts is = refl
same_front [] (b ∷ y) [] s px py tr ts is = absurd (cc is)
same_front [] (b ∷ y) (c ∷ r) s px py tr ts is =
    let first : c ≡ b = cc is in
    absurd (py.0 (sym first ∙ tr))
same_front (a ∷ x) [] r [] px py tr ts is = absurd (cc is)
same_front (a ∷ x) [] r (c ∷ s) px py tr ts is =
    let first : a ≡ c = cc is in
    absurd (px.0 (first ∙ ts))
same_front (a ∷ x) (b ∷ y) r s px py tr ts is =
    let first : a ≡ b = cc is in
    let rest : x ++ r ≡ y ++ s = cc is in
    ap₂ (λ c z. c ∷ z) first (same_front x y r s px.1 py.1 tr ts rest)

-- the name of a component in a scope, or of something in that component
abbrev IsUnder : Ident → Ident → Ident → Type 0
IsUnder scope ident name = (rest : List ℕ) × IsTail rest × (name ≡ scope ++ (ident ++ rest))

under_apart : (scope x y a b : Ident) → Every IsNoDot x → Every IsNoDot y → x ≢ y → IsUnder scope x a → IsUnder scope y b → a ≢ b
under_apart scope x y a b px py other one two same =
    other (same_front x y one.0 two.0 px py one.1 two.1 (append_cancel_left scope (x ++ one.0) (y ++ two.0) (sym one.2 ∙ same ∙ two.2)))

-- ---- items

abbrev pub NamesDiffer : Variable → Variable → Type 0
NamesDiffer v w = v.name ≢ w.name

abbrev Differ : Item → Item → Type 0
Differ (Declared v) (Declared w) = NamesDiffer v w
Differ (Declared v) (Own scope class) = Unit {0}
Differ (Own scope class) item = Unit {0}

differ_own : (scope : Ident) (class : ℕ) (item : Item) → Differ item (Own scope class)
differ_own scope class (Declared v) = tt
differ_own scope class (Own other of) = tt

abbrev ItemUnder : Ident → Ident → Item → Type 0
ItemUnder scope ident (Declared v) = IsUnder scope ident v.name
ItemUnder scope ident (Own other class) = Unit {0}

abbrev ItemStarts : Ident → Item → Type 0
ItemStarts scope (Declared v) = (rest : List ℕ) × (v.name ≡ scope ++ rest)
ItemStarts scope (Own other class) = Unit {0}

items_differ : (scope x y : Ident) → Every IsNoDot x → Every IsNoDot y → x ≢ y → (one two : Item) → ItemUnder scope x one → ItemUnder scope y two → Differ one two
items_differ scope x y px py other (Declared v) (Declared w) is also = under_apart scope x y v.name w.name px py other is also
items_differ scope x y px py other (Declared v) (Own of class) is also = tt
items_differ scope x y px py other (Own of class) two is also = tt

starts_of : (scope ident : Ident) (item : Item) → ItemUnder scope ident item → ItemStarts scope item
starts_of scope ident (Declared v) is = (ident ++ is.0, is.2)
starts_of scope ident (Own other class) is = tt

module _ (text : List ℕ) (classes : List ClassDef) where
  abbrev ElementsDiffer : Element → Element → Type 0
  ElementsDiffer e f = spelled text e.name ≢ spelled text f.name

  variable_differs : (v : Variable) (rest : List Item) → Every (Differ (Declared v)) rest → Every (NamesDiffer v) (variables text classes rest)
  variable_differs v [] all = tt
  variable_differs v (Declared w ∷ rest) all = (all.0, variable_differs v rest all.1)
  variable_differs v (Own scope class ∷ rest) all = variable_differs v rest all.1

  variables_apart : (all : List Item) → Apart Differ all → Apart NamesDiffer (variables text classes all)
  variables_apart [] apart = tt
  variables_apart (Declared v ∷ rest) apart = (variable_differs v rest apart.0, variables_apart rest apart.1)
  variables_apart (Own scope class ∷ rest) apart = variables_apart rest apart.1

  -- ---- components of one class

  not_among : (b : Bool) (place : ℕ) (rest : List ℕ) → ((p : ℕ) → Contains (if_among b place ++ rest) p → ⊥) → b ≡ false
  not_among true place rest none = absurd (none place (contains_first place rest))
  not_among false place rest none = refl

  either_false : (a b : Bool) → (a || (b || false)) ≡ false → (a ≡ false) × (b ≡ false)
  either_false true b is = absurd (cc is)
  either_false false true is = absurd (cc is)
  either_false false false is = (refl, refl)

  among_before : (before : List Ident) (key x : Ident) → is_among (before ++ key ∷ []) x ≡ false → (is_among before x ≡ false) × (key ≢ x)
  among_before before key x is =
      let parts = either_false (is_among before x) (bytes_eq x key) (sym (list_any-append (bytes_eq x) before (key ∷ [])) ∙ is) in
      (parts.0, λ same. let yes = (bytes_eq-Decides x key).1 (sym same) in cc (yes, parts.1))

  abbrev IsNew : List Ident → Element → Type 0
  IsNew before e = is_among before (spelled text e.name) ≡ false

  no_repeats : (before : List Ident) (es : List Element) → ((place : ℕ) → Contains (repeats before (map (N2.element_entry text) es)) place → ⊥)
      → Every (IsNew before) es × Apart ElementsDiffer es
  no_repeats before [] none = (tt, tt)
  no_repeats before (e ∷ es) none =
      let key = spelled text e.name in
      let entries = map (N2.element_entry text) es in
      let rest = no_repeats (before ++ key ∷ []) es
      (λ place has. none place (contains_behind (if_among (is_among before key) e.name.at) (repeats (before ++ key ∷ []) entries) place has)) in (
        (
          not_among (is_among before key) e.name.at (repeats (before ++ key ∷ []) entries) none,
          every_more (IsNew (before ++ key ∷ [])) (IsNew before) (λ f is. (among_before before key (spelled text f.name) is).0) es rest.0,
        ),
        (every_more (IsNew (before ++ key ∷ [])) (ElementsDiffer e) (λ f is. (among_before before key (spelled text f.name) is).1) es rest.0, rest.1),
      )

  -- ---- instances

  abbrev pub IsNamed : Element → Type 0
  IsNamed e = IsNameText (spelled text e.name)

  module _ (named : (class : ℕ) → Every IsNamed (elements_of text classes class)) (root : ℕ) (kept : IsKept (N2.Breaks text classes (Some root))) where
    elements_apart : (class : ℕ) → IsReached text classes root class → Apart ElementsDiffer (elements_of text classes class)
    elements_apart class reached = (no_repeats [] (elements_of text classes class) (λ place has. kept place (N2.second_element place (class, (root, refl, reached), has)))).1

    pub record AreApart (scope : Ident) (all : List Item) : Type 0 where
      pub start : Every (ItemStarts scope) all
      pub apart : Apart Differ all

    abbrev LevelApart : ℕ → Type 0
    LevelApart levels = (scope : Ident) (path : List Step) (class : ℕ) → IsReached text classes root class → AreApart scope (items text classes levels scope path class)

    module _ (levels : ℕ) (below : LevelApart levels) (scope : Ident) (path : List Step) (class : ℕ) (reached : IsReached text classes root class) where
      abbrev parts : Element → List Item
      parts = in_component text classes (items text classes levels) scope path

      pub record PartIs (ident : Ident) (all : List Item) : Type 0 where
        pub under : Every (ItemUnder scope ident) all
        pub apart : Apart Differ all

      no_part : (ident : Ident) → PartIs ident []
      no_part ident = record { under = tt; apart = tt }

      one_part : (ident : Ident) (v : Variable) → v.name ≡ scope ++ ident → PartIs ident (Declared v ∷ [])
      one_part ident v is = record { under = (([], tt, is ∙ ap (λ x. scope ++ x) (nothing ident)), tt); apart = (tt, tt) }
        where
          nothing : (x : Ident) → x ≡ x ++ []
          nothing [] = refl
          nothing (b ∷ x) = ap (λ y. b ∷ y) (nothing x)

      grouped : (a b c d : List ℕ) → ((a ++ b) ++ c) ++ d ≡ a ++ (b ++ (c ++ d))
      grouped [] [] c d = refl
      grouped [] (x ∷ b) c d = ap (λ y. x ∷ y) (grouped [] b c d)
      grouped (x ∷ a) b c d = ap (λ y. x ∷ y) (grouped a b c d)

      inside_under : (ident : Ident) (item : Item) → ItemStarts ((scope ++ ident) ++ 46 ∷ []) item → ItemUnder scope ident item
      inside_under ident (Declared v) is = (46 ∷ is.0, refl, is.1 ∙ grouped scope ident (46 ∷ []) is.0)
      inside_under ident (Own other of) is = tt

      module _ (e : Element) (within : Contains (elements_of text classes class) e) where
        abbrev ident : Ident
        ident = spelled text e.name

        class_part : (c : ℕ) (short : Option Short) → type_of text classes e.base ≡ Some (Class c) → PartIs ident (in_class text classes (items text classes levels) scope path e (Class c) c short)
        class_part c (Some short) typed = one_part ident _ refl
        class_part c None typed =
            let has : HasPart text classes class c = record { element = e; declared = within; typed = typed } in
            let inner = below ((scope ++ ident) ++ 46 ∷ []) (path_here text classes (items text classes levels) scope path e) c (part class c reached has) in
            let all = items text classes levels ((scope ++ ident) ++ 46 ∷ []) (path_here text classes (items text classes levels) scope path e) c in
            record { under = every_more (ItemStarts ((scope ++ ident) ++ 46 ∷ [])) (ItemUnder scope ident) (inside_under ident) all inner.start; apart = inner.apart }

        type_part : (type : Option TypeName) → type_of text classes e.base ≡ type → PartIs ident (in_type text classes (items text classes levels) scope path e type)
        type_part None typed = no_part ident
        type_part (Some Foreign) typed = no_part ident
        type_part (Some (Simple kind)) typed = one_part ident _ refl
        type_part (Some (Class c)) typed = class_part c (short_of text classes c) typed

        part_is : PartIs ident (parts e)
        part_is = type_part (type_of text classes e.base) refl

      abbrev Here : Element → Type 0
      Here e = IsNamed e × PartIs (spelled text e.name) (parts e)

      parts_differ : (e : Element) (es : List Element) → Here e → Every Here es → Every (ElementsDiffer e) es → Every (λ item. Every (Differ item) (flat_map parts es)) (parts e)
      parts_differ e es is all other =
          every_more (ItemUnder scope (spelled text e.name)) (λ item. Every (Differ item) (flat_map parts es))
          (λ item under. every_flat_map (Differ item) parts es
          (every_both Here (ElementsDiffer e) (λ f. Every (Differ item) (parts f))
          (λ f there differ. every_more (ItemUnder scope (spelled text f.name)) (Differ item)
          (λ two also. items_differ scope (spelled text e.name) (spelled text f.name) is.0.plain there.0.plain differ item two under also) (parts f) there.1.under)
          es all other))
          (parts e) is.1.under

      all_apart : (es : List Element) → Every Here es → Apart ElementsDiffer es → AreApart scope (flat_map parts es)
      all_apart [] all other = record { start = tt; apart = tt }
      all_apart (e ∷ es) all other =
          let rest = all_apart es all.1 other.1 in
          record {
            start = every_append (ItemStarts scope) (parts e) (flat_map parts es)
                (every_more (ItemUnder scope (spelled text e.name)) (ItemStarts scope) (starts_of scope (spelled text e.name)) (parts e) all.0.1.under) rest.start;
            apart = apart_append Differ (parts e) (flat_map parts es) all.0.1.apart rest.apart (parts_differ e es all.0 all.1 other.0);
          }

      level_apart : AreApart scope (items text classes (suc levels) scope path class)
      level_apart =
          let es = elements_of text classes class in
          let here = every_both IsNamed (Contains es) Here (λ e is within. (is, part_is e within)) es (named class) (each_within es) in
          let all = all_apart es here (elements_apart class reached) in
          record {
            start = every_append (ItemStarts scope) (flat_map parts es) (Own scope class ∷ []) all.start (tt, tt);
            apart = apart_append Differ (flat_map parts es) (Own scope class ∷ []) all.apart (tt, tt)
                (every_one (λ item. Every (Differ item) (Own scope class ∷ [])) (λ item. (differ_own scope class item, tt)) (flat_map parts es));
          }

    levels_apart : (levels : ℕ) → LevelApart levels
    levels_apart zero scope path class reached = record { start = tt; apart = tt }
    levels_apart (suc levels) scope path class reached = level_apart levels (levels_apart levels) scope path class reached

    pub instances_apart : Apart NamesDiffer (variables text classes (instances text classes root))
    unfolding instances
    instances_apart = variables_apart (items text classes 33 [] [] root) (levels_apart 33 [] [] root itself).apart

-- ---- names

abbrev pub TextsDiffer : FlatName → FlatName → Type 0
TextsDiffer a b = a.text ≢ b.text

module _ (text : List ℕ) (classes : List ClassDef) (chosen : Option ℕ) (values : Values) where
  one_differs : (v : Variable) (name : FlatName) (vs : List Variable) (names : List FlatName) → name.text ≡ v.name → Every (NamesDiffer v) vs
      → AllZip (IsNameOf text classes chosen values) vs names → Every (TextsDiffer name) names
  one_differs v name [] [] is all zipped = tt
  one_differs v name [] (n ∷ names) is all zipped = absurd zipped
  one_differs v name (w ∷ vs) [] is all zipped = absurd zipped
  one_differs v name (w ∷ vs) (n ∷ names) is all zipped =
      (λ same. all.0 (sym is ∙ same ∙ zipped.0.text_is), one_differs v name vs names is all.1 zipped.1)

  names_differ : (vs : List Variable) (names : List FlatName) → Apart NamesDiffer vs → AllZip (IsNameOf text classes chosen values) vs names → Apart TextsDiffer names
  names_differ [] [] apart zipped = tt
  names_differ [] (n ∷ names) apart zipped = absurd zipped
  names_differ (v ∷ vs) [] apart zipped = absurd zipped
  names_differ (v ∷ vs) (n ∷ names) apart zipped = (one_differs v n vs names zipped.0.text_is apart.0 zipped.1, names_differ vs names apart.1 zipped.1)

  pub names_apart : (vs : List Variable) (names : List FlatName) → Apart NamesDiffer vs → AllZip (IsNameOf text classes chosen values) vs names
      → AllPairs (λ a b. a.text ≢ b.text) names
  names_apart vs names apart zipped = pairs_of TextsDiffer names (names_differ vs names apart zipped)
