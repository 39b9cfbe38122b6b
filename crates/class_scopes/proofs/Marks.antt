-- Marked classes.
use Rattle.std.proofs.Common.{◌≡◌, refl, ap, sym, ◌∙◌, subst, ℕ, zero, suc, ◌+◌, ◌<◌, ◌≤◌, ◌⊎◌, inl, inr, Bool, true, false, cond, List, [], ◌∷◌, ◌++◌, length, get_or, Option, Some, None, slice_get, slice_set, slice_index_or, replicate, Contains, Result, Ok, Err, OnOk, arith, bytes_eq, codes, option_and_then, nat_lt, if◌then◌else◌}
use Rattle.std.specs.List.{position_from}
use Rattle.std.proofs.lemmas.List.{length-append}
use Rattle.flat_model.specs.declared.model.NameKind.TheVariants as kind
use Rattle.std.proofs.lemmas.Option.{slice_get_within, slice_get-get_or, get_or_from_slice_get}
use Rattle.std.proofs.lemmas.List.Elements.{Contains-get_or, Contains-append_left, Contains-push, Contains-push_cases}
use Rattle.std.proofs.lemmas.Bool.Decides.{nat_tests}
use Rattle.mo_parser.specs.declared.tree.ClassDef.{ClassDef}
use Rattle.mo_parser.specs.declared.tree.Element.{Element}
use Rattle.mo_parser.specs.declared.tree.Path.{Path}
use Rattle.class_scopes.specs.declared.type_name.TypeName.{TypeName}
use Rattle.class_scopes.specs.declared.type_name.TypeName.TheVariants.{Simple, Foreign, Class}
use Rattle.class_scopes.specs.Spelled.{Ident, spelled, idents, alone}
use Rattle.class_scopes.specs.Types.{predefined, or_class, class_named, type_named, type_of, elements_of}
use Rattle.class_scopes.specs.Reached.{IsReached, AreReached}
use Rattle.class_scopes.specs.private.Reaching.{count, IsMarked, AreListed, Keeps, Marks, MarksBy, Begins, PartsMarked, Grows, PartMarked, Closed}

set_length : (xs : List Bool) (i : ℕ) (v : Bool) → length (slice_set xs i v) ≡ length xs
set_length [] i v = refl
set_length (x ∷ xs) zero v = refl
set_length (x ∷ xs) (suc i) v = ap suc (set_length xs i v)

set_here : (xs : List Bool) (i : ℕ) → i < length xs → IsMarked (slice_set xs i true) i
set_here [] i within = absurd (omega (arith, within))
set_here (x ∷ xs) zero within = refl
set_here (x ∷ xs) (suc i) within = set_here xs i (omega (arith, within))

set_keeps : (xs : List Bool) (i j : ℕ) → IsMarked xs j → IsMarked (slice_set xs i true) j
set_keeps [] i j marked = marked
set_keeps (x ∷ xs) zero zero marked = refl
set_keeps (x ∷ xs) zero (suc j) marked = marked
set_keeps (x ∷ xs) (suc i) zero marked = marked
set_keeps (x ∷ xs) (suc i) (suc j) marked = set_keeps xs i j marked

set_back : (xs : List Bool) (i j : ℕ) → IsMarked (slice_set xs i true) j → (i ≡ j) ⊎ IsMarked xs j
set_back [] i j marked = inr marked
set_back (x ∷ xs) zero zero marked = inl refl
set_back (x ∷ xs) zero (suc j) marked = inr marked
set_back (x ∷ xs) (suc i) zero marked = inr marked
set_back (x ∷ xs) (suc i) (suc j) marked = by (set_back xs i j marked)
  where
    by : (i ≡ j) ⊎ IsMarked xs j → (suc i ≡ suc j) ⊎ IsMarked xs j
    by (inl same) = inl (ap suc same)
    by (inr other) = inr other

set_counts : (xs : List Bool) (i : ℕ) → i < length xs → slice_index_or xs i false ≡ false → count (slice_set xs i true) ≡ count xs + 1
set_counts [] i within free = absurd (omega (arith, within))
set_counts (true ∷ xs) zero within free = absurd (cc free)
set_counts (false ∷ xs) zero within free = omega arith
set_counts (x ∷ xs) (suc i) within free = let more = set_counts xs i (omega (arith, within)) free in omega (arith, more)

pub count_most : (xs : List Bool) → count xs ≤ length xs
count_most [] = omega arith
count_most (true ∷ xs) = omega (arith, count_most xs)
count_most (false ∷ xs) = omega (arith, count_most xs)

is_marked : (xs : List Bool) (i : ℕ) → slice_index_or xs i false ≡ true → IsMarked xs i
is_marked [] i is = absurd (cc is)
is_marked (x ∷ xs) zero is = ap Some is
is_marked (x ∷ xs) (suc i) is = is_marked xs i is

pub begins_self : (xs : List ℕ) → Begins xs xs
begins_self xs k x at = at

pub begins_push : (xs : List ℕ) (y : ℕ) → Begins xs (xs ++ y ∷ [])
begins_push [] y k x at = absurd (cc at)
begins_push (z ∷ xs) y zero x at = at
begins_push (z ∷ xs) y (suc k) x at = begins_push xs y k x at

module _ (text : List ℕ) (classes : List ClassDef) (chosen class : ℕ) (seen after : List Bool) (reached more : List ℕ) where
  -- what marking a reached class keeps and adds
  pub record Marked : Type 0 where
    pub are : AreListed text classes chosen after more
    pub keeps : Keeps seen after
    pub here : IsMarked after class
    pub front : Begins reached more

  old_mark : AreListed text classes chosen seen reached → slice_index_or seen class false ≡ true → (after ≡ seen) × (more ≡ reached) → Marked
  old_mark are there same = record {
    are = subst (λ s. AreListed text classes chosen s more) (sym same.0) (subst (AreListed text classes chosen seen) (sym same.1) are);
    keeps = λ c marked. subst (λ s. IsMarked s c) (sym same.0) marked;
    here = subst (λ s. IsMarked s class) (sym same.0) (is_marked seen class there);
    front = subst (Begins reached) (sym same.1) (begins_self reached);
  }

  new_mark : AreListed text classes chosen seen reached → IsReached text classes chosen class → class < length seen
      → slice_index_or seen class false ≡ false → (after ≡ slice_set seen class true) × (more ≡ reached ++ class ∷ []) → Marked
  new_mark are own within free same = record {
    are = subst (λ s. AreListed text classes chosen s more) (sym same.0) (subst (AreListed text classes chosen set) (sym same.1) listed);
    keeps = λ c marked. subst (λ s. IsMarked s c) (sym same.0) (set_keeps seen class c marked);
    here = subst (λ s. IsMarked s class) (sym same.0) (set_here seen class within);
    front = subst (Begins reached) (sym same.1) (begins_push reached class);
  }
    where
      set : List Bool
      set = slice_set seen class true

      sound : (c : ℕ) → (class ≡ c) ⊎ IsMarked seen c → IsReached text classes chosen c
      sound c (inl this) = subst (IsReached text classes chosen) this own
      sound c (inr marked) = are.sound c marked

      lists : (c : ℕ) → Contains reached c ⊎ (class ≡ c) → IsMarked (slice_set seen class true) c
      lists c (inl listed) = set_keeps seen class c (are.lists c listed)
      lists c (inr this) = subst (IsMarked (slice_set seen class true)) this (set_here seen class within)

      back : (c : ℕ) → (class ≡ c) ⊎ IsMarked seen c → Contains (reached ++ class ∷ []) c
      back c (inl this) = subst (Contains (reached ++ class ∷ [])) this (Contains-push reached class)
      back c (inr marked) = Contains-append_left reached (class ∷ []) c (are.listed c marked)

      listed : AreListed text classes chosen (slice_set seen class true) (reached ++ class ∷ [])
      listed = record {
        size = set_length seen class true ∙ are.size;
        sound = λ c marked. sound c (set_back seen class c marked);
        lists = λ c listed. lists c (Contains-push_cases reached class c listed);
        listed = λ c marked. back c (set_back seen class c marked);
        counted = omega (arith, length-append reached (class ∷ []), set_counts seen class within free, are.counted);
      }

  pub marked : AreListed text classes chosen seen reached → IsReached text classes chosen class → class < length seen
      → Marks class seen reached after more → Marked
  marked are own within told = by (slice_index_or seen class false) refl told
    where
      by : (b : Bool) → slice_index_or seen class false ≡ b → MarksBy b class seen reached after more → Marked
      by true is told = old_mark are is told
      by false is told = new_mark are own within is told

-- a class that a type name stands for is one of the file
from_within : {A : Type 0} (test : A → Bool) (i k : ℕ) (xs : List A) → position_from test i xs ≡ Some k → k < i + length xs
from_within test i k [] is = absurd (cc is)
from_within test i k (x ∷ xs) is = by (test x) is (from_within test (i + 1) k xs)
  where
    by : (b : Bool) → cond b (Some i) (position_from test (i + 1) xs) ≡ Some k → (position_from test (i + 1) xs ≡ Some k → k < i + 1 + length xs) → k < i + suc (length xs)
    by true is again = let this : i ≡ k = cc is in omega (arith, this)
    by false is again = let below = again is in omega (arith, below)

no_class : (a b c d e : Bool) (k : ℕ)
    → (if a then Some (Simple kind.Integer) else if b then Some (Simple kind.Boolean) else if c then Some (Simple kind.Clock) else
    if d then Some Foreign else if e then Some Foreign else None) ≡ Some (Class k) → ⊥
no_class true b c d e k is = cc is
no_class false true c d e k is = cc is
no_class false false true d e k is = cc is
no_class false false false true e k is = cc is
no_class false false false false true k is = cc is
no_class false false false false false k is = cc is

module _ (text : List ℕ) (classes : List ClassDef) where
  pub class_within : (name : Ident) (k : ℕ) → class_named text classes name ≡ Some k → k < length classes
  class_within name k is = let below = from_within (λ class. bytes_eq name (spelled text class.name)) 0 k classes is in omega (arith, below)

  or_within : (type : Option TypeName) (class : Option ℕ) (k : ℕ) → (type ≡ Some (Class k) → ⊥) → or_class type class ≡ Some (Class k) → class ≡ Some k
  or_within (Some type) class k none is = absurd (none is)
  or_within None (Some c) k none is = let same : c ≡ k = cc is in ap Some same
  or_within None None k none is = absurd (cc is)

  alone_within : (name : Option Ident) (k : ℕ) → option_and_then (type_named text classes) name ≡ Some (Class k) → k < length classes
  alone_within None k is = absurd (cc is)
  alone_within (Some name) k is =
      class_within name k (or_within (predefined name) (class_named text classes name) k
      (no_class (bytes_eq name (codes "Integer")) (bytes_eq name (codes "Boolean")) (bytes_eq name (codes "Clock")) (bytes_eq name (codes "Real")) (bytes_eq name (codes "String")) k) is)

  pub type_within : (path : Path) (k : ℕ) → type_of text classes path ≡ Some (Class k) → k < length classes
  type_within path k is = alone_within (alone (idents text path)) k is

  module _ (elements : List Element) (i : ℕ) (x : Element) (within : i < length elements) (is : x ≡ get_or elements i x) where
    at_or_before : (k : ℕ) (element : Element) → k < i + 1 → slice_get elements k ≡ Some element → (k < i) ⊎ (x ≡ element)
    at_or_before k element below at = by (nat_lt k i) refl
      where
        by : (b : Bool) → nat_lt k i ≡ b → (k < i) ⊎ (x ≡ element)
        by true before = inl (grind (arith, nat_tests, before))
        by false past =
            let here : k ≡ i = grind (arith, nat_tests, past, below) in
            inr (is ∙ get_or_from_slice_get elements i element x (subst (λ n. slice_get elements n ≡ Some element) here at))

    pub parts_more : (old new : List Bool) → Keeps old new → ((part : ℕ) → type_of text classes x.base ≡ Some (Class part) → IsMarked new part)
        → PartsMarked text classes elements i old → PartsMarked text classes elements (i + 1) new
    parts_more old new keeps here before k part element below at typed = by (at_or_before k element below at)
      where
        by : (k < i) ⊎ (x ≡ element) → IsMarked new part
        by (inl earlier) = keeps part (before k part element earlier at typed)
        by (inr this) = here part (subst (λ e. type_of text classes e.base ≡ Some (Class part)) (sym this) typed)

  -- the part of a reached class is reached
  pub part_reached : (chosen class part i : ℕ) (elements : List Element) (x : Element) → elements ≡ elements_of text classes class → i < length elements
      → x ≡ get_or elements i x → type_of text classes x.base ≡ Some (Class part) → IsReached text classes chosen class → IsReached text classes chosen part
  part_reached chosen class part i elements x same within is typed own = IsReached.part class part own (record {
    element = x;
    declared = subst (λ es. Contains es x) same (i, within, sym is);
    typed = typed;
  })

module _ (text : List ℕ) (classes : List ClassDef) (chosen : ℕ) (element : Element) (seen after : List Bool) (reached more : List ℕ) where
  grown : (class : ℕ) → Marked text classes chosen class seen after reached more → Grows text classes chosen seen reached after more
  grown class m = record { are = m.are; keeps = m.keeps; front = m.front }

  -- the part that an element is of, which is marked
  pub part_marked : (part : ℕ) → type_of text classes element.base ≡ Some (Class part) → Marked text classes chosen part seen after reached more
      → Grows text classes chosen seen reached after more × PartMarked text classes element after
  part_marked part typed m = (grown part m, here)
    where
      here : PartMarked text classes element after
      here other is = let same : part ≡ other = cc (typed, is) in subst (IsMarked after) same m.here

pub grows_not : (text : List ℕ) (classes : List ClassDef) (chosen : ℕ) (seen : List Bool) (reached : List ℕ) → AreListed text classes chosen seen reached
    → Grows text classes chosen seen reached seen reached
grows_not text classes chosen seen reached are = record { are = are; keeps = λ c m. m; front = λ k x at. at }

pub no_part : (text : List ℕ) (classes : List ClassDef) (element : Element) (seen : List Bool) → ((k : ℕ) → type_of text classes element.base ≡ Some (Class k) → ⊥)
    → PartMarked text classes element seen
no_part text classes element seen none part is = absurd (none part is)

pub on_ok : {A E : Type 0} (r : Result A E) (P Q : Type 0) → (P → Q) → OnOk r P → OnOk r Q
on_ok (Ok x) P Q f p = f p
on_ok (Err e) P Q f p = p

module _ (text : List ℕ) (classes : List ClassDef) (chosen : ℕ) where
  pub grows_more : (a b c : List Bool) (x y z : List ℕ) → Grows text classes chosen a x b y → Grows text classes chosen b y c z → Grows text classes chosen a x c z
  grows_more a b c x y z first next = record {
    are = next.are;
    keeps = λ k marked. next.keeps k (first.keeps k marked);
    front = λ k v at. next.front k v (first.front k v at);
  }

  pub closed_more : (seen after : List Bool) (reached more : List ℕ) (n class : ℕ) → Closed text classes reached n seen → slice_get reached n ≡ Some class
      → PartsMarked text classes (elements_of text classes class) (length (elements_of text classes class)) after
      → Keeps seen after → Begins reached more → Closed text classes more (n + 1) after
  closed_more seen after reached more n class before at parts keeps front k other below stands i part element within is typed = by (nat_lt k n) refl
    where
      long : n < length reached
      long = slice_get_within reached n class at

      by : (b : Bool) → nat_lt k n ≡ b → IsMarked after part
      by true early =
          let less : k < n = grind (arith, nat_tests, early) in
          let old = slice_get-get_or reached k 0 (omega (arith, less, long)) in
          let same : get_or reached k 0 ≡ other = cc (front k (get_or reached k 0) old, stands) in
          let here : slice_get reached k ≡ Some other = old ∙ ap Some same in
          keeps part (before k other less here i part element within is typed)
      by false late =
          let now : k ≡ n = grind (arith, nat_tests, late, below) in
          let here : slice_get more n ≡ Some class = front n class at in
          let same : class ≡ other = cc (here, subst (λ m. slice_get more m ≡ Some other) now stands) in
          parts i part element (subst (λ c. i < length (elements_of text classes c)) (sym same) within)
          (subst (λ c. slice_get (elements_of text classes c) i ≡ Some element) (sym same) is) typed

  module _ (seen : List Bool) (reached : List ℕ) (n : ℕ) (are : AreListed text classes chosen seen reached) (start : IsMarked seen chosen)
      (closed : Closed text classes reached n seen) (past : length reached ≤ n) where
    all_marked : (class : ℕ) → IsReached text classes chosen class → IsMarked seen class
    all_marked class IsReached.itself = start
    all_marked last (IsReached.part class other inside has) =
        let within = are.listed class (all_marked class inside) in
        let at : slice_get reached within.0 ≡ Some class = slice_get-get_or reached within.0 class within.1 ∙ ap Some within.2 in
        let declared = has.declared in
        let stands : slice_get (elements_of text classes class) declared.0 ≡ Some has.element =
        slice_get-get_or (elements_of text classes class) declared.0 has.element declared.1 ∙ ap Some declared.2 in
        closed within.0 class (omega (arith, within.1, past)) at declared.0 other has.element declared.1 stands has.typed

    below_all : (k : ℕ) (d : ℕ) → k < length reached → get_or reached k d < length classes
    below_all k d within =
        let marked = are.lists (get_or reached k d) (Contains-get_or reached k d within) in
        let less = slice_get_within seen (get_or reached k d) true marked in
        omega (arith, less, are.size)

    pub are_reached : AreReached text classes chosen reached
    are_reached = record {
      below = λ k d within. below_all k d within;
      only = λ k d within. are.sound (get_or reached k d) (are.lists (get_or reached k d) (Contains-get_or reached k d within));
      every = λ class inside. are.listed class (all_marked class inside);
    }

-- at first the chosen class alone
repeated_free : (n k : ℕ) → slice_get (replicate n false) k ≡ Some true → ⊥
repeated_free zero k is = cc is
repeated_free (suc n) zero is = cc is
repeated_free (suc n) (suc k) is = repeated_free n k is

count_none : (n : ℕ) → count (replicate n false) ≡ 0
count_none zero = refl
count_none (suc n) = omega (arith, count_none n)

length_none : (n : ℕ) → length (replicate n false) ≡ n
length_none zero = refl
length_none (suc n) = ap suc (length_none n)

pub none_listed : (text : List ℕ) (classes : List ClassDef) (chosen n : ℕ) → n ≡ length classes → AreListed text classes chosen (replicate n false) []
none_listed text classes chosen n same = record {
  size = length_none n ∙ same;
  sound = λ c marked. absurd (repeated_free n c marked);
  lists = λ c listed. absurd (omega (arith, listed.1));
  listed = λ c marked. absurd (repeated_free n c marked);
  counted = sym (count_none n);
}
