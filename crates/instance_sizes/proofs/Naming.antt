-- The flat names of a model, and their numbers.
use Rattle.std.proofs.Common.{◌≡◌, refl, ap, sym, ◌∙◌, subst, ℕ, suc, ◌+◌, ◌<◌, ◌≤◌, get_or, min, take, Option, Bool, true, false, cond, not, List, [], ◌∷◌, ◌++◌, map, filter, flat_map, length, bytes_eq, if◌then◌else◌, length-append, arith}
use Rattle.std.specs.List.{position_from, sum_by}
use Rattle.std.proofs.Math.Path.{fun_ext}
use Rattle.std.proofs.lemmas.List.{take_more, length-take-le, length-map}
use Rattle.std.proofs.lemmas.List.Sums.{sum_by-cons, sum_by-take-le}
use Rattle.mo_parser.specs.declared.tree.ClassDef.{ClassDef}
use Rattle.class_scopes.specs.Spelled.{Ident}
use Rattle.class_scopes.specs.Tables.{Numbered, number_of, Declares, IsTableOf}
use Rattle.class_scopes.proofs.Numbers.{old_name, new_name}
use Rattle.flat_instances.specs.declared.item.Item.{Item}
use Rattle.flat_instances.specs.declared.item.Item.TheVariants.{Declared, Own}
use Rattle.flat_instances.specs.Instances.{Item as Kept, Variable}
use Rattle.flat_instances.specs.Kept.{seen, seen_variable}
use Rattle.parameter_values.specs.Values.{is_parameter}
use Rattle.connection_equations.specs.Connections.{pairs, kept_pairs}
use Rattle.instance_sizes.specs.Counts.{named, number_in}
use Rattle.instance_sizes.specs.private.Measures.{free_name}

module _ (text : List ℕ) (classes : List ClassDef) where
  one_more : (v : Variable) (b : Bool) (rest : List Ident) (others : List Variable) → rest ≡ map (λ w. w.name) others
      → (if b then [] else (v.name ∷ [])) ++ rest ≡ map (λ w. w.name) (cond (not b) (v ∷ others) others)
  one_more v true rest others same = same
  one_more v false rest others same = ap (λ z. v.name ∷ z) same

  pub names_all : (items : List Item) → flat_map free_name items ≡ map (λ v. v.name) (named text classes (map (seen text classes) items))
  names_all [] = refl
  names_all (Declared v ∷ items) = one_more (seen_variable text classes v) (is_parameter (seen_variable text classes v)) _ _ (names_all items)
  names_all (Own scope class ∷ items) = names_all items

fewer : {A : Type 0} (p : A → Bool) (xs : List A) → length (filter p xs) ≤ length xs
fewer p [] = omega arith
fewer p (x ∷ xs) = by (p x) (fewer p xs)
  where
    by : (b : Bool) → length (filter p xs) ≤ length xs → length (cond b (x ∷ filter p xs) (filter p xs)) ≤ length (x ∷ xs)
    by true less = omega (arith, less)
    by false less = omega (arith, less)

-- there are no more names than variables
pub names_few : (names : List Ident) (vs : List Variable) → names ≡ map (λ v. v.name) (filter (λ v. not (is_parameter v)) vs) → length names ≤ length vs
names_few names vs are =
    let few = fewer (λ v. not (is_parameter v)) vs in
    let same : length names ≡ length (filter (λ v. not (is_parameter v)) vs) = ap length are ∙ length-map (filter (λ v. not (is_parameter v)) vs) (λ v. v.name) in
    omega (arith, few, same)

-- the numbers of a table of these names are those of the names
pub numbers_in : (text : List ℕ) (classes : List ClassDef) (names : List Ident) (table : Numbered) (all : List Kept) → IsTableOf names table
    → names ≡ map (λ v. v.name) (named text classes all) → number_of table ≡ number_in text classes all
numbers_in text classes names table all tabled are = fun_ext (λ name. tabled name ∙ ap (position_from (bytes_eq name) 0) are)

length_none : {A : Type 0} (xs : List A) → length (xs ++ []) ≡ length xs
length_none [] = refl
length_none (x ∷ xs) = ap suc (length_none xs)

module _ (text : List ℕ) (classes : List ClassDef) (number : Ident → Option ℕ) where
  pub one_item : (item : Item) (items : List Item) → items ≡ item ∷ [] → length (pairs text classes number (map (seen text classes) items)) ≡ length (kept_pairs text classes number item)
  one_item item items is = ap (λ l. length (pairs text classes number (map (seen text classes) l))) is ∙ length_none (kept_pairs text classes number item)

  -- the pairs of items, item by item
  pub pairs_counted : (items : List Item) → sum_by (λ item. length (kept_pairs text classes number item)) items ≡ length (pairs text classes number (map (seen text classes) items))
  pairs_counted [] = refl
  pairs_counted (item ∷ items) =
      let rest = pairs_counted items in
      let whole = sum_by-cons (λ i. length (kept_pairs text classes number i)) item items in
      let parts = length-append (kept_pairs text classes number item) (pairs text classes number (map (seen text classes) items)) in
      omega (arith, rest, whole, parts)

-- a sum that is the most already is the most in the end
pub all_by_now : {A : Type 0} (f : A → ℕ) (xs : List A) (i most total : ℕ) → total ≡ min (sum_by f (take i xs)) most → total ≡ most → total ≡ min (sum_by f xs) most
all_by_now f xs i most total before is =
    let more = sum_by-take-le f xs i in
    omega (arith, before, is, more)

-- the table of one more name
module _ (names : List Ident) (i : ℕ) (x : Ident) (within : i < length names) (is : x ≡ get_or names i x) (table after : Numbered) (before : IsTableOf (take i names) table) where
  taken : take (i + 1) names ≡ take i names ++ x ∷ []
  taken = take_more names i x within ∙ ap (λ y. take i names ++ y ∷ []) (sym is)

  count : length (take i names) ≡ i
  count = length-take-le i names (omega (arith, within))

  by : (b : Bool) → Declares table x (length (take i names)) b after → IsTableOf (take i names ++ x ∷ []) after
  by true told = (new_name (take i names) x table after before told).0
  by false told = (old_name (take i names) x table after before told).0

  -- one more name is declared
  pub table_next : (name : Ident) (added : Bool) → name ≡ x → Declares table name i added after → IsTableOf (take (i + 1) names) after
  table_next name added same told =
      let here : Declares table x i added after = subst (λ n. Declares table n i added after) same told in
      subst (λ n. IsTableOf n after) (sym taken) (by added (subst (λ k. Declares table x k added after) (sym count) here))
