-- The parameters without a value that an expression reads.
use Rattle.std.proofs.Common.{◌≡◌, refl, ap, sym, ◌∙◌, subst, ℕ, zero, suc, ◌+◌, ◌<◌, ◌≤◌, Bool, true, false, cond, List, [], ◌∷◌, ◌++◌, length, map, Option, Some, None, option_and_then, is_some, not, ◌&&◌, if◌then◌else◌, Contains, nat_lt, bytes_eq, arith}
use Rattle.std.specs.List.{position_from}
use Rattle.std.proofs.lemmas.Bool.Decides.{nat_tests}
use Rattle.sync_values.specs.declared.value.Value.{Value}
use Rattle.mo_order.specs.Values.{Slots}
use Rattle.mo_parser.specs.declared.tree.ClassDef.{ClassDef}
use Rattle.mo_parser.specs.declared.tree.Path.{Path}
use Rattle.mo_parser.specs.declared.tree.TreeExpr.{TreeExpr}
use Rattle.class_scopes.specs.Spelled.{Ident, idents, dotted, is_time}
use Rattle.class_scopes.specs.Tables.{Numbered, number_of}
use Rattle.class_scopes.proofs.Leasts.{into_all, out_of_all}
use Rattle.scope_names.specs.Written.{names_in}
use Rattle.flat_instances.specs.Instances.{Placed, Variable}
use Rattle.parameter_values.specs.Values.{Values}
use Rattle.parameter_values.specs.Slots.{value_at, seen, IsTableOfParameters}
use Rattle.value_rules.specs.N6 as N6
use Rattle.value_rules.specs.private.Missing.{is_missing, missing_number, missing_read, missing_reads}

one_of : (b : Bool) (n y : ℕ) → Contains (if b then n ∷ [] else []) y → (b ≡ true) × (n ≡ y)
one_of true n y (zero, within, same) = (refl, same)
one_of true n y (suc k, within, same) = absurd (omega (arith, within))
one_of false n y (k, within, same) = absurd (omega (arith, within))

both : (a : Bool) (o : Option Value) → a && not (is_some o) ≡ true → (a ≡ true) × (o ≡ None)
both true None e = (refl, refl)
both true (Some v) e = absurd (cc e)
both false o e = absurd (cc e)

lt_true : (a b : ℕ) → a < b → nat_lt a b ≡ true
lt_true a b less = by (nat_lt a b) refl
  where
    by : (t : Bool) → nat_lt a b ≡ t → nat_lt a b ≡ true
    by true e = e
    by false e = absurd (let more : b ≤ a = grind (arith, nat_tests, e) in omega (arith, more, less))

true_lt : (a b : ℕ) → nat_lt a b ≡ true → a < b
true_lt a b e = grind (arith, nat_tests, e)

position_below : {A : Type 0} (t : A → Bool) (i : ℕ) (xs : List A) (y : ℕ) → position_from t i xs ≡ Some y → y < i + length xs
position_below t i [] y is = absurd (cc is)
position_below t i (x ∷ xs) y is = by (t x) is (position_below t (i + 1) xs y)
  where
    by : (b : Bool) → cond b (Some i) (position_from t (i + 1) xs) ≡ Some y → (position_from t (i + 1) xs ≡ Some y → y < i + 1 + length xs) → y < i + length (x ∷ xs)
    by true is again = let same : i ≡ y = cc is in omega (arith, same)
    by false is again = let below = again is in omega (arith, below)

pub long_map : {A B : Type 0} (f : A → B) (xs : List A) → length (map f xs) ≡ length xs
long_map f [] = refl
long_map f (x ∷ xs) = ap suc (long_map f xs)

module _ (text : List ℕ) (table : Numbered) (slots : Slots) (count : ℕ) where
  -- what a name adds
  pub read_at : (scope : Ident) (path : Path) (y : ℕ) → Contains (missing_read text table slots count scope path) y
      → (is_time (idents text path) ≡ false) × (number_of table (scope ++ dotted (idents text path)) ≡ Some y) × (is_missing slots count y ≡ true)
  read_at scope path y at = by (is_time (idents text path)) refl (number_of table (scope ++ dotted (idents text path))) refl at
    where
      by : (b : Bool) → is_time (idents text path) ≡ b → (n : Option ℕ) → number_of table (scope ++ dotted (idents text path)) ≡ n
          → Contains (if b then [] else missing_number text table slots count n) y
          → (is_time (idents text path) ≡ false) × (number_of table (scope ++ dotted (idents text path)) ≡ Some y) × (is_missing slots count y ≡ true)
      by true t n is at = absurd (omega (arith, at.1))
      by false t None is at = absurd (omega (arith, at.1))
      by false t (Some n) is at =
          let r = one_of (is_missing slots count n) n y at in
          (t, is ∙ ap Some r.1, subst (λ m. is_missing slots count m ≡ true) r.1 r.0)

  pub read_below : (scope : Ident) (expr : TreeExpr) (y : ℕ) → Contains (missing_reads text table slots count scope expr) y → y < count
  read_below scope expr y at =
      let r = out_of_all (missing_read text table slots count scope) (names_in expr) y at in
      let here = read_at scope r.0 y r.2 in
      true_lt y count (both (nat_lt y count) (value_at slots y) here.2).0

module _ (text : List ℕ) (classes : List ClassDef) (all : List Variable) (table : Numbered) (found : Slots) (count : ℕ) (is_table : IsTableOfParameters all table)
    (many : count ≡ length (N6.parameters text classes all)) where
  abbrev values : Values
  values = seen table found

  pub read_misses : (placed : Placed) (y : ℕ) → Contains (missing_reads text table found count placed.scope placed.expr) y → N6.Misses text classes all values placed y
  read_misses placed y at =
      let r = out_of_all (missing_read text table found count placed.scope) (names_in placed.expr) y at in
      let here = read_at text table found count placed.scope r.0 y r.2 in
      let free = (both (nat_lt y count) (value_at found y) here.2).1 in
      record {
        path = r.0;
        written = r.1;
        declared = here.0;
        number = sym (is_table (placed.scope ++ dotted (idents text r.0))) ∙ here.1;
        none = ap (option_and_then (value_at found)) here.1 ∙ free;
      }

  pub misses_read : (placed : Placed) (y : ℕ) → N6.Misses text classes all values placed y → Contains (missing_reads text table found count placed.scope placed.expr) y
  misses_read placed y m =
      let name = placed.scope ++ dotted (idents text m.path) in
      let at : number_of table name ≡ Some y = is_table name ∙ m.number in
      let free : value_at found y ≡ None = sym (ap (option_and_then (value_at found)) at) ∙ m.none in
      let low = position_below (bytes_eq name) 0 (map (λ v. v.name) (N6.parameters text classes all)) y m.number in
      let long = long_map (λ v. v.name) (N6.parameters text classes all) in
      let below : y < count = omega (arith, low, long, many) in
      let missing : is_missing found count y ≡ true = ap (λ b. b && not (is_some (value_at found y))) (lt_true y count below) ∙ ap (λ o. not (is_some o)) free in
      let only : missing_read text table found count placed.scope m.path ≡ y ∷ [] =
      ap (λ b. if b then [] else missing_number text table found count (number_of table name)) m.declared
      ∙ ap (missing_number text table found count) at ∙ ap (λ b. if b then y ∷ [] else []) missing in
      into_all (missing_read text table found count placed.scope) (names_in placed.expr) m.path y m.written (subst (λ l. Contains l y) (sym only) (0, omega arith, refl))
