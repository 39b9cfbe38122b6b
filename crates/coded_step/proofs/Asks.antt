-- Keys that are read are asked for.
use Rattle.std.proofs.Common.{◌≡◌, refl, ap, sym, subst, ◌∙◌, ℕ, zero, suc, ◌+◌, ◌<◌, ◌==◌, Bool, true, false, List, [], ◌∷◌, ◌++◌, map, ◌⊎◌, inl, inr, arith}
use Rattle.std.specs.Prelude.{◌||◌}
use Rattle.std.specs.List.{list_any}
use Rattle.std.proofs.lemmas.Bool.{false≢true, eqb-true}
use Rattle.std.proofs.lemmas.List.Folds.{list_any-append}
use Rattle.sync_values.specs.Relation.{rank}
use Rattle.flat_model.specs.declared.expression.Expr.{Expr}
use Rattle.flat_model.specs.declared.clock.ClockExpr.{ClockExpr}
use Rattle.flat_model.specs.declared.clock.ClockExpr.TheOpen.{Expr-F}
use Rattle.flat_model.specs.declared.clock.ClockExpr.TheViews.{roll-Expr}
use Rattle.flat_model.specs.declared.clock.ClockExpr.TheFolds.{ind-Expr, map-Expr}
use Rattle.flat_model.specs.Asks.{Asking, OfNow, OfLast, OfPrevious, Asked, here, is_now, is_last, is_previous, earlier, all_asked, asked_in_level, asked}
use Rattle.flat_model.proofs.Asks.{asked_roll, one_itself}
use Rattle.cell_keys.specs.declared.key.CellKey.{CellKey}
use Rattle.cell_keys.specs.declared.key.CellKey.TheVariants as key
use Rattle.cell_keys.specs.Cells.{same_key}
use Rattle.cell_keys.proofs.Distinct.{same_true}
use Rattle.cell_keys.specs.declared.sight.Sight.{Sight}
use Rattle.cell_keys.specs.declared.sight.Sight.TheVariants.{Now, Left, Far}
use Rattle.part_layout.specs.Reads.{Reading, before, value_keys, previous_keys, last_keys, first_keys, interval_keys, keys_of_all, keys_of_level, keys_read}
use Rattle.part_layout.proofs.Covering.{reading_roll}
use Rattle.part_code.specs.Coded.{Has}

-- what a key tells of what is asked for, seen from a moment
abbrev pub KeyAsks : Asked → Sight → CellKey → Type 0
KeyAsks asks Now (key.Value x) = (0 < asks 0 (OfNow x)) ⊎ ((0 < asks 0 (OfLast x)) ⊎ (0 < asks 0 (OfPrevious x)))
KeyAsks asks Now (key.Previous x) = 0 < asks 0 (OfPrevious x)
KeyAsks asks Now (key.Left x) = 0 < asks 1 (OfNow x)
KeyAsks asks Now (key.LeftLast x) = 0 < asks 1 (OfLast x)
KeyAsks asks Left (key.Value x) = ⊥
KeyAsks asks Left (key.Previous x) = ⊥
KeyAsks asks Left (key.Left x) = 0 < asks 0 (OfNow x)
KeyAsks asks Left (key.LeftLast x) = 0 < asks 0 (OfLast x)
KeyAsks asks Far (key.Value x) = ⊥
KeyAsks asks Far (key.Previous x) = ⊥
KeyAsks asks Far (key.Left x) = ⊥
KeyAsks asks Far (key.LeftLast x) = ⊥
KeyAsks asks sight (key.Constant word) = Unit {0}
KeyAsks asks sight (key.First place) = Unit {0}
KeyAsks asks sight (key.Interval place times) = Unit {0}
KeyAsks asks sight (key.Unfit place times) = Unit {0}

-- what asks for more
more : (a b : Asked) → ((d : ℕ) (q : Asking) → 0 < a d q → 0 < b d q) → (sight : Sight) (k : CellKey) → KeyAsks a sight k → KeyAsks b sight k
more a b up Now (key.Value x) (inl h) = inl (up 0 (OfNow x) h)
more a b up Now (key.Value x) (inr (inl h)) = inr (inl (up 0 (OfLast x) h))
more a b up Now (key.Value x) (inr (inr h)) = inr (inr (up 0 (OfPrevious x) h))
more a b up Now (key.Previous x) h = up 0 (OfPrevious x) h
more a b up Now (key.Left x) h = up 1 (OfNow x) h
more a b up Now (key.LeftLast x) h = up 1 (OfLast x) h
more a b up Now (key.Constant word) h = tt
more a b up Now (key.First place) h = tt
more a b up Now (key.Interval place times) h = tt
more a b up Now (key.Unfit place times) h = tt
more a b up Left (key.Value x) h = h
more a b up Left (key.Previous x) h = h
more a b up Left (key.Left x) h = up 0 (OfNow x) h
more a b up Left (key.LeftLast x) h = up 0 (OfLast x) h
more a b up Left (key.Constant word) h = tt
more a b up Left (key.First place) h = tt
more a b up Left (key.Interval place times) h = tt
more a b up Left (key.Unfit place times) h = tt
more a b up Far (key.Value x) h = h
more a b up Far (key.Previous x) h = h
more a b up Far (key.Left x) h = h
more a b up Far (key.LeftLast x) h = h
more a b up Far (key.Constant word) h = tt
more a b up Far (key.First place) h = tt
more a b up Far (key.Interval place times) h = tt
more a b up Far (key.Unfit place times) h = tt

-- what is asked for in the argument of `sample`
further : (a : Asked) (sight : Sight) (k : CellKey) → KeyAsks a (before sight) k → KeyAsks (earlier a) sight k
further a Now (key.Value x) h = absurd h
further a Now (key.Previous x) h = absurd h
further a Now (key.Left x) h = h
further a Now (key.LeftLast x) h = h
further a Now (key.Constant word) h = tt
further a Now (key.First place) h = tt
further a Now (key.Interval place times) h = tt
further a Now (key.Unfit place times) h = tt
further a Left (key.Value x) h = absurd h
further a Left (key.Previous x) h = absurd h
further a Left (key.Left x) h = absurd h
further a Left (key.LeftLast x) h = absurd h
further a Left (key.Constant word) h = tt
further a Left (key.First place) h = tt
further a Left (key.Interval place times) h = tt
further a Left (key.Unfit place times) h = tt
further a Far (key.Value x) h = absurd h
further a Far (key.Previous x) h = absurd h
further a Far (key.Left x) h = absurd h
further a Far (key.LeftLast x) h = absurd h
further a Far (key.Constant word) h = tt
further a Far (key.First place) h = tt
further a Far (key.Interval place times) h = tt
further a Far (key.Unfit place times) h = tt

either : (a b : Bool) → a || b ≡ true → (a ≡ true) ⊎ (b ≡ true)
either true b h = inl refl
either false b h = inr h

no_key : {A : Type 0} (k : CellKey) → Has [] k → A
no_key k has = absurd (false≢true has)

one_of : (k a : CellKey) → Has (a ∷ []) k → k ≡ a
one_of k a has = by_test (either (same_key k a) false has)
  where
    by_test : (same_key k a ≡ true) ⊎ (false ≡ true) → k ≡ a
    by_test (inl same) = same_true k a same
    by_test (inr none) = absurd (false≢true none)

split : (a b : List CellKey) (k : CellKey) → Has (a ++ b) k → Has a k ⊎ Has b k
split a b k has = either (list_any (same_key k) a) (list_any (same_key k) b) (sym (list_any-append (same_key k) a b) ∙ has)

-- one key that is asked for
of_one : (asks : Asked) (sight : Sight) (a : CellKey) → KeyAsks asks sight a → (k : CellKey) → Has (a ∷ []) k → KeyAsks asks sight k
of_one asks sight a h k has = subst (KeyAsks asks sight) (sym (one_of k a has)) h

value_asked : (sight : Sight) (x : ℕ) (k : CellKey) → Has (value_keys sight x) k → KeyAsks (here (is_now x)) sight k
value_asked Now x k has = of_one (here (is_now x)) Now (key.Value x) (inl (one_itself x)) k has
value_asked Left x k has = of_one (here (is_now x)) Left (key.Left x) (one_itself x) k has
value_asked Far x k has = no_key k has

last_asked : (sight : Sight) (x : ℕ) (k : CellKey) → Has (last_keys sight x) k → KeyAsks (here (is_last x)) sight k
last_asked Now x k has = of_one (here (is_last x)) Now (key.Value x) (inr (inl (one_itself x))) k has
last_asked Left x k has = of_one (here (is_last x)) Left (key.LeftLast x) (one_itself x) k has
last_asked Far x k has = no_key k has

previous_asked : (sight : Sight) (x : ℕ) (k : CellKey) → Has (previous_keys sight x) k → KeyAsks (here (is_previous x)) sight k
previous_asked Now x k has = by_two (either (same_key k (key.Value x)) (list_any (same_key k) (key.Previous x ∷ [])) has)
  where
    by_two : (same_key k (key.Value x) ≡ true) ⊎ Has (key.Previous x ∷ []) k → KeyAsks (here (is_previous x)) Now k
    by_two (inl same) = subst (KeyAsks (here (is_previous x)) Now) (sym (same_true k (key.Value x) same)) (inr (inr (one_itself x)))
    by_two (inr rest) = of_one (here (is_previous x)) Now (key.Previous x) (one_itself x) k rest
previous_asked Left x k has = no_key k has
previous_asked Far x k has = no_key k has

first_asked : (asks : Asked) (sight : Sight) (place : ℕ) (k : CellKey) → Has (first_keys sight place) k → KeyAsks asks sight k
first_asked asks Now place k has = of_one asks Now (key.First place) tt k has
first_asked asks Left place k has = no_key k has
first_asked asks Far place k has = no_key k has

interval_asked : (asks : Asked) (sight : Sight) (place times : ℕ) (k : CellKey) → Has (interval_keys sight place times) k → KeyAsks asks sight k
interval_asked asks Now place times k has = by_two (either (same_key k (key.Interval place times)) (list_any (same_key k) (key.Unfit place times ∷ [])) has)
  where
    by_two : (same_key k (key.Interval place times) ≡ true) ⊎ Has (key.Unfit place times ∷ []) k → KeyAsks asks Now k
    by_two (inl same) = subst (KeyAsks asks Now) (sym (same_true k (key.Interval place times) same)) tt
    by_two (inr rest) = of_one asks Now (key.Unfit place times) tt k rest
interval_asked asks Left place times k has = no_key k has
interval_asked asks Far place times k has = no_key k has

constant_asked : (asks : Asked) (sight : Sight) (k a : CellKey) → ((s : Sight) → KeyAsks asks s a) → Has (a ∷ []) k → KeyAsks asks sight k
constant_asked asks sight k a h has = of_one asks sight a (h sight) k has

abbrev choice_of : Asked → Asked → Asked → Asked
choice_of cs bs other d q = cs d q + bs d q + other d q

abbrev IsAskedFor : Expr → Type 0
IsAskedFor e = (class : ℕ) (sight : Sight) (k : CellKey) → Has (keys_read e class sight) k → KeyAsks (asked e) sight k

module _ {A B : Type 0} (f : A → ClockExpr) (g : B → Expr) (each : (b : B) → IsAskedFor (g b)) (class : ℕ) where
  parts_asked : (sight : Sight) (zs : List B) (k : CellKey) → Has (keys_of_all (map keys_read (map g zs)) class sight) k → KeyAsks (all_asked (map asked (map g zs))) sight k
  parts_asked sight [] k has = no_key k has
  parts_asked sight (z ∷ zs) k has = by_two (split (keys_read (g z) class sight) _ k has) (parts_asked sight zs k)
    where
      by_two : Has (keys_read (g z) class sight) k ⊎ Has (keys_of_all (map keys_read (map g zs)) class sight) k → (Has (keys_of_all (map keys_read (map g zs)) class sight) k → KeyAsks (all_asked (map asked (map g zs))) sight k)
          → KeyAsks (all_asked (map asked (map g (z ∷ zs)))) sight k
      by_two (inl h) rest = more (asked (g z)) (all_asked (map asked (map g (z ∷ zs)))) (λ d q some. omega (arith, some)) sight k (each z class sight k h)
      by_two (inr h) rest = more (all_asked (map asked (map g zs))) (all_asked (map asked (map g (z ∷ zs)))) (λ d q some. omega (arith, some)) sight k (rest h)

  abbrev asked_of : Expr-F A B → Asked
  asked_of y = asked_in_level (map-Expr ClockExpr Expr (Unit {0}) Asked (λ _. tt) asked (map-Expr A B ClockExpr Expr f g y))

  two_asked : (sight : Sight) (p q : B) (k : CellKey) → Has (keys_read (g p) class sight ++ keys_read (g q) class sight) k → KeyAsks (λ d a. asked (g p) d a + asked (g q) d a) sight k
  two_asked sight p q k has = by_two (split (keys_read (g p) class sight) (keys_read (g q) class sight) k has)
    where
      by_two : Has (keys_read (g p) class sight) k ⊎ Has (keys_read (g q) class sight) k → KeyAsks (λ d a. asked (g p) d a + asked (g q) d a) sight k
      by_two (inl h) = more (asked (g p)) (λ d a. asked (g p) d a + asked (g q) d a) (λ d a some. omega (arith, some)) sight k (each p class sight k h)
      by_two (inr h) = more (asked (g q)) (λ d a. asked (g p) d a + asked (g q) d a) (λ d a some. omega (arith, some)) sight k (each q class sight k h)

  choice_asked : (sight : Sight) (cs bs : List B) (other : B) (k : CellKey)
      → Has (keys_of_all (map keys_read (map g cs)) class sight ++ (keys_of_all (map keys_read (map g bs)) class sight ++ keys_read (g other) class sight)) k
      → KeyAsks (choice_of (all_asked (map asked (map g cs))) (all_asked (map asked (map g bs))) (asked (g other))) sight k
  choice_asked sight cs bs other k has = by_three (split (keys_of_all (map keys_read (map g cs)) class sight) _ k has)
    where
      by_two : Has (keys_of_all (map keys_read (map g bs)) class sight) k ⊎ Has (keys_read (g other) class sight) k → KeyAsks (choice_of (all_asked (map asked (map g cs))) (all_asked (map asked (map g bs))) (asked (g other))) sight k
      by_two (inl h) = more (all_asked (map asked (map g bs))) (choice_of (all_asked (map asked (map g cs))) (all_asked (map asked (map g bs))) (asked (g other))) (λ d a some. omega (arith, some)) sight k (parts_asked sight bs k h)
      by_two (inr h) = more (asked (g other)) (choice_of (all_asked (map asked (map g cs))) (all_asked (map asked (map g bs))) (asked (g other))) (λ d a some. omega (arith, some)) sight k (each other class sight k h)

      by_three : Has (keys_of_all (map keys_read (map g cs)) class sight) k ⊎ Has (keys_of_all (map keys_read (map g bs)) class sight ++ keys_read (g other) class sight) k → KeyAsks (choice_of (all_asked (map asked (map g cs))) (all_asked (map asked (map g bs))) (asked (g other))) sight k
      by_three (inl h) = more (all_asked (map asked (map g cs))) (choice_of (all_asked (map asked (map g cs))) (all_asked (map asked (map g bs))) (asked (g other))) (λ d a some. omega (arith, some)) sight k (parts_asked sight cs k h)
      by_three (inr h) = by_two (split (keys_of_all (map keys_read (map g bs)) class sight) (keys_read (g other) class sight) k h)

  level_asked : (y : Expr-F A B) (sight : Sight) (k : CellKey) → Has (keys_of_level (map-Expr ClockExpr Expr (Unit {0}) Reading (λ _. tt) keys_read (map-Expr A B ClockExpr Expr f g y)) class sight) k → KeyAsks (asked_of y) sight k
  level_asked (Expr-F.Const w) sight k has = constant_asked (asked_of (Expr-F.Const w)) sight k (key.Constant (rank w)) always has
    where
      always : (s : Sight) → KeyAsks (asked_of (Expr-F.Const w)) s (key.Constant (rank w))
      always Now = tt
      always Left = tt
      always Far = tt
  level_asked (Expr-F.Read x) sight k has = more (here (is_now x)) (asked_of (Expr-F.Read x)) (λ d q some. some) sight k (value_asked sight x k has)
  level_asked (Expr-F.Chain ps ops) sight k has = parts_asked sight ps k has
  level_asked (Expr-F.Relation rel p q) sight k has = two_asked sight p q k has
  level_asked (Expr-F.Neg p) sight k has = each p class sight k has
  level_asked (Expr-F.Not p) sight k has = each p class sight k has
  level_asked (Expr-F.If cs bs other) sight k has = choice_asked sight cs bs other k has
  level_asked (Expr-F.Apply function ps) sight k has = parts_asked sight ps k has
  level_asked (Expr-F.Previous x) sight k has = previous_asked sight x k has
  level_asked (Expr-F.FirstTick x) sight k has = first_asked (asked_of (Expr-F.FirstTick x)) sight class k has
  level_asked (Expr-F.IntervalTimes x n) sight k has = interval_asked (asked_of (Expr-F.IntervalTimes x n)) sight class n k has
  level_asked (Expr-F.Hold x) sight k has = last_asked sight x k has
  level_asked (Expr-F.«Expr::Convert» conversion x) sight k has = last_asked sight x k has
  level_asked (Expr-F.Sample p clock) sight k has = further (asked (g p)) sight k (each p class (before sight) k has)

  rolled : (y : Expr-F A B) (sight : Sight) (k : CellKey) → Has (keys_read (roll-Expr (map-Expr A B ClockExpr Expr f g y)) class sight) k → KeyAsks (asked (roll-Expr (map-Expr A B ClockExpr Expr f g y))) sight k
  rolled y sight k has =
      let z = map-Expr A B ClockExpr Expr f g y in
      more (asked_of y) (asked (roll-Expr z)) (λ d q some. subst (λ n. 0 < n) (sym (asked_roll z d q)) some) sight k
      (level_asked y sight k (subst (λ ks. Has ks k) (ap (λ h. h class sight) (reading_roll z)) has))

pub keys_asked : (e : Expr) (class : ℕ) (sight : Sight) (k : CellKey) → Has (keys_read e class sight) k → KeyAsks (asked e) sight k
keys_asked = ind-Expr (λ c. Unit {0}) IsAskedFor (λ x y is. tt) (λ x y is. subst (λ z. IsAskedFor (roll-Expr z)) is (λ class. rolled (λ c. c.0) (λ e. e.0) (λ e. e.1) class y))
