-- The keys of equations have cells for each of them, and are whole.
use Rattle.std.proofs.Common.{◌≡◌, refl, ap, sym, subst, ◌∙◌, ℕ, ◌==◌, ◌&&◌, Bool, true, false, List, [], ◌∷◌, ◌++◌, map, Option, Some, IsSome, ◌⊎◌, inl, inr}
use Rattle.std.specs.Prelude.{◌||◌, flat_map}
use Rattle.std.specs.List.{list_all, list_any}
use Rattle.std.specs.Option.{is_some}
use Rattle.std.proofs.lemmas.Bool.{false≢true, eqb-true, eq-eqb}
use Rattle.std.proofs.lemmas.List.Folds.{list_any-append}
use Rattle.flat_model.specs.declared.expression.Expr.{Expr}
use Rattle.flat_model.specs.declared.clock.ClockExpr.{ClockExpr}
use Rattle.flat_model.specs.declared.clock.ClockExpr.TheOpen.{Expr-F}
use Rattle.flat_model.specs.declared.clock.ClockExpr.TheViews.{roll-Expr}
use Rattle.flat_model.specs.declared.clock.ClockExpr.TheFolds.{ind-Expr, map-Expr}
use Rattle.cell_keys.specs.declared.key.CellKey.{CellKey}
use Rattle.cell_keys.specs.declared.key.CellKey.TheVariants as key
use Rattle.cell_keys.specs.Cells.{same_key, cell_of, with_keys, AreWhole}
use Rattle.cell_keys.proofs.Distinct.{same_itself, same_true, has_cell, all_new, from_either}
use Rattle.cell_keys.specs.declared.sight.Sight.{Sight}
use Rattle.cell_keys.specs.declared.sight.Sight.TheVariants.{Now, Left, Far}
use Rattle.part_layout.specs.declared.lines.PartLine.{PartLine}
use Rattle.part_layout.specs.LayoutLaws.{HasAll, IsLaidOutFor, AreLaidOutFor}
use Rattle.part_layout.specs.Reads.{Reading, before, value_keys, previous_keys, last_keys, first_keys, interval_keys, keys_of_all, keys_of_level, keys_read, keys_of_line, keys_of_lines}
use Rattle.part_layout.proofs.Covering.{reading_roll}

-- a key is among others
abbrev Has : List CellKey → CellKey → Type 0
Has keys k = list_any (same_key k) keys ≡ true

either : (a b : Bool) → a || b ≡ true → (a ≡ true) ⊎ (b ≡ true)
either true b h = inl refl
either false b h = inr h

or_left : (a b : Bool) → a ≡ true → a || b ≡ true
or_left true b h = refl
or_left false b h = absurd (false≢true h)

or_right : (a b : Bool) → b ≡ true → a || b ≡ true
or_right true b h = refl
or_right false b h = h

and_both : (a b : Bool) → a ≡ true → b ≡ true → a && b ≡ true
and_both true b h k = k
and_both false b h k = h

in_append : (a b : List CellKey) (k : CellKey) → Has (a ++ b) k → Has a k ⊎ Has b k
in_append a b k has = either (list_any (same_key k) a) (list_any (same_key k) b) (sym (list_any-append (same_key k) a b) ∙ has)

in_first : (a b : List CellKey) (k : CellKey) → Has a k → Has (a ++ b) k
in_first a b k has = list_any-append (same_key k) a b ∙ or_left (list_any (same_key k) a) _ has

in_second : (a b : List CellKey) (k : CellKey) → Has b k → Has (a ++ b) k
in_second a b k has = list_any-append (same_key k) a b ∙ or_right (list_any (same_key k) a) _ has

-- ---- keys go in pairs

record ArePaired (keys : List CellKey) : Type 0 where
  pub previous : (x : ℕ) → Has keys (key.Previous x) → Has keys (key.Value x)
  pub interval : (class times : ℕ) → Has keys (key.Interval class times) → Has keys (key.Unfit class times)

no_keys : ArePaired []
no_keys = record { previous = λ x has. absurd (false≢true has); interval = λ c n has. absurd (false≢true has) }

paired_both : (a b : List CellKey) → ArePaired a → ArePaired b → ArePaired (a ++ b)
paired_both a b of_a of_b = record {
  previous = λ x has. previous x (in_append a b (key.Previous x) has);
  interval = λ c n has. interval c n (in_append a b (key.Interval c n) has);
}
  where
    previous : (x : ℕ) → Has a (key.Previous x) ⊎ Has b (key.Previous x) → Has (a ++ b) (key.Value x)
    previous x (inl has) = in_first a b (key.Value x) (of_a.previous x has)
    previous x (inr has) = in_second a b (key.Value x) (of_b.previous x has)

    interval : (c n : ℕ) → Has a (key.Interval c n) ⊎ Has b (key.Interval c n) → Has (a ++ b) (key.Unfit c n)
    interval c n (inl has) = in_first a b (key.Unfit c n) (of_a.interval c n has)
    interval c n (inr has) = in_second a b (key.Unfit c n) (of_b.interval c n has)

-- one key that is no pair's first
one_key : (k : CellKey) → ((x : ℕ) → same_key (key.Previous x) k ≡ false) → ((c n : ℕ) → same_key (key.Interval c n) k ≡ false) → ArePaired (k ∷ [])
one_key k no_previous no_interval = record {
  previous = λ x has. absurd (false≢true (sym (ap (λ b. b || false) (no_previous x)) ∙ has));
  interval = λ c n has. absurd (false≢true (sym (ap (λ b. b || false) (no_interval c n)) ∙ has));
}

value_paired : (sight : Sight) (x : ℕ) → ArePaired (value_keys sight x)
value_paired Now x = one_key (key.Value x) (λ y. refl) (λ c n. refl)
value_paired Left x = one_key (key.Left x) (λ y. refl) (λ c n. refl)
value_paired Far x = no_keys

last_paired : (sight : Sight) (x : ℕ) → ArePaired (last_keys sight x)
last_paired Now x = one_key (key.Value x) (λ y. refl) (λ c n. refl)
last_paired Left x = one_key (key.LeftLast x) (λ y. refl) (λ c n. refl)
last_paired Far x = no_keys

first_paired : (sight : Sight) (class : ℕ) → ArePaired (first_keys sight class)
first_paired Now class = one_key (key.First class) (λ y. refl) (λ c n. refl)
first_paired Left class = no_keys
first_paired Far class = no_keys

or_false : (b : Bool) → b || false ≡ true → b ≡ true
or_false true h = refl
or_false false h = h

previous_paired : (sight : Sight) (x : ℕ) → ArePaired (previous_keys sight x)
previous_paired Now x = record {
  previous = λ y has. or_left (y == x) _ (or_false (y == x) has);
  interval = λ c n has. absurd (false≢true has);
}
previous_paired Left x = no_keys
previous_paired Far x = no_keys

interval_paired : (sight : Sight) (class times : ℕ) → ArePaired (interval_keys sight class times)
interval_paired Now class times = record {
  previous = λ y has. absurd (false≢true has);
  interval = λ c n has. second (c == class && n == times) has;
}
  where
    second : (b : Bool) → b || false ≡ true → b || false ≡ true
    second b h = h
interval_paired Left class times = no_keys
interval_paired Far class times = no_keys

abbrev IsPaired : Expr → Type 0
IsPaired e = (class : ℕ) (sight : Sight) → ArePaired (keys_read e class sight)

module _ {A B : Type 0} (f : A → ClockExpr) (g : B → Expr) (each : (b : B) → IsPaired (g b)) (class : ℕ) where
  parts_paired : (sight : Sight) (zs : List B) → ArePaired (keys_of_all (map keys_read (map g zs)) class sight)
  parts_paired sight [] = no_keys
  parts_paired sight (z ∷ zs) = paired_both (keys_read (g z) class sight) _ (each z class sight) (parts_paired sight zs)

  level_paired : (y : Expr-F A B) (sight : Sight) → ArePaired (keys_of_level (map-Expr ClockExpr Expr (Unit {0}) Reading (λ _. tt) keys_read (map-Expr A B ClockExpr Expr f g y)) class sight)
  level_paired (Expr-F.Const w) sight = one_key _ (λ y. refl) (λ c n. refl)
  level_paired (Expr-F.Read x) sight = value_paired sight x
  level_paired (Expr-F.Chain ps ops) sight = parts_paired sight ps
  level_paired (Expr-F.Relation rel p q) sight = paired_both (keys_read (g p) class sight) _ (each p class sight) (each q class sight)
  level_paired (Expr-F.Neg p) sight = each p class sight
  level_paired (Expr-F.Not p) sight = each p class sight
  level_paired (Expr-F.If cs bs other) sight =
      paired_both (keys_of_all (map keys_read (map g cs)) class sight) _ (parts_paired sight cs)
      (paired_both (keys_of_all (map keys_read (map g bs)) class sight) _ (parts_paired sight bs) (each other class sight))
  level_paired (Expr-F.Apply function ps) sight = parts_paired sight ps
  level_paired (Expr-F.Previous x) sight = previous_paired sight x
  level_paired (Expr-F.FirstTick x) sight = first_paired sight class
  level_paired (Expr-F.IntervalTimes x k) sight = interval_paired sight class k
  level_paired (Expr-F.Hold x) sight = last_paired sight x
  level_paired (Expr-F.«Expr::Convert» conversion x) sight = last_paired sight x
  level_paired (Expr-F.Sample p clock) sight = each p class (before sight)

  rolled : (y : Expr-F A B) (sight : Sight) → ArePaired (keys_read (roll-Expr (map-Expr A B ClockExpr Expr f g y)) class sight)
  rolled y sight = subst ArePaired (sym (ap (λ h. h class sight) (reading_roll (map-Expr A B ClockExpr Expr f g y)))) (level_paired y sight)

pairs : (e : Expr) → IsPaired e
pairs = ind-Expr (λ c. Unit {0}) IsPaired (λ x y is. tt) (λ x y is. subst (λ z. IsPaired (roll-Expr z)) is (λ class. rolled (λ c. c.0) (λ e. e.0) (λ e. e.1) class y))

lines_paired : (lines : List PartLine) → ArePaired (keys_of_lines lines)
lines_paired [] = no_keys
lines_paired (line ∷ lines) =
    paired_both (keys_of_line line) _ (paired_both (key.Value line.name ∷ []) _ (one_key (key.Value line.name) (λ y. refl) (λ c n. refl)) (pairs line.side.now line.class Now)) (lines_paired lines)

-- ---- all have cells

-- what has a cell among added keys is one of them
from_added : (asked : List CellKey) (k : CellKey) (c : ℕ) → cell_of (with_keys [] asked) k ≡ Some c → Has (with_keys [] asked) k
from_added asked k c is = sym (has_cell (with_keys [] asked) k) ∙ ap is_some is

each_found : (all asked : List CellKey) → ((k : CellKey) → Has asked k → Has all k) → HasAll all asked
each_found all [] found = refl
each_found all (k ∷ asked) found =
    and_both (list_any (same_key k) all) _ (found k (or_left (same_key k k) _ (same_itself k))) (each_found all asked (λ other has. found other (or_right (same_key other k) _ has)))

of_asked : (asked : List CellKey) (k : CellKey) → Has (with_keys [] asked) k → Has asked k
of_asked asked k has = by_place (from_either [] asked (same_key k) has)
  where
    by_place : (false ≡ true) ⊎ Has asked k → Has asked k
    by_place (inl none) = absurd (false≢true none)
    by_place (inr some) = some

whole : (asked : List CellKey) → ArePaired asked → AreWhole (with_keys [] asked)
whole asked paired = record {
  previous = λ x c is. has_cell (with_keys [] asked) (key.Value x) ∙ all_new [] asked (key.Value x) (paired.previous x (of_asked asked (key.Previous x) (from_added asked (key.Previous x) c is)));
  interval = λ class times c is. has_cell (with_keys [] asked) (key.Unfit class times) ∙ all_new [] asked (key.Unfit class times) (paired.interval class times (of_asked asked (key.Interval class times) (from_added asked (key.Interval class times) c is)));
}

lines_laid : (all : List CellKey) (lines : List PartLine) → ((k : CellKey) → Has (keys_of_lines lines) k → Has all k) → AreLaidOutFor all lines
lines_laid all [] found = tt
lines_laid all (line ∷ lines) found = (
  (
    has_cell all (key.Value line.name) ∙ found (key.Value line.name) (in_first (keys_of_line line) _ (key.Value line.name) (or_left (line.name == line.name) _ (eq-eqb line.name line.name refl))),
    each_found all (keys_read line.side.now line.class Now) (λ k has. found k (in_first (keys_of_line line) _ k (or_right (same_key k (key.Value line.name)) _ has))),
  ),
  lines_laid all lines (λ k has. found k (in_second (keys_of_line line) _ k has)),
)

pub all_laid : (lines : List PartLine) → AreLaidOutFor (with_keys [] (keys_of_lines lines)) lines × AreWhole (with_keys [] (keys_of_lines lines))
all_laid lines = (lines_laid (with_keys [] (keys_of_lines lines)) lines (λ k has. all_new [] (keys_of_lines lines) k has), whole (keys_of_lines lines) (lines_paired lines))
