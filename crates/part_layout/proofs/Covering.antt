-- An expression whose keys all have cells has cells for all that it reads.
use Rattle.std.proofs.Common.{◌≡◌, refl, ap, sym, subst, ◌∙◌, ℕ, ◌&&◌, Bool, true, false, List, [], ◌∷◌, ◌++◌, map, Option, Some, None}
use Rattle.std.specs.List.{list_all, list_any}
use Rattle.std.specs.Option.{is_some}
use Rattle.std.proofs.lemmas.Bool.{false≢true}
use Rattle.std.proofs.lemmas.List.Folds.{list_all-append}
use Rattle.sync_values.specs.Relation.{rank}
use Rattle.flat_model.specs.declared.model.FlatName.{FlatName}
use Rattle.flat_model.specs.declared.evaluate.Vantage.{Vantage}
use Rattle.flat_model.specs.declared.evaluate.Vantage.TheVariants as vantage
use Rattle.flat_model.specs.declared.expression.Expr.{Expr}
use Rattle.flat_model.specs.declared.clock.ClockExpr.{ClockExpr}
use Rattle.flat_model.specs.declared.clock.ClockExpr.TheOpen.{Expr-F}
use Rattle.flat_model.specs.declared.clock.ClockExpr.TheViews.{roll-Expr}
use Rattle.flat_model.specs.declared.clock.ClockExpr.TheFolds.{ind-Expr, fold-roll-Expr, map-Expr}
use Rattle.flat_model.specs.Samples.{Standing, all_stand, standing_of_level, may_stand}
use Rattle.cell_keys.specs.declared.key.CellKey.{CellKey}
use Rattle.cell_keys.specs.declared.key.CellKey.TheVariants as key
use Rattle.cell_keys.specs.Cells.{same_key, cell_of}
use Rattle.cell_keys.proofs.Distinct.{has_cell}
use Rattle.cell_keys.specs.declared.sight.Sight.{Sight}
use Rattle.cell_keys.specs.declared.sight.Sight.TheVariants.{Now, Left, Far}
use Rattle.step_code.specs.Code.{Cells, cells_before}
use Rattle.part_layout.specs.Keyed.{keyed_cells}
use Rattle.step_code.specs.Known.{Covering, all_covered, covered_level, covering_of, has_cells}
use Rattle.part_layout.specs.LayoutLaws.{HasAll}
use Rattle.part_layout.specs.Reads.{Reading, keys_of_all, keys_of_level, keys_read}

both : (a b : Bool) → a && b ≡ true → (a ≡ true) × (b ≡ true)
both true b h = (refl, h)
both false b h = absurd (false≢true h)

and_both : (a b : Bool) → a ≡ true → b ≡ true → a && b ≡ true
and_both true b h k = k
and_both false b h k = h

covering_roll : (y : Expr-F ClockExpr Expr) → covering_of (roll-Expr y) ≡ covered_level (map-Expr ClockExpr Expr (Unit {0}) Covering (λ _. tt) covering_of y)
unfolding covering_of
covering_roll y = fold-roll-Expr (Unit {0}) Covering (λ _. tt) covered_level y

pub reading_roll : (y : Expr-F ClockExpr Expr) → keys_read (roll-Expr y) ≡ keys_of_level (map-Expr ClockExpr Expr (Unit {0}) Reading (λ _. tt) keys_read y)
unfolding keys_read
reading_roll y = fold-roll-Expr (Unit {0}) Reading (λ _. tt) keys_of_level y

standing_roll : (y : Expr-F ClockExpr Expr) → may_stand (roll-Expr y) ≡ standing_of_level (map-Expr ClockExpr Expr (Unit {0}) Standing (λ _. tt) may_stand y)
unfolding may_stand
standing_roll y = fold-roll-Expr (Unit {0}) Standing (λ _. tt) standing_of_level y

module _ (keys : List CellKey) (names : List FlatName) (class : ℕ) where
  abbrev at : Cells
  at = keyed_cells keys names class

  abbrev sight_of : Vantage → Sight
  sight_of vantage.Now = Now
  sight_of vantage.Left = Left

  abbrev cells_at : Vantage → Cells
  cells_at vantage.Now = at
  cells_at vantage.Left = cells_before at

  abbrev IsCovered : Expr → Type 0
  IsCovered e = (v : Vantage) → may_stand e v ≡ true → HasAll keys (keys_read e class (sight_of v)) → has_cells (cells_at v) e ≡ true

  one_cell : (k : CellKey) (more : List CellKey) → HasAll keys (k ∷ more) → is_some (cell_of keys k) ≡ true
  one_cell k more all = has_cell keys k ∙ (both (list_any (same_key k) keys) _ all).0

  module _ {A B : Type 0} (f : A → ClockExpr) (g : B → Expr) (each : (b : B) → IsCovered (g b)) where
    split : (a b : List CellKey) → HasAll keys (a ++ b) → HasAll keys a × HasAll keys b
    split a b all = both (list_all (λ k. list_any (same_key k) keys) a) _ (sym (list_all-append (λ k. list_any (same_key k) keys) a b) ∙ all)

    parts_covered : (v : Vantage) (zs : List B) → all_stand v (map may_stand (map g zs)) ≡ true → HasAll keys (keys_of_all (map keys_read (map g zs)) class (sight_of v)) → all_covered (cells_at v) (map covering_of (map g zs)) ≡ true
    parts_covered v [] stand all = refl
    parts_covered v (z ∷ zs) stand all =
        let s = both (may_stand (g z) v) _ stand in
        let a = split (keys_read (g z) class (sight_of v)) _ all in
        and_both (has_cells (cells_at v) (g z)) _ (each z v s.0 a.0) (parts_covered v zs s.1 a.1)

    level_covered : (y : Expr-F A B) (v : Vantage)
        → standing_of_level (map-Expr ClockExpr Expr (Unit {0}) Standing (λ _. tt) may_stand (map-Expr A B ClockExpr Expr f g y)) v ≡ true
        → HasAll keys (keys_of_level (map-Expr ClockExpr Expr (Unit {0}) Reading (λ _. tt) keys_read (map-Expr A B ClockExpr Expr f g y)) class (sight_of v))
        → covered_level (map-Expr ClockExpr Expr (Unit {0}) Covering (λ _. tt) covering_of (map-Expr A B ClockExpr Expr f g y)) (cells_at v) ≡ true
    level_covered (Expr-F.Const w) vantage.Now stand all = one_cell (key.Constant (rank w)) [] all
    level_covered (Expr-F.Const w) vantage.Left stand all = one_cell (key.Constant (rank w)) [] all
    level_covered (Expr-F.Read x) vantage.Now stand all = one_cell (key.Value x) [] all
    level_covered (Expr-F.Read x) vantage.Left stand all = one_cell (key.Left x) [] all
    level_covered (Expr-F.Chain ps ops) v stand all = parts_covered v ps stand all
    level_covered (Expr-F.Relation rel p q) v stand all =
        let s = both (may_stand (g p) v) _ stand in
        let a = split (keys_read (g p) class (sight_of v)) _ all in
        and_both (has_cells (cells_at v) (g p)) _ (each p v s.0 a.0) (each q v s.1 a.1)
    level_covered (Expr-F.Neg p) v stand all = each p v stand all
    level_covered (Expr-F.Not p) v stand all = each p v stand all
    level_covered (Expr-F.If cs bs other) v stand all =
        let s = both (all_stand v (map may_stand (map g cs)) && all_stand v (map may_stand (map g bs))) _ stand in
        let t = both (all_stand v (map may_stand (map g cs))) _ s.0 in
        let a = split (keys_of_all (map keys_read (map g cs)) class (sight_of v)) _ all in
        let b = split (keys_of_all (map keys_read (map g bs)) class (sight_of v)) _ a.1 in
        and_both (all_covered (cells_at v) (map covering_of (map g cs))) _ (parts_covered v cs t.0 a.0)
        (and_both (all_covered (cells_at v) (map covering_of (map g bs))) _ (parts_covered v bs t.1 b.0) (each other v s.1 b.1))
    level_covered (Expr-F.Apply function ps) v stand all = parts_covered v ps stand all
    level_covered (Expr-F.Previous x) vantage.Now stand all = one_cell (key.Previous x) [] (both (list_any (same_key (key.Value x)) keys) _ all).1
    level_covered (Expr-F.Previous x) vantage.Left stand all = absurd (false≢true stand)
    level_covered (Expr-F.FirstTick x) vantage.Now stand all = one_cell (key.First class) [] all
    level_covered (Expr-F.FirstTick x) vantage.Left stand all = absurd (false≢true stand)
    level_covered (Expr-F.IntervalTimes x k) vantage.Now stand all = one_cell (key.Interval class k) (key.Unfit class k ∷ []) all
    level_covered (Expr-F.IntervalTimes x k) vantage.Left stand all = absurd (false≢true stand)
    level_covered (Expr-F.Hold x) vantage.Now stand all = one_cell (key.Value x) [] all
    level_covered (Expr-F.Hold x) vantage.Left stand all = one_cell (key.LeftLast x) [] all
    level_covered (Expr-F.«Expr::Convert» conversion x) vantage.Now stand all = one_cell (key.Value x) [] all
    level_covered (Expr-F.«Expr::Convert» conversion x) vantage.Left stand all = absurd (false≢true stand)
    level_covered (Expr-F.Sample p clock) vantage.Now stand all = each p vantage.Left stand all
    level_covered (Expr-F.Sample p clock) vantage.Left stand all = absurd (false≢true stand)

    rolled : (y : Expr-F A B) → IsCovered (roll-Expr (map-Expr A B ClockExpr Expr f g y))
    rolled y v stand all =
        let z = map-Expr A B ClockExpr Expr f g y in
        ap (λ h. h (cells_at v)) (covering_roll z)
        ∙ level_covered y v (sym (ap (λ h. h v) (standing_roll z)) ∙ stand) (subst (HasAll keys) (ap (λ h. h class (sight_of v)) (reading_roll z)) all)

  covers : (e : Expr) → IsCovered e
  covers = ind-Expr (λ c. Unit {0}) IsCovered (λ x y is. tt) (λ x y is. subst (λ z. IsCovered (roll-Expr z)) is (rolled (λ c. c.0) (λ e. e.0) (λ e. e.1) y))

  pub covered : (e : Expr) → may_stand e vantage.Now ≡ true → HasAll keys (keys_read e class Now) → has_cells at e ≡ true
  covered e stand all = covers e vantage.Now stand all
