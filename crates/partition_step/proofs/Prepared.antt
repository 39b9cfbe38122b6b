-- Uses that are laid out are a part that stands before the first moment.
use Rattle.std.proofs.Common.{◌≡◌, refl, ap, ◌∙◌, sym, subst, ℕ, zero, suc, ◌<◌, List, [], ◌∷◌, ◌++◌, length, map, Option, Some, None, slice_get, unwrap_or, Contains, inl, inr, arith}
use Rattle.std.specs.Prelude.{option_map, IfSome}
use Rattle.std.proofs.lemmas.Option.{none-some, same_Some, slice_get-map, slice_get_within, slice_get_past}
use Rattle.flat_model.specs.declared.clock.Clock.TheVariants.{Event}
use Rattle.flat_model.specs.declared.clock.Clocking.{Clocking}
use Rattle.flat_model.specs.declared.equation.Equation.{Equation}
use Rattle.flat_model.specs.declared.model.FlatModel.{FlatModel}
use Rattle.flat_model.specs.declared.model.FlatName.{FlatName}
use Rattle.flat_model.specs.Assignment.{Assignment}
use Rattle.flat_model.specs.Runnable.{IsClassBelow}
use Rattle.flat_model.specs.Setting.{Setting, flattened, class_of_name, class_of_equation, clock_of, partition_of, start_of}
use Rattle.flat_model.specs.Uses as flat
use Rattle.eq_orient.specs.Spine.{IsSpineOf}
use Rattle.eq_order.specs.declared.uses.Use.{Use}
use Rattle.eq_order.specs.Order.{use_of, HasSpine, HaveSpines}
use Rattle.moment_theory.specs.Free.{IsReachedBy, AreFree}
use Rattle.moment_theory.proofs.FromRunnable.{all_at}
use Rattle.moment_theory.proofs.Members.{IsMember, member_contains}
use Rattle.moment_theory.proofs.Pieces.{free_back}
use Rattle.part_code.specs.Coded.{IsCodeOf}
use Rattle.tree_step.specs.declared.cell.Cell.{Cell}
use Rattle.tree_step.specs.declared.taking.Entry.{Entry}
use Rattle.tree_step.specs.Cells.{cell_in}
use Rattle.tree_step.specs.Frames.{now_in}
use Rattle.tree_step.specs.Starts as taking
use Rattle.tree_step.specs.Starts.{IsAmong}
use Rattle.partition_step.specs.declared.part.ClassKept.{ClassKept}
use Rattle.partition_step.specs.declared.part.Part.{Part}
use Rattle.partition_step.specs.Parts.{IsPiece, IsLaid, IsPartOf, KeepsTick, StandsFor, names_of, numbers_of, clocks_of}
use Rattle.partition_step.specs.Prepared.{IsPrepared}
use Rattle.partition_step.specs.private.Laying.{class_in, clock_in, new_class, new_cell, AreLaidOut, AreOnce}
use Rattle.partition_step.proofs.Lists.{lists_same, some_at, none_past, map_at, at_map}
use Rattle.partition_step.proofs.Placing.{there, entry_at}
use Rattle.partition_step.proofs.Reaching.{use_facts, class_is}

-- ---- a free order reaches no name twice

reached_at : (us after : List flat.Use) (i : ℕ) (u : flat.Use) → slice_get us i ≡ Some u → IsReachedBy u.name (us ++ after)
reached_at [] after i u found = absurd (none-some u found)
reached_at (first ∷ us) after zero u found = inl (ap (λ d. d.name) (sym (same_Some first u found)))
reached_at (first ∷ us) after (suc i) u found = inr (reached_at us after i u found)

pub free_once : (s : Setting) (us after : List flat.Use) → AreFree s (us ++ after) → (i j : ℕ) (one other : flat.Use) → slice_get us i ≡ Some one → slice_get us j ≡ Some other → one.name ≡ other.name → i ≡ j
free_once s [] after free i j one other one_at other_at same = absurd (none-some one one_at)
free_once s (first ∷ us) after free zero zero one other one_at other_at same = refl
free_once s (first ∷ us) after free zero (suc j) one other one_at other_at same =
    absurd (free.0.once (subst (λ x. IsReachedBy x (us ++ after)) (sym (ap (λ d. d.name) (same_Some first one one_at) ∙ same)) (reached_at us after j other other_at)))
free_once s (first ∷ us) after free (suc i) zero one other one_at other_at same =
    absurd (free.0.once (subst (λ x. IsReachedBy x (us ++ after)) (same ∙ ap (λ d. d.name) (sym (same_Some first other other_at))) (reached_at us after i one one_at)))
free_once s (first ∷ us) after free (suc i) (suc j) one other one_at other_at same = ap suc (free_once s us after free.1 i j one other one_at other_at same)

-- ---- small facts

spine_at : (equations : List Equation) (own : List Use) (j : ℕ) (taken : Use) → HaveSpines equations own → slice_get own j ≡ Some taken → HasSpine equations taken
spine_at equations [] j taken have found = absurd (none-some taken found)
spine_at equations (first ∷ own) zero taken have found = subst (HasSpine equations) (same_Some first taken found) have.0
spine_at equations (first ∷ own) (suc j) taken have found = spine_at equations own j taken have.1 found

contains_at : (us : List flat.Use) (j : ℕ) (u : flat.Use) → slice_get us j ≡ Some u → Contains us u
contains_at us j u found = member_contains u us (member_at us j u found)
  where
    member_at : (us : List flat.Use) (j : ℕ) (u : flat.Use) → slice_get us j ≡ Some u → IsMember u us
    member_at [] j u found = absurd (none-some u found)
    member_at (first ∷ us) zero u found = inl (same_Some first u found)
    member_at (first ∷ us) (suc j) u found = inr (member_at us j u found)

-- a class that is there
class_some : (s : Setting) (o : Option ℕ) (partition : ℕ) → partition_of s o ≡ Some partition → o ≡ Some (unwrap_or o 0)
class_some s None partition within = absurd (none-some partition within)
class_some s (Some class) partition within = refl

clock_some : (s : Setting) (class : ℕ) → class < length s.clocking.clocks → slice_get s.clocking.clocks class ≡ Some (clock_in s.clocking class)
clock_some s class lt = let (clock, found) = some_at s.clocking.clocks class lt in found ∙ ap (λ o. Some (unwrap_or o (Event 0 1 0))) (sym found)

class_below : (s : Setting) (o : Option (Option ℕ)) (class : ℕ) → ((inner : Option ℕ) → o ≡ Some inner → IsClassBelow (length s.clocking.clocks) inner) → flattened o ≡ Some class → class < length s.clocking.clocks
class_below s None class below found = absurd (none-some class found)
class_below s (Some inner) class below found = subst (IsClassBelow (length s.clocking.clocks)) found (below inner refl)

module _ (own : List Use) (entries : List Entry) (classes : List ClassKept) (cells : List Cell) (places : List ℕ) (s : Setting) (uses before after : List flat.Use) (partition : ℕ) (laid : AreLaidOut s.clocking own (length own) entries classes)
    (cells_are : cells ≡ map (new_cell s.model.names) own) (piece : IsPiece s uses before (map use_of own) after partition) (spines : HaveSpines s.model.equations own)
    (placed : (i : ℕ) (entry : Use) → slice_get own i ≡ Some entry → slice_get places entry.name ≡ Some i) where
  own_has : (j : ℕ) (taken : Use) → slice_get own j ≡ Some taken → Contains (map use_of own) (use_of taken)
  own_has j taken found = contains_at (map use_of own) j (use_of taken) (at_map use_of own j taken found)

  no_entry : (j : ℕ) → slice_get entries j ≡ None → slice_get own j ≡ None
  no_entry j none = slice_get_past own j (let past = none_past entries j none in let size = laid.size in omega (arith, past, size))

  uses_same : (j : ℕ) (o : Option Entry) → slice_get entries j ≡ o → slice_get (taking.uses_of entries) j ≡ slice_get (map use_of own) j
  uses_same j None none = slice_get-map taking.use_of entries j ∙ ap (option_map taking.use_of) none ∙ sym (slice_get-map use_of own j ∙ ap (option_map use_of) (no_entry j none))
  uses_same j (Some entry) some =
      let (taken, found, is, kept) = laid.each j entry some in
      at_map taking.use_of entries j entry some ∙ ap (λ d. Some (taking.use_of d)) is ∙ sym (at_map use_of own j taken found)

  names_same : (j : ℕ) (o : Option Entry) → slice_get entries j ≡ o → slice_get (names_of cells) j ≡ slice_get (map (λ entry. entry.name) entries) j
  names_same j None none =
      ap (λ cs. slice_get (names_of cs) j) cells_are ∙ slice_get-map (λ cell. cell.name) (map (new_cell s.model.names) own) j
      ∙ ap (option_map (λ cell. cell.name)) (slice_get-map (new_cell s.model.names) own j ∙ ap (option_map (new_cell s.model.names)) (no_entry j none))
      ∙ sym (slice_get-map (λ entry. entry.name) entries j ∙ ap (option_map (λ entry. entry.name)) none)
  names_same j (Some entry) some =
      let (taken, found, is, kept) = laid.each j entry some in
      ap (λ cs. slice_get (names_of cs) j) cells_are ∙ at_map (λ cell. cell.name) (map (new_cell s.model.names) own) j (new_cell s.model.names taken) (at_map (new_cell s.model.names) own j taken found)
      ∙ sym (at_map (λ d. d.name) entries j entry some ∙ ap (λ d. Some d.name) is)

  -- a cell is that of a taken
  cell_use : (i : ℕ) (cell : Cell) → slice_get cells i ≡ Some cell → (taken : Use) × (slice_get own i ≡ Some taken) × (new_cell s.model.names taken ≡ cell)
  cell_use i cell found = map_at (new_cell s.model.names) own i cell (ap (λ cs. slice_get cs i) (sym cells_are) ∙ found)

  in_partition : (j : ℕ) (taken : Use) → slice_get own j ≡ Some taken → class_of_equation s taken.equation ≡ Some (class_in s.clocking taken.equation)
  in_partition j taken found = class_some s (class_of_equation s taken.equation) partition (piece.of (use_of taken) (own_has j taken found))

  is_laid : IsLaid s (map use_of own) places entries (names_of cells) (numbers_of classes) (clocks_of classes)
  is_laid = record {
    uses_are = lists_same (taking.uses_of entries) (map use_of own) (λ j. uses_same j (slice_get entries j) refl);
    names_are = lists_same (names_of cells) (map (λ entry. entry.name) entries) (λ j. names_same j (slice_get entries j) refl);
    placed = λ i x found.
        let (cell, cell_found, named) = map_at (λ cell. cell.name) cells i x found in
        let (taken, use_found, is) = cell_use i cell cell_found in
        subst (λ y. slice_get places y ≡ Some i) (ap (λ c. c.name) is ∙ named) (placed i taken use_found);
    spines = λ entry among.
        let (j, at) = entry_at entries entry among in
        let (taken, found, is, kept) = laid.each j entry at in
        let (equation, equation_found, spine) = spine_at s.model.equations own j taken spines found in
        (equation, ap (λ d. slice_get s.model.equations d.equation) is ∙ equation_found, subst (λ d. IsSpineOf d.name equation d.spine.left) (sym is) spine);
    of_class = λ entry among.
        let (j, at) = entry_at entries entry among in
        let (taken, found, is, kept) = laid.each j entry at in
        let of_equation = in_partition j taken found in (
          class_in s.clocking taken.equation,
          at_map (λ k. k.class) classes entry.clock (new_class s.clocking (class_in s.clocking taken.equation)) kept,
          ap (λ d. class_of_equation s d.equation) is ∙ of_equation,
          ap (λ d. class_of_name s d.name) is ∙ class_is s uses before (map use_of own) after partition piece (use_of taken) (own_has j taken found) ∙ of_equation,
        );
    clocks_are = λ j class found.
        let (kept, kept_found, number) = map_at (λ k. k.class) classes j class found in
        let (k, taken, use_found, is) = laid.fresh j kept kept_found in
        let c = class_in s.clocking taken.equation in
        let same : c ≡ class = ap (λ d. d.class) (sym is) ∙ number in
        let below : c < length s.clocking.clocks =
        class_below s (slice_get s.clocking.of_equation taken.equation) c (λ inner inner_found. all_at (IsClassBelow (length s.clocking.clocks)) s.clocking.of_equation taken.equation inner piece.ordered.runs.classes.of_equation inner_found) (in_partition k taken use_found) in
        (clock_in s.clocking c, at_map (λ k. k.clock) classes j kept kept_found ∙ ap (λ d. Some d.clock) is, subst (λ d. clock_of s (Some d) ≡ Some (clock_in s.clocking c)) same (clock_some s c below));
    from_use = λ j class found.
        let (kept, kept_found, number) = map_at (λ k. k.class) classes j class found in
        let (k, taken, use_found, is) = laid.fresh j kept kept_found in
        (use_of taken, own_has k taken use_found, in_partition k taken use_found ∙ ap Some (ap (λ d. d.class) (sym is) ∙ number));
  }

  pub prepared : (part : Part) → part.entries ≡ entries → part.cells.items ≡ cells → part.classes.items ≡ classes → length part.clocks.items ≡ length part.classes.items → IfSome part.code (IsCodeOf s.model.equations s.model.names part.entries)
      → IsPartOf s (map use_of own) places part × ((S : Assignment) → StandsFor s S 0 part)
  prepared part entries_are part_cells part_classes room coded = (
    record {
      laid = subst (λ es. IsLaid s (map use_of own) places es (names_of part.cells.items) (numbers_of part.classes.items) (clocks_of part.classes.items)) (sym entries_are)
          (subst (λ cs. IsLaid s (map use_of own) places entries (names_of cs) (numbers_of part.classes.items) (clocks_of part.classes.items)) (sym part_cells)
          (subst (λ ks. IsLaid s (map use_of own) places entries (names_of cells) (numbers_of ks) (clocks_of ks)) (sym part_classes) is_laid));
      room = room;
      coded = coded;
    },
    λ S. record {
      values = λ i cell found.
          let (taken, use_found, is) = cell_use i cell (ap (λ cs. slice_get cs i) (sym part_cells) ∙ found) in
          ap (λ c. Some (start_of s c.name)) (sym is) ∙ ap (λ c. Some c.kept) is;
      ticks = λ j kept found.
          let (k, taken, use_found, is) = laid.fresh j kept (ap (λ ks. slice_get ks j) (sym part_classes) ∙ found) in
          subst (λ d. KeepsTick s S 0 d) (sym is) tt;
    },
  )

-- ---- the whole

pub prepares : (flat : FlatModel) (clocking : Clocking) (own : List Use) (old new : List ℕ) (part : Part)
    → AreLaidOut clocking own (length own) part.entries part.classes.items → part.cells.items ≡ map (new_cell flat.names) own → length part.clocks.items ≡ length part.classes.items → IfSome part.code (IsCodeOf flat.equations flat.names part.entries)
    → (AreOnce own → (i : ℕ) (entry : Use) → slice_get own i ≡ Some entry → entry.name < length old → slice_get new entry.name ≡ Some i)
    → IsPrepared flat clocking own old new part
prepares flat clocking own old new part laid cells room coded places s uses before after partition from =
    let free = free_back s before (map use_of own ++ after) from.piece.ordered.free in
    let once : AreOnce own = λ i j one other one_at other_at same. free_once s (map use_of own) after free i j (use_of one) (use_of other) (at_map use_of own i one one_at) (at_map use_of own j other other_at) same in
    prepared own part.entries part.classes.items part.cells.items new s uses before after partition
    (subst (λ k. AreLaidOut k own (length own) part.entries part.classes.items) (sym from.clocking_is) laid)
    (subst (λ model. part.cells.items ≡ map (new_cell model.names) own) (sym from.model) cells)
    from.piece from.spines
    (λ i entry found. places once i entry found (
    let facts = use_facts s uses before (map use_of own) after partition from.piece (use_of entry) (own_contains own i entry found) in
    let within = slice_get_within s.model.names entry.name facts.name facts.name_found in
    let wide = from.wide in omega (arith, within, wide)))
    part refl refl refl room (subst (λ model. IfSome part.code (IsCodeOf model.equations model.names part.entries)) (sym from.model) coded)
  where
    own_contains : (own : List Use) (i : ℕ) (entry : Use) → slice_get own i ≡ Some entry → Contains (map use_of own) (use_of entry)
    own_contains own i entry found = contains_at (map use_of own) i (use_of entry) (at_map use_of own i entry found)

-- before the first step no name has a value
pub none_yet : (names : List FlatName) (own : List Use) (places : List ℕ) (cells : List Cell) → cells ≡ map (new_cell names) own → (x : ℕ) → now_in (cell_in places cells x) ≡ None
none_yet names own places cells cells_are x = by_cell (cell_in places cells x) refl
  where
    by_cell : (o : Option Cell) → cell_in places cells x ≡ o → now_in (cell_in places cells x) ≡ None
    by_cell None none = ap now_in none
    by_cell (Some cell) some =
        let at = there places cells x cell some in
        let (taken, found, is) = map_at (new_cell names) own at.place cell (ap (λ cs. slice_get cs at.place) (sym cells_are) ∙ at.found) in
        ap now_in some ∙ ap (λ c. c.now) (sym is)
