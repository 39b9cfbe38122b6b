-- What was prepared is the code of the entries.
use Rattle.std.proofs.Common.{◌≡◌, refl, ap, ◌∙◌, sym, subst, ℕ, zero, suc, ◌+◌, ◌-◌, ◌<◌, ◌≤◌, ◌^◌, map, take, drop, Bool, true, false, List, [], ◌∷◌, length, get_or, Some, None, slice_get, ◌⊎◌, inl, inr, arith}
use Rattle.std.specs.Prelude.{◌||◌, IsSome}
use Rattle.std.specs.List.{list_any}
use Rattle.std.specs.Option.{is_some}
use Rattle.std.proofs.lemmas.Bool.{false≢true}
use Rattle.std.proofs.lemmas.List.Folds.{list_any-append}
use Rattle.std.proofs.lemmas.Option.{none-some, same_Some, slice_get_within, slice_get-get_or}
use Rattle.flat_model.specs.declared.equation.Equation.{Equation}
use Rattle.flat_model.specs.declared.model.FlatName.{FlatName}
use Rattle.flat_model.specs.Typing.{types_in}
use Rattle.cell_keys.specs.declared.key.CellKey.{CellKey}
use Rattle.cell_keys.specs.declared.key.CellKey.TheVariants.{Value}
use Rattle.cell_keys.specs.declared.sight.Sight.TheVariants.{Now}
use Rattle.cell_keys.specs.Cells.{same_key, cell_of, with_keys, AreWhole}
use Rattle.cell_keys.proofs.Distinct.{same_true, has_cell, from_either}
use Rattle.step_lines.specs.declared.stretch.Line.{Line}
use Rattle.step_code.specs.Code.{Cells, piece_of}
use Rattle.step_code.specs.Lines as plain
use Rattle.step_lines.specs.Stretches.{line_of, lines_of, are_known}
use Rattle.part_layout.specs.declared.lines.PartLine.{PartLine}
use Rattle.part_layout.specs.Keyed.{is_boolean, keyed_cells}
use Rattle.part_layout.specs.LayoutLaws.{HasAll, IsLaidOutFor, AreLaidOutFor}
use Rattle.part_layout.specs.Reads.{keys_read, keys_of_line, keys_of_lines}
use Rattle.part_layout.proofs.Laid.{all_laid}
use Rattle.part_stretches.specs.declared.running.ClassStretch.{ClassStretch}
use Rattle.tree_step.specs.declared.taking.Entry.{Entry}
use Rattle.part_code.specs.declared.coded.Landing.{Landing}
use Rattle.part_code.specs.Coded.{IsSideOf, AreStretchesOf, Has, IsAskedBy, IsLandingOf}
use Rattle.part_code.specs.private.Lines.{IsLineOf, ArePartLines, AreLandedTo, AreCodeLines}
use Rattle.part_code.specs.Uncoded.{HasNoCode, untyped, large}
use Rattle.part_code.specs.private.Refused.{IsRefusedRun}
use Rattle.part_code.specs.private.Stretching.{IsEnd, AreCodedTo}
use Rattle.part_code.proofs.Refusing.{among_at, side_known, unknown_at, with_keys_most, run_within, same_sizes, sides_are, all_needed}
use Rattle.part_code.proofs.Runs.{IsLineFor, at_drop, at_take, map_back, stretches_of}

pub some_at : {A : Type 0} (xs : List A) (i : ℕ) → i < length xs → (x : A) × (slice_get xs i ≡ Some x)
some_at [] i lt = absurd (omega (arith, lt))
some_at (x ∷ xs) zero lt = (x, refl)
some_at (x ∷ xs) (suc i) lt = some_at xs i (omega (arith, lt))

laid_at : (keys : List CellKey) (lines : List PartLine) (j : ℕ) (line : PartLine) → AreLaidOutFor keys lines → slice_get lines j ≡ Some line → IsLaidOutFor keys line
laid_at keys [] j line laid found = absurd (none-some line found)
laid_at keys (first ∷ lines) zero line laid found = subst (IsLaidOutFor keys) (same_Some first line found) laid.0
laid_at keys (first ∷ lines) (suc j) line laid found = laid_at keys lines j line laid.1 found

-- a line whose name has no cell is not laid out
pub not_laid : (keys : List CellKey) (lines : List PartLine) (i : ℕ) (d line : PartLine) → i < length lines → line ≡ get_or lines i d → cell_of keys (Value line.name) ≡ None → AreLaidOutFor keys lines → ⊥
not_laid keys lines i d line lt is none laid = false≢true (subst IsSome none (laid_at keys lines i line laid (slice_get-get_or lines i d lt ∙ ap Some (sym is))).0)

either : (a b : Bool) → a || b ≡ true → (a ≡ true) ⊎ (b ≡ true)
either true b h = inl refl
either false b h = inr h

-- a key of lines is that of one of them
asked_line : (lines : List PartLine) (k : CellKey) → Has (keys_of_lines lines) k → (j : ℕ) × (line : PartLine) × (slice_get lines j ≡ Some line) × ((k ≡ Value line.name) ⊎ Has (keys_read line.side.now line.class Now) k)
asked_line [] k has = absurd (false≢true has)
asked_line (line ∷ lines) k has =
    by_line (either (list_any (same_key k) (keys_of_line line)) (list_any (same_key k) (keys_of_lines lines)) (sym (list_any-append (same_key k) (keys_of_line line) (keys_of_lines lines)) ∙ has)) (asked_line lines k)
  where
    by_own : (same_key k (Value line.name) ≡ true) ⊎ Has (keys_read line.side.now line.class Now) k → (k ≡ Value line.name) ⊎ Has (keys_read line.side.now line.class Now) k
    by_own (inl same) = inl (same_true k (Value line.name) same)
    by_own (inr read) = inr read

    by_line : Has (keys_of_line line) k ⊎ Has (keys_of_lines lines) k → (Has (keys_of_lines lines) k → (j : ℕ) × (other : PartLine) × (slice_get lines j ≡ Some other) × ((k ≡ Value other.name) ⊎ Has (keys_read other.side.now other.class Now) k))
        → (j : ℕ) × (other : PartLine) × (slice_get (line ∷ lines) j ≡ Some other) × ((k ≡ Value other.name) ⊎ Has (keys_read other.side.now other.class Now) k)
    by_line (inl own) rest = (0, line, refl, by_own (either (same_key k (Value line.name)) (list_any (same_key k) (keys_read line.side.now line.class Now)) own))
    by_line (inr others) rest = let (j, other, found, asks) = rest others in (suc j, other, found, asks)

module _ (equations : List Equation) (names : List FlatName) (entries : List Entry) (lines : List PartLine) (keys : List CellKey) (are : ArePartLines equations entries (length entries) lines) (keys_are : keys ≡ with_keys [] (keys_of_lines lines)) where
  pub laid : AreLaidOutFor keys lines
  laid = subst (λ ks. AreLaidOutFor ks lines) (sym keys_are) (all_laid lines).0

  pub whole : AreWhole keys
  whole = subst AreWhole (sym keys_are) (all_laid lines).1

  -- the line at an entry's place is that of the entry
  line_is : (j : ℕ) (e : Entry) (line : PartLine) → slice_get entries j ≡ Some e → slice_get lines j ≡ Some line → IsLineOf equations e line
  line_is j e line e_found found = let (entry, entry_found, is) = are.each j line found in subst (λ d. IsLineOf equations d line) (same_Some entry e (sym entry_found ∙ e_found)) is

  pub asked : (k : CellKey) (c : ℕ) → cell_of keys k ≡ Some c → IsAskedBy equations entries k
  asked k c found = by_place (from_either [] (keys_of_lines lines) (same_key k) (subst (λ ks. Has ks k) keys_are (sym (has_cell keys k) ∙ ap is_some found)))
    where
      by_place : (false ≡ true) ⊎ Has (keys_of_lines lines) k → IsAskedBy equations entries k
      by_place (inl none) = absurd (false≢true none)
      by_place (inr some) =
          let (j, line, line_found, asks) = asked_line lines k some in
          let (entry, entry_found, is) = are.each j line line_found in
          record {
            entry = entry;
            among = among_at entries j entry entry_found;
            side = line.side.now;
            of = is.side;
            asks = elim asks [
              | inl own ↦ inl (own ∙ ap Value is.name)
              | inr read ↦ inr (subst (λ place. Has (keys_read line.side.now place Now) k) is.class read)
            ];
          }

  pub landings_are : (landings : List Landing) → AreLandedTo names keys lines (length lines) landings → (i : ℕ) (entry : Entry) → slice_get entries i ≡ Some entry → (landing : Landing) × (slice_get landings i ≡ Some landing) × IsLandingOf names keys entry landing
  landings_are landings landed i entry found =
      let (landing, landing_found) = some_at landings i (let within = slice_get_within entries i entry found in let a = are.size in let b = landed.size in omega (arith, within, a, b)) in
      let (line, line_found, cell, boolean) = landed.each i landing landing_found in
      let is = line_is i entry line found line_found in
      (landing, landing_found, record { cell = ap (λ x. cell_of keys (Value x)) (sym is.name) ∙ cell; boolean = subst (λ x. landing.boolean ≡ is_boolean (types_in names x)) is.name boolean })

  pub stretches_are : (coded : List Line) → AreCodeLines keys lines (length lines) coded → (stretches : List ClassStretch) → AreCodedTo names keys entries coded (length entries) stretches → AreStretchesOf equations names keys entries stretches
  stretches_are coded given stretches to =
      stretches_of equations names keys entries coded (let a = are.size in let b = given.size in omega (arith, a, b)) each 0 (length entries) stretches refl to
    where
      each : (j : ℕ) (e : Entry) (l : Line) → slice_get entries j ≡ Some e → slice_get coded j ≡ Some l → IsLineFor equations keys 0 e (line_of l)
      each j e l e_found l_found =
          let (line, line_found, cell, name, side) = given.each j l l_found in
          let is = line_is j e line e_found line_found in
          let reads : HasAll keys (keys_read line.side.now line.class Now) = (laid_at keys lines j line laid line_found).1 in
          record {
            side = subst (IsSideOf equations e) (sym side) is.side;
            name = name ∙ is.name;
            cell = ap (λ x. cell_of keys (Value x)) name ∙ cell;
            reads = subst (λ d. HasAll keys (keys_read d e.clock Now)) (sym side) (subst (λ place. HasAll keys (keys_read line.side.now place Now)) is.class reads);
          }

  long : length lines ≡ length entries
  long = are.size

  -- more cells than there are numbers
  pub too_many_keys : 2 ^ 32 ≤ length (with_keys [] (keys_of_lines lines)) → HasNoCode equations names entries
  too_many_keys many = large (
    map (λ line. line.side.now) lines,
    sides_are equations entries lines long line_is,
    let some = with_keys_most [] (keys_of_lines lines) in let all = all_needed equations entries lines long line_is in omega (arith, many, some, all),
  )

  module _ (coded : List Line) (given : AreCodeLines keys lines (length lines) coded) where
    side_is : (j : ℕ) (line : PartLine) (one : Line) → slice_get lines j ≡ Some line → slice_get coded j ≡ Some one → one.side.now ≡ line.side.now
    side_is j line one found one_found = let (other, other_found, cell, name, side) = given.each j one one_found in side ∙ ap (λ l. l.side.now) (same_Some other line (sym other_found ∙ found))

    -- the code of a run of lines is too long
    too_long : (at : Cells) (m n : ℕ) → 2 ^ 32 ≤ length keys + length (plain.lines_code at (length keys) (lines_of (take m (drop n coded)))) → HasNoCode equations names entries
    too_long at m n many = large (
      map (λ line. line.side.now) lines,
      sides_are equations entries lines long line_is,
      let run = run_within at (length keys) coded m n in
          let same = same_sizes lines coded given.size side_is in
          let some = with_keys_most [] (keys_of_lines lines) in
          let own = ap length keys_are in
          let all = all_needed equations entries lines long line_is in
          omega (arith, many, run, same, some, own, all),
    )

    -- the side in a place of a run is not known
    not_known_at : (start end : ℕ) (first : Entry) → slice_get entries start ≡ Some first → IsEnd entries start end → (k : ℕ) (one : Line) → slice_get coded k ≡ Some one → start ≤ k → k < end
        → (piece_of (keyed_cells keys names first.clock) one.side.now).known ≡ false → HasNoCode equations names entries
    not_known_at start end first first_found run k one one_found from to unknown =
        let at = keyed_cells keys names first.clock in
        let (part, part_found, cell, name, side) = given.each k one one_found in
        let (entry, entry_found, is) = are.each k part part_found in
        let clock : entry.clock ≡ first.clock = run.same k first entry first_found from to entry_found in
        let has : HasAll keys (keys_read part.side.now first.clock Now) = subst (λ c. HasAll keys (keys_read part.side.now c Now)) (is.class ∙ clock) (laid_at keys lines k part laid part_found).1 in
        let none : (piece_of at part.side.now).known ≡ false = subst (λ e. (piece_of at e).known ≡ false) side unknown in
        untyped entry (among_at entries k entry entry_found) part.side.now is.side (λ typed. false≢true (sym none ∙ side_known keys names first.clock part.side.now has typed))

    -- a side of a run is not known
    not_known : (start end : ℕ) (first : Entry) → slice_get entries start ≡ Some first → IsEnd entries start end → are_known (keyed_cells keys names first.clock) (lines_of (take (end - start) (drop start coded))) ≡ false → HasNoCode equations names entries
    not_known start end first first_found run none =
        let at = keyed_cells keys names first.clock in
        let (j, line, line_found, unknown) = unknown_at at (lines_of (take (end - start) (drop start coded))) none in
        let (one, one_found, one_is) = map_back line_of (take (end - start) (drop start coded)) j line line_found in
        let (less, one_at) = at_take (drop start coded) (end - start) j one one_found in
        not_known_at start end first first_found run (start + j) one (sym (at_drop coded start j) ∙ one_at) (omega arith) (omega (arith, less)) (subst (λ l. (piece_of at l.side).known ≡ false) (sym one_is) unknown)

    pub no_code : IsRefusedRun names keys entries coded → HasNoCode equations names entries
    no_code run = elim run.refused [
      | inl unknown ↦ not_known run.start run.end run.first run.found run.run unknown
      | inr many ↦ too_long (keyed_cells keys names run.first.clock) (run.end - run.start) run.start many
    ]
