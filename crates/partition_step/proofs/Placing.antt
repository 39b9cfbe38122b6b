-- Cells and the places of their names, and uses as they are laid out.
use Rattle.std.proofs.Common.{◌≡◌, refl, ap, ◌∙◌, sym, subst, ℕ, zero, suc, ◌==◌, Bool, true, false, if◌then◌else◌, List, [], ◌∷◌, Option, Some, None, slice_get, eq-eqb, eqb-true, Contains, inl, inr}
use Rattle.std.proofs.lemmas.Option.{none-some, same_Some}
use Rattle.flat_model.specs.Setting.{Setting, class_of_name, class_of_equation, clock_of}
use Rattle.flat_model.specs.Uses.{Use}
use Rattle.moment_theory.specs.Free.{IsReachedBy}
use Rattle.moment_theory.proofs.Members.{member_contains}
use Rattle.tree_step.specs.declared.cell.Cell.{Cell}
use Rattle.tree_step.specs.declared.taking.Entry.{Entry}
use Rattle.tree_step.specs.Cells.{own_cell, cell_from, cell_in}
use Rattle.tree_step.specs.Starts.{use_of, uses_of, IsAmong}
use Rattle.tree_step.proofs.Ready.{among_member}
use Rattle.partition_step.specs.declared.part.ClassKept.{ClassKept}
use Rattle.partition_step.specs.Parts.{IsLaid, names_of, numbers_of, clocks_of}
use Rattle.partition_step.proofs.Lists.{map_at, at_map}

-- ---- one cell

module _ (places : List ℕ) (cells : List Cell) where
  pub own_there : (i x : ℕ) (cell : Cell) → slice_get places x ≡ Some i → slice_get cells i ≡ Some cell → cell.name ≡ x → cell_in places cells x ≡ Some cell
  own_there i x cell placed found named =
      ap (λ o. own_cell x (cell_from cells o)) placed ∙ ap (own_cell x) found ∙ ap (λ b. if b then Some cell else None) (eq-eqb cell.name x named)

  -- a cell that is found for a name is in its place
  pub record IsThere (x : ℕ) (cell : Cell) : Type 0 where
    pub place : ℕ
    pub placed : slice_get places x ≡ Some place
    pub found : slice_get cells place ≡ Some cell
    pub named : cell.name ≡ x

  module _ (x : ℕ) (cell : Cell) (is : cell_in places cells x ≡ Some cell) where
    by_name : (i : ℕ) (c : Cell) → slice_get places x ≡ Some i → slice_get cells i ≡ Some c → (b : Bool) → c.name == x ≡ b → IsThere x cell
    by_name i c placed found true e =
        let same : c ≡ cell = same_Some c cell (sym (own_there i x c placed found (eqb-true c.name x e)) ∙ is) in record {
          place = i;
          placed = placed;
          found = found ∙ ap Some same;
          named = ap (λ d. d.name) (sym same) ∙ eqb-true c.name x e;
        }
    by_name i c placed found false e =
        absurd (none-some cell (sym (ap (λ o. own_cell x (cell_from cells o)) placed ∙ ap (own_cell x) found ∙ ap (λ b. if b then Some c else None) e) ∙ is))

    by_cell : (i : ℕ) → slice_get places x ≡ Some i → (o : Option Cell) → slice_get cells i ≡ o → IsThere x cell
    by_cell i placed None none = absurd (none-some cell (sym (ap (λ o. own_cell x (cell_from cells o)) placed ∙ ap (own_cell x) none) ∙ is))
    by_cell i placed (Some c) found = by_name i c placed found (c.name == x) refl

    by_place : (o : Option ℕ) → slice_get places x ≡ o → IsThere x cell
    by_place None none = absurd (none-some cell (sym (ap (λ o. own_cell x (cell_from cells o)) none) ∙ is))
    by_place (Some i) placed = by_cell i placed (slice_get cells i) refl

    pub there : IsThere x cell
    there = by_place (slice_get places x) refl

-- ---- entries

pub entry_at : (entries : List Entry) (e : Entry) → IsAmong e entries → (i : ℕ) × (slice_get entries i ≡ Some e)
entry_at [] e among = absurd among
entry_at (first ∷ rest) e (inl is) = (0, ap Some is)
entry_at (first ∷ rest) e (inr among) = let (i, found) = entry_at rest e among in (suc i, found)

pub at_among : (entries : List Entry) (i : ℕ) (e : Entry) → slice_get entries i ≡ Some e → IsAmong e entries
at_among [] i e found = absurd (none-some e found)
at_among (first ∷ rest) zero e found = inl (same_Some first e found)
at_among (first ∷ rest) (suc i) e found = inr (at_among rest i e found)

reached_among : (entries : List Entry) (y : ℕ) → IsReachedBy y (uses_of entries) → (e : Entry) × IsAmong e entries × (y ≡ e.name)
reached_among [] y reached = absurd reached
reached_among (first ∷ rest) y (inl is) = (first, inl refl, is)
reached_among (first ∷ rest) y (inr reached) = let (e, among, is) = reached_among rest y reached in (e, inr among, is)

among_reached : (entries : List Entry) (e : Entry) → IsAmong e entries → IsReachedBy e.name (uses_of entries)
among_reached [] e among = absurd among
among_reached (first ∷ rest) e (inl is) = inl (ap (λ z. z.name) (sym is))
among_reached (first ∷ rest) e (inr among) = inr (among_reached rest e among)

-- ---- a layout

module _ (s : Setting) (own : List Use) (places : List ℕ) (entries : List Entry) (cells : List Cell) (classes : List ClassKept) (laid : IsLaid s own places entries (names_of cells) (numbers_of classes) (clocks_of classes)) where
  pub own_among : (e : Entry) → IsAmong e entries → Contains own (use_of e)
  own_among e among = subst (λ us. Contains us (use_of e)) laid.uses_are (member_contains (use_of e) (uses_of entries) (among_member e entries among))

  pub own_reached : (e : Entry) → IsAmong e entries → IsReachedBy e.name own
  own_reached e among = subst (IsReachedBy e.name) laid.uses_are (among_reached entries e among)

  pub entry_of_reached : (y : ℕ) → IsReachedBy y own → (e : Entry) × IsAmong e entries × (y ≡ e.name)
  entry_of_reached y reached = reached_among entries y (subst (IsReachedBy y) (sym laid.uses_are) reached)

  -- the class that is kept of an entry
  pub record ClassOf (e : Entry) : Type 0 where
    pub kept : ClassKept
    pub found : slice_get classes e.clock ≡ Some kept
    pub of_equation : class_of_equation s e.equation ≡ Some kept.class
    pub of_name : class_of_name s e.name ≡ Some kept.class
    pub clock_is : clock_of s (Some kept.class) ≡ Some kept.clock

  -- each class has its clock
  pub clock_kept : (j : ℕ) (kept : ClassKept) → slice_get classes j ≡ Some kept → clock_of s (Some kept.class) ≡ Some kept.clock
  clock_kept j kept found =
      let (clock, clock_found, clock_is) = laid.clocks_are j kept.class (at_map (λ k. k.class) classes j kept found) in
      clock_is ∙ sym clock_found ∙ at_map (λ k. k.clock) classes j kept found

  pub class_of : (e : Entry) → IsAmong e entries → ClassOf e
  class_of e among =
      let (class, class_found, of_equation, of_name) = laid.of_class e among in
      let (kept, found, number) = map_at (λ k. k.class) classes e.clock class class_found in record {
        kept = kept;
        found = found;
        of_equation = of_equation ∙ ap Some (sym number);
        of_name = of_name ∙ ap Some (sym number);
        clock_is = clock_kept e.clock kept found;
      }

  -- the cell of an entry
  pub record CellOf (e : Entry) : Type 0 where
    pub place : ℕ
    pub entry_found : slice_get entries place ≡ Some e
    pub placed : slice_get places e.name ≡ Some place
    pub cell : Cell
    pub found : slice_get cells place ≡ Some cell
    pub named : cell.name ≡ e.name

  pub cell_at_entry : (i : ℕ) (e : Entry) → slice_get entries i ≡ Some e → CellOf e
  cell_at_entry i e at =
      let name_found : slice_get (names_of cells) i ≡ Some e.name = ap (λ ns. slice_get ns i) laid.names_are ∙ at_map (λ d. d.name) entries i e at in
      let (cell, found, named) = map_at (λ c. c.name) cells i e.name name_found in record {
        place = i;
        entry_found = at;
        placed = laid.placed i e.name name_found;
        cell = cell;
        found = found;
        named = named;
      }

  pub cell_of : (e : Entry) → IsAmong e entries → CellOf e
  cell_of e among = let (i, at) = entry_at entries e among in cell_at_entry i e at

  -- the entry of a cell
  pub entry_of_cell : (i : ℕ) (cell : Cell) → slice_get cells i ≡ Some cell → (e : Entry) × (slice_get entries i ≡ Some e) × (cell.name ≡ e.name)
  entry_of_cell i cell found =
      let (e, at, same) = map_at (λ d. d.name) entries i cell.name (sym (ap (λ ns. slice_get ns i) laid.names_are) ∙ at_map (λ c. c.name) cells i cell found) in
      (e, at, sym same)
