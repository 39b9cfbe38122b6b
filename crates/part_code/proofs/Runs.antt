-- Stretches one behind the other.
use Rattle.std.proofs.Common.{◌≡◌, refl, ap, ◌∙◌, sym, subst, ℕ, zero, suc, ◌+◌, ◌-◌, ◌<◌, ◌≤◌, List, [], ◌∷◌, ◌++◌, length, take, drop, map, get_or, Some, None, slice_get, inl, inr, arith}
use Rattle.std.specs.Prelude.{All}
use Rattle.std.proofs.lemmas.Bool.{cases_eq}
use Rattle.std.proofs.lemmas.List.{take-append-drop, drop_all}
use Rattle.std.proofs.lemmas.Option.{none-some, same_Some, slice_get-get_or}
use Rattle.flat_model.specs.declared.equation.Equation.{Equation}
use Rattle.flat_model.specs.declared.model.FlatName.{FlatName}
use Rattle.cell_keys.specs.declared.key.CellKey.{CellKey}
use Rattle.cell_keys.specs.declared.key.CellKey.TheVariants.{Value}
use Rattle.cell_keys.specs.declared.sight.Sight.TheVariants.{Now}
use Rattle.cell_keys.specs.Cells.{cell_of}
use Rattle.step_code.specs.declared.machine.Instr.{Instr}
use Rattle.step_code.specs.Machine.{IsWithin, AreWithin}
use Rattle.step_code.specs.Lines as plain
use Rattle.step_lines.specs.declared.stretch.Line.{Line}
use Rattle.step_lines.specs.Stretches.{line_of, lines_of}
use Rattle.part_layout.specs.LayoutLaws.{HasAll, AreLaid}
use Rattle.part_layout.specs.Reads.{keys_read}
use Rattle.part_stretches.specs.declared.running.ClassStretch.{ClassStretch}
use Rattle.part_stretches.specs.Running.{IsRunWithin}
use Rattle.tree_step.specs.declared.taking.Entry.{Entry}
use Rattle.part_code.specs.Coded.{IsSideOf, AreLinesFor, AreStretchesOf}
use Rattle.part_code.specs.private.Stretching.{IsEnd, IsCodedRun, AreCodedFrom}

-- ---- the end of a run

pub end_first : (entries : List Entry) (start : ℕ) → start < length entries → IsEnd entries start (start + 1)
end_first entries start lt = record {
  more = omega arith;
  within = omega (arith, lt);
  same = λ j first entry first_found le less found.
      let here : j ≡ start = omega (arith, le, less) in
      ap (λ e. e.clock) (same_Some entry first (sym found ∙ ap (slice_get entries) here ∙ first_found));
}

pub end_next : (entries : List Entry) (start end : ℕ) (d e : Entry) → IsEnd entries start end → end < length entries → start < length entries → (get_or entries end e).clock ≡ (get_or entries start d).clock → IsEnd entries start (end + 1)
end_next entries start end d e is lt start_lt same = record {
  more = let more = is.more in omega (arith, more);
  within = omega (arith, lt);
  same = λ j first entry first_found le less found. elim (cases_eq j end) [
    | inl here ↦
        let entry_is : entry ≡ get_or entries end e = same_Some entry (get_or entries end e) (sym found ∙ ap (slice_get entries) here ∙ slice_get-get_or entries end e lt) in
        let first_is : first ≡ get_or entries start d = same_Some first (get_or entries start d) (sym first_found ∙ slice_get-get_or entries start d start_lt) in
        ap (λ z. z.clock) entry_is ∙ same ∙ ap (λ z. z.clock) (sym first_is)
    | inr other ↦ is.same j first entry first_found le (omega (arith, less, other)) found
  ];
}

-- ---- one more stretch

pub coded_push : (names : List FlatName) (keys : List CellKey) (entries : List Entry) (lines : List Line) (start mid end : ℕ) (xs : List ClassStretch) (one : ClassStretch) → AreCodedFrom names keys entries lines start mid xs
    → IsCodedRun names keys entries lines mid end one → AreCodedFrom names keys entries lines start end (xs ++ one ∷ [])
coded_push names keys entries lines start mid end [] one same run = (end, subst (λ k. IsCodedRun names keys entries lines k end one) (sym same) run, refl)
coded_push names keys entries lines start mid end (x ∷ xs) one (next, is, rest) run = (next, is, coded_push names keys entries lines next mid end xs one rest run)

-- ---- lists in pieces

pub at_drop : {A : Type 0} (xs : List A) (i j : ℕ) → slice_get (drop i xs) j ≡ slice_get xs (i + j)
at_drop xs zero j = ap (slice_get xs) (let e : j ≡ 0 + j = omega arith in e)
at_drop [] (suc i) j = refl
at_drop (x ∷ xs) (suc i) j = at_drop xs i j ∙ sym (ap (slice_get (x ∷ xs)) (let e : suc i + j ≡ suc (i + j) = omega arith in e))

pub at_take : {A : Type 0} (xs : List A) (n j : ℕ) (x : A) → slice_get (take n xs) j ≡ Some x → (j < n) × (slice_get xs j ≡ Some x)
at_take xs zero j x found = absurd (none-some x (sym (none xs j) ∙ found))
  where
    none : {A : Type 0} (xs : List A) (j : ℕ) → slice_get (take 0 xs) j ≡ None
    none [] j = refl
    none (y ∷ ys) j = refl
at_take [] (suc n) j x found = absurd (none-some x found)
at_take (y ∷ xs) (suc n) zero x found = (omega arith, found)
at_take (y ∷ xs) (suc n) (suc j) x found = let (lt, at) = at_take xs n j x found in (omega (arith, lt), at)

nil : {A : Type 0} (n : ℕ) → drop n (let none : List A = [] in none) ≡ []
nil zero = refl
nil (suc n) = refl

drop_drop : {A : Type 0} (xs : List A) (i n : ℕ) → drop n (drop i xs) ≡ drop (i + n) xs
drop_drop xs zero n = ap (λ k. drop k xs) (let e : n ≡ 0 + n = omega arith in e)
drop_drop [] (suc i) n = nil n ∙ sym (nil (suc i + n))
drop_drop (x ∷ xs) (suc i) n = drop_drop xs i n ∙ sym (ap (λ k. drop k (x ∷ xs)) (let e : suc i + n ≡ suc (i + n) = omega arith in e))

drop_head : {A : Type 0} (xs : List A) (i : ℕ) (x : A) → slice_get xs i ≡ Some x → drop i xs ≡ x ∷ drop (suc i) xs
drop_head [] i x found = absurd (none-some x found)
drop_head (y ∷ xs) zero x found = ap (λ z. z ∷ xs) (same_Some y x found)
drop_head (y ∷ xs) (suc i) x found = drop_head xs i x found

length_take : {A : Type 0} (xs : List A) (n : ℕ) → n ≤ length xs → length (take n xs) ≡ n
length_take xs zero le = none xs
  where
    none : {A : Type 0} (xs : List A) → length (take 0 xs) ≡ 0
    none [] = refl
    none (y ∷ ys) = refl
length_take [] (suc n) le = absurd (omega (arith, le))
length_take (x ∷ xs) (suc n) le = ap suc (length_take xs n (omega (arith, le)))

length_map : {A B : Type 0} (f : A → B) (xs : List A) → length (map f xs) ≡ length xs
length_map f [] = refl
length_map f (x ∷ xs) = ap suc (length_map f xs)

length_drop : {A : Type 0} (xs : List A) (n : ℕ) → length (drop n xs) ≡ length xs - n
length_drop xs zero = omega arith
length_drop [] (suc n) = omega arith
length_drop (x ∷ xs) (suc n) = let rest = length_drop xs n in omega (arith, rest)

pub map_back : {A B : Type 0} (f : A → B) (xs : List A) (j : ℕ) (y : B) → slice_get (map f xs) j ≡ Some y → (x : A) × (slice_get xs j ≡ Some x) × (f x ≡ y)
map_back f [] j y found = absurd (none-some y found)
map_back f (x ∷ xs) zero y found = (x, refl, same_Some (f x) y found)
map_back f (x ∷ xs) (suc j) y found = map_back f xs j y found

-- ---- lines of a run

module _ (equations : List Equation) (keys : List CellKey) (place : ℕ) where
  -- a line with its cell is that of an entry, and what its side reads has cells
  pub record IsLineFor (entry : Entry) (line : plain.Line) : Type 0 where
    pub side : IsSideOf equations entry line.side
    pub name : line.name ≡ entry.name
    pub cell : cell_of keys (Value line.name) ≡ Some line.cell
    pub reads : HasAll keys (keys_read line.side entry.clock Now)

  lines_are : (es : List Entry) (ls : List plain.Line) → length es ≡ length ls → ((j : ℕ) (e : Entry) (l : plain.Line) → slice_get es j ≡ Some e → slice_get ls j ≡ Some l → IsLineFor e l × (e.clock ≡ place)) → AreLinesFor equations place es ls × AreLaid keys place ls
  lines_are [] [] size each = (tt, tt)
  lines_are [] (l ∷ ls) size each = absurd (omega (arith, size))
  lines_are (e ∷ es) [] size each = absurd (omega (arith, size))
  lines_are (e ∷ es) (l ∷ ls) size each =
      let (is, clock) = each 0 e l refl refl in
      let rest = lines_are es ls (omega (arith, size)) (λ j. each (suc j)) in (
        ((is.side, is.name, clock), rest.0),
        ((is.cell, subst (λ k. HasAll keys (keys_read l.side k Now)) clock is.reads), rest.1),
      )

module _ (equations : List Equation) (names : List FlatName) (keys : List CellKey) (entries : List Entry) (lines : List Line) (long : length lines ≡ length entries)
    (each : (j : ℕ) (e : Entry) (l : Line) → slice_get entries j ≡ Some e → slice_get lines j ≡ Some l → IsLineFor equations keys 0 e (line_of l)) where
  run_lines : (start end : ℕ) (one : ClassStretch) → IsCodedRun names keys entries lines start end one → (j : ℕ) (e : Entry) (l : plain.Line) → slice_get (take (end - start) (drop start entries)) j ≡ Some e → slice_get (lines_of (take (end - start) (drop start lines))) j ≡ Some l
      → IsLineFor equations keys one.class e l × (e.clock ≡ one.class)
  run_lines start end one run j e l e_found l_found =
      let (less, e_at) = at_take (drop start entries) (end - start) j e e_found in
      let (given, given_found, given_is) = map_back line_of (take (end - start) (drop start lines)) j l l_found in
      let (also, l_at) = at_take (drop start lines) (end - start) j given given_found in
      let e_there : slice_get entries (start + j) ≡ Some e = sym (at_drop entries start j) ∙ e_at in
      let is = each (start + j) e given e_there (sym (at_drop lines start j) ∙ l_at) in
      let clock : e.clock ≡ one.class = run.run.same (start + j) run.first e run.found (omega arith) (omega (arith, less)) e_there ∙ sym run.class in
      (subst (IsLineFor equations keys one.class e) given_is (record { side = is.side; name = is.name; cell = is.cell; reads = is.reads }), clock)

  pub stretches_of : (start end : ℕ) (xs : List ClassStretch) → end ≡ length entries → AreCodedFrom names keys entries lines start end xs → AreStretchesOf equations names keys (drop start entries) xs
  stretches_of start end [] all same = drop_all start entries (omega (arith, same, all))
  stretches_of start end (one ∷ rest) all (mid, run, others) =
      let more = run.run.more in
      let within = run.run.within in
      let n : ℕ = mid - suc start in
      let head : drop start entries ≡ run.first ∷ drop (suc start) entries = drop_head entries start run.first run.found in
      let split : drop (suc start) entries ≡ take n (drop (suc start) entries) ++ drop mid entries =
      sym (take-append-drop n (drop (suc start) entries)) ∙ ap (λ ys. take n (drop (suc start) entries) ++ ys) (drop_drop entries (suc start) n ∙ ap (λ k. drop k entries) (let e : suc start + n ≡ mid = omega (arith, more) in e)) in
      let piece : take (mid - start) (drop start entries) ≡ run.first ∷ take n (drop (suc start) entries) =
      ap (take (mid - start)) head ∙ ap (λ k. take k (run.first ∷ drop (suc start) entries)) (let e : mid - start ≡ suc n = omega (arith, more) in e) in
      let size_e = length_take (drop start entries) (mid - start) (let d = length_drop entries start in omega (arith, within, more, d)) in
      let size_l = length_map line_of (take (mid - start) (drop start lines)) ∙ length_take (drop start lines) (mid - start) (let d = length_drop lines start in omega (arith, within, more, d, long)) in
      let both = lines_are equations keys one.class (take (mid - start) (drop start entries)) (lines_of (take (mid - start) (drop start lines))) (size_e ∙ sym size_l) (run_lines start mid one run) in (
        run.first,
        take n (drop (suc start) entries),
        drop mid entries,
        head ∙ ap (λ es. run.first ∷ es) split,
        record {
          lines = lines_of (take (mid - start) (drop start lines));
          are = subst (λ es. AreLinesFor equations one.class es (lines_of (take (mid - start) (drop start lines)))) piece both.0;
          laid = both.1;
          stretch = run.stretch;
        },
        stretches_of mid end rest all others,
      )

-- ---- room

pub record AreWithinTo (stretches : List ClassStretch) (i count : ℕ) : Type 0 where
  pub each : (j : ℕ) (one : ClassStretch) → j < i → slice_get stretches j ≡ Some one → IsRunWithin count one

pub within_first : (stretches : List ClassStretch) (count : ℕ) → AreWithinTo stretches 0 count
within_first stretches count = record { each = λ j one lt found. absurd (omega (arith, lt)) }

more_one : (n m : ℕ) → n ≤ m → (i : Instr) → IsWithin n i → IsWithin m i
more_one n m le i is = record {
  left = let lt = is.left in omega (arith, le, lt);
  right = let lt = is.right in omega (arith, le, lt);
  to = λ writes. let lt = is.to writes in omega (arith, le, lt);
}

more_within : (n m : ℕ) → n ≤ m → (code : List Instr) → AreWithin n code → AreWithin m code
more_within n m le [] within = tt
more_within n m le (i ∷ code) within = (more_one n m le i within.0, more_within n m le code within.1)

pub within_next : (stretches : List ClassStretch) (i count more : ℕ) (d one : ClassStretch) → AreWithinTo stretches i count → i < length stretches → one ≡ get_or stretches i d → count ≤ more → IsRunWithin more one → AreWithinTo stretches (i + 1) more
within_next stretches i count more d one to lt is le own = record {
  each = λ j other less found. elim (cases_eq j i) [
    | inl here ↦ subst (IsRunWithin more) (is ∙ sym (same_Some other (get_or stretches i d) (sym found ∙ ap (slice_get stretches) here ∙ slice_get-get_or stretches i d lt))) own
    | inr there ↦ more_within count more le other.stretch.code.items (to.each j other (omega (arith, less, there)) found)
  ];
}

pub within_all : (stretches : List ClassStretch) (i count : ℕ) → AreWithinTo stretches i count → length stretches ≤ i → All (IsRunWithin count) stretches
within_all stretches i count to all = λ k d lt. to.each k (get_or stretches k d) (omega (arith, lt, all)) (slice_get-get_or stretches k d lt)
