-- The code of several equations gives their values, up to the first that fails.
use Rattle.std.proofs.Common.{◌≡◌, refl, ap, ◌∙◌, sym, subst, ℕ, zero, suc, ◌+◌, ◌<◌, ◌==◌, ℤ, Bool, true, false, if◌then◌else◌, List, [], ◌∷◌, ◌++◌, length, Option, Some, None, arith}
use Rattle.std.proofs.lemmas.Bool.{eqb-true}
use Rattle.sync_values.specs.Relation.{rank}
use Rattle.sync_values.specs.declared.value.Value.{Value}
use Rattle.flat_model.specs.Operators.{Answer, Is, Fails, Absent}
use Rattle.flat_model.specs.Views.{Views}
use Rattle.flat_model.specs.Meaning.{whole_of, value_of}
use Rattle.sync_values.specs.Arithmetic.{fitted}
use Rattle.sync_values.specs.declared.value.Value.TheVariants as value
use Rattle.step_code.specs.declared.machine.Instr.{Instr}
use Rattle.step_code.specs.Machine.{word_at, ran, AreWithin}
use Rattle.step_code.specs.Code.{Cells, piece_of}
use Rattle.step_code.specs.Correct.{IsTruth, IsHeld, Stands, AreTruths, IsKept, Gives}
use Rattle.step_code.specs.Lines.{Line, lines_code, given, Ended, All, Failed, Missing, ended_by, lines_end, Holds, AreApart, IsNewTo, IsLine, AreLines, RunsAs}
use Rattle.step_code.proofs.Runs.{stopped_within}
use Rattle.step_code.proofs.Giving.{stands_kept, within_front, within_back, within_kept}
use Rattle.step_code.proofs.Compiled.{code_right, code_gives}

module _ (at : Cells) (t : ℕ) (apart : AreApart at) where
  none_some : (v : Value) → None ≡ Some v → ⊥
  none_some v e = cc

  -- cells that stand for the views, for an equation whose name has no value yet
  now_held : (cells : List ℤ) (views : Views) (l : Line) → IsLine at t l → (views 0).now l.name ≡ None → Holds at cells t views → (k x c : ℕ) (v : Value) → (at k).now x ≡ Some c → (views k).now x ≡ Some v → IsHeld cells l.cell t c v
  now_held cells views l line new holds zero x c v is has =
      let h = holds.now 0 x c v is has in
      record { below = h.0; other = λ e. none_some v (sym new ∙ ap (λ y. (views 0).now y) (sym (apart.now x l.name c is (line.cell ∙ ap Some (sym e)))) ∙ has); word = h.1 }
  now_held cells views l line new holds (suc k) x c v is has =
      let h = holds.now (suc k) x c v is has in
      record { below = h.0; other = λ e. apart.left k l.name x c (line.cell ∙ ap Some (sym e)) is; word = h.1 }

  last_held : (cells : List ℤ) (views : Views) (l : Line) → IsLine at t l → (views 0).last l.name ≡ None → Holds at cells t views → (k x c : ℕ) (v : Value) → (at k).last x ≡ Some c → (views k).last x ≡ Some v → IsHeld cells l.cell t c v
  last_held cells views l line new holds zero x c v is has =
      let h = holds.last 0 x c v is has in
      record { below = h.0; other = λ e. none_some v (sym new ∙ ap (λ y. (views 0).last y) (apart.last l.name x c (line.cell ∙ ap Some (sym e)) is) ∙ has); word = h.1 }
  last_held cells views l line new holds (suc k) x c v is has =
      let h = holds.last (suc k) x c v is has in
      record { below = h.0; other = λ e. apart.left_last k l.name x c (line.cell ∙ ap Some (sym e)) is; word = h.1 }

  stands : (cells : List ℤ) (views : Views) (l : Line) → IsLine at t l → (views 0).now l.name ≡ None → (views 0).last l.name ≡ None → Holds at cells t views → Stands at cells l.cell t views
  stands cells views l line new newl holds = record {
    now = now_held cells views l line new holds;
    previous = λ k x c v is has. let h = holds.previous k x c v is has in record { below = h.0; other = λ e. apart.previous k l.name x c (line.cell ∙ ap Some (sym e)) is; word = h.1 };
    last = last_held cells views l line newl holds;
    const = λ k v c is. let h = holds.const k v c is in record { below = h.0; other = λ e. apart.const k l.name c v (line.cell ∙ ap Some (sym e)) is; word = h.1 };
    first = λ k c is. let h = holds.first k c is in record { below = h.0; other = λ e. apart.first k l.name c (line.cell ∙ ap Some (sym e)) is; word = h.1 };
    interval = λ k n c is. let h = holds.interval k n c is in record { below = h.0; other = λ e. apart.interval k l.name n c (line.cell ∙ ap Some (sym e)) is; unfit_below = h.1; unfit_other = λ e. apart.unfit k l.name n (line.cell ∙ ap Some (sym e)); word = h.2 };
  }

  holds_kept : (a b : List ℤ) (views : Views) (l : Line) → IsLine at t l → (views 0).now l.name ≡ None → (views 0).last l.name ≡ None → IsKept l.cell t a b → Holds at a t views → Holds at b t views
  holds_kept a b views l line new newl k holds =
      let s = stands_kept at a b l.cell t views k (stands a views l line new newl holds) in
      record {
        now = λ n x c v is has. let h = s.now n x c v is has in (h.below, h.word);
        previous = λ n x c v is has. let h = s.previous n x c v is has in (h.below, h.word);
        last = λ n x c v is has. let h = s.last n x c v is has in (h.below, h.word);
        const = λ n v c is. let h = s.const n v c is in (h.below, h.word);
        first = λ n c is. let h = s.first n c is in (h.below, h.word);
        interval = λ n m c is. let h = s.interval n m c is in (h.below, h.unfit_below, h.word);
      }

  some_same : (v w : Value) → Some v ≡ Some w → v ≡ w
  some_same v w e = cc

  cell_same : (c d : ℕ) → Some c ≡ Some d → c ≡ d
  cell_same c d e = cc

  -- one more name with a value
  now_given : (cells : List ℤ) (views : Views) (l : Line) (v : Value) → IsLine at t l → word_at cells l.cell ≡ rank v → Holds at cells t views → (k x c : ℕ) (w : Value) → (at k).now x ≡ Some c → (given l.name v views k).now x ≡ Some w → (c < t) × (word_at cells c ≡ rank w)
  now_given cells views l v line word holds (suc k) x c w is has = holds.now (suc k) x c w is has
  now_given cells views l v line word holds zero x c w is has = by_name (x == l.name) refl has where
    by_name : (b : Bool) → x == l.name ≡ b → (if b then Some v else (views 0).now x) ≡ Some w → (c < t) × (word_at cells c ≡ rank w)
    by_name true same has =
        let x_is : x ≡ l.name = eqb-true x l.name same in
        let c_is : c ≡ l.cell = cell_same c l.cell (sym is ∙ ap (λ y. (at 0).now y) x_is ∙ line.cell) in
        (subst (λ n. n < t) (sym c_is) line.below, ap (word_at cells) c_is ∙ word ∙ ap rank (some_same v w has))
    by_name false same has = holds.now 0 x c w is has

  previous_same : (views : Views) (x : ℕ) (v : Value) (k y : ℕ) → (given x v views k).previous y ≡ (views k).previous y
  previous_same views x v zero y = refl
  previous_same views x v (suc k) y = refl

  last_given : (cells : List ℤ) (views : Views) (l : Line) (v : Value) → IsLine at t l → word_at cells l.cell ≡ rank v → Holds at cells t views → (k x c : ℕ) (w : Value) → (at k).last x ≡ Some c → (given l.name v views k).last x ≡ Some w → (k ≡ 0 → x ≡ l.name → c ≡ l.cell) → (c < t) × (word_at cells c ≡ rank w)
  last_given cells views l v line word holds (suc k) x c w is has own = holds.last (suc k) x c w is has
  last_given cells views l v line word holds zero x c w is has own = by_name (x == l.name) refl has where
    by_name : (b : Bool) → x == l.name ≡ b → (if b then Some v else (views 0).last x) ≡ Some w → (c < t) × (word_at cells c ≡ rank w)
    by_name true same has =
        let c_is = own refl (eqb-true x l.name same) in
        (subst (λ n. n < t) (sym c_is) line.below, ap (word_at cells) c_is ∙ word ∙ ap rank (some_same v w has))
    by_name false same has = holds.last 0 x c w is has

  first_same : (views : Views) (x : ℕ) (v : Value) (k : ℕ) → (given x v views k).first ≡ (views k).first
  first_same views x v zero = refl
  first_same views x v (suc k) = refl

  interval_same : (views : Views) (x : ℕ) (v : Value) (k n : ℕ) → whole_of (given x v views k).interval n ≡ whole_of (views k).interval n
  interval_same views x v zero n = refl
  interval_same views x v (suc k) n = refl

  holds_given : (cells : List ℤ) (views : Views) (l : Line) (v : Value) → IsLine at t l → word_at cells l.cell ≡ rank v → Holds at cells t views → Holds at cells t (given l.name v views)
  holds_given cells views l v line word holds = record {
    now = now_given cells views l v line word holds;
    previous = λ k x c w is has. holds.previous k x c w is (sym (previous_same views l.name v k x) ∙ has);
    last = λ k x c w is has. last_given cells views l v line word holds k x c w is has (λ at_0 x_is. own_cell k x c at_0 x_is is);
    const = holds.const;
    first = λ k c is. let h = holds.first k c is in (h.0, h.1 ∙ ap (λ b. rank (value.Bool b)) (sym (first_same views l.name v k)));
    interval = λ k n c is. let h = holds.interval k n c is in (h.0, h.1, h.2 ∙ ap fitted (sym (interval_same views l.name v k n)));
  } where
    own_cell : (k x c : ℕ) → k ≡ 0 → x ≡ l.name → (at k).last x ≡ Some c → c ≡ l.cell
    own_cell k x c at_0 x_is is = line.kept c (sym (ap (λ n. (at n).last x) at_0 ∙ ap (λ y. (at 0).last y) x_is) ∙ is)

  truth_given : (views : Views) (x : ℕ) (v : Value) → ((at 0).truth x ≡ true → IsTruth v) → AreTruths at views → (k y : ℕ) (w : Value) → (at k).truth y ≡ true → (given x v views k).now y ≡ Some w → IsTruth w
  truth_given views x v truth truths (suc k) y w is has = truths.now (suc k) y w is has
  truth_given views x v truth truths zero y w is has = by_name (y == x) refl has where
    by_name : (b : Bool) → y == x ≡ b → (if b then Some v else (views 0).now y) ≡ Some w → IsTruth w
    by_name true same has = subst IsTruth (some_same v w has) (truth (sym (ap (λ z. (at 0).truth z) (eqb-true y x same)) ∙ is))
    by_name false same has = truths.now 0 y w is has

  truth_last : (views : Views) (x : ℕ) (v : Value) → ((at 0).truth x ≡ true → IsTruth v) → AreTruths at views → (k y : ℕ) (w : Value) → (at k).truth y ≡ true → (given x v views k).last y ≡ Some w → IsTruth w
  truth_last views x v truth truths (suc k) y w is has = truths.last (suc k) y w is has
  truth_last views x v truth truths zero y w is has = by_name (y == x) refl has where
    by_name : (b : Bool) → y == x ≡ b → (if b then Some v else (views 0).last y) ≡ Some w → IsTruth w
    by_name true same has = subst IsTruth (some_same v w has) (truth (sym (ap (λ z. (at 0).truth z) (eqb-true y x same)) ∙ is))
    by_name false same has = truths.last 0 y w is has

  truths_given : (views : Views) (x : ℕ) (v : Value) → ((at 0).truth x ≡ true → IsTruth v) → AreTruths at views → AreTruths at (given x v views)
  truths_given views x v truth truths = record {
    now = truth_given views x v truth truths;
    previous = λ k y w is has. truths.previous k y w is (sym (previous_same views x v k y) ∙ has);
    last = truth_last views x v truth truths;
  }

  lines_given : (views : Views) (x : ℕ) (v : Value) (ls : List Line) → IsNewTo x ls → AreLines at t views ls → AreLines at t (given x v views) ls
  lines_given views x v [] new lines = tt
  lines_given views x v (l ∷ ls) new lines = (lines.0, by_name (views 0).now lines.1 (l.name == x) refl, by_name (views 0).last lines.2 (l.name == x) refl, lines.3, lines_given views x v ls new.1 lines.4) where
    by_name : (f : ℕ → Option Value) → f l.name ≡ None → (b : Bool) → l.name == x ≡ b → (if b then Some v else f l.name) ≡ None
    by_name f none true same = absurd (new.0 (sym (eqb-true l.name x same)))
    by_name f none false same = none

  after_line : (l : Line) (ls : List Line) (code rest : List Instr) (cells after : List ℤ) (e : Ended) → ran (code ++ rest) 0 cells ≡ ran rest 0 after → IsKept l.cell t cells after → RunsAs at t ls rest after e → RunsAs at t (l ∷ ls) (code ++ rest) cells e
  after_line l ls code rest cells after (All views) runs kept r = (r.0, runs ∙ r.1, r.2 ∙ kept.size, r.3, λ c below none. r.4 c below none.1 ∙ kept.same c below none.0)
  after_line l ls code rest cells after (Failed views kind line behind) runs kept r = (r.0, r.1, runs ∙ r.2, r.3, r.4, r.5 ∙ kept.size, r.6, λ c below none. r.7 c below none.1 ∙ kept.same c below none.0)
  after_line l ls code rest cells after Missing runs kept r = tt

  line_ends : (ls : List Line) (cells : List ℤ) (views : Views) (l : Line) (a : Answer) → AreTruths at views
      → ((cells : List ℤ) (views : Views) → AreTruths at views → AreLines at t views ls → Holds at cells t views → AreWithin (length cells) (lines_code at t ls) → RunsAs at t ls (lines_code at t ls) cells (lines_end ls views))
      → value_of l.side views ≡ a → AreLines at t views (l ∷ ls) → Holds at cells t views → AreWithin (length cells) (lines_code at t (l ∷ ls))
      → Gives ((piece_of at l.side).code l.cell t) cells l.cell t l.cell a
      → RunsAs at t (l ∷ ls) (lines_code at t (l ∷ ls)) cells (ended_by a views l ls (lines_end ls))
  line_ends ls cells views l (Is v) truths next is lines holds within g =
      let code = (piece_of at l.side).code l.cell t in
      let rest = lines_code at t ls in
      let kept = holds_kept cells g.after views l lines.0 lines.1 lines.2 g.kept holds in
      after_line l ls code rest cells g.after (lines_end ls (given l.name v views)) (g.runs rest) g.kept
      (next g.after (given l.name v views) (truths_given views l.name v (λ truth. (code_right at views truths l.side lines.0.known).truth (lines.0.truth truth) v is) truths) (lines_given views l.name v ls lines.3 lines.4)
      (holds_given g.after views l v lines.0 g.word kept) (within_kept l.cell t cells g.after rest g.kept (within_back (length cells) code rest within)))
  line_ends ls cells views l (Fails kind) truths next is lines holds within g =
      let code = (piece_of at l.side).code l.cell t in
      let rest = lines_code at t ls in
      (g.after, g.left + length rest, g.stops rest, omega arith, stopped_within (code ++ rest) 0 cells g.after kind (g.left + length rest) (g.stops rest), g.kept.size, holds_kept cells g.after views l lines.0 lines.1 lines.2 g.kept holds, λ c below none. g.kept.same c below none.0)
  line_ends ls cells views l Absent truths next is lines holds within g = tt

  pub lines_run : (ls : List Line) (cells : List ℤ) (views : Views) → AreTruths at views → AreLines at t views ls → Holds at cells t views → AreWithin (length cells) (lines_code at t ls) → RunsAs at t ls (lines_code at t ls) cells (lines_end ls views)
  lines_run [] cells views truths lines holds within = (cells, refl, refl, holds, λ c below none. refl)
  lines_run (l ∷ ls) cells views truths lines holds within =
      line_ends ls cells views l (value_of l.side views) truths (lines_run ls) refl lines holds within
      (code_gives at views truths l.side lines.0.known cells l.cell t lines.0.below (stands cells views l lines.0 lines.1 lines.2 holds) (within_front (length cells) ((piece_of at l.side).code l.cell t) (lines_code at t ls) within))
