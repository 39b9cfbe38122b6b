-- Which line the number of instructions left tells.
use Rattle.std.proofs.Common.{◌≡◌, refl, ap, sym, subst, ◌∙◌, ℕ, zero, suc, ◌+◌, ◌-◌, ◌<◌, ◌≤◌, Bool, true, false, if◌then◌else◌, List, [], ◌∷◌, length, length-append, drop, get_or, Some, slice_get, nat_lt, arith}
use Rattle.std.proofs.lemmas.Bool.{lt-ltb, ltb-true}
use Rattle.std.proofs.lemmas.Option.{none-some}
use Rattle.sync_values.specs.declared.value.Value.{Value}
use Rattle.sync_values.specs.declared.value.Fail.{Fail}
use Rattle.flat_model.specs.Operators.{Answer, Is, Fails, Absent}
use Rattle.flat_model.specs.Views.{Views}
use Rattle.flat_model.specs.Meaning.{value_of}
use Rattle.step_code.specs.Code.{Cells, piece_of}
use Rattle.step_code.specs.Lines.{Line, lines_code, given, All, Failed, Missing, ended_by, lines_end}
use Rattle.step_lines.specs.Stretches.{marks_of, place_in, IsFailing}

-- the next mark is above it
pub place_on : (marks : List ℕ) (left place d : ℕ) → suc place < length marks → left < get_or marks (suc place) d → place_in (drop place marks) left ≡ suc (place_in (drop (suc place) marks) left)
place_on [] left place d short less = absurd (omega (arith, short))
place_on (m ∷ []) left zero d short less = absurd (omega (arith, short))
place_on (m ∷ n ∷ marks) left zero d short less = ap (λ b. if b then suc (place_in (n ∷ marks) left) else 0) (lt-ltb left n less)
place_on (m ∷ marks) left (suc place) d short less = place_on marks left place d (omega (arith, short)) less

-- the next mark is not, or there is none
pub place_ends : (marks : List ℕ) (left place d : ℕ) → (suc place < length marks → left < get_or marks (suc place) d → ⊥) → place_in (drop place marks) left ≡ 0
place_ends [] left zero d none = refl
place_ends [] left (suc place) d none = refl
place_ends (m ∷ []) left zero d none = refl
place_ends (m ∷ n ∷ marks) left zero d none = by_test (nat_lt left n) refl where
  by_test : (b : Bool) → nat_lt left n ≡ b → (if b then suc (place_in (n ∷ marks) left) else 0) ≡ 0
  by_test true is = absurd (none (omega arith) (ltb-true left n is))
  by_test false is = refl
place_ends (m ∷ marks) left (suc place) d none = place_ends marks left place d (λ short less. none (omega (arith, short)) less)

-- all marks before the next one are above it
pub record Passed (marks : List ℕ) (left next : ℕ) : Type 0 where
  pub some : 0 < next
  pub place : suc (place_in marks left) ≡ next + place_in (drop (next - 1) marks) left

pub passed_none : (marks : List ℕ) (left : ℕ) → Passed marks left 1
passed_none marks left = record { some = omega arith; place = omega arith }

pub passed_more : (marks : List ℕ) (left next d : ℕ) → Passed marks left next → next < length marks → left < get_or marks next d → Passed marks left (next + 1)
passed_more marks left next d passed short less =
    let k = next - 1 in
    let step : next ≡ suc k = let some = passed.some in omega (arith, some) in
    let on = place_on marks left k d (subst (λ n. n < length marks) step short) (subst (λ n. left < get_or marks n d) step less) in
    let back : suc k ≡ next + 1 - 1 = omega (arith, step) in
    let same : drop (suc k) marks ≡ drop (next + 1 - 1) marks = ap (λ n. drop n marks) back in
    let more : place_in (drop k marks) left ≡ suc (place_in (drop (next + 1 - 1) marks) left) = on ∙ ap (λ z. suc (place_in z left)) same in
    let old = passed.place in
    record { some = omega arith; place = omega (arith, old, more) }

pub passed_ends : (marks : List ℕ) (left next d : ℕ) → Passed marks left next → (next < length marks → left < get_or marks next d → ⊥) → next - 1 ≡ place_in marks left
passed_ends marks left next d passed none =
    let k = next - 1 in
    let step : next ≡ suc k = let some = passed.some in omega (arith, some) in
    let ends = place_ends marks left k d (λ short less. none (subst (λ n. n < length marks) (sym step) short) (subst (λ n. left < get_or marks n d) (sym step) less)) in
    let old = passed.place in
    omega (arith, old, ends, step)

module _ (at : Cells) (t : ℕ) where
  -- the code from a line on is no longer than all of it
  rest_within : (ls : List Line) (line : Line) (behind : List Line) (place : ℕ) → IsFailing ls line behind place → length (lines_code at t (line ∷ behind)) ≤ length (lines_code at t ls)
  rest_within [] line behind place is = absurd (none-some line is.found)
  rest_within (l ∷ ls) line behind zero is =
      let same : line ∷ behind ≡ l ∷ ls = head_is is.found is.rest in
      subst (λ z. length (lines_code at t z) ≤ length (lines_code at t (l ∷ ls))) (sym same) (omega arith)
    where
      head_is : Some l ≡ Some line → ls ≡ behind → line ∷ behind ≡ l ∷ ls
      head_is a b = cc
  rest_within (l ∷ ls) line behind (suc place) is =
      let size = length-append ((piece_of at l.side).code l.cell t) (lines_code at t ls) in
      let rest = rest_within ls line behind place (record { found = is.found; rest = is.rest }) in
      le_more _ _ _ _ rest size
    where
      le_more : (m n a b : ℕ) → m ≤ b → n ≡ a + b → m ≤ n
      le_more m n a b le e = omega (arith, le, e)

  all_failed : (views after : Views) (kind : Fail) (line : Line) (behind : List Line) → All views ≡ Failed after kind line behind → ⊥
  all_failed views after kind line behind e = cc

  missing_failed : (after : Views) (kind : Fail) (line : Line) (behind : List Line) → Missing ≡ Failed after kind line behind → ⊥
  missing_failed after kind line behind e = cc

  line_is : (views after : Views) (kind other : Fail) (l line : Line) (ls behind : List Line) → Failed views kind l ls ≡ Failed after other line behind → l ≡ line
  line_is views after kind other l line ls behind e = cc

  rest_is : (views after : Views) (kind other : Fail) (l line : Line) (ls behind : List Line) → Failed views kind l ls ≡ Failed after other line behind → ls ≡ behind
  rest_is views after kind other l line ls behind e = cc

  -- the first line fails
  at_first : (l : Line) (ls : List Line) (left : ℕ) → length (lines_code at t ls) ≤ left → place_in (marks_of at t (l ∷ ls)) left ≡ 0
  at_first l ls left low = place_ends (marks_of at t (l ∷ ls)) left 0 0 (next ls low) where
    next : (ls : List Line) → length (lines_code at t ls) ≤ left → 1 < length (marks_of at t (l ∷ ls)) → left < get_or (marks_of at t (l ∷ ls)) 1 0 → ⊥
    next [] low short less = omega (arith, short)
    next (x ∷ ls) low short less = omega (arith, low, less)

  -- a later line fails
  at_later : (l : Line) (ls : List Line) (left : ℕ) → 0 < length ls → left < length (lines_code at t ls) → place_in (marks_of at t (l ∷ ls)) left ≡ suc (place_in (marks_of at t ls) left)
  at_later l [] left some less = absurd (omega (arith, some))
  at_later l (x ∷ ls) left some less = place_on (marks_of at t (l ∷ x ∷ ls)) left 0 0 (omega arith) less

  some_line : (ls : List Line) (line : Line) (place : ℕ) → slice_get ls place ≡ Some line → 0 < length ls
  some_line [] line place is = absurd (none-some line is)
  some_line (l ∷ ls) line place is = omega arith

  pub place_found : (ls : List Line) (views after : Views) (kind : Fail) (line : Line) (behind : List Line) (left : ℕ) → lines_end ls views ≡ Failed after kind line behind
      → length (lines_code at t behind) ≤ left → left < length (lines_code at t (line ∷ behind)) → IsFailing ls line behind (place_in (marks_of at t ls) left)
  place_found [] views after kind line behind left ends low high = absurd (all_failed views after kind line behind ends)
  place_found (l ∷ ls) views after kind line behind left ends low high = by_answer (value_of l.side views) ends (λ v is. place_found ls (given l.name v views) after kind line behind left is low high) where
    by_answer : (a : Answer) → ended_by a views l ls (lines_end ls) ≡ Failed after kind line behind
        → ((v : Value) → lines_end ls (given l.name v views) ≡ Failed after kind line behind → IsFailing ls line behind (place_in (marks_of at t ls) left))
        → IsFailing (l ∷ ls) line behind (place_in (marks_of at t (l ∷ ls)) left)
    by_answer (Is v) is next =
        let rest = next v is in
        let within = rest_within ls line behind (place_in (marks_of at t ls) left) rest in
        let place = at_later l ls left (some_line ls line (place_in (marks_of at t ls) left) rest.found) (omega (arith, high, within)) in
        subst (IsFailing (l ∷ ls) line behind) (sym place) (record { found = rest.found; rest = rest.rest })
    by_answer (Fails other) is next =
        let same = line_is views after other kind l line ls behind is in
        let rest = rest_is views after other kind l line ls behind is in
        let place = at_first l ls left (subst (λ z. length (lines_code at t z) ≤ left) (sym rest) low) in
        subst (IsFailing (l ∷ ls) line behind) (sym place) (record { found = ap Some same; rest = rest })
    by_answer Absent is next = absurd (missing_failed after kind line behind is)
