-- Where the preparation of several equations stands.
use Rattle.std.proofs.Common.{◌≡◌, refl, ap, ap₂, sym, subst, ◌∙◌, ℕ, zero, suc, ◌+◌, ◌-◌, ◌<◌, ◌≤◌, ◌&&◌, Bool, true, false, List, [], ◌∷◌, ◌++◌, length, length-append, drop, get_or, drop-cons, reverse, Result, Ok, Err, arith}
use Rattle.std.specs.Result.{IsErr, IsErrAnd}
use Rattle.std.proofs.lemmas.Bool.{false≢true}
use Rattle.std.proofs.lemmas.List.{drop_all, reverse-append}
use Rattle.step_code.specs.declared.compile.NoCode.{NoCode}
use Rattle.step_code.specs.declared.compile.NoCode.TheVariants.{Memory}
use Rattle.step_code.specs.declared.machine.Instr.{Instr}
use Rattle.step_code.specs.Code.{Cells, piece_of}
use Rattle.step_code.specs.Emits.{IsRefused}
use Rattle.step_code.specs.Lines.{lines_code}
use Rattle.step_code.proofs.Refusing.{refused_more, refused_memory}
use Rattle.step_lines.specs.declared.stretch.Line as given
use Rattle.step_lines.specs.declared.stretch.Stretch.{Stretch}
use Rattle.step_lines.specs.Stretches.{lines_of, marks_of, IsStretch, are_known, Prepares}

-- the code and the marks of the lines from here on
pub record Prepared (at : Cells) (t : ℕ) (lines : List given.Line) (i : ℕ) (out : List Instr) (marks : List ℕ) : Type 0 where
  pub within : i ≤ length lines
  pub code : out ≡ lines_code at t (lines_of (drop i lines))
  pub marks_are : reverse marks ≡ marks_of at t (lines_of (drop i lines))

module _ (at : Cells) (t : ℕ) (lines : List given.Line) where
  head_at : (i : ℕ) (d : given.Line) → 0 < i → i ≤ length lines → drop (i - 1) lines ≡ get_or lines (i - 1) d ∷ drop i lines
  head_at i d some within =
      let k = i - 1 in
      let step : suc k ≡ i = omega (arith, some) in
      let inside : k < length lines = omega (arith, some, within) in
      drop-cons lines k d inside ∙ ap (λ m. get_or lines k d ∷ drop m lines) step

  pub prepared_more : (i count : ℕ) (out new : List Instr) (marks more : List ℕ) (line : given.Line) → 0 < i → Prepared at t lines i out marks → line ≡ get_or lines (i - 1) line
      → new ≡ (piece_of at line.side.now).code line.cell t ++ out → count ≡ length new → more ≡ marks ++ (count ∷ []) → Prepared at t lines (i - 1) new more
  prepared_more i count out new marks more line some prepared is code_is count_is more_is =
      let head : drop (i - 1) lines ≡ line ∷ drop i lines = head_at i line some prepared.within ∙ ap (λ z. z ∷ drop i lines) (sym is) in
      let within = prepared.within in
      let code : new ≡ lines_code at t (lines_of (line ∷ drop i lines)) = code_is ∙ ap (λ z. (piece_of at line.side.now).code line.cell t ++ z) prepared.code in
      let marks_new : reverse more ≡ marks_of at t (lines_of (line ∷ drop i lines)) = ap reverse more_is ∙ reverse-append marks (count ∷ []) ∙ ap₂ (λ n z. n ∷ z) (count_is ∙ ap length code) prepared.marks_are in
      record {
        within = omega (arith, within, some);
        code = code ∙ ap (λ z. lines_code at t (lines_of z)) (sym head);
        marks_are = marks_new ∙ ap (λ z. marks_of at t (lines_of z)) (sym head);
      }

  pub prepared_all : (i : ℕ) (out : List Instr) (marks : List ℕ) (stretch : Stretch) → i ≤ 0 → Prepared at t lines i out marks → stretch.code.items ≡ out → stretch.marks.items ≡ reverse marks → IsStretch at t (lines_of lines) stretch
  prepared_all zero out marks stretch done prepared code marks_is = record { code = code ∙ prepared.code; marks = marks_is ∙ prepared.marks_are }
  prepared_all (suc i) out marks stretch done prepared code marks_is = absurd (omega (arith, done))

and_known : (a b : Bool) → a && b ≡ true → (a ≡ true) × (b ≡ true)
and_known true b e = (refl, e)
and_known false b e = absurd (false≢true e)

one_known : (at : Cells) (lines : List given.Line) (k : ℕ) (line : given.Line) → k < length lines → line ≡ get_or lines k line → are_known at (lines_of lines) ≡ true → (piece_of at line.side.now).known ≡ true
one_known at [] k line within is known = absurd (omega (arith, within))
one_known at (l ∷ ls) zero line within is known = ap (λ z. (piece_of at z.side.now).known) is ∙ (and_known (piece_of at l.side.now).known _ known).0
one_known at (l ∷ ls) (suc k) line within is known = one_known at ls k line (omega (arith, within)) is (and_known (piece_of at l.side.now).known _ known).1

le_by : (n a b : ℕ) → n ≡ a + b → a ≤ n
le_by n a b e = omega (arith, e)

le_more : (m n a b : ℕ) → m ≤ b → n ≡ a + b → m ≤ n
le_more m n a b le e = omega (arith, le, e)

one_within : (at : Cells) (t : ℕ) (lines : List given.Line) (k : ℕ) (line : given.Line) → k < length lines → line ≡ get_or lines k line → length ((piece_of at line.side.now).code line.cell t) ≤ length (lines_code at t (lines_of lines))
one_within at t [] k line within is = absurd (omega (arith, within))
one_within at t (l ∷ ls) zero line within is =
    let size = length-append ((piece_of at l.side.now).code l.cell t) (lines_code at t (lines_of ls)) in
    subst (λ z. length ((piece_of at z.side.now).code z.cell t) ≤ length (lines_code at t (lines_of (l ∷ ls)))) (sym is) (le_by _ _ _ size)
one_within at t (l ∷ ls) (suc k) line within is =
    let size = length-append ((piece_of at l.side.now).code l.cell t) (lines_code at t (lines_of ls)) in
    let rest = one_within at t ls k line (omega (arith, within)) is in
    le_more _ _ _ _ rest size

-- all are refused for one of them
pub lines_refused : (at : Cells) (t : ℕ) (lines : List given.Line) (i : ℕ) (line : given.Line) (r : Result Stretch NoCode) (kind : NoCode) → 0 < i → i ≤ length lines → line ≡ get_or lines (i - 1) line
    → IsErr r → IsErrAnd r (λ k. k ≡ kind) → IsRefused (piece_of at line.side.now).known (t + length ((piece_of at line.side.now).code line.cell t)) kind → Prepares at t (lines_of lines) r
lines_refused at t lines i line (Ok stretch) kind some within is err same refused = absurd same
lines_refused at t lines i line (Err k) kind some within is err same refused =
    let inside : i - 1 < length lines = omega (arith, some, within) in
    let less = one_within at t lines (i - 1) line inside is in
    subst (IsRefused (are_known at (lines_of lines)) (t + length (lines_code at t (lines_of lines)))) (sym same)
    (refused_more (piece_of at line.side.now).known _ _ _ kind (one_known at lines (i - 1) line inside is) (omega (arith, less)) refused)

pub memory_refused : (at : Cells) (t : ℕ) (ls : List given.Line) (r : Result Stretch NoCode) (kind : NoCode) → IsErr r → IsErrAnd r (λ k. k ≡ kind) → kind ≡ Memory → Prepares at t (lines_of ls) r
memory_refused at t ls (Ok stretch) kind err same is = absurd same
memory_refused at t ls (Err k) kind err same is = refused_memory _ _ k (same ∙ is)
