-- The rows of a run, one after the other.
use Rattle.std.proofs.Common.{◌≡◌, refl, ap, sym, subst, ◌∙◌, ℕ, zero, suc, ◌+◌, ◌-◌, ◌<◌, ◌≤◌, inl, inr, Bool, List, [], ◌∷◌, ◌++◌, map, Option, Some, None, length, take, append_assoc, append-nil, arith}
use Rattle.std.proofs.Math.Path.{fun_ext}
use Rattle.std.proofs.lemmas.List.{length-map, take_all}
use Rattle.sync_values.specs.declared.value.Value.{Value}
use Rattle.rational_time.specs.declared.ratio.Ratio.{Ratio}
use Rattle.flat_model.specs.declared.clock.Moment.{Moment}
use Rattle.flat_model.specs.declared.clock.Moment.TheVariants.{Initial, At}
use Rattle.flat_model.specs.declared.fault.Fault.{Fault}
use Rattle.flat_model.specs.declared.model.FlatModel.{FlatModel}
use Rattle.flat_model.specs.declared.model.FlatName.{FlatName}
use Rattle.flat_model.specs.Assignment.{Assignment}
use Rattle.flat_model.specs.Meets.{MeetsBefore}
use Rattle.flat_model.specs.Moments.{moment_at}
use Rattle.flat_model.specs.Setting.{Setting}
use Rattle.flat_model.specs.Trace.{columns_of, header_text, row_text, rows_text, trace_text}
use Rattle.moment_theory.specs.Going.{AgreeBefore}
use Rattle.moment_theory.proofs.Answered.{moment_within}
use Rattle.run_ahead.specs.declared.answer.Advance.TheVariants as answer
use Rattle.run_ahead.specs.Ahead.{Running, moment_given, row_given}
use Rattle.run_ahead.specs.Advances.{HasRow, row_at, given_by}
use Rattle.run_ahead.specs.Given.{GivesRow, GoesOnFrom, AdvancesAs}
use Rattle.command_answer.specs.Calls.{Written}
use Rattle.run_trace.specs.Printing.{written}
use Rattle.run_trace.specs.private.Putting.{IsPut, IsPutRow, HasRowOf, TracesRun}
use Rattle.run_trace.proofs.Putting.{put_more}

take_short : {A : Type 0} (n : ℕ) (xs : List A) → length (take n xs) ≤ n
take_short zero xs = omega arith
take_short (suc n) [] = omega arith
take_short (suc n) (x ∷ xs) = let rest = take_short n xs in omega (arith, rest)

-- one row more
rows_next : (columns : List ℕ) (A : Assignment) (m : ℕ) (instants : List Ratio) (k : ℕ) (at : Ratio) → moment_at instants (suc k) ≡ Some (At at)
    → rows_text columns A m (take (suc k) instants) ≡ rows_text columns A m (take k instants) ++ row_text at (map (λ x. A x (m + k)) columns)
rows_next columns A m [] k at is = absurd cc
rows_next columns A m (t ∷ rest) zero at is =
    let same : t ≡ at = cc in
    append-nil (row_text t (map (λ x. A x m) columns)) ∙ ap (λ u. row_text u (map (λ x. A x m) columns)) same
    ∙ ap (λ n. row_text at (map (λ x. A x n) columns)) (let e : m ≡ m + 0 = omega arith in e)
rows_next columns A m (t ∷ rest) (suc k) at is =
    let row = row_text t (map (λ x. A x m) columns) in
    ap (λ r. row ++ r) (rows_next columns A (suc m) rest k at is ∙ ap (λ n. rows_text columns A (suc m) (take k rest) ++ row_text at (map (λ x. A x n) columns)) (let e : suc m + k ≡ m + suc k = omega arith in e))
    ∙ sym (append_assoc row (rows_text columns A (suc m) (take k rest)) (row_text at (map (λ x. A x (m + suc k)) columns)))

-- rows of two assignments that agree at their moments
rows_same : (columns : List ℕ) (A B : Assignment) (m : ℕ) (ts : List Ratio) → ((x j : ℕ) → m ≤ j → j < m + length ts → A x j ≡ B x j) → rows_text columns A m ts ≡ rows_text columns B m ts
rows_same columns A B m [] same = refl
rows_same columns A B m (t ∷ ts) same =
    ap (λ (f : ℕ → Option Value). row_text t (map f columns) ++ rows_text columns A (suc m) ts) (fun_ext (λ x. same x m (omega arith) (omega arith)))
    ∙ ap (λ r. row_text t (map (λ x. B x m) columns) ++ r) (rows_same columns A B (suc m) ts (λ x j le lt. same x j (omega (arith, le)) (omega (arith, lt))))

-- the rows before m stay where the assignment is replaced by one that agrees with it before m
pub trace_same : (names : List FlatName) (A B : Assignment) (m : ℕ) (instants : List Ratio) → AgreeBefore A B m → trace_text names A (take (m - 1) instants) ≡ trace_text names B (take (m - 1) instants)
trace_same names A B m instants agree = ap (λ r. header_text names ++ r)
    (rows_same (columns_of names) A B 1 (take (m - 1) instants) (λ x j le lt. let short = take_short (m - 1) instants in agree x j (omega (arith, le, lt, short))))

-- the row of the next moment is behind them
trace_next : (names : List FlatName) (A : Assignment) (k : ℕ) (instants : List Ratio) (at : Ratio) → moment_at instants (suc k) ≡ Some (At at)
    → trace_text names A (take (suc k) instants) ≡ trace_text names A (take k instants) ++ row_text at (map (λ x. A x (suc k)) (columns_of names))
trace_next names A k instants at is =
    ap (λ r. header_text names ++ r) (rows_next (columns_of names) A 1 instants k at is ∙ ap (λ n. rows_text (columns_of names) A 1 (take k instants) ++ row_text at (map (λ x. A x n) (columns_of names))) (let e : 1 + k ≡ suc k = omega arith in e))
    ∙ sym (append_assoc (header_text names) (rows_text (columns_of names) A 1 (take k instants)) (row_text at (map (λ x. A x (suc k)) (columns_of names))))

-- the rows that were given so far are those before a moment, of an assignment for which it stands and that meets the model before it; and they were put
pub record IsSoFar (stands : Setting → Assignment → ℕ → Type 0) (s : Setting) (whole : Bool) (out : Written) (rows : ℕ) : Type 0 where
  pub assignment : Assignment
  pub before : ℕ
  pub stands_for : stands s assignment before
  pub meets : MeetsBefore s assignment before
  pub within : before ≤ suc (length s.instants)
  pub many : rows ≤ before
  pub put : IsPut whole (trace_text s.model.names assignment (take (before - 1) s.instants)) out

-- before the first row there is the header
pub header_so_far : (stands : Setting → Assignment → ℕ → Type 0) (s : Setting) (S : Assignment) (whole : Bool) (out : Written) (header : List ℕ) → stands s S 0 → header ≡ header_text s.model.names → IsPut whole header out
    → IsSoFar stands s whole out 0
header_so_far stands s S whole out header stands_for is put = record {
  assignment = S;
  before = 0;
  stands_for = stands_for;
  meets = λ k lt. absurd (omega (arith, lt));
  within = omega arith;
  many = omega arith;
  put = subst (λ t. IsPut whole t out) (is ∙ sym (append-nil (header_text s.model.names))) put;
}

-- a row that was given
pub record IsRow (after : Setting → Assignment → ℕ → Type 0) (s : Setting) (S : Assignment) (m : ℕ) (runner : Running) : Type 0 where
  pub at : Ratio
  pub values : List (Option Value)
  pub moment_is : moment_given runner ≡ Some (At at)
  pub row_is : row_given runner ≡ Some values
  pub gives : GivesRow after s S m at values

row_of : (after : Setting → Assignment → ℕ → Type 0) (s : Setting) (S : Assignment) (m : ℕ) (runner : Running) (moment : Option Moment) (row : Option (List (Option Value))) → moment_given runner ≡ moment → row_given runner ≡ row
    → GoesOnFrom after s S m (row_at moment row) → IsRow after s S m runner
row_of after s S m runner None row e f gives = absurd gives
row_of after s S m runner (Some Initial) row e f gives = absurd gives
row_of after s S m runner (Some (At t)) None e f gives = absurd gives
row_of after s S m runner (Some (At t)) (Some values) e f gives = record { at = t; values = values; moment_is = e; row_is = f; gives = gives }

pub gave_row : (before after : Setting → Assignment → ℕ → Type 0) (s : Setting) (S : Assignment) (m : ℕ) (runner : Running) → AdvancesAs before after (given_by answer.Row runner) → before s S m → IsRow after s S m runner
gave_row before after s S m runner advanced stands_for = row_of after s S m runner (moment_given runner) (row_given runner) refl refl (advanced s S m stands_for)

-- the rows so far, and one more
pub row_so_far : (before after : Setting → Assignment → ℕ → Type 0) (s : Setting) (whole result : Bool) (old mid new : Option (List ℕ)) (a b c rows : ℕ) (runner : Running) → IsSoFar before s whole (written old mid a b) rows
    → AdvancesAs before after (given_by answer.Row runner) → IsPutRow whole result runner (written mid new b c) → IsSoFar after s result (written old new a c) (rows + 1)
row_so_far before after s whole result old mid new a b c rows runner so_far advanced puts =
    let row = gave_row before after s so_far.assignment so_far.before runner advanced so_far.stands_for in
    by_moment row row.gives.moment refl row.gives.later
  where
    names : List FlatName
    names = s.model.names

    by_moment : (row : IsRow after s so_far.assignment so_far.before runner) (k : ℕ) → row.gives.moment ≡ k → 0 < k → IsSoFar after s result (written old new a c) (rows + 1)
    by_moment row zero is some = absurd (omega (arith, some))
    by_moment row (suc k) is some =
        let g = row.gives in
        let place : so_far.before - 1 ≡ k = elim row.gives.next [
          | inl e ↦ omega (arith, e, is)
          | inr e ↦ omega (arith, e.0, e.1, is)
        ] in
        let at_is : moment_at s.instants (suc k) ≡ Some (At row.at) = subst (λ n. moment_at s.instants n ≡ Some (At row.at)) is g.found in
        let values_are : row.values ≡ map (λ x. g.after x (suc k)) (columns_of names) = subst (λ n. row.values ≡ map (λ x. g.after x n) (columns_of names)) is g.values_are in
        let text_is : trace_text names so_far.assignment (take (so_far.before - 1) s.instants) ++ row_text row.at row.values ≡ trace_text names g.after (take (g.moment + 1 - 1) s.instants) =
        ap (λ t. t ++ row_text row.at row.values) (trace_same names so_far.assignment g.after so_far.before s.instants g.agrees ∙ ap (λ n. trace_text names g.after (take n s.instants)) place)
        ∙ ap (λ vs. trace_text names g.after (take k s.instants) ++ row_text row.at vs) values_are
        ∙ sym (trace_next names g.after k s.instants row.at at_is)
        ∙ ap (λ n. trace_text names g.after (take n s.instants)) (let e : suc k ≡ g.moment + 1 - 1 = omega (arith, is) in e) in
        let inside = moment_within s.instants g.moment (At row.at) g.found in
        record {
          assignment = g.after;
          before = g.moment + 1;
          stands_for = g.stands_for;
          meets = λ n lt. g.meets n (omega (arith, lt));
          within = omega (arith, inside);
          many = elim row.gives.next [
            | inl e ↦ let many = so_far.many in omega (arith, e, many)
            | inr e ↦ let many = so_far.many in omega (arith, e.0, e.1, many)
          ];
          put = subst (λ t. IsPut result t (written old new a c)) text_is
              (put_more whole result (trace_text names so_far.assignment (take (so_far.before - 1) s.instants)) (row_text row.at row.values) old mid new a b c so_far.put (puts row.at row.values row.moment_is row.row_is));
        }

-- the run has come to its end
pub end_reached : (before after : Setting → Assignment → ℕ → Type 0) (s : Setting) (whole : Bool) (out : Written) (rows : ℕ) (runner : Running) → IsSoFar before s whole out rows → AdvancesAs before after (given_by answer.End runner)
    → TracesRun s (record { fault = None; whole = whole }) out
end_reached before after s whole out rows runner so_far advanced =
    let past : length s.instants < so_far.before = advanced s so_far.assignment so_far.before so_far.stands_for in
    let within = so_far.within in (
      trace_text s.model.names so_far.assignment (take (so_far.before - 1) s.instants),
      record {
        assignment = so_far.assignment;
        meets = λ k le. so_far.meets k (omega (arith, le, past));
        out_is = ap (trace_text s.model.names so_far.assignment) (take_all (so_far.before - 1) s.instants (omega (arith, past, within)));
        err_is = refl;
      },
      so_far.put,
    )

-- the run has come to its first fault
pub fault_reached : (before after : Setting → Assignment → ℕ → Type 0) (s : Setting) (whole : Bool) (out : Written) (rows : ℕ) (runner : Running) (fault : Fault) → IsSoFar before s whole out rows
    → AdvancesAs before after (given_by (answer.Fault fault) runner) → TracesRun s (record { fault = Some fault; whole = whole }) out
fault_reached before after s whole out rows runner fault so_far advanced =
    let g = advanced s so_far.assignment so_far.before so_far.stands_for in
    let place : so_far.before - 1 ≡ g.moment - 1 = elim g.next [
      | inl e ↦ omega (arith, e)
      | inr e ↦ omega (arith, e.0, e.1)
    ] in (
      trace_text s.model.names so_far.assignment (take (so_far.before - 1) s.instants),
      record {
        assignment = g.after;
        moment = g.moment;
        at = fault.moment;
        place = fault.place;
        kind = fault.kind;
        found = g.found;
        fault = g.first;
        out_is = trace_same s.model.names so_far.assignment g.after so_far.before s.instants g.agrees ∙ ap (λ n. trace_text s.model.names g.after (take n s.instants)) place;
        err_is = refl;
      },
      so_far.put,
    )

module _ (before after : Setting → Assignment → ℕ → Type 0) (model : FlatModel) where
  -- a row that was given is there
  pub row_there : (s : Setting) (S : Assignment) (m : ℕ) (runner : Running) → AdvancesAs before after (given_by answer.Row runner) → before s S m → HasRow runner
  row_there s S m runner advanced stands_for =
      let row = gave_row before after s S m runner advanced stands_for in record { at = row.at; values = row.values; moment_is = row.moment_is; row_is = row.row_is }

  -- and has a value for each column
  pub row_long : (s : Setting) (S : Assignment) (m : ℕ) (runner : Running) → AdvancesAs before after (given_by answer.Row runner) → before s S m → s.model ≡ model → HasRowOf runner (length (columns_of model.names))
  row_long s S m runner advanced stands_for is values at =
      let row = gave_row before after s S m runner advanced stands_for in
      let same : row.values ≡ values = same_row row.values values (sym row.row_is ∙ at) in
      ap length (sym same ∙ row.gives.values_are) ∙ length-map (columns_of s.model.names) (λ x. row.gives.after x row.gives.moment) ∙ ap (λ (m : FlatModel). length (columns_of m.names)) is
    where
      same_row : (xs ys : List (Option Value)) → Some xs ≡ Some ys → xs ≡ ys
      same_row xs ys e = cc

-- more rows than there are instants are never given
pub too_many : (stands : Setting → Assignment → ℕ → Type 0) (s : Setting) (whole : Bool) (out : Written) (rows limit : ℕ) → IsSoFar stands s whole out rows → length s.instants < limit → limit < rows → ⊥
too_many stands s whole out rows limit so_far few many = let within = so_far.within in let some = so_far.many in omega (arith, within, some, few, many)
