-- The rows of a run, added up one after the other.
use Rattle.std.proofs.Common.{◌≡◌, refl, ap, sym, subst, ◌∙◌, ℕ, zero, suc, ◌+◌, ◌-◌, ◌^◌, ◌<◌, ◌≤◌, inl, inr, List, map, Option, Some, length, take, Ok, Err, arith}
use Rattle.std.proofs.lemmas.List.{length-map}
use Rattle.sync_values.specs.declared.value.Value.{Value}
use Rattle.flat_model.specs.declared.clock.Moment.TheVariants.{At}
use Rattle.flat_model.specs.declared.fault.Fault.{Fault}
use Rattle.flat_model.specs.declared.model.FlatModel.{FlatModel}
use Rattle.flat_model.specs.Assignment.{Assignment}
use Rattle.flat_model.specs.Meets.{MeetsBefore}
use Rattle.flat_model.specs.Models.{AreNames}
use Rattle.flat_model.specs.Setting.{Setting}
use Rattle.flat_model.specs.Trace.{columns_of, trace_text}
use Rattle.moment_theory.proofs.Answered.{moment_within}
use Rattle.run_ahead.specs.declared.answer.Advance.TheVariants as answer
use Rattle.run_ahead.specs.Ahead.{Running, row_given}
use Rattle.run_ahead.specs.Advances.{given_by}
use Rattle.run_ahead.specs.Given.{AdvancesAs}
use Rattle.run_trace.proofs.Rowing.{IsRow, gave_row, row_long}
use Rattle.stress_sums.specs.declared.sums.Sums.{Sums}
use Rattle.stress_sums.specs.Sums.{no_sums, sums_to, with_row}
use Rattle.stress_sums.proofs.Alike.{sums_same}
use Rattle.stress_sums.proofs.Counts.{rows_are, columns_few}
use Rattle.run_tally.specs.Tallies.{IsWholeTally, TalliesRun}

-- the rows that were added up so far are those before a moment, of an assignment for which the runner stands and that meets the model before it
pub record IsSoFar (stands : Setting → Assignment → ℕ → Type 0) (s : Setting) (sums : Sums) (rows : ℕ) : Type 0 where
  pub assignment : Assignment
  pub before : ℕ
  pub stands_for : stands s assignment before
  pub meets : MeetsBefore s assignment before
  pub within : before ≤ suc (length s.instants)
  pub many : rows ≤ before
  pub sums_are : sums ≡ sums_to (columns_of s.model.names) assignment (before - 1)

pub none_so_far : (stands : Setting → Assignment → ℕ → Type 0) (s : Setting) (S : Assignment) (sums : Sums) → stands s S 0 → sums ≡ no_sums → IsSoFar stands s sums 0
none_so_far stands s S sums stands_for none = record {
  assignment = S;
  before = 0;
  stands_for = stands_for;
  meets = λ k lt. absurd (omega (arith, lt));
  within = omega arith;
  many = omega arith;
  sums_are = none;
}

same_row : (xs ys : List (Option Value)) → Some xs ≡ Some ys → xs ≡ ys
same_row xs ys e = cc

-- one row more
pub row_so_far : (before after : Setting → Assignment → ℕ → Type 0) (s : Setting) (sums result : Sums) (rows : ℕ) (runner : Running) (values : List (Option Value)) → IsSoFar before s sums rows
    → AdvancesAs before after (given_by answer.Row runner) → row_given runner ≡ Some values → result ≡ with_row sums values → IsSoFar after s result (rows + 1)
row_so_far before after s sums result rows runner values so_far advanced at more =
    let row = gave_row before after s so_far.assignment so_far.before runner advanced so_far.stands_for in
    by_moment row row.gives.moment refl row.gives.later
  where
    columns : List ℕ
    columns = columns_of s.model.names

    by_moment : (row : IsRow after s so_far.assignment so_far.before runner) (k : ℕ) → row.gives.moment ≡ k → 0 < k → IsSoFar after s result (rows + 1)
    by_moment row zero is some = absurd (omega (arith, some))
    by_moment row (suc k) is some =
        let g = row.gives in
        let place : so_far.before - 1 ≡ k = elim g.next [
          | inl e ↦ omega (arith, e, is)
          | inr e ↦ omega (arith, e.0, e.1, is)
        ] in
        let values_are : values ≡ map (λ x. g.after x (suc k)) columns =
        same_row values row.values (sym at ∙ row.row_is) ∙ subst (λ n. row.values ≡ map (λ x. g.after x n) columns) is g.values_are in
        let earlier : sums ≡ sums_to columns g.after k =
        so_far.sums_are ∙ sums_same columns so_far.assignment g.after (so_far.before - 1) (λ x m some le. g.agrees x m (omega (arith, some, le))) ∙ ap (sums_to columns g.after) place in
        let inside = moment_within s.instants g.moment (At row.at) g.found in
        record {
          assignment = g.after;
          before = g.moment + 1;
          stands_for = g.stands_for;
          meets = λ n lt. g.meets n (omega (arith, lt));
          within = omega (arith, inside);
          many = elim g.next [
            | inl e ↦ let many = so_far.many in omega (arith, e, many)
            | inr e ↦ let many = so_far.many in omega (arith, e.0, e.1, many)
          ];
          sums_are = more ∙ ap (λ sums. with_row sums values) earlier ∙ ap (with_row (sums_to columns g.after k)) values_are
              ∙ ap (sums_to columns g.after) (let e : suc k ≡ g.moment + 1 - 1 = omega (arith, is) in e);
        }

-- the run has come to its end
pub end_reached : (before after : Setting → Assignment → ℕ → Type 0) (s : Setting) (sums : Sums) (rows : ℕ) (runner : Running) → IsSoFar before s sums rows → AdvancesAs before after (given_by answer.End runner)
    → TalliesRun s (Ok sums)
end_reached before after s sums rows runner so_far advanced =
    let past : length s.instants < so_far.before = advanced s so_far.assignment so_far.before so_far.stands_for in
    let within = so_far.within in
    record {
      assignment = so_far.assignment;
      meets = λ k le. so_far.meets k (omega (arith, le, past));
      sums_are = so_far.sums_are ∙ ap (sums_to (columns_of s.model.names) so_far.assignment) (let e : so_far.before - 1 ≡ length s.instants = omega (arith, past, within) in e);
    }

-- the run has come to its first fault
pub fault_reached : (before after : Setting → Assignment → ℕ → Type 0) (s : Setting) (sums : Sums) (rows : ℕ) (runner : Running) (fault : Fault) → IsSoFar before s sums rows
    → AdvancesAs before after (given_by (answer.Fault fault) runner) → TalliesRun s (Err fault)
fault_reached before after s sums rows runner fault so_far advanced =
    let g = advanced s so_far.assignment so_far.before so_far.stands_for in (
      trace_text s.model.names g.after (take (g.moment - 1) s.instants),
      record {
        assignment = g.after;
        moment = g.moment;
        at = fault.moment;
        place = fault.place;
        kind = fault.kind;
        found = g.found;
        fault = g.first;
        out_is = refl;
        err_is = refl;
      },
    )

-- there are not too many rows so far to be counted
pub rows_few : (stands : Setting → Assignment → ℕ → Type 0) (s : Setting) (sums : Sums) (rows : ℕ) → IsSoFar stands s sums rows → length s.instants < 2 ^ 32 → sums.rows < 2 ^ 32
rows_few stands s sums rows so_far few =
    let count : sums.rows ≡ so_far.before - 1 = ap (λ (t : Sums). t.rows) so_far.sums_are ∙ rows_are (columns_of s.model.names) so_far.assignment (so_far.before - 1) in
    let within = so_far.within in omega (arith, count, within, few)

-- more rows than there are instants are never given
pub too_many : (stands : Setting → Assignment → ℕ → Type 0) (s : Setting) (sums : Sums) (rows limit : ℕ) → IsSoFar stands s sums rows → length s.instants < limit → limit < rows → ⊥
too_many stands s sums rows limit so_far few many = let within = so_far.within in let some = so_far.many in omega (arith, within, some, few, many)

-- a row has not more values than the model names
pub row_few : (before after : Setting → Assignment → ℕ → Type 0) (model : FlatModel) (s : Setting) (S : Assignment) (m : ℕ) (runner : Running) (values : List (Option Value)) → AreNames model.names
    → AdvancesAs before after (given_by answer.Row runner) → before s S m → s.model ≡ model → row_given runner ≡ Some values → length values ≤ 2 ^ 16
row_few before after model s S m runner values names advanced stands_for is at =
    let long = row_long before after model s S m runner advanced stands_for is values at in
    let few = columns_few 0 model.names in
    let names_few = names.few in omega (arith, long, few, names_few)
