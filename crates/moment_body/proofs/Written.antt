-- How a sheet is written on at a moment.
use Rattle.std.proofs.Common.{◌≡◌, ap, ◌∙◌, ℕ, suc, Bool, List, ◌++◌, length, map, take, drop, arith}
use Rattle.std.proofs.lemmas.List.{length-map, take-append-le, take_all}
use Rattle.flat_model.specs.Values.{value_in}
use Rattle.flat_model.specs.Assignment.{Assignment}
use Rattle.flat_model.specs.Setting.{Setting, site_answer, is_false}
use Rattle.site_risings.specs.Risings.{was_low}
use Rattle.moment_body.specs.declared.sheet.Sheet.{Sheet}
use Rattle.moment_body.specs.Kept.{IsSheetOf, AreLow}
use Rattle.moment_body.specs.Stepping.{Values}

-- the columns stay, and the room for values; what was low is kept, and the row has the last values of the columns
pub record IsWritten (old new : Sheet) (last : Values) (lows : List Bool) : Type 0 where
  pub columns : new.columns ≡ old.columns
  pub now : length new.now.items ≡ length old.now.items
  pub answers : length new.answers.items ≡ length old.answers.items
  pub low : length new.low.items ≡ length old.low.items
  pub low_is : new.low.items ≡ lows
  pub row_is : new.row.items ≡ map (λ x. value_in last x) old.columns

-- a list of the same length in place of all of an old one
pub whole_back : {A : Type 0} (n : ℕ) (old new : List A) → n ≡ length old → length new ≡ length old → take n (new ++ drop (length new) old) ≡ new
whole_back n old new all same = take-append-le n new (drop (length new) old) (omega (arith, all, same)) ∙ take_all n new (omega (arith, all, same))

pub sheet_still : (s : Setting) (old new : Sheet) (last : Values) (lows : List Bool) → IsSheetOf s old → IsWritten old new last lows → IsSheetOf s new
sheet_still s old new last lows is written = record {
  columns = written.columns ∙ is.columns;
  few = is.few;
  now = written.now ∙ is.now;
  answers = written.answers ∙ is.answers;
  low = written.low ∙ is.low;
  row = ap length written.row_is ∙ length-map old.columns (λ x. value_in last x) ∙ ap length is.columns;
}

pub low_next : (s : Setting) (T : Assignment) (n : ℕ) (old new : Sheet) (last : Values) (lows : List Bool) → IsWritten old new last lows → ((site : ℕ) → was_low lows site ≡ is_false (site_answer s T site n)) → AreLow s T (suc n) new
low_next s T n old new last lows written low_at = record {
  before = λ site k e. let same : n ≡ k = omega (arith, e) in ap (λ l. was_low l site) written.low_is ∙ low_at site ∙ ap (λ j. is_false (site_answer s T site j)) same;
  first = λ site e. absurd (omega (arith, e));
}
