-- How the call ends, from what was added up and put.
use Rattle.std.proofs.Common.{◌≡◌, ◌≢◌, refl, ap, sym, subst, ◌∙◌, ℕ, inl, inr, ◌⊎◌, [], codes, Ok, Err}
use Rattle.outside_io.proofs.Growth.{grown-nil}
use Rattle.flat_model.specs.declared.fault.Fault.{Fault}
use Rattle.flat_model.specs.Runs.{fault_line}
use Rattle.flat_model.specs.Setting.{Setting}
use Rattle.stress_sums.specs.declared.sums.Sums.{Sums}
use Rattle.stress_sums.specs.Sums.{sums_text}
use Rattle.command_answer.specs.declared.status.Status.{Status}
use Rattle.command_answer.specs.declared.status.Status.TheVariants.{Done, Faulted, NoMemory}
use Rattle.command_answer.specs.Calls.{Written, no_memory}
use Rattle.command_answer.specs.Stages.{Answer, printed}
use Rattle.run_trace.specs.Printing.{EndsOn}
use Rattle.run_trace.specs.private.Putting.{PutsLast}
use Rattle.run_trace.proofs.Ending.{line_some, both_grew, out_fails, last_line}
use Rattle.run_tally.specs.Tallies.{AddsUp, TalliesRun}

lines_some : (members : ℕ) (sums : Sums) → sums_text members sums ≢ []
unfolding sums_text
lines_some members sums e = cc

-- the right answer
abbrev right : ℕ → Setting → Answer → Type 0
right members s answer = AddsUp members s answer ⊎ (answer ≡ no_memory)

-- what the rows add up to was put on out
pub sums_told : (members : ℕ) (s : Setting) (sums : Sums) (out err : Written) (status : Status) → TalliesRun s (Ok sums) → PutsLast Done (sums_text members sums) status out → err.new ≡ err.old → EndsOn (right members s) out err status
sums_told members s sums out err status tally puts stayed = λ o on_out on_err. by_put puts o on_out on_err
  where
    is_right : right members s (printed (sums_text members sums))
    is_right = inl (inl (tally.assignment, tally.meets, ap (λ t. printed (sums_text members t)) tally.sums_are))

    by_put : PutsLast Done (sums_text members sums) status out → EndsOn (right members s) out err status
    by_put (inl (is, put)) o on_out on_err = both_grew (right members s) o out err status (printed (sums_text members sums)) on_out on_err is_right is put.0 (stayed ∙ sym (grown-nil err.old))
    by_put (inr (is, put)) o on_out on_err = out_fails (right members s) o out err status (printed (sums_text members sums)) on_out on_err is_right is (lines_some members sums) put stayed

-- the fault was put on err
pub fault_told : (members : ℕ) (s : Setting) (fault : Fault) (out err : Written) (status : Status) → TalliesRun s (Err fault) → PutsLast Faulted (fault_line fault.moment fault.place fault.kind) status err → out.new ≡ out.old → EndsOn (right members s) out err status
fault_told members s fault out err status (text, run) puts stayed = λ o on_out on_err.
    last_line (right members s) o out err status (record { status = Faulted; out = []; err = fault_line fault.moment fault.place fault.kind }) on_out on_err
    (inl (inr (text, fault_line fault.moment fault.place fault.kind, run, refl))) (stayed ∙ sym (grown-nil out.old)) (line_some fault.moment fault.place fault.kind) puts

-- memory was refused
pub memory_told : (members : ℕ) (s : Setting) (out err : Written) (status : Status) → out.new ≡ out.old → PutsLast NoMemory (codes "no memory\n") status err → EndsOn (right members s) out err status
memory_told members s out err status stayed last = λ o on_out on_err.
    last_line (right members s) o out err status no_memory on_out on_err (inr refl) (stayed ∙ sym (grown-nil out.old)) some last
  where
    some : codes "no memory\n" ≢ []
    some e = cc
