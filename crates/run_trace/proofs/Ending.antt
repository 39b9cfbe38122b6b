-- How the call ends, from what was put on out and on err.
use Rattle.std.proofs.Common.{◌≡◌, ◌≢◌, refl, sym, subst, ◌∙◌, ℕ, ◌⊎◌, inl, inr, Bool, true, false, ◌-◌, List, [], take, codes, Option, Some, None}
use Rattle.rational_time.specs.declared.ratio.Ratio.{Ratio}
use Rattle.sync_values.specs.declared.value.Fail.{Fail}
use Rattle.outside_io.specs.Texts.{grown}
use Rattle.outside_io.proofs.Growth.{grown-nil}
use Rattle.flat_model.specs.declared.clock.Moment.{Moment}
use Rattle.flat_model.specs.declared.fault.Fault.{Fault}
use Rattle.flat_model.specs.declared.fault.FaultPlace.{FaultPlace}
use Rattle.flat_model.specs.declared.model.FlatName.{FlatName}
use Rattle.flat_model.specs.Assignment.{Assignment}
use Rattle.flat_model.specs.Runs.{fault_line}
use Rattle.flat_model.specs.Setting.{Setting}
use Rattle.flat_model.specs.Trace.{trace_text}
use Rattle.command_answer.specs.declared.status.Status.{Status}
use Rattle.command_answer.specs.declared.status.Status.TheVariants.{Done, Faulted, NoMemory, WriteFault}
use Rattle.command_answer.specs.Actions.{Runs}
use Rattle.command_answer.specs.Calls.{Outside, Written, GrewBoth, FailedOnOut, FailedOnErr, EndsWith, whole, out_failed, err_failed, no_memory}
use Rattle.command_answer.specs.Stages.{Answer}
use Rattle.run_trace.specs.declared.print.TraceEnd.{TraceEnd}
use Rattle.run_trace.specs.Printing.{EndsOn}
use Rattle.run_trace.specs.private.Putting.{IsPut, PutsLast, ReportsAs, Reports, IsRunTo, TracesRun}

-- texts that are not empty
trace_some : (names : List FlatName) (S : Assignment) (instants : List Ratio) → trace_text names S instants ≢ []
trace_some names S instants e = cc

pub line_some : (moment : Moment) (place : FaultPlace) (kind : Fail) → fault_line moment place kind ≢ []
line_some moment place kind e = cc

-- the answer of a run
abbrev right : Setting → Answer → Type 0
right s answer = Runs s answer ⊎ (answer ≡ no_memory)

abbrev answer_of : Option Fault → List ℕ → Answer
answer_of None text = record { status = Done; out = text; err = [] }
answer_of (Some fault) text = record { status = Faulted; out = text; err = fault_line fault.moment fault.place fault.kind }

is_right : (s : Setting) (fault : Option Fault) (text : List ℕ) → IsRunTo s fault text → right s (answer_of fault text)
is_right s None text run = inl (inl (refl, run))
is_right s (Some fault) text run = inl (inr (refl, run))

text_some : (s : Setting) (fault : Option Fault) (text : List ℕ) → IsRunTo s fault text → (answer_of fault text).out ≢ []
text_some s None text run e = trace_some s.model.names run.assignment s.instants (sym run.out_is ∙ e)
text_some s (Some fault) text run e = trace_some s.model.names run.assignment (take (run.moment - 1) s.instants) (sym run.out_is ∙ e)

out_is : (fault : Option Fault) (text : List ℕ) → (answer_of fault text).out ≡ text
out_is None text = refl
out_is (Some fault) text = refl

-- both sinks took an answer
pub both_grew : (Right : Answer → Type 0) (o : Outside) (out err : Written) (status : Status) (a : Answer) → o.out ≡ out → o.err ≡ err → Right a → status ≡ a.status → out.new ≡ grown a.out out.old → err.new ≡ grown a.err err.old → EndsWith Right o status
both_grew Right o out err status a on_out on_err is ended out_grew err_grew =
    let grew : GrewBoth out err a.out a.err = record { out_grew = out_grew; err_grew = err_grew } in
    whole a is ended (subst (λ w. GrewBoth w o.err a.out a.err) (sym on_out) (subst (λ w. GrewBoth out w a.out a.err) (sym on_err) grew))

-- out took its text, and err failed
err_fails : (Right : Answer → Type 0) (o : Outside) (out err : Written) (status : Status) (a : Answer) → o.out ≡ out → o.err ≡ err → Right a → status ≡ WriteFault → out.new ≡ grown a.out out.old → a.err ≢ [] → IsPut false a.err err → EndsWith Right o status
err_fails Right o out err status a on_out on_err is ended out_grew some (rose, err_grew) =
    let failed : FailedOnErr out err a.out a.err = record { rose = rose; some = some; out_grew = out_grew; err_grew = err_grew } in
    err_failed a is ended (subst (λ w. FailedOnErr w o.err a.out a.err) (sym on_out) (subst (λ w. FailedOnErr out w a.out a.err) (sym on_err) failed))

-- out failed, and err has nothing
pub out_fails : (Right : Answer → Type 0) (o : Outside) (out err : Written) (status : Status) (a : Answer) → o.out ≡ out → o.err ≡ err → Right a → status ≡ WriteFault → a.out ≢ [] → IsPut false a.out out → err.new ≡ err.old → EndsWith Right o status
out_fails Right o out err status a on_out on_err is ended some (rose, out_grew) err_stayed =
    let failed : FailedOnOut out err a.out = record { rose = rose; some = some; out_grew = out_grew; err_stayed = err_stayed } in
    out_failed a is ended (subst (λ w. FailedOnOut w o.err a.out) (sym on_out) (subst (λ w. FailedOnOut out w a.out) (sym on_err) failed))

-- a line on err behind what out took
pub last_line : (Right : Answer → Type 0) (o : Outside) (out err : Written) (status : Status) (a : Answer) → o.out ≡ out → o.err ≡ err → Right a → out.new ≡ grown a.out out.old → a.err ≢ [] → PutsLast a.status a.err status err → EndsWith Right o status
last_line Right o out err status a on_out on_err is out_grew some (inl (ended, put)) = both_grew Right o out err status a on_out on_err is ended out_grew put.0
last_line Right o out err status a on_out on_err is out_grew some (inr (ended, put)) = err_fails Right o out err status a on_out on_err is ended out_grew some put

ended : (s : Setting) (fault : Option Fault) (is_whole : Bool) (text : List ℕ) (out err : Written) (status : Status) (o : Outside) → o.out ≡ out → o.err ≡ err → IsRunTo s fault text → IsPut is_whole text out → ReportsAs is_whole fault status err
    → EndsWith (right s) o status
ended s fault false text out err status o on_out on_err run put (is, stayed) =
    out_fails (right s) o out err status (answer_of fault text) on_out on_err (is_right s fault text run) is (text_some s fault text run) (subst (λ t. IsPut false t out) (sym (out_is fault text)) put) stayed
ended s None true text out err status o on_out on_err run put (is, stayed) =
    both_grew (right s) o out err status (answer_of None text) on_out on_err (is_right s None text run) is put.0 (stayed ∙ sym (grown-nil err.old))
ended s (Some fault) true text out err status o on_out on_err run put report =
    last_line (right s) o out err status (answer_of (Some fault) text) on_out on_err (is_right s (Some fault) text run) put.0 (line_some fault.moment fault.place fault.kind) report

-- the trace is on out, and what ended the run was told
pub run_ends : (s : Setting) (end : TraceEnd) (out err : Written) (status : Status) → TracesRun s end out → Reports end status err → EndsOn (λ answer. Runs s answer ⊎ (answer ≡ no_memory)) out err status
run_ends s end out err status (text, run, put) report = λ o on_out on_err. ended s end.fault end.whole text out err status o on_out on_err run put report

-- memory was refused
pub memory_ends : (s : Setting) (out err : Written) (status : Status) → out.new ≡ out.old → PutsLast NoMemory (codes "no memory\n") status err → EndsOn (λ answer. Runs s answer ⊎ (answer ≡ no_memory)) out err status
memory_ends s out err status stayed last = λ o on_out on_err.
    last_line (right s) o out err status no_memory on_out on_err (inr refl) (stayed ∙ sym (grown-nil out.old)) some last
  where
    some : codes "no memory\n" ≢ []
    some e = cc
