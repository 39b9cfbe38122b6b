-- How much of a text was put, line by line.
use Rattle.std.specs.Prelude.{◌≡◌, ◌⊎◌, ℕ, Bool, true, false, List, [], length, Option, Some, None}
use Rattle.outside_io.specs.Texts.{grown, GrewByPrefix}
use Rattle.rational_time.specs.declared.ratio.Ratio.{Ratio}
use Rattle.sync_values.specs.declared.value.Value.{Value}
use Rattle.flat_model.specs.declared.clock.Moment.TheVariants.{At}
use Rattle.flat_model.specs.declared.fault.Fault.{Fault}
use Rattle.flat_model.specs.declared.model.FlatModel.{FlatModel}
use Rattle.flat_model.specs.Assignment.{Assignment}
use Rattle.flat_model.specs.Runs.{IsWholeRun, IsFaultedRun, fault_line}
use Rattle.flat_model.specs.Setting.{Setting}
use Rattle.flat_model.specs.Trace.{row_text}
use Rattle.run_ahead.specs.Ahead.{Running, moment_given, row_given}
use Rattle.command_answer.specs.declared.status.Status.{Status}
use Rattle.command_answer.specs.declared.status.Status.TheVariants.{Done, Faulted, WriteFault}
use Rattle.command_answer.specs.Calls.{Written, WriteRose}
use Rattle.run_trace.specs.declared.print.TraceEnd.{TraceEnd}

-- the whole of a text was put, and no put failed; or a put failed in its midst
abbrev pub IsPut : Bool → List ℕ → Written → Type 0
IsPut true text sink = (sink.new ≡ grown text sink.old) × (sink.after ≡ sink.before)
IsPut false text sink = WriteRose sink × GrewByPrefix text sink.old sink.new

-- one piece more is put, unless a put had failed
abbrev pub IsPutBehind : Bool → Bool → List ℕ → Written → Type 0
IsPutBehind true result piece sink = IsPut result piece sink
IsPutBehind false result piece sink = (result ≡ false) × (sink.new ≡ sink.old) × (sink.after ≡ sink.before)

-- the row given last is put as the next piece
abbrev pub IsPutRow : Bool → Bool → Running → Written → Type 0
IsPutRow whole result runner sink = (at : Ratio) (values : List (Option Value)) → moment_given runner ≡ Some (At at) → row_given runner ≡ Some values → IsPutBehind whole result (row_text at values) sink

-- the row given last has so many values
abbrev pub HasRowOf : Running → ℕ → Type 0
HasRowOf runner columns = (values : List (Option Value)) → row_given runner ≡ Some values → length values ≡ columns

-- the last line was put whole, or err failed in its midst
abbrev pub PutsLast : Status → List ℕ → Status → Written → Type 0
PutsLast status line result err = ((result ≡ status) × IsPut true line err) ⊎ ((result ≡ WriteFault) × IsPut false line err)

-- where the whole trace was put, the line of its fault is the last one, and a run without a fault has none; where a put on out failed nothing is put on err
abbrev pub ReportsAs : Bool → Option Fault → Status → Written → Type 0
ReportsAs false fault result err = (result ≡ WriteFault) × (err.new ≡ err.old)
ReportsAs true None result err = (result ≡ Done) × (err.new ≡ err.old)
ReportsAs true (Some fault) result err = PutsLast Faulted (fault_line fault.moment fault.place fault.kind) result err

abbrev pub Reports : TraceEnd → Status → Written → Type 0
Reports end result err = ReportsAs end.whole end.fault result err

-- a run to its end, or to its first fault
abbrev pub IsRunTo : Setting → Option Fault → List ℕ → Type 0
IsRunTo s None text = IsWholeRun s text []
IsRunTo s (Some fault) text = IsFaultedRun s text (fault_line fault.moment fault.place fault.kind)

-- the trace of a run was put on out as the end tells
abbrev pub TracesRun : Setting → TraceEnd → Written → Type 0
TracesRun s end out = (text : List ℕ) × IsRunTo s end.fault text × IsPut end.whole text out

abbrev pub TracesRuns : (Setting → Assignment → ℕ → Type 0) → FlatModel → TraceEnd → Written → Type 0
TracesRuns stands model end out = (s : Setting) (S : Assignment) → stands s S 0 → s.model ≡ model → TracesRun s end out
