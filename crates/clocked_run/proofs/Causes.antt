-- Why a call ends as it does.
use Rattle.std.proofs.Common.{◌≡◌, refl, ap, sym, subst, ◌∙◌, ℕ, ◌≤◌, ◌⊎◌, inl, inr, List, Option, Some, None, Result, slice_get, option_map}
use Rattle.outside_io.specs.Texts.{grown}
use Rattle.outside_io.proofs.Growth.{grown-nil}
use Rattle.command_words.specs.Answer.{IsCommand, IsUsage}
use Rattle.command_words.specs.Choice.{Choice}
use Rattle.command_words.specs.Lines.{usage_line}
use Rattle.command_words.specs.declared.command.Mode.{Mode}
use Rattle.command_words.specs.declared.command.Mode.TheVariants as mode
use Rattle.command_words.specs.declared.command.UsageFault.{UsageFault}
use Rattle.mo_lexer.specs.declared.fault.LexEnd.{LexEnd}
use Rattle.mo_lexer.specs.declared.fault.LexEnd.TheVariants as lex
use Rattle.mo_parser.specs.declared.syntax.ParseEnd.{ParseEnd}
use Rattle.mo_parser.specs.declared.syntax.ParseEnd.TheVariants as syntax
use Rattle.flat_model.specs.declared.model.FlatModel.{FlatModel}
use Rattle.flat_model.specs.declared.place.Place.{Place}
use Rattle.flat_model.specs.Setting.{Setting}
use Rattle.flat_answer.specs.declared.end.FlattenEnd.{FlattenEnd}
use Rattle.flat_answer.specs.declared.end.FlattenEnd.TheVariants as flatten
use Rattle.flat_types.specs.declared.ends.TypeEnd.{TypeEnd}
use Rattle.flat_types.specs.declared.ends.TypeEnd.TheVariants as type
use Rattle.clock_terms.specs.declared.data.Classes.{Classes}
use Rattle.base_partition.specs.declared.kinds.ClassEnd.{ClassEnd}
use Rattle.base_partition.specs.declared.kinds.ClassEnd.TheVariants as class
use Rattle.sub_clock_solve.specs.declared.kinds.SolveEnd.{SolveEnd}
use Rattle.sub_clock_solve.specs.declared.kinds.SolveEnd.TheVariants as solve
use Rattle.clock_check.specs.declared.kinds.CheckEnd.{CheckEnd}
use Rattle.clock_check.specs.declared.kinds.CheckEnd.TheVariants as check
use Rattle.eq_order.specs.declared.ends.OrderEnd.{OrderEnd}
use Rattle.eq_order.specs.declared.ends.OrderEnd.TheVariants as order
use Rattle.input_table.specs.declared.ends.TableEnd.{TableEnd}
use Rattle.input_table.specs.declared.ends.TableEnd.TheVariants as table
use Rattle.tick_plan.specs.declared.plan_end.PlanEnd.{PlanEnd}
use Rattle.tick_plan.specs.declared.plan_end.PlanEnd.TheVariants as plan
use Rattle.trace_print.specs.declared.code.Code.{Code}
use Rattle.trace_print.specs.declared.code.Code.TheVariants.{C2, C3, C6, C8, C9}
use Rattle.command_answer.specs.declared.status.Status.{Status}
use Rattle.command_answer.specs.declared.status.Status.TheVariants.{Done, Refused, Faulted, Usage, ReadFault, WriteFault, NoMemory}
use Rattle.command_answer.specs.Actions.{Runs, RunsAlone, Stresses, clocking_of, model_file, source_in, model_of, table_of, setting_of, in_mode, actions}
use Rattle.command_answer.specs.Calls.{Outside, ReadRose, WriteRose, EndsWith, whole, out_failed, err_failed, IsNamed, IsRight, reads_in, no_memory}
use Rattle.command_answer.specs.Layers.{asked, few, lexed, parsed, flattened, typed, termed, classed, solved, checked, ordered, tabled, untabled, counted, timed}
use Rattle.command_answer.specs.Stages.{Answer, Stage, ◌>>=◌, always, ends_with, layer, refused, printed, usage_answer}
use Rattle.command_answer.specs.Told.{told_lexical, told_syntax, told_names, told_types, told_classes, told_clocks, told_checks, told_order, told_table, told_plan}
use Rattle.command_answer.proofs.Calling.{call_of, printed_is}
use Rattle.command_stages.specs.Reading.{KeepsShelf}
use Rattle.clocked_run.specs.TopCall.{TopCall}

-- a rule is broken
abbrev IsRefusal : Option Answer → Type 0
IsRefusal None = Unit {0}
IsRefusal (Some answer) = answer.status ≡ Refused

lexical : (text : List ℕ) (e : LexEnd) → IsRefusal (told_lexical text e)
lexical text (lex.Fault code at) = refl
lexical text lex.NoMemory = tt

syntactic : (text : List ℕ) (e : ParseEnd) → IsRefusal (told_syntax text e)
syntactic text (syntax.Fault code at) = refl
syntactic text syntax.NoMemory = tt

names : (e : FlattenEnd) → IsRefusal (told_names e)
names (flatten.Fault code at) = refl
names flatten.NoMemory = tt

types : (e : TypeEnd) → IsRefusal (told_types e)
types (type.Fault code i) = refl
types type.NoMemory = tt

class_at : (code : Code) (o : Option Place) → IsRefusal (option_map (refused code) o)
class_at code (Some at) = refl
class_at code None = tt

mixed : (e : ClassEnd) → IsRefusal (told_classes e)
mixed (class.Mixed at) = refl
mixed (class.BaseMixed i) = refl
mixed class.NoMemory = tt

clocks : (classes : Classes) (e : SolveEnd) → IsRefusal (told_clocks classes e)
clocks classes (solve.Unknown c) = class_at C2 (slice_get classes.places c)
clocks classes (solve.TooFine c) = class_at C3 (slice_get classes.places c)
clocks classes (solve.Conflict i) = refl
clocks classes solve.NoMemory = tt

checks : (classes : Classes) (e : CheckEnd) → IsRefusal (told_checks classes e)
checks classes (check.Factor i) = refl
checks classes (check.EarlyStart c) = class_at C6 (slice_get classes.places c)
checks classes (check.NotOnEvent c) = class_at C8 (slice_get classes.places c)
checks classes (check.EventFactor c) = class_at C9 (slice_get classes.places c)
checks classes (check.HoldInCondition i) = refl
checks classes check.NoMemory = tt

orders : (e : OrderEnd) → IsRefusal (told_order e)
orders (order.Fault code at) = refl
orders order.NoMemory = tt

tables : (e : TableEnd) → IsRefusal (told_table e)
tables (table.Fault code at) = refl
tables table.NoMemory = tt

plans : (e : PlanEnd) → IsRefusal (told_plan e)
plans (plan.TooMany count) = refl
plans plan.NoMemory = tt

module _ (words : List (List ℕ)) (o : Outside) where
  -- why an answer has its status
  abbrev Cause : Status → Type 0
  Cause Usage = (fault : UsageFault) × IsUsage words fault
  Cause ReadFault = (name : List ℕ) × IsNamed words o name × ReadRose o name
  Cause WriteFault = ⊥
  Cause NoMemory = ⊥
  Cause Done = Unit {0}
  Cause Refused = Unit {0}
  Cause Faulted = Unit {0}

  -- each answer with which the stage ends has its cause
  Caused : {A : Type 0} → Stage A → Type 0
  Caused stage = (a : Answer) → stage.ends a → Cause a.status

  both : {A B : Type 0} (R : Stage A) (S : A → Stage B) → Caused R → ((x : A) → R.makes x → Caused (S x)) → Caused (R >>= S)
  unfolding ◌>>=◌ Caused
  both R S first next a (inl e) = first a e
  both R S first next a (inr (x, made, e)) = next x made a e

  refusal : (a : Answer) → a.status ≡ Refused → Cause a.status
  refusal a is = subst Cause (sym is) tt

  told_refusal : (t : Option Answer) → IsRefusal t → (a : Answer) → t ≡ Some a → Cause a.status
  told_refusal None is a same = absurd (cc same)
  told_refusal (Some b) is a same = let one : b ≡ a = cc same in refusal a (ap (λ (x : Answer). x.status) (sym one) ∙ is)

  layered : {A E : Type 0} (answers : Result A E → Type 0) (told : E → Option Answer) → ((e : E) → IsRefusal (told e)) → Caused (layer answers told)
  unfolding layer Caused
  layered answers told each a (e, p, same) = told_refusal (told e) (each e) a same

  sure : {A : Type 0} (P : A → Type 0) → Caused (always P)
  unfolding always Caused
  sure P a e = absurd e

  few_caused : (limit : ℕ) (at : Place) (bytes : List ℕ) → Caused (few limit at bytes)
  unfolding few Caused
  few_caused limit at bytes a (over, same) = refusal a (ap (λ (x : Answer). x.status) same)

  read_caused : (name : List ℕ) → IsNamed words o name → Caused (reads_in o name)
  unfolding reads_in Caused
  read_caused name named a (rose, same) = subst Cause (ap (λ (x : Answer). x.status) (sym same)) (name, named, rose)

  printed_caused : (text : List ℕ) → Caused (ends_with (λ answer. answer ≡ printed text))
  unfolding ends_with Caused
  printed_caused text a same = subst Cause (ap (λ (x : Answer). x.status) (sym same)) tt

  run_caused : (s : Setting) → Caused (ends_with (RunsAlone s))
  unfolding ends_with Caused
  run_caused s a (inl (is, run), alone) = subst Cause (sym is) tt
  run_caused s a (inr (is, run), alone) = subst Cause (sym is) tt

  stress_caused : (members : ℕ) (s : Setting) → Caused (ends_with (Stresses members s))
  unfolding ends_with Caused
  stress_caused members s a is = by_run is.runs.0
    where
      by_run : Runs s is.run → Cause a.status
      by_run (inl (ended, run)) = subst Cause (ap (λ (x : Answer). x.status) (sym (is.done ended run.assignment run.meets))) tt
      by_run (inr (ended, run)) = subst Cause (ap (λ (x : Answer). x.status) (sym (is.faulted ended))) tt

  asked_caused : Caused (asked words)
  unfolding asked layer Caused
  asked_caused a (fault, usage, same) = let one : usage_answer (usage_line fault) ≡ a = cc same in subst Cause (ap (λ (x : Answer). x.status) one) (fault, usage)

  clocking_caused : (flat : FlatModel) → Caused (clocking_of flat)
  unfolding clocking_of termed classed solved checked
  clocking_caused flat = both _ _ (sure _) (λ terms m. both _ _ (layered _ _ mixed) (λ classes n. both _ _ (layered _ _ (clocks classes)) (λ grids k. layered _ _ (checks classes))))

  source_caused : (mode : Mode) (name : List ℕ) → ((file : List ℕ) → model_file mode name ≡ Some file → Caused (reads_in o file)) → Caused (source_in (reads_in o) mode name)
  unfolding source_in
  source_caused mode.Run name files = files name refl
  source_caused mode.Flat name files = files name refl
  source_caused mode.Clocks name files = files name refl
  source_caused (mode.Stress members) name files = sure _

  module _ (c : Choice) (is : IsCommand words c) where
    model_caused : Caused (model_of (reads_in o) c)
    unfolding model_of lexed parsed flattened typed
    model_caused = both _ _ (source_caused c.mode c.model (λ file at. read_caused file (c, is, inl at))) (λ text m. both _ _ (few_caused _ _ text) (λ _ n. both _ _ (layered _ _ (lexical text)) (λ tokens k.
        both _ _ (layered _ _ (syntactic text)) (λ tree l. both _ _ (layered _ _ names) (λ raw h. layered _ _ types)))))

    table_caused : (flat : FlatModel) (file : Option (List ℕ)) → c.table ≡ file → Caused (table_of (reads_in o) flat file)
    unfolding table_of tabled untabled
    table_caused flat None at = layered _ _ tables
    table_caused flat (Some file) at = both _ _ (read_caused file (c, is, inr at)) (λ bytes m. both _ _ (few_caused _ _ bytes) (λ _ n. layered _ _ tables))

    setting_caused : (flat : FlatModel) → Caused (setting_of (reads_in o) c flat)
    unfolding setting_of ordered counted timed
    setting_caused flat = both _ _ (clocking_caused flat) (λ clocking m. both _ _ (layered _ _ orders) (λ order n. both _ _ (table_caused flat c.table refl) (λ table k.
        both _ _ (layered _ _ plans) (λ _ l. both _ _ (sure _) (λ instants h. sure _)))))

    mode_caused : (mode : Mode) (flat : FlatModel) → Caused (in_mode (reads_in o) mode c flat)
    unfolding in_mode
    mode_caused mode.Flat flat = printed_caused _
    mode_caused mode.Clocks flat = both _ _ (clocking_caused flat) (λ clocking m. printed_caused _)
    mode_caused mode.Run flat = both _ _ (setting_caused flat) (λ s m. run_caused s)
    mode_caused (mode.Stress members) flat = both _ _ (setting_caused flat) (λ s m. stress_caused members s)

  caused : Caused (actions (reads_in o) words)
  unfolding actions asked layer
  caused = both _ _ asked_caused (λ c is. both _ _ (model_caused c is) (λ flat m. mode_caused c is c.mode flat))

  -- an answer that is right has its cause, or memory was refused
  right_caused : (a : Answer) (status : Status) → IsRight words o a → status ≡ a.status → Cause status ⊎ (a ≡ no_memory)
  unfolding Caused
  right_caused a status (inl e) same = inl (subst Cause (sym same) (caused a e))
  right_caused a status (inr e) same = inr e

  module _ (status : Status) where
    memory_is : (a : Answer) → a ≡ no_memory → status ≡ a.status → status ≡ NoMemory
    memory_is a e same = same ∙ ap (λ (x : Answer). x.status) e

    usage_cause : EndsWith (IsRight words o) o status → status ≡ Usage → (fault : UsageFault) × IsUsage words fault
    usage_cause (whole a right same grew) is = elim (right_caused a status right same) [ inl cause ↦ subst Cause is cause | inr e ↦ absurd (let two : Usage ≡ NoMemory = sym is ∙ memory_is a e same in cc two) ]
    usage_cause (out_failed a right same failed) is = absurd (let two : Usage ≡ WriteFault = sym is ∙ same in cc two)
    usage_cause (err_failed a right same failed) is = absurd (let two : Usage ≡ WriteFault = sym is ∙ same in cc two)

    read_cause : EndsWith (IsRight words o) o status → status ≡ ReadFault → (name : List ℕ) × IsNamed words o name × ReadRose o name
    read_cause (whole a right same grew) is = elim (right_caused a status right same) [ inl cause ↦ subst Cause is cause | inr e ↦ absurd (let two : ReadFault ≡ NoMemory = sym is ∙ memory_is a e same in cc two) ]
    read_cause (out_failed a right same failed) is = absurd (let two : ReadFault ≡ WriteFault = sym is ∙ same in cc two)
    read_cause (err_failed a right same failed) is = absurd (let two : ReadFault ≡ WriteFault = sym is ∙ same in cc two)

    write_cause : EndsWith (IsRight words o) o status → status ≡ WriteFault → WriteRose o.out ⊎ WriteRose o.err
    write_cause (whole a right same grew) is = elim (right_caused a status right same) [ inl cause ↦ absurd (subst Cause is cause) | inr e ↦ absurd (let two : WriteFault ≡ NoMemory = sym is ∙ memory_is a e same in cc two) ]
    write_cause (out_failed a right same failed) is = inl failed.rose
    write_cause (err_failed a right same failed) is = inr failed.rose

    memory_cause : EndsWith (IsRight words o) o status → status ≡ NoMemory → o.out.new ≡ o.out.old
    memory_cause (whole a right same grew) is = elim (right_caused a status right same) [
      | inl cause ↦ absurd (subst Cause is cause)
      | inr e ↦ grew.out_grew ∙ ap (λ (x : Answer). grown x.out o.out.old) e ∙ grown-nil o.out.old
    ]
    memory_cause (out_failed a right same failed) is = absurd (let two : NoMemory ≡ WriteFault = sym is ∙ same in cc two)
    memory_cause (err_failed a right same failed) is = absurd (let two : NoMemory ≡ WriteFault = sym is ∙ same in cc two)

    -- all that is said of a call follows from how it ends
    pub top_call : EndsWith (IsRight words o) o status → KeepsShelf o.held o.held_after o.empty o.empty_after o.faults o.faults_after → (o.out.before ≤ o.out.after) × (o.err.before ≤ o.err.after) → TopCall words o status
    top_call ends shelf counts =
        let call = call_of words o status ends in
        record {
          complete = call.complete;
          printed = printed_is words o status call;
          only = call.only;
          ends = ends;
          refuses = call.usage;
          usage = usage_cause ends;
          read_fault = read_cause ends;
          write_fault = write_cause ends;
          no_memory = memory_cause ends;
          shelf = shelf;
          counts = counts;
        }
