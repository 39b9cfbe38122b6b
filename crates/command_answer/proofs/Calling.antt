-- What a call does follows from how it ends.
use Rattle.std.proofs.Common.{◌≡◌, ◌≢◌, refl, ap, sym, subst, ◌∙◌, ℕ, ◌⊎◌, inl, inr, true, false, List, [], Option, Some, None, Ok, Err}
use Rattle.outside_io.specs.Texts.{grown}
use Rattle.outside_io.proofs.Growth.{grown-nil}
use Rattle.outside_io.specs.Files.{File, known, known_of, first_named, IsWhole}
use Rattle.command_words.specs.Answer.{IsCommand, IsUsage}
use Rattle.command_words.specs.Choice.{Choice}
use Rattle.command_words.specs.Lines.{usage_line}
use Rattle.command_words.specs.declared.command.Mode.{Mode}
use Rattle.command_words.specs.declared.command.Mode.TheVariants.{Run, Flat, Clocks, Stress}
use Rattle.command_words.specs.declared.command.UsageFault.{UsageFault}
use Rattle.command_words.proofs.OneChoice as words_once
use Rattle.flat_model.specs.declared.model.FlatModel.{FlatModel}
use Rattle.command_answer.specs.declared.status.Status.{Status}
use Rattle.command_answer.specs.declared.status.Status.TheVariants.{Usage, ReadFault, WriteFault, NoMemory}
use Rattle.command_answer.specs.Actions.{model_file, source_in, model_of, table_of, setting_of, in_mode, actions, known_files, IsAnswer}
use Rattle.command_answer.specs.Calls.{Outside, files_of, KnowsFiles, ReadRose, WriteRose, GrewBoth, read_fault, reads_in, EndsWith, whole, out_failed, err_failed, IsQuiet, IsRight, Answers, CallLaw, PrintedLaw}
use Rattle.command_answer.specs.Layers.{asked}
use Rattle.command_answer.specs.Stages.{Answer, Stage, ◌>>=◌, always, layer, usage_answer}
use Rattle.command_answer.proofs.OneAnswer.{one_answer}

module _ (P : Answer → Type 0) where
  -- what a stage makes another makes, and where it ends with an answer that is asked about so does the other
  pub record Under {A : Type 0} (R T : Stage A) : Type 0 where
    pub makes : (x : A) → R.makes x → T.makes x
    pub ends : (a : Answer) → P a → R.ends a → T.ends a

  itself : {A : Type 0} (R : Stage A) → Under R R
  itself R = record { makes = λ x m. m; ends = λ a p e. e }

  both : {A B : Type 0} (R T : Stage A) (S U : A → Stage B) → Under R T → ((x : A) → R.makes x → Under (S x) (U x)) → Under (R >>= S) (T >>= U)
  unfolding ◌>>=◌
  both {A} {B} R T S U first next = record { makes = λ y (x, m, n). (x, first.makes x m, (next x m).makes y n); ends = ends }
    where
      ends : (a : Answer) → P a → (R >>= S).ends a → (T >>= U).ends a
      ends a p (inl e) = inl (first.ends a p e)
      ends a p (inr (x, m, e)) = inr (x, first.makes x m, (next x m).ends a p e)

  module _ (reads reads' : List ℕ → Stage (List ℕ)) (c : Choice)
      (model : (file : List ℕ) → model_file c.mode c.model ≡ Some file → Under (reads file) (reads' file)) (table : (file : List ℕ) → c.table ≡ Some file → Under (reads file) (reads' file)) where
    under_source : (mode : Mode) (name : List ℕ) → ((file : List ℕ) → model_file mode name ≡ Some file → Under (reads file) (reads' file)) → Under (source_in reads mode name) (source_in reads' mode name)
    unfolding source_in
    under_source Run name files = files name refl
    under_source Flat name files = files name refl
    under_source Clocks name files = files name refl
    under_source (Stress members) name files = itself _

    under_model : Under (model_of reads c) (model_of reads' c)
    unfolding model_of
    under_model = both _ _ _ _ (under_source c.mode c.model model) (λ bytes m. itself _)

    under_table : (flat : FlatModel) (file : Option (List ℕ)) → c.table ≡ file → Under (table_of reads flat file) (table_of reads' flat file)
    unfolding table_of
    under_table flat None is = itself _
    under_table flat (Some file) is = both _ _ _ _ (table file is) (λ bytes m. itself _)

    under_setting : (flat : FlatModel) → Under (setting_of reads c flat) (setting_of reads' c flat)
    unfolding setting_of
    under_setting flat = both _ _ _ _ (itself _) (λ clocking m. both _ _ _ _ (itself _) (λ order n. both _ _ _ _ (under_table flat c.table refl) (λ rows k. itself _)))

    under_mode : (mode : Mode) (flat : FlatModel) → Under (in_mode reads mode c flat) (in_mode reads' mode c flat)
    unfolding in_mode
    under_mode Flat flat = itself _
    under_mode Clocks flat = itself _
    under_mode Run flat = both _ _ _ _ (under_setting flat) (λ s m. itself _)
    under_mode (Stress members) flat = both _ _ _ _ (under_setting flat) (λ s m. itself _)

  pub under : (words : List (List ℕ)) (reads reads' : List ℕ → Stage (List ℕ))
      → ((c : Choice) → IsCommand words c → (name : List ℕ) → (model_file c.mode c.model ≡ Some name) ⊎ (c.table ≡ Some name) → Under (reads name) (reads' name))
      → Under (actions reads words) (actions reads' words)
  unfolding actions asked layer
  under words reads reads' files = both _ _ _ _ (itself _) (λ c is. both _ _ _ _
      (under_model reads reads' c (λ file at. files c is file (inl at)) (λ file at. files c is file (inr at)))
      (λ flat m. under_mode reads reads' c (λ file at. files c is file (inl at)) (λ file at. files c is file (inr at)) c.mode flat))

module _ (words : List (List ℕ)) (o : Outside) where
  -- what was read whole from files that are known is what is known
  told_bytes : KnowsFiles o → (name bytes : List ℕ) → IsWhole (files_of o name) bytes → files_of o name ≡ File bytes
  told_bytes (files, held) name bytes is =
      ap (λ h. known h o.empty name) held ∙ whole_is o.empty (first_named name files) (subst (λ h. IsWhole (known h o.empty name) bytes) held is)
    where
      whole_is : (empty : _) (found : Option (List ℕ)) → IsWhole (known_of empty found) bytes → known_of empty found ≡ File bytes
      whole_is empty (Some file) is = ap File (sym is)
      whole_is true None is = ap File (sym is)
      whole_is false None is = absurd is

  told_under : (P : Answer → Type 0) → KnowsFiles o → (name : List ℕ) → (P (read_fault name) → ReadRose o name → ⊥) → Under P (reads_in o name) (known_files (files_of o) name)
  unfolding reads_in known_files always
  told_under P tells name none = record { makes = λ bytes is. told_bytes tells name bytes is; ends = λ a p (rose, e). none (subst P e p) rose }

  answer_is : KnowsFiles o → (a : Answer) → (a.status ≢ ReadFault) → (actions (reads_in o) words).ends a → IsAnswer (files_of o) words a
  answer_is tells a other e = (under (λ b. b.status ≢ ReadFault) words (reads_in o) (known_files (files_of o)) (λ c is name at. told_under _ tells name (λ p rose. p refl))).ends a other e

  quiet_is : KnowsFiles o → IsQuiet words o → (a : Answer) → (actions (reads_in o) words).ends a → IsAnswer (files_of o) words a
  quiet_is tells quiet a e =
      (under (λ b. Unit {0}) words (reads_in o) (known_files (files_of o)) (λ c is name at. told_under _ tells name (λ p rose. quiet.reads name (c, is, at) rose))).ends a tt e

  completes : (status : Status) → EndsWith (IsRight words o) o status → KnowsFiles o → IsQuiet words o → Answers words o status ⊎ ((status ≡ NoMemory) × (o.out.new ≡ o.out.old))
  completes status (whole a (inl e) is grew) tells quiet = inl (a, quiet_is tells quiet a e, is, grew)
  completes status (whole a (inr e) is grew) tells quiet =
      inr (is ∙ ap (λ (b : Answer). b.status) e, grew.out_grew ∙ ap (λ (b : Answer). grown b.out o.out.old) e ∙ grown-nil o.out.old)
  completes status (out_failed a right is failed) tells quiet = absurd (quiet.outs failed.rose)
  completes status (err_failed a right is failed) tells quiet = absurd (quiet.errs failed.rose)

  only_answers : (status : Status) → EndsWith (IsRight words o) o status → KnowsFiles o → (status ≢ ReadFault) → (status ≢ WriteFault) → (status ≢ NoMemory) → Answers words o status
  only_answers status (whole a (inl e) is grew) tells read write memory = (a, answer_is tells a (λ f. read (is ∙ f)) e, is, grew)
  only_answers status (whole a (inr e) is grew) tells read write memory = absurd (memory (is ∙ ap (λ (b : Answer). b.status) e))
  only_answers status (out_failed a right is failed) tells read write memory = absurd (write is)
  only_answers status (err_failed a right is failed) tells read write memory = absurd (write is)

  -- refused words have no other end
  usage_is : (reads : List ℕ → Stage (List ℕ)) (fault : UsageFault) → IsUsage words fault → (a : Answer) → (actions reads words).ends a → (a.status ≡ Usage) × (a.out ≡ [])
  unfolding actions ◌>>=◌ asked layer
  usage_is reads fault is a (inl (end, usage, e)) =
      let one : usage_answer (usage_line end) ≡ a = cc in (ap (λ (b : Answer). b.status) (sym one), ap (λ (b : Answer). b.out) (sym one))
  usage_is reads fault is a (inr (c, command, e)) = absurd (never_both c command)
    where
      never_both : (c : Choice) → IsCommand words c → ⊥
      never_both c command = let same : Ok c ≡ Err fault = words_once.one_answer words (Ok c) (Err fault) command is in cc

  refuses : (status : Status) → EndsWith (IsRight words o) o status → (fault : UsageFault) → IsUsage words fault → (status ≡ Usage) ⊎ (status ≡ NoMemory) ⊎ WriteRose o.err
  refuses status (whole a (inl e) is grew) fault usage = inl (is ∙ (usage_is (reads_in o) fault usage a e).0)
  refuses status (whole a (inr e) is grew) fault usage = inr (inl (is ∙ ap (λ (b : Answer). b.status) e))
  refuses status (out_failed a (inl e) is failed) fault usage = absurd (failed.some (usage_is (reads_in o) fault usage a e).1)
  refuses status (out_failed a (inr e) is failed) fault usage = absurd (failed.some (ap (λ (b : Answer). b.out) e))
  refuses status (err_failed a right is failed) fault usage = inr (inr failed.rose)

pub call_of : CallLaw
call_of words o status ends = record { ends = ends; usage = refuses words o status ends; complete = completes words o status ends; only = only_answers words o status ends }

pub printed_is : PrintedLaw
printed_is words o status call tells quiet memory a is = elim (call.complete tells quiet) [
  | inl found ↦ (let same = one_answer (files_of o) words found.0 a found.1 is in
      (found.2 ∙ ap (λ (b : Answer). b.status) same, subst (λ (b : Answer). GrewBoth o.out o.err b.out b.err) same found.3))
  | inr none ↦ absurd (memory none.0)
]
