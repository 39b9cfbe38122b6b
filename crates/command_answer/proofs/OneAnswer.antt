-- Words have one answer, since each stage of the command has.
use Rattle.std.proofs.Common.{◌≡◌, sym, subst, map, ◌∙◌, ℕ, List, Option, Some, None, Ok}
use Rattle.outside_io.specs.Files.{Known, File}
use Rattle.command_words.specs.Choice.{Choice}
use Rattle.command_words.specs.declared.command.Mode.{Mode}
use Rattle.command_words.specs.declared.command.Mode.TheVariants.{Run, Flat, Clocks, Stress}
use Rattle.eq_order.specs.declared.uses.Use.{Use}
use Rattle.flat_model.specs.declared.clock.Clocking.{Clocking}
use Rattle.flat_model.specs.declared.model.FlatModel.{FlatModel}
use Rattle.flat_model.specs.declared.place.Place.TheVariants as place
use Rattle.flat_model.specs.declared.table.Table.{Table}
use Rattle.flat_model.specs.Models.{IsModel}
use Rattle.flat_model.specs.Setting.{Setting}
use Rattle.flat_model.specs.Tables.{IsTableOf}
use Rattle.flat_model.specs.Uses as uses
use Rattle.eq_order.specs.Order.{use_of}
use Rattle.moment_theory.specs.Free.{IsOrdered}
use Rattle.trace_print.specs.Modes.{flat_text, clocks_text}
use Rattle.class_scopes.specs.Reached.{chosen_by}
use Rattle.flat_limits.proofs.Limits.{flat_limits}
use Rattle.typed_model.proofs.Models.{typed_is_model}
use Rattle.mo_lexer.specs.Tokens.{model_limit}
use Rattle.input_table.specs.Tables.{table_limit}
use Rattle.command_answer.specs.Actions.{source_in, model_of, table_of, setting_of, in_mode, actions, known_files, OneAnswerLaw}
use Rattle.command_answer.specs.Layers.{lexed, parsed, flattened, typed, tabled, untabled, ordered, Orders}
use Rattle.command_answer.specs.Stages.{Stage, ◌>>=◌, always, layer, printed}
use Rattle.command_answer.proofs.Clocks.{clocking_one, is_answered}
use Rattle.command_answer.proofs.Joined.{IsOnly, IsOne, both_one, end_one, always_one}
use Rattle.command_answer.proofs.Models.{flattened_one, typed_one}
use Rattle.command_answer.proofs.Orders.{ordered_one, counted_one, timed_one}
use Rattle.command_answer.proofs.Running.{run_ordered, runs_one, stresses_one}
use Rattle.command_answer.proofs.Tables.{tabled_one, untabled_one, file_table, no_file_table}
use Rattle.command_answer.proofs.Texts.{asked_one, few_one, lexed_one, parsed_one}

text_one : (text : List ℕ) → IsOnly (λ answer. answer ≡ printed text)
text_one text a b e f = e ∙ sym f

module _ (reads : List ℕ → Stage (List ℕ)) (files : (name : List ℕ) → IsOne (reads name)) where
  source_one : (mode : Mode) (name : List ℕ) → IsOne (source_in reads mode name)
  unfolding source_in
  source_one Run name = files name
  source_one Flat name = files name
  source_one Clocks name = files name
  source_one (Stress members) name = always_one _ (λ x y p q. p ∙ sym q)

  model_one : (c : Choice) → IsOne (model_of reads c)
  unfolding model_of
  model_one c = both_one _ _ (source_one c.mode c.model) (λ text m. both_one _ _ (few_one model_limit place.Model text) (λ _ m. both_one _ _ (lexed_one text) (λ tokens m.
      both_one _ _ (parsed_one text tokens) (λ tree m. both_one _ _ (flattened_one text tree c.class) (λ raw m. typed_one raw)))))

  -- what is made is a model
  is_model : (c : Choice) (flat : FlatModel) → (model_of reads c).makes flat → IsModel flat
  unfolding model_of lexed parsed flattened typed layer ◌>>=◌
  is_model c flat (text, m1, (x, m2, (tokens, m3, (tree, m4, (raw, m5, m6))))) =
      typed_is_model raw flat (flat_limits text tokens 64 tree (chosen_by text tree.classes c.class) raw m3 m4 m5.0 m5.1) m6

  table_one : (flat : FlatModel) (file : Option (List ℕ)) → IsModel flat → IsOne (table_of reads flat file)
  unfolding table_of
  table_one flat None is = untabled_one flat
  table_one flat (Some file) is = both_one _ _ (files file) (λ bytes m. both_one _ _ (few_one table_limit place.Table bytes) (λ _ m. tabled_one flat bytes is.names))

  -- and a table of it
  is_table : (flat : FlatModel) (file : Option (List ℕ)) (table : Table) → (table_of reads flat file).makes table → IsTableOf flat table
  unfolding table_of tabled untabled layer ◌>>=◌
  is_table flat None table m = no_file_table flat table m
  is_table flat (Some file) table (bytes, m1, (x, m2, m3)) = file_table flat _ table m3

  is_order : (flat : FlatModel) (clocking : Clocking) (order : List Use) → (ordered flat clocking).makes order → Orders flat clocking (Ok order)
  unfolding ordered layer
  is_order flat clocking order m = m

  setting_one : (c : Choice) (flat : FlatModel) → IsModel flat → IsOne (setting_of reads c flat)
  unfolding setting_of
  setting_one c flat is = both_one _ _ (clocking_one flat is) (λ clocking m. both_one _ _ (ordered_one flat clocking) (λ order n.
      both_one _ _ (table_one flat c.table is) (λ table k. both_one _ _ (counted_one clocking table c.stop) (λ _ l. both_one _ _ (timed_one clocking table c.stop) (λ instants h.
      always_one _ (λ x y p q. p ∙ sym q))))))

  -- its run has a free order
  setting_ordered : (c : Choice) (flat : FlatModel) (s : Setting) → IsModel flat → (setting_of reads c flat).makes s → (used : List uses.Use) × (free : List uses.Use) × IsOrdered s used free
  unfolding setting_of always ◌>>=◌
  setting_ordered c flat s is (clocking, m, (order, n, (table, k, (x, l, (instants, h, same))))) =
      let free = run_ordered flat clocking table instants is (is_answered flat clocking m) (is_table flat c.table table k) order (is_order flat clocking order n) in
      subst (λ z. (used : List uses.Use) × (free : List uses.Use) × IsOrdered z used free) (sym same) (map use_of order, free.0, free.1)

  mode_one : (mode : Mode) (c : Choice) (flat : FlatModel) → IsModel flat → IsOne (in_mode reads mode c flat)
  unfolding in_mode
  mode_one Flat c flat is = end_one _ (text_one (flat_text flat))
  mode_one Clocks c flat is = both_one _ _ (clocking_one flat is) (λ clocking m. end_one _ (text_one (clocks_text flat clocking)))
  mode_one Run c flat is = both_one _ _ (setting_one c flat is) (λ s m. let (used, free, are) = setting_ordered c flat s is m in end_one _ (λ a b p q. runs_one s used free are a b p.0 q.0))
  mode_one (Stress members) c flat is = both_one _ _ (setting_one c flat is) (λ s m. let (used, free, are) = setting_ordered c flat s is m in end_one _ (stresses_one s used free are members))

  pub actions_one : (words : List (List ℕ)) → IsOne (actions reads words)
  unfolding actions
  actions_one words = both_one _ _ (asked_one words) (λ c m. both_one _ _ (model_one c) (λ flat n. mode_one c.mode c flat (is_model c flat n)))

told_one : (told : List ℕ → Known) (name : List ℕ) → IsOne (known_files told name)
unfolding known_files
told_one told name = always_one _ (λ x y p q. let same : File x ≡ File y = sym p ∙ q in cc)

pub one_answer : OneAnswerLaw
one_answer told words = (actions_one (known_files told) (told_one told) words).one_end
