-- The stage of the table of the inputs.
use Rattle.std.proofs.Common.{sym, subst, ◌∙◌, inl, inr, ℕ, List, Ok, Err, Some, None}
use Rattle.flat_model.specs.declared.model.FlatModel.{FlatModel}
use Rattle.flat_model.specs.declared.place.Place.TheVariants as place
use Rattle.flat_model.specs.declared.table.Table.{Table}
use Rattle.input_table.specs.declared.ends.TableEnd.{TableEnd}
use Rattle.input_table.specs.Tables as tables
use Rattle.command_answer.specs.Actions.{table_of}
use Rattle.command_answer.specs.Layers.{few, tabled, untabled}
use Rattle.command_answer.specs.Stages.{Stage, ◌>>=◌, always, layer}
use Rattle.input_table.specs.Tables.{table_limit}
use Rattle.command_stages.specs.declared.end.End.{End}
use Rattle.command_stages.specs.Ends.{Halts, of_table}
use Rattle.command_stages.specs.Segments.{file_of}
use Rattle.command_stages.proofs.Halting.{table_told}

module _ (reads : List ℕ → Stage (List ℕ)) (flat : FlatModel) where
  pub untabled_makes : (table : Table) → tables.AnswersNone flat.names (Ok table) → (table_of reads flat None).makes table
  unfolding table_of untabled layer
  untabled_makes table p = p

  pub untabled_halts : (e : TableEnd) → tables.AnswersNone flat.names (Err e) → Halts (table_of reads flat None) (of_table e)
  unfolding table_of untabled layer
  untabled_halts e p answer is = (e, p, sym (table_told e) ∙ is)

  -- the file ends the command
  pub table_unread : (file : List ℕ) (end : End) → Halts (file_of reads table_limit place.Table file) end → Halts (table_of reads flat (Some file)) end
  unfolding table_of file_of few always ◌>>=◌
  table_unread file end halts answer is = elim (halts answer is) [
    | inl e ↦ inl e
    | inr (bytes, m, inl e) ↦ inr (bytes, m, inl e)
    | inr (bytes, m, inr (x, n, none)) ↦ absurd none
  ]

  -- its bytes were read
  module _ (file bytes : List ℕ) (read : (file_of reads table_limit place.Table file).makes bytes) where
    pub tabled_makes : (table : Table) → tables.Answers flat.names (tables.records_of bytes) (Ok table) → (table_of reads flat (Some file)).makes table
    unfolding table_of file_of few tabled always layer ◌>>=◌
    tabled_makes table p = let (text, m, (x, n, same)) = read in (text, m, (x, n, subst (λ b. tables.Answers flat.names (tables.records_of b) (Ok table)) same p))

    pub tabled_halts : (e : TableEnd) → tables.Answers flat.names (tables.records_of bytes) (Err e) → Halts (table_of reads flat (Some file)) (of_table e)
    unfolding table_of file_of few tabled always layer ◌>>=◌
    tabled_halts e p answer is =
        let (text, m, (x, n, same)) = read in
        inr (text, m, inr (x, n, (e, subst (λ b. tables.Answers flat.names (tables.records_of b) (Err e)) same p, sym (table_told e) ∙ is)))
