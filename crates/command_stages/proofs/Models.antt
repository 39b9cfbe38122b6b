-- The stages of the flat model of a command, for the chain that joins the functions of this crate.
use Rattle.std.proofs.Common.{sym, subst, ◌∙◌, inl, inr, ℕ, List, Option, Result, Ok, Err}
use Rattle.command_words.specs.Choice.{Choice}
use Rattle.mo_parser.specs.declared.tree.Tree.{Tree}
use Rattle.flat_model.specs.declared.model.FlatModel.{FlatModel}
use Rattle.flat_model.specs.declared.raw.RawModel.{RawModel}
use Rattle.flat_model.specs.declared.place.Place.TheVariants as place
use Rattle.class_scopes.specs.Reached.{chosen_by}
use Rattle.flat_answer.specs.declared.end.FlattenEnd.{FlattenEnd}
use Rattle.flat_answer.specs.Answers as flattening
use Rattle.command_answer.specs.Actions.{source_in, model_of}
use Rattle.command_answer.specs.Layers.{few, flattened, typed}
use Rattle.command_answer.specs.Stages.{Stage, ◌>>=◌, always, layer}
use Rattle.mo_lexer.specs.Tokens.{model_limit}
use Rattle.command_stages.specs.declared.end.End.{End}
use Rattle.command_stages.specs.Ends.{Halts, of_names}
use Rattle.command_stages.specs.Segments.{file_of, tree_of}
use Rattle.command_stages.proofs.Halting.{names_told}

-- what is answered of the chosen class of a tree
abbrev pub Flattens : List ℕ → Tree → Option (List ℕ) → Result RawModel FlattenEnd → Type 0
Flattens text tree class result = flattening.Answers text tree.classes (chosen_by text tree.classes class) result

module _ (reads : List ℕ → Stage (List ℕ)) (c : Choice) where
  -- the file ends the command
  pub model_unread : (end : End) → Halts (file_of (source_in reads c.mode) model_limit place.Model c.model) end → Halts (model_of reads c) end
  unfolding model_of file_of few always ◌>>=◌
  model_unread end halts answer is = elim (halts answer is) [
    | inl e ↦ inl e
    | inr (bytes, m, inl e) ↦ inr (bytes, m, inl e)
    | inr (bytes, m, inr (x, n, none)) ↦ absurd none
  ]

  -- its text was read
  module _ (text : List ℕ) (read : (file_of (source_in reads c.mode) model_limit place.Model c.model).makes text) where
    -- it has no tree
    pub model_unspelled : (end : End) → Halts (tree_of text) end → Halts (model_of reads c) end
    unfolding model_of file_of tree_of few always ◌>>=◌
    model_unspelled end halts answer is =
        let (bytes, m, (x, n, same)) = read in
        let ends = subst (λ t. (tree_of t).ends answer) same (halts answer is) in
        inr (bytes, m, inr (x, n, elim ends [ inl e ↦ inl e | inr (tokens, p, e) ↦ inr (tokens, p, inl e) ]))

    module _ (tree : Tree) (spelled : (tree_of text).makes tree) where
      -- the rules of names are broken
      pub model_unflat : (e : FlattenEnd) → Flattens text tree c.class (Err e) → Halts (model_of reads c) (of_names e)
      unfolding model_of file_of tree_of few flattened always layer ◌>>=◌
      model_unflat e p answer is =
          let (bytes, m, (x, n, same)) = read in
          let (tokens, lexes, parses) = subst (λ t. (tree_of t).makes tree) same spelled in
          inr (bytes, m, inr (x, n, inr (tokens, lexes, inr (tree, parses, inl (e, subst (λ t. Flattens t tree c.class (Err e)) same p, sym (names_told e) ∙ is)))))

      module _ (raw : RawModel) (flat : Flattens text tree c.class (Ok raw)) where
        -- the rules of types are broken
        pub model_untyped : (end : End) → Halts (typed raw) end → Halts (model_of reads c) end
        unfolding model_of file_of tree_of few flattened always layer ◌>>=◌
        model_untyped end halts answer is =
            let (bytes, m, (x, n, same)) = read in
            let (tokens, lexes, parses) = subst (λ t. (tree_of t).makes tree) same spelled in
            inr (bytes, m, inr (x, n, inr (tokens, lexes, inr (tree, parses, inr (raw, subst (λ t. Flattens t tree c.class (Ok raw)) same flat, halts answer is)))))

        -- the model
        pub model_makes : (model : FlatModel) → (typed raw).makes model → (model_of reads c).makes model
        unfolding model_of file_of tree_of few flattened always layer ◌>>=◌
        model_makes model made =
            let (bytes, m, (x, n, same)) = read in
            let (tokens, lexes, parses) = subst (λ t. (tree_of t).makes tree) same spelled in
            (bytes, m, (x, n, (tokens, lexes, (tree, parses, (raw, subst (λ t. Flattens t tree c.class (Ok raw)) same flat, made)))))
