-- A tree has one flat model, and one with its types.
use Rattle.std.proofs.Common.{refl, ℕ, List, Option}
use Rattle.mo_parser.specs.declared.tree.Tree.{Tree}
use Rattle.flat_model.specs.declared.raw.RawModel.{RawModel}
use Rattle.flat_answer.specs.declared.end.FlattenEnd.TheVariants as flatten
use Rattle.flat_answer.proofs.OneAnswer as flattening
use Rattle.flat_types.specs.declared.ends.TypeEnd.TheVariants as type
use Rattle.flat_types.proofs.OneAnswer as types
use Rattle.class_scopes.specs.Reached.{chosen_by}
use Rattle.command_answer.specs.Layers.{flattened, typed}
use Rattle.command_answer.specs.Told.{told_names, told_types}
use Rattle.command_answer.proofs.Joined.{IsOne, layer_one, not_memory}

pub flattened_one : (text : List ℕ) (tree : Tree) (class : Option (List ℕ)) → IsOne (flattened text tree class)
unfolding flattened
flattened_one text tree class = layer_one _ _ (λ r s p q t u. flattening.one_answer text tree.classes (chosen_by text tree.classes class) r s p q
    (not_memory told_names flatten.NoMemory refl r t) (not_memory told_names flatten.NoMemory refl s u))

pub typed_one : (raw : RawModel) → IsOne (typed raw)
unfolding typed
typed_one raw = layer_one _ _ (λ r s p q t u. types.one_answer raw r s p q (not_memory told_types type.NoMemory refl r t) (not_memory told_types type.NoMemory refl s u))
