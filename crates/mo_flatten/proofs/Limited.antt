-- The flat model that is answered is a raw model.
use Rattle.std.proofs.Common.{List, ℕ, Option, Result, Ok, Err, IfOk}
use Rattle.mo_parser.specs.declared.tree.Tree.{Tree}
use Rattle.flat_model.specs.RawModels.{IsRawModel}
use Rattle.flat_model.specs.declared.raw.RawModel.{RawModel}
use Rattle.flat_answer.specs.Answers.{Answers}
use Rattle.flat_answer.specs.declared.end.FlattenEnd.{FlattenEnd}
use Rattle.flat_limits.proofs.Limits.{flat_limits}
use Rattle.mo_flatten.specs.Texts.{IsTreeOf}

pub raw_answer : (text : List ℕ) (tree : Tree) → IsTreeOf text tree → (chosen : Option ℕ) (r : Result RawModel FlattenEnd) → Answers text tree.classes chosen r → IfOk r IsRawModel
raw_answer text tree of chosen (Ok model) answer = flat_limits text of.0 64 tree chosen model of.1 of.2 answer.0 answer.1
raw_answer text tree of chosen (Err end) answer = tt
