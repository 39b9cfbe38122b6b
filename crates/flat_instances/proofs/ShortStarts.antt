-- Starts of variables.
use Rattle.std.proofs.Common.{◌≡◌, ap, sym, ◌∙◌, ℕ, List, [], ◌∷◌, map, codes, Option, Some, None, option_map, option_and_then, arith}
use Rattle.std.specs.Option.{option_or}
use Rattle.mo_parser.specs.declared.tree.ClassDef.{ClassDef}
use Rattle.mo_parser.specs.declared.tree.Short.{Short}
use Rattle.mo_parser.specs.declared.tree.TreeExpr.{TreeExpr}
use Rattle.class_scopes.specs.Types.{short_of}
use Rattle.class_scopes.specs.declared.type_name.TypeName.{TypeName}
use Rattle.class_scopes.specs.declared.type_name.TypeName.TheVariants.{Class}
use Rattle.flat_instances.specs.declared.item.Given.{Given}
use Rattle.flat_instances.specs.declared.item.Variable.{Variable}
use Rattle.flat_instances.specs.Modifications.{first_of, given_by, given}
use Rattle.flat_instances.specs.Instances.{Placed, placed, short_start}
use Rattle.flat_instances.specs.Kept.{placed_in, seen_variable}
use Rattle.flat_instances.proofs.Givings.{given-behind}

module _ (text : List ℕ) (classes : List ClassDef) (type : TypeName) (class : ℕ) (same : type ≡ Class class) (short : Short) (expr : Option TreeExpr) where
  pub short_given : short_of text classes class ≡ Some short
      → expr ≡ first_of (map (λ arg. given_by text arg (codes "start" ∷ [])) short.args) → option_map (placed []) expr ≡ short_start text classes type
  short_given there gives =
      ap (option_map (placed [])) (gives ∙ sym (given-behind text short.args None (codes "start" ∷ []) (omega arith)))
      ∙ ap (option_and_then (λ short. option_map (placed []) (given text short.args None (codes "start" ∷ [])))) (sym there)
      ∙ ap (short_start text classes) (sym same)

module _ (text : List ℕ) (classes : List ClassDef) (v : Variable) where
  pub start_given : (given : Given) → v.start ≡ Some given → Some (placed_in v.name given) ≡ (seen_variable text classes v).start
  start_given given is = ap (λ o. option_or (option_map (placed_in v.name) o) (short_start text classes v.type_name)) (sym is)

  pub start_short : (short : Option Placed) → v.start ≡ None → short ≡ short_start text classes v.type_name → short ≡ (seen_variable text classes v).start
  start_short short is same = same ∙ ap (λ o. option_or (option_map (placed_in v.name) o) (short_start text classes v.type_name)) (sym is)
