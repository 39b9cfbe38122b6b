use Rattle.std.proofs.Common.{◌∙◌, subst}
use Rattle.class_scopes.specs.Tables.{IsTableOf}
use Rattle.model_values.proofs.Names.{names_all}
use Rattle.model_values.proofs.table.parameter_table.Goals as goal

pub returns : goal.returns
returns c text classes =
    subst (λ n. IsTableOf n c.in_ok-table.table) (c.as_slice.ensures.value ∙ c.in_ok-names.ensures ∙ names_all text classes c.args.items.now) c.in_ok-table.ensures
