-- N10: a model with more than 65,536 names, more than 65,536 equations or more than 4,194,304 tokens. This project's own code.
use Rattle.std.specs.Prelude.{◌≡◌, ℕ, ◌<◌, List, length, Option, Some}
use Rattle.mo_lexer.specs.declared.token.Token.{Token}
use Rattle.mo_parser.specs.declared.tree.ClassDef.{ClassDef}
use Rattle.class_order.specs.Places.{name_at}
use Rattle.flat_instances.specs.Instances.{instances, variables}
use Rattle.flat_model.specs.Models.{size_limit}
use Rattle.instance_sizes.specs.Counts.{equation_count, token_count}

-- how many tokens a model has at most
abbrev pub token_limit : ℕ
token_limit = 4194304

module _ (text : List ℕ) (classes : List ClassDef) (tokens : List Token) where
  -- names are all variables, parameters, constants and Clocks of all instances; equations are counted with the pairs of connects
  pub data IsTooLarge (root : ℕ) : Type 0 where
    many_names : size_limit < length (variables text classes (instances text classes root)) → IsTooLarge root
    many_equations : size_limit < equation_count text classes (instances text classes root) → IsTooLarge root
    many_tokens : token_limit < token_count text classes tokens (instances text classes root) → IsTooLarge root

  -- where the rule is broken: at the name of the chosen class
  abbrev pub Breaks : Option ℕ → ℕ → Type 0
  Breaks chosen place = (root : ℕ) × (chosen ≡ Some root) × IsTooLarge root × (place ≡ name_at classes root)
