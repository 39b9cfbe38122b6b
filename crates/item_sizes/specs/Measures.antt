-- What items count, up to one more than the limits.
use Rattle.std.specs.Prelude.{◌≡◌, ℕ, min, List, sum_by}
use Rattle.mo_lexer.specs.declared.token.Token.{Token}
use Rattle.mo_parser.specs.declared.tree.ClassDef.{ClassDef}
use Rattle.flat_instances.specs.declared.item.Variable.{Variable as KeptVariable}
use Rattle.flat_instances.specs.Instances.{Item, Declared}
use Rattle.flat_instances.specs.Kept.{seen_variable}
use Rattle.instance_totals.specs.Weights.{number_at}
use Rattle.class_sizes.specs.Equations.{own_equations}
use Rattle.class_sizes.specs.Tokens.{own_tokens}
use Rattle.item_sizes.specs.declared.size.Size.{Size}
use Rattle.item_sizes.specs.Items.{item_equations, item_tokens}

module _ (text : List ℕ) (classes : List ClassDef) where
  abbrev pub declared : KeptVariable → Item
  declared v = Declared (seen_variable text classes v)

  module _ (tokens : List Token) where
    -- what the own equations of classes count
    pub record AreCounted (equations numbers : List ℕ) : Type 0 where
      pub equations_are : (class : ℕ) → number_at equations class ≡ min (own_equations text classes class) 65537
      pub tokens_are : (class : ℕ) → number_at numbers class ≡ min (own_tokens text classes tokens class) 4194305

    -- what an item counts, and what several do
    pub record IsSize (item : Item) (size : Size) : Type 0 where
      pub equations_are : size.equations ≡ min (item_equations text classes item) 65537
      pub tokens_are : size.tokens ≡ min (item_tokens text classes tokens item) 4194305

    pub record AreSizes (items : List Item) (size : Size) : Type 0 where
      pub equations_are : size.equations ≡ min (sum_by (item_equations text classes) items) 65537
      pub tokens_are : size.tokens ≡ min (sum_by (item_tokens text classes tokens) items) 4194305
