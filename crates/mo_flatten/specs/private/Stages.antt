-- What each stage of flattening answers.
use Rattle.std.specs.Prelude.{◌≡◌, ℕ, ◌<◌, List, map, filter, Option, Some, Result, Ok, Err, ⊤}
use Rattle.std.specs.Global.{Global}
use Rattle.std.specs.declared.vec.Vec.{Vec}
use Rattle.mo_lexer.specs.Tokens.{AreTokens}
use Rattle.mo_lexer.specs.declared.token.Token.{Token}
use Rattle.mo_parser.specs.declared.tree.ClassDef.{ClassDef}
use Rattle.class_order.specs.Orders.{ArePartsFirst}
use Rattle.class_scopes.specs.Reached.{AreReached}
use Rattle.class_scopes.specs.declared.end.RuleEnd.{RuleEnd}
use Rattle.class_scopes.specs.declared.end.RuleEnd.TheVariants.{Broken, NoMemory}
use Rattle.scope_names.specs.declared.scopes.Scopes.{Scopes}
use Rattle.flat_instances.specs.Instances.{instances}
use Rattle.flat_instances.specs.Kept.{seen}
use Rattle.flat_instances.specs.declared.item.Item.{Item}
use Rattle.instance_sizes.specs.Contributing.{contributes}
use Rattle.flat_answer.specs.Broken.{rank, KeepsBefore, IsFirst}

-- the first broken rule, one that is told at a byte of the text; or memory was refused
abbrev pub IsEnd : List ℕ → List ClassDef → Option ℕ → RuleEnd → Type 0
IsEnd text classes chosen (Broken code at) = (rank code < 9) × IsFirst text classes chosen code at
IsEnd text classes chosen NoMemory = ⊤

-- the scopes are those of a file and its reached classes, where N1, N2 and N3 are kept
pub record IsScoped (scopes : Scopes) : Type 0 where
  pub reached : AreReached scopes.named.file.text.now scopes.named.file.classes.now scopes.named.chosen scopes.named.reached.items
  pub keeps : KeepsBefore scopes.named.file.text.now scopes.named.file.classes.now (Some scopes.named.chosen) 3

-- of this text, these classes and this choice
pub record AreScopesOf (text : List ℕ) (classes : List ClassDef) (choice : Option ℕ) (scopes : Scopes) : Type 0 where
  pub text_is : scopes.named.file.text.now ≡ text
  pub classes_are : scopes.named.file.classes.now ≡ classes
  pub chosen : choice ≡ Some scopes.named.chosen
  pub scoped : IsScoped scopes

abbrev pub Scoped : List ℕ → List ClassDef → Option ℕ → Result Scopes RuleEnd → Type 0
Scoped text classes choice (Ok scopes) = AreScopesOf text classes choice scopes
Scoped text classes choice (Err end) = IsEnd text classes choice end

-- an order of the classes, where N4 is kept too
abbrev pub PartsFirst : Scopes → Result (Vec ℕ Global) RuleEnd → Type 0
PartsFirst scopes (Ok order) = ArePartsFirst scopes.named.file.text.now scopes.named.file.classes.now scopes.named.chosen order.items
    × KeepsBefore scopes.named.file.text.now scopes.named.file.classes.now (Some scopes.named.chosen) 4
PartsFirst scopes (Err end) = IsEnd scopes.named.file.text.now scopes.named.file.classes.now (Some scopes.named.chosen) end

-- an order of the classes, where no rule up to N11 is broken
abbrev pub Ordered : Scopes → Result (Vec ℕ Global) RuleEnd → Type 0
Ordered scopes (Ok order) = ArePartsFirst scopes.named.file.text.now scopes.named.file.classes.now scopes.named.chosen order.items
    × KeepsBefore scopes.named.file.text.now scopes.named.file.classes.now (Some scopes.named.chosen) 8
Ordered scopes (Err end) = IsEnd scopes.named.file.text.now scopes.named.file.classes.now (Some scopes.named.chosen) end

-- the tokens of a text
abbrev pub Lexed : List ℕ → Result (List Token) RuleEnd → Type 0
Lexed text (Ok tokens) = AreTokens text tokens
Lexed text (Err end) = end ≡ NoMemory

-- what the instances have that counts, where no rule up to N10 is broken
pub record AreItems (scopes : Scopes) (items : List Item) : Type 0 where
  pub keeps : KeepsBefore scopes.named.file.text.now scopes.named.file.classes.now (Some scopes.named.chosen) 9
  pub are : map (seen scopes.named.file.text.now scopes.named.file.classes.now) items
      ≡ filter (contributes scopes.named.file.text.now scopes.named.file.classes.now) (instances scopes.named.file.text.now scopes.named.file.classes.now scopes.named.chosen)

abbrev pub Sized : Scopes → Result (Vec Item Global) RuleEnd → Type 0
Sized scopes (Ok items) = AreItems scopes items.items
Sized scopes (Err end) = IsEnd scopes.named.file.text.now scopes.named.file.classes.now (Some scopes.named.chosen) end
