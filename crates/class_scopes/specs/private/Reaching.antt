-- Lists of reached classes.
use Rattle.std.specs.Prelude.{◌≡◌, ℕ, ◌+◌, ◌<◌, Bool, true, false, List, [], ◌∷◌, ◌++◌, length, Contains, Some, slice_get, slice_set, slice_index_or}
use Rattle.mo_parser.specs.declared.tree.ClassDef.{ClassDef}
use Rattle.mo_parser.specs.declared.tree.Element.{Element}
use Rattle.class_scopes.specs.declared.type_name.TypeName.TheVariants.{Class}
use Rattle.class_scopes.specs.Types.{type_of, elements_of}
use Rattle.class_scopes.specs.Reached.{IsReached}

-- how many are marked
abbrev pub one_if : Bool → ℕ
one_if true = 1
one_if false = 0

abbrev pub count : List Bool → ℕ
count [] = 0
count (mark ∷ marks) = one_if mark + count marks

abbrev pub IsMarked : List Bool → ℕ → Type 0
IsMarked seen class = slice_get seen class ≡ Some true

-- the list has the marked classes, each once, and all of them are reached
pub record AreListed (text : List ℕ) (classes : List ClassDef) (chosen : ℕ) (seen : List Bool) (reached : List ℕ) : Type 0 where
  pub size : length seen ≡ length classes
  pub sound : (class : ℕ) → IsMarked seen class → IsReached text classes chosen class
  pub lists : (class : ℕ) → Contains reached class → IsMarked seen class
  pub listed : (class : ℕ) → IsMarked seen class → Contains reached class
  pub counted : length reached ≡ count seen

-- what was marked stays so
abbrev pub Keeps : List Bool → List Bool → Type 0
Keeps old new = (class : ℕ) → IsMarked old class → IsMarked new class

-- the parts of the first elements of a class are marked
abbrev pub PartsMarked : List ℕ → List ClassDef → List Element → ℕ → List Bool → Type 0
PartsMarked text classes elements n seen = (k part : ℕ) (element : Element) → k < n → slice_get elements k ≡ Some element
    → type_of text classes element.base ≡ Some (Class part) → IsMarked seen part

-- the parts of the first reached classes are
abbrev pub Closed : List ℕ → List ClassDef → List ℕ → ℕ → List Bool → Type 0
Closed text classes reached n seen = (k class : ℕ) → k < n → slice_get reached k ≡ Some class
    → PartsMarked text classes (elements_of text classes class) (length (elements_of text classes class)) seen

-- a class is added where it is not marked
abbrev pub MarksBy : Bool → ℕ → List Bool → List ℕ → List Bool → List ℕ → Type 0
MarksBy true class seen reached after more = (after ≡ seen) × (more ≡ reached)
MarksBy false class seen reached after more = (after ≡ slice_set seen class true) × (more ≡ reached ++ class ∷ [])

abbrev pub Marks : ℕ → List Bool → List ℕ → List Bool → List ℕ → Type 0
Marks class seen reached after more = MarksBy (slice_index_or seen class false) class seen reached after more

-- the longer list begins with the shorter one
abbrev pub Begins : List ℕ → List ℕ → Type 0
Begins old new = (k x : ℕ) → slice_get old k ≡ Some x → slice_get new k ≡ Some x

-- more classes are marked and listed
pub record Grows (text : List ℕ) (classes : List ClassDef) (chosen : ℕ) (seen : List Bool) (reached : List ℕ) (after : List Bool) (more : List ℕ) : Type 0 where
  pub are : AreListed text classes chosen after more
  pub keeps : Keeps seen after
  pub front : Begins reached more

-- the part that an element is of is marked
abbrev pub PartMarked : List ℕ → List ClassDef → Element → List Bool → Type 0
PartMarked text classes element seen = (part : ℕ) → type_of text classes element.base ≡ Some (Class part) → IsMarked seen part

abbrev pub PartReached : List ℕ → List ClassDef → ℕ → Element → Type 0
PartReached text classes chosen element = (part : ℕ) → type_of text classes element.base ≡ Some (Class part) → IsReached text classes chosen part
