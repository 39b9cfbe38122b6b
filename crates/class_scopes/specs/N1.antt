-- N1: the chosen class is not there, or a type name of a reached class is unknown. This project's own code.
use Rattle.std.specs.Prelude.{◌≡◌, ℕ, List, ◌++◌, flat_map, length, Option, None, Bool, is_some}
use Rattle.mo_parser.specs.declared.tree.ClassDef.{ClassDef}
use Rattle.mo_parser.specs.declared.tree.Path.{Path}
use Rattle.class_scopes.specs.Places.{unless, in_option}
use Rattle.class_scopes.specs.Reached.{In}
use Rattle.class_scopes.specs.Spelled.{place_of}
use Rattle.class_scopes.specs.Types.{type_of, elements_of, short_of}

module _ (text : List ℕ) (classes : List ClassDef) where
  abbrev pub is_known_type : Path → Bool
  is_known_type path = is_some (type_of text classes path)

  -- the place of a type name that is unknown
  abbrev pub unknown_type : Path → List ℕ
  unknown_type path = unless (is_known_type path) (place_of path)

  -- the places of unknown type names in a class: of its components, and of the base of a short connector
  abbrev pub unknown_types : ℕ → List ℕ
  unknown_types class = flat_map (λ element. unknown_type element.base) (elements_of text classes class)
      ++ in_option (λ short. unknown_type short.base) (short_of text classes class)

  -- where the rule is broken: at the end of the text, or at the name
  pub data Breaks (chosen : Option ℕ) : ℕ → Type 0 where
    not_there : chosen ≡ None → Breaks chosen (length text)
    unknown : (place : ℕ) → In text classes chosen (unknown_types) place → Breaks chosen place
