-- Tables of names, each with the number at which it stands first.
use Rattle.std.specs.Prelude.{◌≡◌, ℕ, List, [], ◌∷◌, ◌++◌, Option, Some, None, Bool, true, false, is_some, bytes_eq}
use Rattle.std.specs.List.{position_from}
use Rattle.mo_parser.specs.declared.tree.Span.{Span}
use Rattle.class_scopes.specs.Spelled.{Ident, spelled}
use Rattle.class_scopes.specs.Places.{Entry}

-- names with their numbers, as a table keeps them
abbrev pub Numbered : Type 0
Numbered = List (Ident × ℕ)

abbrev pub either : Bool → ℕ → Option ℕ → Option ℕ
either true number others = Some number
either false number others = others

abbrev pub number_of : Numbered → Ident → Option ℕ
number_of [] name = None
number_of (entry ∷ entries) name = either (bytes_eq name entry.0) entry.1 (number_of entries name)

-- a name is added at the end with its number, or was there
abbrev pub Declares : Numbered → Ident → ℕ → Bool → Numbered → Type 0
Declares old name number true new = (number_of old name ≡ None) × (new ≡ old ++ (name, number) ∷ [])
Declares old name number false new = (is_some (number_of old name) ≡ true) × (new ≡ old)

-- the number of a name is that of its first place among the names
abbrev pub IsTableOf : List Ident → Numbered → Type 0
IsTableOf names table = (name : Ident) → number_of table name ≡ position_from (bytes_eq name) 0 names

abbrev pub span_entry : List ℕ → Span → Entry
span_entry text span = record { key = spelled text span; place = span.at }
