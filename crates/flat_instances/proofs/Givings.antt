-- What modifications give.
use Rattle.std.proofs.Common.{◌≡◌, refl, ap, sym, ◌∙◌, ℕ, suc, ◌+◌, ◌<◌, Bool, true, false, List, [], ◌∷◌, map, length, drop, get_or, Option, Some, None, option_map, option_and_then, bytes_eq, arith, if◌then◌else◌}
use Rattle.std.proofs.Math.Seq.{drop-cons}
use Rattle.std.specs.Borrow.{Bor}
use Rattle.mo_parser.specs.declared.tree.Arg.{Arg}
use Rattle.mo_parser.specs.declared.tree.Arg.TheViews.{out-Arg}
use Rattle.mo_parser.specs.declared.tree.Arg.TheFolds.{fold_out-Arg}
use Rattle.mo_parser.specs.declared.tree.Span.{Span}
use Rattle.mo_parser.specs.declared.tree.TreeExpr.{TreeExpr}
use Rattle.class_scopes.specs.Spelled.{Ident, spelled, idents}
use Rattle.flat_instances.specs.Modifications.{Giving, first_of, behind, given_behind, giving_level, given_by, given}

-- one part, and then the others
pub behind_more : (x : Ident) (xs path : List Ident) → behind (x ∷ xs) path ≡ option_and_then (behind xs) (behind (x ∷ []) path)
behind_more x xs [] = refl
behind_more x xs (y ∷ path) = by (bytes_eq x y)
  where
    by : (b : Bool) → (if b then behind xs path else None) ≡ option_and_then (behind xs) (if b then behind [] path else None)
    by true = refl
    by false = refl

module _ (text : List ℕ) (parts : List Span) (i : ℕ) (x : Span) (within : i < length parts) (is : x ≡ get_or parts i x) where
  split : drop i parts ≡ x ∷ drop (i + 1) parts
  split =
      let next : suc i ≡ i + 1 = omega arith in
      drop-cons parts i x within ∙ ap (λ y. y ∷ drop (suc i) parts) (sym is) ∙ ap (λ n. x ∷ drop n parts) next

  pub behind_at : (path : List Ident) (rest : Option (List Ident)) → rest ≡ behind (spelled text x ∷ []) path
      → behind (map (spelled text) (drop i parts)) path ≡ option_and_then (behind (map (spelled text) (drop (i + 1) parts))) rest
  behind_at path rest same =
      ap (λ p. behind (map (spelled text) p) path) split ∙ behind_more (spelled text x) (map (spelled text) (drop (i + 1) parts)) path
      ∙ ap (option_and_then (behind (map (spelled text) (drop (i + 1) parts)))) (sym same)

-- one level of an argument
pub given-level : (text : List ℕ) (arg : Arg) (path : List Ident)
    → given_by text arg path ≡ given_behind text (out-Arg arg).binding (map (given_by text) (out-Arg arg).args) (behind (idents text (out-Arg arg).name) path)
unfolding given_by
given-level text arg path = ap (λ giving. giving path) (fold_out-Arg Giving (giving_level text) arg)

pub empty_behind : (text : List ℕ) (parts : List Span) (i : ℕ) (path : List Ident) → i < length parts → length path < 1
    → behind (map (spelled text) (drop i parts)) path ≡ None
empty_behind text parts i [] within none = ap (λ p. behind (map (spelled text) p) []) (drop-cons parts i (record { at = 0; end = 0 }) within)
empty_behind text parts i (x ∷ path) within none = absurd (omega (arith, none))

pub givings : (text : List ℕ) (path : List Ident) (args : List Arg) → map (λ giving. giving path) (map (given_by text) args) ≡ map (λ arg. given_by text arg path) args
givings text path [] = refl
givings text path (arg ∷ args) = ap (λ rest. given_by text arg path ∷ rest) (givings text path args)

-- what a declaration gives behind its name
pub given-behind : (text : List ℕ) (args : List Arg) (binding : Option TreeExpr) (path : List Ident) → 0 < length path
    → given text args binding path ≡ first_of (map (λ arg. given_by text arg path) args)
given-behind text args binding [] some = absurd (omega (arith, some))
given-behind text args binding (x ∷ path) some = ap first_of (givings text (x ∷ path) args)

module _ (text : List ℕ) (arg : Arg) (path : List Ident) (rest : Option (List Ident)) (is : rest ≡ behind (idents text (out-Arg arg).name) path) where
  level : given_by text arg path ≡ given_behind text (out-Arg arg).binding (map (given_by text) (out-Arg arg).args) rest
  level = given-level text arg path ∙ ap (given_behind text (out-Arg arg).binding (map (given_by text) (out-Arg arg).args)) (sym is)

  pub given-none : rest ≡ None → given_by text arg path ≡ None
  given-none none = level ∙ ap (given_behind text (out-Arg arg).binding (map (given_by text) (out-Arg arg).args)) none

  pub given-own : (left : List Ident) → rest ≡ Some left → length left < 1 → given_by text arg path ≡ (out-Arg arg).binding
  given-own [] some none = level ∙ ap (given_behind text (out-Arg arg).binding (map (given_by text) (out-Arg arg).args)) some
  given-own (x ∷ left) some none = absurd (omega (arith, none))

  pub given-nested : (left : List Ident) → rest ≡ Some left → 0 < length left
      → given_by text arg path ≡ first_of (map (λ nested. given_by text nested left) (out-Arg arg).args)
  given-nested [] some more = absurd (omega (arith, more))
  given-nested (x ∷ left) some more =
      level ∙ ap (given_behind text (out-Arg arg).binding (map (given_by text) (out-Arg arg).args)) some ∙ ap first_of (givings text (x ∷ left) (out-Arg arg).args)

-- the names of a path that is lent
abbrev pub Lent : Type 0
Lent = Bor (List (Bor (List ℕ)))

abbrev pub names_lent : Lent → List Ident
names_lent path = map (λ name. name.now) path.now

module _ (text : List ℕ) (arg : Arg) (path : List Ident) (parts : List Span) (these : parts ≡ (out-Arg arg).name.parts) (found : Option Lent)
    (is : option_map names_lent found ≡ behind (map (spelled text) parts) path) where
  pub found-is : option_map names_lent found ≡ behind (idents text (out-Arg arg).name) path
  found-is = is ∙ ap (λ ps. behind (map (spelled text) ps) path) these
