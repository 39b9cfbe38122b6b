-- Lists of names that are lent.
use Rattle.std.proofs.Common.{◌≡◌, refl, ap, sym, ◌∙◌, ℕ, ◌+◌, ◌<◌, List, [], ◌∷◌, ◌++◌, map, flat_map, length, take, get_or, Option, Some, None, is_some}
use Rattle.std.specs.Borrow.{Bor}
use Rattle.std.specs.Option.{option_copied}
use Rattle.mo_parser.specs.declared.tree.Path.{Path}
use Rattle.class_scopes.specs.Places.{lesser, least}
use Rattle.class_scopes.proofs.Leasts.{least_with}
use Rattle.scope_names.specs.Written.{Adds}

abbrev pub lent : List (Bor Path) → List Path
lent paths = map (λ path. path.now) paths

through : (f : Path → List ℕ) (paths : List (Bor Path)) → flat_map f (lent paths) ≡ flat_map (λ path. f path.now) paths
through f [] = refl
through f (path ∷ paths) = ap (λ rest. f path.now ++ rest) (through f paths)

pub least_lent : (f : Path → List ℕ) (paths : List (Bor Path)) (i : ℕ) (x : Bor Path) → i < length paths → x ≡ get_or paths i x → (r next here : Option ℕ)
    → r ≡ least (flat_map f (lent (take i paths))) → next ≡ lesser r here → here ≡ least (f x.now) → next ≡ least (flat_map f (lent (take (i + 1) paths)))
least_lent f paths i x within is r next here before step place =
    least_with (λ path. f path.now) paths i x within is r next here (before ∙ ap least (through f (take i paths))) step place
    ∙ sym (ap least (through f (take (i + 1) paths)))

-- all that was added to an empty list
pub added_all : (old new : List (Bor Path)) (more : List Path) → old ≡ [] → Adds old more new → lent new ≡ more
added_all old new more none added = added ∙ ap (λ o. lent o ++ more) none

pub copied_some : {A : Type 0} (r : Option (Bor A)) → is_some (option_copied r) ≡ is_some r
copied_some None = refl
copied_some (Some x) = refl
