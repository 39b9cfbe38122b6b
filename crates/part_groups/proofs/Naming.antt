-- The names of an expression, added to others.
use Rattle.std.proofs.Common.{◌≡◌, ap, ap₂, ◌∙◌, sym, ℕ, List, [], ◌++◌, append-nil, append_assoc}
use Rattle.sync_values.specs.declared.value.Rel.{Rel}
use Rattle.flat_model.specs.declared.expression.Expr.{Expr}
use Rattle.flat_model.specs.declared.expression.Expr.TheVariants.{Relation, If}
use Rattle.part_groups.specs.private.Asking.{names_in, all_names}
use Rattle.part_groups.proofs.Levels.{names_in-Relation, names_in-If}

pub none_added : (old names : List ℕ) → names ≡ [] → old ≡ old ++ names
none_added old names none = sym (append-nil old) ∙ ap (λ ns. old ++ ns) (sym none)

pub two_added : (old mid new : List ℕ) (rel : Rel) (e left right shown other : Expr) → e ≡ Relation rel left right → shown ≡ left → other ≡ right
    → mid ≡ old ++ names_in shown → new ≡ mid ++ names_in other → new ≡ old ++ names_in e
two_added old mid new rel e left right shown other is one two first second =
    second ∙ ap₂ (λ ns o. ns ++ names_in o) (first ∙ ap (λ o. old ++ names_in o) one) two ∙ append_assoc old (names_in left) (names_in right)
    ∙ ap (λ ns. old ++ ns) (sym (names_in-Relation rel left right) ∙ ap names_in (sym is))

pub choice_added : (old one two new : List ℕ) (e : Expr) (conditions branches tests values : List Expr) (other last : Expr) → e ≡ If conditions branches other → tests ≡ conditions → values ≡ branches → last ≡ other
    → one ≡ old ++ all_names tests → two ≡ one ++ all_names values → new ≡ two ++ names_in last → new ≡ old ++ names_in e
choice_added old one two new e conditions branches tests values other last is same_tests same_values same_last first second third =
    third ∙ ap₂ (λ ns o. ns ++ names_in o) (second ∙ ap₂ (λ ns vs. ns ++ all_names vs) (first ∙ ap (λ ts. old ++ all_names ts) same_tests) same_values) same_last
    ∙ append_assoc (old ++ all_names conditions) (all_names branches) (names_in other) ∙ append_assoc old (all_names conditions) (all_names branches ++ names_in other)
    ∙ ap (λ ns. old ++ ns) (sym (names_in-If conditions branches other) ∙ ap names_in (sym is))
