-- What arguments name.
use Rattle.std.proofs.Common.{◌≡◌, refl, ap, sym, ◌∙◌, ℕ, zero, suc, ◌+◌, ◌<◌, ◌≤◌, ◌==◌, Bool, true, false, List, [], ◌∷◌, ◌++◌, map, length, drop, get_or, Option, Some, None, option_and_then, arith, if◌then◌else◌}
use Rattle.std.proofs.Math.Seq.{drop-cons}
use Rattle.std.proofs.lemmas.Bool.Decides.{nat_tests}
use Rattle.mo_parser.specs.declared.tree.Arg.{Arg}
use Rattle.mo_parser.specs.declared.tree.Arg.TheViews.{out-Arg}
use Rattle.mo_parser.specs.declared.tree.Arg.TheFolds.{fold_out-Arg}
use Rattle.mo_parser.specs.declared.tree.ClassDef.{ClassDef}
use Rattle.mo_parser.specs.declared.tree.Span.{Span}
use Rattle.class_scopes.specs.declared.type_name.TypeName.{TypeName}
use Rattle.class_scopes.specs.Places.{unless}
use Rattle.class_scopes.specs.Spelled.{Ident, spelled, idents, place_of}
use Rattle.class_scopes.specs.Types.{is_simple, kind_of}
use Rattle.argument_rules.specs.declared.target.Target.{Target}
use Rattle.argument_rules.specs.declared.target.Target.TheVariants.{Attribute, Part}
use Rattle.argument_rules.specs.Targets.{ends, attribute, part_type, target, target_in, takes_value, Checking, within, misplaced, misplaced_level, misplaced_by, misplaced_in}

-- the rest of names behind one
pub split : (parts : List Span) (i : ℕ) (x : Span) → i < length parts → x ≡ get_or parts i x → drop i parts ≡ x ∷ drop (i + 1) parts
split parts i x within is =
    let next : suc i ≡ i + 1 = omega arith in
    drop-cons parts i x within ∙ ap (λ y. y ∷ drop (suc i) parts) (sym is) ∙ ap (λ n. x ∷ drop n parts) next

pub ends_last : (text : List ℕ) (parts : List Span) (n : ℕ) → n ≡ length parts → ends (map (spelled text) (drop n parts)) ≡ true
ends_last text [] n all = ap (λ m. ends (map (spelled text) (drop m []))) all
ends_last text (x ∷ parts) zero all = absurd (omega (arith, all))
ends_last text (x ∷ parts) (suc n) all = ends_last text parts n (omega (arith, all))

pub ends_before : (text : List ℕ) (parts : List Span) (n : ℕ) → n < length parts → ends (map (spelled text) (drop n parts)) ≡ false
ends_before text [] n less = absurd (omega (arith, less))
ends_before text (x ∷ parts) zero less = refl
ends_before text (x ∷ parts) (suc n) less = ends_before text parts n (omega (arith, less))

-- nothing is left behind the last name
pub ends_by : (text : List ℕ) (parts : List Span) (n : ℕ) → n ≤ length parts → ends (map (spelled text) (drop n parts)) ≡ (n == length parts)
ends_by text parts n within = by (n == length parts) refl
  where
    by : (b : Bool) → (n == length parts) ≡ b → ends (map (spelled text) (drop n parts)) ≡ b
    by true e = let all : n ≡ length parts = grind (arith, nat_tests, e) in ends_last text parts n all
    by false e = let less : n < length parts = grind (arith, nat_tests, e, within) in ends_before text parts n less

module _ (text : List ℕ) (classes : List ClassDef) where
  module _ (parts : List Span) (i : ℕ) (x : Span) (within : i < length parts) (is : x ≡ get_or parts i x) (type : TypeName) where
    abbrev left : ℕ → List Ident
    left n = map (spelled text) (drop n parts)

    target_at : (b : Bool) → is_simple text classes type ≡ b → target text classes (left i) type
        ≡ if b then attribute (kind_of text classes type) (spelled text x) (ends (left (i + 1))) else option_and_then (target text classes (left (i + 1))) (part_type text classes type (spelled text x))
    target_at b simple =
        ap (λ p. target text classes (map (spelled text) p) type) (split parts i x within is)
        ∙ ap (λ b. if b then attribute (kind_of text classes type) (spelled text x) (ends (left (i + 1))) else option_and_then (target text classes (left (i + 1))) (part_type text classes type (spelled text x))) simple

    -- a name in a variable
    pub simple_at : (last : Bool) → is_simple text classes type ≡ true → ends (left (i + 1)) ≡ last
        → target text classes (left i) type ≡ attribute (kind_of text classes type) (spelled text x) last
    simple_at last simple same = target_at true simple ∙ ap (attribute (kind_of text classes type) (spelled text x)) same

  through : (modified : Option TypeName) (args : List Arg) → within modified (map (misplaced_by text classes) args) ≡ misplaced_in text classes modified args
  through modified [] = refl
  through modified (arg ∷ args) = ap (λ rest. misplaced_by text classes arg modified ++ rest) (through modified args)

  module _ (arg : Arg) (modified : Option TypeName) where
    -- one level of an argument
    misplaced-Arg : misplaced_by text classes arg modified
        ≡ misplaced text classes (out-Arg arg).name (map (misplaced_by text classes) (out-Arg arg).args) (out-Arg arg).binding (target_in text classes modified (idents text (out-Arg arg).name))
    unfolding misplaced_by
    misplaced-Arg = ap (λ checking. checking modified) (fold_out-Arg Checking (misplaced_level text classes) arg)

    by_target : (found : Option Target) → target_in text classes modified (idents text (out-Arg arg).name) ≡ found → misplaced_by text classes arg modified
        ≡ misplaced text classes (out-Arg arg).name (map (misplaced_by text classes) (out-Arg arg).args) (out-Arg arg).binding found
    by_target found is =
        misplaced-Arg ∙ ap (misplaced text classes (out-Arg arg).name (map (misplaced_by text classes) (out-Arg arg).args) (out-Arg arg).binding) is

    pub misplaced-none : target_in text classes modified (idents text (out-Arg arg).name) ≡ None → misplaced_by text classes arg modified ≡ place_of (out-Arg arg).name ∷ []
    misplaced-none is = by_target None is

    pub misplaced-attribute : target_in text classes modified (idents text (out-Arg arg).name) ≡ Some Attribute
        → misplaced_by text classes arg modified ≡ misplaced_in text classes None (out-Arg arg).args
    misplaced-attribute is = by_target (Some Attribute) is ∙ through None (out-Arg arg).args

    pub misplaced-part : (type : TypeName) → target_in text classes modified (idents text (out-Arg arg).name) ≡ Some (Part type) → misplaced_by text classes arg modified
        ≡ unless (takes_value text classes type (out-Arg arg).binding) (place_of (out-Arg arg).name) ++ misplaced_in text classes (Some type) (out-Arg arg).args
    misplaced-part type is =
        by_target (Some (Part type)) is
        ∙ ap (λ rest. unless (takes_value text classes type (out-Arg arg).binding) (place_of (out-Arg arg).name) ++ rest) (through (Some type) (out-Arg arg).args)
