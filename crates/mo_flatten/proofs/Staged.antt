-- The first broken rule, stage by stage.
use Rattle.std.proofs.Common.{◌≡◌, refl, sym, subst, ℕ, ◌+◌, ◌<◌, List, Option, Some, None, Result, Ok, Err, arith}
use Rattle.std.specs.Global.{Global}
use Rattle.std.specs.declared.vec.Vec.{Vec}
use Rattle.mo_parser.specs.declared.tree.ClassDef.{ClassDef}
use Rattle.class_scopes.specs.declared.end.NameCode.{NameCode}
use Rattle.class_scopes.specs.declared.end.NameCode.TheVariants as code
use Rattle.class_scopes.specs.declared.end.RuleEnd.{RuleEnd}
use Rattle.class_scopes.specs.declared.end.RuleEnd.TheVariants.{Broken, NoMemory}
use Rattle.class_scopes.specs.declared.named.Named.{Named}
use Rattle.class_scopes.specs.Faults.{IsFirstOf, IsKept, IsFirstPlace}
use Rattle.class_scopes.specs.Names.{Names, AreNamed}
use Rattle.class_scopes.specs.Reached.{AreReached}
use Rattle.class_scopes.specs.N1 as N1
use Rattle.class_scopes.specs.N2 as N2
use Rattle.class_order.specs.N4 as N4
use Rattle.class_order.specs.Orders.{Orders}
use Rattle.scope_names.specs.N3 as N3
use Rattle.scope_names.specs.declared.scopes.Scopes.{Scopes}
use Rattle.flat_answer.specs.Broken.{rank, Breaks, KeepsBefore, IsFirst}
use Rattle.flat_answer.proofs.Ranks.{keeps_none, keeps_more, is_first}
use Rattle.mo_flatten.specs.private.Stages.{IsEnd, IsScoped, AreScopesOf}

module _ (text : List ℕ) (classes : List ClassDef) (chosen : Option ℕ) where
  -- the rule of a rank is broken first
  pub ends_at : (c : NameCode) (at end : ℕ) → rank c ≡ end → end < 9 → KeepsBefore text classes chosen end → IsFirstOf (Breaks text classes chosen c) at → IsEnd text classes chosen (Broken c at)
  ends_at c at end ranked early before first = (omega (arith, ranked, early), is_first text classes chosen c at end ranked before first)

  keeps_one : IsKept (N1.Breaks text classes chosen) → KeepsBefore text classes chosen 1
  keeps_one kept = keeps_more text classes chosen code.N1 0 1 refl refl (keeps_none text classes chosen) kept

  keeps_two : IsKept (N1.Breaks text classes chosen) → IsKept (N2.Breaks text classes chosen) → KeepsBefore text classes chosen 2
  keeps_two one two = keeps_more text classes chosen code.N2 1 2 refl refl (keeps_one one) two

  -- N1 or N2
  pub names_end : (end : RuleEnd) → Names text classes chosen (Err end) → IsEnd text classes chosen end
  names_end (Broken code.N1 at) first = ends_at code.N1 at 0 refl (omega arith) (keeps_none text classes chosen) first
  names_end (Broken code.N2 at) (kept, first) = ends_at code.N2 at 1 refl (omega arith) (keeps_one kept) first
  names_end (Broken code.N3 at) bad = absurd bad
  names_end (Broken code.N4 at) bad = absurd bad
  names_end (Broken code.N5 at) bad = absurd bad
  names_end (Broken code.N6 at) bad = absurd bad
  names_end (Broken code.N7 at) bad = absurd bad
  names_end (Broken code.N8 at) bad = absurd bad
  names_end (Broken code.N9 at) bad = absurd bad
  names_end (Broken code.N10 at) bad = absurd bad
  names_end (Broken code.N11 at) bad = absurd bad
  names_end NoMemory any = tt

-- the first place of a rule, and that it has none
pub placed_first : (P : ℕ → Type 0) (r : Option ℕ) (at : ℕ) → IsFirstPlace P r → r ≡ Some at → IsFirstOf P at
placed_first P r at first is = subst (IsFirstPlace P) is first

pub placed_kept : (P : ℕ → Type 0) (r : Option ℕ) → IsFirstPlace P r → r ≡ None → IsKept P
placed_kept P r first is = subst (IsFirstPlace P) is first

-- a statement of a text, classes and a choice is one of those that are the same
module _ (text other : List ℕ) (classes these : List ClassDef) (choice : Option ℕ) (chosen : ℕ) (texts : other ≡ text) (same : these ≡ classes) (chooses : choice ≡ Some chosen) where
  pub moved : (P : List ℕ → List ClassDef → Option ℕ → Type 0) → P text classes choice → P other these (Some chosen)
  moved P p = subst (λ x. P x these (Some chosen)) (sym texts) (subst (λ x. P text x (Some chosen)) (sym same) (subst (P text classes) chooses p))

  pub returned : (P : List ℕ → List ClassDef → Option ℕ → Type 0) → P other these (Some chosen) → P text classes choice
  returned P p = subst (P text classes) (sym chooses) (subst (λ x. P text x (Some chosen)) same (subst (λ x. P x these (Some chosen)) texts p))

module _ (text : List ℕ) (classes : List ClassDef) (choice : Option ℕ) (named : Named) (scopes : Scopes) (is : scopes.named ≡ named) (are : AreNamed text classes choice named) where
  here : AreNamed text classes choice scopes.named
  here = subst (AreNamed text classes choice) (sym is) are

  pub reached_here : AreReached scopes.named.file.text.now scopes.named.file.classes.now scopes.named.chosen scopes.named.reached.items
  reached_here = subst (λ t. AreReached t scopes.named.file.classes.now scopes.named.chosen scopes.named.reached.items) (sym here.text_is)
      (subst (λ c. AreReached text c scopes.named.chosen scopes.named.reached.items) (sym here.classes_are) here.reached)

  before : KeepsBefore text classes choice 2
  before = keeps_two text classes choice here.types here.names

  pub three_end : (at : ℕ) → IsFirstOf (N3.Breaks scopes.named.file.text.now scopes.named.file.classes.now (Some scopes.named.chosen)) at → IsEnd text classes choice (Broken code.N3 at)
  three_end at first =
      ends_at text classes choice code.N3 at 2 refl (omega arith) before
      (returned text scopes.named.file.text.now classes scopes.named.file.classes.now choice scopes.named.chosen here.text_is here.classes_are here.chosen
      (λ t c o. IsFirstOf (N3.Breaks t c o) at) first)

  pub scoped_here : IsKept (N3.Breaks scopes.named.file.text.now scopes.named.file.classes.now (Some scopes.named.chosen)) → AreScopesOf text classes choice scopes
  scoped_here kept =
      let there = moved text scopes.named.file.text.now classes scopes.named.file.classes.now choice scopes.named.chosen here.text_is here.classes_are here.chosen
      (λ t c o. KeepsBefore t c o 2) before in
      record {
        text_is = here.text_is;
        classes_are = here.classes_are;
        chosen = here.chosen;
        scoped = record {
          reached = reached_here;
          keeps = keeps_more scopes.named.file.text.now scopes.named.file.classes.now (Some scopes.named.chosen) code.N3 2 3 refl refl there kept;
        };
      }

-- the rules of an order
module _ (text : List ℕ) (classes : List ClassDef) (chosen : ℕ) (before : KeepsBefore text classes (Some chosen) 3) where
  pub order_end : (end : RuleEnd) → Orders text classes chosen (Err end) → IsEnd text classes (Some chosen) end
  order_end (Broken code.N4 at) first = ends_at text classes (Some chosen) code.N4 at 3 refl (omega arith) before first
  order_end (Broken code.N1 at) bad = absurd bad
  order_end (Broken code.N2 at) bad = absurd bad
  order_end (Broken code.N3 at) bad = absurd bad
  order_end (Broken code.N5 at) bad = absurd bad
  order_end (Broken code.N6 at) bad = absurd bad
  order_end (Broken code.N7 at) bad = absurd bad
  order_end (Broken code.N8 at) bad = absurd bad
  order_end (Broken code.N9 at) bad = absurd bad
  order_end (Broken code.N10 at) bad = absurd bad
  order_end (Broken code.N11 at) bad = absurd bad
  order_end NoMemory any = tt

  pub keeps_four : IsKept (Breaks text classes (Some chosen) code.N4) → KeepsBefore text classes (Some chosen) 4
  keeps_four four = keeps_more text classes (Some chosen) code.N4 3 4 refl refl before four

module _ (text : List ℕ) (classes : List ClassDef) (chosen : ℕ) (before : KeepsBefore text classes (Some chosen) 4) where
  pub five_end : (at : ℕ) → IsFirstOf (Breaks text classes (Some chosen) code.N5) at → IsEnd text classes (Some chosen) (Broken code.N5 at)
  five_end at first = ends_at text classes (Some chosen) code.N5 at 4 refl (omega arith) before first

  module _ (five : IsKept (Breaks text classes (Some chosen) code.N5)) where
    pub keeps_five : KeepsBefore text classes (Some chosen) 5
    keeps_five = keeps_more text classes (Some chosen) code.N5 4 5 refl refl before five

    pub eight_end : (at : ℕ) → IsFirstOf (Breaks text classes (Some chosen) code.N8) at → IsEnd text classes (Some chosen) (Broken code.N8 at)
    eight_end at first = ends_at text classes (Some chosen) code.N8 at 5 refl (omega arith) keeps_five first

    module _ (eight : IsKept (Breaks text classes (Some chosen) code.N8)) where
      pub keeps_eight : KeepsBefore text classes (Some chosen) 6
      keeps_eight = keeps_more text classes (Some chosen) code.N8 5 6 refl refl keeps_five eight

      pub nine_end : (at : ℕ) → IsFirstOf (Breaks text classes (Some chosen) code.N9) at → IsEnd text classes (Some chosen) (Broken code.N9 at)
      nine_end at first = ends_at text classes (Some chosen) code.N9 at 6 refl (omega arith) keeps_eight first

      module _ (nine : IsKept (Breaks text classes (Some chosen) code.N9)) where
        pub keeps_nine : KeepsBefore text classes (Some chosen) 7
        keeps_nine = keeps_more text classes (Some chosen) code.N9 6 7 refl refl keeps_eight nine

        pub eleven_end : (at : ℕ) → IsFirstOf (Breaks text classes (Some chosen) code.N11) at → IsEnd text classes (Some chosen) (Broken code.N11 at)
        eleven_end at first = ends_at text classes (Some chosen) code.N11 at 7 refl (omega arith) keeps_nine first

        pub keeps_eleven : IsKept (Breaks text classes (Some chosen) code.N11) → KeepsBefore text classes (Some chosen) 8
        keeps_eleven eleven = keeps_more text classes (Some chosen) code.N11 7 8 refl refl keeps_nine eleven
