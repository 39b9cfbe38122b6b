-- A use of an equation `name = side` or `side = name` gives the value of its side, or fails as it does.
use Rattle.std.proofs.Common.{◌≡◌, ◌≢◌, refl, ap, sym, subst, ◌∙◌, ℕ, ◌-◌, true, List, [], ◌∷◌, Option, Some, Contains, arith}
use Rattle.std.proofs.lemmas.Option.{same_Some, none-some}
use Rattle.sync_values.specs.declared.value.Value.{Value}
use Rattle.sync_values.specs.declared.value.Fail.{Fail}
use Rattle.flat_model.specs.declared.equation.Equation.{Equation}
use Rattle.flat_model.specs.declared.equation.Equation.TheVariants.{Valued}
use Rattle.flat_model.specs.declared.expression.Expr.{Expr}
use Rattle.flat_model.specs.declared.expression.Expr.TheVariants.{Read}
use Rattle.flat_model.specs.Assignment.{Assignment, IsOfKind}
use Rattle.flat_model.specs.Faults.{EquationFails}
use Rattle.flat_model.specs.Given.{Row, with_row, with_value, CanUse}
use Rattle.flat_model.specs.Meaning.{value_of}
use Rattle.flat_model.specs.Occurrences.{bare_count}
use Rattle.flat_model.specs.Operators.{Answer, Is, Fails, Absent, read}
use Rattle.flat_model.specs.Ways.{kind_of}
use Rattle.flat_model.specs.Runnable.{IsRunnable}
use Rattle.flat_model.specs.Setting.{Setting, class_of_name, class_of_equation, class_ticks, views_at}
use Rattle.flat_model.specs.Uses.{Use, AreUses, IsSolvableFor, SiteReads}
use Rattle.flat_model.specs.Views.{Views}
use Rattle.flat_model.proofs.Agreement.{SameBefore}
use Rattle.flat_model.proofs.Links.{asked_bare}
use Rattle.flat_model.proofs.Sites.{class_ticks_by_site}
use Rattle.flat_model.proofs.Values.{value_of-Read}
use Rattle.moment_theory.specs.Free.{AsksLastIn}
use Rattle.moment_theory.specs.Taken.{Gives}
use Rattle.moment_theory.proofs.Alike.{same_but}
use Rattle.moment_theory.proofs.Facts.{facts_of_use, class_of_use}
use Rattle.moment_theory.proofs.FromRunnable.{facts_of}
use Rattle.moment_theory.proofs.PartsRest.{same_without}
use Rattle.moment_theory.proofs.Rows.{value_now, value_other, value_before, unclocked_at_first}
use Rattle.moment_theory.proofs.Unknown.{site_same}
use Rattle.side_theory.specs.Sides.{sided, IsSideUse, IsAnswerOfKind, Counts, DoesAs}
use Rattle.side_theory.proofs.Sided.{no_count, one_value, both_values, beside}

-- what is known of a use of a name and a side
pub record SideFacts (s : Setting) (entry : Use) (side : Expr) (class : ℕ) : Type 0 where
  pub bare : bare_count entry.name side ≡ 0
  pub last : AsksLastIn side entry.name → ⊥
  pub clocked : class_of_name s entry.name ≡ Some class
  pub sites : (c : Option ℕ) (y : ℕ) → SiteReads s c y → y ≢ entry.name

pub side_facts : (s : Setting) (uses : List Use) → IsRunnable s → AreUses s uses → (entry : Use) (side : Expr) (class : ℕ) → Contains uses entry → IsSideUse s entry side class → SideFacts s entry side class
side_facts s uses runs are entry side class used is =
    let facts = facts_of s runs in
    let use_is = facts_of_use s uses are entry used in
    let same : Valued use_is.left use_is.right use_is.clause ≡ sided is.first entry.name side is.clause = same_Some (Valued use_is.left use_is.right use_is.clause) (sided is.first entry.name side is.clause) (sym use_is.found ∙ is.found) in
    let none = no_count entry.name is.first side is.clause (subst (IsSolvableFor entry.name) same use_is.solvable) in
    let clocked : class_of_name s entry.name ≡ Some class = class_of_use s facts entry use_is ∙ is.class_is in
    record {
      bare = none.0;
      last = none.1;
      clocked = clocked;
      sites = λ c y (site, factor, shift, condition, clock, found, some) is_own.
          none-some class (sym ((facts.unclocked site condition found).names y some) ∙ ap (class_of_name s) is_own ∙ clocked);
    }

module _ (s : Setting) (uses : List Use) (runs : IsRunnable s) (entry : Use) (side : Expr) (class : ℕ) (is : IsSideUse s entry side class) (facts : SideFacts s entry side class) (S : Assignment) (m : ℕ) (row : Row) where
  abbrev x : ℕ
  x = entry.name

  abbrev A : Assignment
  A = with_row S m row

  abbrev own : Equation
  own = sided is.first x side is.clause

  -- with any value of the name the side answers alike
  side_same : class_ticks s A (class_of_equation s entry.equation) m ≡ true → (w : Value) → value_of side (views_at s A (class_of_equation s entry.equation) m) ≡ value_of side (views_at s (with_value A m x w) (class_of_equation s entry.equation) m)
  side_same ticks w =
      let W = with_value A m x w in
      let before : SameBefore A W m = λ y k lt. sym (value_before A m x w y k lt) in
      same_without x side _ _ (let count = asked_bare x side in let none = facts.bare in omega (arith, count, none))
      (same_but s A W m before entry.equation x (λ at. unclocked_at_first s A (class_of_equation s entry.equation) (subst (λ k. class_ticks s A (class_of_equation s entry.equation) k ≡ true) at ticks)) side (record {
        now = λ y other some. sym (value_other A m x w y other);
        ticks = λ y asks. class_ticks_by_site s A W (class_of_name s y) m before (site_same s A W m (class_of_name s y) (facts_of s runs).unclocked (λ z reads. sym (value_other A m x w z (facts.sites (class_of_name s y) z reads))));
        last = λ y asks t. sym (value_other A m x w y (λ same. facts.last (subst (AsksLastIn side) same asks)));
        early = λ none d q some. absurd (none-some class (sym none ∙ is.class_is));
      }))

  own_value : (w : Value) → value_of (Read x) (views_at s (with_value A m x w) (class_of_equation s entry.equation) m) ≡ Is w
  own_value w = value_of-Read x (views_at s (with_value A m x w) (class_of_equation s entry.equation) m)
      ∙ ap read (subst (λ k. with_value A m x w x k ≡ Some w) (let h : m ≡ m - 0 = omega arith in h) (value_now A m x w))

  same_Is : (a b : Value) → Is a ≡ Is b → a ≡ b
  same_Is a b e = cc

  is_fails : (v : Value) (kind : Fail) → Is v ≡ Fails kind → ⊥
  is_fails v kind e = cc

  module _ (counts : Counts s S m row entry side class) where
    equation_same : counts.equation ≡ own
    equation_same = same_Some counts.equation own (sym counts.can.equation_is ∙ is.found)

    can : CanUse s A m entry own counts.name
    can = subst (λ e. CanUse s A m entry e counts.name) equation_same counts.can

    abbrev here : Views
    here = views_at s A (class_of_equation s entry.equation) m

    gives : (v : Value) → IsOfKind counts.name.kind v → value_of side here ≡ Is v → Gives s S m row entry v
    gives v typed h = record {
      equation = own;
      name = counts.name;
      can = can;
      only = record {
        typed = typed;
        solves = one_value (views_at s (with_value A m x v) (class_of_equation s entry.equation) m) is.first x side is.clause v (own_value v) (sym (side_same can.ticks.1 v) ∙ h);
        only = λ w typed solves.
            let both = both_values (views_at s (with_value A m x w) (class_of_equation s entry.equation) m) is.first x side is.clause solves in
            let first : Is w ≡ Is both.0 = sym (own_value w) ∙ both.1 in
            let second : Is both.0 ≡ Is v = sym both.2 ∙ sym (side_same can.ticks.1 w) ∙ h in
            same_Is w v (first ∙ second);
      };
    }

    fails : Contains uses entry → (kind : Fail) → value_of side here ≡ Fails kind → EquationFails s A uses m entry.equation kind
    fails used kind h = record {
      entry = entry;
      used = used;
      equation_is = refl;
      equation = own;
      name = counts.name;
      counts = can;
      unsolved = λ v typed solves.
          let both = both_values (views_at s (with_value A m x v) (class_of_equation s entry.equation) m) is.first x side is.clause solves in
          is_fails both.0 kind (sym both.2 ∙ sym (side_same can.ticks.1 v) ∙ h);
      kind_is = sym (ap kind_of (beside x side facts.bare is.clause here is.first ∙ ap (λ a. a ∷ []) h));
    }

    does : Contains uses entry → (a : Answer) → value_of side here ≡ a → IsAnswerOfKind counts.name.kind a → DoesAs s uses S m row entry a
    does used (Is v) h typed = gives v typed h
    does used (Fails kind) h typed = fails used kind h
    does used Absent h typed = typed

pub does_as : (s : Setting) (uses : List Use) → IsRunnable s → AreUses s uses → (entry : Use) (side : Expr) (class : ℕ) → Contains uses entry → IsSideUse s entry side class
    → (S : Assignment) (m : ℕ) (row : Row) → Counts s S m row entry side class → DoesAs s uses S m row entry (value_of side (views_at s (with_row S m row) (Some class) m))
does_as s uses runs are entry side class used is S m row counts =
    does s uses runs entry side class is (side_facts s uses runs are entry side class used is) S m row counts used _
    (ap (λ c. value_of side (views_at s (with_row S m row) c m)) is.class_is) counts.typed
