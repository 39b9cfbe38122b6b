-- Lines evaluated one after the other take their uses.
use Rattle.std.proofs.Common.{◌≡◌, refl, ap, sym, subst, ◌∙◌, ℕ, ◌==◌, true, if◌then◌else◌, List, [], ◌∷◌, length, suc, Some, inl}
use Rattle.sync_values.specs.declared.value.Value.{Value}
use Rattle.flat_model.specs.Asks.{Asking, OfNow, OfLast, OfPrevious, OfFirst, OfInterval}
use Rattle.flat_model.specs.Assignment.{Assignment}
use Rattle.flat_model.specs.Given.{Row, with_row}
use Rattle.flat_model.specs.Meaning.{value_of}
use Rattle.flat_model.specs.Operators.{Answer, Is, Fails, Absent}
use Rattle.flat_model.specs.Runnable.{IsRunnable}
use Rattle.flat_model.specs.Setting.{Setting, class_ticks, views_at}
use Rattle.flat_model.specs.Uses.{Use, AreUses}
use Rattle.flat_model.specs.Views.{Views}
use Rattle.flat_model.proofs.Asks.{SameAt, value_rests_on_asked}
use Rattle.moment_theory.specs.Taken.{put, Gives}
use Rattle.moment_theory.proofs.FromRunnable.{facts_of}
use Rattle.step_code.specs.Lines.{Line, given, Ended, All, Failed, Missing, ended_by, lines_end}
use Rattle.side_theory.specs.Sides.{IsSideUse, DoesAs}
use Rattle.side_theory.specs.Stretches.{IsSameAt, AreShown, AreLinesOf, AreCounted, GoesTo, StretchEnds}
use Rattle.side_theory.proofs.Side.{SideFacts, side_facts, does_as}
use Rattle.side_theory.proofs.Showing.{all_shown}

pub same_at : (v w : Views) (d : ℕ) (q : Asking) → IsSameAt v w d q → SameAt v w d q
same_at v w d (OfNow x) h = h
same_at v w d (OfLast x) h = h
same_at v w d (OfPrevious x) h = h
same_at v w d OfFirst h = h
same_at v w d OfInterval h = h

module _ (s : Setting) (uses : List Use) (runs : IsRunnable s) (are : AreUses s uses) (class : ℕ) (S : Assignment) (m : ℕ) where
  -- a value more, in the views and in the row
  goes_put : (views : Views) (row : Row) (x : ℕ) (v : Value) → GoesTo views row (given x v views) (put row x v)
  goes_put views row x v y same = ap (λ o. if y == x then Some v else o) same

  -- one use is taken, and then the others
  one_more : (row : Row) (views : Views) (entry : Use) (entries : List Use) (x : ℕ) (v : Value) (e : Ended) → x ≡ entry.name → Gives s S m row entry v
      → StretchEnds s uses S m (put row entry.name v) entries (given x v views) e → StretchEnds s uses S m row (entry ∷ entries) views e
  one_more row views entry entries x v (All after) name gives ends = (
    ends.0,
    (put row entry.name v, inl (v, gives, λ y. refl), ends.1),
    λ y same. ends.2 y (subst (λ z. (if y == x then Some v else (views 0).now y) ≡ put row z v y) name (goes_put views row x v y same)),
  )
  one_more row views entry entries x v (Failed after kind line behind) name gives ends = record {
    done = entry ∷ ends.done;
    entry = ends.entry;
    rest = ends.rest;
    entries_are = ap (λ z. entry ∷ z) ends.entries_are;
    last = ends.last;
    taken = (put row entry.name v, inl (v, gives, λ y. refl), ends.taken);
    fails = ends.fails;
    name_is = ends.name_is;
    rest_is = ends.rest_is;
    goes = λ y same. ends.goes y (subst (λ z. (if y == x then Some v else (views 0).now y) ≡ put row z v y) name (goes_put views row x v y same));
  }
  one_more row views entry entries x v Missing name gives ends = ends

  pub as_many : (entries : List Use) (ls : List Line) → AreLinesOf s uses class entries ls → length entries ≡ length ls
  as_many [] [] are = refl
  as_many [] (l ∷ ls) are = absurd are
  as_many (e ∷ es) [] are = absurd are
  as_many (e ∷ es) (l ∷ ls) are = ap suc (as_many es ls are.1)

  pub stretch_ends : (entries : List Use) (ls : List Line) → AreLinesOf s uses class entries ls → (row : Row) (views : Views) → AreCounted s S m class row entries ls → AreShown s S m row class ls views
      → StretchEnds s uses S m row entries views (lines_end ls views)
  stretch_ends [] [] lines row views counted shown = (row, λ y. refl, λ y same. same)
  stretch_ends [] (l ∷ ls) lines row views counted shown = absurd lines
  stretch_ends (entry ∷ entries) [] lines row views counted shown = absurd lines
  stretch_ends (entry ∷ entries) (l ∷ ls) lines row views counted shown =
      by_answer (value_of l.side views) (subst (DoesAs s uses S m row entry) (sym seen) does)
      (λ v is_v. stretch_ends entries ls lines.1 (put row entry.name v) (given l.name v views) (counted.1 v (sym seen ∙ is_v)) (shown_more v))
    where
      is : IsSideUse s entry l.side class
      is = lines.0.2

      seen : value_of l.side views ≡ value_of l.side (views_at s (with_row S m row) (Some class) m)
      seen = value_rests_on_asked l.side _ _ (λ d q asks. same_at views (views_at s (with_row S m row) (Some class) m) d q (shown.0 d q asks))

      does : DoesAs s uses S m row entry (value_of l.side (views_at s (with_row S m row) (Some class) m))
      does = does_as s uses runs are entry l.side class lines.0.0 is S m row counted.0

      facts : SideFacts s entry l.side class
      facts = side_facts s uses runs are entry l.side class lines.0.0 is

      shown_more : (v : Value) → AreShown s S m (put row entry.name v) class ls (given l.name v views)
      shown_more v = subst (λ x. AreShown s S m (put row entry.name v) class ls (given x v views)) (sym lines.0.1)
          (all_shown s (facts_of s runs).unclocked S m row class entry.name v (subst (λ c. class_ticks s (with_row S m row) c m ≡ true) is.class_is counted.0.can.ticks.1) facts.clocked facts.sites ls views shown.1)

      by_answer : (a : Answer) → DoesAs s uses S m row entry a → ((v : Value) → a ≡ Is v → StretchEnds s uses S m (put row entry.name v) entries (given l.name v views) (lines_end ls (given l.name v views)))
          → StretchEnds s uses S m row (entry ∷ entries) views (ended_by a views l ls (lines_end ls))
      by_answer (Is v) gives more = one_more row views entry entries l.name v (lines_end ls (given l.name v views)) lines.0.1 gives (more v refl)
      by_answer (Fails kind) fails more = record {
        done = [];
        entry = entry;
        rest = entries;
        entries_are = refl;
        last = row;
        taken = λ y. refl;
        fails = fails;
        name_is = lines.0.1;
        rest_is = as_many entries ls lines.1;
        goes = λ y same. same;
      }
      by_answer Absent none more = none
