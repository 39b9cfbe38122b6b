-- A use that failed at its turn fails over the last row, so that some least equation is told.
use Rattle.std.proofs.Common.{◌≡◌, refl, ap, sym, subst, ◌∙◌, ℕ, List, [], ◌∷◌, ◌++◌, Contains, Option, Some, None, IsSome, inl, inr}
use Rattle.std.proofs.Math.Path.{fun_ext}
use Rattle.std.proofs.lemmas.Option.{same_Some}
use Rattle.sync_values.specs.declared.value.Value.{Value}
use Rattle.flat_model.specs.Assignment.{Assignment, IsOfKind}
use Rattle.flat_model.specs.Faults.{EquationFails}
use Rattle.flat_model.specs.Given.{Row, with_row, Solves}
use Rattle.flat_model.specs.Setting.{Setting}
use Rattle.flat_model.specs.Uses.{Use}
use Rattle.moment_theory.specs.Free.{IsOrdered}
use Rattle.moment_theory.specs.Sound.{IsSound, IsClear}
use Rattle.moment_theory.specs.Taken.{put, Gives, IsTaken, AreTaken}
use Rattle.moment_theory.proofs.Members.{IsMember, member_contains}
use Rattle.part_stretches.specs.declared.running.PartFailing.{PartFailing}
use Rattle.part_stretches.specs.Parts.{Block, entries_of, PartFails}
use Rattle.first_failure.specs.declared.least.EquationFailing.{EquationFailing}
use Rattle.first_failure.specs.Turns.{IsTurn, FailsAmong, IsLeast}
use Rattle.first_failure.proofs.Turning.{alike_at_turn, member_back}

module _ (s : Setting) (S : Assignment) (m : ℕ) where
  gives_once : (row : Row) (entry : Use) (v w : Value) → Gives s S m row entry v → Gives s S m row entry w → w ≡ v
  gives_once row entry v w one two =
      let equations : two.equation ≡ one.equation = same_Some two.equation one.equation (sym two.can.equation_is ∙ one.can.equation_is) in
      let names : two.name ≡ one.name = same_Some two.name one.name (sym two.can.name_is ∙ one.can.name_is) in
      one.only.only w (subst (λ n. IsOfKind n.kind w) names two.only.typed) (subst (λ q. Solves s (with_row S m row) m entry.equation q entry.name w) equations two.only.solves)

  one_next : (row a b : Row) (entry : Use) → IsTaken s S m entry row a → IsTaken s S m entry row b → (y : ℕ) → a y ≡ b y
  one_next row a b entry (inl (v, one, is)) (inl (w, two, at)) y = is y ∙ ap (λ z. put row entry.name z y) (sym (gives_once row entry v w one two)) ∙ sym (at y)
  one_next row a b entry (inl (v, one, is)) (inr (none, at)) y = absurd (none v one)
  one_next row a b entry (inr (none, is)) (inl (w, two, at)) y = absurd (none w two)
  one_next row a b entry (inr (none, is)) (inr (two, at)) y = is y ∙ sym (at y)

  -- uses that are taken leave one row
  one_last : (entries : List Use) (row a b : Row) → AreTaken s S m entries row a → AreTaken s S m entries row b → (y : ℕ) → a y ≡ b y
  one_last [] row a b one two = λ y. one y ∙ sym (two y)
  one_last (entry ∷ entries) row a b (mid, step, rest) (next, other, more) =
      let same : next ≡ mid = fun_ext (one_next row next mid entry other step) in
      one_last entries mid a b rest (subst (λ r. AreTaken s S m entries r b) same more)

  -- and those of a front, and then the others
  parted : (front rest : List Use) (row last : Row) → AreTaken s S m (front ++ rest) row last → (mid : Row) × AreTaken s S m front row mid × AreTaken s S m rest mid last
  parted [] rest row last taken = (row, (λ y. refl), taken)
  parted (entry ∷ front) rest row last (next, step, others) = let (mid, before, behind) = parted front rest next last others in (mid, (next, step, before), behind)

pub some_told : (s : Setting) (uses before after : List Use) (blocks : List Block) → IsOrdered s uses (before ++ (entries_of blocks ++ after)) → (S : Assignment) (m : ℕ) (row last : Row) → IsSound s (with_row S m row) m → IsClear (entries_of blocks) row
    → AreTaken s S m (entries_of blocks) row last → (i : ℕ) (failing : PartFailing) → PartFails s uses S m row i blocks failing
    → (result : Option EquationFailing) → IsLeast (FailsAmong s uses S m (entries_of blocks) last) result → IsSome result
some_told s uses before after blocks ordered S m row last sound clear taken i failing of (Some told) least = refl
some_told s uses before after blocks ordered S m row last sound clear taken i failing of None none =
    let (turn, front, behind) = parted s S m of.done (of.entry ∷ of.rest) row last (subst (λ es. AreTaken s S m es row last) of.entries_are taken) in
    let same : of.last ≡ turn = fun_ext (one_last s S m of.done row of.last turn of.taken front) in
    let at : IsTurn s S m (entries_of blocks) row last of.entry turn = record { done = of.done; rest = of.rest; entries_are = of.entries_are; before = front; behind = behind } in
    let fails : EquationFails s (with_row S m turn) uses m of.entry.equation failing.kind = subst (λ r. EquationFails s (with_row S m r) uses m of.entry.equation failing.kind) same of.fails in
    let used : Contains (entries_of blocks) of.entry = member_contains of.entry (entries_of blocks) (subst (IsMember of.entry) (sym of.entries_are) (member_back of.done (of.entry ∷ of.rest) of.entry (inl refl))) in
    absurd (none of.entry.equation failing.kind (of.entry, used, refl, (alike_at_turn s uses before (entries_of blocks) after ordered S m row last sound clear taken of.entry turn at).0.fails failing.kind fails))
