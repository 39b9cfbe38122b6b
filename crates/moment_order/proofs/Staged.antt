-- The stages that are found one after the other are those of the largest set of uses that rest on no clock.
use Rattle.std.proofs.Common.{◌≡◌, refl, ap, ap₂, ◌∙◌, sym, subst, ℕ, zero, suc, ◌<◌, ◌||◌, not, Bool, true, false, List, [], ◌∷◌, length, map, set, Option, Some, None, is_none, slice_get, replicate, if◌then◌else◌, Contains, ◌⊎◌, inl, inr, arith}
use Rattle.std.proofs.lemmas.Bool.{false≢true, cases_eq, and_parts, and_from}
use Rattle.std.proofs.lemmas.List.{get_or-set_same, get_or-set_other, length-set, length-replicate}
use Rattle.std.proofs.lemmas.Option.{slice_get_within}
use Rattle.flat_model.specs.declared.equation.Equation.{Equation}
use Rattle.flat_model.specs.declared.equation.Equation.TheVariants.{Valued, Clocks}
use Rattle.flat_model.specs.declared.expression.Expr.{Expr}
use Rattle.flat_model.specs.Occurrences.{bare_count}
use Rattle.flat_model.specs.Setting.{Setting, class_of_equation, partition_of}
use Rattle.flat_model.specs.Uses.{Use, ReadsIn, EquationReads, AreUses}
use Rattle.eq_orient.specs.declared.standing.Manner.{Manner}
use Rattle.eq_orient.specs.declared.standing.Manner.TheVariants as manner
use Rattle.eq_orient.specs.Spine.{count_in}
use Rattle.moment_theory.specs.Free.{AsksLastIn, AsksLast, IsReachedBy}
use Rattle.moment_theory.proofs.Facts.{facts_of_use}
use Rattle.moment_theory.proofs.FromUses.{AreReadFree, read_free}
use Rattle.moment_theory.proofs.Members.{IsMember, contains_member, member_contains, reached_member, member_reached}
use Rattle.moment_order.specs.declared.stage.Stage.{Stage}
use Rattle.moment_order.specs.Stages.{AreClockless, AreLargest, stage_in, stage_of, AreStages}
use Rattle.moment_order.specs.private.Resting.{is_late, rests, equation_rests, rests_at, place_in, is_pure_in, late_after, stages_from}
use Rattle.moment_order.proofs.Rests.{ties, told}

-- ---- flags

set_own : (late : List Bool) (x : ℕ) → x < length late → is_late (set late x true) x ≡ true
set_own late x within = get_or-set_same late x true false within

set_more : (late : List Bool) (x y : ℕ) → x < length late → is_late late y ≡ true → is_late (set late x true) y ≡ true
set_more late x y within is = elim (cases_eq y x) [
  | inl same ↦ ap (is_late (set late x true)) same ∙ set_own late x within
  | inr other ↦ get_or-set_other late x y true false other ∙ is
]

set_was : (late : List Bool) (x y : ℕ) → is_late (set late x true) y ≡ true → (is_late late y ≡ true) ⊎ (y ≡ x)
set_was late x y is = elim (cases_eq y x) [
  | inl same ↦ inr same
  | inr other ↦ inl (sym (get_or-set_other late x y true false other) ∙ is)
]

none_late : (n y : ℕ) → is_late (replicate n false) y ≡ true → ⊥
none_late zero y is = false≢true is
none_late (suc n) zero is = false≢true is
none_late (suc n) (suc y) is = none_late n y is

or_true : (a b : Bool) → a || b ≡ true → (a ≡ true) ⊎ (b ≡ true)
or_true true b e = inl refl
or_true false b e = inr e

not_false : (b : Bool) → not b ≡ true → b ≡ false
not_false false e = refl
not_false true e = absurd (false≢true e)

not_true : (b : Bool) → (b ≡ true → ⊥) → not b ≡ true
not_true false h = refl
not_true true h = absurd (h refl)

-- ---- what an equation rests on

-- an equation rests on a clock: it asks for a last value, or a name with a flag stands bare in it
abbrev RestsOn : List Bool → Expr → Type 0
RestsOn late e = ((z : ℕ) × AsksLastIn e z) ⊎ ((y : ℕ) × (0 < bare_count y e) × (is_late late y ≡ true))

rests_on : (late : List Bool) (e : Expr) → rests late e ≡ true → RestsOn late e
rests_on late e is_true = let (m, x, there, tie) = (told late e).some is_true in by_manner m x there tie
  where
    by_manner : (m : Manner) (x : ℕ) → 0 < count_in m x e → ties late m x ≡ true → RestsOn late e
    by_manner manner.Bare x there tie = inr (x, there, tie)
    by_manner manner.Held x there tie = inl (x, inl there)
    by_manner manner.Converted x there tie = inl (x, inr there)

asks_rests : (late : List Bool) (e : Expr) (z : ℕ) → AsksLastIn e z → rests late e ≡ true
asks_rests late e z (inl held) = (told late e).all manner.Held z held refl
asks_rests late e z (inr converted) = (told late e).all manner.Converted z converted refl

bare_rests : (late : List Bool) (e : Expr) (y : ℕ) → 0 < bare_count y e → is_late late y ≡ true → rests late e ≡ true
bare_rests late e y there is = (told late e).all manner.Bare y there is

or_left : (a b : Bool) → a ≡ true → a || b ≡ true
or_left a b e = ap (λ c. c || b) e

or_right : (a b : Bool) → b ≡ true → a || b ≡ true
or_right true b e = refl
or_right false b e = e

last_rests : (late : List Bool) (equation : Equation) (z : ℕ) → AsksLast equation z → equation_rests late equation ≡ true
last_rests late (Valued left right clause) z (inl asks) = or_left (rests late left) (rests late right) (asks_rests late left z asks)
last_rests late (Valued left right clause) z (inr asks) = or_right (rests late left) (rests late right) (asks_rests late right z asks)
last_rests late (Clocks left right clause) z asks = absurd asks

module _ (s : Setting) where
  side_rests : (late : List Bool) (i : ℕ) (e : Expr) (y : ℕ) → ReadsIn s i e y → is_late late y ≡ true → rests late e ≡ true
  side_rests late i e y (inl bare) is = bare_rests late e y bare is
  side_rests late i e y (inr (inl held)) is = asks_rests late e y (inl held)
  side_rests late i e y (inr (inr (converted, meet))) is = asks_rests late e y (inr converted)

  -- an equation that reads a name with a flag rests on a clock
  read_rests : (late : List Bool) (i : ℕ) (equation : Equation) (y : ℕ) → EquationReads s i equation y → is_late late y ≡ true → equation_rests late equation ≡ true
  read_rests late i (Valued left right clause) y (inl reads) is = or_left (rests late left) (rests late right) (side_rests late i left y reads is)
  read_rests late i (Valued left right clause) y (inr reads) is = or_right (rests late left) (rests late right) (side_rests late i right y reads is)
  read_rests late i (Clocks left right clause) y reads is = absurd reads

  -- and one that rests on a clock asks for a last value, or reads such a name
  abbrev HasTie : List Bool → ℕ → Equation → Type 0
  HasTie late i equation = ((z : ℕ) × AsksLast equation z) ⊎ ((y : ℕ) × EquationReads s i equation y × (is_late late y ≡ true))

  has_tie : (late : List Bool) (i : ℕ) (equation : Equation) → equation_rests late equation ≡ true → HasTie late i equation
  has_tie late i (Valued left right clause) is_true = elim (or_true (rests late left) (rests late right) is_true) [
    | inl here ↦ elim (rests_on late left here) [
      | inl asks ↦ inl (asks.0, inl asks.1)
      | inr bare ↦ let (y, there, is) = bare in inr (y, inl (inl there), is)
    ]
    | inr here ↦ elim (rests_on late right here) [
      | inl asks ↦ inl (asks.0, inr asks.1)
      | inr bare ↦ let (y, there, is) = bare in inr (y, inr (inl there), is)
    ]
  ]
  has_tie late i (Clocks left right clause) is_true = absurd (false≢true is_true)

  -- ---- one use after the other

  abbrev turn : List Bool → Use → Bool
  turn late entry = is_pure_in s.model.equations s.clocking late entry

  abbrev after : List Bool → Use → List Bool
  after late entry = late_after s.model.equations s.clocking late entry

  -- the flags in the end
  abbrev last_flags : List Bool → List Use → List Bool
  last_flags late [] = late
  last_flags late (entry ∷ uses) = last_flags (after late entry) uses

  -- the names of uses have flags
  abbrev HaveFlags : ℕ → List Use → Type 0
  HaveFlags n uses = (entry : Use) → IsMember entry uses → entry.name < n

  length_after : (late : List Bool) (entry : Use) → length (after late entry) ≡ length late
  length_after late entry = by_turn (turn late entry)
    where
      by_turn : (b : Bool) → length (if b then late else set late entry.name true) ≡ length late
      by_turn true = refl
      by_turn false = length-set late entry.name true

  after_more : (late : List Bool) (entry : Use) (y : ℕ) → entry.name < length late → is_late late y ≡ true → is_late (after late entry) y ≡ true
  after_more late entry y within is = by_turn (turn late entry)
    where
      by_turn : (b : Bool) → is_late (if b then late else set late entry.name true) y ≡ true
      by_turn true = is
      by_turn false = set_more late entry.name y within is

  after_was : (late : List Bool) (entry : Use) (y : ℕ) → is_late (after late entry) y ≡ true → (is_late late y ≡ true) ⊎ ((y ≡ entry.name) × (turn late entry ≡ false))
  after_was late entry y is = by_turn (turn late entry) refl is
    where
      by_turn : (b : Bool) → turn late entry ≡ b → is_late (if b then late else set late entry.name true) y ≡ true → (is_late late y ≡ true) ⊎ ((y ≡ entry.name) × (turn late entry ≡ false))
      by_turn true e h = inl h
      by_turn false e h = elim (set_was late entry.name y h) [
        | inl was ↦ inl was
        | inr own ↦ inr (own, e)
      ]

  after_own : (late : List Bool) (entry : Use) → entry.name < length late → turn late entry ≡ false → is_late (after late entry) entry.name ≡ true
  after_own late entry within impure = rw impure (set_own late entry.name within)

  last_more : (uses : List Use) (late : List Bool) (y : ℕ) → HaveFlags (length late) uses → is_late late y ≡ true → is_late (last_flags late uses) y ≡ true
  last_more [] late y have is = is
  last_more (entry ∷ uses) late y have is = last_more uses (after late entry) y (λ e member. subst (λ n. e.name < n) (sym (length_after late entry)) (have e (inr member)))
      (after_more late entry y (have entry (inl refl)) is)

  last_was : (uses : List Use) (late : List Bool) (y : ℕ) → is_late (last_flags late uses) y ≡ true → (is_late late y ≡ true) ⊎ IsReachedBy y uses
  last_was [] late y is = inl is
  last_was (entry ∷ uses) late y is = elim (last_was uses (after late entry) y is) [
    | inl now ↦ elim (after_was late entry y now) [
      | inl was ↦ inl was
      | inr own ↦ inr (inl own.0)
    ]
    | inr later ↦ inr (inr later)
  ]

  -- pure are the uses whose names have no flag in the end
  abbrev pure_by : List Bool → Use → Bool
  pure_by final entry = not (is_late final entry.name)

  -- the turn of each use in a list
  abbrev AtTurns : (List Bool → Use → List Use → Type 0) → List Bool → List Use → Type 0
  AtTurns P late [] = Unit {0}
  AtTurns P late (entry ∷ uses) = P late entry uses × AtTurns P (after late entry) uses

  -- at its turn a use is known for what it is in the end
  abbrev IsSettled : List Bool → List Bool → Use → List Use → Type 0
  IsSettled final late entry later = (turn late entry ≡ pure_by final entry)
      × ((y : ℕ) → pure_by final entry ≡ true → (IsReachedBy y later → ⊥) → is_late final y ≡ true → is_late late y ≡ true)

  settled : (uses : List Use) (late : List Bool) → HaveFlags (length late) uses → AreReadFree s uses → ((y : ℕ) → IsReachedBy y uses → is_late late y ≡ true → ⊥)
      → AtTurns (IsSettled (last_flags late uses)) late uses
  settled [] late have free fresh = tt
  settled (entry ∷ uses) late have free fresh = (
    (known (turn late entry) refl, unreached),
    settled uses (after late entry) later_have free.2
        (λ y reached is. elim (after_was late entry y is) [
          | inl was ↦ fresh y (inr reached) was
          | inr own ↦ free.1 (subst (λ z. IsReachedBy z uses) own.0 reached)
        ]),
  )
    where
      within : entry.name < length late
      within = have entry (inl refl)

      later_have : HaveFlags (length (after late entry)) uses
      later_have e member = subst (λ n. e.name < n) (sym (length_after late entry)) (have e (inr member))

      final : List Bool
      final = last_flags (after late entry) uses

      known : (b : Bool) → turn late entry ≡ b → turn late entry ≡ not (is_late (last_flags (after late entry) uses) entry.name)
      known true e = e ∙ sym (not_true (is_late (last_flags (after late entry) uses) entry.name) (λ is. elim (last_was uses (after late entry) entry.name is) [
        | inl now ↦ elim (after_was late entry entry.name now) [
          | inl was ↦ fresh entry.name (inl refl) was
          | inr own ↦ false≢true (sym own.1 ∙ e)
        ]
        | inr later ↦ free.1 later
      ]))
      known false e = e ∙ ap not (sym (last_more uses (after late entry) entry.name later_have (after_own late entry within e)))

      unreached : (y : ℕ) → not (is_late (last_flags (after late entry) uses) entry.name) ≡ true → (IsReachedBy y uses → ⊥) → is_late (last_flags (after late entry) uses) y ≡ true → is_late late y ≡ true
      unreached y pure not_later is = elim (last_was uses (after late entry) y is) [
        | inl now ↦ elim (after_was late entry y now) [
          | inl was ↦ was
          | inr own ↦ absurd (false≢true (sym own.1 ∙ (known (turn late entry) refl ∙ pure)))
        ]
        | inr later ↦ absurd (not_later later)
      ]

  -- ---- all uses

  one_reach : (uses : List Use) → AreReadFree s uses → (a b : Use) → IsMember a uses → IsMember b uses → a.name ≡ b.name → a ≡ b
  one_reach [] free a b one two same = absurd one
  one_reach (first ∷ uses) free a b (inl is) (inl at) same = sym is ∙ at
  one_reach (first ∷ uses) free a b (inl is) (inr at) same = absurd (free.1 (subst (λ y. IsReachedBy y uses) (sym (ap (λ e. e.name) is ∙ same)) (reached_member uses b at)))
  one_reach (first ∷ uses) free a b (inr is) (inl at) same = absurd (free.1 (subst (λ y. IsReachedBy y uses) (same ∙ sym (ap (λ e. e.name) at)) (reached_member uses a is)))
  one_reach (first ∷ uses) free a b (inr is) (inr at) same = one_reach uses free.2 a b is at same

  none_of : (o : Option ℕ) → is_none o ≡ true → o ≡ None
  none_of None e = refl
  none_of (Some c) e = absurd (false≢true e)

  place_is : (class : Option ℕ) → place_in s.clocking.partitions class ≡ partition_of s class
  place_is None = refl
  place_is (Some class) = refl

  module _ (uses : List Use) (are : AreUses s uses) where
    abbrev start : List Bool
    start = replicate (length s.model.names) false

    abbrev final : List Bool
    final = last_flags start uses

    abbrev pure : Use → Bool
    pure entry = pure_by final entry

    free : AreReadFree s uses
    free = read_free s uses are

    have : HaveFlags (length start) uses
    have entry member =
        let of = facts_of_use s uses are entry (member_contains entry uses member) in
        let within = slice_get_within s.model.names entry.name of.name of.name_found in
        let long = length-replicate (length s.model.names) false in omega (arith, within, long)

    turns : AtTurns (IsSettled final) start uses
    turns = settled uses start have free (λ y reached is. none_late (length s.model.names) y is)

    stages_are : (rest : List Use) (late : List Bool) → AtTurns (IsSettled final) late rest → stages_from s.model.equations s.clocking late rest ≡ map (stage_of s pure) rest
    stages_are [] late known = refl
    stages_are (entry ∷ rest) late known = ap₂ (λ a b. a ∷ b) (ap₂ stage_in known.0.0 (place_is (class_of_equation s entry.equation))) (stages_are rest (after late entry) known.1)

    at_turn : (rest : List Use) (late : List Bool) → AtTurns (IsSettled final) late rest → AreReadFree s rest → (entry : Use) → IsMember entry rest
        → (now : List Bool) × (later : List Use) × IsSettled final now entry later × AreReadFree s (entry ∷ later)
    at_turn [] late known is_free entry member = absurd member
    at_turn (first ∷ rest) late known is_free entry (inl is) =
        (late, rest, subst (λ e. IsSettled final late e rest) is known.0, subst (λ e. AreReadFree s (e ∷ rest)) is is_free)
    at_turn (first ∷ rest) late known is_free entry (inr member) = at_turn rest (after late first) known.1 is_free.2 entry member

    -- at its turn a pure use is unclocked, and its equation rests on nothing
    turn_parts : (now : List Bool) (entry : Use) → turn now entry ≡ true → (class_of_equation s entry.equation ≡ None) × (rests_at now (slice_get s.model.equations entry.equation) ≡ false)
    turn_parts now entry is_true =
        let parts = and_parts (is_none (class_of_equation s entry.equation)) (not (rests_at now (slice_get s.model.equations entry.equation))) is_true in
        (none_of (class_of_equation s entry.equation) parts.0, not_false (rests_at now (slice_get s.model.equations entry.equation)) parts.1)

    rests_not : (now : List Bool) (entry : Use) (equation : Equation) → turn now entry ≡ true → slice_get s.model.equations entry.equation ≡ Some equation → equation_rests now equation ≡ false
    rests_not now entry equation is_true found = sym (ap (rests_at now) found) ∙ (turn_parts now entry is_true).1

    clockless : AreClockless s uses pure
    clockless = record {
      unclocked = λ entry used passes.
          let (now, later, known, is_free) = at_turn uses start turns free entry (contains_member entry uses used) in (turn_parts now entry (known.0 ∙ passes)).0;
      plain = λ entry equation z used passes found asks.
          let (now, later, known, is_free) = at_turn uses start turns free entry (contains_member entry uses used) in
          false≢true (sym (rests_not now entry equation (known.0 ∙ passes) found) ∙ last_rests now equation z asks);
      reads = λ entry y used passes (equation, found, reads) reached.
          let (now, later, known, is_free) = at_turn uses start turns free entry (contains_member entry uses used) in
          let (giver, member, same) = member_reached uses y reached in
          let not_late : is_late final giver.name ≡ true → ⊥ = λ is.
          false≢true (sym (rests_not now entry equation (known.0 ∙ passes) found)
          ∙ read_rests now entry.equation equation y reads (known.1 y passes (is_free.0 equation y found reads) (ap (is_late final) same ∙ is))) in
          (giver, member_contains giver uses member, not_true (is_late final giver.name) not_late, sym same);
    }

    module _ (other : Use → Bool) (closed : AreClockless s uses other) where
      -- no use of the set reaches a name with a flag
      abbrev AreOut : List Bool → Type 0
      AreOut late = (y : ℕ) → is_late late y ≡ true → IsReachedBy y uses × ((e : Use) → IsMember e uses → y ≡ e.name → other e ≡ true → ⊥)

      impure_out : (late : List Bool) (first : Use) → AreOut late → IsMember first uses → turn late first ≡ false → other first ≡ true → ⊥
      impure_out late first out member impure passes = by_equation (slice_get s.model.equations first.equation) refl
        where
          used : Contains uses first
          used = member_contains first uses member

          unclocked : is_none (class_of_equation s first.equation) ≡ true
          unclocked = ap is_none (closed.unclocked first used passes)

          pure_turn : rests_at late (slice_get s.model.equations first.equation) ≡ false → ⊥
          pure_turn is_false = false≢true (sym impure ∙ and_from (is_none (class_of_equation s first.equation)) (not (rests_at late (slice_get s.model.equations first.equation))) unclocked (ap not is_false))

          tie_out : (equation : Equation) → slice_get s.model.equations first.equation ≡ Some equation → HasTie late first.equation equation → ⊥
          tie_out equation found (inl (z, asks)) = closed.plain first equation z used passes found asks
          tie_out equation found (inr (y, reads, is)) =
              let (reached, is_false) = out y is in
              let (e, e_used, e_passes, same) = closed.reads first y used passes (equation, found, reads) reached in
              is_false e (contains_member e uses e_used) (sym same) e_passes

          by_rest : (equation : Equation) → slice_get s.model.equations first.equation ≡ Some equation → (b : Bool) → equation_rests late equation ≡ b → ⊥
          by_rest equation found true is_true = tie_out equation found (has_tie late first.equation equation is_true)
          by_rest equation found false is_false = pure_turn (ap (rests_at late) found ∙ is_false)

          by_equation : (o : Option Equation) → slice_get s.model.equations first.equation ≡ o → ⊥
          by_equation None found = pure_turn (ap (rests_at late) found)
          by_equation (Some equation) found = by_rest equation found (equation_rests late equation) refl

      out_after : (late : List Bool) (first : Use) → AreOut late → IsMember first uses → AreOut (after late first)
      out_after late first out member y is = elim (after_was late first y is) [
        | inl was ↦ out y was
        | inr own ↦ (
          subst (λ z. IsReachedBy z uses) (sym own.0) (reached_member uses first member),
          λ e e_member same passes.
              let is_first : e ≡ first = one_reach uses free e first e_member member (sym same ∙ own.0) in
              impure_out late first out member own.1 (sym (ap other is_first) ∙ passes),
        )
      ]

      largest_from : (rest : List Use) (late : List Bool) → AtTurns (IsSettled final) late rest → ((e : Use) → IsMember e rest → IsMember e uses) → AreOut late
          → (entry : Use) → IsMember entry rest → other entry ≡ true → pure entry ≡ true
      largest_from [] late known members out entry member passes = absurd member
      largest_from (first ∷ rest) late known members out entry (inl is) passes = subst (λ e. pure e ≡ true) is (by_turn (turn late first) refl)
        where
          by_turn : (b : Bool) → turn late first ≡ b → pure first ≡ true
          by_turn true e = sym known.0.0 ∙ e
          by_turn false e = absurd (impure_out late first out (members first (inl refl)) e (ap other is ∙ passes))
      largest_from (first ∷ rest) late known members out entry (inr member) passes =
          largest_from rest (after late first) known.1 (λ e there. members e (inr there)) (out_after late first out (members first (inl refl))) entry member passes

    largest : AreLargest s uses pure
    largest = record {
      clockless = clockless;
      largest = λ other closed entry used passes. largest_from other closed uses start turns (λ e member. member) (λ y is. absurd (none_late (length s.model.names) y is)) entry (contains_member entry uses used) passes;
    }

    pub staged : (stages : List Stage) → stages ≡ stages_from s.model.equations s.clocking start uses → AreStages s uses stages
    staged stages are_found = record { pure = pure; largest = largest; each = are_found ∙ stages_are uses start turns }
