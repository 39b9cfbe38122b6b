-- Uses divided one by one.
use Rattle.std.proofs.Common.{◌≡◌, refl, ap, ap₂, ◌∙◌, sym, ℕ, suc, ◌+◌, ◌<◌, ◌≤◌, Bool, true, false, List, [], ◌∷◌, ◌++◌, length, map, drop, get_or, append-nil, append_assoc, if◌then◌else◌, ◌⊎◌, inl, inr, arith}
use Rattle.std.proofs.lemmas.Bool.{cases_lt}
use Rattle.std.proofs.lemmas.List.{map-append, drop_more, drop_all, get_or_past}
use Rattle.eq_order.specs.declared.uses.Use.{Use}
use Rattle.tree_step.specs.declared.taking.Entry.{Entry}
use Rattle.moment_order.specs.declared.stage.Stage.{Stage}
use Rattle.moment_order.specs.Stages.{is_stage}
use Rattle.moment_order.specs.declared.stage.Stage.TheVariants.{Partition}
use Rattle.steps_ready.specs.Division.{entry_of, just, taken_at, part_of, AreDivided}

more : (stage own : Stage) (stages : List Stage) (taken : Use) (order : List Use) → taken_at stage (own ∷ stages) (taken ∷ order) ≡ just stage own taken ++ taken_at stage stages order
more stage own stages taken order = by_test (is_stage stage own)
  where
    by_test : (b : Bool) → (if b then (taken ∷ taken_at stage stages order) else taken_at stage stages order) ≡ (if b then (taken ∷ []) else []) ++ taken_at stage stages order
    by_test true = refl
    by_test false = refl

none_taken : (stage : Stage) (stages : List Stage) → taken_at stage stages [] ≡ []
none_taken stage [] = refl
none_taken stage (own ∷ stages) = refl

-- the uses of a stage that are left behind so many
abbrev pub left : Stage → List Stage → List Use → ℕ → List Use
left stage stages order at = taken_at stage (drop at stages) (drop at order)

module _ (stage : Stage) (stages : List Stage) (order : List Use) (at : ℕ) where
  abbrev now_left : List Use
  now_left = left stage stages order at

  abbrev then_left : List Use
  then_left = left stage stages order (at + 1)

  left_more : (own : Stage) (taken : Use) → at < length stages → at < length order → now_left ≡ just stage (get_or stages at own) (get_or order at taken) ++ then_left
  left_more own taken one two =
      ap₂ (taken_at stage) (drop_more stages at own one) (drop_more order at taken two) ∙ more stage (get_or stages at own) (drop (at + 1) stages) (get_or order at taken) (drop (at + 1) order)

  left_none : (length stages ≤ at) ⊎ (length order ≤ at) → now_left ≡ []
  left_none (inl past) = ap (λ own. taken_at stage own (drop at order)) (drop_all at stages past)
  left_none (inr past) = ap (taken_at stage (drop at stages)) (drop_all at order past) ∙ none_taken stage (drop at stages)

  -- with the uses of the turn at the end, what was there and what is left are the same
  module _ (own : Stage) (taken : Use) (one : at < length stages) (two : at < length order) where
    abbrev turn : List Use
    turn = just stage (get_or stages at own) (get_or order at taken)

    pub uses_next : (old new all : List Use) → old ++ now_left ≡ all → new ≡ old ++ turn → new ++ then_left ≡ all
    uses_next old new all before is =
        ap (λ us. us ++ then_left) is ∙ append_assoc old turn (then_left) ∙ ap (λ us. old ++ us) (sym (left_more own taken one two)) ∙ before

    pub entries_next : (old new all : List Entry) → old ++ map entry_of (now_left) ≡ all → new ≡ old ++ map entry_of turn → new ++ map entry_of (then_left) ≡ all
    entries_next old new all before is =
        ap (λ es. es ++ map entry_of (then_left)) is ∙ append_assoc old (map entry_of turn) (map entry_of (then_left))
        ∙ ap (λ es. old ++ es) (sym (map-append entry_of turn (then_left)) ∙ ap (map entry_of) (sym (left_more own taken one two))) ∙ before

  pub uses_last : (now all : List Use) → (length stages ≤ at) ⊎ (length order ≤ at) → now ++ now_left ≡ all → now ≡ all
  uses_last now all past is = sym (append-nil now) ∙ ap (λ us. now ++ us) (sym (left_none past)) ∙ is

  pub entries_last : (now all : List Entry) → (length stages ≤ at) ⊎ (length order ≤ at) → now ++ map entry_of (now_left) ≡ all → now ≡ all
  entries_last now all past is = sym (append-nil now) ∙ ap (λ us. now ++ map entry_of us) (sym (left_none past)) ∙ is

-- a stage has no more uses than there are
pub taken_few : (stage : Stage) (stages : List Stage) (order : List Use) → length (taken_at stage stages order) ≤ length order
taken_few stage [] order = omega arith
taken_few stage (own ∷ stages) [] = omega arith
taken_few stage (own ∷ stages) (taken ∷ order) = by_test (taken_few stage stages order) (is_stage stage own)
  where
    by_test : length (taken_at stage stages order) ≤ length order → (b : Bool) → length (if b then (taken ∷ taken_at stage stages order) else taken_at stage stages order) ≤ suc (length order)
    by_test rest true = omega (arith, rest)
    by_test rest false = omega (arith, rest)

pub parts_few : (stages : List Stage) (order : List Use) (count : ℕ) (pure waiting : List Entry) (parts : List (List Use)) → AreDivided stages order count pure waiting parts
    → (bound : ℕ) → length order < bound → (k : ℕ) → length (part_of parts k) < bound
parts_few stages order count pure waiting parts divided bound few k = elim (cases_lt k count) [
  | inl within ↦ let is = ap length (divided.parts_are k within) in let less = taken_few (Partition k) stages order in omega (arith, is, less, few)
  | inr past ↦ let is = ap length (get_or_past parts k [] (let size = divided.size in omega (arith, size, past))) in omega (arith, is, few)
]
