-- The loop over entries.
use Rattle.std.proofs.Common.{◌≡◌, refl, ap, sym, subst, ℕ, zero, suc, ◌+◌, ◌<◌, ◌≤◌, List, [], ◌∷◌, ◌++◌, length, take, drop, get_or, drop-cons, Option, Some, None, slice_get, arith}
use Rattle.std.proofs.lemmas.Option.{slice_get-get_or}
use Rattle.first_failure.specs.declared.least.EquationFailing.{EquationFailing}
use Rattle.tree_step.specs.declared.cell.Cell.{Cell}
use Rattle.tree_step.specs.declared.changed.Reads.{Reads}
use Rattle.tree_step.specs.declared.taking.Entry.{Entry}
use Rattle.tree_step.specs.declared.taking.Outcome.{Outcome}
use Rattle.tree_step.specs.Changed.{CanStartChanged}
use Rattle.tree_step.specs.Starts.{Sight, CanStart}
use Rattle.tree_step.specs.private.Changed.{GivesAgain}
use Rattle.tree_step.specs.private.Taking.{CanTake, OutcomeOf, cells_after, told_after, TakesAll}
use Rattle.tree_step.proofs.Going.{Turn, Left, first_turn, can_take, left_after}
use Rattle.tree_step.proofs.Unchanged.{gives_again}

takes_more : (sight : Sight) (done : List Entry) (e : Entry) (cells mid : List Cell) (told told_mid : Option EquationFailing) (o : Outcome) → TakesAll sight done cells told mid told_mid → OutcomeOf sight mid e o
    → TakesAll sight (done ++ e ∷ []) cells told (cells_after sight.places mid e.name o) (told_after told_mid e.equation o)
takes_more sight [] e cells mid told told_mid o (mid_is, told_is) outcome = (
  o,
  subst (λ c. OutcomeOf sight c e o) mid_is outcome,
  (ap (λ c. cells_after sight.places c e.name o) mid_is, ap (λ t. told_after t e.equation o) told_is),
)
takes_more sight (d ∷ done) e cells mid told told_mid o (first, is, rest) outcome =
    (first, is, takes_more sight done e (cells_after sight.places cells d.name first) mid (told_after told d.equation first) told_mid o rest outcome)

take_next : (xs : List Entry) (i : ℕ) (d : Entry) → i < length xs → take (suc i) xs ≡ take i xs ++ get_or xs i d ∷ []
take_next [] i d lt = absurd (omega (arith, lt))
take_next (y ∷ xs) zero d lt = refl
take_next (y ∷ xs) (suc i) d lt = ap (λ zs. y ∷ zs) (take_next xs i d (omega (arith, lt)))

take_whole : (xs : List Entry) (i : ℕ) → length xs ≤ i → take i xs ≡ xs
take_whole [] zero le = refl
take_whole [] (suc i) le = refl
take_whole (y ∷ xs) zero le = absurd (omega (arith, le))
take_whole (y ∷ xs) (suc i) le = ap (λ zs. y ∷ zs) (take_whole xs i (omega (arith, le)))

pub plain_start : (sight : Sight) (entries : List Entry) (reads : List Reads) (cells : List Cell) → CanStartChanged sight entries reads cells → CanStart sight entries cells
plain_start sight entries reads cells can = record { s = can.s; uses = can.uses; before = can.before; after = can.after; S = can.S; m = can.m; base = can.base; start = can.start }

take_and_drop : (xs : List Entry) (i : ℕ) → take i xs ++ drop i xs ≡ xs
take_and_drop [] zero = refl
take_and_drop [] (suc i) = refl
take_and_drop (y ∷ xs) zero = refl
take_and_drop (y ∷ xs) (suc i) = ap (λ zs. y ∷ zs) (take_and_drop xs i)

module _ (sight : Sight) (entries : List Entry) (first cells : List Cell) (told : Option EquationFailing) (i : ℕ) (takes : TakesAll sight (take i entries) first None cells told) where
  pub next_takes : (d : Entry) (o : Outcome) → i < length entries → OutcomeOf sight cells (get_or entries i d) o → (new : List Cell) (result : Option EquationFailing)
      → new ≡ cells_after sight.places cells (get_or entries i d).name o → result ≡ told_after told (get_or entries i d).equation o → TakesAll sight (take (i + 1) entries) first None new result
  next_takes d o within outcome new result new_is result_is =
      let e : Entry = get_or entries i d in
      let next : suc i ≡ i + 1 = omega arith in
      subst (λ k. TakesAll sight (take k entries) first None new result) next
      (subst (λ es. TakesAll sight es first None new result) (sym (take_next entries i d within))
      (subst (λ n. TakesAll sight (take i entries ++ e ∷ []) first None n result) (sym new_is)
      (subst (λ r. TakesAll sight (take i entries ++ e ∷ []) first None (cells_after sight.places cells e.name o) r) (sym result_is)
      (takes_more sight (take i entries) e first cells None told o takes outcome))))

  pub takes_whole : length entries ≤ i → TakesAll sight entries first None cells told
  takes_whole past = subst (λ es. TakesAll sight es first None cells told) (take_whole entries i past) takes

  -- before the entry in this place is taken
  pub next_left : (can : CanStart sight entries first) (d : Entry) → i < length entries
      → Left can.s can.uses can.before can.after can.S can.m can.base sight entries first can.start (get_or entries i d ∷ drop (suc i) entries) cells
  next_left can d within =
      let left = left_after can.s can.uses can.before can.after can.S can.m can.base sight entries first can.start (take i entries) (drop i entries) can.base first cells None told
      (subst (λ es. Turn can.s can.uses can.before can.after can.S can.m can.base sight entries first can.start es can.base first) (sym (take_and_drop entries i))
      (first_turn can.s can.uses can.before can.after can.S can.m can.base sight entries first can.start)) takes in
      record { row = left.row; turn = subst (λ es. Turn can.s can.uses can.before can.after can.S can.m can.base sight entries first can.start es left.row cells) (drop-cons entries i d within) left.turn }

  pub next_can : CanStart sight entries first → (d : Entry) → i < length entries → CanTake sight cells (get_or entries i d)
  next_can can d within =
      let left = next_left can d within in
      can_take can.s can.uses can.before can.after can.S can.m can.base sight entries first can.start (get_or entries i d) (drop (suc i) entries) left.row cells left.turn

  -- and what it gives where nothing changed
  pub next_again : (reads : List Reads) → CanStartChanged sight entries reads first → (d : Entry) → i < length entries → (own : Reads) → slice_get reads i ≡ Some own → GivesAgain sight cells (get_or entries i d) own
  unfolding plain_start
  next_again reads can d within own own_found v unchanged before =
      let left = next_left (plain_start sight entries reads first can) d within in
      gives_again can.s can.uses can.before can.after can.S can.m can.base sight entries first can.start can.unclocked can.left_is can.were_met (get_or entries i d) (drop (suc i) entries) left.row cells left.turn own
      (λ equation found. can.reads_are i (get_or entries i d) own equation (slice_get-get_or entries i d within) own_found found) unchanged v before
