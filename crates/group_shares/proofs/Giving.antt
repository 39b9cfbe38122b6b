-- Groups given to shares.
use Rattle.std.proofs.Common.{◌≡◌, refl, ap, ◌∙◌, sym, subst, ℕ, zero, suc, ◌+◌, ◌-◌, ◌<◌, Bool, true, false, if◌then◌else◌, List, [], ◌∷◌, ◌++◌, map, take, drop, length, Some, Ok, slice_get, arith}
use Rattle.std.specs.Prelude.{count_by, cond}
use Rattle.std.proofs.lemmas.List.{length-map, map-append, take-append-drop, length-take-le, length-drop}
use Rattle.std.proofs.lemmas.List.Sums.{sum_by-cons}
use Rattle.std.proofs.lemmas.Option.{same_Some}
use Rattle.flat_model.specs.Runnable.{IsRunnable}
use Rattle.flat_model.specs.Setting.{Setting}
use Rattle.flat_model.specs.Uses.{Use}
use Rattle.eq_order.specs.declared.uses.Use as answered
use Rattle.eq_order.specs.Order.{use_of, Answers}
use Rattle.moment_theory.specs.Division.{AreUnheld, ArePartitionsBelow}
use Rattle.moment_order.specs.declared.stage.Stage.{Stage}
use Rattle.moment_order.specs.declared.stage.Stage.TheVariants.{Pure, Partition, Waiting}
use Rattle.moment_order.specs.Stages.{AreStages, stage_of, is_stage, uses_at, parts_at}
use Rattle.part_groups.specs.Groups.{AreGroups}
use Rattle.part_groups.specs.Units.{is_waiting}
use Rattle.run_stages.specs.Laws.{RestOnGroup}
use Rattle.run_stages.proofs.Staging.{staged}
use Rattle.share_join.specs.Dealing.{Deal, IsDealOf}
use Rattle.share_join.specs.Shares.{Share}
use Rattle.share_join.proofs.Places.{map_at, at_front}
use Rattle.share_moments.specs.Grouping.{shares_of_units, KeepsGroups}
use Rattle.share_moments.specs.Sharing.{AreShares}
use Rattle.share_moments.proofs.Grouping.{groups_apart}
use Rattle.share_moments.proofs.Sharing.{dealt_apart, beside, is_share}
use Rattle.group_shares.specs.Dividing.{group_deal, shares_of_groups, AreGiven, MayRunApart}

-- ---- how many units wait

waits : (stage : Stage) → is_stage Waiting stage ≡ is_waiting stage
waits Pure = refl
waits (Partition k) = refl
waits Waiting = refl

waiting_long : (stages : List Stage) (uses : List Use) → length stages ≡ length uses → length (uses_at Waiting stages uses) ≡ count_by is_waiting stages
waiting_long [] uses long = refl
waiting_long (stage ∷ stages) [] long = absurd (omega (arith, long))
waiting_long (stage ∷ stages) (entry ∷ uses) long =
    one (is_stage Waiting stage) (waiting_long stages uses (omega (arith, long)))
    ∙ ap (λ b. cond b 1 0 + count_by is_waiting stages) (waits stage)
    ∙ sym (sum_by-cons (λ own. cond (is_waiting own) 1 0) stage stages)
  where
    one : (b : Bool) → length (uses_at Waiting stages uses) ≡ count_by is_waiting stages → length (if b then (entry ∷ uses_at Waiting stages uses) else uses_at Waiting stages uses) ≡ cond b 1 0 + count_by is_waiting stages
    one true rest = omega (arith, rest)
    one false rest = omega (arith, rest)

-- ---- the share of a unit is that of its group

at_behind : (xs ys : List ℕ) (i x : ℕ) → slice_get ys i ≡ Some x → (j : ℕ) × (slice_get (xs ++ ys) j ≡ Some x)
at_behind [] ys i x found = (i, found)
at_behind (own ∷ xs) ys i x found = let (j, there) = at_behind xs ys i x found in (suc j, there)

module _ (share_of : ℕ → ℕ) (number count : ℕ) (groups : List ℕ) where
  abbrev deal : Deal
  deal = group_deal share_of number count groups

  units_are : shares_of_units deal ≡ map share_of groups
  units_are = sym (map-append share_of (take count groups) (drop count groups)) ∙ ap (map share_of) (take-append-drop count groups)

  share_is : (a group k : ℕ) → slice_get groups a ≡ Some group → slice_get (shares_of_units deal) a ≡ Some k → share_of group ≡ k
  share_is a group k found given =
      let (own, there, same) = map_at share_of groups a k (subst (λ ks. slice_get ks a ≡ Some k) units_are given) in
      ap share_of (same_Some group own (sym found ∙ there)) ∙ same

  keeps : KeepsGroups groups deal
  keeps a b group k l here there own other = sym (share_is a group k here own) ∙ share_is b group l there other

  module _ (given : AreGiven share_of number groups) where
    within : (i k : ℕ) → slice_get (map share_of groups) i ≡ Some k → k < number
    within i k found =
        let (group, there, same) = map_at share_of groups i k found in
        subst (λ n. n < number) same (given i group there)

    unit_within : (i k : ℕ) → slice_get (shares_of_units deal) i ≡ Some k → k < number
    unit_within i k found = within i k (subst (λ ks. slice_get ks i ≡ Some k) units_are found)

    module _ (stages : List Stage) (uses : List Use) (long : length stages ≡ length uses) (all : length groups ≡ count + count_by is_waiting stages) where
      parts_long : (k n : ℕ) → length (parts_at stages uses k n) ≡ n
      parts_long k zero = refl
      parts_long k (suc n) = ap suc (parts_long (suc k) n)

      is_deal : IsDealOf deal (parts_at stages uses 0 count) (uses_at Waiting stages uses)
      is_deal = record {
        pieces_long = length-map (take count groups) share_of ∙ length-take-le count groups (omega (arith, all)) ∙ sym (parts_long 0 count);
        waiting_long = length-map (drop count groups) share_of ∙ length-drop count groups ∙ (let behind : length groups - count ≡ count_by is_waiting stages = omega (arith, all) in behind) ∙ sym (waiting_long stages uses long);
        pieces_within = λ i k found. unit_within i k (at_front deal.pieces deal.waiting i k found);
        waiting_within = λ i k found. let (j, there) = at_behind deal.pieces deal.waiting i k found in unit_within j k there;
      }

-- ---- shares of whole groups

module _ (s : Setting) (order : List answered.Use) (stages : List Stage) (group : ℕ → Bool) (count : ℕ) (runs : IsRunnable s) (answers : Answers s (Ok order)) (unheld : AreUnheld s group) (rest : RestOnGroup s group)
    (below : ArePartitionsBelow s count) (are : AreStages s (map use_of order) stages) (groups : List ℕ) (grouped : AreGroups s.model.equations count stages (map use_of order) groups)
    (share_of : ℕ → ℕ) (number : ℕ) (given : AreGiven share_of number groups) where
  abbrev uses : List Use
  uses = map use_of order

  abbrev pure : List Use
  pure = uses_at Pure stages uses

  abbrev shares : List Share
  shares = shares_of_groups share_of number count stages uses groups

  of : IsDealOf (group_deal share_of number count groups) (parts_at stages uses 0 count) (uses_at Waiting stages uses)
  of = is_deal share_of number count groups given stages uses (ap length are.each ∙ length-map uses (stage_of s are.pure)) grouped.each

  apart : AreShares s uses pure shares
  apart =
      let (staged_uses, reach) = staged s order stages group count runs answers unheld rest below are in
      dealt_apart s uses pure (parts_at stages uses 0 count) (uses_at Waiting stages uses) staged_uses reach (group_deal share_of number count groups) of
      (groups_apart s uses count stages groups grouped (group_deal share_of number count groups) of (keeps share_of number count groups))

  pub may_run : MayRunApart s uses pure shares
  may_run = record {
    apart = apart;
    beside = beside s uses pure shares apart;
    alone = is_share s uses pure shares apart;
  }
