-- Shares of whole groups name nothing of each other.
use Rattle.std.proofs.Common.{◌≡◌, refl, ap, ◌∙◌, sym, subst, ℕ, zero, suc, ◌+◌, ◌<◌, List, [], ◌∷◌, ◌++◌, length, Some, slice_get, inl, inr, arith}
use Rattle.std.proofs.lemmas.Option.{none-some, same_Some}
use Rattle.flat_model.specs.declared.equation.Equation.{Equation}
use Rattle.flat_model.specs.Setting.{Setting}
use Rattle.flat_model.specs.Uses.{Use}
use Rattle.mo_connect.specs.Chain.Chain.{stay, forward}
use Rattle.moment_order.specs.declared.stage.Stage.{Stage}
use Rattle.moment_order.specs.declared.stage.Stage.TheVariants.{Partition, Waiting}
use Rattle.moment_order.specs.Stages.{uses_at, parts_at}
use Rattle.moment_theory.proofs.Members.{IsMember, contains_member, member_contains, member_reached}
use Rattle.part_groups.specs.Groups.{AreGroups}
use Rattle.part_groups.specs.Laws.{IsOfUnit}
use Rattle.part_groups.specs.Units.{EquationNames, unit_of, Needs}
use Rattle.part_groups.proofs.Grouped.{joined_alike}
use Rattle.part_groups.proofs.Numbering.{unit_below}
use Rattle.part_groups.proofs.Placed.{partition_placed, waiting_placed}
use Rattle.share_join.specs.Dealing.{Deal, dealt_shares, IsDealOf}
use Rattle.share_join.specs.Shares.{Share, own_uses}
use Rattle.share_join.proofs.Dealt.{dealt_at, share_is}
use Rattle.share_join.proofs.Members.{member_either, piece_member}
use Rattle.share_join.proofs.Places.{piece_uses, at_front}
use Rattle.share_moments.specs.Grouping.{shares_of_units, KeepsGroups}
use Rattle.share_moments.specs.Sharing.{AskApart}

-- ---- lists

member_at : (us : List Use) (entry : Use) → IsMember entry us → (i : ℕ) × (slice_get us i ≡ Some entry)
member_at [] entry member = absurd member
member_at (u ∷ us) entry (inl at) = (0, ap Some at)
member_at (u ∷ us) entry (inr behind) = let (i, found) = member_at us entry behind in (suc i, found)

at_behind : (xs ys : List ℕ) (n i x : ℕ) → length xs ≡ n → slice_get ys i ≡ Some x → slice_get (xs ++ ys) (n + i) ≡ Some x
at_behind [] ys n i x long found = subst (λ k. slice_get ys k ≡ Some x) (let same : i ≡ n + i = omega (arith, long) in same) found
at_behind (y ∷ xs) ys zero i x long found = absurd (omega (arith, long))
at_behind (y ∷ xs) ys (suc n) i x long found = subst (λ k. slice_get (y ∷ (xs ++ ys)) k ≡ Some x) (let same : suc (n + i) ≡ suc n + i = omega arith in same) (at_behind xs ys n i x (omega (arith, long)) found)

some_group : (groups : List ℕ) (a : ℕ) → a < length groups → (f : ℕ) × (slice_get groups a ≡ Some f)
some_group [] a lt = absurd (omega (arith, lt))
some_group (g ∷ groups) zero lt = (g, refl)
some_group (g ∷ groups) (suc a) lt = some_group groups a (omega (arith, lt))

parts_long : (stages : List Stage) (uses : List Use) (k count : ℕ) → length (parts_at stages uses k count) ≡ count
parts_long stages uses k zero = refl
parts_long stages uses k (suc count) = ap suc (parts_long stages uses (suc k) count)

part_is : (stages : List Stage) (uses : List Use) (k count i : ℕ) (piece : List Use) → slice_get (parts_at stages uses k count) i ≡ Some piece → (i < count) × (uses_at (Partition (k + i)) stages uses ≡ piece)
part_is stages uses k zero i piece found = absurd (none-some piece found)
part_is stages uses k (suc count) zero piece found = (omega arith, ap (λ n. uses_at (Partition n) stages uses) (let same : k + 0 ≡ k = omega arith in same) ∙ same_Some (uses_at (Partition k) stages uses) piece found)
part_is stages uses k (suc count) (suc i) piece found =
    let (lt, is) = part_is stages uses (suc k) count i piece found in
    (omega (arith, lt), ap (λ n. uses_at (Partition n) stages uses) (let same : k + suc i ≡ suc k + i = omega arith in same) ∙ is)

module _ (s : Setting) (uses : List Use) (count : ℕ) (stages : List Stage) (groups : List ℕ) (are : AreGroups s.model.equations count stages uses groups)
    (deal : Deal) (of : IsDealOf deal (parts_at stages uses 0 count) (uses_at Waiting stages uses)) (keeps : KeepsGroups groups deal) where
  abbrev pieces : List (List Use)
  pieces = parts_at stages uses 0 count

  abbrev waiting : List Use
  waiting = uses_at Waiting stages uses

  abbrev shares : List Share
  shares = dealt_shares deal pieces waiting

  -- a use of a share is of a unit that was dealt to it
  record UnitOf (i : ℕ) (entry : Use) : Type 0 where
    pub unit : ℕ
    pub stands : IsOfUnit count stages uses entry unit
    pub share_of_unit : slice_get (shares_of_units deal) unit ≡ Some i

  module _ (i : ℕ) (share : Share) (found : slice_get shares i ≡ Some share) (entry : Use) where
    of_piece : IsMember entry (piece_uses share) → UnitOf i entry
    of_piece member =
        let (j, piece, at, own) = piece_member share.pieces entry member in
        let (k, place, there) = dealt_at i deal.pieces pieces j piece (ap (λ h. slice_get h.pieces j) (share_is deal pieces waiting i share found) ∙ at) in
        let (lt, is) = part_is stages uses 0 count k piece there in
        let number : k ≡ 0 + k = omega arith in record {
          unit = k;
          stands = partition_placed count stages uses k entry lt (member_contains entry (uses_at (Partition k) stages uses)
              (subst (IsMember entry) (sym is ∙ ap (λ n. uses_at (Partition n) stages uses) (sym number)) own));
          share_of_unit = at_front deal.pieces deal.waiting k i place;
        }

    of_waiting : IsMember entry share.waiting → UnitOf i entry
    of_waiting member =
        let (j, at) = member_at share.waiting entry member in
        let (k, place, there) = dealt_at i deal.waiting waiting j entry (ap (λ h. slice_get h.waiting j) (share_is deal pieces waiting i share found) ∙ at) in record {
          unit = count + k;
          stands = waiting_placed count stages uses k entry there;
          share_of_unit = at_behind deal.pieces deal.waiting count k i (of.pieces_long ∙ parts_long stages uses 0 count) place;
        }

    unit_of_use : IsMember entry (own_uses share) → UnitOf i entry
    unit_of_use member = elim (member_either (piece_uses share) share.waiting entry member) [
      | inl early ↦ of_piece early
      | inr late ↦ of_waiting late
    ]

  group_of : (a i : ℕ) → unit_of count stages i ≡ Some a → (f : ℕ) × (slice_get groups a ≡ Some f)
  group_of a i is = some_group groups a (let lt = unit_below count stages i a is in let long = are.each in omega (arith, lt, long))

  -- units of which one names what the other reaches are of one share
  same_share : (i j : ℕ) (entry other : Use) (equation : Equation) → UnitOf i entry → UnitOf j other → slice_get s.model.equations entry.equation ≡ Some equation → EquationNames equation other.name → i ≡ j
  same_share i j entry other equation one two found names =
      let (p, entry_at, entry_of) = one.stands in
      let (q, other_at, other_of) = two.stands in
      let needs : Needs s.model.equations count stages uses one.unit two.unit = record {
        i = p;
        j = q;
        entry = entry;
        other = other;
        equation = equation;
        entry_at = entry_at;
        entry_of = entry_of;
        other_at = other_at;
        other_of = other_of;
        found = found;
        names = names;
      } in
      let (f, f_at) = group_of one.unit p entry_of in
      let (g, g_at) = group_of two.unit q other_of in
      let alike : f ≡ g = joined_alike s.model.equations count stages uses groups are one.unit two.unit f g f_at g_at (forward one.unit two.unit two.unit needs (stay two.unit)) in
      keeps one.unit two.unit f i j f_at (g_at ∙ ap Some (sym alike)) one.share_of_unit two.share_of_unit

  pub groups_apart : AskApart s shares
  groups_apart i j share other apart found there entry equation y used at names reached =
      let (reaching, member, same) = member_reached (own_uses other) y reached in
      apart (same_share i j entry reaching equation (unit_of_use i share found entry (contains_member entry (own_uses share) used)) (unit_of_use j other there reaching member) at (subst (EquationNames equation) same names))
