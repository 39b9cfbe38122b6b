-- What is prepared stands before the first moment.
use Rattle.std.proofs.Common.{◌≡◌, ap, ◌∙◌, sym, subst, ℕ, ◌<◌, ◌^◌, Bool, true, List, length, map, Contains, Some, None, slice_get, inl, inr, arith}
use Rattle.std.proofs.lemmas.Bool.{cases_lt}
use Rattle.std.proofs.lemmas.List.{length-map}
use Rattle.std.proofs.lemmas.Option.{same_Some, slice_get_within, slice_get_past, get_or_from_slice_get}
use Rattle.std.specs.Prelude.{All}
use Rattle.flat_model.specs.declared.clock.Clocking.{Clocking}
use Rattle.flat_model.specs.declared.model.FlatModel.{FlatModel}
use Rattle.flat_model.specs.declared.table.Left.{Left}
use Rattle.flat_model.specs.Values.{value_in}
use Rattle.flat_model.specs.Assignment.{Assignment}
use Rattle.flat_model.specs.Setting.{Setting, class_of_equation, partition_of, start_in}
use Rattle.flat_model.specs.Uses as flat
use Rattle.eq_order.specs.declared.uses.Use.{Use}
use Rattle.eq_order.specs.Order.{use_of, HaveSpines}
use Rattle.moment_theory.proofs.Members.{contains_member, member_contains, member_reached}
use Rattle.moment_join.specs.Sites.{ReachSites}
use Rattle.moment_join.specs.Staged.{AreStagesOf}
use Rattle.fork_steps.specs.declared.slot.Slot.{Slot}
use Rattle.tree_step.specs.declared.cell.Cell.{Cell}
use Rattle.tree_step.specs.declared.frame.ClockNow.{ClockNow}
use Rattle.tree_step.specs.declared.taking.Entry.{Entry}
use Rattle.tree_step.specs.Changed.{AreReadsOf}
use Rattle.tree_step.specs.Starts.{uses_of, IsAmong}
use Rattle.moment_order.specs.declared.stage.Stage.{Stage}
use Rattle.moment_order.specs.declared.stage.Stage.TheVariants.{Pure, Partition, Waiting}
use Rattle.moment_order.specs.Stages as staging
use Rattle.moment_order.specs.Stages.{stage_of, is_stage, uses_at, parts_at}
use Rattle.run_stages.proofs.Staging.{staged}
use Rattle.moment_body.specs.Stages.{AreStages}
use Rattle.partition_step.specs.Parts.{IsPartOf}
use Rattle.partition_step.proofs.Lists.{lists_same, some_at, at_map}
use Rattle.moment_steps.specs.declared.piece.Piece.{Piece}
use Rattle.moment_steps.specs.declared.taking.UnclockedReads.{UnclockedReads}
use Rattle.moment_steps.specs.Settled.{own_uses, stages_in, AlwaysTicks, IsSettled}
use Rattle.moment_steps.specs.Standing.{IsLeftAt, StandsBefore}
use Rattle.moment_steps.proofs.Rows.{is_piece}
use Rattle.steps_ready.specs.Ready.{IsPreparedFrom}
use Rattle.steps_ready.specs.Division.{taken_at, AreDivided}
use Rattle.steps_ready.specs.Parting.{AreParts, IsReadySlot, AreReady}
use Rattle.steps_ready.specs.Starting.{start_of}
use Rattle.steps_ready.proofs.Staged.{taken_uses, taken_spines, entries_uses, at_stage, partition_known, waits, partitions_below, parts_get, parts_long, plain}

-- ---- the last values are the starts

pub left_first : (s : Setting) (A : Assignment) (left : Left) → length left.now ≡ length s.model.names → ((y : ℕ) → value_in left.now y ≡ None) → left.last ≡ map start_of s.model.names → IsLeftAt s A 0 left
left_first s A left wide none starts = record {
  wide = wide;
  long = ap length starts ∙ length-map s.model.names start_of;
  first = λ y e. none y;
  now = λ y k e. absurd (omega (arith, e));
  last = λ x valued. ap (λ vs. slice_get vs x) starts ∙ at_map start_of s.model.names x valued.name valued.found ∙ sym (ap (λ o. Some (start_in o)) valued.found);
}

module _ (model : FlatModel) (clocking : Clocking) (order : List Use) (stages : List Stage) (count : ℕ) (pure waiting : List Entry) (parts : List (List Use)) (places : List ℕ) (slots : List (Slot Piece))
    (below : All (λ k. k < count) clocking.partitions) (divided : AreDivided stages order count pure waiting parts) (size : length slots ≡ length parts) (ready : AreReady model clocking parts places slots)
    (s : Setting) (from : IsPreparedFrom s model clocking order) (are : staging.AreStages s (map use_of order) stages) where
  abbrev uses : List flat.Use
  uses = map use_of order

  abbrev pieces : List (List flat.Use)
  pieces = parts_at stages uses 0 count

  -- ---- the stages

  law : AreStagesOf s uses (uses_at Pure stages uses) pieces (uses_at Waiting stages uses) × ReachSites s (uses_at Pure stages uses)
  law = staged s order stages from.group count from.runs from.ordered from.unheld from.rest
      (partitions_below s count (subst (λ c. All (λ k. k < count) c.partitions) (sym from.clocking_is) below)) are

  spines : HaveSpines s.model.equations order
  spines = from.ordered.1

  stage_known : (stage : Stage) (entry : flat.Use) → Contains (uses_at stage stages uses) entry → is_stage stage (stage_of s are.pure entry) ≡ true
  stage_known stage entry has = at_stage (stage_of s are.pure) stage uses entry (contains_member entry (uses_at stage (map (stage_of s are.pure) uses) uses) (subst (λ all. Contains (uses_at stage all uses) entry) are.each has))

  of_partition : (k : ℕ) (entry : flat.Use) → Contains (uses_at (Partition k) stages uses) entry → partition_of s (class_of_equation s entry.equation) ≡ Some k
  of_partition k entry has = partition_known k (are.pure entry) (partition_of s (class_of_equation s entry.equation)) (stage_known (Partition k) entry has)

  unclocked_waiting : (entry : flat.Use) → Contains (uses_at Waiting stages uses) entry → class_of_equation s entry.equation ≡ None
  unclocked_waiting entry has = waits s from.runs (are.pure entry) entry.equation (stage_known Waiting entry has)

  of_piece : (i : ℕ) (piece : List flat.Use) → slice_get pieces i ≡ Some piece → (entry : flat.Use) → Contains piece entry → partition_of s (class_of_equation s entry.equation) ≡ Some i
  of_piece i piece found entry has =
      let lt : i < count = let within = slice_get_within pieces i piece found in let long = parts_long stages uses 0 count in omega (arith, within, long) in
      let piece_is : piece ≡ uses_at (Partition i) stages uses = same_Some piece (uses_at (Partition i) stages uses) (sym found ∙ parts_get stages uses count i lt) in
      of_partition i entry (subst (λ us. Contains us entry) piece_is has)

  -- ---- the parts

  part_taken : (k : ℕ) (own : List Use) → slice_get parts k ≡ Some own → (k < count) × (own ≡ taken_at (Partition k) stages order)
  part_taken k own found =
      let lt : k < count = let within = slice_get_within parts k own found in let long = divided.size in omega (arith, within, long) in
      (lt, sym (get_or_from_slice_get parts k own _ found) ∙ divided.parts_are k lt)

  piece_found : (k : ℕ) (own : List Use) → slice_get parts k ≡ Some own → slice_get pieces k ≡ Some (map use_of own)
  piece_found k own found =
      let (lt, own_is) = part_taken k own found in
      parts_get stages uses count k lt ∙ ap Some (sym (ap (map use_of) own_is ∙ taken_uses (Partition k) stages order))

  are_parts : AreParts s model clocking parts
  are_parts = record {
    model_is = from.model;
    clocking_is = from.clocking_is;
    piece = λ k own found. (uses, _, _, is_piece s uses (uses_at Pure stages uses) pieces (uses_at Waiting stages uses) law.0 law.1 of_piece unclocked_waiting k (map use_of own) (piece_found k own found));
    spines = λ k own found. subst (HaveSpines s.model.equations) (sym (part_taken k own found).1) (taken_spines s.model.equations (Partition k) stages order spines);
    apart = λ i j one other different one_found other_found x reached again.
        let (entry, member, same) = member_reached (map use_of one) x reached in
        law.0.apart i j (map use_of one) (map use_of other) entry x different (piece_found i one one_found) (piece_found j other other_found) (member_contains entry (map use_of one) member) (inl same) again;
  }

  -- a slot has the part of its number
  slot_ready : (i : ℕ) (slot : Slot Piece) → slice_get slots i ≡ Some slot → (own : List Use) × (slice_get parts i ≡ Some own) × IsReadySlot s own places slot
  slot_ready i slot found =
      let (own, own_found) = some_at parts i (let within = slice_get_within slots i slot found in omega (arith, within, size)) in
      (own, own_found, ready s are_parts i own slot own_found found)

  own_found : (i : ℕ) (slot : Slot Piece) → slice_get slots i ≡ Some slot → slice_get pieces i ≡ Some (own_uses slot)
  own_found i slot found =
      let (own, at, is) = slot_ready i slot found in
      piece_found i own at ∙ ap Some (sym is.part_of.laid.uses_are)

  same_at : (i : ℕ) → slice_get pieces i ≡ slice_get (map own_uses slots) i
  same_at i = elim (cases_lt i (length slots)) [
    | inl within ↦ let (slot, found) = some_at slots i within in own_found i slot found ∙ sym (at_map own_uses slots i slot found)
    | inr past ↦
        let long = parts_long stages uses 0 count in
        let parts_size = divided.size in
        let slots_long = length-map slots own_uses in
        slice_get_past pieces i (omega (arith, past, long, parts_size, size)) ∙ sym (slice_get_past (map own_uses slots) i (omega (arith, past, slots_long)))
  ]

  pieces_are : pieces ≡ map own_uses slots
  pieces_are = lists_same pieces (map own_uses slots) same_at

  pure_are : uses_at Pure stages uses ≡ uses_of pure
  pure_are = sym (ap uses_of divided.pure_are ∙ entries_uses (taken_at Pure stages order) ∙ taken_uses Pure stages order)

  waiting_are : uses_at Waiting stages uses ≡ uses_of waiting
  waiting_are = sym (ap uses_of divided.waiting_are ∙ entries_uses (taken_at Waiting stages order) ∙ taken_uses Waiting stages order)

  pub are_staged : AreStages s uses (stages_in pure waiting slots)
  are_staged = record {
    are = subst (λ p. AreStagesOf s uses p (map own_uses slots) (uses_of waiting)) pure_are
        (subst (λ ps. AreStagesOf s uses (uses_at Pure stages uses) ps (uses_of waiting)) pieces_are
        (subst (λ w. AreStagesOf s uses (uses_at Pure stages uses) pieces w) waiting_are law.0));
    reach = subst (ReachSites s) pure_are law.1;
  }

  -- ---- what stands

  module _ (noted : UnclockedReads) (pure_reads : AreReadsOf model.equations pure noted.pure) (waiting_reads : AreReadsOf model.equations waiting noted.waiting) (always : List ClockNow) (numbers : List ℕ) (cells : List Cell) (ticked : List Bool) (left : Left) (ticks : AlwaysTicks always) (long : length numbers ≡ length model.names)
      (numbered : (x : ℕ) → x < length model.names → slice_get numbers x ≡ Some x) (room : length cells ≡ length model.names) (told_room : length ticked ≡ length clocking.clocks) (few : length clocking.clocks < 2 ^ 32)
      (wide : length left.now ≡ length model.names) (none : (y : ℕ) → value_in left.now y ≡ None) (starts : left.last ≡ map start_of model.names) where
    settled : IsSettled s pure waiting noted always numbers
    settled = record {
      measured = from.measured;
      always_ticks = ticks;
      long = subst (λ m. length numbers ≡ length m.names) (sym from.model) long;
      numbered = subst (λ m. (x : ℕ) → x < length m.names → slice_get numbers x ≡ Some x) (sym from.model) numbered;
      pure_plain = λ entry among. plain s (taken_at Pure stages order) (taken_spines s.model.equations Pure stages order spines)
          (λ e member. (law.0.clockless e (subst (λ us. Contains us e) (taken_uses Pure stages order) (member_contains e (map use_of (taken_at Pure stages order)) member))).unclocked)
          entry (subst (λ es. IsAmong entry es) divided.pure_are among);
      waiting_plain = λ entry among. plain s (taken_at Waiting stages order) (taken_spines s.model.equations Waiting stages order spines)
          (λ e member. unclocked_waiting e (subst (λ us. Contains us e) (taken_uses Waiting stages order) (member_contains e (map use_of (taken_at Waiting stages order)) member)))
          entry (subst (λ es. IsAmong entry es) divided.waiting_are among);
      pure_reads = subst (λ m. AreReadsOf m.equations pure noted.pure) (sym from.model) pure_reads;
      waiting_reads = subst (λ m. AreReadsOf m.equations waiting noted.waiting) (sym from.model) waiting_reads;
    }

    pub stands : (A : Assignment) → StandsBefore s A 0 pure waiting noted always numbers cells ticked places slots left
    stands A = record {
      settled = settled;
      room = subst (λ m. length cells ≡ length m.names) (sym from.model) room;
      told_room = subst (λ c. length ticked ≡ length c.clocks) (sym from.clocking_is) told_room;
      few = subst (λ c. length c.clocks < 2 ^ 32) (sym from.clocking_is) few;
      slots_are = λ i slot found.
          let (own, at, is) = slot_ready i slot found in record {
            part_of = subst (λ us. IsPartOf s us places slot.piece.part) (sym is.part_of.laid.uses_are) is.part_of;
            partition = λ entry has. of_piece i (own_uses slot) (own_found i slot found) entry has;
          };
      left_is = left_first s A left (subst (λ m. length left.now ≡ length m.names) (sym from.model) wide) none (subst (λ m. left.last ≡ map start_of m.names) (sym from.model) starts);
      stand = λ i slot found. let (own, at, is) = slot_ready i slot found in is.stands A;
    }
