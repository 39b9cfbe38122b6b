-- A step, from what each of its calls leaves.
use Rattle.std.proofs.Common.{◌≡◌, refl, ap, ◌∙◌, sym, subst, ℕ, List, length, Option, Some, None, All}
use Rattle.std.specs.Prelude.{IfSome}
use Rattle.std.specs.Vec.{with_items}
use Rattle.std.proofs.lemmas.List.{with_items_is}
use Rattle.flat_model.specs.Setting.{Setting}
use Rattle.flat_model.specs.Uses.{Use}
use Rattle.first_failure.specs.declared.least.EquationFailing.{EquationFailing}
use Rattle.tree_step.specs.declared.cell.Cell.{Cell}
use Rattle.tree_step.specs.declared.frame.ClockNow.{ClockNow}
use Rattle.tree_step.specs.declared.taking.Entry.{Entry}
use Rattle.tree_step.specs.Starts.{Sight, CanStart}
use Rattle.part_code.specs.declared.coded.Coded.{Coded}
use Rattle.part_code.specs.Coded.{IsCodeOf}
use Rattle.coded_step.specs.Taking.{CanTakeCode}
use Rattle.partition_step.specs.declared.part.ClassKept.{ClassKept}
use Rattle.partition_step.specs.declared.part.Outcome.TheVariants.{Stepped, Failed}
use Rattle.partition_step.specs.declared.part.Part.{Part}
use Rattle.part_words.specs.Words.{IsMeasuredClock}
use Rattle.partition_step.specs.Parts.{IsPartOf}
use Rattle.partition_step.specs.Steps.{Showing, CanStep, StepsFrom}
use Rattle.partition_step.specs.private.Coding.{TakesAny, IsSameOption}
use Rattle.partition_step.specs.private.Stepping.{shown_at, begun_at, kept_cell, ticked_at}
use Rattle.partition_step.specs.Writing.{IsWritten}
use Rattle.partition_step.proofs.Ending.{fails, steps}
use Rattle.partition_step.proofs.Starting.{starts, code_starts, all_measured}

-- what was written to one list over one other was written to the same
same_written : {A : Type 0} (write other : ℕ → A → A) (old from new to : List A) → other ≡ write → from ≡ old → to ≡ new → IsWritten other from to → IsWritten write old new
same_written write other old from new to w f t written = subst (λ z. IsWritten z old new) w (subst (λ z. IsWritten other z new) f (subst (IsWritten other from) t written))

-- the calls before the uses are taken: classes are shown, and cells are begun
pub record Begun (showing : Showing) (part : Part) (clocks : List ClockNow) (cells : List Cell) : Type 0 where
  pub tells : IsWritten (shown_at showing.ticks showing.moment part.classes.items) part.clocks.items clocks
  pub begins : IsWritten (begun_at showing.answers part.classes.items clocks part.entries) part.cells.items cells

pub begun_by : (showing : Showing) (part : Part) (classes : List ClassKept) (from clocks : List ClockNow) → classes ≡ part.classes.items → from ≡ part.clocks.items → IsWritten (shown_at showing.ticks showing.moment classes) from clocks
    → (classes_again : List ClassKept) (clocks_again : List ClockNow) (entries : List Entry) (old cells : List Cell) → classes_again ≡ part.classes.items → clocks_again ≡ (with_items part.clocks clocks).items → entries ≡ part.entries → old ≡ part.cells.items
    → IsWritten (begun_at showing.answers classes_again clocks_again entries) old cells → Begun showing part clocks cells
begun_by showing part classes from clocks classes_are from_is tells classes_again clocks_again entries old cells again clocks_are entries_are old_is begins =
    let tells_so : IsWritten (shown_at showing.ticks showing.moment part.classes.items) part.clocks.items clocks =
    same_written (shown_at showing.ticks showing.moment part.classes.items) (shown_at showing.ticks showing.moment classes) part.clocks.items from clocks clocks (ap (shown_at showing.ticks showing.moment) classes_are) from_is refl tells in
    let clocks_so : clocks_again ≡ clocks = clocks_are ∙ with_items_is part.clocks clocks (tells_so.size ∙ sym part.clocks.ok.0) in record {
      tells = tells_so;
      begins = same_written (begun_at showing.answers part.classes.items clocks part.entries) (begun_at showing.answers classes_again clocks_again entries) part.cells.items old cells cells
          (ap (λ ks. begun_at showing.answers ks clocks_again entries) again ∙ ap (λ cs. begun_at showing.answers part.classes.items cs entries) clocks_so ∙ ap (begun_at showing.answers part.classes.items clocks) entries_are)
          old_is refl begins;
    }

module _ (showing : Showing) (part : Part) (now_clocks : List ClockNow) (now_cells : List Cell) (b : Begun showing part now_clocks now_cells) where
  abbrev pub sight_now : Sight
  sight_now = record { equations = showing.equations; places = showing.places; left = showing.left; clocks = now_clocks }

  pub clocks_now : (with_items part.clocks now_clocks).items ≡ now_clocks
  clocks_now = with_items_is part.clocks now_clocks (b.tells.size ∙ sym part.clocks.ok.0)

  pub cells_now : (with_items part.cells now_cells).items ≡ now_cells
  cells_now = with_items_is part.cells now_cells (b.begins.size ∙ sym part.cells.ok.0)

  -- the uses can be taken
  pub can_start : CanStep showing part → (clocks : List ClockNow) (entries : List Entry) (cells : List Cell) → clocks ≡ (with_items part.clocks now_clocks).items → entries ≡ part.entries → cells ≡ (with_items part.cells now_cells).items
      → CanStart (record { equations = showing.equations; places = showing.places; left = showing.left; clocks = clocks }) entries cells
  can_start can clocks entries cells clocks_are entries_are cells_are =
      subst (λ k. CanStart (record { equations = showing.equations; places = showing.places; left = showing.left; clocks = k }) entries cells) (sym (clocks_are ∙ clocks_now))
      (subst (λ e. CanStart sight_now e cells) (sym entries_are) (subst (CanStart sight_now part.entries) (sym (cells_are ∙ cells_now)) (record {
        s = can.s;
        uses = can.uses;
        before = can.before;
        after = can.after;
        S = can.S;
        m = can.m;
        base = can.base;
        start = starts can.s can.uses can.before can.own can.after can.partition can.S can.m can.base showing part can.start now_clocks b.tells now_cells b.begins;
      })))

  -- any code can be taken
  code_now : (sight : Sight) (equations_are : sight.equations ≡ showing.equations) (clocks_are : sight.clocks ≡ now_clocks) → CanStep showing part → (cells : List Cell) (o : Option Coded) → part.code ≡ o → IfSome o (CanTakeCode sight part.entries cells)
  code_now sight equations_are clocks_are can cells None none = tt
  code_now sight equations_are clocks_are can cells (Some code) some = record {
    s = can.s;
    code_of = subst (λ qs. IsCodeOf qs can.s.model.names part.entries code) (sym (equations_are ∙ can.start.shown.model))
        (subst (λ o. IfSome o (IsCodeOf can.s.model.equations can.s.model.names part.entries)) some can.start.part_of.coded);
    measured = subst (All IsMeasuredClock) (sym clocks_are) (all_measured can.s can.uses can.before can.own can.after can.partition can.S can.m can.base showing part can.start now_clocks b.tells now_cells b.begins);
  }

  pub can_code : CanStep showing part → (clocks : List ClockNow) (entries : List Entry) (cells : List Cell) → clocks ≡ (with_items part.clocks now_clocks).items → entries ≡ part.entries
      → IfSome part.code (CanTakeCode (record { equations = showing.equations; places = showing.places; left = showing.left; clocks = clocks }) entries cells)
  can_code can clocks entries cells clocks_are entries_are =
      subst (λ es. IfSome part.code (CanTakeCode (record { equations = showing.equations; places = showing.places; left = showing.left; clocks = clocks }) es cells)) (sym entries_are)
      (code_now (record { equations = showing.equations; places = showing.places; left = showing.left; clocks = clocks }) refl (clocks_are ∙ clocks_now) can cells part.code refl)

  module _ (clocks : List ClockNow) (entries : List Entry) (cells taken : List Cell) (result : Option EquationFailing) (clocks_are : clocks ≡ (with_items part.clocks now_clocks).items) (entries_are : entries ≡ part.entries) (cells_are : cells ≡ (with_items part.cells now_cells).items)
      (takes : TakesAny (record { equations = showing.equations; places = showing.places; left = showing.left; clocks = clocks }) entries cells taken part.code result) (size : length taken ≡ length cells) (code : Option Coded) (code_same : IsSameOption part.code code) where
    takes_now : TakesAny sight_now part.entries now_cells taken part.code result
    takes_now =
        subst (λ cs. TakesAny sight_now part.entries cs taken part.code result) (cells_are ∙ cells_now)
        (subst (λ e. TakesAny sight_now e cells taken part.code result) entries_are
        (subst (λ k. TakesAny (record { equations = showing.equations; places = showing.places; left = showing.left; clocks = k }) entries cells taken part.code result) (clocks_are ∙ clocks_now) takes))

    coded_now : (s : Setting) (own : List Use) → IsPartOf s own showing.places part → showing.equations ≡ s.model.equations → IfSome part.code (IsCodeOf showing.equations s.model.names part.entries)
    coded_now s own of same = subst (λ qs. IfSome part.code (IsCodeOf qs s.model.names part.entries)) (sym same) of.coded

    long : length taken ≡ length now_cells
    long = size ∙ ap length (cells_are ∙ cells_now)

    taken_now : (with_items (with_items part.cells now_cells) taken).items ≡ taken
    taken_now = with_items_is (with_items part.cells now_cells) taken (long ∙ b.begins.size ∙ sym part.cells.ok.0)

    room : length (with_items part.clocks now_clocks).items ≡ length part.clocks.items
    room = ap length clocks_now ∙ b.tells.size

    pub steps_some : (failing : EquationFailing) → result ≡ Some failing
        → StepsFrom showing part (record { entries = part.entries; cells = with_items (with_items part.cells now_cells) taken; classes = part.classes; clocks = with_items part.clocks now_clocks; code = code }) (Failed failing)
    steps_some failing told s uses before own after partition S m base start =
        fails s uses before own after partition S m base showing part start now_clocks b.tells now_cells b.begins taken result long
        (takes_now s uses before after partition S m base (code_starts s uses before own after partition S m base showing part start now_clocks b.tells now_cells b.begins) (coded_now s own start.part_of start.shown.model))
        (record { entries = part.entries; cells = with_items (with_items part.cells now_cells) taken; classes = part.classes; clocks = with_items part.clocks now_clocks; code = code })
        failing code_same told refl taken_now refl room

    pub steps_none : result ≡ None → (from final : List Cell) → from ≡ (with_items (with_items part.cells now_cells) taken).items → IsWritten kept_cell from final
        → (clocks_again : List ClockNow) (old noted : List ClassKept) → clocks_again ≡ (with_items part.clocks now_clocks).items → old ≡ part.classes.items → IsWritten (ticked_at showing.moment clocks_again) old noted
        → StepsFrom showing part (record { entries = part.entries; cells = with_items (with_items (with_items part.cells now_cells) taken) final; classes = with_items part.classes noted; clocks = with_items part.clocks now_clocks; code = code }) Stepped
    steps_none told from final from_is keeps clocks_again old noted again old_is notes s uses before own after partition S m base start =
        let keeps_so : IsWritten kept_cell taken final = same_written kept_cell kept_cell taken from final final refl (from_is ∙ taken_now) refl keeps in
        let notes_so : IsWritten (ticked_at showing.moment now_clocks) part.classes.items noted =
        same_written (ticked_at showing.moment now_clocks) (ticked_at showing.moment clocks_again) part.classes.items old noted noted (ap (ticked_at showing.moment) (again ∙ clocks_now)) old_is refl notes in
        steps s uses before own after partition S m base showing part start now_clocks b.tells now_cells b.begins taken result long
        (takes_now s uses before after partition S m base (code_starts s uses before own after partition S m base showing part start now_clocks b.tells now_cells b.begins) (coded_now s own start.part_of start.shown.model))
        (record { entries = part.entries; cells = with_items (with_items (with_items part.cells now_cells) taken) final; classes = with_items part.classes noted; clocks = with_items part.clocks now_clocks; code = code })
        final code_same keeps_so noted notes_so told refl
        (with_items_is (with_items (with_items part.cells now_cells) taken) final (keeps_so.size ∙ long ∙ b.begins.size ∙ sym part.cells.ok.0))
        (with_items_is part.classes noted (notes_so.size ∙ sym part.classes.ok.0))
        room
