-- The uses of a share that wait for a clock, and what a moment leaves of it.
use Rattle.std.proofs.Common.{◌≡◌, refl, ap, ◌∙◌, sym, subst, ℕ, zero, suc, ◌<◌, Bool, true, false, List, [], ◌∷◌, ◌++◌, length, map, Option, Some, None, slice_get, unwrap_or, arith, inl, inr}
use Rattle.std.specs.Prelude.{nat_le, if◌then◌else◌}
use Rattle.std.proofs.Math.Path.{fun_ext}
use Rattle.std.proofs.lemmas.Option.{none-some, same_Some}
use Rattle.first_failure.specs.declared.least.EquationFailing.{EquationFailing}
use Rattle.first_failure.specs.Turns.{FailsAmong, IsLeast}
use Rattle.flat_model.specs.declared.equation.Equation.{Equation}
use Rattle.flat_model.specs.declared.equation.Equation.TheVariants.{Valued, Clocks}
use Rattle.flat_model.specs.declared.expression.Expr.{Expr}
use Rattle.flat_model.specs.Values.{value_in}
use Rattle.flat_model.specs.Asks.{AsksFor, OfLast}
use Rattle.flat_model.specs.Assignment.{Assignment}
use Rattle.flat_model.specs.Given.{Row, with_row}
use Rattle.flat_model.specs.Setting.{Setting, class_of_name, class_ticks}
use Rattle.flat_model.specs.Uses.{Use}
use Rattle.flat_model.proofs.Links.{asked_last}
use Rattle.flat_model.proofs.Sites.{SameSiteOf}
use Rattle.fork_steps.specs.declared.slot.Slot.{Slot}
use Rattle.moment_body.specs.declared.model.ClockedModel.{ClockedModel}
use Rattle.moment_join.specs.Told.{earlier, earliest}
use Rattle.moment_steps.specs.declared.piece.Piece.{Piece}
use Rattle.moment_steps.specs.declared.taking.UnclockedReads.{UnclockedReads}
use Rattle.moment_steps.specs.Gathered.{told_in}
use Rattle.moment_steps.specs.Settled.{IsSettled}
use Rattle.moment_steps.specs.Stepped.{AreSteppedAt}
use Rattle.moment_steps.specs.Opening.{opened_by, standing, value_by}
use Rattle.moment_steps.proofs.Copied.{copied}
use Rattle.moment_steps.proofs.Parts.{answer_flat}
use Rattle.moment_steps.proofs.Pure.{among_contains, outside}
use Rattle.moment_steps.proofs.Rows.{reached_first, reached_second, row_typed, row_sound, row_clear, ordered_behind, same_site, same_ticks, site_not_waiting}
use Rattle.moment_steps.proofs.Starting.{valued_within, OpenCell, open_cell, starts, LastSeen, stands_as}
use Rattle.moment_theory.specs.Division.{joined}
use Rattle.moment_theory.specs.Free.{IsOrdered, IsReachedBy, AsksLast, AsksLastIn}
use Rattle.moment_theory.specs.Pieces.{AreTakenAlone, AreBeside}
use Rattle.moment_theory.specs.Taken.{AreTaken}
use Rattle.moment_theory.proofs.Meeting.{IsValued}
use Rattle.moment_theory.proofs.Pieces.{reached_twice}
use Rattle.moment_theory.proofs.Settled.{model}
use Rattle.moment_theory.proofs.Taking.{unchanged}
use Rattle.part_groups.specs.Units.{EquationNames}
use Rattle.partition_step.specs.Parts.{StandsFor}
use Rattle.partition_step.specs.Steps.{GoesOnWith}
use Rattle.partition_step.specs.Writing.{IsWritten}
use Rattle.partition_step.proofs.Lists.{at_map, some_at}
use Rattle.share_run.specs.private.Gathering.{owned_at}
use Rattle.share_run.specs.Standing.{Holding, pieces_of}
use Rattle.share_run.specs.Taking.{Values, Plan, IsShareAt, CanTakeShare, GoesOnBeside, HasTakenShare, TakesShare}
use Rattle.share_run.proofs.Owned.{reached_joined, beside}
use Rattle.share_run.proofs.Slots.{SlotRow, slot_row, owns, owns_is, alone, told_at, no_more, same_pieces}
use Rattle.share_run.proofs.Starts.{showing}
use Rattle.tree_step.specs.declared.cell.Cell.{Cell}
use Rattle.tree_step.specs.declared.taking.Entry.{Entry}
use Rattle.tree_step.specs.Starts.{Sight, use_of, uses_of, IsAmong, StandsAs, AreSitesApart, IsStart, CanStart}
use Rattle.tree_step.specs.Takes.{TakesUses, HasTaken}

-- ---- what is shown

none_both : (one other : Option EquationFailing) → earlier one other ≡ None → (one ≡ None) × (other ≡ None)
none_both None other none = (refl, none)
none_both (Some one) None none = absurd (none-some one (sym none))
none_both (Some one) (Some other) none = absurd (some_by (nat_le one.equation other.equation) none)
  where
    some_by : (b : Bool) → (if b then Some one else Some other) ≡ None → ⊥
    some_by true is = none-some one (sym is)
    some_by false is = none-some other (sym is)

pub none_each : (each : List (Option EquationFailing)) → earliest each ≡ None → (i : ℕ) (told : Option EquationFailing) → slice_get each i ≡ Some told → told ≡ None
none_each [] none i told found = absurd (none-some told found)
none_each (first ∷ each) none zero told found = sym (same_Some first told found) ∙ (none_both first (earliest each) none).0
none_each (first ∷ each) none (suc i) told found = none_each each (none_both first (earliest each) none).1 i told found

-- ---- what an equation asks for

asks_last : (side : Expr) (z : ℕ) → AsksLastIn side z → AsksFor side 0 (OfLast z)
asks_last side z (inl held) = let same = asked_last z side in omega (arith, held, same)
asks_last side z (inr converted) = let same = asked_last z side in omega (arith, converted, same)

names_last : (equation : Equation) (z : ℕ) → AsksLast equation z → EquationNames equation z
names_last (Valued left right clause) z (inl asks) = inl (0, inr (inl (asks_last left z asks)))
names_last (Valued left right clause) z (inr asks) = inr (0, inr (inl (asks_last right z asks)))
names_last (Clocks left right clause) z asks = absurd asks

module _ (h : Holding) (model_now : ClockedModel) (plan : Plan) (now : Values) (new : List (Slot Piece)) (stepped : AreSteppedAt (showing h model_now plan now) h.classes h.slots new)
    (gathered : Values) (gathers : IsWritten (owned_at h.owners h.numbers h.places new) now gathered)
    (shown : List Cell) (opens : IsWritten (opened_by h.numbers h.left.last gathered (standing model_now.clocking plan.ticks plan.answers)) h.cells shown) where
  abbrev pub sight : Sight
  sight = record { equations = model_now.flat.equations; places = h.numbers; left = h.left; clocks = h.always }

  abbrev none_noted : UnclockedReads
  none_noted = record { pure = []; waiting = [] }

  module _ (s : Setting) (uses pure others : List Use) (A : Assignment) (n : ℕ) (is : IsShareAt h model_now plan now s uses pure others A n) where
    abbrev own : List Use
    own = uses_of h.waiting

    abbrev behind_all : List Use
    behind_all = own ++ others

    abbrev pieces : List (List Use)
    pieces = pieces_of h

    abbrev base : Row
    base = value_in now

    abbrev mid : Row
    mid = value_in gathered

    abbrev rows : ℕ → Row
    rows = owns h model_now plan now s uses pure others A n is new stepped

    rows_alone : AreTakenAlone s A n base rows pieces
    rows_alone = alone h model_now plan now s uses pure others A n is new stepped

    rows_beside : AreBeside base rows pieces mid
    rows_beside = beside h model_now plan now s uses pure others A n is new stepped gathered gathers

    settled : IsSettled s [] h.waiting none_noted h.always h.numbers
    settled = record {
      measured = is.before.settled.measured;
      always_ticks = is.before.settled.always_ticks;
      long = is.before.settled.long;
      numbered = is.before.settled.numbered;
      pure_plain = λ entry among. absurd among;
      waiting_plain = is.before.settled.waiting_plain;
      pure_reads = λ i entry reads equation found reads_found. absurd (none-some reads reads_found);
      waiting_reads = λ i entry reads equation found reads_found. absurd (none-some reads reads_found);
    }

    ordered : IsOrdered s uses ((pure ++ joined pieces) ++ behind_all)
    ordered = ordered_behind s uses pure pieces behind_all is.division.staged A n plan.at is.here is.inputs is.are base is.taken rows rows_alone mid rows_beside

    opens_here : IsWritten (opened_by h.numbers h.left.last gathered (standing s.clocking plan.ticks plan.answers)) h.cells shown
    opens_here = subst (λ k. IsWritten (opened_by h.numbers h.left.last gathered (standing k plan.ticks plan.answers)) h.cells shown) is.model_is.clocking opens

    apart : AreSitesApart s own h.waiting
    apart entry class y among asks reads reached = site_not_waiting s uses pure pieces behind_all is.division.staged is.division.reach class y reads (reached_first own others y reached)

    site_is : (class : Option ℕ) → SameSiteOf s (with_row A n base) (with_row A n mid) n class
    site_is = same_site s uses pure pieces behind_all is.division.staged A n plan.at is.here is.inputs is.are base is.taken rows rows_alone mid rows_beside is.division.reach

    ticks_same : (class : Option ℕ) → class_ticks s (with_row A n base) class n ≡ class_ticks s (with_row A n mid) class n
    ticks_same = same_ticks s uses pure pieces behind_all is.division.staged A n plan.at is.here is.inputs is.are base is.taken rows rows_alone mid rows_beside is.division.reach

    opened : (x : ℕ) → x < length s.model.names → OpenCell s [] h.waiting none_noted h.always h.numbers settled h.left.last gathered (standing s.clocking plan.ticks plan.answers) h.cells shown is.before.room opens_here x
    opened = open_cell s [] h.waiting none_noted h.always h.numbers settled h.left.last gathered (standing s.clocking plan.ticks plan.answers) h.cells shown is.before.room opens_here

    lasts : (entry : Entry) (equation : Equation) (z : ℕ) → IsAmong entry h.waiting → slice_get s.model.equations entry.equation ≡ Some equation → AsksLast equation z → IsValued s z → LastSeen s A n mid h.numbers shown z
    lasts entry equation z among found asks valued =
        let lt = valued_within s z valued in
        let o = opened z lt in
        let alone_here = is.division.waiting_alone (use_of entry) equation z (among_contains h.waiting entry among) found (names_last equation z asks) in
        let (last, last_found) = some_at h.left.last z (let long = is.before.left_is.long in omega (arith, lt, long)) in (
          o.cell,
          o.found,
          sym (is.before.left_is.last z alone_here valued) ∙ last_found ∙ ap Some (sym (ap (λ c. c.kept) o.is ∙ ap (λ v. unwrap_or v o.was.kept) last_found)),
          subst (λ how. StandsAs s (with_row A n mid) n (class_of_name s z) how) (sym (ap (λ c. c.standing) o.is))
              (stands_as s A n base mid plan.ticks plan.answers is.ticks_are (λ site. answer_flat (slice_get plan.answers site) ∙ is.answers_are site) site_is ticks_same (class_of_name s z)),
        )

    starts_here : IsStart s uses (pure ++ joined pieces) others A n mid (record { equations = s.model.equations; places = h.numbers; left = h.left; clocks = h.always }) h.waiting shown
    starts_here = starts s uses (pure ++ joined pieces) others h.waiting ordered A n is.valued [] h.waiting none_noted h.always h.numbers settled h.left gathered (standing s.clocking plan.ticks plan.answers) h.cells shown is.before.room opens_here
        (row_typed s uses pure pieces behind_all is.division.staged A n plan.at is.here is.inputs is.are base is.taken rows rows_alone mid rows_beside)
        (row_sound s uses pure pieces behind_all is.division.staged A n plan.at is.here is.inputs is.are base is.taken rows rows_alone mid rows_beside)
        (λ y reached. row_clear s uses pure pieces behind_all is.division.staged A n plan.at is.here is.inputs is.are base is.taken rows rows_alone mid rows_beside y (reached_first own others y reached))
        is.before.settled.waiting_plain apart lasts

    pub waiting_start : IsStart s uses (pure ++ joined pieces) others A n mid sight h.waiting shown
    waiting_start = subst (λ flat. IsStart s uses (pure ++ joined pieces) others A n mid (record { equations = flat.equations; places = h.numbers; left = h.left; clocks = h.always }) h.waiting shown) (sym is.model_is.flat) starts_here

  pub can_start : CanTakeShare h model_now plan now → CanStart sight h.waiting shown
  can_start (s, uses, pure, others, A, n, is) = record {
    s = s;
    uses = uses;
    before = pure ++ joined (pieces_of h);
    after = others;
    S = A;
    m = n;
    base = value_in gathered;
    start = waiting_start s uses pure others A n is;
  }

  module _ (taken : List Cell) (behind : Option EquationFailing) (takes : TakesUses sight h.waiting shown taken behind) (last : Values) (copies : IsWritten (value_by taken) gathered last)
      (result : Option EquationFailing) (result_is : result ≡ earliest (behind ∷ map told_in new)) where
    module _ (s : Setting) (uses pure others : List Use) (A : Assignment) (n : ℕ) (is : IsShareAt h model_now plan now s uses pure others A n) where
      has : HasTaken s uses A n (value_in gathered) sight h.waiting shown taken behind
      has = takes s uses (pure ++ joined (pieces_of h)) others A n (value_in gathered) (waiting_start s uses pure others A n is)

      abbrev end : Row
      end = value_in last

      wide : length gathered ≡ length s.model.names
      wide = gathers.size ∙ is.wide

      own_is : has.own ≡ end
      own_is = fun_ext (copied s [] h.waiting none_noted h.always h.numbers (settled s uses pure others A n is) shown taken
          (λ x lt. let o = opened s uses pure others A n is x lt in (o.cell, o.found)) has.kept gathered last wide copies has.own has.holds
          (outside s uses (pure ++ joined (pieces_of h)) (uses_of h.waiting) others (ordered s uses pure others A n is) A n gathered has.own wide has.taken))

      waited : AreTaken s A n (uses_of h.waiting) (value_in gathered) end
      waited = subst (λ r. AreTaken s A n (uses_of h.waiting) (value_in gathered) r) own_is has.taken

      module _ (i : ℕ) (slot : Slot Piece) (found : slice_get new i ≡ Some slot) where
        abbrev of_slot : SlotRow h model_now plan now s uses pure others A n is new stepped i slot
        of_slot = slot_row h model_now plan now s uses pure others A n is new stepped i slot found

        once : (x : ℕ) → IsReachedBy x of_slot.own → IsReachedBy x (uses_of h.waiting ++ others) → ⊥
        once x reached = reached_twice s (pure ++ joined (pieces_of h)) (uses_of h.waiting ++ others) (ordered s uses pure others A n is).free x
            (reached_second pure (joined (pieces_of h)) x (reached_joined (pieces_of h) i of_slot.own of_slot.piece x reached))

        module _ (T : Assignment) (on : GoesOnBeside s others A n end plan.ticks T) where
          values : (x : ℕ) → IsReachedBy x of_slot.own → T x n ≡ of_slot.row x
          values x reached =
              on.values x (λ other. once x reached (reached_second (uses_of h.waiting) others x other))
              ∙ unchanged s (model s uses ((pure ++ joined (pieces_of h)) ++ (uses_of h.waiting ++ others)) (ordered s uses pure others A n is)).unclocked A n (uses_of h.waiting) (value_in gathered) end waited x
              (λ later. once x reached (reached_first (uses_of h.waiting) others x later))
              ∙ (rows_beside s uses pure others A n is).own i of_slot.own x of_slot.piece reached
              ∙ ap (λ r. r x) (sym (owns_is h model_now plan now s uses pure others A n is new stepped i slot found))

          next : GoesOnWith s of_slot.own A n of_slot.row (showing h model_now plan now) T
          next = record { agrees = on.agrees; meets = on.meets; values = values; ticks = on.ticks_are }

          stands : result ≡ None → StandsFor s T (suc n) slot.piece.part
          stands none = of_slot.goes_on (none_each (behind ∷ map told_in new) (sym result_is ∙ none) (suc i) (told_in slot) (at_map told_in new i slot found)) T next

      has_taken : HasTakenShare h new plan now last result s uses others A n
      has_taken = record {
        owns = owns h model_now plan now s uses pure others A n is new stepped;
        row = value_in gathered;
        each = map told_in new;
        behind = behind;
        alone = rows_alone s uses pure others A n is;
        beside = rows_beside s uses pure others A n is;
        waited = waited;
        each_told = told_at h model_now plan now s uses pure others A n is new stepped;
        no_more = no_more h model_now plan now s uses pure others A n is new stepped;
        behind_told = subst (λ r. IsLeast (FailsAmong s uses A n (uses_of h.waiting) r) behind) own_is has.told;
        told_is = result_is;
        same = same_pieces h (showing h model_now plan now) new stepped;
        slots_are = λ i slot found. (of_slot i slot found).slot_of;
        goes_on = λ none T on i slot found. stands i slot found T on none;
      }

    pub takes_share : TakesShare h model_now plan new now last result
    takes_share s uses pure others A n is = has_taken s uses pure others A n is
