-- An entry is ready exactly where its use counts, and what it reads by the cells is what it reads over the row.
use Rattle.std.proofs.Common.{◌≡◌, ◌≢◌, refl, ap, sym, subst, ◌∙◌, ℕ, zero, suc, ◌-◌, ◌<◌, ◌==◌, ◌&&◌, ◌||◌, not, Bool, true, false, if◌then◌else◌, List, [], ◌∷◌, ◌++◌, Option, Some, None, is_none, IsSome, slice_get, Contains, ◌⊎◌, eq-eqb, ne_eqb, inl, inr, arith}
use Rattle.std.proofs.lemmas.Bool.{false≢true, and_parts}
use Rattle.std.proofs.lemmas.Option.{same_Some, none-some}
use Rattle.sync_values.specs.declared.value.Value.{Value}
use Rattle.flat_model.specs.declared.equation.Equation.{Equation}
use Rattle.flat_model.specs.declared.equation.Equation.TheVariants.{Valued}
use Rattle.flat_model.specs.declared.expression.Expr.{Expr}
use Rattle.flat_model.specs.Asks.{Asking, OfNow, OfLast, OfPrevious, OfFirst, OfInterval, asked, IsSampled}
use Rattle.flat_model.specs.Assignment.{Assignment, tick_before, value_at_tick, last_value, previous_value}
use Rattle.flat_model.specs.Given.{Row, with_row, IsKnown, HasLastValue, HasReadIn}
use Rattle.flat_model.specs.Occurrences.{bare_count, held_count, converted_count}
use Rattle.flat_model.specs.Runnable.{IsSideClocked}
use Rattle.flat_model.specs.Setting.{Setting, class_of_name, class_of_equation, clock_of, start_of, class_ticks, name_ticks, interval_at, views_at}
use Rattle.flat_model.specs.Uses.{Use, SiteReads}
use Rattle.flat_model.proofs.Agreement.{SameBefore, class_ticks_same, tick_before_same, previous_same}
use Rattle.flat_model.proofs.Links.{asked_bare, asked_last, asked_before, asked_earlier}
use Rattle.flat_model.proofs.Sites.{SameSiteOf, class_ticks_by_site, still_known, meet_where_tick}
use Rattle.eq_orient.specs.declared.standing.Manner.{Manner}
use Rattle.eq_orient.specs.declared.standing.Manner.TheVariants as manner
use Rattle.eq_orient.specs.Spine.{count_in}
use Rattle.moment_theory.specs.Free.{AsksLastIn, AsksClass}
use Rattle.moment_theory.specs.Sound.{IsSound}
use Rattle.moment_theory.proofs.Facts.{Facts, UseFacts, facts_of_use}
use Rattle.moment_theory.proofs.FromRunnable.{facts_of}
use Rattle.moment_theory.proofs.Groups.{interval_same}
use Rattle.moment_theory.proofs.Members.{IsMember, member_contains}
use Rattle.moment_theory.proofs.Placed.{left_unsampled}
use Rattle.moment_theory.proofs.Rows.{row_now, row_before, unclocked_at_first, known_axis}
use Rattle.moment_theory.proofs.Unknown.{site_same, known_where_ticks}
use Rattle.first_failure.proofs.Turning.{member_back, member_front}
use Rattle.side_theory.specs.Stretches.{IsSameAt}
use Rattle.side_theory.specs.Typed.{IsTypedRow}
use Rattle.solved_use.specs.Solving.{ShowsBut}
use Rattle.tree_step.specs.declared.cell.Cell.{Cell}
use Rattle.tree_step.specs.declared.cell.Standing.{Standing}
use Rattle.tree_step.specs.declared.cell.Standing.TheVariants.{Ticks, Rests, Unknown}
use Rattle.tree_step.specs.declared.taking.Entry.{Entry}
use Rattle.tree_step.specs.Cells.{cell_in}
use Rattle.tree_step.specs.Frames.{now_in, kept_in, last_by, last_in, shown_length, frame_views}
use Rattle.tree_step.specs.Starts.{Sight, use_of, uses_of, IsAmong, KeepsLast, StandsAs, IsSideSeen, AreSidesSeen, IsEntry, IsStart}
use Rattle.tree_step.specs.Takes.{IsSameCell}
use Rattle.tree_step.specs.private.Lacking.{is_missing, may_tick, is_open_in, is_unsettled, expr_lacks}
use Rattle.tree_step.proofs.Lacks.{ties, told}

pub missing_is : (places : List ℕ) (cells : List Cell) (own y : ℕ) → is_missing places cells own y ≡ (not (y == own) && is_none (now_in (cell_in places cells y)))
unfolding is_missing
missing_is places cells own y = refl

pub unsettled_is : (places : List ℕ) (cells : List Cell) (z : ℕ) → is_unsettled places cells z ≡ is_open_in (cell_in places cells z)
unfolding is_unsettled
unsettled_is places cells z = refl

true≢false : true ≡ false → ⊥
true≢false e = false≢true (sym e)

-- a cell that is the same but for its value
pub record Same (cell : Cell) (o : Option Cell) : Type 0 where
  pub other : Cell
  pub is : o ≡ Some other
  pub kept : other.kept ≡ cell.kept
  pub standing : other.standing ≡ cell.standing

pub same_on : (old new : Option Cell) (cell : Cell) → IsSameCell old new → old ≡ Some cell → Same cell new
same_on None new cell same is = absurd (none-some cell is)
same_on (Some a) None cell same is = absurd same
same_on (Some a) (Some b) cell (names, kept, standing) is = record { other = b; is = refl; kept = kept ∙ ap (λ c. c.kept) (same_Some a cell is); standing = standing ∙ ap (λ c. c.standing) (same_Some a cell is) }

pub among_member : (entry : Entry) (entries : List Entry) → IsAmong entry entries → IsMember (use_of entry) (uses_of entries)
among_member entry [] among = absurd among
among_member entry (first ∷ rest) (inl is) = inl (ap use_of is)
among_member entry (first ∷ rest) (inr among) = inr (among_member entry rest among)

some_there : (o : Option Value) → is_none o ≡ false → IsSome o
some_there (Some v) e = refl
some_there None e = absurd (true≢false e)

there_some : (o : Option Value) → IsSome o → is_none o ≡ false
there_some (Some v) e = refl
there_some None e = absurd (false≢true e)

open_cases : (o : Option Value) (standing : Standing) → is_none o && may_tick standing ≡ false → (standing ≡ Rests) ⊎ IsSome o
open_cases (Some v) standing e = inr refl
open_cases None Rests e = inl refl
open_cases None Ticks e = absurd (true≢false e)
open_cases None Unknown e = absurd (true≢false e)

pub closed_rests : (o : Option Value) → is_none o && false ≡ false
closed_rests (Some v) = refl
closed_rests None = refl

closed_some : (o : Option Value) (standing : Standing) → IsSome o → is_none o && may_tick standing ≡ false
closed_some (Some v) standing some = refl
closed_some None standing some = absurd (false≢true some)

or_false : (a b : Bool) → a || b ≡ false → (a ≡ false) × (b ≡ false)
or_false true b e = absurd (true≢false e)
or_false false b e = (refl, e)

not_true : (a : Bool) → not a ≡ true → a ≡ false
not_true true e = absurd (false≢true e)
not_true false e = refl

pub both_false : (a b : Bool) → a ≡ false → b ≡ false → a || b ≡ false
both_false a b e f = ap (λ c. c || b) e ∙ f

pub is_false : (b : Bool) → (b ≡ true → ⊥) → b ≡ false
is_false true h = absurd (h refl)
is_false false h = refl

module _ (s : Setting) (uses before after : List Use) (S : Assignment) (m : ℕ) (base : Row) (sight : Sight) (all : List Entry) (cells₀ : List Cell) (start : IsStart s uses before after S m base sight all cells₀) where
  abbrev facts : Facts s
  facts = facts_of s start.ordered.runs

  -- cells that hold a row on the way
  pub record AtRow (row : Row) (cells : List Cell) : Type 0 where
    pub holds : (x : ℕ) (cell : Cell) → cell_in sight.places cells x ≡ Some cell → cell.now ≡ row x
    pub kept : (x : ℕ) → IsSameCell (cell_in sight.places cells₀ x) (cell_in sight.places cells x)
    pub sites : (e : Entry) (class : Option ℕ) (y : ℕ) → IsAmong e all → AsksClass s e.equation class → SiteReads s class y → row y ≡ base y
    pub typed : IsTypedRow s row
    pub sound : IsSound s (with_row S m row) m

  pub used_entry : (e : Entry) → IsAmong e all → Contains uses (use_of e)
  used_entry e among = start.ordered.same.only (use_of e) (member_contains (use_of e) (before ++ (uses_of all ++ after))
      (member_back before (uses_of all ++ after) (use_of e) (member_front (uses_of all) after (use_of e) (among_member e all among))))

  module _ (row : Row) (cells : List Cell) (at : AtRow row cells) (e : Entry) (among : IsAmong e all) where
    abbrev A : Assignment
    A = with_row S m row

    abbrev B : Assignment
    B = with_row S m base

    abbrev i : ℕ
    i = e.equation

    abbrev x : ℕ
    x = e.name

    abbrev class : Option ℕ
    class = class_of_equation s i

    abbrev is : IsEntry s S m base sight cells₀ e
    is = start.each e among

    abbrev of : UseFacts s (use_of e)
    of = facts_of_use s uses start.ordered.uses_are.uses_are (use_of e) (used_entry e among)

    abbrev own : Equation
    own = Valued of.left of.right of.clause

    pub own_is : is.equation ≡ own
    own_is = same_Some is.equation own (sym is.found ∙ of.found)

    pub seen : IsSideSeen s S m base sight cells₀ is.clock of.left × IsSideSeen s S m base sight cells₀ is.clock of.right
    seen = subst (AreSidesSeen s S m base sight cells₀ is.clock) own_is is.seen

    clocked : IsSideClocked s i of.left × IsSideClocked s i of.right
    clocked = start.ordered.runs.equations i own of.found

    same_before : SameBefore B A m
    same_before y k lt = row_before S m base y k lt ∙ sym (row_before S m row y k lt)

    site_row : (c : Option ℕ) → AsksClass s i c → SameSiteOf s B A m c
    site_row c asks = site_same s B A m c facts.unclocked (λ y reads. row_now S m base y ∙ sym (at.sites e c y among asks reads) ∙ sym (row_now S m row y))

    site_back : (c : Option ℕ) → AsksClass s i c → SameSiteOf s A B m c
    site_back c asks = site_same s A B m c facts.unclocked (λ y reads. row_now S m row y ∙ at.sites e c y among asks reads ∙ sym (row_now S m base y))

    ticks_row : (c : Option ℕ) → AsksClass s i c → class_ticks s B c m ≡ class_ticks s A c m
    ticks_row c asks = class_ticks_by_site s B A c m same_before (site_row c asks)

    known_row : (c : Option ℕ) → AsksClass s i c → IsKnown s B m c → IsKnown s A m c
    known_row c asks known = still_known s B A m c known (site_row c asks)

    known_back : (c : Option ℕ) → AsksClass s i c → IsKnown s A m c → IsKnown s B m c
    known_back c asks known = still_known s A B m c known (site_back c asks)

    pub clock_ticks : is.clock.ticks ≡ class_ticks s A class m
    clock_ticks = is.told.ticks ∙ ticks_row class (inl refl)

    has_value : (y : ℕ) → IsSome (A y m) → IsSome (row y)
    has_value y some = subst IsSome (row_now S m row y) some

    value_has : (y : ℕ) → IsSome (row y) → IsSome (A y m)
    value_has y some = subst IsSome (sym (row_now S m row y)) some

    -- ---- one side

    module _ (side : Expr) (sees : IsSideSeen s S m base sight cells₀ is.clock side) (cut : IsSideClocked s i side) (asks : (z : ℕ) → AsksLastIn side z → AsksClass s i (class_of_name s z)) (own_last : AsksLastIn side x → ⊥) where
      -- a cell that is read now
      now_cell : (y : ℕ) → 0 < bare_count y side → (cell : Cell) × (cell_in sight.places cells y ≡ Some cell) × (cell.now ≡ row y)
      now_cell y some =
          let (old, old_is) = sees.now y (let count = asked_bare y side in omega (arith, some, count)) in
          let same = same_on _ _ old (at.kept y) old_is in (same.other, same.is, at.holds y same.other same.is)

      asks_last : (z : ℕ) → AsksLastIn side z → 0 < asked side 0 (OfLast z)
      asks_last z (inl some) = let count = asked_last z side in omega (arith, some, count)
      asks_last z (inr some) = let count = asked_last z side in omega (arith, some, count)

      last_asks : (z : ℕ) → 0 < asked side 0 (OfLast z) → AsksLastIn side z
      last_asks z some = by_count (held_count z side) refl
        where
          by_count : (n : ℕ) → held_count z side ≡ n → AsksLastIn side z
          by_count zero none = let total = asked_last z side in inr (omega (arith, some, total, none))
          by_count (suc n) one = inl (omega (arith, one))

      record LastCell (z : ℕ) : Type 0 where
        pub cell : Cell
        pub is : cell_in sight.places cells z ≡ Some cell
        pub now : cell.now ≡ row z
        pub kept : KeepsLast s S m z cell
        pub stands : StandsAs s B m (class_of_name s z) cell.standing

      last_cell : (z : ℕ) → AsksLastIn side z → LastCell z
      last_cell z last =
          let (old, old_is, keeps, stands) = sees.last z (asks_last z last) in
          let same = same_on _ _ old (at.kept z) old_is in record {
            cell = same.other;
            is = same.is;
            now = at.holds z same.other same.is;
            kept = keeps ∙ ap Some (sym same.kept);
            stands = subst (StandsAs s B m (class_of_name s z)) (sym same.standing) stands;
          }

      -- a last value that is settled is there
      settled_last : (z : ℕ) → AsksLastIn side z → is_unsettled sight.places cells z ≡ false → HasLastValue s A m z
      settled_last z last settled =
          let c = last_cell z last in
          by_case c (open_cases c.cell.now c.cell.standing (sym (ap is_open_in c.is) ∙ sym (unsettled_is sight.places cells z) ∙ settled))
        where
          by_case : (c : LastCell z) → (c.cell.standing ≡ Rests) ⊎ IsSome c.cell.now → HasLastValue s A m z
          by_case c (inl rests) =
              let stands : StandsAs s B m (class_of_name s z) Rests = subst (StandsAs s B m (class_of_name s z)) rests c.stands in
              inl (known_row (class_of_name s z) (asks z last) stands.0, sym (ticks_row (class_of_name s z) (asks z last)) ∙ stands.1)
          by_case c (inr some) = inr (value_has z (subst IsSome c.now some))

      last_settled : (z : ℕ) → AsksLastIn side z → HasLastValue s A m z → is_unsettled sight.places cells z ≡ false
      last_settled z last has = let c = last_cell z last in unsettled_is sight.places cells z ∙ ap is_open_in c.is ∙ by_case c has c.cell.standing refl
        where
          by_case : (c : LastCell z) → HasLastValue s A m z → (standing : Standing) → c.cell.standing ≡ standing → is_none c.cell.now && may_tick c.cell.standing ≡ false
          by_case c (inr some) standing at_it = closed_some c.cell.now c.cell.standing (subst IsSome (sym c.now) (has_value z some))
          by_case c (inl (known, rests)) Rests at_it = ap (λ t. is_none c.cell.now && may_tick t) at_it ∙ closed_rests c.cell.now
          by_case c (inl (known, rests)) Ticks at_it =
              let stands : StandsAs s B m (class_of_name s z) Ticks = subst (StandsAs s B m (class_of_name s z)) at_it c.stands in
              absurd (false≢true (sym rests ∙ sym (ticks_row (class_of_name s z) (asks z last)) ∙ stands.1))
          by_case c (inl (known, rests)) Unknown at_it =
              let stands : StandsAs s B m (class_of_name s z) Unknown = subst (StandsAs s B m (class_of_name s z)) at_it c.stands in
              absurd (stands (known_back (class_of_name s z) (asks z last) known))

      no_tie : expr_lacks sight.places cells x side ≡ false → (k : Manner) (y : ℕ) → 0 < count_in k y side → ties (is_missing sight.places cells x) (is_unsettled sight.places cells) k y ≡ false
      no_tie none k y some = is_false _ (λ tie. true≢false (sym ((told (is_missing sight.places cells x) (is_unsettled sight.places cells) side).all k y some tie) ∙ none))

      -- where nothing is missing, all that is read now has values
      pub nothing_missing : expr_lacks sight.places cells x side ≡ false → (y : ℕ) → y ≢ x → HasReadIn s A m i side y
      nothing_missing none y other = record {
        bare = λ some.
            let (cell, cell_is, now) = now_cell y some in
            let tie = no_tie none manner.Bare y some in
            value_has y (subst IsSome now (some_there cell.now (bare_there y other cell cell_is tie)));
        held = λ some. settled_last y (inl some) (no_tie none manner.Held y some);
        converted = λ some meet. settled_last y (inr some) (no_tie none manner.Converted y some);
      }
        where
          bare_there : (y : ℕ) → y ≢ x → (cell : Cell) → cell_in sight.places cells y ≡ Some cell → is_missing sight.places cells x y ≡ false → is_none cell.now ≡ false
          bare_there y other cell cell_is tie = sym (ap (λ o. is_none (now_in o)) cell_is) ∙ sym (ap (λ b. not b && is_none (now_in (cell_in sight.places cells y))) (ne_eqb y x other)) ∙ sym (missing_is sight.places cells x y) ∙ tie

      -- and where all that is read now has values, nothing is missing
      pub none_missing : class_ticks s A class m ≡ true → ((y : ℕ) → y ≢ x → HasReadIn s A m i side y) → expr_lacks sight.places cells x side ≡ false
      none_missing ticks has = is_false _ (λ lacking. let (k, y, some, tie) = (told (is_missing sight.places cells x) (is_unsettled sight.places cells) side).some lacking in by_manner k y some tie)
        where
          unlike : (z : ℕ) → AsksLastIn side z → z ≢ x
          unlike z last same = own_last (subst (AsksLastIn side) same last)

          converted_last : (z : ℕ) → 0 < converted_count z side → HasLastValue s A m z
          converted_last z some = by_tick (name_ticks s A z m) refl
            where
              by_tick : (b : Bool) → name_ticks s A z m ≡ b → HasLastValue s A m z
              by_tick true tick = (has z (unlike z (inr some))).converted some (meet_where_tick s A m class (class_of_name s z) (cut.converted z some).axis ticks tick)
              by_tick false rest = inl (known_axis s A m (clock_of s class) (clock_of s (class_of_name s z)) (cut.converted z some).axis (known_where_ticks s A m class ticks), rest)

          by_manner : (k : Manner) (y : ℕ) → 0 < count_in k y side → ties (is_missing sight.places cells x) (is_unsettled sight.places cells) k y ≡ true → ⊥
          by_manner manner.Bare y some tie =
              let tests = and_parts (not (y == x)) (is_none (now_in (cell_in sight.places cells y))) (sym (missing_is sight.places cells x y) ∙ tie) in
              let (cell, cell_is, now) = now_cell y some in
              let other : y ≢ x = (λ same. true≢false (sym (eq-eqb y x same) ∙ not_true (y == x) tests.0)) in
              true≢false (sym tests.1 ∙ ap (λ o. is_none (now_in o)) cell_is ∙ there_some cell.now (subst IsSome (sym now) (has_value y ((has y other).bare some))))
          by_manner manner.Held y some tie = true≢false (sym tie ∙ last_settled y (inl some) ((has y (unlike y (inl some))).held some))
          by_manner manner.Converted y some tie = true≢false (sym tie ∙ last_settled y (inr some) (converted_last y some))

      -- ---- what is read

      here : m ≡ m - 0
      here = omega arith

      ticks_earlier : (c : Option ℕ) (j : ℕ) → j < m → class_ticks s S c j ≡ class_ticks s A c j
      ticks_earlier c j lt = class_ticks_same s S A c j j (λ y k le. sym (row_before S m row y k (omega (arith, le, lt)))) (omega arith)

      previous_is : (z : ℕ) → previous_value (name_ticks s S z) (S z) (start_of s z) m ≡ previous_value (name_ticks s A z) (A z) (start_of s z) m
      previous_is z = previous_same (name_ticks s S z) (name_ticks s A z) (S z) (A z) (start_of s z) m (λ j lt. ticks_earlier (class_of_name s z) j lt) (λ j lt. sym (row_before S m row z j lt))

      last_at : (b : Bool) (z : ℕ) → name_ticks s A z m ≡ b → value_at_tick (A z) (start_of s z) (if b then Some m else tick_before (name_ticks s A z) m) ≡ last_value (name_ticks s A z) (A z) (start_of s z) m
      last_at b z tick = sym (ap (λ t. value_at_tick (A z) (start_of s z) (if t then Some m else tick_before (name_ticks s A z) m)) tick)

      last_shown : (z : ℕ) → AsksLastIn side z → HasLastValue s A m z → last_in (cell_in sight.places cells z) ≡ last_value (name_ticks s A z) (A z) (start_of s z) m
      last_shown z last has = let c = last_cell z last in ap last_in c.is ∙ by_standing c c.cell.standing refl has
        where
          by_standing : (c : LastCell z) (standing : Standing) → c.cell.standing ≡ standing → HasLastValue s A m z → last_by c.cell.standing c.cell ≡ last_value (name_ticks s A z) (A z) (start_of s z) m
          by_standing c Rests at_rest has =
              let stands : StandsAs s B m (class_of_name s z) Rests = subst (StandsAs s B m (class_of_name s z)) at_rest c.stands in
              ap (λ t. last_by t c.cell) at_rest ∙ sym c.kept ∙ previous_is z ∙ last_at false z (sym (ticks_row (class_of_name s z) (asks z last)) ∙ stands.1)
          by_standing c Ticks at_tick has =
              let stands : StandsAs s B m (class_of_name s z) Ticks = subst (StandsAs s B m (class_of_name s z)) at_tick c.stands in
              ap (λ t. last_by t c.cell) at_tick ∙ c.now ∙ sym (row_now S m row z) ∙ last_at true z (sym (ticks_row (class_of_name s z) (asks z last)) ∙ stands.1)
          by_standing c Unknown unknown has =
              let stands : StandsAs s B m (class_of_name s z) Unknown = subst (StandsAs s B m (class_of_name s z)) unknown c.stands in
              absurd (stands (known_back (class_of_name s z) (asks z last) (known_of has)))
            where
              known_of : HasLastValue s A m z → IsKnown s A m (class_of_name s z)
              known_of (inl (known, rests)) = known
              known_of (inr some) = (at.sound z some).0

      has_last : class_ticks s A class m ≡ true → ((y : ℕ) → y ≢ x → HasReadIn s A m i side y) → (z : ℕ) → AsksLastIn side z → HasLastValue s A m z
      has_last ticks has z (inl some) = (has z (λ same. own_last (subst (AsksLastIn side) same (inl some)))).held some
      has_last ticks has z (inr some) = by_tick (name_ticks s A z m) refl
        where
          by_tick : (b : Bool) → name_ticks s A z m ≡ b → HasLastValue s A m z
          by_tick true tick = (has z (λ same. own_last (subst (AsksLastIn side) same (inr some)))).converted some (meet_where_tick s A m class (class_of_name s z) (cut.converted z some).axis ticks tick)
          by_tick false rest = inl (known_axis s A m (clock_of s class) (clock_of s (class_of_name s z)) (cut.converted z some).axis (known_where_ticks s A m class ticks), rest)

      -- what is shown of the clock, where the class is one that asks for it
      module _ (ticks : class_ticks s A class m ≡ true) (has : (y : ℕ) → y ≢ x → HasReadIn s A m i side y) (told_first : 0 < asked side 0 OfFirst → (c : ℕ) × (class ≡ Some c)) (told_interval : 0 < asked side 0 OfInterval → (c : ℕ) × (class ≡ Some c)) where
        told_ticks : is.clock.ticks ≡ true
        told_ticks = clock_ticks ∙ ticks

        pub side_shown : ShowsBut s S m row class x (frame_views sight.places cells sight.left is.clock) side
        side_shown zero (OfNow y) some other =
            let (cell, cell_is, now) = now_cell y (let count = asked_bare y side in omega (arith, some, count)) in
            ap now_in cell_is ∙ now ∙ sym (row_now S m row y) ∙ ap (A y) here
        side_shown zero (OfLast z) some other =
            subst (λ k. last_in (cell_in sight.places cells z) ≡ last_value (name_ticks s A z) (A z) (start_of s z) k) here (last_shown z (last_asks z some) (has_last ticks has z (last_asks z some)))
        side_shown zero (OfPrevious y) some other =
            let (old, old_is, keeps) = sees.previous y some in
            let same = same_on _ _ old (at.kept y) old_is in
            subst (λ k. kept_in (cell_in sight.places cells y) ≡ previous_value (name_ticks s A y) (A y) (start_of s y) k) here
            (ap kept_in same.is ∙ ap Some same.kept ∙ sym keeps ∙ previous_is y)
        side_shown zero OfFirst some other =
            let (c, c_is) = told_first some in
            subst (λ k. is.clock.first ≡ is_none (tick_before (class_ticks s A class) k)) here
            (is.told.first c c_is told_ticks ∙ ap is_none (tick_before_same (class_ticks s S class) (class_ticks s A class) m (λ j lt. ticks_earlier class j lt)))
        side_shown zero OfInterval some other =
            let (c, c_is) = told_interval some in
            subst (λ k. shown_length is.clock.first is.clock.interval ≡ interval_at s (class_ticks s A class) k (clock_of s class)) here
            (is.told.interval c c_is told_ticks ∙ interval_same s (class_ticks s S class) (class_ticks s A class) m (clock_of s class) (λ j lt. ticks_earlier class j lt))
        side_shown (suc d) q some other =
            let plain = asked_before side cut.plain d q some in
            subst (λ k. IsSameAt (frame_views sight.places cells sight.left is.clock) (views_at s A class m) (suc k) q) (sym plain.0)
            (by_asking q plain.1 (subst (λ k. 0 < asked side (suc k) q) plain.0 some))
          where
            by_asking : (q : Asking) → IsSampled q → 0 < asked side 1 q → IsSameAt (frame_views sight.places cells sight.left is.clock) (views_at s A class m) 1 q
            by_asking q sampled one = by_moment m refl q sampled one
              where
                by_moment : (k : ℕ) → m ≡ k → (q : Asking) → IsSampled q → 0 < asked side 1 q → IsSameAt (frame_views sight.places cells sight.left is.clock) (views_at s A class m) 1 q
                by_moment zero at_first q sampled one =
                    let none : class ≡ None = unclocked_at_first s A class (subst (λ k. class_ticks s A class k ≡ true) at_first ticks) in
                    absurd (let unsampled = left_unsampled side (cut.unclocked none) in let sample = asked_earlier side 0 q one in omega (arith, unsampled, sample))
                by_moment (suc k) later (OfNow y) sampled one =
                    sees.left told_ticks y k one later ∙ sym (row_before S m row y k (omega (arith, later))) ∙ ap (A y) (let h : k ≡ m - 1 = omega (arith, later) in h)
                by_moment (suc k) later (OfLast z) sampled one =
                    subst (λ j. slice_get sight.left.last z ≡ last_value (name_ticks s A z) (A z) (start_of s z) j) (let h : k ≡ m - 1 = omega (arith, later) in h)
                    (subst (λ j. slice_get sight.left.last z ≡ previous_value (name_ticks s A z) (A z) (start_of s z) j) later (sees.left_last told_ticks z one ∙ previous_is z))
                by_moment (suc k) later (OfPrevious z) sampled one = absurd sampled
                by_moment (suc k) later OfFirst sampled one = absurd sampled
                by_moment (suc k) later OfInterval sampled one = absurd sampled
