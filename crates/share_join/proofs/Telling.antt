-- What shares tell is the least of all that fails over the joined row.
use Rattle.std.proofs.Common.{◌≡◌, ap, ◌∙◌, sym, subst, ℕ, List, [], ◌∷◌, ◌++◌, map, Contains, Option, Some, None, slice_get, ◌⊎◌, inl, inr}
use Rattle.std.proofs.lemmas.Bool.{cases_eq}
use Rattle.std.proofs.lemmas.Option.{same_Some}
use Rattle.sync_values.specs.declared.value.Fail.{Fail}
use Rattle.flat_model.specs.declared.clock.Moment.{Moment}
use Rattle.flat_model.specs.Assignment.{Assignment}
use Rattle.flat_model.specs.Faults.{EquationFails}
use Rattle.flat_model.specs.Given.{Row, with_row}
use Rattle.flat_model.specs.Moments.{moment_at}
use Rattle.flat_model.specs.Setting.{Setting}
use Rattle.flat_model.specs.Uses.{Use}
use Rattle.moment_theory.specs.Division.{joined}
use Rattle.moment_theory.specs.Free.{IsReachedBy}
use Rattle.moment_theory.specs.Pieces.{Needs}
use Rattle.moment_theory.specs.Sound.{IsSound, WaitsForNoOwn, AgreeOnNeeds, DoesAlike}
use Rattle.moment_theory.proofs.Beside.{reached_first, reached_second}
use Rattle.moment_theory.proofs.Members.{IsMember, contains_member, member_contains, reached_member}
use Rattle.moment_theory.proofs.SameUse.{does_alike, sound_taken}
use Rattle.moment_theory.proofs.Turns.{DoAlike}
use Rattle.first_failure.specs.declared.least.EquationFailing.{EquationFailing}
use Rattle.first_failure.specs.Turns.{FailsAmong, IsLeast}
use Rattle.first_failure.proofs.Single.{one_told}
use Rattle.first_failure.proofs.Turning.{member_front, member_back}
use Rattle.moment_join.specs.Staged.{AreTold}
use Rattle.moment_join.specs.Told.{earlier, earliest}
use Rattle.moment_join.proofs.Fronts.{reached_or}
use Rattle.moment_join.proofs.Joined.{pure_alike, piece_alike}
use Rattle.moment_join.proofs.Least.{same_least, earlier_least}
use Rattle.moment_moves.specs.Moments.{IsFirstSite, IsRunMoment}
use Rattle.run_ahead.specs.Ahead.{IsAloneBefore}
use Rattle.site_risings.specs.declared.answers.SiteFailing.{SiteFailing}
use Rattle.share_join.specs.Shares.{Share, own_uses, all_pieces, all_waiting}
use Rattle.share_join.specs.Taking.{AreRunBeside, AreStages}
use Rattle.share_join.proofs.Apart.{waiting_of, order, waiting_free, site_early, needs_apart}
use Rattle.share_join.proofs.Members.{member_either}
use Rattle.share_join.proofs.Pairs.{Pairs, pairs_of, pair_at, pair_back, pairs_append}
use Rattle.share_join.proofs.Places.{at_map, of_one, piece_uses, free_joined, joined_append, piece_in_all}
use Rattle.share_join.proofs.Rows.{stays, in_uses, took, has, own_last, mid_rest, mid_sound, owned, owned_is, owns, owns_at, row_sound}
use Rattle.share_join.proofs.Waiting.{gathered, gathered_clear, clear_waiting, waiting_used, mid, reach_all, mid_clear, waiting_taken, staged}

-- ---- members of lists of uses

-- the uses of one list are of another
abbrev Within : List Use → List Use → Type 0
Within xs ys = (entry : Use) → IsMember entry xs → IsMember entry ys

crossed : (a b c d : List Use) → Within ((a ++ b) ++ (c ++ d)) ((a ++ c) ++ (b ++ d))
crossed a b c d entry member = elim (member_either (a ++ b) (c ++ d) entry member) [
  | inl front ↦ elim (member_either a b entry front) [
    | inl here ↦ member_front (a ++ c) (b ++ d) entry (member_front a c entry here)
    | inr here ↦ member_back (a ++ c) (b ++ d) entry (member_front b d entry here)
  ]
  | inr back ↦ elim (member_either c d entry back) [
    | inl here ↦ member_front (a ++ c) (b ++ d) entry (member_back a c entry here)
    | inr here ↦ member_back (a ++ c) (b ++ d) entry (member_back b d entry here)
  ]
]

-- ---- the least that fails over one row

module _ (s : Setting) (uses : List Use) (U : Assignment) (m : ℕ) (last : Row) where
  abbrev LeastOver : List Use → Option EquationFailing → Type 0
  LeastOver entries told = IsLeast (FailsAmong s uses U m entries last) told

  fails_within : (xs ys : List Use) → Within xs ys → (i : ℕ) (kind : Fail) → FailsAmong s uses U m xs last i kind → FailsAmong s uses U m ys last i kind
  fails_within xs ys within i kind (entry, used, at, fails) = (entry, member_contains entry ys (within entry (contains_member entry xs used)), at, fails)

  least_moved : (xs ys : List Use) (told : Option EquationFailing) → Within xs ys → Within ys xs → LeastOver xs told → LeastOver ys told
  least_moved xs ys told forth back = same_least (FailsAmong s uses U m xs last) (FailsAmong s uses U m ys last) told (fails_within xs ys forth) (fails_within ys xs back)

  least_none : LeastOver [] None
  least_none i kind (entry, used, at, fails) = contains_member entry [] used

  least_both : (xs ys : List Use) (a b : Option EquationFailing) → LeastOver xs a → LeastOver ys b → LeastOver (xs ++ ys) (earlier a b)
  least_both xs ys a b one two = same_least (λ i kind. FailsAmong s uses U m xs last i kind ⊎ FailsAmong s uses U m ys last i kind) (FailsAmong s uses U m (xs ++ ys) last) (earlier a b) forth back
      (earlier_least (FailsAmong s uses U m xs last) (FailsAmong s uses U m ys last) a b one two)
    where
      forth : (i : ℕ) (kind : Fail) → FailsAmong s uses U m xs last i kind ⊎ FailsAmong s uses U m ys last i kind → FailsAmong s uses U m (xs ++ ys) last i kind
      forth i kind (inl f) = fails_within xs (xs ++ ys) (λ e h. member_front xs ys e h) i kind f
      forth i kind (inr f) = fails_within ys (xs ++ ys) (λ e h. member_back xs ys e h) i kind f

      back : (i : ℕ) (kind : Fail) → FailsAmong s uses U m (xs ++ ys) last i kind → FailsAmong s uses U m xs last i kind ⊎ FailsAmong s uses U m ys last i kind
      back i kind (entry, used, at, fails) = elim (member_either xs ys entry (contains_member entry (xs ++ ys) used)) [
        | inl own ↦ inl (entry, member_contains entry xs own, at, fails)
        | inr other ↦ inr (entry, member_contains entry ys other, at, fails)
      ]

  least_each : (ps : List (List Use)) (ts : List (Option EquationFailing)) → Pairs LeastOver ps ts → LeastOver (joined ps) (earliest ts)
  least_each [] [] pairs = least_none
  least_each [] (t ∷ ts) pairs = absurd pairs
  least_each (p ∷ ps) [] pairs = absurd pairs
  least_each (p ∷ ps) (t ∷ ts) (own, rest) = least_both p (joined ps) t (earliest ts) own (least_each ps ts rest)

  fails_moved : (entry : Use) (a b : Row) → DoesAlike s uses U m entry a b → (i : ℕ) (kind : Fail) → entry.equation ≡ i → EquationFails s (with_row U m a) uses m i kind → EquationFails s (with_row U m b) uses m i kind
  fails_moved entry a b alike i kind at fails =
      subst (λ j. EquationFails s (with_row U m b) uses m j kind) at (alike.fails kind (subst (λ j. EquationFails s (with_row U m a) uses m j kind) (sym at) fails))

  -- uses that do alike over another row tell the same of it
  least_alike : (entries : List Use) (other : Row) (told : Option EquationFailing) → ((entry : Use) → Contains entries entry → DoAlike s uses U m entry other last) → IsLeast (FailsAmong s uses U m entries other) told → LeastOver entries told
  least_alike entries other told alike = same_least (FailsAmong s uses U m entries other) (FailsAmong s uses U m entries last) told
      (λ i kind (entry, used, at, fails). (entry, used, at, fails_moved entry other last (alike entry used).0 i kind at fails))
      (λ i kind (entry, used, at, fails). (entry, used, at, fails_moved entry last other (alike entry used).1 i kind at fails))

module _ (s : Setting) (uses pure : List Use) (shares : List Share) (U : Assignment) (m : ℕ) (inputs base : Row) (lasts : ℕ → Row) (last : Row)
    (first : Option EquationFailing) (tolds : List (Option EquationFailing)) (run : AreRunBeside s uses pure shares U m inputs base lasts last first tolds) where
  abbrev pieces : List (List Use)
  pieces = all_pieces shares

  abbrev waiting : List Use
  waiting = all_waiting shares

  abbrev rows : ℕ → Row
  rows = owns s uses pure shares U m inputs base lasts last first tolds run

  abbrev all_row : Row
  all_row = gathered s uses pure shares U m inputs base lasts last first tolds run

  abbrev Over : List Use → Option EquationFailing → Type 0
  Over = LeastOver s uses U m last

  -- a piece over its own row
  abbrev Own : List Use → Option EquationFailing → Type 0
  Own piece told = IsLeast (FailsAmong s uses U m piece (owned s uses pure shares U m inputs base lasts last first tolds run piece)) told

  last_sound : IsSound s (with_row U m last) m
  last_sound = sound_taken s uses run.shares_are.staged.ordered.runs run.shares_are.staged.ordered.uses_are.uses_are U m waiting all_row last
      (λ entry own. in_uses s uses pure shares U m inputs base lasts last first tolds run entry (member_contains entry (order s uses pure shares run.shares_are)
      (member_back pure (joined pieces ++ waiting) entry (member_back (joined pieces) waiting entry (contains_member entry waiting own)))))
      (waiting_free s uses pure shares run.shares_are)
      (λ y reached. gathered_clear s uses pure shares U m inputs base lasts last first tolds run y reached ∙ clear_waiting s uses pure shares U m inputs base lasts last first tolds run y reached)
      (row_sound s uses pure shares U m inputs base lasts last first tolds run) (waiting_taken s uses pure shares U m inputs base lasts last first tolds run)

  -- ---- a waiting use over the share's row and over the joined one

  module _ (i : ℕ) (share : Share) (found : slice_get shares i ≡ Some share) where
    abbrev before : Row
    before = mid s uses pure shares U m inputs base lasts last first tolds run i share found

    reach : (y : ℕ) → IsReachedBy y share.waiting → IsReachedBy y waiting
    reach = reach_all s uses pure shares U m inputs base lasts last first tolds run i share found

    used : (entry : Use) → Contains share.waiting entry → Contains uses entry
    used entry own = waiting_used s uses pure shares U m inputs base lasts last first tolds run i share found entry (contains_member entry share.waiting own)

    own_sound : IsSound s (with_row U m (lasts i)) m
    own_sound = sound_taken s uses run.shares_are.staged.ordered.runs run.shares_are.staged.ordered.uses_are.uses_are U m share.waiting before (lasts i) used
        (free_joined s (map waiting_of shares) (waiting_free s uses pure shares run.shares_are) i share.waiting (at_map waiting_of shares i share found))
        (λ y reached. mid_clear s uses pure shares U m inputs base lasts last first tolds run i share found y reached ∙ clear_waiting s uses pure shares U m inputs base lasts last first tolds run y (reach y reached))
        (mid_sound s uses pure shares U m inputs base lasts last first tolds run i share found) (has s uses pure shares U m inputs base lasts last first tolds run i share found).waited

    module _ (entry : Use) (own : Contains share.waiting entry) where
      waits : WaitsForNoOwn s entry
      waits class asks reads = site_early s uses pure shares run.shares_are class entry.name reads
          (reached_second (joined pieces) waiting entry.name (reach entry.name (reached_member share.waiting entry (contains_member entry share.waiting own))))

      no_other : (y : ℕ) → Needs s entry y → (IsReachedBy y (own_uses share) → ⊥) → IsReachedBy y (joined (map own_uses shares)) → ⊥
      no_other y needs none reached =
          let (j, other, there, of) = of_one own_uses shares y reached in elim (cases_eq i j) [
            | inl same ↦ none (subst (λ h. IsReachedBy y (own_uses h)) (same_Some other share (sym there ∙ ap (slice_get shares) (sym same) ∙ found)) of)
            | inr apart ↦ needs_apart s uses pure shares run.shares_are i j share other apart found there entry y own (inr needs) of
          ]

      agree : AgreeOnNeeds s entry (lasts i) last
      agree y needs = by_own (reached_or (own_uses share) y)
        where
          by_own : IsReachedBy y (own_uses share) ⊎ (IsReachedBy y (own_uses share) → ⊥) → lasts i y ≡ last y
          by_own (inl reached) = sym (own_last s uses pure shares U m inputs base lasts last first tolds run i share found y reached)
          by_own (inr none) =
              stays s uses pure shares U m inputs base lasts last first tolds run share.waiting before (lasts i) (has s uses pure shares U m inputs base lasts last first tolds run i share found).waited y
              (λ late. none (reached_second (piece_uses share) share.waiting y late))
              ∙ mid_rest s uses pure shares U m inputs base lasts last first tolds run i share found y (λ early. none (reached_first (piece_uses share) share.waiting y early))
              ∙ sym (run.joins.rest y (no_other y needs none))

      waiting_alike : DoAlike s uses U m entry (lasts i) last
      waiting_alike = (
        does_alike s uses run.shares_are.staged.ordered.runs run.shares_are.staged.ordered.uses_are.uses_are U m entry (used entry own) waits (lasts i) last own_sound agree,
        does_alike s uses run.shares_are.staged.ordered.runs run.shares_are.staged.ordered.uses_are.uses_are U m entry (used entry own) waits last (lasts i) last_sound (λ y needs. sym (agree y needs)),
      )

  -- ---- what a share tells, over the joined row

  record Tells (share : Share) (told : Option EquationFailing) : Type 0 where
    pub each : List (Option EquationFailing)
    pub behind : Option EquationFailing
    pub own : Pairs Own share.pieces each
    pub over : Pairs Over share.pieces each
    pub waits : Over share.waiting behind
    pub told_is : told ≡ earliest (behind ∷ each)

  share_tells : (i : ℕ) (share : Share) (found : slice_get shares i ≡ Some share) → Tells share (took s uses pure shares U m inputs base lasts last first tolds run i share found).0
  share_tells i share found =
      let had = has s uses pure shares U m inputs base lasts last first tolds run i share found in record {
        each = had.each;
        behind = had.behind;
        own = pairs_of Own share.pieces had.each (λ j piece at. let (failing, there, least) = had.each_told j piece at in (failing, there, own_least j piece at failing least)) had.no_more;
        over = pairs_of Over share.pieces had.each (λ j piece at. let (failing, there, least) = had.each_told j piece at in (failing, there, over_least j piece at failing least)) had.no_more;
        waits = least_alike s uses U m last share.waiting (lasts i) had.behind (waiting_alike i share found) had.behind_told;
        told_is = had.told_is;
      }
    where
      own_least : (j : ℕ) (piece : List Use) → slice_get share.pieces j ≡ Some piece → (failing : Option EquationFailing)
          → IsLeast (FailsAmong s uses U m piece ((has s uses pure shares U m inputs base lasts last first tolds run i share found).owns j)) failing → Own piece failing
      own_least j piece at failing least = subst (λ r. IsLeast (FailsAmong s uses U m piece r) failing) (owned_is s uses pure shares U m inputs base lasts last first tolds run i share found j piece at) least

      over_least : (j : ℕ) (piece : List Use) → slice_get share.pieces j ≡ Some piece → (failing : Option EquationFailing)
          → IsLeast (FailsAmong s uses U m piece ((has s uses pure shares U m inputs base lasts last first tolds run i share found).owns j)) failing → Over piece failing
      over_least j piece at failing least =
          let (k, there) = piece_in_all shares i j share piece found at in
          least_alike s uses U m last piece (rows k) failing
          (piece_alike s uses pure pieces waiting run.shares_are.staged U m inputs base rows all_row last (staged s uses pure shares U m inputs base lasts last first tolds run) k piece there)
          (subst (λ r. IsLeast (FailsAmong s uses U m piece r) failing) (sym (owns_at s uses pure shares U m inputs base lasts last first tolds run k piece there)) (own_least j piece at failing least))

  -- ---- what all tell

  record AllTell (some : List Share) (all_told : List (Option EquationFailing)) : Type 0 where
    pub each : List (Option EquationFailing)
    pub behind : Option EquationFailing
    pub own : Pairs Own (all_pieces some) each
    pub over : Pairs Over (all_pieces some) each
    pub waits : Over (all_waiting some) behind
    pub all : Over (all_waiting some ++ joined (all_pieces some)) (earliest all_told)

  all_tell : (some : List Share) (all_told : List (Option EquationFailing)) → Pairs Tells some all_told → AllTell some all_told
  all_tell [] [] pairs = record {
    each = [];
    behind = None;
    own = tt;
    over = tt;
    waits = least_none s uses U m last;
    all = least_none s uses U m last;
  }
  all_tell [] (t ∷ ts) pairs = absurd pairs
  all_tell (share ∷ some) [] pairs = absurd pairs
  all_tell (share ∷ some) (t ∷ ts) (tells, pairs) =
      let rest = all_tell some ts pairs in
      let own : Over (share.waiting ++ joined share.pieces) t = subst (Over (share.waiting ++ joined share.pieces)) (sym tells.told_is)
      (least_both s uses U m last share.waiting (joined share.pieces) tells.behind (earliest tells.each) tells.waits (least_each s uses U m last share.pieces tells.each tells.over)) in record {
        each = tells.each ++ rest.each;
        behind = earlier tells.behind rest.behind;
        own = pairs_append Own share.pieces tells.each (all_pieces some) rest.each tells.own rest.own;
        over = pairs_append Over share.pieces tells.each (all_pieces some) rest.each tells.over rest.over;
        waits = least_both s uses U m last share.waiting (all_waiting some) tells.behind rest.behind tells.waits rest.waits;
        all = subst (λ us. Over ((share.waiting ++ all_waiting some) ++ us) (earlier t (earliest ts))) (sym (joined_append share.pieces (all_pieces some)))
            (least_moved s uses U m last ((share.waiting ++ joined share.pieces) ++ (all_waiting some ++ joined (all_pieces some))) ((share.waiting ++ all_waiting some) ++ (joined share.pieces ++ joined (all_pieces some))) (earlier t (earliest ts))
            (crossed share.waiting (joined share.pieces) (all_waiting some) (joined (all_pieces some))) (crossed share.waiting (all_waiting some) (joined share.pieces) (joined (all_pieces some)))
            (least_both s uses U m last (share.waiting ++ joined share.pieces) (all_waiting some ++ joined (all_pieces some)) t (earliest ts) own rest.all));
      }

  all : AllTell shares tolds
  all = all_tell shares tolds (pairs_of Tells shares tolds (λ i share found. let (told, at, had) = took s uses pure shares U m inputs base lasts last first tolds run i share found in (told, at, share_tells i share found)) run.have_taken.no_more)

  pure_least : Over pure first
  pure_least = least_alike s uses U m last pure base first
      (λ entry own. pure_alike s uses pure pieces waiting run.shares_are.staged U m inputs base rows all_row last (staged s uses pure shares U m inputs base lasts last first tolds run) entry (contains_member entry pure own)) run.first_told

  tells_all : AreTold s uses U m pure pieces waiting base rows last first all.each all.behind
  tells_all = record {
    first_told = run.first_told;
    each_told = λ k piece found.
        let (failing, at, least) = pair_at Own pieces all.each all.own k piece found in
        (failing, at, subst (λ r. IsLeast (FailsAmong s uses U m piece r) failing) (sym (owns_at s uses pure shares U m inputs base lasts last first tolds run k piece found)) least);
    no_more = pair_back Own pieces all.each all.own;
    behind_told = all.waits;
  }

  told_same : earliest (first ∷ tolds) ≡ earliest (first ∷ (all.behind ∷ all.each))
  told_same =
      let entries = waiting ++ joined pieces in
      one_told s uses run.shares_are.staged.ordered.uses_are.uses_are U m (pure ++ entries) last (earliest (first ∷ tolds)) (earliest (first ∷ (all.behind ∷ all.each)))
      (least_both s uses U m last pure entries first (earliest tolds) pure_least all.all)
      (least_both s uses U m last pure entries first (earlier all.behind (earliest all.each)) pure_least
      (least_both s uses U m last waiting (joined pieces) all.behind (earliest all.each) all.waits (least_each s uses U m last pieces all.each all.over)))

  pub stages : AreStages s uses pure shares U m inputs base last first tolds
  stages = record {
    owns = rows;
    row = all_row;
    each = all.each;
    behind = all.behind;
    staged = staged s uses pure shares U m inputs base lasts last first tolds run;
    tells = tells_all;
    told_same = told_same;
  }

  pub run_moment : IsAloneBefore s U m → (at : Moment) → moment_at s.instants m ≡ Some at → (site : Option SiteFailing) → IsFirstSite s (with_row U m base) m site
      → IsRunMoment s uses pure pieces waiting U m at base last site (earliest (first ∷ tolds))
  run_moment alone at here site site_told = record {
    stages = run.shares_are.staged;
    reach = run.shares_are.reach;
    alone = alone;
    here = here;
    inputs = inputs;
    owns = stages.owns;
    row = stages.row;
    staged = stages.staged;
    first = first;
    each = stages.each;
    behind = stages.behind;
    tells = stages.tells;
    told_is = stages.told_same;
    site_told = site_told;
  }
