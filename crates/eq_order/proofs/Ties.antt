-- The uses that the lists give are those of the model.
use Rattle.std.proofs.Common.{◌≡◌, ◌≢◌, ◌⊎◌, inl, inr, refl, sym, ap, subst, ◌∙◌, ℕ, zero, suc, ◌<◌, ◌≤◌, ◌==◌, Bool, true, false, cond, List, [], ◌∷◌, ◌++◌, length, take, map, get_or, set, Option, Some, None, slice_get, arith, append_assoc, append-nil, not, ◌||◌}
use Rattle.std.proofs.lemmas.Bool.{cases_eq, cases_Bool, eq-eqb, ne_eqb}
use Rattle.std.proofs.lemmas.Option.{same_Some}
use Rattle.std.proofs.lemmas.List.Elements.{Contains-push, Contains-push_cases, Contains-append_left}
use Rattle.std.specs.List.{Contains}
use Rattle.flat_model.specs.declared.equation.Equation.{Equation}
use Rattle.flat_model.specs.declared.model.FlatName.{FlatName}
use Rattle.flat_model.specs.declared.model.NameKind.{NameKind}
use Rattle.flat_model.specs.declared.model.NameKind.TheVariants as kind
use Rattle.flat_model.specs.Setting.{Setting}
use Rattle.flat_model.specs.Uses as model
use Rattle.flat_model.specs.Uses.{EquationReads, Reads, IsSolvableFor, IsUnreached, CanReach, IsNextUse, AreUsesAfter, reached_names, used_equations}
use Rattle.eq_order.specs.declared.uses.Use.{Use}
use Rattle.eq_order.specs.Order.{IsOwn, use_of, HaveSpines}
use Rattle.eq_orient.specs.Gathered.{count_of}
use Rattle.eq_order.specs.private.Reaching.{is_waiting, waiting, list_at, CanTake, AreTaken, flags_after}
use Rattle.eq_order.specs.private.Tables.{AreReads, AreFlags, AreDone, HaveEnded, is_known, is_clock_kind}
use Rattle.eq_order.proofs.Turns.{waits, reached_now, others_stay, has_flag, count_cons}

pub no_member : (x : ℕ) → Contains [] x → ⊥
no_member x (k, within, is) = omega (arith, within)

-- an element of a filtered list stands in the list, and passes
pub in_waiting : (reached : List Bool) (names : List ℕ) (y : ℕ) → Contains names y → is_waiting reached y ≡ true → Contains (waiting reached names) y
in_waiting reached [] y found passes = absurd (no_member y found)
in_waiting reached (z ∷ zs) y (zero, within, is) passes =
    rw (ap (is_waiting reached) is ∙ passes) (0, omega arith, is)
in_waiting reached (z ∷ zs) y (suc k, within, is) passes =
    let rest = in_waiting reached zs y (k, omega (arith, within), is) passes in
    elim (cases_Bool (is_waiting reached z)) [
      | inl passing ↦ rw passing (suc rest.0, omega (arith, rest.1), rest.2)
      | inr never ↦ rw never rest
    ]

onto : (z : ℕ) (zs : List ℕ) (y : ℕ) → Contains zs y → Contains (z ∷ zs) y
onto z zs y (k, within, is) = (suc k, omega (arith, within), is)

past_first : (z : ℕ) (zs : List ℕ) (y : ℕ) → Contains (z ∷ zs) y → (z ≡ y) ⊎ Contains zs y
past_first z zs y (zero, within, is) = inl is
past_first z zs y (suc k, within, is) = inr (k, omega (arith, within), is)

pub from_waiting : (reached : List Bool) (names : List ℕ) (y : ℕ) → Contains (waiting reached names) y → Contains names y
from_waiting reached [] y found = found
from_waiting reached (z ∷ zs) y found = go (is_waiting reached z) refl (from_waiting reached zs y)
  where
    go : (b : Bool) → is_waiting reached z ≡ b → (Contains (waiting reached zs) y → Contains zs y) → Contains (z ∷ zs) y
    go true e rest = elim (past_first z (waiting reached zs) y (subst (λ b. Contains (cond b (z ∷ waiting reached zs) (waiting reached zs)) y) e found)) [
      | inl here ↦ (0, omega arith, here)
      | inr later ↦ onto z zs y (rest later)
    ]
    go false e rest = onto z zs y (rest (subst (λ b. Contains (cond b (z ∷ waiting reached zs) (waiting reached zs)) y) e found))

nothing_waits : (reached : List Bool) (names : List ℕ) → ((y : ℕ) → Contains names y → is_waiting reached y ≡ true → ⊥) → waiting reached names ≡ []
nothing_waits reached [] none = refl
nothing_waits reached (z ∷ zs) none = elim (cases_Bool (is_waiting reached z)) [
  | inl passing ↦ absurd (none z (0, omega arith, refl) passing)
  | inr never ↦ rw never (nothing_waits reached zs (λ y found. none y (onto z zs y found)))
]

has_none : (x : ℕ) (zs : List ℕ) → count_of x zs ≡ 0 → Contains zs x → ⊥
has_none x [] none found = no_member x found
has_none x (z ∷ zs) none found =
    let one = count_cons (λ y. y == x) z zs in
    elim (past_first z zs x found) [
      | inl here ↦ let c : cond (z == x) 1 0 ≡ 1 = ap {B = ℕ} (λ b. cond b 1 0) (eq-eqb z x here) in omega (arith, one, none, c)
      | inr later ↦ has_none x zs (omega (arith, one, none)) later
    ]

later_one : (z : ℕ) (zs : List ℕ) (x : ℕ) → Contains (z ∷ zs) x → (z ≡ x → ⊥) → Contains zs x
later_one z zs x found other = elim (past_first z zs x found) [
  | inl here ↦ absurd (other here)
  | inr there ↦ there
]

-- a list with x once, of which nothing else is waited for
pub alone_in : (reached : List Bool) (x : ℕ) (names : List ℕ) → Contains names x → is_waiting reached x ≡ true
    → ((y : ℕ) → Contains names y → is_waiting reached y ≡ true → y ≡ x) → count_of x names ≤ 1 → waiting reached names ≡ x ∷ []
alone_in reached x [] found passes only once = absurd (no_member x found)
alone_in reached x (z ∷ zs) found passes only once =
    let one = count_cons (λ y. y == x) z zs in
    elim (cases_eq z x) [
      | inl same ↦
          let c : cond (z == x) 1 0 ≡ 1 = ap {B = ℕ} (λ b. cond b 1 0) (eq-eqb z x same) in
          let none : count_of x zs ≡ 0 = omega (arith, one, once, c) in
          let rest = nothing_waits reached zs (λ y there waited. has_none x zs none (subst (Contains zs) (only y (onto z zs y there) waited) there)) in
          rw (ap (is_waiting reached) same ∙ passes) (ap (λ ys. z ∷ ys) rest ∙ ap (λ y. y ∷ []) same)
      | inr other ↦
          let c : cond (z == x) 1 0 ≡ 0 = ap {B = ℕ} (λ b. cond b 1 0) (ne_eqb z x other) in
          let fewer : count_of x zs ≤ 1 = omega (arith, one, once, c) in
          let later : Contains zs x = later_one z zs x found other in
          elim (cases_Bool (is_waiting reached z)) [
            | inl passing ↦ let first : Contains (z ∷ zs) z = (0, omega arith, refl) in absurd (other (only z first passing))
            | inr never ↦ rw never (alone_in reached x zs later passes (λ y there. only y (onto z zs y there)) fewer)
          ]
    ]

pub own_of : (s : Setting) (uses : List model.Use) (x : ℕ) → IsUnreached s uses x → IsOwn s x
own_of s uses x unreached = (unreached.name, unreached.found, unreached.valued, unreached.own)

pub unreached_by : (s : Setting) (uses : List model.Use) (x : ℕ) → IsOwn s x → (Contains (reached_names uses) x → ⊥) → IsUnreached s uses x
unreached_by s uses x own never = record { name = own.0; found = own.1; valued = own.2; own = own.3; later = never }

one_only : (x y : ℕ) → Contains (x ∷ []) y → y ≡ x
one_only x y found = elim (past_first x [] y found) [
  | inl here ↦ sym here
  | inr there ↦ absurd (no_member y there)
]

module _ (s : Setting) (reads : List (List ℕ)) (are : AreReads s reads) where
  pub to_reach : (reached : List Bool) (uses : List model.Use) → AreFlags s reached uses → AreDone s uses → (i x : ℕ)
      → CanTake s.model.equations reads reached i x → CanReach s uses i x
  to_reach reached uses flags done i x take =
      let waited = waits reached (list_at reads i) x take.0 in
      let stands = from_waiting reached (list_at reads i) x (subst (λ ys. Contains ys x) (sym take.0) (0, omega arith, refl)) in
      let (reading, own) = are.sound i x stands in
      let unreached = (flags x).0 waited in
      let same : reading.0 ≡ take.1.0 = same_Some reading.0 take.1.0 (sym reading.1 ∙ take.1.1) in
      record {
        equation = take.1.0;
        found = take.1.1;
        unused = λ used. done i x used reading unreached;
        reads = subst (λ e. EquationReads s i e x) same reading.2;
        unreached = unreached;
        only = λ y read missing.
            let own_y = own_of s uses y missing in
            one_only x y (subst (λ ys. Contains ys y) take.0 (in_waiting reached (list_at reads i) y (are.whole i y (take.1.0, take.1.1, read) own_y) ((flags y).1 missing)));
        solvable = take.1.2;
      }

  pub from_reach : (reached : List Bool) (uses : List model.Use) → AreFlags s reached uses → (i x : ℕ)
      → CanReach s uses i x → CanTake s.model.equations reads reached i x
  from_reach reached uses flags i x reach =
      let own = own_of s uses x reach.unreached in (
        alone_in reached x (list_at reads i) (are.whole i x (reach.equation, reach.found, reach.reads) own) ((flags x).1 reach.unreached)
            (λ y there waited.
            let (reading, own_y) = are.sound i y there in
            let same : reading.0 ≡ reach.equation = same_Some reading.0 reach.equation (sym reading.1 ∙ reach.found) in
            reach.only y (subst (λ e. EquationReads s i e y) same reading.2) ((flags y).0 waited))
            (are.once i x),
        (reach.equation, reach.found, reach.solvable),
      )

  names_push : (uses : List model.Use) (entry : model.Use) → reached_names (uses ++ entry ∷ []) ≡ reached_names uses ++ entry.name ∷ []
  names_push [] entry = refl
  names_push (first ∷ rest) entry = ap (λ xs. first.name ∷ xs) (names_push rest entry)

  equations_push : (uses : List model.Use) (entry : model.Use) → used_equations (uses ++ entry ∷ []) ≡ used_equations uses ++ entry.equation ∷ []
  equations_push [] entry = refl
  equations_push (first ∷ rest) entry = ap (λ xs. first.equation ∷ xs) (equations_push rest entry)

  flags_more : (reached : List Bool) (uses : List model.Use) (entry : model.Use) → entry.name < length reached → AreFlags s reached uses
      → AreFlags s (set reached entry.name true) (uses ++ entry ∷ [])
  flags_more reached uses entry within flags x = (
    λ waited. elim (cases_eq x entry.name) [
      | inl same ↦ absurd (cc (waited, ap (is_waiting (set reached entry.name true)) same ∙ reached_now reached entry.name within))
      | inr other ↦
          let before = (flags x).0 (sym (others_stay reached entry.name x other) ∙ waited) in
          unreached_by s (uses ++ entry ∷ []) x (own_of s uses x before) (λ found. elim (Contains-push_cases (reached_names uses) entry.name x (subst (λ ys. Contains ys x) (names_push uses entry) found)) [
            | inl there ↦ before.later there
            | inr same ↦ other (sym same)
          ])
    ],
    λ missing. elim (cases_eq x entry.name) [
      | inl same ↦ absurd (missing.later (subst (λ ys. Contains ys x) (sym (names_push uses entry)) (subst (Contains (reached_names uses ++ entry.name ∷ [])) (sym same) (Contains-push (reached_names uses) entry.name))))
      | inr other ↦ others_stay reached entry.name x other ∙ (flags x).1 (unreached_by s uses x (own_of s (uses ++ entry ∷ []) x missing)
          (λ before. missing.later (subst (λ ys. Contains ys x) (sym (names_push uses entry)) (Contains-append_left (reached_names uses) (entry.name ∷ []) x before))))
    ],
  )

  done_more : (uses : List model.Use) (entry : model.Use) → CanReach s uses entry.equation entry.name → AreDone s uses → AreDone s (uses ++ entry ∷ [])
  done_more uses entry reach done i x used reading missing =
      let before : IsUnreached s uses x = unreached_by s uses x (own_of s (uses ++ entry ∷ []) x missing)
      (λ found. missing.later (subst (λ ys. Contains ys x) (sym (names_push uses entry)) (Contains-append_left (reached_names uses) (entry.name ∷ []) x found))) in
      elim (Contains-push_cases (used_equations uses) entry.equation i (subst (λ ys. Contains ys i) (equations_push uses entry) used)) [
        | inl earlier ↦ done i x earlier reading before
        | inr same ↦
            let here : Reads s entry.equation x = subst (λ j. Reads s j x) (sym same) reading in
            let equal : here.0 ≡ reach.equation = same_Some here.0 reach.equation (sym here.1 ∙ reach.found) in
            let named = reach.only x (subst (λ e. EquationReads s entry.equation e x) equal here.2) before in
            missing.later (subst (λ ys. Contains ys x) (sym (names_push uses entry)) (subst (Contains (reached_names uses ++ entry.name ∷ [])) (sym named) (Contains-push (reached_names uses) entry.name)))
      ]

  -- what is taken are the uses of the model
  pub uses_are : (reached : List Bool) (uses : List model.Use) (rest : List Use) → AreFlags s reached uses → AreDone s uses
      → AreTaken s.model.equations reads reached rest → AreUsesAfter s uses (map use_of rest)
  uses_are reached uses [] flags done taken = λ i x reach. taken i x (from_reach reached uses flags i x reach)
  uses_are reached uses (entry ∷ rest) flags done taken =
      let reach = to_reach reached uses flags done entry.equation entry.name taken.0.takes in
      let within = has_flag reached entry.name (waits reached (list_at reads entry.equation) entry.name taken.0.takes.0) in (
        record { reaches = reach; first = λ j y below other. taken.0.first j y below (from_reach reached uses flags j y other) },
        uses_are (set reached entry.name true) (uses ++ use_of entry ∷ []) rest (flags_more reached uses (use_of entry) within flags) (done_more uses (use_of entry) reach done) taken.1,
      )

  -- the state in which the uses end
  pub uses_end : (reached : List Bool) (uses : List model.Use) (rest : List Use) → AreFlags s reached uses → AreDone s uses
      → AreTaken s.model.equations reads reached rest → HaveEnded s (flags_after reached rest) (uses ++ map use_of rest)
  uses_end reached uses [] flags done taken = subst (HaveEnded s reached) (sym (append-nil uses))
      (record { flags = flags; done = done; ended = λ i x reach. taken i x (from_reach reached uses flags i x reach) })
  uses_end reached uses (entry ∷ rest) flags done taken =
      let reach = to_reach reached uses flags done entry.equation entry.name taken.0.takes in
      let within = has_flag reached entry.name (waits reached (list_at reads entry.equation) entry.name taken.0.takes.0) in
      subst (HaveEnded s (flags_after (set reached entry.name true) rest)) (append_assoc uses (use_of entry ∷ []) (map use_of rest))
      (uses_end (set reached entry.name true) (uses ++ use_of entry ∷ []) rest (flags_more reached uses (use_of entry) within flags) (done_more uses (use_of entry) reach done) taken.1)

-- each use that is taken has its side
pub have_spines : (equations : List Equation) (reads : List (List ℕ)) (reached : List Bool) (rest : List Use) → AreTaken equations reads reached rest → HaveSpines equations rest
have_spines equations reads reached [] taken = tt
have_spines equations reads reached (entry ∷ rest) taken = (taken.0.spine, have_spines equations reads (set reached entry.name true) rest taken.1)

known_at : (names : List FlatName) (x : ℕ) (name : FlatName) → slice_get names x ≡ Some name → get_or (map is_known names) x true ≡ is_known name
known_at [] x name found = cc
known_at (first ∷ rest) zero name found = ap is_known (same_Some first name found)
known_at (first ∷ rest) (suc x) name found = known_at rest x name found

known_past : (names : List FlatName) (x : ℕ) → slice_get names x ≡ None → get_or (map is_known names) x true ≡ true
known_past [] x none = refl
known_past (first ∷ rest) zero none = cc
known_past (first ∷ rest) (suc x) none = known_past rest x none

no_clock : (k : NameKind) → k ≢ kind.Clock → is_clock_kind k ≡ false
no_clock kind.Integer other = refl
no_clock kind.Boolean other = refl
no_clock kind.Clock other = absurd (other refl)

or_false : (a b : Bool) → a || b ≡ false → (a ≡ false) × (b ≡ false)
or_false true b e = cc
or_false false b e = (refl, e)

clock_known : (k : NameKind) → is_clock_kind k ≡ false → k ≡ kind.Clock → ⊥
clock_known k e is = cc (e, ap is_clock_kind is)

not_false : (b : Bool) → not b ≡ true → b ≡ false
not_false true e = cc
not_false false e = refl

-- the names that need no equation are flagged from the start
pub start_flags : (s : Setting) (known : List Bool) → known ≡ map is_known s.model.names → AreFlags s known []
start_flags s known are x = (forth (slice_get s.model.names x) refl, back)
  where
    forth : (o : Option FlatName) → slice_get s.model.names x ≡ o → is_waiting known x ≡ true → IsUnreached s [] x
    forth None is waited = cc (waited, ap (λ k. is_waiting k x) are, ap not (known_past s.model.names x is))
    forth (Some name) is waited =
        let free = or_false name.input (is_clock_kind name.kind)
        (sym (known_at s.model.names x name is) ∙ not_false (get_or (map is_known s.model.names) x true) (sym (ap (λ k. is_waiting k x) are) ∙ waited)) in
        unreached_by s [] x (name, is, clock_known name.kind free.1, free.0) (no_member x)

    back : IsUnreached s [] x → is_waiting known x ≡ true
    back missing =
        let never : is_known missing.name ≡ false = rw (missing.own, no_clock missing.name.kind missing.valued) refl in
        ap (λ k. is_waiting k x) are ∙ ap not (known_at s.model.names x missing.name missing.found ∙ never)

pub nothing_done : (s : Setting) → AreDone s []
nothing_done s i x used reading missing = no_member i used
