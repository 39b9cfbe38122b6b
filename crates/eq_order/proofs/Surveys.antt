-- What the counts of unreached names tell where the uses have ended.
use Rattle.std.proofs.Common.{◌≡◌, refl, ap, sym, subst, ◌∙◌, inl, inr, ℕ, zero, suc, ◌<◌, ◌==◌, Bool, true, false, not, cond, List, [], ◌∷◌, length, get_or, map, count_by, Some, Err, slice_get, arith}
use Rattle.std.specs.List.{Contains}
use Rattle.std.proofs.lemmas.Bool.{cases_Bool, cases_lt, ne_eqb}
use Rattle.std.proofs.lemmas.Option.{same_Some, slice_get_within}
use Rattle.std.proofs.lemmas.List.{get_or_past}
use Rattle.std.proofs.lemmas.List.Sums.{length-filter}
use Rattle.flat_model.specs.declared.equation.Equation.{Equation}
use Rattle.flat_model.specs.declared.equation.Equation.TheVariants.{Valued, Clocks}
use Rattle.flat_model.specs.declared.model.FlatName.{FlatName}
use Rattle.flat_model.specs.Setting.{Setting}
use Rattle.flat_model.specs.Uses as model
use Rattle.flat_model.specs.Uses.{EquationReads, Reads, IsUnreached, used_equations}
use Rattle.eq_order.specs.declared.uses.Use.{Use}
use Rattle.eq_order.specs.declared.ends.OrderCode.TheVariants.{Q2}
use Rattle.eq_order.specs.declared.ends.OrderEnd.{OrderEnd}
use Rattle.eq_order.specs.declared.ends.OrderEnd.TheVariants.{Fault, NoMemory}
use Rattle.eq_order.specs.Order.{Breaks, IsLeast, AreAll, IsUnused, ReadsUnreached, IsStuck, AreTooFew, use_of}
use Rattle.eq_order.specs.private.Reaching.{is_waiting, waiting, list_at, waiting_count}
use Rattle.eq_order.specs.private.Tables.{AreReads, HaveEnded, count_below, is_idle, IsIdle, IsAtName, EndsAs}
use Rattle.eq_order.proofs.Listed.{one_list}
use Rattle.eq_order.proofs.Passing.{passing, passing_length, all_passing, none_below, some_below}
use Rattle.eq_order.proofs.Ties.{no_member, in_waiting, alone_in, own_of}
use Rattle.eq_order.proofs.Turns.{count_cons, counts_one, has_flag}

some_member : (xs : List ℕ) (x : ℕ) → Contains xs x → 0 < length xs
some_member xs x (k, within, is) = omega (arith, within)

-- one of some names that are counted
some_waits : (reached : List Bool) (names : List ℕ) → 0 < count_by (is_waiting reached) names → (x : ℕ) × Contains names x × (is_waiting reached x ≡ true)
some_waits reached [] some = absurd (omega (arith, some))
some_waits reached (z ∷ zs) some = elim (cases_Bool (is_waiting reached z)) [
  | inl passing ↦ (z, (0, omega arith, refl), passing)
  | inr never ↦
      let c : cond (is_waiting reached z) 1 0 ≡ 0 = ap {B = ℕ} (λ b. cond b 1 0) never in
      let (x, (k, within, is), waits) = some_waits reached zs (omega (arith, some, c, count_cons (is_waiting reached) z zs)) in
      (x, (suc k, omega (arith, within), is), waits)
]

counts_some : (reached : List Bool) (names : List ℕ) (x : ℕ) → Contains names x → is_waiting reached x ≡ true → 0 < count_by (is_waiting reached) names
counts_some reached names x found waits =
    let some = some_member (waiting reached names) x (in_waiting reached names x found waits) in
    omega (arith, some, length-filter (is_waiting reached) names)

single : (xs : List ℕ) (x y : ℕ) → length xs ≡ 1 → Contains xs x → Contains xs y → y ≡ x
single [] x y size found also = absurd (no_member x found)
single (z ∷ []) x y size (zero, within, is) (zero, inside, same) = sym same ∙ is
single (z ∷ []) x y size (suc k, within, is) also = absurd (omega (arith, within))
single (z ∷ []) x y size (zero, within, is) (suc k, inside, same) = absurd (omega (arith, inside))
single (z ∷ (w ∷ rest)) x y size found also = absurd (omega (arith, size))

only_one : (reached : List Bool) (names : List ℕ) (x y : ℕ) → count_by (is_waiting reached) names ≡ 1 → Contains names x → is_waiting reached x ≡ true
    → Contains names y → is_waiting reached y ≡ true → y ≡ x
only_one reached names x y one found waits also waited =
    single (waiting reached names) x y (length-filter (is_waiting reached) names ∙ one) (in_waiting reached names x found waits) (in_waiting reached names y also waited)

-- an equation that waits for a name has a list
pub in_table : (reads : List (List ℕ)) (reached : List Bool) (i : ℕ) → 0 < waiting_count reads reached i → i < length reads
in_table reads reached i some = elim (cases_lt i (length reads)) [
  | inl inside ↦ inside
  | inr past ↦ let none : waiting_count reads reached i ≡ 0 = ap (count_by (is_waiting reached)) (get_or_past reads i [] past) in absurd (omega (arith, some, none))
]

-- the test of an equation that waits for a name
abbrev pub is_reader : List (List ℕ) → List Bool → ℕ → Bool
is_reader reads reached i = not (waiting_count reads reached i == 0)

not_zero : (n : ℕ) → not (n == 0) ≡ true → 0 < n
not_zero zero e = cc
not_zero (suc n) e = omega arith

pub zero_not : (n : ℕ) → 0 < n → not (n == 0) ≡ true
zero_not n some = ap not (ne_eqb n 0 (λ e. omega (arith, some, e)))

module _ (s : Setting) (reads : List (List ℕ)) (reached : List Bool) (uses : List model.Use) (are : AreReads s reads) (end : HaveEnded s reached uses) where
  reader_reads : (i : ℕ) → 0 < waiting_count reads reached i → ReadsUnreached s uses i
  reader_reads i some = let (x, there, waits) = some_waits reached (list_at reads i) some in (x, (are.sound i x there).0, (end.flags x).0 waits)

  reads_count : (i : ℕ) → ReadsUnreached s uses i → 0 < waiting_count reads reached i
  reads_count i (x, reading, missing) = counts_some reached (list_at reads i) x (are.whole i x reading (own_of s uses x missing)) ((end.flags x).1 missing)

  one_stuck : (i : ℕ) → waiting_count reads reached i ≡ 1 → IsStuck s uses i
  one_stuck i one =
      let (x, there, waits) = some_waits reached (list_at reads i) (omega (arith, one)) in
      let reading = (are.sound i x there).0 in
      let missing = (end.flags x).0 waits in
      let only : (y : ℕ) → EquationReads s i reading.0 y → IsUnreached s uses y → y ≡ x = λ y read other.
      only_one reached (list_at reads i) x y one there waits (are.whole i y (reading.0, reading.1, read) (own_of s uses y other)) ((end.flags y).1 other) in
      record {
        equation = reading.0;
        found = reading.1;
        name = x;
        reads = reading.2;
        unreached = missing;
        only = only;
        unsolvable = λ solvable. end.ended i x (record {
          equation = reading.0;
          found = reading.1;
          unused = λ used. end.done i x used reading missing;
          reads = reading.2;
          unreached = missing;
          only = only;
          solvable = solvable;
        });
      }

  stuck_one : (i : ℕ) → IsStuck s uses i → waiting_count reads reached i ≡ 1
  stuck_one i stuck = counts_one reached (list_at reads i) stuck.name
      (alone_in reached stuck.name (list_at reads i) (are.whole i stuck.name (stuck.equation, stuck.found, stuck.reads) (own_of s uses stuck.name stuck.unreached)) ((end.flags stuck.name).1 stuck.unreached)
      (λ y there waited.
      let reading = (are.sound i y there).0 in
      let same : reading.0 ≡ stuck.equation = same_Some reading.0 stuck.equation (sym reading.1 ∙ stuck.found) in
      stuck.only y (subst (λ e. EquationReads s i e y) same reading.2) ((end.flags y).0 waited))
      (are.once i stuck.name))

  all_names : AreAll (IsUnreached s uses) (passing (is_waiting reached) (length reached))
  all_names = all_passing (IsUnreached s uses) (is_waiting reached) (length reached)
      (λ x missing. let waits = (end.flags x).1 missing in (has_flag reached x waits, waits)) (λ x waits. (end.flags x).0 waits)

  all_readers : AreAll (ReadsUnreached s uses) (passing (is_reader reads reached) (length reads))
  all_readers = all_passing (ReadsUnreached s uses) (is_reader reads reached) (length reads)
      (λ i reading. let some = reads_count i reading in (in_table reads reached i some, zero_not (waiting_count reads reached i) some))
      (λ i test. reader_reads i (not_zero (waiting_count reads reached i) test))

  abbrev Fewer : Type 0
  Fewer = count_below (is_reader reads reached) (length reads) < count_below (is_waiting reached) (length reached)

  pub too_few : Fewer → AreTooFew s uses
  too_few fewer = (
    passing (is_waiting reached) (length reached),
    passing (is_reader reads reached) (length reads),
    all_names,
    all_readers,
    omega (arith, fewer, passing_length (is_waiting reached) (length reached), passing_length (is_reader reads reached) (length reads)),
  )

  pub enough : (Fewer → ⊥) → AreTooFew s uses → ⊥
  enough not_fewer (names, equations, an, ae, less) =
      let n : names ≡ passing (is_waiting reached) (length reached) = one_list (IsUnreached s uses) names (passing (is_waiting reached) (length reached)) an all_names in
      let e : equations ≡ passing (is_reader reads reached) (length reads) = one_list (ReadsUnreached s uses) equations (passing (is_reader reads reached) (length reads)) ae all_readers in
      not_fewer (omega (arith, less, ap length n, ap length e, passing_length (is_waiting reached) (length reached), passing_length (is_reader reads reached) (length reads)))

  pub least_stuck : (i : ℕ) → IsLeast (λ j. waiting_count reads reached j ≡ 1) i → IsLeast (IsStuck s uses) i
  least_stuck i least = record { holds = one_stuck i least.holds; least = λ j below stuck. least.least j below (stuck_one j stuck) }

  pub none_stuck : ((i : ℕ) → waiting_count reads reached i ≡ 1 → ⊥) → (i : ℕ) → IsStuck s uses i → ⊥
  none_stuck none i stuck = none i (stuck_one i stuck)

  pub least_reader : (i : ℕ) → IsLeast (λ j. 0 < waiting_count reads reached j) i → IsLeast (ReadsUnreached s uses) i
  least_reader i least = record { holds = reader_reads i least.holds; least = λ j below reading. least.least j below (reads_count j reading) }

  pub least_name : (x : ℕ) → IsLeast (λ y. is_waiting reached y ≡ true) x → IsLeast (IsUnreached s uses) x
  least_name x least = record { holds = (end.flags x).0 least.holds; least = λ y below missing. least.least y below ((end.flags y).1 missing) }

  pub none_missing : ((x : ℕ) → is_waiting reached x ≡ true → ⊥) → (x : ℕ) → IsUnreached s uses x → ⊥
  none_missing none x missing = none x ((end.flags x).1 missing)

-- where a name is unreached and no equation reads one, the names outnumber the equations
pub must_be_fewer : (reads : List (List ℕ)) (reached : List Bool) (x : ℕ) → is_waiting reached x ≡ true → ((i : ℕ) → 0 < waiting_count reads reached i → ⊥)
    → count_below (is_reader reads reached) (length reads) < count_below (is_waiting reached) (length reached)
must_be_fewer reads reached x waits none =
    let no_reader : count_below (is_reader reads reached) (length reads) ≡ 0 = none_below (is_reader reads reached) (length reads) (λ i. is_none (waiting_count reads reached i) (none i)) in
    let some = some_below (is_waiting reached) (length reached) x (has_flag reached x waits) waits in
    omega (arith, no_reader, some)
  where
    is_none : (n : ℕ) → (0 < n → ⊥) → not (n == 0) ≡ false
    is_none zero never = refl
    is_none (suc n) never = absurd (never (omega arith))

used_are : (uses : List Use) → used_equations (map use_of uses) ≡ map (λ entry. entry.equation) uses
used_are [] = refl
used_are (first ∷ rest) = ap (λ xs. first.equation ∷ xs) (used_are rest)

module _ (s : Setting) (uses : List Use) (used : List Bool)
    (are : (j : ℕ) → j < length s.model.equations → (get_or used j true ≡ true → Contains (map (λ entry. entry.equation) uses) j) × (Contains (map (λ entry. entry.equation) uses) j → get_or used j true ≡ true)) where
  -- an equation without its flag is an unused one
  idle_unused : (i : ℕ) (equation : Equation) → slice_get s.model.equations i ≡ Some equation → is_idle equation used i ≡ true → IsUnused s (map use_of uses) i
  idle_unused i (Valued left right clause) found idle = (
    left,
    right,
    clause,
    found,
    λ taken.
        let flag = (are i (slice_get_within s.model.equations i (Valued left right clause) found)).1 (subst (λ xs. Contains xs i) (used_are uses) taken) in
        clash (get_or used i true) idle flag,
  )
    where
      clash : (b : Bool) → not b ≡ true → b ≡ true → ⊥
      clash true e f = cc
      clash false e f = cc
  idle_unused i (Clocks left right clause) found idle = cc

  unused_idle : (i : ℕ) → IsUnused s (map use_of uses) i → IsIdle s.model.equations used i
  unused_idle i (left, right, clause, found, free) = (
    Valued left right clause,
    found,
    never (get_or used i true) (λ flag. free (subst (λ xs. Contains xs i) (sym (used_are uses)) ((are i (slice_get_within s.model.equations i (Valued left right clause) found)).0 flag))),
  )
    where
      never : (b : Bool) → (b ≡ true → ⊥) → not b ≡ true
      never true no_flag = absurd (no_flag refl)
      never false no_flag = refl

  pub least_unused : (i : ℕ) → IsLeast (IsIdle s.model.equations used) i → IsLeast (IsUnused s (map use_of uses)) i
  least_unused i least = record {
    holds = idle_unused i least.holds.0 least.holds.1 least.holds.2;
    least = λ j below free. least.least j below (unused_idle j free);
  }

  pub none_unused : ((i : ℕ) → IsIdle s.model.equations used i → ⊥) → (i : ℕ) → IsUnused s (map use_of uses) i → ⊥
  none_unused none i free = none i (unused_idle i free)

-- the end at the first unreached name
pub ends_at_name : (s : Setting) (uses : List model.Use) (names : List FlatName) (x : ℕ) (end : OrderEnd) → names ≡ s.model.names → IsAtName names x end
    → ((i : ℕ) → IsStuck s uses i → ⊥) → AreTooFew s uses → IsLeast (IsUnreached s uses) x → EndsAs s uses (Err end)
ends_at_name s uses names x (Fault code at) same is none few least =
    subst (λ c. Breaks s uses c at) (sym is.2) (subst (λ p. Breaks s uses Q2 p) (sym is.3)
    (none, few, (x, is.0, least, ap (λ all. slice_get all x) (sym same) ∙ is.1, refl)))
ends_at_name s uses names x NoMemory same is none few least = tt
