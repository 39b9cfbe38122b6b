-- What the lists of gathered names hold.
use Rattle.std.proofs.Common.{◌≡◌, refl, ap, sym, subst, ◌∙◌, ◌↔◌, ◌⊎◌, inl, inr, ℕ, zero, suc, ◌+◌, ◌<◌, ◌≤◌, ◌==◌, Bool, true, cond, List, [], ◌∷◌, ◌++◌, length, take, get_or, map, Option, Some, slice_get, arith, add-one}
use Rattle.std.specs.List.{Contains}
use Rattle.std.specs.List.{AllPairs}
use Rattle.std.proofs.lemmas.Bool.{cases_eq, eq-eqb, ne_eqb}
use Rattle.std.proofs.lemmas.List.{get_or_append_left, get_or_past}
use Rattle.std.proofs.lemmas.Option.{same_Some, slice_get_cases, slice_get_within}
use Rattle.std.proofs.Math.Seq.{get_or-append_seam}
use Rattle.std.proofs.lemmas.List.Elements.{Contains-push, Contains-push_cases, Contains-append_left, filter_passes}
use Rattle.std.proofs.lemmas.List.Kept.{AllPairs-from_increasing}
use Rattle.flat_model.specs.declared.clock.Clocking.{Clocking}
use Rattle.flat_model.specs.declared.equation.Equation.{Equation}
use Rattle.flat_model.specs.declared.equation.Equation.TheVariants.{Valued, Clocks}
use Rattle.flat_model.specs.declared.expression.Expr.{Expr}
use Rattle.flat_model.specs.declared.model.FlatModel.{FlatModel}
use Rattle.flat_model.specs.Occurrences.{bare_count, held_count, converted_count}
use Rattle.flat_model.specs.Setting.{Setting, class_of_name, class_of_equation, flattened}
use Rattle.flat_model.specs.Uses.{ClassesMeet, EquationReads}
use Rattle.eq_orient.specs.Gathered.{count_of}
use Rattle.eq_order.specs.private.Reaching.{is_waiting, waiting, list_at}
use Rattle.eq_order.specs.private.Tables.{ReadsBy, IsRow, AreReads, is_known}
use Rattle.eq_order.proofs.Ties.{no_member, in_waiting, from_waiting, own_of, unreached_by, start_flags}
use Rattle.eq_order.proofs.Turns.{count_cons}

-- a number stands in a list where it is counted
pub is_counted : (x : ℕ) (xs : List ℕ) → Contains xs x → 0 < count_of x xs
is_counted x [] found = absurd (no_member x found)
is_counted x (z ∷ zs) (zero, within, is) =
    let c : cond (z == x) 1 0 ≡ 1 = ap {B = ℕ} (λ b. cond b 1 0) (eq-eqb z x is) in omega (arith, c, count_cons (λ y. y == x) z zs)
is_counted x (z ∷ zs) (suc k, within, is) =
    let some = is_counted x zs (k, omega (arith, within), is) in omega (arith, some, count_cons (λ y. y == x) z zs)

pub is_there : (x : ℕ) (xs : List ℕ) → 0 < count_of x xs → Contains xs x
is_there x [] some = absurd (omega (arith, some))
is_there x (z ∷ zs) some = elim (cases_eq z x) [
  | inl same ↦ (0, omega arith, same)
  | inr other ↦
      let c : cond (z == x) 1 0 ≡ 0 = ap {B = ℕ} (λ b. cond b 1 0) (ne_eqb z x other) in
      let (k, within, is) = is_there x zs (omega (arith, some, c, count_cons (λ y. y == x) z zs)) in
      (suc k, omega (arith, within), is)
]

pub take_cases : (xs : List ℕ) (n x : ℕ) → n < length xs → Contains (take (suc n) xs) x → Contains (take n xs) x ⊎ (get_or xs n 0 ≡ x)
take_cases [] n x within found = absurd (omega (arith, within))
take_cases (z ∷ zs) n x within (zero, inside, is) = at_first n
  where
    at_first : (n : ℕ) → Contains (take n (z ∷ zs)) x ⊎ (get_or (z ∷ zs) n 0 ≡ x)
    at_first zero = inr is
    at_first (suc n) = inl (0, omega arith, is)
take_cases (z ∷ zs) zero x within (suc k, inside, is) = absurd (omega (arith, inside))
take_cases (z ∷ zs) (suc n) x within (suc k, inside, is) = elim (take_cases zs n x (omega (arith, within)) (k, omega (arith, inside), is)) [
  | inl (j, there, same) ↦ inl (suc j, omega (arith, there), same)
  | inr last ↦ inr last
]

pub take_old : (xs : List ℕ) (n x : ℕ) → Contains (take n xs) x → Contains (take (suc n) xs) x
take_old [] zero x found = found
take_old [] (suc n) x found = found
take_old (z ∷ zs) zero x (k, inside, is) = absurd (omega (arith, inside))
take_old (z ∷ zs) (suc n) x (zero, inside, is) = (0, omega arith, is)
take_old (z ∷ zs) (suc n) x (suc k, inside, is) = let (j, there, same) = take_old zs n x (k, omega (arith, inside), is) in (suc j, omega (arith, there), same)

pub take_new : (xs : List ℕ) (n : ℕ) → n < length xs → Contains (take (suc n) xs) (get_or xs n 0)
take_new [] n within = absurd (omega (arith, within))
take_new (z ∷ zs) zero within = (0, omega arith, refl)
take_new (z ∷ zs) (suc n) within = let (j, there, same) = take_new zs n (omega (arith, within)) in (suc j, omega (arith, there), same)

module _ (old converted : List ℕ) (reached : List Bool) (Meets : ℕ → Type 0) where
  -- the names after the first n of those that are converted
  abbrev pub AreAdded : ℕ → List ℕ → Type 0
  AreAdded n names = (x : ℕ) → Contains names x ↔ (Contains old x ⊎ (Contains (take n converted) x × (is_waiting reached x ≡ true) × Meets x))

  pub added_none : AreAdded 0 old
  added_none x = (λ found. inl found, λ found. elim found [ inl here ↦ here | inr added ↦ absurd (no_member x added.0) ])

  pub added_skip : (n : ℕ) (names : List ℕ) → n < length converted → (is_waiting reached (get_or converted n 0) ≡ true → Meets (get_or converted n 0) → ⊥)
      → AreAdded n names → AreAdded (n + 1) names
  added_skip n names within never are = subst (λ m. AreAdded m names) (sym (add-one n)) (λ x. (
    λ found. elim ((are x).0 found) [ inl here ↦ inl here | inr added ↦ inr (take_old converted n x added.0, added.1, added.2) ],
    λ found. elim found [
      | inl here ↦ (are x).1 (inl here)
      | inr added ↦ elim (take_cases converted n x within added.0) [
        | inl before ↦ (are x).1 (inr (before, added.1, added.2))
        | inr last ↦ absurd (never (subst (λ y. is_waiting reached y ≡ true) (sym last) added.1) (subst Meets (sym last) added.2))
      ]
    ],
  ))

  pub added_push : (n : ℕ) (names new : List ℕ) → n < length converted → is_waiting reached (get_or converted n 0) ≡ true → Meets (get_or converted n 0)
      → new ≡ names ++ get_or converted n 0 ∷ [] → AreAdded n names → AreAdded (n + 1) new
  added_push n names new within waits meets is are = subst (λ all. AreAdded (n + 1) all) (sym is) (subst (λ m. AreAdded m (names ++ get_or converted n 0 ∷ [])) (sym (add-one n)) (λ x. (
    λ found. elim (Contains-push_cases names (get_or converted n 0) x found) [
      | inl before ↦ elim ((are x).0 before) [ inl here ↦ inl here | inr added ↦ inr (take_old converted n x added.0, added.1, added.2) ]
      | inr last ↦ inr (subst (Contains (take (suc n) converted)) last (take_new converted n within), subst (λ y. is_waiting reached y ≡ true) last waits, subst Meets last meets)
    ],
    λ found. elim found [
      | inl here ↦ Contains-append_left names (get_or converted n 0 ∷ []) x ((are x).1 (inl here))
      | inr added ↦ elim (take_cases converted n x within added.0) [
        | inl before ↦ Contains-append_left names (get_or converted n 0 ∷ []) x ((are x).1 (inr (before, added.1, added.2)))
        | inr last ↦ subst (Contains (names ++ get_or converted n 0 ∷ [])) last (Contains-push names (get_or converted n 0))
      ]
    ],
  )))

-- what stands on the two sides, as what each side reads
sides : (bl br hl hr cl cr : ℕ) (M : Type 0) → ((0 < bl + br + hl + hr) ⊎ ((0 < cl + cr) × M))
    ↔ (((0 < bl) ⊎ (0 < hl) ⊎ ((0 < cl) × M)) ⊎ ((0 < br) ⊎ (0 < hr) ⊎ ((0 < cr) × M)))
sides bl br hl hr cl cr M = (
  λ some. elim some [
    | inl plain ↦ from_plain bl br hl hr plain
    | inr (c, m) ↦ elim (positive cl) [
      | inl l ↦ inl (inr (inr (l, m)))
      | inr none ↦ inr (inr (inr (omega (arith, none, c), m)))
    ]
  ],
  λ some. elim some [
    | inl l ↦ elim l [ inl b ↦ inl (omega (arith, b)) | inr rest ↦ elim rest [ inl h ↦ inl (omega (arith, h)) | inr (c, m) ↦ inr (omega (arith, c), m) ] ]
    | inr r ↦ elim r [ inl b ↦ inl (omega (arith, b)) | inr rest ↦ elim rest [ inl h ↦ inl (omega (arith, h)) | inr (c, m) ↦ inr (omega (arith, c), m) ] ]
  ],
)
  where
    positive : (n : ℕ) → (0 < n) ⊎ (n ≡ 0)
    positive zero = inr refl
    positive (suc n) = inl (omega arith)

    from_plain : (a b c d : ℕ) → 0 < a + b + c + d → ((0 < a) ⊎ (0 < c) ⊎ ((0 < cl) × M)) ⊎ ((0 < b) ⊎ (0 < d) ⊎ ((0 < cr) × M))
    from_plain (suc a) b c d some = inl (inl (omega arith))
    from_plain zero (suc b) c d some = inr (inl (omega arith))
    from_plain zero zero (suc c) d some = inl (inr (inl (omega arith)))
    from_plain zero zero zero (suc d) some = inr (inr (inl (omega arith)))
    from_plain zero zero zero zero some = absurd (omega (arith, some))

-- the row of an equation between values, from the lists that were gathered
pub row_reads : (s : Setting) (class : Option ℕ) (left right : Expr) (reached : List Bool) (gathered converted plain added names : List ℕ) (x : ℕ)
    → count_of x gathered ≡ converted_count x left + converted_count x right → Contains converted x ↔ Contains gathered x
    → count_of x plain ≡ bare_count x left + bare_count x right + held_count x left + held_count x right
    → Contains added x ↔ (Contains plain x ⊎ (Contains converted x × (is_waiting reached x ≡ true) × ClassesMeet s class (class_of_name s x)))
    → Contains names x ↔ Contains added x
    → Contains (waiting reached names) x ↔ ((is_waiting reached x ≡ true) × (ReadsBy s class left x ⊎ ReadsBy s class right x))
row_reads s class left right reached gathered converted plain added names x counted same number are also = (
  λ found.
      let waits = passes reached names x found in (
        waits,
        both.0 (elim (are.0 (also.0 (from_waiting reached names x found))) [
          | inl p ↦ let some = is_counted x plain p in inl (omega (arith, some, number))
          | inr (c, w, m) ↦ let some = is_counted x gathered (same.0 c) in inr (omega (arith, some, counted), m)
        ]),
      ),
  λ (waits, reads). in_waiting reached names x (also.1 (are.1 (elim (both.1 reads) [
    | inl p ↦ inl (is_there x plain (omega (arith, p, number)))
    | inr (c, m) ↦ inr (same.1 (is_there x gathered (omega (arith, c, counted))), waits, m)
  ]))) waits,
)
  where
    both : ((0 < bare_count x left + bare_count x right + held_count x left + held_count x right) ⊎ ((0 < converted_count x left + converted_count x right) × ClassesMeet s class (class_of_name s x)))
        ↔ (ReadsBy s class left x ⊎ ReadsBy s class right x)
    both = sides (bare_count x left) (bare_count x right) (held_count x left) (held_count x right) (converted_count x left) (converted_count x right) (ClassesMeet s class (class_of_name s x))

    passes : (reached : List Bool) (names : List ℕ) (x : ℕ) → Contains (waiting reached names) x → is_waiting reached x ≡ true
    passes reached names x (k, within, is) = ap (is_waiting reached) (sym is) ∙ filter_passes (is_waiting reached) names k x within

-- the rows of the first i equations
abbrev pub AreRows : Clocking → List Bool → List Equation → ℕ → List (List ℕ) → Type 0
AreRows clocking known equations i lists = (j : ℕ) (equation : Equation) → j < i → slice_get equations j ≡ Some equation
    → IsRow clocking known (flattened (slice_get clocking.of_equation j)) equation (list_at lists j)

pub rows_push : (clocking : Clocking) (known : List Bool) (equations : List Equation) (i : ℕ) (before new : List (List ℕ)) (row : List ℕ) (own : Equation) (class : Option ℕ)
    → length before ≡ i → new ≡ before ++ row ∷ [] → slice_get equations i ≡ Some own → class ≡ flattened (slice_get clocking.of_equation i)
    → IsRow clocking known class own row → AreRows clocking known equations i before → AreRows clocking known equations (i + 1) new
rows_push clocking known equations i before new row own class size is found class_is is_row rows j equation below at = elim (cases_eq j i) [
  | inl same ↦
      let e : own ≡ equation = same_Some own equation (sym found ∙ (ap (λ k. slice_get equations k) (sym same) ∙ at)) in
      let here : row ≡ list_at new j = sym (get_or-append_seam before row [] []) ∙ (ap (λ k. get_or (before ++ row ∷ []) k []) (size ∙ sym same) ∙ ap (λ all. get_or all j []) (sym is)) in
      subst (λ list. IsRow clocking known (flattened (slice_get clocking.of_equation j)) equation list) here
      (subst (λ z. IsRow clocking known (flattened (slice_get clocking.of_equation j)) z row) e
      (subst (λ k. IsRow clocking known (flattened (slice_get clocking.of_equation k)) own row) (sym same)
      (subst (λ o. IsRow clocking known o own row) class_is is_row)))
  | inr other ↦
      let less : j < i = omega (arith, below, other) in
      let there : list_at before j ≡ list_at new j = sym (get_or_append_left before (row ∷ []) [] j (omega (arith, less, size))) ∙ ap (λ all. get_or all j []) (sym is) in
      subst (λ list. IsRow clocking known (flattened (slice_get clocking.of_equation j)) equation list) there (rows j equation less at)
]

later_pairs : (z : ℕ) (zs : List ℕ) → AllPairs (λ a b. a < b) (z ∷ zs) → AllPairs (λ a b. a < b) zs
later_pairs z zs pairs i j d below within = pairs (suc i) (suc j) d (omega (arith, below)) (omega (arith, within))

none_or_some : (n : ℕ) → (n ≡ 0) ⊎ (0 < n)
none_or_some zero = inl refl
none_or_some (suc n) = inr (omega arith)

once_in : (x : ℕ) (xs : List ℕ) → AllPairs (λ a b. a < b) xs → count_of x xs ≤ 1
once_in x [] pairs = omega arith
once_in x (z ∷ zs) pairs =
    let one = count_cons (λ y. y == x) z zs in
    elim (cases_eq z x) [
      | inl same ↦
          let c : cond (z == x) 1 0 ≡ 1 = ap {B = ℕ} (λ b. cond b 1 0) (eq-eqb z x same) in
          elim (none_or_some (count_of x zs)) [
            | inl none ↦ omega (arith, one, c, none)
            | inr some ↦
                let (k, within, is) = is_there x zs some in
                let above : z < get_or zs k x = pairs 0 (suc k) x (omega arith) (omega (arith, within)) in
                absurd (omega (arith, above, is, same))
          ]
      | inr other ↦
          let c : cond (z == x) 1 0 ≡ 0 = ap {B = ℕ} (λ b. cond b 1 0) (ne_eqb z x other) in
          omega (arith, one, c, once_in x zs (later_pairs z zs pairs))
    ]

module _ (s : Setting) (known : List Bool) (lists : List (List ℕ)) (are : known ≡ map is_known s.model.names) (size : length lists ≡ length s.model.equations)
    (rows : (j : ℕ) (equation : Equation) → slice_get s.model.equations j ≡ Some equation → IsRow s.clocking known (class_of_equation s j) equation (list_at lists j)) where
  row_at : (i : ℕ) (equation : Equation) (row : List ℕ) → IsRow s.clocking known (class_of_equation s i) equation row → (x : ℕ)
      → Contains row x ↔ ((is_waiting known x ≡ true) × EquationReads s i equation x)
  row_at i (Valued left right clause) row is x = is.1 s refl x
  row_at i (Clocks left right clause) row is x = (λ found. absurd (no_member x (subst (λ all. Contains all x) is found)), λ none. absurd none.1)

  row_once : (i : ℕ) (equation : Equation) (row : List ℕ) → IsRow s.clocking known (class_of_equation s i) equation row → (x : ℕ) → count_of x row ≤ 1
  row_once i (Valued left right clause) row is x = once_in x row (AllPairs-from_increasing row is.0)
  row_once i (Clocks left right clause) row is x = subst (λ all. count_of x all ≤ 1) (sym is) (omega arith)

  -- an equation is there, or its list is empty
  equation_at : (i : ℕ) → ((equation : Equation) × (slice_get s.model.equations i ≡ Some equation)) ⊎ (list_at lists i ≡ [])
  equation_at i = elim (slice_get_cases s.model.equations i).1 [
    | inl (equation, within, is, same) ↦ inl (equation, is)
    | inr (past, none) ↦ inr (get_or_past lists i [] (omega (arith, past, size)))
  ]

  are_reads : AreReads s lists
  are_reads = record {
    sound = λ i x found. elim (equation_at i) [
      | inl (equation, is) ↦
          let (waits, reads) = (row_at i equation (list_at lists i) (rows i equation is) x).0 found in
          ((equation, is, reads), own_of s [] x ((start_flags s known are x).0 waits))
      | inr empty ↦ absurd (no_member x (subst (λ all. Contains all x) empty found))
    ];
    whole = λ i x reads own.
        (row_at i reads.0 (list_at lists i) (rows i reads.0 reads.1) x).1 ((start_flags s known are x).1 (unreached_by s [] x own (no_member x)), reads.2);
    once = λ i x. elim (equation_at i) [
      | inl (equation, is) ↦ row_once i equation (list_at lists i) (rows i equation is) x
      | inr empty ↦ subst (λ all. count_of x all ≤ 1) (sym empty) (omega arith)
    ];
  }

-- the rows of all equations are what a model with these equations and this clocking reads
pub reads_of_rows : (flat : FlatModel) (clocking : Clocking) (known : List Bool) (lists : List (List ℕ)) → known ≡ map is_known flat.names → length lists ≡ length flat.equations
    → AreRows clocking known flat.equations (length flat.equations) lists → (s : Setting) → s.model ≡ flat → s.clocking ≡ clocking → AreReads s lists
reads_of_rows flat clocking known lists are size rows s model clocks = are_reads s known lists
    (are ∙ ap (λ m. map is_known m.names) (sym model)) (size ∙ ap (λ m. length m.equations) (sym model))
    (λ j equation at. subst (λ k. IsRow k known (flattened (slice_get k.of_equation j)) equation (list_at lists j)) (sym clocks)
    (let found : slice_get flat.equations j ≡ Some equation = ap (λ m. slice_get m.equations j) (sym model) ∙ at in rows j equation (slice_get_within flat.equations j equation found) found))
