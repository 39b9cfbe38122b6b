-- What is found equation by equation is the answer of the definition.
use Rattle.std.proofs.Common.{◌≡◌, refl, ap, ap₂, ◌∙◌, sym, subst, ℕ, ◌<◌, List, [], ◌∷◌, map, Option, Some, None, Result, Ok, Err, option_map}
use Rattle.std.specs.Prelude.{slice_get, IsErr, IsErrAnd}
use Rattle.std.specs.Option.{option_and_then}
use Rattle.std.proofs.lemmas.Option.{slice_get-map, slice_get_within}
use Rattle.flat_model.specs.declared.equation.Equation.{Equation}
use Rattle.flat_model.specs.declared.model.FlatModel.{FlatModel}
use Rattle.flat_model.specs.declared.model.FlatName.{FlatName}
use Rattle.flat_model.specs.declared.raw.RawEq.{RawEq}
use Rattle.flat_model.specs.declared.raw.RawExpr.{RawExpr}
use Rattle.flat_model.specs.declared.raw.RawModel.{RawModel}
use Rattle.flat_model.specs.RawModels.{AreClausesUsed}
use Rattle.flat_types.specs.declared.ends.TypeCode.{TypeCode}
use Rattle.flat_types.specs.declared.ends.TypeEnd.{TypeEnd}
use Rattle.flat_types.specs.declared.ends.TypeEnd.TheVariants.{Fault, NoMemory}
use Rattle.flat_types.specs.Typed.{clause_clock, equation_of, code_of, IsFirstOf, Breaks, clock, own, IsTypedAs, Answers}
use Rattle.flat_types.specs.private.Checked.{Clocks, clause_code, behind_clause, checked, AreChecked, AreClocks}

module _ (raw : RawModel) where
  abbrev clocks : Clocks
  clocks = map (clause_clock raw.names) raw.clauses

  abbrev Found : RawEq → Result Equation TypeCode
  Found equation = checked raw.names clocks equation

  clock_at : (k : ℕ) (clause : RawExpr) → slice_get raw.clauses k ≡ Some clause → slice_get clocks k ≡ Some (clause_clock raw.names clause)
  clock_at k clause is = slice_get-map (clause_clock raw.names) raw.clauses k ∙ ap (option_map (clause_clock raw.names)) is

  -- the clause of an equation breaks this rule
  code_at : (equation : RawEq) (k : ℕ) (clause : RawExpr) → equation.clause ≡ Some k → slice_get raw.clauses k ≡ Some clause
      → clause_code clocks equation.clause ≡ code_of (clause_clock raw.names clause)
  code_at equation k clause is found = ap (clause_code clocks) is ∙ ap (option_and_then code_of) (clock_at k clause found)

  clause_there : (k : ℕ) (code : TypeCode) → option_and_then code_of (slice_get clocks k) ≡ Some code
      → (clause : RawExpr) × (slice_get raw.clauses k ≡ Some clause) × (code_of (clause_clock raw.names clause) ≡ Some code)
  clause_there k code e = by_clause (slice_get raw.clauses k) refl (ap (option_and_then code_of) (sym (slice_get-map (clause_clock raw.names) raw.clauses k)) ∙ e)
    where
      by_clause : (o : Option RawExpr) → slice_get raw.clauses k ≡ o → option_and_then code_of (option_map (clause_clock raw.names) (slice_get raw.clauses k)) ≡ Some code
          → (clause : RawExpr) × (slice_get raw.clauses k ≡ Some clause) × (code_of (clause_clock raw.names clause) ≡ Some code)
      by_clause (Some clause) is h = (clause, is, ap (λ o. option_and_then code_of (option_map (clause_clock raw.names) o)) (sym is) ∙ h)
      by_clause None is h = let e : None ≡ Some code = ap (λ o. option_and_then code_of (option_map (clause_clock raw.names) o)) (sym is) ∙ h in absurd (cc e)

  clause_of_code : (equation : RawEq) (code : TypeCode) → clause_code clocks equation.clause ≡ Some code
      → (k : ℕ) × (clause : RawExpr) × (equation.clause ≡ Some k) × (slice_get raw.clauses k ≡ Some clause) × (code_of (clause_clock raw.names clause) ≡ Some code)
  clause_of_code equation code e = by_number equation.clause refl
    where
      by_number : (o : Option ℕ) → equation.clause ≡ o
          → (k : ℕ) × (clause : RawExpr) × (equation.clause ≡ Some k) × (slice_get raw.clauses k ≡ Some clause) × (code_of (clause_clock raw.names clause) ≡ Some code)
      by_number (Some k) is = let found = clause_there k code (ap (clause_code clocks) (sym is) ∙ e) in (k, found.0, is, found.1, found.2)
      by_number None is = let h : None ≡ Some code = ap (clause_code clocks) (sym is) ∙ e in absurd (cc h)

  behind_some : (equation : RawEq) (code : TypeCode) → clause_code clocks equation.clause ≡ Some code → Found equation ≡ Err code
  behind_some equation code e = ap (λ o. behind_clause o (equation_of raw.names equation)) e

  behind_none : (equation : RawEq) → clause_code clocks equation.clause ≡ None → Found equation ≡ equation_of raw.names equation
  behind_none equation e = ap (λ o. behind_clause o (equation_of raw.names equation)) e

  abbrev NoneBefore : ℕ → Type 0
  NoneBefore i = (j : ℕ) (equation : RawEq) (other : TypeCode) → j < i → slice_get raw.equations j ≡ Some equation → Found equation ≡ Err other → ⊥

  -- what breaks a rule is found to
  broken_found : (j : ℕ) (code : TypeCode) → Breaks raw j code → (equation : RawEq) × (other : TypeCode) × (slice_get raw.equations j ≡ Some equation) × (Found equation ≡ Err other)
  broken_found j code (clock equation k clause same is first found e) = (equation, same, is, behind_some equation same (code_at equation k clause first.clause found ∙ e))
  broken_found j code (own equation same is quiet e) = by_code (clause_code clocks equation.clause) refl
    where
      by_result : (r : Result Equation TypeCode) → equation_of raw.names equation ≡ r → code_of r ≡ Some same → equation_of raw.names equation ≡ Err same
      by_result (Err other) is h = is ∙ ap (λ it. Err it) (cc h)
      by_result (Ok it) is h = absurd (cc h)

      by_code : (o : Option TypeCode) → clause_code clocks equation.clause ≡ o
          → (equation : RawEq) × (other : TypeCode) × (slice_get raw.equations j ≡ Some equation) × (Found equation ≡ Err other)
      by_code (Some other) h = (equation, other, is, behind_some equation other h)
      by_code None h = (equation, same, is, behind_none equation h ∙ by_result (equation_of raw.names equation) refl e)

  -- the first that is found to break a rule is the first that does
  pub first_broken_is : (i : ℕ) (code : TypeCode) (equation : RawEq) → slice_get raw.equations i ≡ Some equation → Found equation ≡ Err code → NoneBefore i
      → Breaks raw i code × ((j : ℕ) (other : TypeCode) → j < i → Breaks raw j other → ⊥)
  first_broken_is i code equation is e before = (by_code (clause_code clocks equation.clause) refl, λ j other less broken. let found = broken_found j other broken in before j found.0 found.1 less found.2 found.3)
    where
      earlier : (k : ℕ) (clause : RawExpr) (other : TypeCode) → equation.clause ≡ Some k → slice_get raw.clauses k ≡ Some clause → code_of (clause_clock raw.names clause) ≡ Some other → IsFirstOf raw i k equation
      earlier k clause other of found h = record { clause = of; first = λ j first less is_first first_of. before j first other less is_first (behind_some first other (code_at first k clause first_of found ∙ h)) }

      by_code : (o : Option TypeCode) → clause_code clocks equation.clause ≡ o → Breaks raw i code
      by_code (Some other) h =
          let found = clause_of_code equation other h in
          let same : other ≡ code = cc (behind_some equation other h, e) in
          clock equation found.0 found.1 code is (earlier found.0 found.1 other found.2 found.3 found.4) found.3 (found.4 ∙ ap (λ it. Some it) same)
      by_code None h =
          own equation code is (λ k clause first found. sym (code_at equation k clause first.clause found) ∙ h) (ap code_of (sym (behind_none equation h) ∙ e))

  all_right : (equations : List RawEq) (found : List Equation) → map (λ it. Found it) equations ≡ map (λ equation. Ok equation) found
      → map (equation_of raw.names) equations ≡ map (λ equation. Ok equation) found
  all_right [] [] e = refl
  all_right [] (y ∷ ys) e = absurd (cc e)
  all_right (x ∷ xs) [] e = absurd (cc e)
  all_right (x ∷ xs) (y ∷ ys) e =
      let head : Found x ≡ Ok y = cc e in
      let rest : map (λ it. Found it) xs ≡ map (λ equation. Ok equation) ys = cc e in
      let mine : equation_of raw.names x ≡ Ok y = by_code x y (clause_code clocks x.clause) refl head in
      let more = all_right xs ys rest in cc
    where
      by_code : (x : RawEq) (y : Equation) (o : Option TypeCode) → clause_code clocks x.clause ≡ o → Found x ≡ Ok y → equation_of raw.names x ≡ Ok y
      by_code x y (Some other) h right = let e : Err other ≡ Ok y = sym (behind_some x other h) ∙ right in absurd (cc e)
      by_code x y None h right = sym (behind_none x h) ∙ right

  -- where all equations are right, no clock of a clause breaks a rule
  pub clocks_right : (found : List Equation) → map (λ it. Found it) raw.equations ≡ map (λ equation. Ok equation) found → AreClausesUsed raw → AreClocks clocks
  clocks_right found e used k code is =
      let there : option_and_then code_of (slice_get clocks k) ≡ Some code = ap (option_and_then code_of) is in
      let clause = clause_there k code there in
      let use_ = used k (slice_get_within raw.clauses k clause.0 clause.1) in
      let wrong : Found use_.1 ≡ Err code = behind_some use_.1 code (code_at use_.1 k clause.0 use_.3 clause.1 ∙ clause.2) in
      let at : slice_get (map (λ it. Found it) raw.equations) use_.0 ≡ Some (Found use_.1) = slice_get-map (λ it. Found it) raw.equations use_.0 ∙ ap (option_map (λ it. Found it)) use_.2 in
      by_found (slice_get found use_.0) (slice_get-map (λ equation. Ok equation) found use_.0) (ap (λ xs. slice_get xs use_.0) (sym e) ∙ at ∙ ap (λ it. Some it) wrong)
    where
      by_found : {A : Type 0} {o : Option (Result A TypeCode)} {code : TypeCode} (given : Option A) → o ≡ option_map (λ it. Ok it) given → o ≡ Some (Err code) → ⊥
      by_found (Some it) is h = cc
      by_found None is h = cc

  -- the typed model
  pub typed_as : (flat : FlatModel) → flat.names ≡ raw.names → clocks ≡ map (λ clock. Ok clock) flat.clauses → map (λ it. Found it) raw.equations ≡ map (λ equation. Ok equation) flat.equations → IsTypedAs raw flat
  typed_as flat names clauses equations = record { names = names; clauses = clauses; equations = all_right raw.equations flat.equations equations }

  -- what is found of all equations, where it is an end
  pub not_checked : (end : TypeEnd) → AreChecked raw.names clocks raw.equations (Err end) → Answers raw (Err end)
  not_checked (Fault code i) (broken, before) = first_broken_is i code broken.0 broken.1 broken.2 before
  not_checked NoMemory checked_ = tt

  -- the same over names, clauses, clocks and equations that are those of the model
  clocks_are : (names : List FlatName) (clauses : List RawExpr) (known : Clocks) → names ≡ raw.names → clauses ≡ raw.clauses → known ≡ map (clause_clock names) clauses → known ≡ clocks
  clocks_are names clauses known n c k = k ∙ ap₂ (λ ns xs. map (clause_clock ns) xs) n c

  same_checked : (names : List FlatName) (clauses : List RawExpr) (known : Clocks) (equations : List RawEq) (r : Result (List Equation) TypeEnd) → names ≡ raw.names → clauses ≡ raw.clauses
      → known ≡ map (clause_clock names) clauses → equations ≡ raw.equations → AreChecked names known equations r → AreChecked raw.names clocks raw.equations r
  same_checked names clauses known equations r n c k e h =
      subst (λ es. AreChecked raw.names clocks es r) e
      (subst (λ ks. AreChecked raw.names ks equations r) (clocks_are names clauses known n c k)
      (subst (λ ns. AreChecked ns known equations r) n h))

  pub ended : (names : List FlatName) (clauses : List RawExpr) (known : Clocks) (equations : List RawEq) (end : TypeEnd) → names ≡ raw.names → clauses ≡ raw.clauses
      → known ≡ map (clause_clock names) clauses → equations ≡ raw.equations → AreChecked names known equations (Err end)
      → (r : Result FlatModel TypeEnd) → IsErr r → IsErrAnd r (λ other. other ≡ end) → Answers raw r
  ended names clauses known equations end n c k e h (Ok flat) some same = cc some
  ended names clauses known equations end n c k e h (Err other) some same =
      subst (λ it. Answers raw (Err it)) (sym same) (not_checked end (same_checked names clauses known equations (Err end) n c k e h))

  pub known_right : (names : List FlatName) (clauses : List RawExpr) (known : Clocks) (equations : List RawEq) (found : List Equation) → names ≡ raw.names → clauses ≡ raw.clauses
      → known ≡ map (clause_clock names) clauses → equations ≡ raw.equations → AreChecked names known equations (Ok found) → AreClausesUsed raw → AreClocks known
  known_right names clauses known equations found n c k e h used =
      subst (λ ks. AreClocks ks) (sym (clocks_are names clauses known n c k)) (clocks_right found (same_checked names clauses known equations (Ok found) n c k e h) used)

  pub typed_so : (names : List FlatName) (clauses : List RawExpr) (known : Clocks) (equations : List RawEq) (flat : FlatModel) → names ≡ raw.names → clauses ≡ raw.clauses
      → known ≡ map (clause_clock names) clauses → equations ≡ raw.equations → AreChecked names known equations (Ok flat.equations)
      → flat.names ≡ raw.names → known ≡ map (λ clock. Ok clock) flat.clauses → IsTypedAs raw flat
  typed_so names clauses known equations flat n c k e h same right =
      typed_as flat same (sym (clocks_are names clauses known n c k) ∙ right) (same_checked names clauses known equations (Ok flat.equations) n c k e h)
