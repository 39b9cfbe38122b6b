-- The sites are answered one after the other, and what is answered is what they answer.
use Rattle.std.proofs.Common.{◌≡◌, ◌≢◌, refl, ap, ap₂, ◌∙◌, sym, subst, ℕ, zero, suc, ◌+◌, ◌<◌, ◌≤◌, Bool, true, false, List, [], ◌∷◌, length, length-set, map, slice_set, Option, Some, None, IsSome, unwrap_or, option_map, slice_get, get_or, ◌⊎◌, inl, inr, arith}
use Rattle.std.proofs.lemmas.Bool.{cases_lt, cases_eq, false≢true, true≢false}
use Rattle.std.proofs.lemmas.Option.{none-some, same_Some}
use Rattle.sync_values.specs.declared.value.Value.{Value}
use Rattle.sync_values.specs.declared.value.Fail.{Fail}
use Rattle.flat_model.specs.declared.expression.Expr.{Expr}
use Rattle.flat_model.specs.Values.{value_in, views_of, truth_in}
use Rattle.flat_model.specs.Assignment.{Assignment}
use Rattle.flat_model.specs.Faults.{SiteFails}
use Rattle.flat_model.specs.Given.{with_row}
use Rattle.flat_model.specs.Meaning.{value_of}
use Rattle.flat_model.specs.Occurrences.{bare_count}
use Rattle.flat_model.specs.Operators.{Answer, Fails, Is, Absent}
use Rattle.flat_model.specs.Runnable.{IsRunnable, IsCondition}
use Rattle.flat_model.specs.Setting.{Setting, site_answer, answer_in, unclocked_views}
use Rattle.flat_model.proofs.Conditions.{site_same_over}
use Rattle.moment_theory.proofs.FromRunnable.{all_at}
use Rattle.moment_theory.proofs.Rows.{row_now}
use Rattle.site_risings.specs.declared.answers.SiteFailing.{SiteFailing}
use Rattle.site_risings.specs.SiteFailures.{FailsOver, IsFailingOver, SiteFailsOver, TellsFirst}
use Rattle.site_risings.specs.Risings.{answer_of}
use Rattle.site_risings.specs.private.Lacking.{lacks}
use Rattle.site_risings.proofs.Lacks.{all_there, some_lacks}

slice_past : {A : Type 0} (xs : List A) (i : ℕ) (x : A) → slice_get xs i ≡ Some x → i < length xs
slice_past [] i x e = absurd (none-some x e)
slice_past (y ∷ ys) zero x e = omega arith
slice_past (y ∷ ys) (suc i) x e = let h = slice_past ys i x e in omega (arith, h)

-- ---- one condition

pub fails_so : (now : List (Option Value)) (condition : Expr) (kind : Fail) → value_of condition (views_of now) ≡ Fails kind → lacks now condition ≡ false → FailsOver now condition kind
fails_so now condition kind is none = record { reads = all_there now condition none; fails = is }

pub lacks_some : (now : List (Option Value)) (condition : Expr) → lacks now condition ≡ true → (kind : Fail) → FailsOver now condition kind → ⊥
lacks_some now condition miss kind fails = some_lacks now condition miss fails.reads

pub value_not : (now : List (Option Value)) (condition : Expr) (v : Value) → Is v ≡ value_of condition (views_of now) → (kind : Fail) → FailsOver now condition kind → ⊥
value_not now condition v is kind fails = let h : Is v ≡ Fails kind = is ∙ fails.fails in absurd cc

pub absent_not : (now : List (Option Value)) (condition : Expr) → Absent ≡ value_of condition (views_of now) → (kind : Fail) → FailsOver now condition kind → ⊥
absent_not now condition is kind fails = let h : Absent ≡ Fails kind = is ∙ fails.fails in absurd cc

-- two lists with the same at each place are one
pub lists_same : {A : Type 0} (xs ys : List A) → length xs ≡ length ys → ((i : ℕ) → i < length ys → slice_get xs i ≡ slice_get ys i) → xs ≡ ys
lists_same [] [] long same = refl
lists_same [] (y ∷ ys) long same = absurd (omega (arith, long))
lists_same (x ∷ xs) [] long same = absurd (omega (arith, long))
lists_same (x ∷ xs) (y ∷ ys) long same = ap₂ (λ a b. a ∷ b) (same_Some x y (same 0 (omega arith))) (lists_same xs ys (omega (arith, long)) (λ i lt. same (suc i) (omega (arith, lt))))

set_same : {A : Type 0} (xs : List A) (i : ℕ) (a : A) → i < length xs → slice_get (slice_set xs i a) i ≡ Some a
set_same [] i a h = absurd (omega (arith, h))
set_same (x ∷ xs) zero a h = refl
set_same (x ∷ xs) (suc i) a h = set_same xs i a (omega (arith, h))

set_other : {A : Type 0} (xs : List A) (i j : ℕ) (a : A) → j ≢ i → slice_get (slice_set xs i a) j ≡ slice_get xs j
set_other [] i j a h = refl
set_other (x ∷ xs) zero zero a h = absurd (h refl)
set_other (x ∷ xs) zero (suc j) a h = refl
set_other (x ∷ xs) (suc i) zero a h = refl
set_other (x ∷ xs) (suc i) (suc j) a h = set_other xs i j a (λ e. h (ap suc e))

mapped : {A B : Type 0} (f : A → B) (xs : List A) (i : ℕ) (x : A) → slice_get xs i ≡ Some x → slice_get (map f xs) i ≡ Some (f x)
mapped f [] i x e = absurd (none-some x e)
mapped f (y ∷ ys) zero x e = ap (λ z. Some (f z)) (same_Some y x e)
mapped f (y ∷ ys) (suc i) x e = mapped f ys i x e

length_mapped : {A B : Type 0} (f : A → B) (xs : List A) → length (map f xs) ≡ length xs
length_mapped f [] = refl
length_mapped f (x ∷ xs) = ap suc (length_mapped f xs)

-- the answers of the sites below a number
pub record AreAnsweredBelow (f : Expr → Option Bool) (sites : List Expr) (count : ℕ) (answers : List (Option Bool)) : Type 0 where
  pub long : length answers ≡ length sites
  pub told : (i : ℕ) → i < count → slice_get answers i ≡ slice_get (map f sites) i

pub answered_next : (f : Expr → Option Bool) (sites : List Expr) (count : ℕ) (answers : List (Option Bool)) (condition : Expr) → slice_get sites count ≡ Some condition → (a : Option Bool) → a ≡ f condition → AreAnsweredBelow f sites count answers
    → AreAnsweredBelow f sites (count + 1) (slice_set answers count a)
answered_next f sites count answers condition found a is are = record {
  long = length-set answers count a ∙ are.long;
  told = λ i less. elim (cases_eq i count) [
    | inl same ↦ subst (λ k. slice_get (slice_set answers count a) k ≡ slice_get (map f sites) k) (sym same)
        (set_same answers count a (let long = are.long in let within = slice_past sites count condition found in omega (arith, long, within)) ∙ ap Some is ∙ sym (mapped f sites count condition found))
    | inr other ↦ set_other answers count i a other ∙ are.told i (omega (arith, less, other))
  ];
}

pub answered_none : (f : Expr → Option Bool) (sites : List Expr) (answers : List (Option Bool)) → length answers ≡ length sites → AreAnsweredBelow f sites 0 answers
answered_none f sites answers long = record { long = long; told = λ i less. absurd (omega (arith, less)) }

pub answered_end : (f : Expr → Option Bool) (sites : List Expr) (count : ℕ) (answers : List (Option Bool)) → length sites ≤ count → AreAnsweredBelow f sites count answers → answers ≡ map f sites
answered_end f sites count answers all are = lists_same answers (map f sites) (are.long ∙ sym (length_mapped f sites)) (λ i lt. are.told i (let long = length_mapped f sites in omega (arith, lt, long, all)))

-- what stands at a place
pub there : {A : Type 0} (xs : List A) (i : ℕ) → i < length xs → (x : A) × (slice_get xs i ≡ Some x)
there [] i lt = absurd (omega (arith, lt))
there (x ∷ xs) zero lt = (x, refl)
there (x ∷ xs) (suc i) lt = there xs i (omega (arith, lt))

-- ---- one after the other

-- the sites below a number: which of them fails first
abbrev pub TellsBelow : List (Option Value) → List Expr → ℕ → Option SiteFailing → Type 0
TellsBelow now sites count None = (site : ℕ) (kind : Fail) → site < count → SiteFailsOver now sites site kind → ⊥
TellsBelow now sites count (Some failing) = (failing.site < count) × SiteFailsOver now sites failing.site failing.kind × ((site : ℕ) (kind : Fail) → site < failing.site → SiteFailsOver now sites site kind → ⊥)

pub tells_next : (now : List (Option Value)) (sites : List Expr) (count : ℕ) (condition : Expr) → slice_get sites count ≡ Some condition → (failing next : Option SiteFailing) (kind : Option Fail) → IsFailingOver now condition kind
    → ((f : SiteFailing) → failing ≡ Some f → next ≡ Some f) → (failing ≡ None → next ≡ option_map (λ k. record { site = count; kind = k }) kind) → TellsBelow now sites count failing → TellsBelow now sites (count + 1) next
tells_next now sites count condition found (Some f) next kind is stays goes told = subst (TellsBelow now sites (count + 1)) (sym (stays f refl)) (omega (arith, told.0), told.1, told.2)
tells_next now sites count condition found None next None is stays goes told = subst (TellsBelow now sites (count + 1)) (sym (goes refl)) (λ site kind lt fails. elim (cases_lt site count) [
  | inl less ↦ told site kind less fails
  | inr ge ↦ let same : site ≡ count = omega (arith, lt, ge) in
      is kind (subst (λ c. FailsOver now c kind) (same_Some fails.0 condition (sym fails.1 ∙ ap (slice_get sites) same ∙ found)) fails.2)
])
tells_next now sites count condition found None next (Some k) is stays goes told = subst (TellsBelow now sites (count + 1)) (sym (goes refl)) (omega arith, (condition, found, is), λ site kind lt fails. told site kind lt fails)

pub tells_end : (now : List (Option Value)) (sites : List Expr) (count : ℕ) (failing : Option SiteFailing) → length sites ≤ count → TellsBelow now sites count failing → TellsFirst now sites failing
tells_end now sites count None all told = λ site kind fails. told site kind (let within = slice_past sites site fails.0 fails.1 in omega (arith, within, all)) fails
tells_end now sites count (Some failing) all told = (told.1, told.2)

-- ---- as the definitions of a run have it

module _ (s : Setting) (runs : IsRunnable s) (S : Assignment) (m : ℕ) (now : List (Option Value)) where
  answer_at : (site : ℕ) (condition : Expr) → slice_get s.clocking.sites site ≡ Some condition → value_of condition (views_of now) ≡ site_answer s (with_row S m (value_in now)) site m
  answer_at site condition found =
      let is = all_at (IsCondition s) s.clocking.sites site condition runs.sites found in
      site_same_over s (with_row S m (value_in now)) site m now condition found is.direct (λ y some. sym (row_now S m (value_in now) y))

  told_in : (sites : List Expr) (site : ℕ) → answer_of (map (λ condition. truth_in (value_of condition (views_of now))) sites) site ≡ unwrap_or (option_map (λ condition. truth_in (value_of condition (views_of now))) (slice_get sites site)) None
  told_in [] site = refl
  told_in (c ∷ sites) zero = refl
  told_in (c ∷ sites) (suc site) = told_in sites site

  pub answers_are : (site : ℕ) → truth_in (site_answer s (with_row S m (value_in now)) site m) ≡ answer_of (map (λ condition. truth_in (value_of condition (views_of now))) s.clocking.sites) site
  answers_are site = by_site (slice_get s.clocking.sites site) refl ∙ sym (told_in s.clocking.sites site)
    where
      by_site : (o : Option Expr) → slice_get s.clocking.sites site ≡ o → truth_in (site_answer s (with_row S m (value_in now)) site m) ≡ unwrap_or (option_map (λ condition. truth_in (value_of condition (views_of now))) (slice_get s.clocking.sites site)) None
      by_site None e = ap (λ o. truth_in (answer_in (unclocked_views (with_row S m (value_in now)) m) o)) e ∙ sym (ap (λ o. unwrap_or (option_map (λ condition. truth_in (value_of condition (views_of now))) o) None) e)
      by_site (Some condition) e = ap truth_in (sym (answer_at site condition e)) ∙ sym (ap (λ o. unwrap_or (option_map (λ condition. truth_in (value_of condition (views_of now))) o) None) e)

  pub fails_as : (site : ℕ) (kind : Fail) → SiteFailsOver now s.clocking.sites site kind → SiteFails s (with_row S m (value_in now)) m site kind
  fails_as site kind (condition, found, fails) = record {
    condition = condition;
    found = found;
    reads = λ y some. subst IsSome (sym (row_now S m (value_in now) y)) (fails.reads y some);
    fails = sym (answer_at site condition found) ∙ fails.fails;
  }

  pub fails_over : (site : ℕ) (kind : Fail) → SiteFails s (with_row S m (value_in now)) m site kind → SiteFailsOver now s.clocking.sites site kind
  fails_over site kind f = (
    f.condition,
    f.found,
    record {
      reads = λ y some. subst IsSome (row_now S m (value_in now) y) (f.reads y some);
      fails = answer_at site f.condition f.found ∙ f.fails;
    },
  )
