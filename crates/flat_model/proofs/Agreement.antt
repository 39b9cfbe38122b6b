-- What is read, ticks and meets at a moment rests on the values up to it.
use Rattle.std.proofs.Common.{◌≡◌, refl, ap, ap₂, ◌∙◌, sym, subst, ℕ, zero, suc, ◌+◌, ◌-◌, ◌%◌, ◌<◌, ◌≤◌, ◌==◌, ◌&&◌, nat_le, Bool, true, false, Option, Some, None, is_none, if◌then◌else◌, arith, slice_get}
use Rattle.std.proofs.Math.Path.{fun_ext}
use Rattle.sync_values.specs.declared.value.Value.{Value}
use Rattle.flat_model.specs.declared.clock.Clock.{Clock}
use Rattle.flat_model.specs.declared.clock.Clock.TheVariants.{Periodic, Event}
use Rattle.flat_model.specs.declared.clock.Moment.{Moment}
use Rattle.flat_model.specs.declared.clock.Moment.TheVariants.{Initial, At}
use Rattle.flat_model.specs.declared.expression.Expr.{Expr}
use Rattle.flat_model.specs.Views.{View, Views, before}
use Rattle.flat_model.specs.Moments.{moment_at}
use Rattle.flat_model.specs.Assignment.{Assignment, tick_before, value_at_tick, last_value, previous_value}
use Rattle.flat_model.specs.Setting.{Setting, class_of_name, clock_of, start_of, unclocked_view, unclocked_views, answer_in, site_answer, is_true, is_false, rises, risings_before, clock_ticks, ticks_in, class_ticks, name_ticks, since, interval_at, view_at, views_at, class_of_equation}
use Rattle.flat_model.specs.Meets.{MeetsAt, HasValueAtTicks, HasOneValue}
use Rattle.flat_model.specs.Occurrences.{bare_count, held_count, converted_count, sample_count}
use Rattle.flat_model.proofs.Dependence.{AgreeOn, value_rests, counted_agree}

-- two assignments have the same values before m, and up to m
abbrev pub SameBefore : Assignment → Assignment → ℕ → Type 0
SameBefore S T m = (x k : ℕ) → k < m → S x k ≡ T x k

abbrev pub SameUpTo : Assignment → Assignment → ℕ → Type 0
SameUpTo S T m = (x k : ℕ) → k ≤ m → S x k ≡ T x k

-- ticks before k

pub tick_before_same : (f g : ℕ → Bool) (k : ℕ) → ((j : ℕ) → j < k → f j ≡ g j) → tick_before f k ≡ tick_before g k
tick_before_same f g zero same = refl
tick_before_same f g (suc k) same =
    ap₂ (λ now rest. if now then Some k else rest) (same k (omega arith)) (tick_before_same f g k (λ j lt. same j (omega arith)))

pub tick_before_below : (f : ℕ → Bool) (k j : ℕ) → tick_before f k ≡ Some j → j < k
tick_before_below f zero j h = absurd cc
tick_before_below f (suc k) j h = below (f k) (λ e. tick_before_below f k j e) h
  where
    below : (b : Bool) → (tick_before f k ≡ Some j → j < k) → (if b then Some k else tick_before f k) ≡ Some j → j < suc k
    below true earlier e = let same : k ≡ j = cc in omega (arith, same)
    below false earlier e = omega (arith, earlier e)

value_at_tick_same : (xs ys : ℕ → Option Value) (start : Value) (o : Option ℕ) → ((j : ℕ) → o ≡ Some j → xs j ≡ ys j) → value_at_tick xs start o ≡ value_at_tick ys start o
value_at_tick_same xs ys start None same = refl
value_at_tick_same xs ys start (Some j) same = same j refl

pub previous_same : (f g : ℕ → Bool) (xs ys : ℕ → Option Value) (start : Value) (k : ℕ) → ((j : ℕ) → j < k → f j ≡ g j) → ((j : ℕ) → j < k → xs j ≡ ys j)
    → previous_value f xs start k ≡ previous_value g ys start k
previous_same f g xs ys start k ticks values =
    value_at_tick_same xs ys start (tick_before f k) (λ j e. values j (tick_before_below f k j e)) ∙ ap (value_at_tick ys start) (tick_before_same f g k ticks)

-- the clocks

pub site_same : (s : Setting) (S T : Assignment) (site m k : ℕ) → SameUpTo S T m → k ≤ m → site_answer s S site k ≡ site_answer s T site k
site_same s S T site m k same le =
    ap (λ views. answer_in views (slice_get s.clocking.sites site)) (fun_ext (λ back. ap unclocked (fun_ext (λ x. same x (k - back) (omega arith)))))
  where
    unclocked : (ℕ → Option Value) → View
    unclocked now = unclocked_view (λ x m. now x) 0

-- the sites have the same answers at m
abbrev pub SameSites : Setting → Assignment → Assignment → ℕ → Type 0
SameSites s S T m = (site : ℕ) → site_answer s S site m ≡ site_answer s T site m

answers_same : (condition : Option Expr) (v w : Views) → ((e : Expr) → condition ≡ Some e → AgreeOn e v w) → answer_in v condition ≡ answer_in w condition
answers_same None v w agree = refl
answers_same (Some e) v w agree = value_rests e v w (agree e refl)

-- where the views of each condition agree
pub sites_agree : (s : Setting) (S T : Assignment) (m : ℕ)
    → ((site : ℕ) (e : Expr) → slice_get s.clocking.sites site ≡ Some e → AgreeOn e (unclocked_views S m) (unclocked_views T m))
    → SameSites s S T m
sites_agree s S T m agree site = answers_same (slice_get s.clocking.sites site) _ _ (agree site)

before_up_to : (S T : Assignment) (m k : ℕ) → SameBefore S T m → k < m → SameUpTo S T k
before_up_to S T m k same lt x j le = same x j (omega arith)

rises_now : (s : Setting) (S T : Assignment) (site m : ℕ) → SameBefore S T m → SameSites s S T m → rises s S site m ≡ rises s T site m
rises_now s S T site zero same sites = refl
rises_now s S T site (suc k) same sites =
    ap₂ (λ now earlier. is_true now && is_false earlier) (sites site) (site_same s S T site k k (before_up_to S T (suc k) k same (omega arith)) (omega arith))

risings_now : (s : Setting) (S T : Assignment) (site m : ℕ) → SameBefore S T m → risings_before s S site m ≡ risings_before s T site m
risings_now s S T site zero same = refl
risings_now s S T site (suc k) same =
    let earlier : SameBefore S T k = λ x j lt. same x j (omega arith) in
    let sites : SameSites s S T k = λ other. site_same s S T other k k (before_up_to S T (suc k) k same (omega arith)) (omega arith) in
    ap₂ (λ b n. if b then n + 1 else n) (rises_now s S T site k earlier sites) (risings_now s S T site k earlier)

clock_ticks_now : (s : Setting) (S T : Assignment) (m : ℕ) (moment : Option Moment) (clock : Clock) → SameBefore S T m → SameSites s S T m → clock_ticks s S m moment clock ≡ clock_ticks s T m moment clock
clock_ticks_now s S T m None clock same sites = refl
clock_ticks_now s S T m (Some Initial) clock same sites = refl
clock_ticks_now s S T m (Some (At t)) (Periodic period start) same sites = refl
clock_ticks_now s S T m (Some (At t)) (Event site factor shift) same sites =
    ap₂ (λ b n. b && nat_le shift n && (n - shift) % factor == 0) (rises_now s S T site m same sites) (risings_now s S T site m same)

ticks_in_now : (s : Setting) (S T : Assignment) (m : ℕ) (clock : Option Clock) → SameBefore S T m → SameSites s S T m → ticks_in s S m clock ≡ ticks_in s T m clock
ticks_in_now s S T m None same sites = refl
ticks_in_now s S T m (Some clock) same sites = clock_ticks_now s S T m (moment_at s.instants m) clock same sites

-- ticks rest on what comes before, and on the sites
pub class_ticks_now : (s : Setting) (S T : Assignment) (class : Option ℕ) (m : ℕ) → SameBefore S T m → SameSites s S T m → class_ticks s S class m ≡ class_ticks s T class m
class_ticks_now s S T None m same sites = refl
class_ticks_now s S T (Some class) m same sites =
    ticks_in_now s S T m (slice_get s.clocking.clocks class) same sites

pub class_ticks_same : (s : Setting) (S T : Assignment) (class : Option ℕ) (m k : ℕ) → SameUpTo S T m → k ≤ m → class_ticks s S class k ≡ class_ticks s T class k
class_ticks_same s S T class m k same le =
    class_ticks_now s S T class k (λ x j lt. same x j (omega (arith, lt, le))) (λ site. site_same s S T site m k same le)

interval_same : (s : Setting) (f g : ℕ → Bool) (k : ℕ) (clock : Option Clock) → ((j : ℕ) → j < k → f j ≡ g j) → interval_at s f k clock ≡ interval_at s g k clock
interval_same s f g k None same = refl
interval_same s f g k (Some (Periodic period start)) same = refl
interval_same s f g k (Some (Event site factor shift)) same =
    ap (since s k) (tick_before_same f g k same)

-- the views

pub view_same : (s : Setting) (S T : Assignment) (class : Option ℕ) (m k : ℕ) → SameUpTo S T m → k ≤ m → view_at s S class k ≡ view_at s T class k
view_same s S T class m k same le =
    let ticks : (c : Option ℕ) (j : ℕ) → j ≤ k → class_ticks s S c j ≡ class_ticks s T c j = λ c j lt. class_ticks_same s S T c m j same (omega (arith, lt)) in
    let now : ◌≡◌ {A = ℕ → Option Value} (λ x. S x k) (λ x. T x k) = fun_ext (λ x. same x k le) in
    let previous : ◌≡◌ {A = ℕ → Option Value} (λ x. previous_value (name_ticks s S x) (S x) (start_of s x) k) (λ x. previous_value (name_ticks s T x) (T x) (start_of s x) k) =
    fun_ext (λ x. previous_same _ _ _ _ _ k (λ j lt. ticks (class_of_name s x) j (omega arith)) (λ j lt. same x j (omega arith))) in
    let last : ◌≡◌ {A = ℕ → Option Value} (λ x. last_value (name_ticks s S x) (S x) (start_of s x) k) (λ x. last_value (name_ticks s T x) (T x) (start_of s x) k) =
    fun_ext (λ x. previous_same _ _ _ _ _ (suc k) (λ j lt. ticks (class_of_name s x) j (omega arith)) (λ j lt. same x j (omega arith))) in
    let first : is_none (tick_before (class_ticks s S class) k) ≡ is_none (tick_before (class_ticks s T class) k) =
    ap is_none (tick_before_same _ _ k (λ j lt. ticks class j (omega arith))) in
    let interval : interval_at s (class_ticks s S class) k (clock_of s class) ≡ interval_at s (class_ticks s T class) k (clock_of s class) =
    interval_same s _ _ k (clock_of s class) (λ j lt. ticks class j (omega arith)) in
    λ j. record { now = now j; previous = previous j; last = last j; first = first j; interval = interval j }

pub views_same : (s : Setting) (S T : Assignment) (class : Option ℕ) (m : ℕ) → SameUpTo S T m → views_at s S class m ≡ views_at s T class m
views_same s S T class m same = fun_ext (λ back. view_same s S T class m (m - back) same (omega arith))

-- what meets the model at a moment, meets it there with other values behind it
pub meets_same : (s : Setting) (S T : Assignment) (m : ℕ) → SameUpTo S T m → MeetsAt s S m → MeetsAt s T m
meets_same s S T m same meets = record {
  inputs = λ x name at f i e. sym (same x m (omega arith)) ∙ meets.inputs x name at f i e;
  names = λ x name f. subst (λ z. HasValueAtTicks name.kind (name_ticks s T x m) z) (same x m (omega arith))
      (subst (λ z. HasValueAtTicks name.kind z (S x m)) (class_ticks_same s S T (class_of_name s x) m m same (omega arith)) (meets.names x name f));
  others = λ x f. sym (same x m (omega arith)) ∙ meets.others x f;
  sites = λ site condition f. let h = meets.sites site condition f in (h.0, sym (site_same s S T site m m same (omega arith)) ∙ h.1);
  equations = λ i equation f t. subst (λ z. HasOneValue z equation) (views_same s S T (class_of_equation s i) m same)
      (meets.equations i equation f (class_ticks_same s S T (class_of_equation s i) m m same (omega arith) ∙ t));
}

-- at the moment itself, where only what comes before is the same

pub last_same : (f g : ℕ → Bool) (xs ys : ℕ → Option Value) (start : Value) (m : ℕ) → f m ≡ g m → (f m ≡ true → xs m ≡ ys m) → ((j : ℕ) → j < m → f j ≡ g j) → ((j : ℕ) → j < m → xs j ≡ ys j)
    → last_value f xs start m ≡ last_value g ys start m
last_same f g xs ys start m now value ticks values = by_tick (f m) refl
  where
    by_tick : (b : Bool) → f m ≡ b → last_value f xs start m ≡ last_value g ys start m
    by_tick true e = let h : g m ≡ true = sym now ∙ e in rw (e, h) (value e)
    by_tick false e = let h : g m ≡ false = sym now ∙ e in rw (e, h) (previous_same f g xs ys start m ticks values)

-- a name ticks or not in both at m, and where it ticks its value is the same
abbrev pub SameNow : Setting → Assignment → Assignment → ℕ → ℕ → Type 0
SameNow s S T m x = (name_ticks s S x m ≡ name_ticks s T x m) × (name_ticks s S x m ≡ true → S x m ≡ T x m)

ticks_earlier : (s : Setting) (S T : Assignment) (class : Option ℕ) (m j : ℕ) → SameBefore S T m → j < m → class_ticks s S class j ≡ class_ticks s T class j
ticks_earlier s S T class m j same lt = class_ticks_same s S T class j j (before_up_to S T m j same lt) (omega arith)

sampled_same : (s : Setting) (S T : Assignment) (class : Option ℕ) (m : ℕ) → SameBefore S T m → (m ≡ 0 → ⊥) → before (views_at s S class m) ≡ before (views_at s T class m)
sampled_same s S T class zero same later = absurd (later refl)
sampled_same s S T class (suc k) same later = fun_ext (λ back. view_same s S T class k (suc k - (back + 1)) (before_up_to S T (suc k) k same (omega arith)) (omega arith))

-- the views agree on an expression where the names that stand in it are the same; at the first moment no `sample` may stand in it
pub views_agree : (s : Setting) (S T : Assignment) (class : Option ℕ) (m : ℕ) (e : Expr) → SameBefore S T m
    → ((x : ℕ) → 0 < bare_count x e → S x m ≡ T x m) → ((x : ℕ) → 0 < held_count x e → SameNow s S T m x) → ((x : ℕ) → 0 < converted_count x e → SameNow s S T m x)
    → (m ≡ 0 → 0 < sample_count e → ⊥) → AgreeOn e (views_at s S class m) (views_at s T class m)
views_agree s S T class m e same bare held converted sampled = counted_agree e _ _ (record {
  now = λ x some. subst (λ k. S x k ≡ T x k) here (bare x some);
  held = λ x some. last x (held x some);
  converted = λ x some. last x (converted x some);
  sampled = λ some. sampled_same s S T class m same (λ first. sampled first some);
  previous = λ x. previous_same _ _ _ _ _ (m - 0) (λ j lt. ticks_earlier s S T (class_of_name s x) m j same (omega arith)) (λ j lt. same x j (omega arith));
  first = ap is_none (tick_before_same _ _ (m - 0) (λ j lt. ticks_earlier s S T class m j same (omega arith)));
  interval = interval_same s _ _ (m - 0) (clock_of s class) (λ j lt. ticks_earlier s S T class m j same (omega arith));
})
  where
    here : m ≡ m - 0
    here = omega arith

    last : (x : ℕ) → SameNow s S T m x → last_value (name_ticks s S x) (S x) (start_of s x) (m - 0) ≡ last_value (name_ticks s T x) (T x) (start_of s x) (m - 0)
    last x now = subst (λ k. last_value (name_ticks s S x) (S x) (start_of s x) k ≡ last_value (name_ticks s T x) (T x) (start_of s x) k) here
        (last_same _ _ _ _ (start_of s x) m now.0 now.1 (λ j lt. ticks_earlier s S T (class_of_name s x) m j same lt) (λ j lt. same x j lt))
