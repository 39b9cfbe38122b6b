-- Two assignments that meet a model are the same at a moment whose values are all given.
use Rattle.std.proofs.Common.{◌⊎◌, inl, inr, ◌≡◌, refl, ◌∙◌, sym, subst, ℕ, zero, suc, ◌-◌, ◌<◌, ◌≤◌, ◌==◌, Bool, true, false, List, Option, Some, None, arith, slice_get}
use Rattle.std.proofs.lemmas.Bool.Decides.{eqb_tells}
use Rattle.sync_values.specs.declared.value.Value.{Value}
use Rattle.flat_model.specs.declared.expression.Expr.{Expr}
use Rattle.flat_model.specs.declared.model.FlatName.{FlatName}
use Rattle.flat_model.specs.declared.model.NameKind.{NameKind}
use Rattle.flat_model.specs.declared.model.NameKind.TheVariants as kind
use Rattle.flat_model.specs.Assignment.{Assignment}
use Rattle.flat_model.specs.Setting.{Setting, class_of_name, unclocked_views, class_ticks, name_ticks}
use Rattle.flat_model.specs.Meets.{MeetsAt, Meets, HasValueAtTicks}
use Rattle.flat_model.specs.Occurrences.{bare_count, sample_count}
use Rattle.flat_model.specs.Uses.{Use}
use Rattle.flat_model.specs.Given.{Row, IsGiven}
use Rattle.flat_model.proofs.Dependence.{AgreeOn, counted_agree}
use Rattle.flat_model.proofs.Agreement.{SameBefore, SameUpTo, SameSites, sites_agree, class_ticks_now}
use Rattle.flat_model.proofs.GivenValues.{AreOfOneClass, given_where_met}

-- a condition reads unclocked names alone, and has no `sample`
pub record ReadsUnclocked (s : Setting) (condition : Expr) : Type 0 where
  pub names : (y : ℕ) → 0 < bare_count y condition → class_of_name s y ≡ None
  pub samples : sample_count condition ≡ 0

abbrev pub AreSitesUnclocked : Setting → Type 0
AreSitesUnclocked s = (site : ℕ) (condition : Expr) → slice_get s.clocking.sites site ≡ Some condition → ReadsUnclocked s condition

conditions_agree : (s : Setting) (S T : Assignment) (m : ℕ) (condition : Expr) → sample_count condition ≡ 0 → ((y : ℕ) → 0 < bare_count y condition → S y m ≡ T y m)
    → AgreeOn condition (unclocked_views S m) (unclocked_views T m)
conditions_agree s S T m condition none same = counted_agree condition _ _ (record {
  now = λ y some. subst (λ k. S y k ≡ T y k) (let e : m ≡ m - 0 = omega arith in e) (same y some);
  held = λ y some. refl;
  converted = λ y some. refl;
  sampled = λ some. absurd (omega (arith, some, none));
  previous = λ y. refl;
  first = refl;
  interval = refl;
})

-- a name of two assignments that both meet the model, where it ticks alike in both and the values of the first are those of the second
name_same : (k : NameKind) (ticks : Bool) (a b : Option Value) → HasValueAtTicks k ticks a → HasValueAtTicks k ticks b → ((v : Value) → a ≡ Some v → b ≡ Some v) → a ≡ b
name_same kind.Clock ticks a b f g h = f ∙ sym g
name_same kind.Integer true a b (v, is, typed) g h = is ∙ sym (h v is)
name_same kind.Boolean true a b (v, is, typed) g h = is ∙ sym (h v is)
name_same kind.Integer false a b f g h = f ∙ sym g
name_same kind.Boolean false a b f g h = f ∙ sym g

ticks_unclocked : (s : Setting) (S : Assignment) (class : Option ℕ) (m : ℕ) → class ≡ None → class_ticks s S class m ≡ true
ticks_unclocked s S class m e = subst (λ c. class_ticks s S c m ≡ true) (sym e) refl

-- the values of S at m are all given
abbrev pub IsWholeRow : Assignment → ℕ → Row → Type 0
IsWholeRow S m row = (x : ℕ) (v : Value) → S x m ≡ Some v → row x ≡ Some v

module _ (s : Setting) (S T : Assignment) (uses : List Use) (m : ℕ) (row : Row) (classes : AreOfOneClass s uses) (unclocked : AreSitesUnclocked s)
    (given : IsGiven s S uses m row) (whole : IsWholeRow S m row) (same : SameBefore S T m) (here : MeetsAt s S m) (there : MeetsAt s T m) where
  given_there : (x : ℕ) (v : Value) → S x m ≡ Some v → T x m ≡ Some v
  given_there x v e = given_where_met s S T uses m row classes given same there x v (whole x v e)

  same_name : (x : ℕ) → name_ticks s S x m ≡ name_ticks s T x m → (name : Option FlatName) → slice_get s.model.names x ≡ name → S x m ≡ T x m
  same_name x ticks None f = here.others x f ∙ sym (there.others x f)
  same_name x ticks (Some name) f = name_same name.kind (name_ticks s S x m) (S x m) (T x m) (here.names x name f)
      (subst (λ z. HasValueAtTicks name.kind z (T x m)) (sym ticks) (there.names x name f)) (λ v e. given_there x v e)

  same_unclocked : (x : ℕ) → class_of_name s x ≡ None → S x m ≡ T x m
  same_unclocked x e = same_name x (ticks_unclocked s S (class_of_name s x) m e ∙ sym (ticks_unclocked s T (class_of_name s x) m e)) (slice_get s.model.names x) refl

  same_sites : SameSites s S T m
  same_sites = sites_agree s S T m (λ site e f. let h = unclocked site e f in conditions_agree s S T m e h.samples (λ y some. same_unclocked y (h.names y some)))

  pub same_where_given : (x : ℕ) → S x m ≡ T x m
  same_where_given x = same_name x (class_ticks_now s S T (class_of_name s x) m same same_sites) (slice_get s.model.names x) refl

-- every moment up to n has given values, and they are all values of S
abbrev pub AreGiven : Setting → Assignment → List Use → ℕ → Type 0
AreGiven s S uses n = (m : ℕ) → m ≤ n → (row : Row) × IsGiven s S uses m row × IsWholeRow S m row

same_before : (s : Setting) (S T : Assignment) (uses : List Use) (n : ℕ) → AreOfOneClass s uses → AreSitesUnclocked s → AreGiven s S uses n → Meets s S n → Meets s T n
    → (m : ℕ) → m ≤ suc n → SameBefore S T m
same_before s S T uses n classes unclocked given here there zero le x k lt = absurd (omega (arith, lt))
same_before s S T uses n classes unclocked given here there (suc m) le x k lt =
    let earlier = same_before s S T uses n classes unclocked given here there m (omega arith) in
    let (row, g, whole) = given m (omega arith) in
    let now = same_where_given s S T uses m row classes unclocked g whole earlier (here m (omega arith)) (there m (omega arith)) in
    at_moment earlier now (eqb_tells k m)
  where
    at_moment : SameBefore S T m → ((y : ℕ) → S y m ≡ T y m) → ((k == m ≡ true) × (k ≡ m)) ⊎ ((k == m ≡ false) × (k ≡ m → ⊥)) → S x k ≡ T x k
    at_moment earlier now (inl (e, is)) = subst (λ j. S x j ≡ T x j) (sym is) (now x)
    at_moment earlier now (inr (e, other)) = earlier x k (omega arith)

-- whatever meets the model is S, where the values of S are given
pub only_solution : (s : Setting) (S T : Assignment) (uses : List Use) (n : ℕ) → AreOfOneClass s uses → AreSitesUnclocked s → AreGiven s S uses n → Meets s S n → Meets s T n → SameUpTo S T n
only_solution s S T uses n classes unclocked given here there x k le = same_before s S T uses n classes unclocked given here there (suc n) (omega arith) x k (omega arith)
