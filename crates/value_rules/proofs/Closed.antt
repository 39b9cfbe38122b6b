-- What the values of a model give a parameter is among them.
use Rattle.std.proofs.Common.{◌≡◌, refl, ap, sym, ◌∙◌, subst, ℕ, zero, suc, ◌+◌, Bool, true, false, cond, ◌&&◌, List, [], ◌∷◌, find, Option, Some, None, option_and_then, slice_get, bytes_eq, arith}
use Rattle.std.proofs.lemmas.Slice.Eq.{bytes_eq-Decides}
use Rattle.sync_values.specs.declared.value.Value.{Value}
use Rattle.mo_parser.specs.declared.tree.ClassDef.{ClassDef}
use Rattle.class_scopes.specs.Spelled.{Ident}
use Rattle.flat_instances.specs.Instances.{Variable}
use Rattle.parameter_values.specs.Values.{Values, AreValues, is_parameter, value_from, parameter_named, derived}
use Rattle.parameter_values.proofs.Derivations.{Below, rises}
use Rattle.parameter_values.proofs.MoreValues.{value_grows}

find_stands : {A : Type 0} (t : A → Bool) (xs : List A) (p : A) → find t xs ≡ Some p → (i : ℕ) × (slice_get xs i ≡ Some p) × (t p ≡ true)
find_stands t [] p is = absurd (cc is)
find_stands t (x ∷ xs) p is = by (t x) refl is (find_stands t xs p)
  where
    by : (b : Bool) → t x ≡ b → cond b (Some x) (find t xs) ≡ Some p → (find t xs ≡ Some p → (i : ℕ) × (slice_get xs i ≡ Some p) × (t p ≡ true))
        → (i : ℕ) × (slice_get (x ∷ xs) i ≡ Some p) × (t p ≡ true)
    by true e is again = let same : x ≡ p = cc is in (0, is, ap t (sym same) ∙ e)
    by false e is again = let r = again is in (suc r.0, r.1, r.2)

and_right : (a b : Bool) → a && b ≡ true → b ≡ true
and_right true b is = is
and_right false b is = absurd (cc is)

module _ (text : List ℕ) (classes : List ClassDef) (all : List Variable) (values : Values) (are : AreValues text classes all values) where
  abbrev at_height : ℕ → Values
  at_height = derived text classes all

  rises_by : (k n m : ℕ) → m ≡ n + k → Below (at_height n) (at_height m)
  rises_by zero n m same name v is = let e : n ≡ m = omega (arith, same) in subst (λ h. at_height h name ≡ Some v) e is
  rises_by (suc k) n m same name v is =
      let e : suc (n + k) ≡ m = omega (arith, same) in
      subst (λ h. at_height h name ≡ Some v) e (rises text classes all (value_grows text classes) (n + k) name v (rises_by k n (n + k) refl name v is))

  -- the values of some variables have derivations of that height
  abbrev Upto : List Variable → ℕ → Type 0
  Upto vs n = (i : ℕ) (v : Variable) → slice_get vs i ≡ Some v → (w : Value) → values v.name ≡ Some w → at_height n v.name ≡ Some w

  more : (v : Variable) (vs : List Variable) (n m : ℕ) → Upto vs n → ((w : Value) → values v.name ≡ Some w → at_height m v.name ≡ Some w) → Upto (v ∷ vs) (n + m)
  more v vs n m rest here zero u at w is =
      let same : v ≡ u = cc at in
      subst (λ z. at_height (n + m) z.name ≡ Some w) same
      (rises_by n m (n + m) (omega arith) v.name w (here w (subst (λ z. values z.name ≡ Some w) (sym same) is)))
  more v vs n m rest here (suc i) u at w is = rises_by m n (n + m) refl u.name w (rest i u at w is)

  height : (v : Variable) → (m : ℕ) × ((w : Value) → values v.name ≡ Some w → at_height m v.name ≡ Some w)
  height v = by (values v.name) refl
    where
      by : (o : Option Value) → values v.name ≡ o → (m : ℕ) × ((w : Value) → values v.name ≡ Some w → at_height m v.name ≡ Some w)
      by None e = (0, λ w is. absurd (cc (sym e ∙ is)))
      by (Some u) e = let d = (are v.name u).0 e in (d.0, λ w is. d.1 ∙ sym e ∙ is)

  heights : (vs : List Variable) → (n : ℕ) × Upto vs n
  heights [] = (0, λ i v at w is. absurd (cc at))
  heights (v ∷ vs) = let r = heights vs in let h = height v in (r.0 + h.0, more v vs r.0 h.0 r.1 h.1)

  below : (n : ℕ) → Upto all n → Below values (at_height n)
  below n up name w is = let d = (are name w).0 is in by d.0 d.1
    where
      par : (m : ℕ) (o : Option Variable) → parameter_named text classes all name ≡ o → option_and_then (value_from text classes (at_height m)) o ≡ Some w → at_height n name ≡ Some w
      par m None at e = absurd (cc e)
      par m (Some p) at e =
          let s = find_stands (λ v. is_parameter v && bytes_eq name v.name) all p at in
          let same : name ≡ p.name = (bytes_eq-Decides name p.name).0 (and_right (is_parameter p) (bytes_eq name p.name) s.2) in
          ap (at_height n) same ∙ up s.0 p s.1 w (sym (ap values same) ∙ is)

      by : (m : ℕ) → at_height m name ≡ Some w → at_height n name ≡ Some w
      by zero e = absurd (cc e)
      by (suc m) e = par m (parameter_named text classes all name) refl e

  pub closed : (name : Ident) (p : Variable) (w : Value) → parameter_named text classes all name ≡ Some p → value_from text classes values p ≡ Some w → values name ≡ Some w
  closed name p w at is =
      let h = heights all in
      (are name w).1 (suc h.0, ap (option_and_then (value_from text classes (at_height h.0))) at ∙ value_grows text classes values (at_height h.0) (below h.0 h.1) p w is)
