-- Stages that have one answer each have one together.
use Rattle.std.proofs.Common.{◌≡◌, ap, sym, subst, ◌∙◌, inl, inr, Option, Some, None, Result, Ok, Err}
use Rattle.command_answer.specs.Stages.{Answer, Stage, ◌>>=◌, always, ends_with, layer}

-- at most one thing is so
abbrev pub IsOnly : {A : Type 0} → (A → Type 0) → Type 0
IsOnly P = (x y : _) → P x → P y → x ≡ y

-- a stage makes one thing or ends with one answer, and never both
pub record IsOne {A : Type 0} (R : Stage A) : Type 0 where
  pub one_made : (x y : A) → R.makes x → R.makes y → x ≡ y
  pub one_end : (a b : Answer) → R.ends a → R.ends b → a ≡ b
  pub never_both : (x : A) (a : Answer) → R.makes x → R.ends a → ⊥

-- two stages one after the other
pub both_one : {A B : Type 0} (R : Stage A) (S : A → Stage B) → IsOne R → ((x : A) → R.makes x → IsOne (S x)) → IsOne (R >>= S)
unfolding ◌>>=◌
both_one {A} {B} R S first next = record {
  one_made = λ y z (x, made, then) (x', made', then'). (next x' made').one_made y z (moved x x' made made' (λ k. (S k).makes y) then) then';
  one_end = ends;
  never_both = never;
}
  where
    moved : (x x' : A) → R.makes x → R.makes x' → (P : A → Type 0) → P x → P x'
    moved x x' made made' P p = subst P (first.one_made x x' made made') p

    ends : (a b : Answer) → (R >>= S).ends a → (R >>= S).ends b → a ≡ b
    ends a b (inl e) (inl f) = first.one_end a b e f
    ends a b (inl e) (inr (x, made, f)) = absurd (first.never_both x a made e)
    ends a b (inr (x, made, e)) (inl f) = absurd (first.never_both x b made f)
    ends a b (inr (x, made, e)) (inr (x', made', f)) = (next x' made').one_end a b (moved x x' made made' (λ k. (S k).ends a) e) f

    never : (y : B) (a : Answer) → (R >>= S).makes y → (R >>= S).ends a → ⊥
    never y a (x, made, then) (inl e) = first.never_both x a made e
    never y a (x, made, then) (inr (x', made', e)) = (next x' made').never_both y a (moved x x' made made' (λ k. (S k).makes y) then) e

-- an end
pub end_one : (P : Answer → Type 0) → IsOnly P → IsOne (ends_with P)
unfolding ends_with
end_one P only = record { one_made = λ x y m n. absurd m; one_end = only; never_both = λ x a m e. m }

-- what breaks no rule, where there is one such thing
pub always_one : {A : Type 0} (P : A → Type 0) → IsOnly P → IsOne (always P)
unfolding always
always_one P only = record { one_made = only; one_end = λ a b e f. absurd e; never_both = λ x a m e. e }

-- what a stage makes another one makes, and where it ends so does the other
pub record Below {A : Type 0} (R T : Stage A) : Type 0 where
  pub makes : (x : A) → R.makes x → T.makes x
  pub ends : (a : Answer) → R.ends a → T.ends a

pub below_after : {A B : Type 0} (R : Stage A) (S T : A → Stage B) → ((x : A) → Below (S x) (T x)) → Below (R >>= S) (R >>= T)
unfolding ◌>>=◌
below_after {A} {B} R S T next = record { makes = λ y (x, m, n). (x, m, (next x).makes y n); ends = ends }
  where
    ends : (a : Answer) → (R >>= S).ends a → (R >>= T).ends a
    ends a (inl e) = inl e
    ends a (inr (x, m, e)) = inr (x, m, (next x).ends a e)

pub below_both : {A B : Type 0} (R R' : Stage A) (S S' : A → Stage B) → Below R R' → ((x : A) → Below (S x) (S' x)) → Below (R >>= S) (R' >>= S')
unfolding ◌>>=◌
below_both {A} {B} R R' S S' first next = record { makes = λ y (x, m, n). (x, first.makes x m, (next x).makes y n); ends = ends }
  where
    ends : (a : Answer) → (R >>= S).ends a → (R' >>= S').ends a
    ends a (inl e) = inl (first.ends a e)
    ends a (inr (x, m, e)) = inr (x, first.makes x m, (next x).ends a e)

pub below_layer : {A E : Type 0} (P Q : Result A E → Type 0) (told : E → Option Answer) → ((r : Result A E) → P r → Q r) → Below (layer P told) (layer Q told)
unfolding layer
below_layer P Q told up = record { makes = λ x p. up (Ok x) p; ends = λ a (end, p, t). (end, up (Err end) p, t) }

-- there may be several such things, where what comes next does the same with each
pub any_one : {A B : Type 0} (P : A → Type 0) (S : A → Stage B) → ((x y : A) → P x → P y → Below (S x) (S y)) → ((x : A) → P x → IsOne (S x)) → IsOne (always P >>= S)
unfolding ◌>>=◌ always
any_one {A} {B} P S alike next = record {
  one_made = λ y z (x, made, then) (x', made', then'). (next x' made').one_made y z ((alike x x' made made').makes y then) then';
  one_end = ends;
  never_both = never;
}
  where
    ends : (a b : Answer) → (always P >>= S).ends a → (always P >>= S).ends b → a ≡ b
    ends a b (inl e) f = absurd e
    ends a b (inr e) (inl f) = absurd f
    ends a b (inr (x, made, e)) (inr (x', made', f)) = (next x' made').one_end a b ((alike x x' made made').ends a e) f

    never : (y : B) (a : Answer) → (always P >>= S).makes y → (always P >>= S).ends a → ⊥
    never y a (x, made, then) (inl e) = e
    never y a (x, made, then) (inr (x', made', e)) = (next x' made').never_both y a ((alike x x' made made').makes y then) e

-- what a layer makes, or an end that is told
abbrev pub IsTold : {A E : Type 0} → (E → Option Answer) → Result A E → Type 0
IsTold told (Ok x) = Unit {0}
IsTold told (Err end) = (a : Answer) × (told end ≡ Some a)

pub none_told : (a : Answer) → None ≡ Some a → ⊥
none_told a e = cc

-- an end that is told is no want of memory
pub not_memory : {A E : Type 0} (told : E → Option Answer) (none : E) → told none ≡ None → (r : Result A E) → IsTold told r → r ≡ Err none → ⊥
not_memory {A} {E} told none silent r t is = let (a, e) = moved in none_told a (sym silent ∙ e)
  where
    moved : (a : Answer) × (told none ≡ Some a)
    moved = subst (λ (k : Result A E). IsTold told k) is t

-- two told answers of a layer are one
abbrev pub IsOnce : {A E : Type 0} → (Result A E → Type 0) → (E → Option Answer) → Type 0
IsOnce {A} {E} P told = (r s : Result A E) → P r → P s → IsTold told r → IsTold told s → r ≡ s

pub layer_one : {A E : Type 0} (P : Result A E → Type 0) (told : E → Option Answer) → IsOnce P told → IsOne (layer P told)
unfolding layer
layer_one {A} {E} P told once = record {
  one_made = λ x y p q. let same : Ok x ≡ Ok y = once (Ok x) (Ok y) p q tt tt in cc;
  one_end = λ a b (end, p, t) (other, q, u).
      let same : Err end ≡ Err other = once (Err end) (Err other) p q (a, t) (b, u) in
      let one : end ≡ other = cc in
      let answers : Some a ≡ Some b = sym t ∙ ap told one ∙ u in cc;
  never_both = λ x a p (end, q, t). let same : Ok x ≡ Err end = once (Ok x) (Err end) p q tt (a, t) in cc;
}
