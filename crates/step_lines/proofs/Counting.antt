-- How many cells instructions need.
use Rattle.std.proofs.Common.{◌≡◌, ap, sym, subst, ◌∙◌, ℕ, zero, suc, ◌+◌, ◌-◌, ◌<◌, ◌≤◌, ◌↔◌, true, false, List, ◌∷◌, length, drop, get_or, drop-cons, arith}
use Rattle.std.proofs.lemmas.Bool.{false≢true}
use Rattle.std.proofs.lemmas.List.{drop_all}
use Rattle.step_code.specs.declared.machine.Instr.{Instr}
use Rattle.step_code.specs.Machine.{is_value, IsWithin, AreWithin}

-- so many cells are the least for an instruction
abbrev pub Needs : Instr → ℕ → Type 0
Needs i m = (n : ℕ) → (m ≤ n) ↔ IsWithin n i

pub needs_value : (i : Instr) (m k : ℕ) → is_value i.op ≡ true → ((n : ℕ) → (k ≤ n) ↔ ((i.left + 1 ≤ n) × (i.right + 1 ≤ n))) → ((n : ℕ) → (m ≤ n) ↔ ((k ≤ n) × (i.to + 1 ≤ n))) → Needs i m
needs_value i m k is operands all n = (
  λ le.
      let both = (all n).0 le in
      let two = (operands n).0 both.0 in
      let a = two.0 in
      let b = two.1 in
      let c = both.1 in
      record { left = omega (arith, a); right = omega (arith, b); to = λ e. omega (arith, c) },
  λ within.
      let a = within.left in
      let b = within.right in
      let c = within.to is in
      (all n).1 ((operands n).1 (omega (arith, a), omega (arith, b)), omega (arith, c)),
)

pub needs_skip : (i : Instr) (k : ℕ) → is_value i.op ≡ false → ((n : ℕ) → (k ≤ n) ↔ ((i.left + 1 ≤ n) × (i.right + 1 ≤ n))) → Needs i k
needs_skip i k is operands n = (
  λ le.
      let two = (operands n).0 le in
      let a = two.0 in
      let b = two.1 in
      record { left = omega (arith, a); right = omega (arith, b); to = λ e. absurd (false≢true (sym is ∙ e)) },
  λ within.
      let a = within.left in
      let b = within.right in
      (operands n).1 (omega (arith, a), omega (arith, b)),
)

-- so many cells are the least for the instructions from here on
pub record Counted (code : List Instr) (i count : ℕ) : Type 0 where
  pub within : i ≤ length code
  pub least : (n : ℕ) → (count ≤ n) ↔ AreWithin n (drop i code)

pub counted_none : (code : List Instr) → Counted code (length code) 0
counted_none code = record {
  within = omega arith;
  least = λ n. (λ le. subst (AreWithin n) (sym (drop_all (length code) code (omega arith))) tt, λ w. omega arith);
}

pub counted_more : (code : List Instr) (i count one new : ℕ) (d : Instr) → 0 < i → Counted code i count → Needs (get_or code (i - 1) d) one → ((n : ℕ) → (new ≤ n) ↔ ((one ≤ n) × (count ≤ n))) → Counted code (i - 1) new
counted_more code i count one new d some counted needs both =
    let k = i - 1 in
    let step : suc k ≡ i = omega (arith, some) in
    let inside : k < length code = omega (arith, some, counted.within) in
    let head : drop k code ≡ get_or code k d ∷ drop i code = drop-cons code k d inside ∙ ap (λ m. get_or code k d ∷ drop m code) step in
    record {
      within = omega (arith, inside);
      least = λ n. (
        λ le. let two = (both n).0 le in subst (AreWithin n) (sym head) ((needs n).0 two.0, (counted.least n).0 two.1),
        λ within. let two = subst (AreWithin n) head within in (both n).1 ((needs n).1 two.0, (counted.least n).1 two.1),
      );
    }

pub counted_all : (code : List Instr) (i count : ℕ) → i ≤ 0 → Counted code i count → (n : ℕ) → (count ≤ n) ↔ AreWithin n code
counted_all code zero count done counted = counted.least
counted_all code (suc i) count done counted = absurd (omega (arith, done))
