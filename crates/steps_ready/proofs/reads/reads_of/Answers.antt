use Rattle.std.proofs.Common.{arith, ap, sym, subst, ◌≡◌, ◌≤◌, ◌+◌, ℕ}
use Rattle.flat_model.specs.declared.equation.Equation.TheVariants.{Valued}
use Rattle.flat_model.specs.Occurrences.{bare_count, held_count, converted_count}
use Rattle.tree_step.specs.declared.changed.Reads.{Reads}
use Rattle.tree_step.specs.Changed.{HasReads}
use Rattle.eq_orient.specs.Gathered.{count_of}
use Rattle.steps_ready.proofs.Gathered.{tell_side}
use Rattle.steps_ready.proofs.reads.reads_of.Goals as goal

pub returns : goal.returns
returns c =
    let left = c.in-Valued.left in
    let right = c.in-Valued.right in
    let reads : Reads = record { bare = c.from_vec.result; held = c.from_vec-2.result } in
    let bare : (x : ℕ) → (bare_count x left ≤ count_of x c.from_vec.result) × (bare_count x right ≤ count_of x c.from_vec.result) = λ x.
    let a : count_of x c.gather.new.names.items ≡ count_of x c.new-bare.result.items + bare_count x left = c.in_ok-gather.ensures x in
    let b : count_of x c.gather-2.new.names.items ≡ count_of x c.gather.new.names.items + bare_count x right = c.in_ok-gather-2.ensures x in
    let all : count_of x c.from_vec.result ≡ count_of x c.gather-2.new.names.items = ap (count_of x) c.from_vec.ensures in
    (omega (arith, a, b, all), omega (arith, a, b, all)) in
    let held : (x : ℕ) → (held_count x left + converted_count x left ≤ count_of x c.from_vec-2.result) × (held_count x right + converted_count x right ≤ count_of x c.from_vec-2.result) = λ x.
    let a : count_of x c.gather-3.new.names.items ≡ count_of x c.new-held.result.items + held_count x left = c.in_ok-gather-3.ensures x in
    let b : count_of x c.gather-4.new.names.items ≡ count_of x c.gather-3.new.names.items + held_count x right = c.in_ok-gather-4.ensures x in
    let d : count_of x c.gather-5.new.names.items ≡ count_of x c.gather-4.new.names.items + converted_count x left = c.in_ok-gather-5.ensures x in
    let e : count_of x c.gather-6.new.names.items ≡ count_of x c.gather-5.new.names.items + converted_count x right = c.in_ok-gather-6.ensures x in
    let all : count_of x c.from_vec-2.result ≡ count_of x c.gather-6.new.names.items = ap (count_of x) c.from_vec-2.ensures in
    (omega (arith, a, b, d, e, all), omega (arith, a, b, d, e, all)) in
    let both : HasReads (Valued left right c.in-Valued.clause) reads = (tell_side left reads (λ x. (bare x).0) (λ x. (held x).0), tell_side right reads (λ x. (bare x).1) (λ x. (held x).1)) in
    subst (λ equation. HasReads equation reads) (sym c.in-Valued.is) both
