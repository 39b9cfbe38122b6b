use Rattle.std.proofs.Common.{◌≡◌, ◌<◌, [], Some, length, slice_get, arith, refl, sym, ap, subst, ◌∙◌}
use Rattle.std.proofs.lemmas.List.{get_or_read}
use Rattle.std.proofs.lemmas.Option.{slice_get_read, same_Some}
use Rattle.flat_model.specs.Uses.{IsSolvableFor}
use Rattle.eq_order.specs.private.Reaching.{waiting, list_at}
use Rattle.eq_order.proofs.Turns.{waits_alone, counts_one}
use Rattle.eq_order.proofs.reaching.use_of.Goals as goal

pub returns-then-left-i-ne1 : goal.returns-then-left-i-ne1
returns-then-left-i-ne1 c = λ x take. c.if-left-i-ne1.true (c.requires.left c.args.i ∙ counts_one c.args.reached.now (list_at c.args.reads.now c.args.i) x take.0)

pub returns-in_default-solvable : goal.returns-in_default-solvable
returns-in_default-solvable c = λ x take.
    let inside : c.args.i < length c.args.reads.now = omega (arith, c.requires.within, c.requires.long, c.requires.counted) in
    let names : c.as_slice.result.now ≡ list_at c.args.reads.now c.args.i = c.as_slice.ensures ∙ get_or_read c.args.reads.now c.args.i c.index-reads-i.result inside c.index-reads-i.is [] in
    let first : slice_get (waiting c.args.reached.now (list_at c.args.reads.now c.args.i)) 0 ≡ Some c.in-Some.name =
    ap (λ list. slice_get (waiting c.args.reached.now list) 0) (sym names) ∙ sym c.first_waiting.ensures ∙ c.in-Some.is in
    let found : slice_get c.args.equations.now c.args.i ≡ Some c.index-equations-i.result =
    slice_get_read c.args.equations.now (length c.args.equations.now) c.args.i c.index-equations-i.result refl (omega (arith, c.requires.within, c.requires.counted)) c.index-equations-i.is in
    let one : Some x ≡ Some c.in-Some.name = sym (ap (λ list. slice_get list 0) take.0) ∙ first in
    let same : take.1.0 ≡ c.index-equations-i.result = same_Some take.1.0 c.index-equations-i.result (sym take.1.1 ∙ found) in
    c.in_default-solvable.ensures (subst (λ e. IsSolvableFor c.in-Some.name e) same (subst (λ n. IsSolvableFor n take.1.0) (same_Some x c.in-Some.name one) take.1.2))

pub returns : goal.returns
returns c =
    let inside : c.args.i < length c.args.reads.now = omega (arith, c.requires.within, c.requires.long, c.requires.counted) in
    let names : c.as_slice.result.now ≡ list_at c.args.reads.now c.args.i = c.as_slice.ensures ∙ get_or_read c.args.reads.now c.args.i c.index-reads-i.result inside c.index-reads-i.is [] in
    let first : slice_get (waiting c.args.reached.now (list_at c.args.reads.now c.args.i)) 0 ≡ Some c.in-Some.name =
    ap (λ list. slice_get (waiting c.args.reached.now list) 0) (sym names) ∙ sym c.first_waiting.ensures ∙ c.in-Some.is in
    let found : slice_get c.args.equations.now c.args.i ≡ Some c.index-equations-i.result =
    slice_get_read c.args.equations.now (length c.args.equations.now) c.args.i c.index-equations-i.result refl (omega (arith, c.requires.within, c.requires.counted)) c.index-equations-i.is in
    (refl, (waits_alone c.args.reached.now (list_at c.args.reads.now c.args.i) c.in-Some.name (sym (c.requires.left c.args.i) ∙ c.if-left-i-ne1.false) first, (c.index-equations-i.result, found, c.in-Some-solvable.ensures.0)), (c.index-equations-i.result, found, c.in-Some-solvable.ensures.1))
