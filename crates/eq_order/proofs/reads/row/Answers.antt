use Rattle.std.proofs.Common.{◌≡◌, ◌∙◌, ap, sym, subst, ◌↔◌, ◌⊎◌, ◌+◌, true, arith}
use Rattle.std.specs.List.{Contains}
use Rattle.std.proofs.lemmas.List.Kept.{IsStrictlyIncreasing-filter}
use Rattle.flat_model.specs.declared.equation.Equation.TheVariants.{Valued}
use Rattle.flat_model.specs.Occurrences.{bare_count, held_count, converted_count}
use Rattle.flat_model.specs.Setting.{class_of_name}
use Rattle.flat_model.specs.Uses.{ClassesMeet}
use Rattle.eq_orient.specs.Gathered.{count_of}
use Rattle.eq_order.specs.private.Reaching.{is_waiting, waiting}
use Rattle.eq_order.specs.private.Tables.{IsRow}
use Rattle.eq_orient.proofs.Parted.{if_ok}
use Rattle.eq_order.proofs.Reading.{row_reads}
use Rattle.eq_order.proofs.reads.row.Goals as goal

pub returns : goal.returns
returns c =
    let clocking = c.args.clocking.now in
    let reached = c.args.reached.now in
    let class = c.args.class in
    let left = c.in-Valued.left in
    let right = c.in-Valued.right in
    let names = c.put_in_order-2.new.names.items in
    if_ok c.unreached.result _ _
    (λ list is. subst (λ e. IsRow clocking reached class e list) (sym c.in-Valued.is)
    (subst (IsRow clocking reached class (Valued left right c.in-Valued.clause)) (sym (is ∙ ap (waiting reached) c.deref-2.ensures.value)) (
      IsStrictlyIncreasing-filter (is_waiting reached) names c.put_in_order-2.ensures.rising,
      λ s same x.
          let none : count_of x c.new-converted.result.items ≡ 0 = ap (count_of x) c.new-converted.ensures.items in
          let none_too : count_of x c.new-names.result.items ≡ 0 = ap (count_of x) c.new-names.ensures.items in
          let a : count_of x c.gather.new.names.items ≡ count_of x c.new-converted.result.items + converted_count x left = c.in_ok-gather.ensures x in
          let b : count_of x c.gather-2.new.names.items ≡ count_of x c.gather.new.names.items + converted_count x right = c.in_ok-gather-2.ensures x in
          let d : count_of x c.gather-3.new.names.items ≡ count_of x c.new-names.result.items + bare_count x left = c.in_ok-gather-3.ensures x in
          let e : count_of x c.gather-4.new.names.items ≡ count_of x c.gather-3.new.names.items + bare_count x right = c.in_ok-gather-4.ensures x in
          let f : count_of x c.gather-5.new.names.items ≡ count_of x c.gather-4.new.names.items + held_count x left = c.in_ok-gather-5.ensures x in
          let g : count_of x c.gather-6.new.names.items ≡ count_of x c.gather-5.new.names.items + held_count x right = c.in_ok-gather-6.ensures x in
          row_reads s class left right reached c.gather-2.new.names.items c.put_in_order.new.names.items c.gather-6.new.names.items c.add_meeting.new.names.items names x
          (omega (arith, none, a, b)) (c.put_in_order.ensures.same x) (omega (arith, none_too, d, e, f, g))
          (subst (λ all. Contains c.add_meeting.new.names.items x ↔ (Contains c.gather-6.new.names.items x ⊎ (Contains all x × (is_waiting reached x ≡ true) × ClassesMeet s class (class_of_name s x))))
          c.deref.ensures.value (c.in_ok-add_meeting.ensures s same x))
          (c.put_in_order-2.ensures.same x),
    )))
    c.unreached.ensures
