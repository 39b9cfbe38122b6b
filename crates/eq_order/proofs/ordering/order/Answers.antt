use Rattle.std.proofs.Common.{◌≡◌, ◌∙◌, refl, ap, sym, subst, ◌<◌, ℕ, All, length, map, Ok, Err, arith}
use Rattle.std.proofs.lemmas.List.{with_items_is}
use Rattle.eq_order.specs.Order.{use_of}
use Rattle.eq_order.specs.private.Reaching.{waiting, list_at, AreTaken, flags_after}
use Rattle.eq_order.specs.private.Tables.{AreReads, HaveEnded, EndsAs, is_known}
use Rattle.eq_order.proofs.Composing.{setting_of, names_below, all_fresh, at_end, answer_ok, answer_err, answer_passed, flags_length}
use Rattle.eq_order.proofs.ordering.order.Goals as goal

pub mirrored-requires-clause-known : goal.mirrored-requires-clause-known
mirrored-requires-clause-known c =
    let s = setting_of c.args.flat.now c.args.clocking.now in
    let below = names_below s c.in_ok-reads.reads.items (c.in_ok-reads.ensures.reads s refl refl) in
    subst (λ n. All (All (λ x. x < n)) c.deref-2.result.now) (sym c.len.ensures)
    (subst (λ lists. All (All (λ x. x < length c.args.flat.now.names)) lists) (sym c.deref-2.ensures.value) below)

pub taken-requires-clause-fresh : goal.taken-requires-clause-fresh
taken-requires-clause-fresh c =
    let s = setting_of c.args.flat.now c.args.clocking.now in
    let reads = c.in_ok-reads.reads.items in
    let known = c.in_ok-reached.reached.items in
    let fresh = all_fresh s reads known (c.in_ok-reads.ensures.reads s refl refl) (c.in_ok-reached.ensures ∙ ap (map is_known) c.as_slice.ensures) in
    subst (λ flags. (i : ℕ) → waiting flags (list_at c.deref-3.result.now i) ≡ list_at c.deref-3.result.now i) (sym c.deref_mut.ensures.value)
    (subst (λ lists. (i : ℕ) → waiting known (list_at lists i) ≡ list_at lists i) (sym c.deref-3.ensures.value) fresh)

pub returns : goal.returns
returns c = λ s model clocks.
    let flat = c.args.flat.now in
    let reads = c.in_ok-reads.reads.items in
    let known = c.in_ok-reached.reached.items in
    let uses = c.in_ok-uses.uses in
    let are : AreReads s reads = c.in_ok-reads.ensures.reads s model clocks in
    let is : known ≡ map is_known s.model.names = c.in_ok-reached.ensures ∙ (ap (map is_known) c.as_slice.ensures ∙ ap (λ m. map is_known m.names) (sym model)) in
    let taken : AreTaken s.model.equations reads known uses =
    subst (λ all. AreTaken all reads known uses) (c.as_slice-2.ensures ∙ ap (λ m. m.equations) (sym model))
    (subst (λ lists. AreTaken c.as_slice-2.result.now lists known uses) c.deref-3.ensures.value
    (subst (λ flags. AreTaken c.as_slice-2.result.now c.deref-3.result.now flags uses) c.deref_mut.ensures.value c.in_ok-uses.ensures.taken)) in
    let flags : c.taken.new.reached ≡ flags_after known uses = c.in_ok-uses.ensures.flags ∙ ap (λ all. flags_after all uses) c.deref_mut.ensures.value in
    let size : length c.taken.new.reached ≡ c.in_ok-reached.reached.len = omega (arith, ap length flags, flags_length known uses, c.deref_mut.ensures.len, ap length c.deref_mut.ensures.value) in
    let now = c.deref-6.ensures.value ∙ (with_items_is c.in_ok-reached.reached c.taken.new.reached size ∙ flags) in
    let ended = subst (λ all. HaveEnded s all (map use_of uses)) (sym now) (at_end s reads known uses are is taken) in
    answer_ok s reads known uses are is taken
    (subst (λ all. EndsAs s (map use_of all) (Ok tt)) c.as_slice-3.ensures
    (c.in_ok-check_ended.ensures s model (subst (AreReads s) (sym c.deref-5.ensures.value) are) (subst (λ all. HaveEnded s c.deref-6.result.now (map use_of all)) (sym c.as_slice-3.ensures) ended)))

pub returns-in_err-check_ended : goal.returns-in_err-check_ended
returns-in_err-check_ended c = λ s model clocks.
    let flat = c.args.flat.now in
    let reads = c.in_ok-reads.reads.items in
    let known = c.in_ok-reached.reached.items in
    let uses = c.in_ok-uses.uses in
    let are : AreReads s reads = c.in_ok-reads.ensures.reads s model clocks in
    let is : known ≡ map is_known s.model.names = c.in_ok-reached.ensures ∙ (ap (map is_known) c.as_slice.ensures ∙ ap (λ m. map is_known m.names) (sym model)) in
    let taken : AreTaken s.model.equations reads known uses =
    subst (λ all. AreTaken all reads known uses) (c.as_slice-2.ensures ∙ ap (λ m. m.equations) (sym model))
    (subst (λ lists. AreTaken c.as_slice-2.result.now lists known uses) c.deref-3.ensures.value
    (subst (λ flags. AreTaken c.as_slice-2.result.now c.deref-3.result.now flags uses) c.deref_mut.ensures.value c.in_ok-uses.ensures.taken)) in
    let flags : c.taken.new.reached ≡ flags_after known uses = c.in_ok-uses.ensures.flags ∙ ap (λ all. flags_after all uses) c.deref_mut.ensures.value in
    let size : length c.taken.new.reached ≡ c.in_ok-reached.reached.len = omega (arith, ap length flags, flags_length known uses, c.deref_mut.ensures.len, ap length c.deref_mut.ensures.value) in
    let now = c.deref-6.ensures.value ∙ (with_items_is c.in_ok-reached.reached c.taken.new.reached size ∙ flags) in
    let ended = subst (λ all. HaveEnded s all (map use_of uses)) (sym now) (at_end s reads known uses are is taken) in
    let end = c.in_err-check_ended.field-0.0 in
    answer_passed s c.from_residual-in_err-check_ended.result end c.from_residual-in_err-check_ended.ensures.0 c.from_residual-in_err-check_ended.ensures.1
    (answer_err s reads known uses are is taken end
    (subst (λ all. EndsAs s (map use_of all) (Err end)) c.as_slice-3.ensures
    (c.in_err-check_ended.ensures s model (subst (AreReads s) (sym c.deref-5.ensures.value) are) (subst (λ all. HaveEnded s c.deref-6.result.now (map use_of all)) (sym c.as_slice-3.ensures) ended))))
