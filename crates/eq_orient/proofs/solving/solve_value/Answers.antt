use Rattle.std.proofs.Common.{◌≡◌, ap, sym, subst, ◌∙◌, [], ◌∷◌, true, false, Err}
use Rattle.flat_model.specs.declared.equation.Equation.TheVariants.{Valued}
use Rattle.flat_model.specs.Operators.{Is, Fails}
use Rattle.flat_model.specs.Meaning.{value_of, seen_by}
use Rattle.flat_model.specs.Ways.{parts_beside}
use Rattle.eq_orient.specs.Spine.{IsSpineOf}
use Rattle.eq_orient.specs.Solving.{ArePresent, AreWellMade, Solves}
use Rattle.eq_orient.specs.private.Undoing.{AreValues, ChecksAll, beside}
use Rattle.eq_orient.proofs.Descent.{values_from}
use Rattle.eq_orient.proofs.Checking.{present_both, all_first, all_then, fails_alone}
use Rattle.eq_orient.proofs.Sides.{left_sided, right_sided, parts_left, parts_right, refused, other_fails, found}
use Rattle.eq_orient.proofs.solving.solve_value.Goals as goal

pub check_beside-requires-clause-way : goal.check_beside-requires-clause-way
check_beside-requires-clause-way g c =
    let v = g.V.Lookup.views c.args.values.now in
    let x = c.args.name in
    let left = c.in-Valued.left in let right = c.in-Valued.right in let clause = c.in-Valued.clause in
    let whole = Valued left right clause in
    let made = subst AreWellMade c.in-Valued.is c.requires.made in
    let here = subst (λ e. ArePresent (seen_by v (parts_beside x e))) c.in-Valued.is c.requires.present in
    let spine : IsSpineOf x whole true = subst (IsSpineOf x whole) c.if-spine.true (subst (λ e. IsSpineOf x e c.args.spine.left) c.in-Valued.is c.requires.spine) in
    let sided = left_sided x left right clause spine made in
    let parts = parts_left x left right clause v sided in
    let own = beside x left v in let other = value_of right v ∷ [] in
    let present = present_both own other (subst ArePresent parts here) in
    sided.way

pub check_beside-requires-clause-present : goal.check_beside-requires-clause-present
check_beside-requires-clause-present g c =
    let v = g.V.Lookup.views c.args.values.now in
    let x = c.args.name in
    let left = c.in-Valued.left in let right = c.in-Valued.right in let clause = c.in-Valued.clause in
    let whole = Valued left right clause in
    let made = subst AreWellMade c.in-Valued.is c.requires.made in
    let here = subst (λ e. ArePresent (seen_by v (parts_beside x e))) c.in-Valued.is c.requires.present in
    let spine : IsSpineOf x whole true = subst (IsSpineOf x whole) c.if-spine.true (subst (λ e. IsSpineOf x e c.args.spine.left) c.in-Valued.is c.requires.spine) in
    let sided = left_sided x left right clause spine made in
    let parts = parts_left x left right clause v sided in
    let own = beside x left v in let other = value_of right v ∷ [] in
    let present = present_both own other (subst ArePresent parts here) in
    present.0

pub eval-requires-clause-present : goal.eval-requires-clause-present
eval-requires-clause-present g c =
    let v = g.V.Lookup.views c.args.values.now in
    let x = c.args.name in
    let left = c.in-Valued.left in let right = c.in-Valued.right in let clause = c.in-Valued.clause in
    let whole = Valued left right clause in
    let made = subst AreWellMade c.in-Valued.is c.requires.made in
    let here = subst (λ e. ArePresent (seen_by v (parts_beside x e))) c.in-Valued.is c.requires.present in
    let spine : IsSpineOf x whole true = subst (IsSpineOf x whole) c.if-spine.true (subst (λ e. IsSpineOf x e c.args.spine.left) c.in-Valued.is c.requires.spine) in
    let sided = left_sided x left right clause spine made in
    let parts = parts_left x left right clause v sided in
    let own = beside x left v in let other = value_of right v ∷ [] in
    let present = present_both own other (subst ArePresent parts here) in
    present.1.0

pub undo-requires-clause-way : goal.undo-requires-clause-way
undo-requires-clause-way g c =
    let v = g.V.Lookup.views c.args.values.now in
    let x = c.args.name in
    let left = c.in-Valued.left in let right = c.in-Valued.right in let clause = c.in-Valued.clause in
    let whole = Valued left right clause in
    let made = subst AreWellMade c.in-Valued.is c.requires.made in
    let here = subst (λ e. ArePresent (seen_by v (parts_beside x e))) c.in-Valued.is c.requires.present in
    let spine : IsSpineOf x whole true = subst (IsSpineOf x whole) c.if-spine.true (subst (λ e. IsSpineOf x e c.args.spine.left) c.in-Valued.is c.requires.spine) in
    let sided = left_sided x left right clause spine made in
    let parts = parts_left x left right clause v sided in
    let own = beside x left v in let other = value_of right v ∷ [] in
    let present = present_both own other (subst ArePresent parts here) in
    sided.way

pub eval-requires-else-spine-clause-present : goal.eval-requires-else-spine-clause-present
eval-requires-else-spine-clause-present g c =
    let v = g.V.Lookup.views c.args.values.now in
    let x = c.args.name in
    let left = c.in-Valued.left in let right = c.in-Valued.right in let clause = c.in-Valued.clause in
    let whole = Valued left right clause in
    let made = subst AreWellMade c.in-Valued.is c.requires.made in
    let here = subst (λ e. ArePresent (seen_by v (parts_beside x e))) c.in-Valued.is c.requires.present in
    let spine : IsSpineOf x whole false = subst (IsSpineOf x whole) c.if-spine.false (subst (λ e. IsSpineOf x e c.args.spine.left) c.in-Valued.is c.requires.spine) in
    let sided = right_sided x left right clause spine made in
    let parts = parts_right x left right clause v sided in
    let own = beside x right v in let other = value_of left v ∷ [] in
    let present = present_both other own (subst ArePresent parts here) in
    present.0.0

pub check_beside-requires-else-spine-clause-way : goal.check_beside-requires-else-spine-clause-way
check_beside-requires-else-spine-clause-way g c =
    let v = g.V.Lookup.views c.args.values.now in
    let x = c.args.name in
    let left = c.in-Valued.left in let right = c.in-Valued.right in let clause = c.in-Valued.clause in
    let whole = Valued left right clause in
    let made = subst AreWellMade c.in-Valued.is c.requires.made in
    let here = subst (λ e. ArePresent (seen_by v (parts_beside x e))) c.in-Valued.is c.requires.present in
    let spine : IsSpineOf x whole false = subst (IsSpineOf x whole) c.if-spine.false (subst (λ e. IsSpineOf x e c.args.spine.left) c.in-Valued.is c.requires.spine) in
    let sided = right_sided x left right clause spine made in
    let parts = parts_right x left right clause v sided in
    let own = beside x right v in let other = value_of left v ∷ [] in
    let present = present_both other own (subst ArePresent parts here) in
    sided.way

pub check_beside-requires-else-spine-clause-present : goal.check_beside-requires-else-spine-clause-present
check_beside-requires-else-spine-clause-present g c =
    let v = g.V.Lookup.views c.args.values.now in
    let x = c.args.name in
    let left = c.in-Valued.left in let right = c.in-Valued.right in let clause = c.in-Valued.clause in
    let whole = Valued left right clause in
    let made = subst AreWellMade c.in-Valued.is c.requires.made in
    let here = subst (λ e. ArePresent (seen_by v (parts_beside x e))) c.in-Valued.is c.requires.present in
    let spine : IsSpineOf x whole false = subst (IsSpineOf x whole) c.if-spine.false (subst (λ e. IsSpineOf x e c.args.spine.left) c.in-Valued.is c.requires.spine) in
    let sided = right_sided x left right clause spine made in
    let parts = parts_right x left right clause v sided in
    let own = beside x right v in let other = value_of left v ∷ [] in
    let present = present_both other own (subst ArePresent parts here) in
    present.1

pub undo-requires-in-Ok-check_beside-clause-way : goal.undo-requires-in-Ok-check_beside-clause-way
undo-requires-in-Ok-check_beside-clause-way g c =
    let v = g.V.Lookup.views c.args.values.now in
    let x = c.args.name in
    let left = c.in-Valued.left in let right = c.in-Valued.right in let clause = c.in-Valued.clause in
    let whole = Valued left right clause in
    let made = subst AreWellMade c.in-Valued.is c.requires.made in
    let here = subst (λ e. ArePresent (seen_by v (parts_beside x e))) c.in-Valued.is c.requires.present in
    let spine : IsSpineOf x whole false = subst (IsSpineOf x whole) c.if-spine.false (subst (λ e. IsSpineOf x e c.args.spine.left) c.in-Valued.is c.requires.spine) in
    let sided = right_sided x left right clause spine made in
    let parts = parts_right x left right clause v sided in
    let own = beside x right v in let other = value_of left v ∷ [] in
    let present = present_both other own (subst ArePresent parts here) in
    sided.way

pub returns-in-Err : goal.returns-in-Err
returns-in-Err g c =
    let v = g.V.Lookup.views c.args.values.now in
    let x = c.args.name in
    let left = c.in-Valued.left in let right = c.in-Valued.right in let clause = c.in-Valued.clause in
    let whole = Valued left right clause in
    let made = subst AreWellMade c.in-Valued.is c.requires.made in
    let here = subst (λ e. ArePresent (seen_by v (parts_beside x e))) c.in-Valued.is c.requires.present in
    let spine : IsSpineOf x whole true = subst (IsSpineOf x whole) c.if-spine.true (subst (λ e. IsSpineOf x e c.args.spine.left) c.in-Valued.is c.requires.spine) in
    let sided = left_sided x left right clause spine made in
    let parts = parts_left x left right clause v sided in
    let own = beside x left v in let other = value_of right v ∷ [] in
    let present = present_both own other (subst ArePresent parts here) in
    let checks = c.in-Err.ensures in
    let first = all_first own other c.in-Err.kind present.0 checks.0 in
    subst (λ e. Solves x e v (Err c.in-Err.kind)) (sym c.in-Valued.is)
    (refused x whole v left right sided.none (λ w one. one) (λ w u one two. (u, one, two)) c.in-Err.kind (subst (λ ps. ChecksAll ps (Err c.in-Err.kind)) (sym parts) first).0 checks.1)

pub returns-in-Err-eval : goal.returns-in-Err-eval
returns-in-Err-eval g c =
    let v = g.V.Lookup.views c.args.values.now in
    let x = c.args.name in
    let left = c.in-Valued.left in let right = c.in-Valued.right in let clause = c.in-Valued.clause in
    let whole = Valued left right clause in
    let made = subst AreWellMade c.in-Valued.is c.requires.made in
    let here = subst (λ e. ArePresent (seen_by v (parts_beside x e))) c.in-Valued.is c.requires.present in
    let spine : IsSpineOf x whole true = subst (IsSpineOf x whole) c.if-spine.true (subst (λ e. IsSpineOf x e c.args.spine.left) c.in-Valued.is c.requires.spine) in
    let sided = left_sided x left right clause spine made in
    let parts = parts_left x left right clause v sided in
    let own = beside x left v in let other = value_of right v ∷ [] in
    let present = present_both own other (subst ArePresent parts here) in
    let values : AreValues own = c.in-Ok.ensures in
    let fails : value_of right v ≡ Fails c.in-Err-eval.kind = sym c.in-Err-eval.ensures in
    let first = all_then own other (Err c.in-Err-eval.kind) values (fails_alone (value_of right v) c.in-Err-eval.kind fails) in
    subst (λ e. Solves x e v (Err c.in-Err-eval.kind)) (sym c.in-Valued.is)
    (other_fails x whole v left right sided.none (λ w one. one) (λ w u one two. (u, one, two)) c.in-Err-eval.kind (subst (λ ps. ChecksAll ps (Err c.in-Err-eval.kind)) (sym parts) first).0 fails)

pub returns-in-Ok-eval : goal.returns-in-Ok-eval
returns-in-Ok-eval g c =
    let v = g.V.Lookup.views c.args.values.now in
    let x = c.args.name in
    let left = c.in-Valued.left in let right = c.in-Valued.right in let clause = c.in-Valued.clause in
    let whole = Valued left right clause in
    let made = subst AreWellMade c.in-Valued.is c.requires.made in
    let here = subst (λ e. ArePresent (seen_by v (parts_beside x e))) c.in-Valued.is c.requires.present in
    let spine : IsSpineOf x whole true = subst (IsSpineOf x whole) c.if-spine.true (subst (λ e. IsSpineOf x e c.args.spine.left) c.in-Valued.is c.requires.spine) in
    let sided = left_sided x left right clause spine made in
    let parts = parts_left x left right clause v sided in
    let own = beside x left v in let other = value_of right v ∷ [] in
    let present = present_both own other (subst ArePresent parts here) in
    let values : AreValues own = c.in-Ok.ensures in
    let value : value_of right v ≡ Is c.of_machine.result = sym c.in-Ok-eval.ensures ∙ ap Is (sym c.of_machine.ensures.same) in
    let all = subst AreValues (sym parts) (values_from own other values ((c.of_machine.result, value), tt)) in
    subst (λ e. Solves x e v c.undo.result) (sym c.in-Valued.is)
    (found x whole v left right sided.none (λ w one. one) (λ w u one two. (u, one, two)) c.of_machine.result c.undo.result all value c.undo.ensures)

pub returns-in-Err-eval-2 : goal.returns-in-Err-eval-2
returns-in-Err-eval-2 g c =
    let v = g.V.Lookup.views c.args.values.now in
    let x = c.args.name in
    let left = c.in-Valued.left in let right = c.in-Valued.right in let clause = c.in-Valued.clause in
    let whole = Valued left right clause in
    let made = subst AreWellMade c.in-Valued.is c.requires.made in
    let here = subst (λ e. ArePresent (seen_by v (parts_beside x e))) c.in-Valued.is c.requires.present in
    let spine : IsSpineOf x whole false = subst (IsSpineOf x whole) c.if-spine.false (subst (λ e. IsSpineOf x e c.args.spine.left) c.in-Valued.is c.requires.spine) in
    let sided = right_sided x left right clause spine made in
    let parts = parts_right x left right clause v sided in
    let own = beside x right v in let other = value_of left v ∷ [] in
    let present = present_both other own (subst ArePresent parts here) in
    let fails : value_of left v ≡ Fails c.in-Err-eval-2.kind = sym c.in-Err-eval-2.ensures in
    let first = all_first other own c.in-Err-eval-2.kind present.0 (fails_alone (value_of left v) c.in-Err-eval-2.kind fails) in
    subst (λ e. Solves x e v (Err c.in-Err-eval-2.kind)) (sym c.in-Valued.is)
    (other_fails x whole v right left sided.none (λ w one. (one.0, one.2, one.1)) (λ w u one two. (u, two, one)) c.in-Err-eval-2.kind (subst (λ ps. ChecksAll ps (Err c.in-Err-eval-2.kind)) (sym parts) first).0 fails)

pub returns-in-Err-check_beside : goal.returns-in-Err-check_beside
returns-in-Err-check_beside g c =
    let v = g.V.Lookup.views c.args.values.now in
    let x = c.args.name in
    let left = c.in-Valued.left in let right = c.in-Valued.right in let clause = c.in-Valued.clause in
    let whole = Valued left right clause in
    let made = subst AreWellMade c.in-Valued.is c.requires.made in
    let here = subst (λ e. ArePresent (seen_by v (parts_beside x e))) c.in-Valued.is c.requires.present in
    let spine : IsSpineOf x whole false = subst (IsSpineOf x whole) c.if-spine.false (subst (λ e. IsSpineOf x e c.args.spine.left) c.in-Valued.is c.requires.spine) in
    let sided = right_sided x left right clause spine made in
    let parts = parts_right x left right clause v sided in
    let own = beside x right v in let other = value_of left v ∷ [] in
    let present = present_both other own (subst ArePresent parts here) in
    let checks = c.in-Err-check_beside.ensures in
    let value : value_of left v ≡ Is c.in-Ok-eval-2.target = sym c.in-Ok-eval-2.ensures in
    let first = all_then other own (Err c.in-Err-check_beside.kind) ((c.in-Ok-eval-2.target, value), tt) checks.0 in
    subst (λ e. Solves x e v (Err c.in-Err-check_beside.kind)) (sym c.in-Valued.is)
    (refused x whole v right left sided.none (λ w one. (one.0, one.2, one.1)) (λ w u one two. (u, two, one)) c.in-Err-check_beside.kind (subst (λ ps. ChecksAll ps (Err c.in-Err-check_beside.kind)) (sym parts) first).0 checks.1)

pub returns-in-Ok-check_beside : goal.returns-in-Ok-check_beside
returns-in-Ok-check_beside g c =
    let v = g.V.Lookup.views c.args.values.now in
    let x = c.args.name in
    let left = c.in-Valued.left in let right = c.in-Valued.right in let clause = c.in-Valued.clause in
    let whole = Valued left right clause in
    let made = subst AreWellMade c.in-Valued.is c.requires.made in
    let here = subst (λ e. ArePresent (seen_by v (parts_beside x e))) c.in-Valued.is c.requires.present in
    let spine : IsSpineOf x whole false = subst (IsSpineOf x whole) c.if-spine.false (subst (λ e. IsSpineOf x e c.args.spine.left) c.in-Valued.is c.requires.spine) in
    let sided = right_sided x left right clause spine made in
    let parts = parts_right x left right clause v sided in
    let own = beside x right v in let other = value_of left v ∷ [] in
    let present = present_both other own (subst ArePresent parts here) in
    let m = c.of_machine-in-Ok-check_beside in
    let values : AreValues own = c.in-Ok-check_beside.ensures in
    let value : value_of left v ≡ Is m.result = sym c.in-Ok-eval-2.ensures ∙ ap Is (sym m.ensures.same) in
    let all = subst AreValues (sym parts) (values_from other own ((m.result, value), tt) values) in
    subst (λ e. Solves x e v c.undo-in-Ok-check_beside.result) (sym c.in-Valued.is)
    (found x whole v right left sided.none (λ w one. (one.0, one.2, one.1)) (λ w u one two. (u, two, one)) m.result c.undo-in-Ok-check_beside.result all value c.undo-in-Ok-check_beside.ensures)
