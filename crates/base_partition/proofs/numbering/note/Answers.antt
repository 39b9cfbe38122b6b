use Rattle.std.proofs.Common.{rules, ◌≡◌, ◌+◌, length, OnOk, [], ◌∷◌, ◌++◌, true, false, refl, sym, subst, ◌∙◌, slice_index_or}
use Rattle.base_partition.specs.private.Numbered.{is_member, first_of, AreNumbers}
use Rattle.base_partition.proofs.Places.{kept, begun, found_first, on_ok}
use Rattle.base_partition.proofs.numbering.note.Goals as goal

pub returns-then-not-members-i : goal.returns-then-not-members-i
returns-then-not-members-i c =
    let first = c.args.first.now in
    let members = c.args.members.now in
    let it = c.args.it.now in
    let out : is_member c.args.members.now c.args.i ≡ false = search rules in
    on_ok (c.push.new.self ≡ it.places ++ 0 ∷ []) _ c.push.result
    (λ e. subst (λ ps. AreNumbers first members (c.args.i + 1) it.firsts ps) (sym e) (kept first members c.args.i it.firsts it.places c.requires.numbers 0 (λ m. absurd (let e : true ≡ false = sym m ∙ out in cc e)) (λ _. refl)))
    c.push.ensures.ok

pub returns-then-own-i : goal.returns-then-own-i
returns-then-own-i c =
    let first = c.args.first.now in
    let members = c.args.members.now in
    let it = c.args.it.now in
    let m : is_member c.args.members.now c.args.i ≡ true = search rules in
    let own : first_of c.args.first.now c.args.i ≡ c.args.i = search rules in
    let ef : c.push-then-own-i.new.self ≡ c.args.it.now.firsts ++ c.args.i ∷ [] = search rules in
    let all : OnOk c.push-then-own-i-2.result (c.push-then-own-i-2.new.self ≡ c.args.it.now.places ++ length c.args.it.now.firsts ∷ []) = search rules in
    on_ok (c.push-then-own-i-2.new.self ≡ it.places ++ length it.firsts ∷ []) _ c.push-then-own-i-2.result
    (λ e. subst (λ ps. AreNumbers first members (c.args.i + 1) c.push-then-own-i.new.self ps) (sym e)
    (subst (λ fs. AreNumbers first members (c.args.i + 1) fs (it.places ++ length it.firsts ∷ [])) (sym ef) (begun first members c.args.i it.firsts it.places c.requires.numbers m own)))
    all

pub returns : goal.returns
returns c =
    let first = c.args.first.now in
    let members = c.args.members.now in
    let it = c.args.it.now in
    let m : is_member c.args.members.now c.args.i ≡ true = search rules in
    let ne : first_of c.args.first.now c.args.i ≡ c.args.i → ⊥ = search rules in
    let all : OnOk c.push-2.result (c.push-2.new.self ≡ c.args.it.now.places ++ slice_index_or c.args.it.now.places (first_of c.args.first.now c.args.i) 0 ∷ []) = search rules in
    on_ok (c.push-2.new.self ≡ it.places ++ slice_index_or it.places (first_of first c.args.i) 0 ∷ []) _ c.push-2.result
    (λ e. subst (λ ps. AreNumbers first members (c.args.i + 1) it.firsts ps) (sym e)
    (kept first members c.args.i it.firsts it.places c.requires.numbers (slice_index_or it.places (first_of first c.args.i) 0)
    (λ m. found_first first members c.args.i it.firsts it.places c.requires.numbers c.requires.firsts m ne) (λ n. absurd (let e : true ≡ false = sym m ∙ n in cc e))))
    all
