use Rattle.std.proofs.Common.{rules, arith, ◌≡◌, ◌≢◌, ◌↔◌, ◌∙◌, ◌<◌, ℕ, Contains, true, [], filter, sym, subst, length, slice_index_or, All}
use Rattle.std.proofs.lemmas.List.{get_or_default}
use Rattle.std.proofs.lemmas.Result.{IfOk-weaker}
use Rattle.std.proofs.lemmas.List.Elements.{All-filter, filter_passes}
use Rattle.clock_spread.specs.declared.offers.Found.TheVariants.{Not}
use Rattle.clock_spread.specs.Found.{class_in, found_of, HasEnds, touches}
use Rattle.clock_spread.specs.Queue.{marked}
use Rattle.clock_spread.specs.Turn.{AreTouching}
use Rattle.clock_spread.proofs.Turning.{stands_start}
use Rattle.clock_spread.proofs.Starting.{marked_within}
use Rattle.clock_spread.proofs.start.spread.Goals as goal

pub spread_from-requires-clause-ends : goal.spread_from-requires-clause-ends
spread_from-requires-clause-ends c = λ k d within.
    let lists : c.deref-2.result.now ≡ c.in_ok-lists.lists.items = search rules in
    let size : length c.deref-2.result.now ≡ c.in-Ok.count = search rules in
    let lt : k < c.in-Ok.count = omega (arith, size, within) in
    let one : slice_index_or c.deref-2.result.now k d ≡ filter (touches (class_in c.args.class_of.now) k) c.args.relations.now =
    get_or_default c.deref-2.result.now k d [] within ∙ subst (λ l. slice_index_or l k [] ≡ filter (touches (class_in c.args.class_of.now) k) c.args.relations.now) (sym lists) (c.in_ok-lists.ensures.lists k lt) in
    subst (λ l. All (HasEnds c.args.class_of.now) l) (sym one) (All-filter (touches (class_in c.args.class_of.now) k) (HasEnds c.args.class_of.now) c.args.relations.now c.requires.ends)

pub spread_from-requires-clause-touches : goal.spread_from-requires-clause-touches
spread_from-requires-clause-touches c = λ k within.
    let lists : c.deref-2.result.now ≡ c.in_ok-lists.lists.items = search rules in
    let size : length c.deref-2.result.now ≡ c.in-Ok.count = search rules in
    let lt : k < c.in-Ok.count = omega (arith, size, within) in
    let one : slice_index_or c.deref-2.result.now k [] ≡ filter (touches (class_in c.args.class_of.now) k) c.args.relations.now =
    subst (λ l. slice_index_or l k [] ≡ filter (touches (class_in c.args.class_of.now) k) c.args.relations.now) (sym lists) (c.in_ok-lists.ensures.lists k lt) in
    subst (λ l. All (λ r. touches (class_in c.args.class_of.now) k r ≡ true) l) (sym one) (filter_passes (touches (class_in c.args.class_of.now) k) c.args.relations.now)

pub spread_from-requires-clause-first : goal.spread_from-requires-clause-first
spread_from-requires-clause-first c = λ k d within.
    let x = slice_index_or c.in_ok-first.first.items k d in
    let marks : c.deref.result.now ≡ c.in_ok-marks.marks.items = search rules in
    let lt = marked_within c.deref.result.now x ((c.in_ok-first.ensures x).0 (k, within, get_or_default c.in_ok-first.first.items k x d within)) in
    let size : length c.deref.result.now ≡ length c.deref-2.result.now = search rules in
    omega (arith, lt, size)

pub returns-clause-settles : goal.returns-clause-settles
returns-clause-settles c =
    let lists : c.deref-2.result.now ≡ c.in_ok-lists.lists.items = search rules in
    let size : length c.deref-2.result.now ≡ c.in-Ok.count = search rules in
    let marks : c.deref_mut.result.now ≡ c.in_ok-marks.marks.items = search rules in
    let again : c.deref.result.now ≡ c.in_ok-marks.marks.items = search rules in
    let touching : AreTouching c.args.class_of.now c.args.relations.now c.deref-2.result.now = λ k within.
    subst (λ l. slice_index_or l k [] ≡ filter (touches (class_in c.args.class_of.now) k) c.args.relations.now) (sym lists) (c.in_ok-lists.ensures.lists k (omega (arith, size, within))) in
    let marks_are : (k : ℕ) → (marked c.deref_mut.result.now k ≡ true) ↔ (found_of c.args.found.now k ≢ Not) = λ k.
    subst (λ l. (marked l k ≡ true) ↔ (found_of c.args.found.now k ≢ Not)) (sym marks) (c.in_ok-marks.ensures.marks k) in
    let first_is : (k : ℕ) → Contains c.in_ok-first.first.items k ↔ (marked c.deref_mut.result.now k ≡ true) = λ k.
    subst (λ l. Contains c.in_ok-first.first.items k ↔ (marked l k ≡ true)) (again ∙ sym marks) (c.in_ok-first.ensures k) in
    let count : length c.args.found.now ≡ length c.deref-2.result.now = omega arith in
    let classes : All (λ x. x < length c.deref-2.result.now) c.args.class_of.now = subst (λ n. All (λ x. x < n) c.args.class_of.now) count c.requires.classes in
    IfOk-weaker c.spread_from.result _ _ (λ lost h held agree proper none.
    h c.args.relations.now held touching
    (stands_start c.args.class_of.now c.args.clocked.now c.args.relations.now c.deref-2.result.now held c.args.found.now c.deref_mut.result.now c.in_ok-first.first.items agree marks_are first_is touching c.requires.ends classes)
    proper none) c.spread_from.ensures.settles
