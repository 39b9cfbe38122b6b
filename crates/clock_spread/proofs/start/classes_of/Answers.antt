use Rattle.std.proofs.Common.{rules, arith, ◌≡◌, ◌<◌, ◌≤◌, ◌↔◌, ◌+◌, ◌++◌, ◌∷◌, [], ℕ, true, false, sym, subst, length, Contains}
use Rattle.clock_spread.specs.Queue.{marked}
use Rattle.clock_spread.proofs.Starting.{marked_within, one_marked, none_marked}
use Rattle.clock_spread.proofs.start.classes_of.Goals as goal
use Rattle.clock_spread.proofs.start.classes_of.Goals.{then-marks-class+in_ok-push, else-marks-class}

pub loop-class-preserved : goal.loop-class-preserved
loop-class-preserved c =
    elim c.if-marks-class.branch [
      | then-marks-class+in_ok-push w ↦
          let items : c.if-marks-class.first.items ≡ c.loop-class.first.items ++ c.loop-class.class ∷ [] = search rules in
          let is : marked c.args.marks.now c.loop-class.class ≡ true = search rules in
          subst (λ l. (k : ℕ) → Contains l k ↔ ((k < c.loop-class.class + 1) × (marked c.args.marks.now k ≡ true))) (sym items)
          (one_marked c.loop-class.first.items c.args.marks.now c.loop-class.class is c.loop-class.invariant)
      | else-marks-class w ↦
          let items : c.if-marks-class.first.items ≡ c.loop-class.first.items = search rules in
          let isnt : marked c.args.marks.now c.loop-class.class ≡ false = search rules in
          subst (λ l. (k : ℕ) → Contains l k ↔ ((k < c.loop-class.class + 1) × (marked c.args.marks.now k ≡ true))) (sym items)
          (none_marked c.loop-class.first.items c.args.marks.now c.loop-class.class isnt c.loop-class.invariant)
    ]

pub returns : goal.returns
returns c = λ k. (
  λ h. let r = (c.loop-class.invariant k).0 h in r.1,
  λ t. let lt = marked_within c.args.marks.now k t in let end : length c.args.marks.now ≤ c.loop-class.class = omega arith in (c.loop-class.invariant k).1 (omega (arith, lt, end), t),
)
