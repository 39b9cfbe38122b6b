use Rattle.std.proofs.Common.{◌≡◌, ◌+◌, ℕ, Bool, sym, subst, arith, length}
use Rattle.mo_lexer.proofs.Quotes.{InText, text_taken, text_free, text_open}
use Rattle.mo_lexer.proofs.front.text_end.Goals as goal
use Rattle.mo_lexer.proofs.front.text_end.Goals.{then-taken, else-taken+else-byte-eq34}

pub loop-at-preserved : goal.loop-at-preserved
loop-at-preserved c =
    let inside = c.args.inside.now in let at = c.loop-at.at in
    elim c.if-taken.branch [
      | then-taken w ↦ subst (λ (x : Bool). InText x inside (at + 1)) (sym w.taken-is) (text_taken inside at c.loop-at-test.true (subst (λ (x : Bool). InText x inside at) w.if-taken.true c.loop-at.invariant))
      | else-taken+else-byte-eq34 w ↦ subst (λ (x : Bool). InText x inside (at + 1)) (sym w.taken-is) (text_free inside at c.loop-at-test.true (subst (λ (x : Bool). InText x inside at) w.if-taken.false c.loop-at.invariant) w.if-byte-eq34.false)
    ]

pub returns : goal.returns
returns c =
    let all : c.loop-at.at ≡ length c.args.inside.now = omega arith in
    text_open c.loop-at.taken c.args.inside.now (subst (λ (k : ℕ). InText c.loop-at.taken c.args.inside.now k) all c.loop-at.invariant)
