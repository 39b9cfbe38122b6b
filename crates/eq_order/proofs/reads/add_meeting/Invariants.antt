use Rattle.std.proofs.Common.{◌≡◌, ◌↔◌, ◌⊎◌, ℕ, true, take}
use Rattle.std.specs.List.{Contains}
use Rattle.flat_model.specs.Setting.{Setting, class_of_name}
use Rattle.flat_model.specs.Uses.{ClassesMeet}
use Rattle.eq_order.specs.private.Reaching.{is_waiting}
use Rattle.eq_order.proofs.reads.add_meeting.Given as goal

abbrev pub invariant-loop-name : goal.invariant-loop-name
invariant-loop-name l = (s : Setting) → s.clocking ≡ l.clocking → (x : ℕ) →
    Contains l.names.items x ↔ (Contains l.fn.names.items x ⊎ (Contains (take l.name-index l.converted) x × (is_waiting l.reached x ≡ true) × ClassesMeet s l.class (class_of_name s x)))
