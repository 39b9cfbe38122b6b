use Rattle.rational_time.proofs.TimeTexts.{WritesTime-positive, read_value, read_malformed, read_too_fine}
use Rattle.rational_time.proofs.time_text.read.Goals as goal

pub fine-requires : goal.fine-requires
fine-requires c = WritesTime-positive _ _ _ c.in-Some.ensures

pub returns-clause-value : goal.returns-clause-value
returns-clause-value c = rw c.ok_or.ensures.value (read_value _ _ _ c.fine.result c.in-Some.ensures c.fine.ensures.value)

pub returns-clause-malformed : goal.returns-clause-malformed
returns-clause-malformed c = rw c.ok_or.ensures.value (read_malformed _ _ _ c.fine.result c.in-Some.ensures)

pub returns-clause-too_fine : goal.returns-clause-too_fine
returns-clause-too_fine c = rw c.ok_or.ensures.value (read_too_fine _ _ _ c.fine.result c.in-Some.ensures c.fine.ensures.none)

pub returns-in_default-clause-too_fine : goal.returns-in_default-clause-too_fine
returns-in_default-clause-too_fine c = (λ e. absurd cc, λ (m, e, w, past). absurd (c.in_default.ensures m e w))
