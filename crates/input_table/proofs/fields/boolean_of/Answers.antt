use Rattle.std.proofs.Common.{rules, inl, inr}
use Rattle.input_table.specs.Fields.{truth, falsity}
use Rattle.input_table.proofs.fields.boolean_of.Goals as goal
use Rattle.input_table.proofs.fields.boolean_of.Goals.{then-eq, else-eq, then-eq-3, else-eq-3}

pub returns-then-eq-2 : goal.returns-then-eq-2
returns-then-eq-2 c = elim c.if-eq.branch [ then-eq w ↦ truth (inl (search rules)) | else-eq w ↦ truth (inr (search rules)) ]

pub returns-then-eq-4 : goal.returns-then-eq-4
returns-then-eq-4 c = elim c.if-eq-3.branch [ then-eq-3 w ↦ falsity (inl (search rules)) | else-eq-3 w ↦ falsity (inr (search rules)) ]
