use Rattle.std.proofs.Common.{◌≡◌, ap, ◌∙◌, sym, map}
use Rattle.flat_model.specs.declared.model.NameKind.TheVariants as kind
use Rattle.flat_model.specs.Typing.{is_type}
use Rattle.flat_types.specs.Readings.{node_of, given, call_gives}
use Rattle.flat_types.proofs.Forms.{other_gives}
use Rattle.flat_types.proofs.reader.Reader.call_gives_boolean.Goals as goal

pub returns-in_ok-parts-in_default : goal.returns-in_ok-parts-in_default
returns-in_ok-parts-in_default c =
    let parts : c.as_slice.result.now ≡ map (node_of c.args.self.now.names.now) c.args.parts.now = c.as_slice.ensures ∙ c.in_ok-parts-in_default.ensures in
    c.call_is_boolean.ensures ∙ ap (λ found. is_type kind.Boolean (given found (call_gives c.args.self.now.names.now c.args.callee found))) parts
    ∙ sym (ap (is_type kind.Boolean) (other_gives c.args.self.now.names.now c.args.callee c.args.parts.now c.in_default.not-Integer))
