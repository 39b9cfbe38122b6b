use Rattle.std.proofs.Common.{◌≡◌, drop}
use Rattle.std.specs.List.{list_any}
use Rattle.class_sizes.specs.Owners.{gives}
use Rattle.class_sizes.proofs.owning.any_gives.Given as goal

abbrev pub invariant-loop-equation : goal.invariant-loop-equation
invariant-loop-equation l =
    list_any (gives l.scopes.named.file.text.now l.scopes.named.file.classes.now l.class) (drop l.equation-index l.equations)
    ≡ list_any (gives l.scopes.named.file.text.now l.scopes.named.file.classes.now l.class) l.equations
