use Rattle.std.proofs.Common.{◌≡◌, min, take}
use Rattle.std.specs.List.{sum_by}
use Rattle.flat_instances.specs.Kept.{seen}
use Rattle.item_sizes.specs.Items.{item_equations, item_tokens}
use Rattle.item_sizes.proofs.measure.Measure.size.Given as goal

abbrev pub invariant-loop-item : goal.invariant-loop-item
invariant-loop-item l =
    let text = l.self.scopes.now.named.file.text.now in
    let classes = l.self.scopes.now.named.file.classes.now in
    record {
      equations_are : l.equations ≡ min (sum_by (λ item. item_equations text classes (seen text classes item)) (take l.item-index l.items)) 65537;
      tokens_are : l.tokens ≡ min (sum_by (λ item. item_tokens text classes l.self.starts.now.tokens.now (seen text classes item)) (take l.item-index l.items)) 4194305;
    }
