use Rattle.std.proofs.Common.{◌∙◌, ap, sym, min, arith}
use Rattle.flat_instances.specs.Kept.{seen}
use Rattle.class_sizes.proofs.Counts.{one_capped, all_added}
use Rattle.item_sizes.specs.Items.{item_equations, item_tokens}
use Rattle.item_sizes.proofs.Measuring.{sum_of_map}
use Rattle.item_sizes.proofs.measure.Measure.size.Goals as goal

pub loop-item-preserved : goal.loop-item-preserved
loop-item-preserved c =
    let text = c.args.self.now.scopes.now.named.file.text.now in
    let classes = c.args.self.now.scopes.now.named.file.classes.now in
    let tokens = c.args.self.now.starts.now.tokens.now in
    record {
      equations_are = one_capped (λ item. item_equations text classes (seen text classes item)) c.args.items.now c.loop-item.item-index c.item-item.result (omega arith) c.item-item.is
          65537 c.loop-item.equations c.item_size-size.result.equations c.added-equations.result c.loop-item.invariant.equations_are c.item_size-size.ensures.equations_are c.added-equations.ensures;
      tokens_are = one_capped (λ item. item_tokens text classes tokens (seen text classes item)) c.args.items.now c.loop-item.item-index c.item-item.result (omega arith) c.item-item.is
          4194305 c.loop-item.tokens c.item_size-size.result.tokens c.added-tokens.result c.loop-item.invariant.tokens_are c.item_size-size.ensures.tokens_are c.added-tokens.ensures;
    }

pub returns : goal.returns
returns c =
    let text = c.args.self.now.scopes.now.named.file.text.now in
    let classes = c.args.self.now.scopes.now.named.file.classes.now in
    let tokens = c.args.self.now.starts.now.tokens.now in
    record {
      equations_are = all_added (λ item. item_equations text classes (seen text classes item)) c.args.items.now c.loop-item.item-index (omega arith) 65537 c.loop-item.equations
          c.loop-item.invariant.equations_are ∙ ap (λ n. min n 65537) (sym (sum_of_map (item_equations text classes) (seen text classes) c.args.items.now));
      tokens_are = all_added (λ item. item_tokens text classes tokens (seen text classes item)) c.args.items.now c.loop-item.item-index (omega arith) 4194305 c.loop-item.tokens
          c.loop-item.invariant.tokens_are ∙ ap (λ n. min n 4194305) (sym (sum_of_map (item_tokens text classes tokens) (seen text classes) c.args.items.now));
    }
