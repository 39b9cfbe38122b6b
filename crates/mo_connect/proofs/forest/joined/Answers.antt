use Rattle.std.proofs.Common.{rules, arith, add-one, take}
use Rattle.std.proofs.Math.Seq.{take-suc}
use Rattle.std.proofs.lemmas.List.{with_items_is}
use Rattle.mo_connect.specs.private.Links.{LinksJoined}
use Rattle.mo_connect.proofs.Links.{roots_links}
use Rattle.mo_connect.proofs.forest.joined.Goals as goal

pub loop-pair-init : goal.loop-pair-init
loop-pair-init c = record {
  size = c.in_ok-parents.ensures.length;
  falls = λ x. let root = c.in_ok-parents.ensures.roots x in omega (arith, root);
  links = roots_links c.in_ok-parents.parents.items c.in_ok-parents.ensures.roots;
}

pub loop-pair-preserved : goal.loop-pair-preserved
loop-pair-preserved c =
    let pairs = c.args.pairs.now in let i = c.loop-pair.pair-index in
    let written = with_items_is c.loop-pair.parents c.join.new.parents (search rules) in
    let before : LinksJoined (take i pairs) c.deref_mut.result.now = rw c.deref_mut.ensures.value c.loop-pair.invariant.links in
    record {
      size = c.loop-pair.invariant.size;
      falls = rw written c.join.ensures.falls;
      links = rw (written, add-one, take-suc pairs i (record { a = 0; b = 0 }) c.loop-pair-test.true) (c.join.ensures.links (take i pairs) before);
    }

pub returns-clause-falls : goal.returns-clause-falls
returns-clause-falls c = c.loop-pair.invariant.falls
