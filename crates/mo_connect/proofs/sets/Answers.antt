use Rattle.std.proofs.Common.{rules, ◌≡◌, ◌∙◌, length}
use Rattle.mo_connect.specs.Classes.{AreClasses}
use Rattle.mo_connect.specs.private.Links.{LinksJoined}
use Rattle.std.proofs.lemmas.List.{with_items_is}
use Rattle.mo_connect.proofs.Links.{moved}
use Rattle.mo_connect.proofs.Partition.{are_classes}
use Rattle.mo_connect.proofs.Unique.{only_classes}
use Rattle.mo_connect.proofs.sets.Goals as goal

are : (c : goal.After-drop-parents-2) → AreClasses c.args.count c.args.pairs.now c.from_vec.result
are c =
    let before : LinksJoined c.args.pairs.now c.deref_mut.result.now = rw (c.deref_mut.ensures.value, ← c.as_slice.ensures) c.in_ok-parents.ensures.links in
    let links = moved c.args.pairs.now c.deref_mut.result.now c.flatten.new.parents c.flatten.ensures.kept before in
    let size : length c.flatten.new.parents ≡ c.args.count = search rules in
    let filed : length c.in_ok-classes.classes.items ≡ c.args.count = search rules in
    let seen : c.deref.result.now ≡ c.flatten.new.parents = c.deref.ensures.value ∙ with_items_is c.in_ok-parents.parents c.flatten.new.parents (search rules) in
    rw (c.from_vec.ensures, c.keep_filled.ensures)
    (are_classes c.args.count c.args.pairs.now c.flatten.new.parents c.in_ok-classes.classes.items links c.flatten.ensures.flat size filed (rw seen at c.in_ok-classes.ensures.members))

pub returns : goal.returns
returns c = record {
  classes = are c;
  only = λ others fits. only_classes c.args.count c.args.pairs.now c.from_vec.result others (are c) fits;
}
