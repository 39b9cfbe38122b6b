use Rattle.std.proofs.Common.{◌≡◌, take, vec_len}
use Rattle.mo_connect.specs.private.Links.{Falls, LinksJoined}
use Rattle.mo_connect.proofs.forest.joined.Given as goal

abbrev pub invariant-loop-pair : goal.invariant-loop-pair
invariant-loop-pair l = record {
  size : vec_len l.parents ≡ l.count;
  falls : Falls l.parents.items;
  links : LinksJoined (take l.pair-index l.pairs) l.parents.items;
}
