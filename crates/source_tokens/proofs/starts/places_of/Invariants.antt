use Rattle.std.proofs.Common.{◌≡◌, map, take}
use Rattle.source_tokens.specs.private.Places.{begin}
use Rattle.source_tokens.proofs.starts.places_of.Given as goal

abbrev pub invariant-loop-token : goal.invariant-loop-token
invariant-loop-token l = l.places.items ≡ map begin (take l.token-index l.tokens)
