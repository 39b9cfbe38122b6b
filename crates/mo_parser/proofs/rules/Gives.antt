-- No tokens at all.
use Rattle.std.proofs.Common.{◌≡◌, inr, ℕ, List, [], None, length, refl, ap, arith}
use Rattle.mo_lexer.specs.declared.token.Token.{Token}
use Rattle.mo_parser.specs.grammar.Rules as rule
use Rattle.mo_parser.specs.reading.Outcomes.{Read}
use Rattle.mo_parser.specs.reading.Outcomes as read
use Rattle.mo_parser.proofs.rules.Fits.{Fits}
use Rattle.mo_parser.proofs.rules.Lists.{front_none, none, swap_same}

pub fits_gives : {A : Type 0} {n : ℕ} (x : A) → Fits [] [] 0 None (λ _. rule.gives x) (λ _. read.gives x) n
unfolding rule.gives
fits_gives x = record {
  sound = λ t a b h. (cc, cc);
  complete = λ t a b r o. rw (r.0, r.1) refl;
  first = λ t a b r. inr (refl, r.1);
  size = λ t a b r. let same : length a ≡ length b = ap length r.1 in omega arith;
  deep_sound = λ a b h. cc;
  deep_complete = λ a b r. absurd r;
  deep_first = λ a b r. absurd r;
  takes = λ a. none a;
  local = λ a a' b' s. ap (λ (ts : List Token). Read x ts) (swap_same a a' b' s);
  deeper = λ m le t a b r. r;
  below = λ m le a. refl;
  puts = λ t a b b' r. (b', front_none a b b' r.1, (r.0, refl));
  goes = λ a b h m lt. absurd h;
  some = λ m lt. (x, λ c. (c, (refl, refl)));
}
