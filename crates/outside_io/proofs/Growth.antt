-- How a text grows piece by piece.
use Rattle.std.proofs.Common.{◌≡◌, ℕ, ◌+◌, ◌∙◌, refl, sym, ap, List, [], ◌++◌, Option, Some, None, take, drop, append_assoc, append-nil}
use Rattle.std.proofs.Math.Seq.{take-add}
use Rattle.outside_io.specs.Texts.{grown}

pub grown-nil : (text : Option (List ℕ)) → grown [] text ≡ text
grown-nil None = refl
grown-nil (Some t) = ap Some (append-nil t)

pub grown-grown : (a b : List ℕ) (text : Option (List ℕ)) → grown b (grown a text) ≡ grown (a ++ b) text
grown-grown a b None = refl
grown-grown a b (Some t) = ap Some (append_assoc t a b)

-- the first bytes of a piece, and then those that follow in it
pub grown-take : (p : List ℕ) (i n : ℕ) (text : Option (List ℕ)) → grown (take n (drop i p)) (grown (take i p) text) ≡ grown (take (i + n) p) text
grown-take p i n text = grown-grown (take i p) (take n (drop i p)) text ∙ ap (λ t. grown t text) (sym (take-add i n p))

pub ruleset growing = (grown-nil, grown-grown, grown-take)
