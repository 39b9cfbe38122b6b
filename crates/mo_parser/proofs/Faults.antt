-- What a reading of a file says of the list of tokens.
use Rattle.std.proofs.Common.{◌≡◌, ◌≤◌, ◌∙◌, ◌∷◌, [], max, ℕ, suc, Bool, true, false, List, refl, ap, sym, subst, arith}
use Rattle.mo_lexer.specs.declared.token.Token.{Token}
use Rattle.mo_lexer.specs.declared.token.TokenKind.{TokenKind}
use Rattle.mo_lexer.specs.declared.token.TokenKind.TheVariants as k
use Rattle.mo_lexer.specs.declared.token.Sym.TheVariants as s
use Rattle.mo_lexer.specs.declared.token.Word.TheVariants as w
use Rattle.mo_parser.specs.declared.tree.Tree.{Tree}
use Rattle.mo_parser.specs.grammar.Kinds.{end_by, is_end, is_foreign}
use Rattle.mo_parser.specs.grammar.Classes as rule
use Rattle.std.proofs.Common.{Err}
use Rattle.mo_parser.specs.declared.syntax.ParseEnd.{ParseEnd}
use Rattle.mo_parser.specs.grammar.Faults.{Answers, refused_at, GoesOn, IsFault, IsRefused, IsTooDeep, OneTree, code_by}
use Rattle.mo_parser.specs.grammar.Places.{Swap, head}
use Rattle.mo_parser.specs.reading.Outcomes.{Outcome, Deep, Read, Stuck}
use Rattle.mo_parser.specs.reading.Classes.{file}
use Rattle.mo_parser.proofs.rules.Kinds.{Out, among, kw, tag}
use Rattle.mo_parser.proofs.rules.Lists.{Below, Halts, moved, next_same, rest_of}
use Rattle.mo_parser.proofs.fits.Tests.{example}
use Rattle.mo_parser.proofs.fits.Words.{class_starts}
use Rattle.mo_parser.proofs.fits.Classes.{fits_file}

abbrev after_file : List ℕ
after_file = kw w.KwWithin ∷ class_starts

end_out : (x : TokenKind) → end_by x ≡ true → among after_file (tag x) ≡ false
end_out k.End h = refl
end_out (k.Symbol s.Less) h = cc
end_out (k.Keyword w.KwOr) h = cc
end_out other h = cc

ended : (a : List Token) → is_end (head a) ≡ true → Out after_file a
unfolding is_end
ended a h = end_out (head a).kind h

module _ (text : List ℕ) where
  -- what is spelled is read, at any number of levels above
  pub spelled_read : (m n : ℕ) (t : Tree) (tokens rest : List Token) → m ≤ n → (rule.file text m).spells t tokens rest → is_end (head rest) ≡ true → file text n tokens ≡ Read t rest
  spelled_read m n t tokens rest le r e = (fits_file text {n = n}).complete t tokens rest ((fits_file text {n = m}).deeper n le t tokens rest r) (ended rest e)

  -- a reading that ends without an answer, at more levels and at other tokens after the place
  stuck_above : (n m : ℕ) (tokens rest a b : List Token) → n ≤ m → file text n tokens ≡ Stuck rest → Swap tokens rest a b → file text m a ≡ Stuck b
  stuck_above n m tokens rest a b le h s =
      let same = (fits_file text {n = n}).below m le tokens in
      let Q : Outcome Tree → Type 0 = λ o. Below o (file text m tokens) in
      let up : Stuck rest ≡ file text m tokens = subst Q h same in
      let P : Outcome Tree → Type 0 = λ o. Swap tokens (rest_of o) a b in
      (fits_file text {n = m}).local tokens a b (subst P up s) ∙ ap (λ (o : Outcome Tree). moved o b) (sym up)

  read_above : (n m : ℕ) (t : Tree) (tokens rest a b : List Token) → n ≤ m → file text n tokens ≡ Read t rest → Swap tokens rest a b → file text m a ≡ Read t b
  read_above n m t tokens rest a b le h s =
      let same = (fits_file text {n = n}).below m le tokens in
      let Q : Outcome Tree → Type 0 = λ o. Below o (file text m tokens) in
      let up : Read t rest ≡ file text m tokens = subst Q h same in
      let P : Outcome Tree → Type 0 = λ o. Swap tokens (rest_of o) a b in
      (fits_file text {n = m}).local tokens a b (subst P up s) ∙ ap (λ (o : Outcome Tree). moved o b) (sym up)

  deep_there : (n : ℕ) (tokens rest a b : List Token) → file text n tokens ≡ Deep rest → Swap tokens rest a b → file text n a ≡ Deep b
  deep_there n tokens rest a b h s =
      let P : Outcome Tree → Type 0 = λ o. Swap tokens (rest_of o) a b in
      (fits_file text {n = n}).local tokens a b (subst P (sym h) s) ∙ ap (λ (o : Outcome Tree). moved o b) h

  stuck_not_read : (o : Outcome Tree) (b c : List Token) (t : Tree) → o ≡ Stuck b → o ≡ Read t c → ⊥
  stuck_not_read o b c t h g = cc

  deep_not_read : (o : Outcome Tree) (b c : List Token) (t : Tree) → o ≡ Deep b → o ≡ Read t c → ⊥
  deep_not_read o b c t h g = cc

  stuck_not_deep : (o : Outcome Tree) (b c : List Token) → o ≡ Stuck b → o ≡ Deep c → ⊥
  stuck_not_deep o b c h g = cc

  read_once : (o : Outcome Tree) (b c : List Token) (t u : Tree) → o ≡ Read t b → o ≡ Read u c → b ≡ c
  read_once o b c t u h g = cc

  -- what was read before a place where the reading ends can be completed
  halt_goes : (n : ℕ) (tokens rest : List Token) → Halts (file text n tokens) rest → GoesOn text tokens rest
  unfolding example is_end
  halt_goes n tokens rest h =
      let (t, more) = (fits_file text {n = n}).goes tokens rest h (suc n) (omega arith) in
      let (a, b, front, r) = more (example k.End ∷ []) in
      (suc n, t, a, b, front, (example k.End ∷ [], r, refl))

  pub stuck_refused : (n : ℕ) (tokens rest : List Token) → file text n tokens ≡ Stuck rest → IsRefused text n tokens rest
  stuck_refused n tokens rest h = record {
    before = (let Q : Outcome Tree → Type 0 = λ o. Halts o rest in halt_goes n tokens rest (subst Q (sym h) refl));
    here = λ m t a b s x.
        let k = max n m in
        stuck_not_read (file text k a) b x.0 t (stuck_above n k tokens rest a b (omega arith) h s) (spelled_read m k t a x.0 (omega arith) x.1 x.2);
    shallow = λ other d. stuck_not_deep (file text n tokens) rest other h ((fits_file text {n = n}).deep_complete tokens other d);
  }

  pub longer_refused : (n : ℕ) (t : Tree) (tokens rest : List Token) → file text n tokens ≡ Read t rest → is_end (head rest) ≡ false → IsRefused text n tokens rest
  unfolding example is_end
  longer_refused n t tokens rest h more = record {
    before = (let (a, front, r) = (fits_file text {n = n}).puts t tokens rest (example k.End ∷ []) ((fits_file text {n = n}).sound t tokens rest h) in
        (n, t, a, example k.End ∷ [], front, (example k.End ∷ [], r, refl)));
    here = λ m u a b s x.
        let k = max n m in
        let there : b ≡ x.0 = read_once (file text k a) b x.0 t u (read_above n k t tokens rest a b (omega arith) h s) (spelled_read m k u a x.0 (omega arith) x.1 x.2) in
        let end : is_end (head rest) ≡ true = ap is_end (next_same tokens rest a b s) ∙ ap (λ (ts : List Token). is_end (head ts)) there ∙ x.2 in
        cc;
    shallow = λ other d. deep_not_read (file text n tokens) other rest t ((fits_file text {n = n}).deep_complete tokens other d) h;
  }

  pub too_deep : (n : ℕ) (tokens rest : List Token) → file text n tokens ≡ Deep rest → IsTooDeep text n tokens rest
  too_deep n tokens rest h = record {
    deep = (fits_file text {n = n}).deep_sound tokens rest h;
    before = (let Q : Outcome Tree → Type 0 = λ o. Halts o rest in halt_goes n tokens rest (subst Q (sym h) refl));
    here = λ t a b s x. deep_not_read (file text n a) b x.0 t (deep_there n tokens rest a b h s) (spelled_read n n t a x.0 (omega arith) x.1 x.2);
  }

  -- the code of a refusal
  pub refusal : (n : ℕ) (tokens rest : List Token) → IsRefused text n tokens rest → IsFault text n tokens (code_by (is_foreign (head rest))) rest
  refusal n tokens rest r = go (is_foreign (head rest)) refl
    where
      go : (x : Bool) → is_foreign (head rest) ≡ x → IsFault text n tokens (code_by x) rest
      go true e = (r, e)
      go false e = (r, e)

same_tree : (o : Outcome Tree) (b c : List Token) (t u : Tree) → o ≡ Read t b → o ≡ Read u c → t ≡ u
same_tree o b c t u h g = cc

pub one_tree : OneTree
one_tree text m n t u tokens x y =
    let k = max m n in
    same_tree (file text k tokens) x.0 y.0 t u (spelled_read text m k t tokens x.0 (omega arith) x.1 x.2) (spelled_read text n k u tokens y.0 (omega arith) y.1 y.2)

-- what the call answers where a token is refused
pub refused_answer : (text : List ℕ) (n : ℕ) (tokens rest : List Token) (t : Token) (e : ParseEnd) → IsRefused text n tokens rest → t ≡ head rest → e ≡ refused_at t → Answers text n tokens (Err e)
refused_answer text n tokens rest t e r there is =
    let same : e ≡ refused_at (head rest) = is ∙ ap refused_at there in
    let Q : ParseEnd → Type 0 = λ d. Answers text n tokens (Err d) in
    subst Q (sym same) (rest, refl, refusal text n tokens rest r)
