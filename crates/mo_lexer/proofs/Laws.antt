-- At most one token list belongs to a text, each text has a token list or a fault, and no text has both.
use Rattle.std.proofs.Common.{◌≡◌, ◌+◌, ◌∙◌, ℕ, List, ◌∷◌, length, take, drop, refl, ap, ap₂, sym, subst, arith, Option, Result, Ok, Err, length-drop}
use Rattle.mo_lexer.specs.declared.token.Token.{Token}
use Rattle.mo_lexer.specs.declared.token.TokenKind.{TokenKind}
use Rattle.mo_lexer.specs.declared.fault.LexCode.{LexCode}
use Rattle.mo_lexer.specs.declared.piece.Piece.{Piece}
use Rattle.mo_lexer.specs.Spelling.{Spells}
use Rattle.mo_lexer.specs.Tokens.{Begins, BeginsNone, Divided, Faulty, ended, gap, token, no_piece, refused, later, token_of, mark_len, AreTokens, IsFaultAt}
use Rattle.mo_lexer.proofs.Apart.{one_kind}
use Rattle.mo_lexer.proofs.Steps.{some_len}

-- ---- one piece

one_len : (bytes : List ℕ) (k k' : Piece) (n n' : ℕ) → Begins k n bytes → Begins k' n' bytes → n ≡ n'
one_len bytes k k' n n' b b' = let up = b'.longest k n b.within b.spelled in let down = b.longest k' n' b'.within b'.spelled in omega (arith, up, down)

one_token : (bytes : List ℕ) (k k' : Piece) (n n' : ℕ) → Begins k n bytes → Begins k' n' bytes → token_of k (take n bytes) ≡ token_of k' (take n' bytes)
one_token bytes k k' n n' b b' =
    let same = one_len bytes k k' n n' b b' in
    let spelled : Spells k' (take n bytes) = subst (λ m. Spells k' (take m bytes)) (sym same) b'.spelled in
    ap₂ (λ x m. token_of x (take m bytes)) (one_kind k k' (take n bytes) b.spelled spelled) same

begins_some : (bytes : List ℕ) (k : Piece) (n : ℕ) → BeginsNone bytes → Begins k n bytes → ⊥
begins_some bytes k n none b = none k n b.within b.spelled

-- no piece stands behind the end
past_end : (text : List ℕ) (at : ℕ) (k : Piece) (n : ℕ) → at ≡ length text → Begins k n (drop at text) → ⊥
past_end text at k n all b = let some = some_len k n (drop at text) b in let within = b.within in omega (arith, some, within, all, length-drop at text)

apart : {code : LexCode} {found : Option TokenKind} → Err code ≡ Ok found → ⊥
apart e = cc

-- ---- at most one token list

-- what two pieces at one place have in common: the place of the next piece and the outcome
module _ (text : List ℕ) (at : ℕ) (k k' : Piece) (n n' : ℕ) (b : Begins k n (drop at text)) (b' : Begins k' n' (drop at text)) where
  next_same : at + n ≡ at + n'
  next_same = ap (λ m. at + m) (one_len (drop at text) k k' n n' b b')

  outcome_same : {r r' : Result (Option TokenKind) LexCode} → token_of k (take n (drop at text)) ≡ r → token_of k' (take n' (drop at text)) ≡ r' → r ≡ r'
  outcome_same is is' = sym is ∙ one_token (drop at text) k k' n n' b b' ∙ is'

tokens_same : (text : List ℕ) (at : ℕ) (ts us : List Token) → Divided text at ts → Divided text at us → ts ≡ us
tokens_same text _ _ _ (ended at all) (ended at' all') = refl
tokens_same text _ _ _ (ended at all) (gap at' k n rest b is d) = absurd (past_end text at k n all b)
tokens_same text _ _ _ (ended at all) (token at' k n found rest b is d) = absurd (past_end text at k n all b)
tokens_same text _ _ _ (gap at k n rest b is d) (ended at' all) = absurd (past_end text at k n all b)
tokens_same text _ _ _ (gap at k n rest b is d) (gap at' k' n' rest' b' is' d') =
    tokens_same text (at + n) rest rest' d (subst (λ m. Divided text m rest') (sym (next_same text at k k' n n' b b')) d')
tokens_same text _ _ _ (gap at k n rest b is d) (token at' k' n' found rest' b' is' d') = let same = outcome_same text at k k' n n' b b' is is' in cc
tokens_same text _ _ _ (token at k n found rest b is d) (ended at' all) = absurd (past_end text at k n all b)
tokens_same text _ _ _ (token at k n found rest b is d) (gap at' k' n' rest' b' is' d') = let same = outcome_same text at k k' n n' b b' is is' in cc
tokens_same text _ _ _ (token at k n found rest b is d) (token at' k' n' found' rest' b' is' d') =
    let same = outcome_same text at k k' n n' b b' is is' in
    let kind : found ≡ found' = cc in
    let next = next_same text at k k' n n' b b' in
    let later = tokens_same text (at + n) rest rest' d (subst (λ m. Divided text m rest') (sym next) d') in
    (λ i. record { kind = kind i; at = at; end = next i } ∷ later i)

-- ---- no token list where there is a fault

tokens_or_fault : (text : List ℕ) (at : ℕ) (ts : List Token) (code : LexCode) (place : ℕ) → Divided text at ts → Faulty text at code place → ⊥
tokens_or_fault text _ _ _ _ (ended at all) (no_piece at' inside none) = omega (arith, all, inside)
tokens_or_fault text _ _ _ _ (ended at all) (refused at' k n code b is) = past_end text at k n all b
tokens_or_fault text _ _ _ _ (ended at all) (later at' k n found code place b is f) = past_end text at k n all b
tokens_or_fault text _ _ _ _ (gap at k n rest b is d) (no_piece at' inside none) = begins_some (drop at text) k n none b
tokens_or_fault text _ _ _ _ (gap at k n rest b is d) (refused at' k' n' code b' is') = let same = outcome_same text at k k' n n' b b' is is' in cc
tokens_or_fault text _ _ _ _ (gap at k n rest b is d) (later at' k' n' found code place b' is' f) =
    tokens_or_fault text (at + n) rest code place d (subst (λ m. Faulty text m code place) (sym (next_same text at k k' n n' b b')) f)
tokens_or_fault text _ _ _ _ (token at k n found rest b is d) (no_piece at' inside none) = begins_some (drop at text) k n none b
tokens_or_fault text _ _ _ _ (token at k n found rest b is d) (refused at' k' n' code b' is') = let same = outcome_same text at k k' n n' b b' is is' in cc
tokens_or_fault text _ _ _ _ (token at k n found rest b is d) (later at' k' n' found' code place b' is' f) =
    tokens_or_fault text (at + n) rest code place d (subst (λ m. Faulty text m code place) (sym (next_same text at k k' n n' b b')) f)

-- ---- at most one fault

fault_same : (text : List ℕ) (at : ℕ) (c c' : LexCode) (p p' : ℕ) → Faulty text at c p → Faulty text at c' p' → (c ≡ c') × (p ≡ p')
fault_same text _ _ _ _ _ (no_piece at inside none) (no_piece at' inside' none') = (refl, refl)
fault_same text _ _ _ _ _ (no_piece at inside none) (refused at' k n code b is) = absurd (begins_some (drop at text) k n none b)
fault_same text _ _ _ _ _ (no_piece at inside none) (later at' k n found code place b is f) = absurd (begins_some (drop at text) k n none b)
fault_same text _ _ _ _ _ (refused at k n code b is) (no_piece at' inside none) = absurd (begins_some (drop at text) k n none b)
fault_same text _ _ _ _ _ (refused at k n code b is) (refused at' k' n' code' b' is') = let same = outcome_same text at k k' n n' b b' is is' in (cc, refl)
fault_same text _ _ _ _ _ (refused at k n code b is) (later at' k' n' found code' place b' is' f) = let same = outcome_same text at k k' n n' b b' is is' in absurd (apart same)
fault_same text _ _ _ _ _ (later at k n found code place b is f) (no_piece at' inside none) = absurd (begins_some (drop at text) k n none b)
fault_same text _ _ _ _ _ (later at k n found code place b is f) (refused at' k' n' code' b' is') = let same = outcome_same text at k k' n n' b b' is is' in absurd (apart (sym same))
fault_same text _ _ _ _ _ (later at k n found code place b is f) (later at' k' n' found' code' place' b' is' f') =
    fault_same text (at + n) code code' place place' f (subst (λ m. Faulty text m code' place') (sym (next_same text at k k' n n' b b')) f')

-- ---- of a whole text

pub one_token_list : (text : List ℕ) (ts us : List Token) → AreTokens text ts → AreTokens text us → ts ≡ us
one_token_list text ts us d e = tokens_same text (mark_len text) ts us d e

pub never_both : (text : List ℕ) (ts : List Token) (code : LexCode) (at : ℕ) → AreTokens text ts → IsFaultAt text code at → ⊥
never_both text ts code at d f = tokens_or_fault text (mark_len text) ts code at d f

pub one_fault : (text : List ℕ) (code code' : LexCode) (at at' : ℕ) → IsFaultAt text code at → IsFaultAt text code' at' → (code ≡ code') × (at ≡ at')
one_fault text code code' at at' f f' = fault_same text (mark_len text) code code' at at' f f'
