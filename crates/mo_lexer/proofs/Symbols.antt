-- Symbols: the longest one that stands where nothing else can begin, or none.
use Rattle.std.proofs.Common.{◌≡◌, ◌≤◌, ◌<◌, ◌++◌, ◌∙◌, ℕ, true, nat_le, List, [], ◌∷◌, length, take, drop, slice_index, refl, ap, sym, arith, Some, None}
use Rattle.std.proofs.lemmas.List.{take-append-drop}
use Rattle.std.proofs.lemmas.Bool.Decides.{nat_tests}
use Rattle.mo_lexer.specs.declared.piece.Piece.{Piece}
use Rattle.mo_lexer.specs.declared.piece.Piece.TheVariants as piece
use Rattle.mo_lexer.specs.declared.token.Sym.{Sym}
use Rattle.mo_lexer.specs.declared.token.Sym.TheVariants as sym_of
use Rattle.mo_lexer.specs.Spelling.{Spells, symbol_bytes}
use Rattle.mo_lexer.specs.Tokens.{Begins, BeginsNone}
use Rattle.mo_lexer.specs.private.Front.{is_other, IsSymbolOf}
use Rattle.mo_lexer.proofs.Pieces.{begins, some_bytes}
use Rattle.mo_lexer.proofs.FirstBytes.{symbol_only, spelled_as}

sizes : (s : Sym) → nat_le (length (symbol_bytes s)) 2 ≡ true
sizes sym_of.RoundOpen = refl
sizes _ = refl

symbol_short : (q : List ℕ) (s : Sym) → q ≡ symbol_bytes s → length q ≤ 2
symbol_short q s e = let short : nat_le (length q) 2 ≡ true = ap (λ z. nat_le (length z) 2) e ∙ sizes s in grind (arith, nat_tests)

only_symbols : (other : Piece) (c : ℕ) (q : List ℕ) → is_other c ≡ true → Spells other (c ∷ q) → (s : Sym) × (c ∷ q ≡ symbol_bytes s)
only_symbols other c q is h = let symbol = symbol_only other c q is h in (symbol.0, spelled_as (c ∷ q) symbol.1 h)

one_byte : (t : List ℕ) → 0 < length t → t ≡ slice_index t 0 ∷ drop 1 t
one_byte [] h = absurd (omega arith)
one_byte (b ∷ t) h = refl

two_bytes : (t : List ℕ) → 1 < length t → t ≡ slice_index t 0 ∷ slice_index t 1 ∷ drop 2 t
two_bytes [] h = absurd (omega arith)
two_bytes (b ∷ []) h = absurd (omega arith)
two_bytes (b ∷ c ∷ t) h = refl

-- what the front of a text with such a first byte can be
module _ (t : List ℕ) (is : is_other (slice_index t 0) ≡ true) where
  symbol_at : (other : Piece) (c : ℕ) (q s : List ℕ) → t ≡ c ∷ (q ++ s) → Spells other (c ∷ q) → (found : Sym) × (c ∷ q ≡ symbol_bytes found)
  symbol_at other c q s e h = only_symbols other c q (ap (λ z. is_other (slice_index z 0)) (sym e) ∙ is) h

  pub long_found : (found : Sym) → 1 < length t → IsSymbolOf (slice_index t 0 ∷ slice_index t 1 ∷ []) (Some found) → Begins (piece.Symbol found) 2 t
  long_found found more same = begins (piece.Symbol found) (slice_index t 0 ∷ slice_index t 1 ∷ []) (drop 2 t) t (two_bytes t more) (sym same) longest
    where
      longest : (other : Piece) (q s : List ℕ) → t ≡ q ++ s → Spells other q → length q ≤ 2
      longest other [] s e h = omega arith
      longest other (c ∷ q) s e h = let symbol = symbol_at other c q s e h in symbol_short (c ∷ q) symbol.0 symbol.1

  -- where no symbol of two bytes stands, each symbol is the first byte
  short_alone : (1 < length t → IsSymbolOf (slice_index t 0 ∷ slice_index t 1 ∷ []) None) → (other : Piece) (q s : List ℕ) → t ≡ q ++ s → Spells other q → (found : Sym) × (symbol_bytes found ≡ slice_index t 0 ∷ []) × (length q ≤ 1)
  short_alone none other [] s e h = absurd (some_bytes other h)
  short_alone none other (c ∷ []) s e h =
      let symbol = symbol_at other c [] s e h in (symbol.0, sym symbol.1 ∙ ap (λ z. slice_index z 0 ∷ []) (sym e), omega arith)
  short_alone none other (c ∷ d ∷ []) s e h =
      let symbol = symbol_at other c (d ∷ []) s e h in
      let more : 1 < length t = omega (arith, ap length e) in
      absurd (none more symbol.0 (sym symbol.1 ∙ ap (λ z. slice_index z 0 ∷ slice_index z 1 ∷ []) (sym e)))
  short_alone none other (c ∷ d ∷ b ∷ q) s e h =
      let symbol = symbol_at other c (d ∷ b ∷ q) s e h in let short = symbol_short (c ∷ d ∷ b ∷ q) symbol.0 symbol.1 in absurd (omega (arith, short))

  pub short_found : (found : Sym) → 0 < length t → (1 < length t → IsSymbolOf (slice_index t 0 ∷ slice_index t 1 ∷ []) None) → IsSymbolOf (slice_index t 0 ∷ []) (Some found) → Begins (piece.Symbol found) 1 t
  short_found found some none same = begins (piece.Symbol found) (slice_index t 0 ∷ []) (drop 1 t) t (one_byte t some) (sym same) (λ other q s e h. (short_alone none other q s e h).2)

  pub none_found : (1 < length t → IsSymbolOf (slice_index t 0 ∷ slice_index t 1 ∷ []) None) → IsSymbolOf (slice_index t 0 ∷ []) None → BeginsNone t
  none_found none no_short other len inside h = let symbol = short_alone none other (take len t) (drop len t) (sym (take-append-drop len t)) h in no_short symbol.0 symbol.1
