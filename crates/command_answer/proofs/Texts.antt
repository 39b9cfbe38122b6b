-- Words, a text and its tokens have one answer.
use Rattle.std.proofs.Common.{refl, ap, ap₂, sym, ◌∙◌, ℕ, List, Ok, Err, arith}
use Rattle.command_words.proofs.OneChoice as words
use Rattle.mo_lexer.specs.declared.token.Token.{Token}
use Rattle.mo_lexer.specs.declared.fault.LexEnd.TheVariants as lex
use Rattle.mo_lexer.specs.Tokens.{Lexes}
use Rattle.mo_lexer.proofs.Laws as lexer
use Rattle.mo_parser.specs.declared.syntax.ParseEnd.TheVariants as syntax
use Rattle.mo_parser.specs.grammar.Faults.{Answers}
use Rattle.mo_parser.specs.grammar.Places.{head}
use Rattle.mo_parser.proofs.Faults.{one_tree}
use Rattle.mo_parser.proofs.OneFault.{fault_law}
use Rattle.flat_model.specs.declared.place.Place.{Place}
use Rattle.command_answer.specs.Layers.{asked, few, lexed, parsed}
use Rattle.command_answer.specs.Told.{told_lexical, told_syntax}
use Rattle.command_answer.proofs.Joined.{IsOne, IsOnce, layer_one, none_told}

pub asked_one : (ws : List (List ℕ)) → IsOne (asked ws)
unfolding asked
asked_one ws = layer_one _ _ (λ r s p q t u. words.one_answer ws r s p q)

pub few_one : (limit : ℕ) (at : Place) (bytes : List ℕ) → IsOne (few limit at bytes)
unfolding few
few_one limit at bytes = record { one_made = λ x y m n. refl; one_end = λ a b e f. e.1 ∙ sym f.1; never_both = λ x a m e. omega (arith, m, e.0) }

lexes_once : (text : List ℕ) → IsOnce (Lexes text) (told_lexical text)
lexes_once text (Ok ts) (Ok us) p q t u = ap Ok (lexer.one_token_list text ts us p q)
lexes_once text (Ok ts) (Err (lex.Fault code at)) p q t u = absurd (lexer.never_both text ts code at p q)
lexes_once text (Err (lex.Fault code at)) (Ok us) p q t u = absurd (lexer.never_both text us code at q p)
lexes_once text (Err (lex.Fault code at)) (Err (lex.Fault other there)) p q t u = let same = lexer.one_fault text code other at there p q in ap₂ (λ c place. Err (lex.Fault c place)) same.0 same.1
lexes_once text (Err lex.NoMemory) s p q t u = absurd (none_told t.0 t.1)
lexes_once text r (Err lex.NoMemory) p q t u = absurd (none_told u.0 u.1)

pub lexed_one : (text : List ℕ) → IsOne (lexed text)
unfolding lexed
lexed_one text = layer_one _ _ (lexes_once text)

parses_once : (text : List ℕ) (tokens : List Token) → IsOnce (Answers text 64 tokens) (told_syntax text)
parses_once text tokens (Ok a) (Ok b) p q t u = ap Ok (one_tree text 64 64 a b tokens p q)
parses_once text tokens (Ok a) (Err (syntax.Fault code at)) p (rest, place, fault) t u = absurd (fault_law.never_both text 64 tokens rest a code p fault)
parses_once text tokens (Err (syntax.Fault code at)) (Ok b) (rest, place, fault) q t u = absurd (fault_law.never_both text 64 tokens rest b code q fault)
parses_once text tokens (Err (syntax.Fault code at)) (Err (syntax.Fault other there)) (rest, place, fault) (rest', place', fault') t u =
    let same = fault_law.one_fault text 64 tokens rest rest' code other fault fault' in
    ap₂ (λ c p. Err (syntax.Fault c p)) same.0 (place ∙ ap (λ r. (head r).at) same.1 ∙ sym place')
parses_once text tokens (Err syntax.NoMemory) s p q t u = absurd (none_told t.0 t.1)
parses_once text tokens r (Err syntax.NoMemory) p q t u = absurd (none_told u.0 u.1)

pub parsed_one : (text : List ℕ) (tokens : List Token) → IsOne (parsed text tokens)
unfolding parsed
parsed_one text tokens = layer_one _ _ (parses_once text tokens)
