-- Names.
use Rattle.std.proofs.Common.{None, ℕ, [], ◌∷◌, refl}
use Rattle.mo_lexer.specs.declared.token.Sym.TheVariants as s
use Rattle.mo_parser.specs.declared.grammar.names.Named.{Named}
use Rattle.mo_parser.specs.grammar.Kinds.{is_symbol}
use Rattle.mo_parser.specs.grammar.Names.{named, named_on}
use Rattle.mo_parser.specs.grammar.Names as rule
use Rattle.mo_parser.specs.reading.Names as read
use Rattle.mo_parser.proofs.rules.Fits.{Fits}
use Rattle.mo_parser.proofs.rules.Kinds.{sy}
use Rattle.mo_parser.proofs.rules.Gives.{fits_gives}
use Rattle.mo_parser.proofs.rules.Then.{fits_then}
use Rattle.mo_parser.proofs.rules.Many.{fits_many}
use Rattle.mo_parser.proofs.fits.Tests.{fits_ident, fits_symbol, tells_symbol}

pub fits_dotted : {n : ℕ} (x : Named) → Fits (sy s.Dot ∷ []) [] 1 None (λ _. rule.dotted x) (λ _. read.dotted x) n
unfolding rule.dotted read.dotted
fits_dotted x = fits_then (fits_then (fits_symbol s.Dot) (λ _. fits_ident) refl) (λ t. fits_gives (named_on x t)) refl

pub fits_name : {n : ℕ} → Fits (0 ∷ []) (sy s.Dot ∷ []) 1 None (λ _. rule.name) (λ _. read.name) n
unfolding rule.name read.name
fits_name = fits_then fits_ident (λ t. fits_many (is_symbol s.Dot) (sy s.Dot ∷ []) (tells_symbol s.Dot) refl (λ x. fits_dotted x) refl refl (named t)) refl
