-- The stages of the texts of a model: the file, its tokens and its tree.
use Rattle.std.proofs.Common.{◌≡◌, refl, ap, sym, subst, ◌∙◌, inl, inr, ℕ, suc, ◌+◌, ◌-◌, ◌^◌, ◌<◌, ◌≤◌, Bool, List, length, replicate, Option, Some, Ok, Err, arith}
use Rattle.std.proofs.Math.Nat.{min-le_left, min-le_right, le-min}
use Rattle.std.proofs.lemmas.List.{length-replicate}
use Rattle.std.specs.Borrow.{Bor}
use Rattle.outside_io.specs.Counts.{Rose, next}
use Rattle.outside_io.specs.Files.{Files, Known, Unknown, NotHeld, File, IsWhole, IsLonger, known}
use Rattle.flat_model.specs.declared.place.Place.{Place}
use Rattle.mo_lexer.specs.declared.fault.LexCode.{LexCode}
use Rattle.mo_lexer.specs.declared.fault.LexEnd.TheVariants as lex
use Rattle.mo_lexer.specs.declared.token.Token.{Token}
use Rattle.mo_lexer.specs.Tokens.{Lexes}
use Rattle.mo_parser.specs.declared.tree.Tree.{Tree}
use Rattle.mo_parser.specs.declared.syntax.SyntaxCode.{SyntaxCode}
use Rattle.mo_parser.specs.declared.syntax.ParseEnd.TheVariants as syntax
use Rattle.mo_parser.specs.grammar.Faults as grammar
use Rattle.flat_answer.specs.Places.{place_at}
use Rattle.trace_print.specs.declared.code.Code.TheVariants.{L0}
use Rattle.command_answer.specs.Calls.{Outside, files_of, reads_in, read_fault}
use Rattle.command_answer.specs.Codes.{code_of_lexical, code_of_syntax}
use Rattle.command_answer.specs.Layers.{few, lexed, parsed}
use Rattle.command_answer.specs.Stages.{refused, ◌>>=◌, always, layer}
use Rattle.command_stages.specs.declared.end.End.TheVariants.{Refused, ReadFault}
use Rattle.command_stages.specs.Ends.{Halts}
use Rattle.command_stages.specs.Reading.{IsStepOf}
use Rattle.command_stages.specs.Segments.{file_of, tree_of}

-- a count that rises in a step rises in the call
rose_within : (a b c d : ℕ) → a ≤ b → c ≤ d → Rose b c → Rose a d
rose_within a b c d low high rose =
    let left : next a ≤ a + 1 = min-le_left _ _ in
    let right : next a ≤ 2 ^ 64 - 1 = min-le_right _ _ in
    let both : next a ≤ next b = le-min (omega (arith, left, low)) right in
    omega (arith, both, rose, high)

-- some bytes are more than any limit
longer_than : (limit : ℕ) → (bytes : List ℕ) × (limit < length bytes)
longer_than limit = (replicate (suc limit) 0, subst (λ n. limit < n) (sym (length-replicate (suc limit) 0)) (omega arith))

-- a file that is too long has some bytes that are too many
long_bytes : (limit : ℕ) (t : Known) → IsLonger t limit → (bytes : List ℕ) × IsWhole t bytes × (limit < length bytes)
long_bytes limit Unknown longer = let (bytes, over) = longer_than limit in (bytes, tt, over)
long_bytes limit NotHeld longer = absurd longer
long_bytes limit (File bytes) longer = (bytes, refl, longer)

-- the file of a step of a call
module _ (o : Outside) (held : Option Files) (empty : Bool) (before after : List ℕ → ℕ) (step : IsStepOf o held empty before after) (limit : ℕ) (place : Place) (name : List ℕ) where
  same_file : known held empty name ≡ files_of o name
  same_file = ap (λ h. known h empty name) step.holds ∙ ap (λ e. known o.held e name) step.flag

  pub file_makes : (bytes : List ℕ) → IsWhole (known held empty name) bytes → length bytes ≤ limit → (file_of (reads_in o) limit place name).makes bytes
  unfolding file_of reads_in few always ◌>>=◌
  file_makes bytes whole within = (bytes, subst (λ t. IsWhole t bytes) same_file whole, (tt, within, refl))

  pub file_too_long : IsLonger (known held empty name) limit → Halts (file_of (reads_in o) limit place name) (Refused L0 place)
  unfolding file_of reads_in few always ◌>>=◌
  file_too_long longer answer is =
      let (bytes, whole, over) = long_bytes limit (known held empty name) longer in
      inr (bytes, subst (λ t. IsWhole t bytes) same_file whole, inl (over, let same : Some (refused L0 place) ≡ Some answer = is in cc))

  pub file_unread : (read : Bor (List ℕ)) → read.now ≡ name → Rose (before name) (after name) → Halts (file_of (reads_in o) limit place name) (ReadFault read)
  unfolding file_of reads_in few always ◌>>=◌
  file_unread read same rose answer is =
      inl (
        rose_within (o.faults name) (before name) (after name) (o.faults_after name) (step.since name) (step.until name) rose,
        let known : Some (read_fault read.now) ≡ Some answer = is in let one : answer ≡ read_fault read.now = cc in one ∙ ap read_fault same,
      )

-- the tree of a text
pub tree_makes : (text : List ℕ) (tokens : List Token) (tree : Tree) → Lexes text (Ok tokens) → grammar.Answers text 64 tokens (Ok tree) → (tree_of text).makes tree
unfolding tree_of lexed parsed layer ◌>>=◌
tree_makes text tokens tree p q = (tokens, p, q)

pub unlexed : (text : List ℕ) (code : LexCode) (at : ℕ) → Lexes text (Err (lex.Fault code at)) → Halts (tree_of text) (Refused (code_of_lexical code) (place_at text at))
unfolding tree_of lexed parsed layer ◌>>=◌
unlexed text code at p answer is = inl (lex.Fault code at, p, is)

pub unparsed : (text : List ℕ) (tokens : List Token) (code : SyntaxCode) (at : ℕ) → Lexes text (Ok tokens) → grammar.Answers text 64 tokens (Err (syntax.Fault code at))
    → Halts (tree_of text) (Refused (code_of_syntax code) (place_at text at))
unfolding tree_of lexed parsed layer ◌>>=◌
unparsed text tokens code at p q answer is = inr (tokens, p, (syntax.Fault code at, q, is))
