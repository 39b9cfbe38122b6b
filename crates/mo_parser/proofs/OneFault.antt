-- Each list of tokens has a tree or a fault, and at most one.
use Rattle.std.proofs.Common.{◌≡◌, ◌≤◌, ◌<◌, ◌⊎◌, ◌∷◌, inl, inr, ℕ, Bool, true, false, List, length, refl, subst, arith}
use Rattle.mo_lexer.specs.declared.token.Token.{Token}
use Rattle.mo_parser.specs.declared.tree.Tree.{Tree}
use Rattle.mo_parser.specs.declared.syntax.SyntaxCode.{SyntaxCode}
use Rattle.mo_parser.specs.declared.syntax.SyntaxCode.TheVariants as code
use Rattle.mo_parser.specs.grammar.Kinds.{is_end, is_foreign}
use Rattle.mo_parser.specs.grammar.Faults.{FaultLaw, IsFault, IsRefused, Derives, code_by}
use Rattle.mo_parser.specs.grammar.Places.{Front, Swap, head, here, next, start, there}
use Rattle.mo_parser.specs.reading.Outcomes.{Outcome, Deep, Read, Stuck}
use Rattle.mo_parser.specs.reading.Classes.{file}
use Rattle.mo_parser.proofs.rules.Lists.{Tail, more, none, tail_length}
use Rattle.mo_parser.proofs.fits.Classes.{fits_file}
use Rattle.mo_parser.proofs.Faults.{longer_refused, refusal, spelled_read, stuck_refused, too_deep}

front_tail : (a b a' b' : List Token) → Front a b a' b' → Tail a b
front_tail a b a' b' (start c c') = none c
front_tail a b a' b' (next x c d c' d' f) = more x c d (front_tail c d c' d' f)

tail_swap : (a b : List Token) → Tail a b → Swap a b a b
tail_swap a b (none c) = here c c refl
tail_swap a b (more x c d t) = there x c d c d (tail_swap c d t)

-- what is left of a list is told by its length
same_tail : (a b c : List Token) → Tail a b → Tail a c → length b ≡ length c → b ≡ c
same_tail a b c (none d) (none e) same = refl
same_tail a b c (none d) (more x e f t) same = let less : length f ≤ length e = tail_length e f t in absurd (omega (arith, same))
same_tail a b c (more x d e s) (none f) same = let less : length e ≤ length d = tail_length d e s in absurd (omega (arith, same))
same_tail a b c (more x d e s) (more y f g t) same = same_tail d e g s t same

-- a list that goes on from a later place has the same next token at an earlier one
swapped : (a b c a' c' : List Token) → Tail a b → Front a c a' c' → length c < length b → (b' : List Token) × Swap a b a' b'
swapped a b c a' c' (none d) (start e e') less = absurd (omega (arith, less))
swapped a b c a' c' (none d) (next x e f e' f' g) less = (x ∷ e', here (x ∷ e) (x ∷ e') refl)
swapped a b c a' c' (more x d e s) (start f f') less = let few : length e ≤ length d = tail_length d e s in absurd (omega (arith, less))
swapped a b c a' c' (more x d e s) (next y f g f' g' h) less = let (b', rest) = swapped d e g f' g' s h less in (b', there x d e f' b' rest)

module _ (text : List ℕ) (n : ℕ) (tokens : List Token) where
  refused_tail : (rest : List Token) → IsRefused text n tokens rest → Tail tokens rest
  refused_tail rest r = let (m, t, a, b, front, spelled) = r.before in front_tail tokens rest a b front

  not_later : (rest other : List Token) → IsRefused text n tokens rest → IsRefused text n tokens other → length other < length rest → ⊥
  not_later rest other r s less =
      let (m, t, a, b, front, spelled) = s.before in let (b', same) = swapped tokens rest other a b (refused_tail rest r) front less in r.here m t a b' same spelled

  one_place : (rest other : List Token) → IsRefused text n tokens rest → IsRefused text n tokens other → rest ≡ other
  one_place rest other r s =
      let no_later : length other < length rest → ⊥ = not_later rest other r s in
      let no_earlier : length rest < length other → ⊥ = not_later other rest s r in
      same_tail tokens rest other (refused_tail rest r) (refused_tail other s) (omega (arith, no_later, no_earlier))

  -- what is read where a token is refused
  abbrev Refuses : Outcome Tree → List Token → Type 0
  Refuses (Read t after) rest = (after ≡ rest) × (is_end (head rest) ≡ false)
  Refuses (Stuck after) rest = after ≡ rest
  Refuses (Deep after) rest = ⊥

  refused_reads : (o : Outcome Tree) → file text n tokens ≡ o → (rest : List Token) → IsRefused text n tokens rest → Refuses o rest
  refused_reads (Deep r) e rest i = i.shallow r ((fits_file text {n = n}).deep_sound tokens r e)
  refused_reads (Stuck r) e rest i = one_place r rest (stuck_refused text n tokens r e) i
  refused_reads (Read t r) e rest i = by_end (is_end (head r)) refl
    where
      by_end : (x : Bool) → is_end (head r) ≡ x → (r ≡ rest) × (is_end (head rest) ≡ false)
      by_end true h = absurd (i.here n t tokens rest (tail_swap tokens rest (refused_tail rest i)) (r, (fits_file text {n = n}).sound t tokens r e, h))
      by_end false h =
          let same : r ≡ rest = one_place r rest (longer_refused text n t tokens r e h) i in
          let P : List Token → Type 0 = λ ts. is_end (head ts) ≡ false in (same, subst P same h)

  read_deep : (rest : List Token) → IsFault text n tokens code.S2 rest → file text n tokens ≡ Deep rest
  read_deep rest f = (fits_file text {n = n}).deep_complete tokens rest f.deep

  spelled_not_refused : (rest : List Token) (t : Tree) → Derives text n t tokens → IsRefused text n tokens rest → ⊥
  spelled_not_refused rest t x i = i.here n t tokens rest (tail_swap tokens rest (refused_tail rest i)) x

  never_both : (rest : List Token) (t : Tree) (c : SyntaxCode) → Derives text n t tokens → IsFault text n tokens c rest → ⊥
  never_both rest t code.S1 x f = spelled_not_refused rest t x f.0
  never_both rest t code.S2 x f =
      let read : file text n tokens ≡ Read t x.0 = spelled_read text n n t tokens x.0 (omega arith) x.1 x.2 in let deep : file text n tokens ≡ Deep rest = read_deep rest f in cc
  never_both rest t code.S3 x f = spelled_not_refused rest t x f.0

  deep_not_refused : (rest other : List Token) → IsFault text n tokens code.S2 rest → IsRefused text n tokens other → ⊥
  deep_not_refused rest other f i = refused_reads (Deep rest) (read_deep rest f) other i

  same_code : (rest other : List Token) → rest ≡ other → is_foreign (head rest) ≡ true → is_foreign (head other) ≡ false → ⊥
  same_code rest other same foreign not = let P : List Token → Type 0 = λ ts. is_foreign (head ts) ≡ true in let also : is_foreign (head other) ≡ true = subst P same foreign in cc

  one_fault : (rest other : List Token) (c d : SyntaxCode) → IsFault text n tokens c rest → IsFault text n tokens d other → (c ≡ d) × (rest ≡ other)
  one_fault rest other code.S1 code.S1 f g = (refl, one_place rest other f.0 g.0)
  one_fault rest other code.S1 code.S2 f g = absurd (deep_not_refused other rest g f.0)
  one_fault rest other code.S1 code.S3 f g = absurd (same_code other rest (one_place other rest g.0 f.0) g.1 f.1)
  one_fault rest other code.S2 code.S1 f g = absurd (deep_not_refused rest other f g.0)
  one_fault rest other code.S2 code.S2 f g = let one : file text n tokens ≡ Deep rest = read_deep rest f in let two : file text n tokens ≡ Deep other = read_deep other g in (refl, cc)
  one_fault rest other code.S2 code.S3 f g = absurd (deep_not_refused rest other f g.0)
  one_fault rest other code.S3 code.S1 f g = absurd (same_code rest other (one_place rest other f.0 g.0) f.1 g.1)
  one_fault rest other code.S3 code.S2 f g = absurd (deep_not_refused other rest g f.0)
  one_fault rest other code.S3 code.S3 f g = (refl, one_place rest other f.0 g.0)

  abbrev Answered : Type 0
  Answered = ((t : Tree) × Derives text n t tokens) ⊎ ((c : SyntaxCode) × (rest : List Token) × IsFault text n tokens c rest)

  answered : (o : Outcome Tree) → file text n tokens ≡ o → Answered
  answered (Deep r) e = inr (code.S2, r, too_deep text n tokens r e)
  answered (Stuck r) e = inr (code_by (is_foreign (head r)), r, refusal text n tokens r (stuck_refused text n tokens r e))
  answered (Read t r) e = by_end (is_end (head r)) refl
    where
      by_end : (x : Bool) → is_end (head r) ≡ x → Answered
      by_end true h = inl (t, (r, (fits_file text {n = n}).sound t tokens r e, h))
      by_end false h = inr (code_by (is_foreign (head r)), r, refusal text n tokens r (longer_refused text n t tokens r e h))

pub fault_law : FaultLaw
fault_law = record {
  tree_or_fault = λ text n tokens. answered text n tokens (file text n tokens) refl;
  never_both = never_both;
  one_fault = one_fault;
}
