use Rattle.std.proofs.Common.{◌≡◌, ◌∙◌, inl, inr, List, Option, [], ap, refl, true, unwrap_or, subst}
use Rattle.clap.specs.Words.{App, Text, fault_of, first_of, first_value, found_of, is_simple, is_simple_and_free, matches_of, HasMatchesOf}
use Rattle.clap.specs.Words.{HasKind, Kinds, kind_of}
use Rattle.clap.specs.declared.error.Error.{Error}
use Rattle.clap.specs.declared.error.kind.ErrorKind.TheVariants.{OutOfMemory}
use Rattle.clap.specs.declared.parser.matches.ArgMatches.{ArgMatches}
use Rattle.clap.proofs.OnLiterals.{clap_on_literals}
use Rattle.clap.proofs.WalkLemmas.{first_value-rows}
use Rattle.command_words.specs.declared.arguments.Given.{Given}
use Rattle.command_words.specs.Choice.{Texts}
use Rattle.command_words.specs.declared.arguments.GivenEnd.{GivenEnd}
use Rattle.command_words.specs.declared.arguments.GivenEnd.TheVariants.{Untaken, NoMemory}
use Rattle.command_words.specs.private.Given.{IsFound, IsUntaken, given_texts}
use Rattle.command_words.specs.Words.{AreAccepted, clockrun, texts_of, value_at}

simple : is_simple clockrun ≡ true
unfolding clockrun clap_on_literals
simple = refl

free : is_simple_and_free clockrun ≡ true
unfolding clockrun clap_on_literals
free = refl

-- a command that is this one takes the words
pub are_taken : (a : App) (words : List Text) → a ≡ clockrun → (is_simple_and_free a ≡ true → fault_of a words ≡ []) → AreAccepted words
are_taken a words e h = let P : App → Type 0 = λ x. fault_of x words ≡ [] in subst P e (h (ap is_simple_and_free e ∙ free))

-- an id's first value, by the words
value_is : (m : ArgMatches) (words : List Text) (id : Text) (a : App) → a ≡ clockrun → HasMatchesOf a words m → first_value (found_of m) id ≡ value_at id words
value_is m words id a e has =
    first_value-rows (found_of m) id ∙ ap (first_of id) ((has (ap is_simple e ∙ simple)).0 ∙ ap (λ (x : App). matches_of x words) e)

-- texts of equal parts
same_texts : (a b : Texts) → a.model ≡ b.model → a.stop ≡ b.stop → a.table ≡ b.table → a.class ≡ b.class → a.workers ≡ b.workers → a.mode ≡ b.mode → a ≡ b
same_texts a b p q r s t u =
    let e : texts_with a.model a.stop a.table a.class a.workers a.mode ≡ texts_with b.model b.stop b.table b.class b.workers b.mode = cc in e
  where
    texts_with : Text → Text → Option Text → Option Text → Text → Text → Texts
    texts_with model stop table class workers mode = record { model = model; stop = stop; table = table; class = class; workers = workers; mode = mode }

-- what a parse by this command finds is what the words say
pub given_of_found : (m : ArgMatches) (words : List Text) (given : Given) (a : App) → a ≡ clockrun → HasMatchesOf a words m → IsFound (found_of m) given → given_texts given ≡ texts_of words
given_of_found m words given a e has found = same_texts (given_texts given) (texts_of words)
    (found.model ∙ ap (λ (o : Option Text). unwrap_or o []) (value_is m words _ a e has))
    (found.stop ∙ ap (λ (o : Option Text). unwrap_or o []) (value_is m words _ a e has))
    (found.table ∙ value_is m words _ a e has)
    (found.class ∙ value_is m words _ a e has)
    (found.workers ∙ ap (λ (o : Option Text). unwrap_or o []) (value_is m words _ a e has))
    (found.mode ∙ ap (λ (o : Option Text). unwrap_or o []) (value_is m words _ a e has))

-- an error that is not for want of memory comes only where the words are not taken
pub not_taken : (a : App) (words : List Text) (x : Error) → a ≡ clockrun → (is_simple_and_free a ≡ true → HasKind (fault_of a words) x) → (kind_of x ≡ OutOfMemory → ⊥) → AreAccepted words → ⊥
not_taken a words x e h other taken =
    let P : App → Type 0 = λ y. HasKind (fault_of y words) x in
    let Q : Kinds → Type 0 = λ ks. HasKind ks x in
    elim (subst Q taken (subst P e (h (ap is_simple_and_free e ∙ free)))) [ inl memory ↦ other memory | inr none ↦ none ]

-- words that are not taken where the end says so
pub untaken_of : (words : List Text) (end : GivenEnd) → (end ≡ Untaken → AreAccepted words → ⊥) → IsUntaken words end
untaken_of words Untaken none = none refl
untaken_of words NoMemory none = tt
