-- A line that is put in three pieces.
use Rattle.std.proofs.Common.{◌≡◌, ap, sym, subst, ◌∙◌, ℕ, ◌+◌, ◌≤◌, inl, inr, List, [], ◌++◌, Option, length, take, append_assoc, append-nil, length-append, arith}
use Rattle.std.proofs.Math.Seq.{take-append-add}
use Rattle.std.proofs.lemmas.List.{take-append-le}
use Rattle.outside_io.specs.Counts.{Rose}
use Rattle.outside_io.specs.Texts.{grown, GrewByPrefix}
use Rattle.outside_io.proofs.Growth.{grown-nil, grown-grown}
use Rattle.command_answer.specs.declared.status.Status.{Status}
use Rattle.clocked_run.specs.private.Putting.{PutsLine}

-- a text that grew by what was done, and then by a prefix of a piece, grew by a prefix of all that was to come
grew_after : (done piece rest all : List ℕ) (old new : Option (List ℕ)) → done ++ (piece ++ rest) ≡ all → GrewByPrefix piece (grown done old) new → GrewByPrefix all old new
grew_after done piece rest all old new whole (k, within, is) =
    let front : take (length done + k) (done ++ (piece ++ rest)) ≡ done ++ take k piece = take-append-add done (piece ++ rest) k ∙ ap (λ t. done ++ t) (take-append-le k piece rest within) in
    let fits : length done + k ≤ length (done ++ (piece ++ rest)) = rw length-append (rw length-append (omega (arith, within))) in
    let grew : GrewByPrefix (done ++ (piece ++ rest)) old new = (length done + k, fits, is ∙ grown-grown done (take k piece) old ∙ ap (λ t. grown t old) (sym front)) in
    subst (λ t. GrewByPrefix t old new) whole grew

all_put : (a b c : List ℕ) (old one two three : Option (List ℕ)) → one ≡ grown a old → two ≡ grown b one → three ≡ grown c two → three ≡ grown (a ++ b ++ c) old
all_put a b c old one two three first second third =
    third ∙ ap (grown c) (second ∙ ap (grown b) first ∙ grown-grown a b old) ∙ grown-grown (a ++ b) c old

pub first_failed : (a b c : List ℕ) (old one : Option (List ℕ)) → GrewByPrefix a old one → GrewByPrefix (a ++ b ++ c) old one
first_failed a b c old one grew =
    grew_after [] a (b ++ c) (a ++ b ++ c) old one (sym (append_assoc a b c)) (subst (λ o. GrewByPrefix a o one) (sym (grown-nil old)) grew)

pub second_failed : (a b c : List ℕ) (old one two : Option (List ℕ)) → one ≡ grown a old → GrewByPrefix b one two → GrewByPrefix (a ++ b ++ c) old two
second_failed a b c old one two first grew =
    grew_after a b c (a ++ b ++ c) old two (sym (append_assoc a b c)) (subst (λ o. GrewByPrefix b o two) first grew)

third_failed : (a b c : List ℕ) (old one two three : Option (List ℕ)) → one ≡ grown a old → two ≡ grown b one → GrewByPrefix c two three → GrewByPrefix (a ++ b ++ c) old three
third_failed a b c old one two three first second grew =
    grew_after (a ++ b) c [] (a ++ b ++ c) old three (ap (λ r. a ++ b ++ r) (append-nil c))
    (subst (λ o. GrewByPrefix c o three) (second ∙ ap (grown b) first ∙ grown-grown a b old) grew)

-- a count that rose later rose
pub rose_later : (before middle after : ℕ) → before ≤ middle → Rose middle after → Rose before after
rose_later before middle after up rose = omega (arith, up, rose)

-- the last piece was put, or err failed in the midst of it
pub last_put : (right s : Status) (a b c : List ℕ) (old one two three : Option (List ℕ)) (before middle after : ℕ) → one ≡ grown a old → two ≡ grown b one → before ≤ middle
    → PutsLine right c s (record { old = two; new = three; before = middle; after = after }) → PutsLine right (a ++ b ++ c) s (record { old = old; new = three; before = before; after = after })
last_put right s a b c old one two three before middle after first second up (inl (same, put)) = inl (same, all_put a b c old one two three first second put)
last_put right s a b c old one two three before middle after first second up (inr (same, rose, prefix)) =
    inr (same, rose_later before middle after up rose, third_failed a b c old one two three first second prefix)
