-- Texts that are put piece by piece, until a put fails.
use Rattle.std.proofs.Common.{◌≡◌, refl, ap, sym, subst, ◌∙◌, ℕ, ◌+◌, ◌≤◌, Bool, true, false, List, [], ◌++◌, Option, Result, Ok, Err, OnOk, OnErr, is_ok, length, take, length-append, append-nil, arith}
use Rattle.std.proofs.Math.Seq.{take-append-add}
use Rattle.std.proofs.lemmas.List.{take-append-le}
use Rattle.outside_io.specs.Counts.{Rose}
use Rattle.outside_io.specs.Texts.{grown, GrewByPrefix}
use Rattle.outside_io.proofs.Growth.{grown-grown, grown-nil}
use Rattle.outside_io.specs.declared.sink.WriteFailed.{WriteFailed}
use Rattle.run_trace.specs.Printing.{written}
use Rattle.run_trace.specs.private.Putting.{IsPut, IsPutBehind}

-- a text that grew by what was done, and then by a prefix of a piece, grew by a prefix of all that was to come
grew_after : (done piece rest all : List ℕ) (old new : Option (List ℕ)) → done ++ (piece ++ rest) ≡ all → GrewByPrefix piece (grown done old) new → GrewByPrefix all old new
grew_after done piece rest all old new whole (k, within, is) =
    let front : take (length done + k) (done ++ (piece ++ rest)) ≡ done ++ take k piece = take-append-add done (piece ++ rest) k ∙ ap (λ t. done ++ t) (take-append-le k piece rest within) in
    let fits : length done + k ≤ length (done ++ (piece ++ rest)) = rw length-append (rw length-append (omega (arith, within))) in
    let grew : GrewByPrefix (done ++ (piece ++ rest)) old new = (length done + k, fits, is ∙ grown-grown done (take k piece) old ∙ ap (λ t. grown t old) (sym front)) in
    subst (λ t. GrewByPrefix t old new) whole grew

-- a prefix of a text is one of a longer text
grew_longer : (text rest : List ℕ) (old new : Option (List ℕ)) → GrewByPrefix text old new → GrewByPrefix (text ++ rest) old new
grew_longer text rest old new grew = grew_after [] text rest (text ++ rest) old new refl (subst (λ o. GrewByPrefix text o new) (sym (grown-nil old)) grew)

-- what `put_all` does with a piece
pub put_is : (r : Result (Unit {0}) WriteFailed) (piece : List ℕ) (old new : Option (List ℕ)) (a b : ℕ) → OnOk r (new ≡ grown piece old) → OnErr r (GrewByPrefix piece old new) → OnErr r (Rose a b) → OnOk r (b ≡ a)
    → IsPut (is_ok r) piece (written old new a b)
put_is (Ok x) piece old new a b ok err failed quiet = (ok, quiet)
put_is (Err x) piece old new a b ok err failed quiet = (failed, err)

-- one piece more
pub put_more : (whole result : Bool) (text piece : List ℕ) (old mid new : Option (List ℕ)) (a b c : ℕ) → IsPut whole text (written old mid a b) → IsPutBehind whole result piece (written mid new b c)
    → IsPut result (text ++ piece) (written old new a c)
put_more true true text piece old mid new a b c (is, same) (more, still) = (more ∙ ap (grown piece) is ∙ grown-grown text piece old, still ∙ same)
put_more true false text piece old mid new a b c (is, same) (rose, grew) =
    (subst (λ n. Rose n c) same rose, grew_after text piece [] (text ++ piece) old new (ap (λ r. text ++ r) (append-nil piece)) (subst (λ o. GrewByPrefix piece o new) is grew))
put_more false true text piece old mid new a b c was (failed, is, same) = absurd cc
put_more false false text piece old mid new a b c (rose, grew) (failed, is, same) =
    (subst (λ n. Rose a n) (sym same) rose, grew_longer text piece old new (subst (λ o. GrewByPrefix text old o) (sym is) grew))
