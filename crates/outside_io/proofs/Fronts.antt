-- How much of a file has been read.
use Rattle.std.proofs.Common.{◌≡◌, ◌≤◌, ◌<◌, ◌+◌, ◌++◌, ◌∙◌, ap, ap₂, sym, ℕ, List, [], take, length, length-append, length-take, arith}
use Rattle.std.proofs.Math.Seq.{take-add}
use Rattle.std.proofs.lemmas.List.{take_all}
use Rattle.outside_io.specs.Files.{Known, Unknown, NotHeld, File, IsPart, IsPastEnd, IsWhole, IsLonger}

-- these bytes are the front of the file, where it is known
abbrev pub IsFront : Known → List ℕ → Type 0
IsFront Unknown front = Unit {0}
IsFront NotHeld front = front ≡ []
IsFront (File bytes) front = (length front ≤ length bytes) × (front ≡ take (length front) bytes)

-- with the part that follows it is a front too
pub front_more : (file : Known) (front into : List ℕ) (count : ℕ) → count ≤ length into → IsFront file front → IsPart file (length front) into count → IsFront file (front ++ take count into)
front_more Unknown front into count within before part = tt
front_more NotHeld front into count within before part = absurd part
front_more (File bytes) front into count within before part =
    let size : length (front ++ take count into) ≡ length front + count = omega (arith, length-append front (take count into), length-take count into, within) in (
      omega (arith, size, part.0),
      ap₂ (λ a b. a ++ b) before.1 part.1 ∙ sym (take-add (length front) count bytes) ∙ sym (ap (λ n. take n bytes) size),
    )

-- past the end it is the whole
pub front_whole : (file : Known) (front : List ℕ) → IsFront file front → IsPastEnd file (length front) → IsWhole file front
front_whole Unknown front before past = tt
front_whole NotHeld front before past = past
front_whole (File bytes) front before past = before.1 ∙ take_all (length front) bytes past

-- a file is longer than what its front is longer than; a name that is not held has no such front
pub front_longer : (file : Known) (front : List ℕ) (limit : ℕ) → IsFront file front → limit < length front → IsLonger file limit
front_longer Unknown front limit before over = tt
front_longer NotHeld front limit before over = let none : length front ≡ 0 = ap length before in omega (arith, none, over)
front_longer (File bytes) front limit before over = omega (arith, before.0, over)
