-- Numbers: what the longest exponent is, and with it the longest number.
use Rattle.std.proofs.Common.{◌≡◌, ◌≤◌, ◌<◌, ◌+◌, ◌++◌, ◌||◌, ◌==◌, ◌⊎◌, inl, inr, ◌∙◌, ℕ, zero, suc, Bool, true, false, cond, List, [], ◌∷◌, length, take, drop, slice_index, refl, ap, sym, subst, arith, codes, append_assoc, length-append, length-drop}
use Rattle.std.specs.List.{list_all, take_while}
use Rattle.std.proofs.lemmas.List.{length-take-le, take-append-drop}
use Rattle.std.proofs.lemmas.List.Sums.{take_while-cons, prefix_len-le-length}
use Rattle.std.proofs.lemmas.List.Folds.{length-prefix_len}
use Rattle.std.proofs.Math.Seq.{take-add, drop-append_seam, take-append_seam}
use Rattle.std.proofs.lemmas.Bool.Decides.{nat_tests}
use Rattle.mo_lexer.specs.declared.piece.Piece.{Piece}
use Rattle.mo_lexer.specs.declared.piece.Piece.TheVariants as piece
use Rattle.mo_lexer.specs.Bytes.{is_digit, is_exponent_letter}
use Rattle.mo_lexer.specs.Spelling.{Spells, IsRun, IsSign, IsExponent, IsPointed, IsScaled}
use Rattle.mo_lexer.specs.Tokens.{Begins}
use Rattle.mo_lexer.specs.private.Front.{has_point, sign_len, HasExponent}
use Rattle.mo_lexer.proofs.Pieces.{both, begins, most, all_pass, first_run, run_split}
use Rattle.mo_lexer.proofs.FirstBytes.{digit_only, spelled_as}

-- how many digits stand at the front
abbrev pub digits : List ℕ → ℕ
digits t = length (take_while is_digit t)

-- the bytes do not begin with a digit
abbrev Stops : List ℕ → Type 0
Stops [] = Unit {0}
Stops (b ∷ r) = is_digit b ≡ false

-- digits and no further digit: all of them
run_is : (t ds r : List ℕ) → t ≡ ds ++ r → list_all is_digit ds ≡ true → Stops r → take_while is_digit t ≡ ds
run_is t [] [] e all stops = rw e refl
run_is t [] (b ∷ r) e all stops = rw (e, take_while-cons is_digit b r, stops) refl
run_is t (d ∷ ds) r e all stops =
    let each = both (is_digit d) (list_all is_digit ds) all in
    rw e (first_run is_digit d (ds ++ r) each.0 ∙ ap (λ q. d ∷ q) (run_is (ds ++ r) ds r refl each.1 stops))

behind_is : (t ds r : List ℕ) → t ≡ ds ++ r → take_while is_digit t ≡ ds → drop (digits t) t ≡ r
behind_is t ds r e run = ap (λ q. drop (length q) t) run ∙ ap (drop (length ds)) e ∙ drop-append_seam ds r

-- ---- exponents

rest_of : (b c : ℕ) (t r : List ℕ) → b ∷ t ≡ c ∷ r → t ≡ r
rest_of b c t r e = cc

one_byte : (letter : List ℕ) → (letter ≡ codes "e") ⊎ (letter ≡ codes "E") → (c : ℕ) × (letter ≡ c ∷ [])
one_byte letter (inl e) = (101, e)
one_byte letter (inr e) = (69, e)

run_some : (p : ℕ → Bool) (ds : List ℕ) → IsRun p ds → 0 < length ds
run_some p [] run = absurd (run.0 refl)
run_some p (d ∷ ds) run = omega arith

-- an exponent at the front ends with the digits behind the sign, and these are some
exponent_sizes : (b : ℕ) (t q s : List ℕ) → b ∷ t ≡ q ++ s → IsExponent q → (length q ≤ 1 + sign_len t + digits (drop (sign_len t) t)) × (0 < digits (drop (sign_len t) t))
exponent_sizes b t q s e x = go x.letter x.sign x.digits x.letter_right x.sign_right (e ∙ ap (λ z. z ++ s) x.whole) x.digits_right (ap length x.whole)
  where
    signed : (sign ds : List ℕ) → IsSign sign → t ≡ sign ++ (ds ++ s) → IsRun is_digit ds → (length sign ≡ sign_len t) × (drop (sign_len t) t ≡ ds ++ s)
    signed sign [] right whole run = absurd (run.0 refl)
    signed sign (d ∷ ds) (inl none) whole run =
        let first = (both (is_digit d) (list_all is_digit ds) run.1).0 in
        let no_plus : d == 43 ≡ false = grind (arith, nat_tests) in
        let no_minus : d == 45 ≡ false = grind (arith, nat_tests) in
        let here : t ≡ d ∷ (ds ++ s) = whole ∙ ap (λ z. z ++ (d ∷ (ds ++ s))) none in
        let none_there : sign_len t ≡ 0 = rw (here, no_plus, no_minus) refl in
        (ap length none ∙ sym none_there, rw none_there here)
    signed sign (d ∷ ds) (inr (inl plus)) whole run =
        let here : t ≡ 43 ∷ (d ∷ (ds ++ s)) = whole ∙ ap (λ z. z ++ (d ∷ (ds ++ s))) plus in (ap length plus ∙ sym (ap sign_len here), ap (λ z. drop (sign_len z) z) here)
    signed sign (d ∷ ds) (inr (inr minus)) whole run =
        let here : t ≡ 45 ∷ (d ∷ (ds ++ s)) = whole ∙ ap (λ z. z ++ (d ∷ (ds ++ s))) minus in (ap length minus ∙ sym (ap sign_len here), ap (λ z. drop (sign_len z) z) here)

    go : (letter sign ds : List ℕ) → (letter ≡ codes "e") ⊎ (letter ≡ codes "E") → IsSign sign → b ∷ t ≡ (letter ++ (sign ++ ds)) ++ s → IsRun is_digit ds → length q ≡ length (letter ++ (sign ++ ds))
        → (length q ≤ 1 + sign_len t + digits (drop (sign_len t) t)) × (0 < digits (drop (sign_len t) t))
    go letter sign ds one right whole run size =
        let c = one_byte letter one in
        let split : t ≡ sign ++ (ds ++ s) = rest_of b c.0 t _ (whole ∙ ap (λ z. (z ++ (sign ++ ds)) ++ s) c.1) ∙ append_assoc sign ds s in
        let found = signed sign ds right split run in
        let least = most is_digit (drop (sign_len t) t) ds s found.1 run.1 in
        let some = run_some is_digit ds run in
        (omega (arith, size, length-append letter (sign ++ ds), length-append sign ds, ap length c.1, found.0, least), omega (arith, some, least))

pub letter_first : (b : ℕ) (q : List ℕ) → IsExponent (b ∷ q) → is_exponent_letter b ≡ true
letter_first b q x = go x.letter_right
  where
    go : (x.letter ≡ codes "e") ⊎ (x.letter ≡ codes "E") → is_exponent_letter b ≡ true
    go (inl e) = let same : b ∷ q ≡ 101 ∷ (x.sign ++ x.digits) = x.whole ∙ ap (λ z. z ++ (x.sign ++ x.digits)) e in let here : b ≡ 101 = cc in ap is_exponent_letter here
    go (inr e) = let same : b ∷ q ≡ 69 ∷ (x.sign ++ x.digits) = x.whole ∙ ap (λ z. z ++ (x.sign ++ x.digits)) e in let here : b ≡ 69 = cc in ap is_exponent_letter here

pub no_exponent : (t : List ℕ) → (0 < length t → is_exponent_letter (slice_index t 0) ≡ false) → HasExponent t 0
no_exponent t fails = record { within = omega arith; spelled = λ some. absurd (omega arith); longest = longest t fails }
  where
    longest : (t : List ℕ) → (0 < length t → is_exponent_letter (slice_index t 0) ≡ false) → (further : ℕ) → further ≤ length t → IsExponent (take further t) → further ≤ 0
    longest t fails zero inside x = omega arith
    longest [] fails (suc n) inside x = absurd (omega arith)
    longest (b ∷ t) fails (suc n) inside x = let here = letter_first b (take n t) x in let not_here = fails (omega arith) in cc

pub exponent_none : (t : List ℕ) → 0 < length t → digits (drop (sign_len (drop 1 t)) (drop 1 t)) ≡ 0 → HasExponent t 0
exponent_none [] some none = absurd (omega arith)
exponent_none (b ∷ t) some none = record {
  within = omega arith;
  spelled = λ more. absurd (omega arith);
  longest = λ further inside x. let sizes = exponent_sizes b t (take further (b ∷ t)) (drop further (b ∷ t)) (sym (take-append-drop further (b ∷ t))) x in absurd (omega (arith, none, sizes.1));
}

letter_is : (b : ℕ) → is_exponent_letter b ≡ true → (b ∷ [] ≡ codes "e") ⊎ (b ∷ [] ≡ codes "E")
letter_is b h = go (b == 101) refl
  where
    go : (x : Bool) → b == 101 ≡ x → (b ∷ [] ≡ codes "e") ⊎ (b ∷ [] ≡ codes "E")
    go true is = let same : b ≡ 101 = grind (arith, nat_tests) in inl (ap (λ z. z ∷ []) same)
    go false is = let same : b ≡ 69 = grind (arith, nat_tests) in inr (ap (λ z. z ∷ []) same)

sign_is : (t : List ℕ) → IsSign (take (sign_len t) t)
sign_is [] = inl refl
sign_is (b ∷ t) = go (b == 43) refl (b == 45) refl
  where
    go : (x : Bool) → b == 43 ≡ x → (y : Bool) → b == 45 ≡ y → IsSign (take (cond (x || y) 1 0) (b ∷ t))
    go true is y or = let same : b ≡ 43 = grind (arith, nat_tests) in inr (inl (ap (λ z. z ∷ []) same))
    go false is true or = let same : b ≡ 45 = grind (arith, nat_tests) in inr (inr (ap (λ z. z ∷ []) same))
    go false is false or = inl refl

sign_within : (t : List ℕ) → sign_len t ≤ length t
sign_within [] = omega arith
sign_within (b ∷ t) = go (b == 43 || b == 45)
  where
    go : (x : Bool) → cond x 1 0 ≤ suc (length t)
    go true = omega arith
    go false = omega arith

digits_within : (t : List ℕ) → digits t ≤ length t
digits_within t = omega (arith, length-prefix_len is_digit t, prefix_len-le-length is_digit t)

pub exponent : (t : List ℕ) → 0 < length t → is_exponent_letter (slice_index t 0) ≡ true → 0 < digits (drop (sign_len (drop 1 t)) (drop 1 t)) → HasExponent t (1 + sign_len (drop 1 t) + digits (drop (sign_len (drop 1 t)) (drop 1 t)))
exponent [] some letter more = absurd (omega arith)
exponent (b ∷ t) some letter more =
    let behind = drop (sign_len t) t in
    let parts : take (sign_len t + digits behind) t ≡ take (sign_len t) t ++ take_while is_digit behind =
    take-add (sign_len t) (digits behind) t ∙ ap (λ n. take (sign_len t) t ++ take n behind) (length-prefix_len is_digit behind) in
    record {
      within = omega (arith, sign_within t, digits_within behind, length-drop (sign_len t) t);
      spelled = λ more'. let one_more : 1 + sign_len t + digits behind ≡ suc (sign_len t + digits behind) = omega arith in
          subst IsExponent (sym (ap (λ n. take n (b ∷ t)) one_more ∙ ap (λ z. b ∷ z) parts)) (record {
            letter = b ∷ [];
            sign = take (sign_len t) t;
            digits = take_while is_digit behind;
            whole = refl;
            letter_right = letter_is b letter;
            sign_right = sign_is t;
            digits_right = (λ none. let size = ap length none in omega (arith, more, size), all_pass is_digit behind);
          });
      longest = λ further inside x. let sizes = exponent_sizes b t (take further (b ∷ t)) (drop further (b ∷ t)) (sym (take-append-drop further (b ∷ t))) x in
          let size = length-take-le further (b ∷ t) inside in omega (arith, sizes.0, size);
    }

-- ---- numbers

pub no_letters : IsExponent [] → ⊥
no_letters x = let one = one_byte x.letter x.letter_right in let none : [] ≡ one.0 ∷ (x.sign ++ x.digits) = x.whole ∙ ap (λ z. z ++ (x.sign ++ x.digits)) one.1 in cc

exponent_stops : (exponent s : List ℕ) → IsExponent exponent → Stops (exponent ++ s)
exponent_stops [] s x = absurd (no_letters x)
exponent_stops (b ∷ q) s x = let here = letter_first b q x in grind (arith, nat_tests)

digit_other : (other : Piece) (c : ℕ) (q : List ℕ) → is_digit c ≡ true → Spells other (c ∷ q) → IsRun is_digit (c ∷ q) ⊎ (IsPointed (c ∷ q) ⊎ IsScaled (c ∷ q))
digit_other other c q digit h = elim (digit_only other c q digit h) [ inl e ↦ inl (spelled_as (c ∷ q) e h) | inr e ↦ inr (spelled_as (c ∷ q) e h) ]

-- the numbers that stand at the front are bounded where their parts are
module _ (t : List ℕ) (some : 0 < length t) (first : is_digit (slice_index t 0) ≡ true) (bound : ℕ) (whole : digits t ≤ bound)
    (pointed : (places exponent s : List ℕ) → drop (digits t) t ≡ 46 ∷ (places ++ (exponent ++ s)) → list_all is_digit places ≡ true → (exponent ≡ []) ⊎ IsExponent exponent
    → digits t + 1 + length places + length exponent ≤ bound)
    (scaled : (exponent s : List ℕ) → drop (digits t) t ≡ exponent ++ s → IsExponent exponent → digits t + length exponent ≤ bound) where
  sizes : (q s : List ℕ) → t ≡ q ++ s → IsRun is_digit q ⊎ (IsPointed q ⊎ IsScaled q) → length q ≤ bound
  sizes q s e (inl run) = let least = most is_digit t q s e run.1 in omega (arith, least, whole)
  sizes q s e (inr (inl r)) =
      let split : t ≡ r.digits ++ (46 ∷ (r.places ++ (r.exponent ++ s))) = e ∙ ap (λ z. z ++ s) r.whole ∙ simp append_assoc in
      let run = run_is t r.digits _ split r.digits_right.1 refl in
      let least = pointed r.places r.exponent s (behind_is t r.digits _ split run) r.places_right r.exponent_right in
      omega (arith, least, ap length run, ap length r.whole, length-append r.digits (46 ∷ (r.places ++ r.exponent)), length-append r.places r.exponent)
  sizes q s e (inr (inr r)) =
      let split : t ≡ r.digits ++ (r.exponent ++ s) = e ∙ ap (λ z. z ++ s) r.whole ∙ append_assoc r.digits r.exponent s in
      let run = run_is t r.digits _ split r.digits_right.1 (exponent_stops r.exponent s r.exponent_right) in
      let least = scaled r.exponent s (behind_is t r.digits _ split run) r.exponent_right in
      omega (arith, least, ap length run, ap length r.whole, length-append r.digits r.exponent)

  number_sizes : (other : Piece) (q s : List ℕ) → t ≡ q ++ s → Spells other q → length q ≤ bound
  number_sizes other [] s e h = omega arith
  number_sizes other (c ∷ q) s e h = sizes (c ∷ q) s e (digit_other other c q (ap is_digit (ap (λ z. slice_index z 0) (sym e)) ∙ first) h)

-- digits at the front, and what follows
digits_split : (t : List ℕ) → t ≡ take_while is_digit t ++ drop (digits t) t
digits_split t = run_split is_digit t

digits_run : (t : List ℕ) → 0 < length t → is_digit (slice_index t 0) ≡ true → IsRun is_digit (take_while is_digit t)
digits_run [] some first = absurd (omega arith)
digits_run (b ∷ t) some first = (λ none. let cons = first_run is_digit b t first in cc, all_pass is_digit (b ∷ t))

exponent_least : (r : List ℕ) (n : ℕ) → HasExponent r n → (q s : List ℕ) → r ≡ q ++ s → IsExponent q → length q ≤ n
exponent_least r n x q s e h =
    let inside : length q ≤ length r = omega (arith, ap length e, length-append q s) in
    x.longest (length q) inside (subst IsExponent (sym (ap (take (length q)) e ∙ take-append_seam q s)) h)

point_is : (r : List ℕ) → has_point r ≡ true → r ≡ 46 ∷ drop 1 r
point_is [] h = cc
point_is (b ∷ r) h = let same : b ≡ 46 = grind (arith, nat_tests) in ap (λ z. z ∷ r) same

point_letter : (r q s : List ℕ) → has_point r ≡ true → r ≡ q ++ s → IsExponent q → ⊥
point_letter r [] s h e x = no_letters x
point_letter r (b ∷ q) s h e x = let here = letter_first b q x in let there : b == 46 ≡ true = sym (ap has_point e) ∙ h in grind (arith, nat_tests)

no_point : (r s : List ℕ) → has_point r ≡ false → r ≡ 46 ∷ s → ⊥
no_point r s h e = let there : has_point r ≡ true = ap has_point e in cc

may_have : (r : List ℕ) (n : ℕ) → HasExponent r n → (take n r ≡ []) ⊎ IsExponent (take n r)
may_have r zero x = inl refl
may_have r (suc n) x = inr (x.spelled (omega arith))

pub pointed_number : (t : List ℕ) (n : ℕ) → 0 < length t → is_digit (slice_index t 0) ≡ true → has_point (drop (digits t) t) ≡ true → HasExponent (drop (digits (drop 1 (drop (digits t) t))) (drop 1 (drop (digits t) t))) n
    → Begins piece.Real (digits t + 1 + digits (drop 1 (drop (digits t) t)) + n) t
pointed_number t n some first point x =
    let rest = drop (digits t) t in let behind = drop 1 rest in let last = drop (digits behind) behind in
    let p = take_while is_digit t ++ (46 ∷ (take_while is_digit behind ++ take n last)) in
    let bound = digits t + 1 + digits behind + n in
    let whole : t ≡ p ++ drop n last =
    digits_split t ∙ ap (λ z. take_while is_digit t ++ z) (point_is rest point ∙ ap (λ z. 46 ∷ z) (digits_split behind ∙ ap (λ z. take_while is_digit behind ++ z) (sym (take-append-drop n last)))) ∙ sym (simp append_assoc) in
    let size : length p ≡ bound =
    omega (arith, length-append (take_while is_digit t) (46 ∷ (take_while is_digit behind ++ take n last)), length-append (take_while is_digit behind) (take n last), length-take-le n last x.within) in
    let pointed : (places exponent s : List ℕ) → rest ≡ 46 ∷ (places ++ (exponent ++ s)) → list_all is_digit places ≡ true → (exponent ≡ []) ⊎ IsExponent exponent → digits t + 1 + length places + length exponent ≤ bound =
    λ places exponent s e all right. elim right [
      | inl none ↦ (let least = most is_digit behind places (exponent ++ s) (ap (drop 1) e) all in omega (arith, least, ap length none))
      | inr right ↦ (let run = run_is behind places (exponent ++ s) (ap (drop 1) e) all (exponent_stops exponent s right) in
          let least = exponent_least last n x exponent s (behind_is behind places (exponent ++ s) (ap (drop 1) e) run) right in omega (arith, least, ap length run))
    ] in
    let longest = number_sizes t some first bound (omega arith) pointed (λ exponent s e right. absurd (point_letter rest exponent s point e right)) in
    subst (λ k. Begins piece.Real k t) size (begins piece.Real p (drop n last) t whole
    (inl (record { digits = take_while is_digit t; places = take_while is_digit behind; exponent = take n last; whole = refl; digits_right = digits_run t some first; places_right = all_pass is_digit behind; exponent_right = may_have last n x }))
    (λ other q s e h. let least = longest other q s e h in omega (arith, least, size)))

pub whole_number : (t : List ℕ) → 0 < length t → is_digit (slice_index t 0) ≡ true → has_point (drop (digits t) t) ≡ false → HasExponent (drop (digits t) t) 0 → Begins piece.Integer (digits t) t
whole_number t some first point x =
    let rest = drop (digits t) t in
    begins piece.Integer (take_while is_digit t) rest t (digits_split t) (digits_run t some first)
    (number_sizes t some first (digits t) (omega arith) (λ places exponent s e all right. absurd (no_point rest _ point e)) (λ exponent s e right. let least = exponent_least rest 0 x exponent s e right in omega (arith, least)))

pub scaled_number : (t : List ℕ) (n : ℕ) → 0 < length t → is_digit (slice_index t 0) ≡ true → has_point (drop (digits t) t) ≡ false → 0 < n → HasExponent (drop (digits t) t) n → Begins piece.Real (digits t + n) t
scaled_number t n some first point more x =
    let rest = drop (digits t) t in let p = take_while is_digit t ++ take n rest in
    let size : length p ≡ digits t + n = omega (arith, length-append (take_while is_digit t) (take n rest), length-take-le n rest x.within) in
    let whole : t ≡ p ++ drop n rest = digits_split t ∙ ap (λ z. take_while is_digit t ++ z) (sym (take-append-drop n rest)) ∙ sym (append_assoc (take_while is_digit t) (take n rest) (drop n rest)) in
    let longest = number_sizes t some first (digits t + n) (omega arith) (λ places exponent s e all right. absurd (no_point rest _ point e)) (λ exponent s e right. let least = exponent_least rest n x exponent s e right in omega (arith, least)) in
    subst (λ k. Begins piece.Real k t) size (begins piece.Real p (drop n rest) t whole
    (inr (record { digits = take_while is_digit t; exponent = take n rest; whole = refl; digits_right = digits_run t some first; exponent_right = x.spelled more }))
    (λ other q s e h. let least = longest other q s e h in omega (arith, least, size)))
