-- A word can only be one of the keywords of its own length.
use Rattle.std.proofs.Common.{◌≡◌, ◌==◌, ◌&&◌, ◌∙◌, ◌≤◌, ℕ, Bool, true, false, cond, List, [], ◌∷◌, length, nat_le, Option, Some, None, bytes_eq, refl, sym, ap, arith}
use Rattle.std.specs.List.{list_all}
use Rattle.std.proofs.lemmas.Bool.Decides.{nat_tests}
use Rattle.mo_lexer.specs.declared.token.Word.{Word}
use Rattle.mo_lexer.specs.Keywords.{entry_of, keyword_of, keywords, sized}

both : (a b : Bool) → (a && b) ≡ true → (a ≡ true) × (b ≡ true)
both true b h = (refl, h)
both false b h = cc

alike : (a b : List ℕ) → bytes_eq a b ≡ true → length a ≡ length b
alike [] [] h = refl
alike [] (y ∷ b) h = cc
alike (x ∷ a) [] h = cc
alike (x ∷ a) (y ∷ b) h = let rest = alike a b (both (x == y) (bytes_eq a b) h).1 in omega (arith, rest)

-- an entry of another length than the word is not the word's
skips : (bytes : List ℕ) (entry : List ℕ × Word) (n : ℕ) (x : Option Word) → length bytes ≡ n → length entry.0 == n ≡ false → cond (bytes_eq bytes entry.0) (Some entry.1) x ≡ x
skips bytes entry n x h other = go (bytes_eq bytes entry.0) refl
  where
    go : (b : Bool) → bytes_eq bytes entry.0 ≡ b → cond b (Some entry.1) x ≡ x
    go true is = let same = alike bytes entry.0 is in absurd (grind (arith, nat_tests))
    go false is = refl

entry_sized : (bytes : List ℕ) (n : ℕ) (table : List (List ℕ × Word)) → length bytes ≡ n → entry_of bytes table ≡ entry_of bytes (sized n table)
entry_sized bytes n [] h = refl
entry_sized bytes n (entry ∷ table) h = go (length entry.0 == n) refl (entry_sized bytes n table h)
  where
    go : (b : Bool) → length entry.0 == n ≡ b → entry_of bytes table ≡ entry_of bytes (sized n table) → entry_of bytes (entry ∷ table) ≡ entry_of bytes (cond b (entry ∷ sized n table) (sized n table))
    go true is rest = ap (cond (bytes_eq bytes entry.0) (Some entry.1)) rest
    go false is rest = skips bytes entry n (entry_of bytes table) h is ∙ rest

pub keyword_sized : (bytes : List ℕ) (n : ℕ) → length bytes ≡ n → entry_of bytes (sized n keywords) ≡ keyword_of bytes
unfolding keyword_of
keyword_sized bytes n h = sym (entry_sized bytes n keywords h)

abbrev fits : List ℕ × Word → Bool
fits entry = nat_le 2 (length entry.0) && nat_le (length entry.0) 13

none_outside : (bytes : List ℕ) (table : List (List ℕ × Word)) → list_all fits table ≡ true → (2 ≤ length bytes → length bytes ≤ 13 → ⊥) → entry_of bytes table ≡ None
none_outside bytes [] sizes outside = refl
none_outside bytes (entry ∷ table) sizes outside = go (bytes_eq bytes entry.0) refl (none_outside bytes table (both (fits entry) (list_all fits table) sizes).1 outside)
  where
    go : (b : Bool) → bytes_eq bytes entry.0 ≡ b → entry_of bytes table ≡ None → cond b (Some entry.1) (entry_of bytes table) ≡ None
    go true is rest =
        let same = alike bytes entry.0 is in
        let size = both (nat_le 2 (length entry.0)) (nat_le (length entry.0) 13) (both (fits entry) (list_all fits table) sizes).0 in
        let low : 2 ≤ length entry.0 = grind (arith, nat_tests, size.0) in
        let high : length entry.0 ≤ 13 = grind (arith, nat_tests, size.1) in
        absurd (outside (omega (arith, same, low)) (omega (arith, same, high)))
    go false is rest = rest

pub keyword_none : (bytes : List ℕ) → (2 ≤ length bytes → length bytes ≤ 13 → ⊥) → None ≡ keyword_of bytes
unfolding keyword_of
keyword_none bytes outside = sym (none_outside bytes keywords refl outside)
