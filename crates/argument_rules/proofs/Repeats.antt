-- Paths that stand twice.
use Rattle.std.proofs.Common.{◌≡◌, refl, ap, ap₂, sym, ◌∙◌, subst, ℕ, suc, ◌+◌, ◌<◌, ◌≤◌, Bool, true, false, List, [], ◌∷◌, ◌++◌, map, length, take, drop, get_or, Option, Some, None, arith, if◌then◌else◌}
use Rattle.std.proofs.lemmas.List.{take_more, drop_all, map-append, length-map, length-take-le}
use Rattle.std.proofs.Math.Seq.{drop-cons}
use Rattle.class_scopes.specs.Places.{Entry, lesser, least, repeats, is_among}
use Rattle.class_scopes.specs.Spelled.{Ident}
use Rattle.class_scopes.specs.Tables.{Numbered, Declares, IsTableOf}
use Rattle.class_scopes.proofs.Numbers.{least_more, old_name, new_name}
use Rattle.argument_rules.specs.declared.paths.Leaf.{Leaf}
use Rattle.argument_rules.specs.Paths.{entry}

abbrev key : Leaf → Ident
key leaf = leaf.path.items

-- the first leaves are in the table, and the least place of a second path among them is known
pub record IsSeen (leaves : List Leaf) (i : ℕ) (table : Numbered) (repeated : Option ℕ) : Type 0 where
  pub table_is : IsTableOf (map key (take i leaves)) table
  pub repeated_is : lesser repeated (least (repeats (map key (take i leaves)) (map entry (drop i leaves)))) ≡ least (repeats [] (map entry leaves))

module _ (leaves : List Leaf) (i : ℕ) (x : Leaf) (within : i < length leaves) (is : x ≡ get_or leaves i x) where
  abbrev names : List Ident
  names = map key (take i leaves)

  taken : map key (take (i + 1) leaves) ≡ names ++ key x ∷ []
  taken = ap (map key) (take_more leaves i x within) ∙ map-append key (take i leaves) (get_or leaves i x ∷ []) ∙ ap (λ y. names ++ key y ∷ []) (sym is)

  left : drop i leaves ≡ x ∷ drop (i + 1) leaves
  left =
      let next : suc i ≡ i + 1 = omega arith in
      drop-cons leaves i x within ∙ ap (λ y. y ∷ drop (suc i) leaves) (sym is) ∙ ap (λ n. x ∷ drop n leaves) next

  count : length names ≡ i
  count = length-map (take i leaves) key ∙ length-take-le i leaves (omega (arith, within))

  abbrev entries : ℕ → List Entry
  entries n = map entry (drop n leaves)

  one_more : (b : Bool) (r : Option ℕ) → is_among names (key x) ≡ b
      → lesser r (least (repeats names (entries i))) ≡ lesser (if b then lesser r (Some x.place) else r) (least (repeats (map key (take (i + 1) leaves)) (entries (i + 1))))
  one_more b r among =
      ap (λ rest. lesser r (least (repeats names (map entry rest)))) left
      ∙ least_more (is_among names (key x)) r x.place (repeats (names ++ key x ∷ []) (entries (i + 1)))
      ∙ ap₂ (λ c n. lesser (if c then lesser r (Some x.place) else r) (least (repeats n (entries (i + 1))))) among (sym taken)

  module _ (table after : Numbered) (name : Ident) (r : Option ℕ) (same : name ≡ key x) where
    pub seen_old : IsSeen leaves i table r → Declares table name i false after → IsSeen leaves (i + 1) after (lesser r (Some x.place))
    seen_old before told =
        let named : Declares table (key x) (length names) false after = subst (λ n. Declares table n i false after) same told in
        let both = old_name names (key x) table after before.table_is named in
        record {
          table_is = subst (λ n. IsTableOf n after) (sym taken) both.0;
          repeated_is = sym (one_more true r both.1) ∙ before.repeated_is;
        }

    pub seen_new : IsSeen leaves i table r → Declares table name i true after → IsSeen leaves (i + 1) after r
    seen_new before told =
        let named : Declares table (key x) (length names) true after = subst (λ n. Declares table (key x) n true after) (sym count)
        (subst (λ n. Declares table n i true after) same told) in
        let both = new_name names (key x) table after before.table_is named in
        record {
          table_is = subst (λ n. IsTableOf n after) (sym taken) both.0;
          repeated_is = sym (one_more false r both.1) ∙ before.repeated_is;
        }

pub seen_start : (leaves : List Leaf) → IsSeen leaves 0 [] None
seen_start leaves = record { table_is = λ name. refl; repeated_is = refl }

pub seen_all : (leaves : List Leaf) (i : ℕ) (table : Numbered) (r : Option ℕ) → length leaves ≤ i → IsSeen leaves i table r → r ≡ least (repeats [] (map entry leaves))
seen_all leaves i table r past all =
    ends r ∙ ap (λ s. lesser r (least (repeats (map key (take i leaves)) (map entry s)))) (sym (drop_all i leaves past)) ∙ all.repeated_is
  where
    ends : (r : Option ℕ) → r ≡ lesser r None
    ends None = refl
    ends (Some n) = refl
