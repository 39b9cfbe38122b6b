-- Lists by names that grow.
use Rattle.std.proofs.Common.{◌≡◌, refl, ap, ◌∙◌, ℕ, Bool, true, false, cond, List, [], ◌∷◌, ◌++◌, Option, Some, None, unwrap_or, bytes_eq, if◌then◌else◌}
use Rattle.std.specs.Borrow.{Bor}
use Rattle.std.specs.HashMap.{HashMap, UpdatesBy, get_by}
use Rattle.std.specs.Option.{option_map_or}
use Rattle.std.proofs.lemmas.Map.Text.{hash_map_updates_str}
use Rattle.std.proofs.lemmas.Slice.Eq.{bytes_eq-Decides}

-- the list that is found, or an empty one
found_items : {X T : Type 0} (items : X → List T) (found : Option X) (empty list : X) → list ≡ unwrap_or found empty → items empty ≡ [] → items list ≡ option_map_or items found []
found_items items None empty list is none = ap items is ∙ none
found_items items (Some x) empty list is none = ap items is

module _ {X S T : Type 0} (items : X → List T) where
  abbrev pub listed_in : HashMap (Bor (List ℕ)) X S → List ℕ → List T
  listed_in m name = option_map_or items (get_by (λ key. bytes_eq name key.now) m) []

  -- a list that is taken out, grows and is put back
  module _ (name : List ℕ) (thing : T) (old mid new : HashMap (Bor (List ℕ)) X S) (found : Option X) (empty list longer : X)
      (removed : UpdatesBy (λ x y. bytes_eq x.now y.now) (λ k. bytes_eq name k.now) old mid None)
      (inserted : UpdatesBy (λ x y. bytes_eq x.now y.now) (λ k. bytes_eq name k.now) mid new (Some longer))
      (value : found ≡ get_by (λ key. bytes_eq name key.now) old) (or_empty : list ≡ unwrap_or found empty) (none : items empty ≡ [])
      (pushed : items longer ≡ items list ++ thing ∷ []) where
    grown : items longer ≡ listed_in old name ++ thing ∷ []
    grown = pushed ∙ ap (λ xs. xs ++ thing ∷ []) (found_items items found empty list or_empty none ∙ ap (λ got. option_map_or items got []) value)

    after : (other : List ℕ) → get_by (λ key. bytes_eq other key.now) new ≡ cond (bytes_eq name other) (Some longer) (cond (bytes_eq name other) None (get_by (λ key. bytes_eq other key.now) old))
    after other = hash_map_updates_str name mid new (Some longer) inserted other ∙ ap (cond (bytes_eq name other) (Some longer)) (hash_map_updates_str name old mid None removed other)

    pub listed_more : (other : List ℕ) → listed_in new other ≡ (if bytes_eq name other then listed_in old other ++ thing ∷ [] else listed_in old other)
    listed_more other = ap (λ got. option_map_or items got []) (after other) ∙ by (bytes_eq name other) refl
      where
        by : (b : Bool) → bytes_eq name other ≡ b
            → option_map_or items (cond b (Some longer) (cond b None (get_by (λ key. bytes_eq other key.now) old))) [] ≡ (if b then listed_in old other ++ thing ∷ [] else listed_in old other)
        by true same = grown ∙ ap (λ n. listed_in old n ++ thing ∷ []) ((bytes_eq-Decides name other).0 same)
        by false same = refl
