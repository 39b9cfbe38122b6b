-- The root of a tree is the least of its leaves, and what is left to go until all leaves are at the cap.
use Rattle.std.proofs.Common.{◌≡◌, ◌≢◌, refl, sym, subst, ap, ◌∙◌, ℕ, zero, suc, ◌+◌, ◌-◌, ◌/◌, ◌<◌, ◌≤◌, ◌⊎◌, ⊎_elim, List, length, get_or, min, arith, Bool, true, false, ◌==◌, if◌then◌else◌, eq-eqb}
use Rattle.std.proofs.lemmas.Bool.{eqb-true, false≢true}
use Rattle.tick_tree.specs.Tree.{IsTree, leaf_of}

halves : (k : ℕ) → (k ≡ k / 2 + k / 2) ⊎ (k ≡ k / 2 + k / 2 + 1)
halves k = grind arith

-- a node is not below the root where the node above it is not
under : (nodes : List ℕ) → IsTree nodes → (i : ℕ) → 1 < i → i < length nodes → get_or nodes 1 0 ≤ get_or nodes (i / 2) 0 → get_or nodes 1 0 ≤ get_or nodes i 0
under nodes tree i some within up =
    let above : get_or nodes (i / 2) 0 ≡ min (get_or nodes (i / 2 + i / 2) 0) (get_or nodes (i / 2 + i / 2 + 1) 0) = tree.least (i / 2) (omega arith) (omega (arith, tree.even)) in
    ⊎_elim (λ e. subst (λ k. get_or nodes 1 0 ≤ get_or nodes k 0) (sym e) (omega (arith, up, above)))
    (λ e. subst (λ k. get_or nodes 1 0 ≤ get_or nodes k 0) (sym e) (omega (arith, up, above))) (halves i)

-- a node is not below the root
root_least_by : (n : ℕ) (nodes : List ℕ) → IsTree nodes → (i : ℕ) → i ≤ n → 0 < i → i < length nodes → get_or nodes 1 0 ≤ get_or nodes i 0
root_least_by zero nodes tree i le some within = absurd (omega arith)
root_least_by (suc n) nodes tree zero le some within = absurd (omega arith)
root_least_by (suc n) nodes tree (suc zero) le some within = omega arith
root_least_by (suc n) nodes tree (suc (suc i)) le some within =
    under nodes tree (suc (suc i)) (omega arith) within (root_least_by n nodes tree (suc (suc i) / 2) (omega arith) (omega arith) (omega arith))

pub root_least : (nodes : List ℕ) → IsTree nodes → (j : ℕ) → j + j < length nodes → get_or nodes 1 0 ≤ leaf_of nodes j
root_least nodes tree j within = root_least_by (length nodes / 2 + j) nodes tree (length nodes / 2 + j) (omega arith) (omega (arith, tree.even)) (omega (arith, tree.even))

-- how far the first n leaves are from a limit, together
abbrev pub left_of : ℕ → ℕ → (ℕ → ℕ) → ℕ
left_of limit zero f = 0
left_of limit (suc n) f = (limit - f n) + left_of limit n f

left_same : (limit n : ℕ) (f g : ℕ → ℕ) → ((j : ℕ) → j < n → g j ≡ f j) → left_of limit n g ≡ left_of limit n f
left_same limit zero f g same = refl
left_same limit (suc n) f g same = omega (arith, same n (omega arith), left_same limit n f g (λ j lt. same j (omega arith)))

before : (a b : ℕ) → a < suc b → (a ≡ b) ⊎ (a < b)
before a b lt = grind arith

pub left_less : (limit n i : ℕ) (f g : ℕ → ℕ) → i < n → f i < g i → f i < limit → ((j : ℕ) → j ≢ i → g j ≡ f j) → left_of limit n g < left_of limit n f
left_less limit zero i f g lt more below same = absurd (omega arith)
left_less limit (suc n) i f g lt more below same = ⊎_elim
    (λ e. omega (arith, left_same limit n f g (λ j lt. same j (omega arith)), subst (λ k. f k < g k) e more, subst (λ k. f k < limit) e below))
    (λ less. omega (arith, left_less limit n i f g less more below same, same n (omega arith)))
    (before i n lt)

-- a leaf that was moved on or left alone, where none is at the old root any more
pub moved_law : (old new root next : ℕ) → root ≤ new → new ≢ root → (new ≡ old) ⊎ ((old ≡ root) × (root < new) × (new ≡ next)) → new ≡ (if old == root then next else old)
moved_law old new root next le other cases = by_test (old == root) refl
  where
    by_test : (b : Bool) → (old == root) ≡ b → new ≡ (if old == root then next else old)
    by_test true e = rw e (⊎_elim (λ same. absurd (other (same ∙ eqb-true old root e))) (λ moved. moved.2) cases)
    by_test false e = rw e (⊎_elim (λ same. same) (λ moved. absurd (false≢true (sym e ∙ eq-eqb old root moved.0))) cases)

either : (a b : ℕ) → (a < b) ⊎ (b ≤ a)
either a b = grind arith

-- a node is not below what is below all leaves
above_all_by : (n : ℕ) (nodes : List ℕ) → IsTree nodes → (least : ℕ) → ((j : ℕ) → j + j < length nodes → least ≤ leaf_of nodes j) → (i : ℕ) → length nodes ≤ i + n → 0 < i → i < length nodes → least ≤ get_or nodes i 0
above_all_by zero nodes tree least leaves i far some within = absurd (omega arith)
above_all_by (suc n) nodes tree least leaves i far some within = ⊎_elim
    (λ inner.
    let left = above_all_by n nodes tree least leaves (i + i) (omega arith) (omega arith) (omega (arith, tree.even, inner)) in
    let right = above_all_by n nodes tree least leaves (i + i + 1) (omega arith) (omega arith) (omega (arith, tree.even, inner)) in
    omega (arith, left, right, tree.least i some inner))
    (λ outer.
    let at : length nodes / 2 + (i - length nodes / 2) ≡ i = omega (arith, outer) in
    subst (λ k. least ≤ get_or nodes k 0) at (leaves (i - length nodes / 2) (omega (arith, tree.even, outer))))
    (either i (length nodes / 2))

pub above_all : (nodes : List ℕ) → IsTree nodes → (least : ℕ) → 1 < length nodes → ((j : ℕ) → j + j < length nodes → least ≤ leaf_of nodes j) → least ≤ get_or nodes 1 0
above_all nodes tree least some leaves = above_all_by (length nodes) nodes tree least leaves 1 (omega arith) (omega arith) some

pub not_below : (old new root next : ℕ) → root ≤ old → (new ≡ old) ⊎ ((old ≡ root) × (root < new) × (new ≡ next)) → root ≤ new
not_below old new root next le cases = ⊎_elim (λ same. omega (arith, same, le)) (λ moved. omega (arith, moved.1)) cases

-- some leaf has the key of a node
attained_by : (n : ℕ) (nodes : List ℕ) → IsTree nodes → (i : ℕ) → length nodes ≤ i + n → 0 < i → i < length nodes → (j : ℕ) × (j + j < length nodes) × (leaf_of nodes j ≡ get_or nodes i 0)
attained_by zero nodes tree i far some within = absurd (omega arith)
attained_by (suc n) nodes tree i far some within = ⊎_elim
    (λ inner.
    let left = attained_by n nodes tree (i + i) (omega arith) (omega arith) (omega (arith, tree.even, inner)) in
    let right = attained_by n nodes tree (i + i + 1) (omega arith) (omega arith) (omega (arith, tree.even, inner)) in
    ⊎_elim (λ same. (left.0, left.1, left.2 ∙ sym same)) (λ same. (right.0, right.1, right.2 ∙ sym same)) (least_is _ _ _ (tree.least i some inner)))
    (λ outer.
    let at : length nodes / 2 + (i - length nodes / 2) ≡ i = omega (arith, outer) in
    (i - length nodes / 2, omega (arith, tree.even, outer), ap (λ k. get_or nodes k 0) at))
    (either i (length nodes / 2))
  where
    least_is : (a b c : ℕ) → a ≡ min b c → (a ≡ b) ⊎ (a ≡ c)
    least_is a b c is = grind arith

pub attained : (nodes : List ℕ) → IsTree nodes → 1 < length nodes → (j : ℕ) × (j + j < length nodes) × (leaf_of nodes j ≡ get_or nodes 1 0)
attained nodes tree some = attained_by (length nodes) nodes tree 1 (omega arith) (omega arith) some
