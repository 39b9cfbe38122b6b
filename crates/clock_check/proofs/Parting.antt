-- The parts of a clocking, over the lists of the model.
use Rattle.std.proofs.Common.{◌≡◌, ◌∙◌, ap, subst, ℕ, Bool, true, false, List, Option, Some, length, take, slice_get, slice_index_or}
use Rattle.std.specs.List.{count_by}
use Rattle.flat_model.specs.declared.model.FlatName.{FlatName}
use Rattle.clock_terms.specs.declared.data.NodeOf.{NodeOf}
use Rattle.clock_check.specs.private.Making.{AreNumbersOfNames, node_numbers}

pub names_at : (numbers : List (Option ℕ)) (list : List (Option ℕ)) (names own : List FlatName) (class_of classes : List ℕ) → names ≡ own → class_of ≡ classes
    → AreNumbersOfNames names class_of numbers (length names) list → AreNumbersOfNames own classes numbers (length own) list
names_at numbers list names own class_of classes e f h =
    subst (λ x. AreNumbersOfNames own x numbers (length own) list) f (subst (λ x. AreNumbersOfNames x class_of numbers (length x) list) e h)

pub nodes_at : (numbers : List (Option ℕ)) (list : List (Option ℕ)) (first n : ℕ) (class_of classes : List ℕ) (nodes own : List NodeOf) → first ≡ n → class_of ≡ classes → nodes ≡ own
    → list ≡ node_numbers class_of numbers first nodes → list ≡ node_numbers classes numbers n own
nodes_at numbers list first n class_of classes nodes own e f g h =
    h ∙ ap (λ x. node_numbers x numbers first nodes) f ∙ ap (λ x. node_numbers classes numbers x nodes) e ∙ ap (λ x. node_numbers classes numbers n x) g

pub parted_count : (clocked own : List Bool) (list : List ℕ) → clocked ≡ own → length list ≡ count_by (λ b. b) clocked → length list ≡ count_by (λ b. b) own
parted_count clocked own list e h = h ∙ ap (λ x. count_by (λ b. b) x) e

pub parted_each : (clocked own : List Bool) (partition parts : List ℕ) (list : List ℕ) → clocked ≡ own → partition ≡ parts
    → ((c : ℕ) → slice_index_or clocked c false ≡ true → slice_get list (count_by (λ b. b) (take c clocked)) ≡ Some (slice_index_or partition c 0))
    → (c : ℕ) → slice_index_or own c false ≡ true → slice_get list (count_by (λ b. b) (take c own)) ≡ Some (slice_index_or parts c 0)
parted_each clocked own partition parts list e f h =
    subst (λ x. (c : ℕ) → slice_index_or x c false ≡ true → slice_get list (count_by (λ b. b) (take c x)) ≡ Some (slice_index_or parts c 0)) e
    (subst (λ y. (c : ℕ) → slice_index_or clocked c false ≡ true → slice_get list (count_by (λ b. b) (take c clocked)) ≡ Some (slice_index_or y c 0)) f h)
