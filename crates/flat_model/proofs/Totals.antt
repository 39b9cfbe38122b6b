-- The steps of an evaluation that may lack a value.
use Rattle.std.proofs.Common.{◌≡◌, refl, ap, ap₂, ◌∙◌, sym, subst, ℕ, suc, ◌<◌, ◌≤◌, Bool, true, false, Some, None, List, [], ◌∷◌, drop, length, get_or}
use Rattle.std.proofs.lemmas.List.{drop_all}
use Rattle.std.proofs.lemmas.Option.{same_Some, none-some}
use Rattle.sync_values.specs.declared.value.Value.TheVariants as value
use Rattle.sync_values.specs.declared.value.ChainOp.{ChainOp}
use Rattle.flat_model.specs.declared.expression.Expr.{Expr}
use Rattle.flat_model.specs.Values.{failed, truth_in}
use Rattle.flat_model.specs.Meaning.{value_of, answers}
use Rattle.flat_model.specs.Operators.{Answer, Is, Fails, Absent, joined, chained, chosen}
use Rattle.flat_model.specs.Views.{Views}
use Rattle.flat_model.proofs.Evaluations.{dropped_at}

-- a chain from a place on, with one part more
pub chained_next : (ops : List ChainOp) (parts : List Expr) (views : Views) (total : Answer) (i : ℕ) (op : ChainOp) (part : Expr) → i < length ops → op ≡ get_or ops i op → i < length parts → part ≡ get_or parts i part
    → chained total (drop i ops) (answers (drop i parts) views) ≡ chained (joined op total (value_of part views)) (drop (suc i) ops) (answers (drop (suc i) parts) views)
chained_next ops parts views total i op part within is part_within part_is =
    ap₂ (λ os ps. chained total os (answers ps views)) (dropped_at ops i op within is) (dropped_at parts i part part_within part_is)

no_ops : (total : Answer) (parts : List Answer) → chained total [] parts ≡ total
no_ops total [] = refl
no_ops total (part ∷ parts) = refl

-- the parts of a list from a place on, where it is another list
pub dropped_same : (xs ys : List Expr) (i : ℕ) (x : Expr) → xs ≡ ys → i < length xs → x ≡ get_or xs i x → drop i ys ≡ x ∷ drop (suc i) ys
dropped_same xs ys i x same within is = subst (λ zs. drop i zs ≡ x ∷ drop (suc i) zs) same (dropped_at xs i x within is)

-- past the last operator a chain is its first
pub chained_stop : (ops : List ChainOp) (total : Answer) (i : ℕ) (parts : List Answer) → length ops ≤ i → chained total (drop i ops) parts ≡ total
chained_stop ops total i parts past = ap (λ os. chained total os parts) (drop_all i ops past) ∙ no_ops total parts

-- a condition that is no truth value decides a choice
pub chosen_failed : (condition : Answer) (conditions branches : List Answer) (other : Answer) → truth_in condition ≡ None → chosen (condition ∷ conditions) branches other ≡ failed condition
chosen_failed (Is (value.Int z)) conditions [] other none = refl
chosen_failed (Is (value.Int z)) conditions (branch ∷ branches) other none = refl
chosen_failed (Is (value.Bool b)) conditions branches other none = absurd (none-some b (sym none))
chosen_failed (Fails kind) conditions [] other none = refl
chosen_failed (Fails kind) conditions (branch ∷ branches) other none = refl
chosen_failed Absent conditions [] other none = refl
chosen_failed Absent conditions (branch ∷ branches) other none = refl

pub truth_is : (condition : Answer) (b : Bool) → truth_in condition ≡ Some b → condition ≡ Is (value.Bool b)
truth_is (Is (value.Int z)) b e = absurd (none-some b e)
truth_is (Is (value.Bool c)) b e = ap (λ d. Is (value.Bool d)) (same_Some c b e)
truth_is (Fails kind) b e = absurd (none-some b e)
truth_is Absent b e = absurd (none-some b e)

-- a truth value without a branch decides nothing
pub chosen_missing : (condition : Answer) (b : Bool) (conditions : List Answer) (other : Answer) → truth_in condition ≡ Some b → chosen (condition ∷ conditions) [] other ≡ Absent
chosen_missing condition b conditions other e = ap (λ c. chosen (c ∷ conditions) [] other) (truth_is condition b e) ∙ missing b
  where
    missing : (b : Bool) → chosen (Is (value.Bool b) ∷ conditions) [] other ≡ Absent
    missing true = refl
    missing false = refl

pub chosen_here : (condition : Answer) (conditions : List Answer) (branch : Answer) (branches : List Answer) (other : Answer) → truth_in condition ≡ Some true → chosen (condition ∷ conditions) (branch ∷ branches) other ≡ branch
chosen_here condition conditions branch branches other e = ap (λ c. chosen (c ∷ conditions) (branch ∷ branches) other) (truth_is condition true e)

pub chosen_later : (condition : Answer) (conditions : List Answer) (branch : Answer) (branches : List Answer) (other : Answer) → truth_in condition ≡ Some false → chosen (condition ∷ conditions) (branch ∷ branches) other ≡ chosen conditions branches other
chosen_later condition conditions branch branches other e = ap (λ c. chosen (c ∷ conditions) (branch ∷ branches) other) (truth_is condition false e)

-- where no condition is left the last branch is chosen
pub chosen_none : (branches : List Answer) (other : Answer) → chosen [] branches other ≡ other
chosen_none [] other = refl
chosen_none (branch ∷ branches) other = refl
