-- Which parts of an expression with a value have values, and what a failure decides.
use Rattle.std.proofs.Common.{◌≡◌, ◌≢◌, refl, ap, ap₂, ◌∙◌, sym, ℕ, zero, suc, ◌<◌, ◌≤◌, Bool, true, false, ◌&&◌, List, [], ◌∷◌, length, get_or, drop, length-drop, arith, Result, Ok, Err, ℤ, Option, Some, None, IsSome, rules}
use Rattle.std.proofs.Math.Seq.{drop-cons}
use Rattle.std.proofs.lemmas.List.{drop_all}
use Rattle.sync_values.specs.declared.value.Value.{Value}
use Rattle.sync_values.specs.declared.value.Value.TheVariants as value
use Rattle.sync_values.specs.declared.value.Fail.{Fail}
use Rattle.sync_values.specs.declared.value.ChainOp.{ChainOp}
use Rattle.sync_values.specs.declared.value.ChainOp.TheVariants.{Plus, Minus, Times, Over, And, Or}
use Rattle.flat_model.specs.Operators.{Answer, Is, Fails, Absent, applied, joined, chained, chain, chosen, settled, read}
use Rattle.flat_model.specs.declared.expression.Expr.{Expr}
use Rattle.flat_model.specs.declared.expression.Expr.TheVariants.{If}
use Rattle.flat_model.proofs.Standings.{may_stand-If}
use Rattle.flat_model.specs.Views.{Views, before}
use Rattle.flat_model.specs.Meaning.{answers, value_of}
use Rattle.flat_model.specs.declared.evaluate.Vantage.{Vantage}
use Rattle.flat_model.specs.declared.evaluate.Vantage.TheVariants.{Now, Left}
use Rattle.flat_model.specs.Samples.{may_stand, all_may_stand, outside_samples}
use Rattle.flat_model.specs.Evaluation.{has_enough, seen_from}

joined-Fails : (op : ChainOp) (kind : Fail) (part : Answer) → joined op (Fails kind) part ≡ Fails kind
joined-Fails Plus kind part = refl
joined-Fails Minus kind part = refl
joined-Fails Times kind part = refl
joined-Fails Over kind part = refl
joined-Fails And kind part = refl
joined-Fails Or kind part = refl

joined-Absent : (op : ChainOp) (part : Answer) → joined op Absent part ≡ Absent
joined-Absent Plus part = refl
joined-Absent Minus part = refl
joined-Absent Times part = refl
joined-Absent Over part = refl
joined-Absent And part = refl
joined-Absent Or part = refl

pub chained-Fails : (kind : Fail) (ops : List ChainOp) (parts : List Answer) → chained (Fails kind) ops parts ≡ Fails kind
chained-Fails kind [] parts = refl
chained-Fails kind (op ∷ ops) [] = refl
chained-Fails kind (op ∷ ops) (part ∷ parts) = ap (λ first. chained first ops parts) (joined-Fails op kind part) ∙ chained-Fails kind ops parts

pub chained-Absent : (ops : List ChainOp) (parts : List Answer) → chained Absent ops parts ≡ Absent
chained-Absent [] parts = refl
chained-Absent (op ∷ ops) [] = refl
chained-Absent (op ∷ ops) (part ∷ parts) = ap (λ first. chained first ops parts) (joined-Absent op part) ∙ chained-Absent ops parts

-- past the last part a chain is its first
pub chained-nil : (first : Answer) (ops : List ChainOp) → chained first ops [] ≡ first
chained-nil first [] = refl
chained-nil first (op ∷ ops) = refl

-- a part that is not evaluated decides nothing
pub joined_skipped : (op : ChainOp) (v : Value) (part : Answer) → has_enough op v ≡ true → joined op (Is v) part ≡ Is v
joined_skipped Plus v part skips = absurd (cc skips)
joined_skipped Minus v part skips = absurd (cc skips)
joined_skipped Times v part skips = absurd (cc skips)
joined_skipped Over v part skips = absurd (cc skips)
joined_skipped And (value.Int a) part skips = absurd (cc skips)
joined_skipped And (value.Bool false) part skips = refl
joined_skipped And (value.Bool true) part skips = absurd (cc skips)
joined_skipped Or (value.Int a) part skips = absurd (cc skips)
joined_skipped Or (value.Bool false) part skips = absurd (cc skips)
joined_skipped Or (value.Bool true) part skips = refl

-- with a part that is evaluated
abbrev evaluated : ChainOp → Value → Answer → Answer
evaluated op v (Is w) = applied op v w
evaluated op v (Fails kind) = Fails kind
evaluated op v Absent = Absent

joined_evaluated : (op : ChainOp) (v : Value) (part : Answer) → has_enough op v ≡ false → joined op (Is v) part ≡ evaluated op v part
joined_evaluated Plus v (Is w) skips = refl
joined_evaluated Plus v (Fails kind) skips = refl
joined_evaluated Plus v Absent skips = refl
joined_evaluated Minus v (Is w) skips = refl
joined_evaluated Minus v (Fails kind) skips = refl
joined_evaluated Minus v Absent skips = refl
joined_evaluated Times v (Is w) skips = refl
joined_evaluated Times v (Fails kind) skips = refl
joined_evaluated Times v Absent skips = refl
joined_evaluated Over v (Is w) skips = refl
joined_evaluated Over v (Fails kind) skips = refl
joined_evaluated Over v Absent skips = refl
joined_evaluated And (value.Bool false) part skips = absurd (cc skips)
joined_evaluated And (value.Bool true) (Is w) skips = refl
joined_evaluated And (value.Bool true) (Fails kind) skips = refl
joined_evaluated And (value.Bool true) Absent skips = refl
joined_evaluated And (value.Int a) (Is w) skips = refl
joined_evaluated And (value.Int a) (Fails kind) skips = refl
joined_evaluated And (value.Int a) Absent skips = refl
joined_evaluated Or (value.Bool true) part skips = absurd (cc skips)
joined_evaluated Or (value.Bool false) (Is w) skips = refl
joined_evaluated Or (value.Bool false) (Fails kind) skips = refl
joined_evaluated Or (value.Bool false) Absent skips = refl
joined_evaluated Or (value.Int a) (Is w) skips = refl
joined_evaluated Or (value.Int a) (Fails kind) skips = refl
joined_evaluated Or (value.Int a) Absent skips = refl

-- ---- the first part of a chain

pub chain_first : (ops : List ChainOp) (first : Answer) (parts : List Answer) → chain ops (first ∷ parts) ≢ Absent → first ≢ Absent
chain_first ops first parts present absent = present (ap (λ a. chained a ops parts) absent ∙ chained-Absent ops parts)

pub chain_first-Fails : (ops : List ChainOp) (first : Answer) (parts : List Answer) (kind : Fail) → first ≡ Fails kind → chain ops (first ∷ parts) ≡ Fails kind
chain_first-Fails ops first parts kind fails = ap (λ a. chained a ops parts) fails ∙ chained-Fails kind ops parts

-- ---- the next part of a chain that is evaluated

pub next_present : (op : ChainOp) (v : Value) (part : Answer) (ops : List ChainOp) (parts : List Answer) → has_enough op v ≡ false → chained (Is v) (op ∷ ops) (part ∷ parts) ≢ Absent → part ≢ Absent
next_present op v part ops parts needed present absent =
    present (ap (λ a. chained a ops parts) (joined_evaluated op v part needed ∙ ap (evaluated op v) absent) ∙ chained-Absent ops parts)

pub next-Fails : (op : ChainOp) (v : Value) (part : Answer) (ops : List ChainOp) (parts : List Answer) (kind : Fail) → has_enough op v ≡ false → part ≡ Fails kind → chained (Is v) (op ∷ ops) (part ∷ parts) ≡ Fails kind
next-Fails op v part ops parts kind needed fails =
    ap (λ a. chained a ops parts) (joined_evaluated op v part needed ∙ ap (evaluated op v) fails) ∙ chained-Fails kind ops parts

pub applied_present : (op : ChainOp) (v w : Value) (part : Answer) (ops : List ChainOp) (parts : List Answer) → has_enough op v ≡ false → part ≡ Is w → chained (Is v) (op ∷ ops) (part ∷ parts) ≢ Absent → applied op v w ≢ Absent
applied_present op v w part ops parts needed is present absent =
    present (ap (λ a. chained a ops parts) (joined_evaluated op v part needed ∙ ap (evaluated op v) is ∙ absent) ∙ chained-Absent ops parts)

pub next_applied : (op : ChainOp) (v w : Value) (part : Answer) (ops : List ChainOp) (parts : List Answer) → has_enough op v ≡ false → part ≡ Is w → chained (Is v) (op ∷ ops) (part ∷ parts) ≡ chained (applied op v w) ops parts
next_applied op v w part ops parts needed is = ap (λ a. chained a ops parts) (joined_evaluated op v part needed ∙ ap (evaluated op v) is)

pub next_skipped : (op : ChainOp) (v : Value) (part : Answer) (ops : List ChainOp) (parts : List Answer) → has_enough op v ≡ true → chained (Is v) (op ∷ ops) (part ∷ parts) ≡ chained (Is v) ops parts
next_skipped op v part ops parts enough = ap (λ a. chained a ops parts) (joined_skipped op v part enough)

-- ---- the conditions of an `if`

-- there is a branch for each condition that has a value
pub some_branch : (b : Bool) (conditions : List Answer) (branches : List Expr) (other : Answer) (views : Views) → chosen (Is (value.Bool b) ∷ conditions) (answers branches views) other ≢ Absent → 0 < length branches
some_branch true conditions [] other views present = absurd (present refl)
some_branch false conditions [] other views present = absurd (present refl)
some_branch b conditions (branch ∷ branches) other views present = omega arith

-- there is a branch for a condition at a place
pub branch_at : (b : Bool) (conditions : List Answer) (branches : List Expr) (i : ℕ) (other : Answer) (views : Views) → chosen (Is (value.Bool b) ∷ conditions) (answers (drop i branches) views) other ≢ Absent → i < length branches
branch_at b conditions branches i other views present =
    let some = some_branch b conditions (drop i branches) other views present in
    omega (arith, some, length-drop i branches)

pub chosen_true : (b : Bool) (conditions : List Answer) (branch : Answer) (branches : List Answer) (other : Answer) → b ≡ true → chosen (Is (value.Bool b) ∷ conditions) (branch ∷ branches) other ≡ branch
chosen_true true conditions branch branches other holds = refl
chosen_true false conditions branch branches other holds = absurd (cc holds)

pub chosen_false : (b : Bool) (conditions : List Answer) (branch : Answer) (branches : List Answer) (other : Answer) → b ≡ false → chosen (Is (value.Bool b) ∷ conditions) (branch ∷ branches) other ≡ chosen conditions branches other
chosen_false true conditions branch branches other holds = absurd (cc holds)
chosen_false false conditions branch branches other holds = refl

-- ---- all parts of a test

pub first_holds : (a b : Bool) → (a && b) ≡ true → a ≡ true
first_holds true b both = refl
first_holds false b both = absurd (cc both)

pub second_holds : (a b : Bool) → (a && b) ≡ true → b ≡ true
second_holds true b both = both
second_holds false b both = absurd (cc both)

all_three : (a b c : Bool) → (a && b && c) ≡ true → (a ≡ true) × (b ≡ true) × (c ≡ true)
all_three true true true all = (refl, refl, refl)
all_three true true false all = absurd (cc all)
all_three true false true all = absurd (cc all)
all_three true false false all = absurd (cc all)
all_three false true true all = absurd (cc all)
all_three false true false all = absurd (cc all)
all_three false false true all = absurd (cc all)
all_three false false false all = absurd (cc all)

-- the parts of an `if` stand where it stands
pub If_standing : (vantage : Vantage) (e : Expr) (conditions branches : List Expr) (other : Expr) → e ≡ If conditions branches other → may_stand e vantage ≡ true
    → (all_may_stand vantage conditions ≡ true) × (all_may_stand vantage branches ≡ true) × (may_stand other vantage ≡ true)
If_standing vantage e conditions branches other is standing =
    all_three (all_may_stand vantage conditions) (all_may_stand vantage branches) (may_stand other vantage) (rw (is, may_stand-If) at standing)

-- ---- the part at a place

pub standing_at : (vantage : Vantage) (parts : List Expr) (i : ℕ) (part : Expr) → all_may_stand vantage parts ≡ true → i < length parts → part ≡ get_or parts i part → may_stand part vantage ≡ true
standing_at vantage [] i part all within is = absurd (omega (arith, within))
standing_at vantage (first ∷ parts) zero part all within is = ap (λ e. may_stand e vantage) is ∙ first_holds _ _ all
standing_at vantage (first ∷ parts) (suc i) part all within is = standing_at vantage parts i part (second_holds (may_stand first vantage) _ all) (omega (arith, within)) is

pub dropped_at : {A : Type 0} (xs : List A) (i : ℕ) (x : A) → i < length xs → x ≡ get_or xs i x → drop i xs ≡ x ∷ drop (suc i) xs
dropped_at xs i x within is = drop-cons xs i x within ∙ ap (λ z. z ∷ drop (suc i) xs) (sym is)

-- the chain from a place on
pub chained_at : (ops : List ChainOp) (parts : List Expr) (views : Views) (v : Value) (i : ℕ) (op : ChainOp) (part : Expr) → i < length ops → op ≡ get_or ops i op → i < length parts → part ≡ get_or parts i part
    → chained (Is v) (drop i ops) (answers (drop i parts) views) ≡ chained (Is v) (op ∷ drop (suc i) ops) (value_of part views ∷ answers (drop (suc i) parts) views)
chained_at ops parts views v i op part within is part_within part_is =
    ap₂ (λ os ps. chained (Is v) os (answers ps views)) (dropped_at ops i op within is) (dropped_at parts i part part_within part_is)

-- past the last operator or the last part a chain is its first
pub chained_done : (first : Answer) (ops : List ChainOp) (parts : List Expr) (views : Views) (i : ℕ) → length parts ≤ i → chained first ops (answers (drop i parts) views) ≡ first
chained_done first ops parts views i past = ap (λ ps. chained first ops (answers ps views)) (drop_all i parts past) ∙ chained-nil first ops

-- ---- what stands in the argument of `sample`

pub sampled : (vantage : Vantage) (views : Views) (part : Expr) → outside_samples vantage ≡ true → value_of part (before (seen_from vantage views)) ≡ value_of part (seen_from Left views)
sampled Now views part outside = refl
sampled Left views part outside = absurd (cc outside)

-- ---- results that are not absent

pub settled_present : (result : Result ℤ Fail) → settled result ≢ Absent
settled_present (Ok z) absent = absurd (cc absent)
settled_present (Err kind) absent = absurd (cc absent)

-- what is read is there
pub read_present : (o : Option Value) → read o ≢ Absent → IsSome o
read_present None present = absurd (present refl)
read_present (Some v) present = search rules

-- outside the arguments of `sample` all is seen from the moment itself
pub seen_outside : (vantage : Vantage) (views : Views) → outside_samples vantage ≡ true → seen_from vantage views ≡ views
seen_outside Now views outside = refl
seen_outside Left views outside = absurd (cc outside)
