-- Texts of lists: chains, choices and arguments, one more part at a time.
use Rattle.std.proofs.Common.{◌≡◌, refl, ap, ap₂, sym, ◌∙◌, ℕ, zero, suc, ◌+◌, ◌<◌, ◌≤◌, codes, map, min, List, [], ◌∷◌, ◌++◌, length, drop, get_or, append_assoc, append-nil, Some, arith}
use Rattle.std.proofs.lemmas.List.{drop_all, length-map}
use Rattle.sync_values.specs.declared.value.ChainOp.{ChainOp}
use Rattle.flat_model.specs.declared.expression.Expr.{Expr}
use Rattle.flat_model.specs.declared.expression.Expr.TheVariants.{If, Sample}
use Rattle.flat_model.specs.declared.clock.ClockExpr.{ClockExpr}
use Rattle.trace_print.proofs.Texts.{text-If, text-Sample_on}
use Rattle.flat_model.specs.declared.model.FlatName.{FlatName}
use Rattle.trace_print.specs.private.Openings.{openings}
use Rattle.trace_print.specs.Printed.{expr_text, clock_text, separated, grouped, chain_text, choices, op_text}
use Rattle.trace_print.proofs.Cells.{left_at}

-- pieces that are added one by one
pub two_more : (d a b r : List ℕ) → ((d ++ a) ++ b) ++ r ≡ d ++ ((a ++ b) ++ r)
two_more d a b r = ap (λ t. t ++ r) (append_assoc d a b) ∙ append_assoc d (a ++ b) r

pub three_more : (d a b c r : List ℕ) → (((d ++ a) ++ b) ++ c) ++ r ≡ d ++ (((a ++ b) ++ c) ++ r)
three_more d a b c r = ap (λ t. t ++ c ++ r) (append_assoc d a b) ∙ two_more d (a ++ b) c r

pub four_more : (d a b c e r : List ℕ) → ((((d ++ a) ++ b) ++ c) ++ e) ++ r ≡ d ++ ((((a ++ b) ++ c) ++ e) ++ r)
four_more d a b c e r = ap (λ t. t ++ c ++ e ++ r) (append_assoc d a b) ∙ three_more d (a ++ b) c e r

-- what follows the first argument
abbrev pub following : List (List ℕ) → List ℕ
following [] = []
following (text ∷ texts) = codes ", " ++ text ++ following texts

pub separated_is : (text : List ℕ) (texts : List (List ℕ)) → separated (text ∷ texts) ≡ text ++ following texts
separated_is text [] = sym (append-nil text)
separated_is text (next ∷ texts) = ap (λ rest. text ++ codes ", " ++ rest) (separated_is next texts) ∙ append_assoc text (codes ", ") (next ++ following texts)

-- one more argument
pub list_more : (names : List FlatName) (rest : List Expr) (k : ℕ) (part : Expr) (done one two all : List ℕ) → k < length rest → part ≡ get_or rest k part → one ≡ done ++ codes ", " → two ≡ one ++ expr_text names part
    → done ++ following (map (expr_text names) (drop k rest)) ≡ all → two ++ following (map (expr_text names) (drop (k + 1) rest)) ≡ all
list_more names rest k part done one two all within at first second so_far =
    let others = following (map (expr_text names) (drop (k + 1) rest)) in
    ap (λ t. t ++ others) (second ∙ ap (λ t. t ++ expr_text names part) first) ∙ two_more done (codes ", ") (expr_text names part) others
    ∙ sym (ap (λ parts. done ++ following (map (expr_text names) parts)) (left_at rest k part within at)) ∙ so_far

-- what follows the first part of a chain
abbrev pub links : List ChainOp → List (List ℕ) → List ℕ
links (op ∷ ops) (part ∷ parts) = op_text op ++ part ++ codes ")" ++ links ops parts
links _ _ = []

pub links_none : (ops : List ChainOp) → links ops [] ≡ []
links_none [] = refl
links_none (op ∷ ops) = refl

pub links_over : (parts : List (List ℕ)) → links [] parts ≡ []
links_over [] = refl
links_over (part ∷ parts) = refl

-- one more link of a chain
pub link_more : (names : List FlatName) (ops : List ChainOp) (rest : List Expr) (k : ℕ) (op : ChainOp) (part : Expr) (done one two all : List ℕ) → k < length ops → op ≡ get_or ops k op → k < length rest → part ≡ get_or rest k part
    → one ≡ done ++ op_text op → two ≡ one ++ (expr_text names part ++ codes ")") → done ++ links (drop k ops) (map (expr_text names) (drop k rest)) ≡ all
    → two ++ links (drop (k + 1) ops) (map (expr_text names) (drop (k + 1) rest)) ≡ all
link_more names ops rest k op part done one two all op_within op_at within at first second so_far =
    let others = links (drop (k + 1) ops) (map (expr_text names) (drop (k + 1) rest)) in
    ap (λ t. t ++ others) (second ∙ ap (λ t. t ++ (expr_text names part ++ codes ")")) first ∙ sym (append_assoc (done ++ op_text op) (expr_text names part) (codes ")")))
    ∙ three_more done (op_text op) (expr_text names part) (codes ")") others
    ∙ sym (ap₂ (λ os parts. done ++ links os (map (expr_text names) parts)) (left_at ops k op op_within op_at) (left_at rest k part within at)) ∙ so_far

-- an opening bracket more, at either end
openings_more : (n : ℕ) (text : List ℕ) → openings n ++ (codes "(" ++ text) ≡ openings (suc n) ++ text
openings_more zero text = refl
openings_more (suc n) text = ap (λ t. codes "(" ++ t) (openings_more n text)

pub openings_end : (n : ℕ) → openings n ++ codes "(" ≡ openings (n + 1)
openings_end n = openings_more n [] ∙ append-nil (openings (suc n)) ∙ ap openings (let e : suc n ≡ n + 1 = omega arith in e)

-- a chain is its brackets, its first part, and its links
pub grouped_is : (text : List ℕ) (ops : List ChainOp) (parts : List (List ℕ)) (n : ℕ) → n ≡ min (length ops) (length parts) → grouped text ops parts ≡ openings n ++ (text ++ links ops parts)
grouped_is text [] [] zero is = sym (append-nil text)
grouped_is text [] (part ∷ parts) zero is = sym (append-nil text)
grouped_is text [] parts (suc n) is = absurd (omega (arith, is))
grouped_is text (op ∷ ops) [] zero is = sym (append-nil text)
grouped_is text (op ∷ ops) [] (suc n) is = absurd (omega (arith, is))
grouped_is text (op ∷ ops) (part ∷ parts) zero is = absurd (omega (arith, is))
grouped_is text (op ∷ ops) (part ∷ parts) (suc n) is =
    let rest = links ops parts in
    grouped_is (codes "(" ++ text ++ op_text op ++ part ++ codes ")") ops parts n (omega (arith, is))
    ∙ ap (λ t. openings n ++ (codes "(" ++ t)) (three_more text (op_text op) part (codes ")") rest)
    ∙ openings_more n (text ++ (op_text op ++ part ++ codes ")" ++ rest))

-- one more condition with its branch
pub choice_more : (names : List FlatName) (conditions branches : List Expr) (k : ℕ) (condition branch : Expr) (word done one two three four all : List ℕ) → k < length conditions → condition ≡ get_or conditions k condition
    → k < length branches → branch ≡ get_or branches k branch → one ≡ done ++ word → two ≡ one ++ expr_text names condition → three ≡ two ++ codes " then " → four ≡ three ++ expr_text names branch
    → done ++ choices word (map (expr_text names) (drop k conditions)) (map (expr_text names) (drop k branches)) ≡ all
    → four ++ choices (codes " elseif ") (map (expr_text names) (drop (k + 1) conditions)) (map (expr_text names) (drop (k + 1) branches)) ≡ all
choice_more names conditions branches k condition branch word done one two three four all within at branch_within branch_at first second third last so_far =
    let c = expr_text names condition in
    let b = expr_text names branch in
    let others = choices (codes " elseif ") (map (expr_text names) (drop (k + 1) conditions)) (map (expr_text names) (drop (k + 1) branches)) in
    ap (λ t. t ++ others) (last ∙ ap (λ t. t ++ b) (third ∙ ap (λ t. t ++ codes " then ") (second ∙ ap (λ t. t ++ c) first)))
    ∙ four_more done word c (codes " then ") b others
    ∙ sym (ap₂ (λ cs bs. done ++ choices word (map (expr_text names) cs) (map (expr_text names) bs)) (left_at conditions k condition within at) (left_at branches k branch branch_within branch_at)) ∙ so_far

pub choices_none : (word : List ℕ) (branches : List (List ℕ)) → choices word [] branches ≡ []
choices_none word [] = refl
choices_none word (branch ∷ branches) = refl

pub choices_over : (word : List ℕ) (conditions : List (List ℕ)) → choices word conditions [] ≡ []
choices_over word [] = refl
choices_over word (condition ∷ conditions) = refl

-- behind the brackets and the first part of a chain
pub chain_begins : (names : List FlatName) (ops : List ChainOp) (parts : List Expr) (first : Expr) (rest : List Expr) (n : ℕ) (out one two : List ℕ) → parts ≡ first ∷ rest → n ≡ min (length ops) (length rest)
    → one ≡ out ++ openings n → two ≡ one ++ expr_text names first → two ++ links ops (map (expr_text names) rest) ≡ out ++ chain_text ops (map (expr_text names) parts)
chain_begins names ops parts first rest n out one two is count opened begun =
    let t = expr_text names first in
    let ls = links ops (map (expr_text names) rest) in
    let as_many : length (map (expr_text names) rest) ≡ length rest = length-map rest (expr_text names) in
    ap (λ u. u ++ ls) (begun ∙ ap (λ u. u ++ t) opened) ∙ append_assoc (out ++ openings n) t ls ∙ append_assoc out (openings n) (t ++ ls)
    ∙ ap (λ u. out ++ u) (sym (grouped_is t ops (map (expr_text names) rest) n (count ∙ ap (λ m. min (length ops) m) (sym as_many))))
    ∙ sym (ap (λ ps. out ++ chain_text ops (map (expr_text names) ps)) is)

-- behind the last part
pub chain_ends : (names : List FlatName) (ops : List ChainOp) (rest : List Expr) (k : ℕ) (out all : List ℕ) → length rest ≤ k
    → out ++ links (drop k ops) (map (expr_text names) (drop k rest)) ≡ all → out ≡ all
chain_ends names ops rest k out all past so_far =
    sym (ap (λ ps. out ++ links (drop k ops) (map (expr_text names) ps)) (drop_all k rest past) ∙ ap (λ t. out ++ t) (links_none (drop k ops)) ∙ append-nil out) ∙ so_far

-- behind the first argument
pub list_begins : (names : List FlatName) (parts : List Expr) (first : Expr) (rest : List Expr) (out one : List ℕ) → parts ≡ first ∷ rest → one ≡ out ++ expr_text names first
    → one ++ following (map (expr_text names) rest) ≡ out ++ separated (map (expr_text names) parts)
list_begins names parts first rest out one is begun =
    ap (λ t. t ++ following (map (expr_text names) rest)) begun ∙ append_assoc out (expr_text names first) (following (map (expr_text names) rest))
    ∙ ap (λ t. out ++ t) (sym (separated_is (expr_text names first) (map (expr_text names) rest))) ∙ sym (ap (λ ps. out ++ separated (map (expr_text names) ps)) is)

-- three pieces and what stands behind them
pub behind_three : (out one two three a b c rest : List ℕ) → one ≡ out ++ a → two ≡ one ++ b → three ≡ two ++ c → three ++ rest ≡ out ++ (a ++ b ++ c ++ rest)
behind_three out one two three a b c rest first second third =
    ap (λ t. t ++ rest) (third ∙ ap (λ t. t ++ c) (second ∙ ap (λ t. t ++ b) first)) ∙ three_more out a b c rest

-- before the first condition
pub choices_begin : (names : List FlatName) (expr other : Expr) (items conditions branches : List Expr) (word out : List ℕ) → word ≡ codes "(if " → items ≡ conditions → expr ≡ If conditions branches other
    → out ++ (choices word (map (expr_text names) items) (map (expr_text names) branches) ++ (codes " else " ++ expr_text names other ++ codes ")")) ≡ out ++ expr_text names expr
choices_begin names expr other items conditions branches word out begun same is =
    let bs = map (expr_text names) branches in
    let rest = codes " else " ++ expr_text names other ++ codes ")" in
    ap₂ (λ w cs. out ++ (choices w (map (expr_text names) cs) bs ++ rest)) begun same
    ∙ ap (λ t. out ++ t) (sym (two_more (choices (codes "(if ") (map (expr_text names) conditions) bs) (codes " else ") (expr_text names other) (codes ")"))
    ∙ sym (text-If names conditions branches other) ∙ ap (expr_text names) (sym is))

-- a `sample` on a clock, piece by piece
pub sample_on : (names : List FlatName) (part : Expr) (clock : ClockExpr) (out one two : List ℕ) → one ≡ out ++ codes "sample(" → two ≡ one ++ expr_text names part
    → two ++ (codes ", " ++ clock_text names clock ++ codes ")") ≡ out ++ expr_text names (Sample part (Some clock))
sample_on names part clock out one two first second =
    let p = expr_text names part in
    let c = clock_text names clock in
    let rest = codes ", " ++ c ++ codes ")" in
    ap (λ t. t ++ rest) (second ∙ ap (λ t. t ++ p) first) ∙ two_more out (codes "sample(") p rest
    ∙ ap (λ t. out ++ t) (append_assoc (codes "sample(") p rest ∙ ap (λ t. codes "sample(" ++ t) (sym (two_more p (codes ", ") c (codes ")"))) ∙ sym (text-Sample_on names part clock))
