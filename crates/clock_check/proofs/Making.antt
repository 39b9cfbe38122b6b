-- The parts of a clocking are those of the model.
use Rattle.std.proofs.Common.{◌≡◌, ◌∙◌, refl, sym, ap, ℕ, zero, suc, ◌+◌, ◌<◌, ◌⊎◌, inl, inr, ⊎_elim, List, [], ◌∷◌, ◌++◌, length, map, slice_index_or, slice_get, Option, Some, None, All, arith}
use Rattle.std.proofs.lemmas.List.{append_assoc, length-append}
use Rattle.flat_model.specs.declared.clock.ClockExpr.{ClockExpr}
use Rattle.flat_model.specs.declared.equation.Equation.{Equation}
use Rattle.flat_model.specs.declared.expression.Expr.{Expr}
use Rattle.flat_model.specs.Models.{clause_of}
use Rattle.clock_terms.specs.declared.data.Constructor.{Constructor}
use Rattle.clock_terms.specs.Mentions.{Cut, clock_cuts}
use Rattle.clock_terms.specs.Nodes.{Node, entry, cut_nodes, own_node, side_cuts, leading_clock, nodes_of_equation, nodes_from}
use Rattle.clock_terms.specs.Position.{Progression}
use Rattle.clock_terms.specs.Source.{Kind, Inferred, Every, AtSite, Other, kind_of, Source, every, at_site, source_before, sources_from}
use Rattle.clock_check.specs.ClockingOf.{sites_before, AreSites}
use Rattle.clock_check.specs.private.Making.{own_by, node_numbers}

none_some : {A : Type 0} {a : A} → None ≡ Some a → ⊥
none_some e = absurd cc

some_same : {A : Type 0} {a b : A} → Some a ≡ Some b → a ≡ b
some_same e = cc

-- the numbers of the equations among some nodes, which are numbered from n on
abbrev pub own_numbers : (ℕ → Option ℕ) → ℕ → List Node → List (Option ℕ)
own_numbers number n [] = []
own_numbers number n (node ∷ nodes) = own_by node.cause (number n) ++ own_numbers number (n + 1) nodes

pub numbers_entries : (class_of : List ℕ) (numbers : List (Option ℕ)) (n : ℕ) (nodes : List Node)
    → node_numbers class_of numbers n (map entry nodes) ≡ own_numbers (λ a. slice_index_or numbers (slice_index_or class_of a 0) None) n nodes
numbers_entries class_of numbers n [] = refl
numbers_entries class_of numbers n (node ∷ nodes) = ap (λ l. own_by node.cause (slice_index_or numbers (slice_index_or class_of n 0) None) ++ l) (numbers_entries class_of numbers (n + 1) nodes)

own_append : (number : ℕ → Option ℕ) (n : ℕ) (xs ys : List Node) → own_numbers number n (xs ++ ys) ≡ own_numbers number n xs ++ own_numbers number (n + length xs) ys
own_append number n [] ys = ap (λ m. own_numbers number m ys) (let e : n ≡ n + 0 = omega arith in e)
own_append number n (x ∷ xs) ys =
    ap (λ l. own_by x.cause (number n) ++ l) (own_append number (n + 1) xs ys
    ∙ ap (λ m. own_numbers number (n + 1) xs ++ own_numbers number m ys) (let e : (n + 1) + length xs ≡ n + suc (length xs) = omega arith in e))
    ∙ sym (append_assoc (own_by x.cause (number n)) (own_numbers number (n + 1) xs) (own_numbers number (n + suc (length xs)) ys))

own_cuts : (number : ℕ → Option ℕ) (n i : ℕ) (cuts : List Cut) → own_numbers number n (cut_nodes i cuts) ≡ []
own_cuts number n i [] = refl
own_cuts number n i (cut ∷ cuts) = own_cuts number (n + 1) i cuts

-- an equation gives the number of its own node
own_equation : (number : ℕ → Option ℕ) (n i : ℕ) (clock : Option ClockExpr) (equation : Equation)
    → own_numbers number n (nodes_of_equation clock i equation) ≡ number (n + length (cut_nodes i (clock_cuts clock))) ∷ []
own_equation number n i clock equation =
    own_append number n (cut_nodes i (clock_cuts clock)) (own_node clock i equation ∷ cut_nodes i (side_cuts equation))
    ∙ ap (λ l. l ++ own_numbers number (n + length (cut_nodes i (clock_cuts clock))) (own_node clock i equation ∷ cut_nodes i (side_cuts equation))) (own_cuts number n i (clock_cuts clock))
    ∙ ap (λ l. number (n + length (cut_nodes i (clock_cuts clock))) ∷ l) (own_cuts number (n + length (cut_nodes i (clock_cuts clock)) + 1) i (side_cuts equation))

-- one number for each equation
pub own_length : (number : ℕ → Option ℕ) (n : ℕ) (clauses : List ClockExpr) (before equations : List Equation) → length (own_numbers number n (nodes_from clauses before equations)) ≡ length equations
own_length number n clauses before [] = refl
own_length number n clauses before (equation ∷ rest) =
    let nodes = nodes_of_equation (leading_clock clauses before (clause_of equation)) (length before) equation in
    ap length (own_append number n nodes (nodes_from clauses (before ++ equation ∷ []) rest))
    ∙ ap (λ l. length (l ++ own_numbers number (n + length nodes) (nodes_from clauses (before ++ equation ∷ []) rest))) (own_equation number n (length before) (leading_clock clauses before (clause_of equation)) equation)
    ∙ ap suc (own_length number (n + length nodes) clauses (before ++ equation ∷ []) rest)

-- a cut part has a cause
cut_cause : (i : ℕ) (cuts : List Cut) (j : ℕ) (node : Node) → slice_get (cut_nodes i cuts) j ≡ Some node → node.cause ≡ None → ⊥
cut_cause i [] j node e none = none_some e
cut_cause i (cut ∷ cuts) zero node e none = none_some (sym none ∙ ap (λ x. x.cause) (sym (some_same e)))
cut_cause i (cut ∷ cuts) (suc j) node e none = cut_cause i cuts j node e none

-- the only node of an equation without a cause is its own
own_place : (i : ℕ) (cuts : List Cut) (own : Node) (rest : List Cut) (j : ℕ) (node : Node) → slice_get (cut_nodes i cuts ++ own ∷ cut_nodes i rest) j ≡ Some node → node.cause ≡ None
    → (node ≡ own) × (j ≡ length (cut_nodes i cuts))
own_place i [] own rest zero node e none = (sym (some_same e), refl)
own_place i [] own rest (suc j) node e none = absurd (cut_cause i rest j node e none)
own_place i (cut ∷ cuts) own rest zero node e none = absurd (none_some (sym none ∙ ap (λ x. x.cause) (sym (some_same e))))
own_place i (cut ∷ cuts) own rest (suc j) node e none = let (same, at) = own_place i cuts own rest j node e none in (same, ap suc at)

get_append : {A : Type 0} (xs ys : List A) (j : ℕ) (a : A) → slice_get (xs ++ ys) j ≡ Some a → ((slice_get xs j ≡ Some a) × (j < length xs)) ⊎ ((k : ℕ) × (j ≡ length xs + k) × (slice_get ys k ≡ Some a))
get_append [] ys j a e = inr (j, omega arith, e)
get_append (x ∷ xs) ys zero a e = inl (e, omega arith)
get_append (x ∷ xs) ys (suc j) a e = ⊎_elim
    (λ (at, lt). inl (at, omega (arith, lt)))
    (λ (k, is, at). inr (k, let f : suc j ≡ suc (length xs + k) = ap suc is in omega (arith, f), at))
    (get_append xs ys j a e)

pub own_get : (number : ℕ → Option ℕ) (n : ℕ) (clauses : List ClockExpr) (before equations : List Equation) (j : ℕ) (node : Node)
    → slice_get (nodes_from clauses before equations) j ≡ Some node → node.cause ≡ None
    → (k : ℕ) × (node.equation ≡ length before + k) × (slice_get (own_numbers number n (nodes_from clauses before equations)) k ≡ Some (number (n + j)))
own_get number n clauses before [] j node e none = absurd (none_some e)
own_get number n clauses before (equation ∷ rest) j node e none =
    let clock = leading_clock clauses before (clause_of equation) in
    let i = length before in
    let nodes = nodes_of_equation clock i equation in
    let later = nodes_from clauses (before ++ equation ∷ []) rest in
    let cuts = cut_nodes i (clock_cuts clock) in
    let numbers : own_numbers number n (nodes ++ later) ≡ number (n + length cuts) ∷ own_numbers number (n + length nodes) later =
    own_append number n nodes later ∙ ap (λ l. l ++ own_numbers number (n + length nodes) later) (own_equation number n i clock equation) in
    ⊎_elim
    (λ (at, lt).
    let (same, place) = own_place i (clock_cuts clock) (own_node clock i equation) (side_cuts equation) j node at none in (
      0,
      ap (λ x. x.equation) same ∙ (let f : i ≡ i + 0 = omega arith in f),
      ap (λ l. slice_get l 0) numbers ∙ ap (λ m. Some (number (n + m))) (sym place),
    ))
    (λ (k, is, at).
    let (m, equation_is, number_is) = own_get number (n + length nodes) clauses (before ++ equation ∷ []) rest k node at none in
    let size : length (before ++ equation ∷ []) ≡ i + 1 = length-append before (equation ∷ []) in (
      suc m,
      (let f : node.equation ≡ length (before ++ equation ∷ []) + m = equation_is in omega (arith, f, size)),
      ap (λ l. slice_get l (suc m)) numbers ∙ number_is ∙ ap (λ x. Some (number x)) (let f : (n + length nodes) + k ≡ n + j = omega (arith, is) in f),
    ))
    (get_append nodes later j node e)

-- ---- sites
-- each source's site is one of the conditions
abbrev IsSiteBelow : ℕ → Progression → Type 0
IsSiteBelow count p = (s : ℕ) → p.site ≡ Some s → s < count

before_below : (kind : Kind) (k : Constructor) (site count : ℕ) (Rest : List Expr → Type 0) (rest : ℕ → List Source) (sites : List Expr)
    → ((sites : List Expr) (next : ℕ) → Rest sites → next + length sites ≡ count → All (λ s. IsSiteBelow count s.clock) (rest next))
    → sites_before kind k.clock Rest sites → site + length sites ≡ count → All (λ s. IsSiteBelow count s.clock) (source_before kind k site rest)
before_below Inferred k site count Rest rest sites again h e = again sites site h e
before_below Other k site count Rest rest sites again h e = again sites site h e
before_below (Every n r) k site count Rest rest sites again h e = by (again sites site h e)
  where
    by : All (λ s. IsSiteBelow count s.clock) (rest site) → All (λ s. IsSiteBelow count s.clock) (record { node = k.node; equation = k.equation; clock = every n r } ∷ rest site)
    by later zero d lt = λ s is. absurd (none_some is)
    by later (suc i) d lt = later i d (omega (arith, lt))
before_below AtSite k site count Rest rest sites again (condition, behind, is, cons, more) e = by (again behind (site + 1) more size)
  where
    whole : length sites ≡ suc (length behind)
    whole = ap length cons

    size : (site + 1) + length behind ≡ count
    size = let f = whole in omega (arith, e, f)

    by : All (λ s. IsSiteBelow count s.clock) (rest (site + 1)) → All (λ s. IsSiteBelow count s.clock) (record { node = k.node; equation = k.equation; clock = at_site site } ∷ rest (site + 1))
    by later zero d lt = λ s at. let f : site ≡ s = some_same at in let g = whole in omega (arith, f, g, e)
    by later (suc i) d lt = later i d (omega (arith, lt))

pub sites_below : (ks : List Constructor) (site count : ℕ) (sites : List Expr) → AreSites ks sites → site + length sites ≡ count → All (λ s. IsSiteBelow count s.clock) (sources_from site ks)
sites_below [] site count sites h e = λ k d lt. absurd (omega (arith, lt))
sites_below (k ∷ ks) site count sites h e = before_below (kind_of k.clock) k site count (AreSites ks) (λ n. sources_from n ks) sites (λ more next are f. sites_below ks next count more are f) h e
