-- The joins of terms join just the names and nodes of one class.
use Rattle.std.proofs.Common.{◌≡◌, refl, ap, subst, zero, suc, ◌+◌, ◌==◌, if◌then◌else◌, Bool, true, false, length, take, arith, ◌∙◌, sym, ℕ, List, [], ◌∷◌, ◌++◌, Option, Some, None, map, flat_map, slice_get, inl, inr, ◌⊎◌, ⊎_elim, Contains}
use Rattle.std.proofs.lemmas.List.{append_assoc, append-nil}
use Rattle.std.proofs.lemmas.Bool.Decides.{nat_tests}
use Rattle.std.proofs.lemmas.List.Elements.{Contains-append_left, Contains-append_right, Contains-append_cases}
use Rattle.flat_model.specs.declared.model.FlatName.{FlatName}
use Rattle.flat_model.specs.declared.model.FlatModel.{FlatModel}
use Rattle.mo_connect.specs.declared.Pair.{Pair}
use Rattle.mo_connect.specs.Chain.{Chain, AreJoined, IsPair, stay, forward, backward}
use Rattle.clock_terms.specs.declared.data.NodeOf.{NodeOf}
use Rattle.clock_terms.specs.Mentions.{Mention, Stands, Ticks, Samples, Holds, Converts, Gives}
use Rattle.clock_terms.specs.Nodes.{Node, nodes_of, is_clause, entry}
use Rattle.clock_terms.specs.Gathered.{lead_from, terms_of}
use Rattle.clock_terms.specs.private.Leads.{has_lead}
use Rattle.clock_terms.specs.Said.{IsNode, numbered, StandsUncut, AreOfOneClause, IsJoined, AreOfOneClass}
use Rattle.clock_terms.specs.private.Added.{adds, number_after, own_joins, name_joins, joins_by, lead_joins, clause_joins, joins_step}
use Rattle.clock_terms.proofs.Adding.{joins_are}

-- ---- members of lists

pub cons_cases : {X : Type 0} (y : X) (xs : List X) (x : X) → Contains (y ∷ xs) x → (y ≡ x) ⊎ Contains xs x
cons_cases y xs x (zero, lt, e) = inl e
cons_cases y xs x (suc k, lt, e) = inr (k, omega (arith, lt), e)

pub here : {X : Type 0} (x : X) (xs : List X) → Contains (x ∷ xs) x
here x xs = (0, omega arith, refl)

pub there : {X : Type 0} (y : X) (xs : List X) (x : X) → Contains xs x → Contains (y ∷ xs) x
there y xs x (k, lt, e) = (suc k, omega (arith, lt), e)

pub in_none : {X : Type 0} (x : X) → Contains [] x → ⊥
in_none x (k, lt, e) = omega (arith, lt)

pub in_one : {X : Type 0} (y x : X) → Contains (y ∷ []) x → y ≡ x
in_one y x h = ⊎_elim (λ e. e) (λ none. absurd (in_none x none)) (cons_cases y [] x h)

pub from_flat : {X Y : Type 0} (f : X → List Y) (xs : List X) (y : Y) → Contains (flat_map f xs) y → (x : X) × Contains xs x × Contains (f x) y
from_flat f [] y h = absurd (in_none y h)
from_flat f (x ∷ xs) y h = ⊎_elim
    (λ own. (x, here x xs, own))
    (λ later. let r = from_flat f xs y later in (r.0, there x xs r.0 r.1, r.2))
    (Contains-append_cases (f x) (flat_map f xs) y h)

pub to_flat : {X Y : Type 0} (f : X → List Y) (xs : List X) (x : X) (y : Y) → Contains xs x → Contains (f x) y → Contains (flat_map f xs) y
to_flat f [] x y h own = absurd (in_none x h)
to_flat f (z ∷ xs) x y h own = ⊎_elim
    (λ e. Contains-append_left (f z) (flat_map f xs) y (subst (λ w. Contains (f w) y) (sym e) own))
    (λ later. Contains-append_right (f z) (flat_map f xs) y (to_flat f xs x y later own))
    (cons_cases z xs x h)

-- the nodes before one
abbrev pub earlier : List Node → ℕ → List NodeOf
earlier nodes j = map entry (take j nodes)

pub from_adds : {X : Type 0} (step : List NodeOf → Node → List X) (before : List NodeOf) (nodes : List Node) (x : X) → Contains (adds step before nodes) x
    → (j : ℕ) × (node : Node) × (slice_get nodes j ≡ Some node) × Contains (step (before ++ earlier nodes j) node) x
from_adds step before [] x h = absurd (in_none x h)
from_adds step before (node ∷ nodes) x h = ⊎_elim
    (λ own. (0, node, refl, subst (λ b. Contains (step b node) x) (sym (append-nil before)) own))
    (λ later.
    let r = from_adds step (before ++ entry node ∷ []) nodes x later in
    (suc r.0, r.1, r.2, subst (λ b. Contains (step b r.1) x) (append_assoc before (entry node ∷ []) (earlier nodes r.0)) r.3))
    (Contains-append_cases (step before node) (adds step (before ++ entry node ∷ []) nodes) x h)

pub to_adds : {X : Type 0} (step : List NodeOf → Node → List X) (before : List NodeOf) (nodes : List Node) (j : ℕ) (node : Node) (x : X) → slice_get nodes j ≡ Some node → Contains (step (before ++ earlier nodes j) node) x
    → Contains (adds step before nodes) x
to_adds step before [] j node x is h = absurd (cc is)
to_adds step before (first ∷ nodes) zero node x is h =
    let same : node ≡ first = cc is in
    Contains-append_left (step before first) _ x (subst (λ n. Contains (step before n) x) same (subst (λ b. Contains (step b node) x) (append-nil before) h))
to_adds step before (first ∷ nodes) (suc j) node x is h =
    Contains-append_right (step before first) _ x
    (to_adds step (before ++ entry first ∷ []) nodes j node x is (subst (λ b. Contains (step b node) x) (sym (append_assoc before (entry first ∷ []) (earlier nodes j))) h))

pub count_earlier : (nodes : List Node) (j : ℕ) (node : Node) → slice_get nodes j ≡ Some node → length (earlier nodes j) ≡ j
count_earlier [] j node is = absurd (cc is)
count_earlier (first ∷ nodes) zero node is = refl
count_earlier (first ∷ nodes) (suc j) node is = ap suc (count_earlier nodes j node is)

-- ---- chains

follow : (Step : ℕ → ℕ → Type 0) (x y z : ℕ) → Chain Step x y → Chain Step y z → Chain Step x z
follow Step x y z (stay w) rest = rest
follow Step x y z (forward u v w step more) rest = forward u v z step (follow Step v w z more rest)
follow Step x y z (backward u v w step more) rest = backward u v z step (follow Step v w z more rest)

reversed : (Step : ℕ → ℕ → Type 0) (x y : ℕ) → Chain Step x y → Chain Step y x
reversed Step x y (stay w) = stay w
reversed Step x y (forward u v w step more) = follow Step w v u (reversed Step v w more) (backward v u u step (stay u))
reversed Step x y (backward u v w step more) = follow Step w v u (reversed Step v w more) (forward v u u step (stay u))

refined : (Step Finer : ℕ → ℕ → Type 0) → ((x y : ℕ) → Step x y → Chain Finer x y) → (x y : ℕ) → Chain Step x y → Chain Finer x y
refined Step Finer finer x y (stay w) = stay w
refined Step Finer finer x y (forward u v w step more) = follow Finer u v w (finer u v step) (refined Step Finer finer v w more)
refined Step Finer finer x y (backward u v w step more) = follow Finer u v w (reversed Finer v u (finer v u step)) (refined Step Finer finer v w more)

-- ---- the first node of a clause

is_that : (o : Option ℕ) (c : ℕ) → is_clause o c ≡ true → o ≡ Some c
is_that None c e = absurd (cc e)
is_that (Some d) c e = let same : d ≡ c = grind (arith, nat_tests, e) in ap Some same

that_is : (o : Option ℕ) (c : ℕ) → o ≡ Some c → is_clause o c ≡ true
that_is o c e = subst (λ p. is_clause p c ≡ true) (sym e) (let t : (c == c) ≡ true = grind (arith, nat_tests) in t)

lead_found : (n : ℕ) (nodes : List Node) (c lead : ℕ) → lead_from n (map entry nodes) c ≡ Some lead
    → (i : ℕ) × (node : Node) × (slice_get nodes i ≡ Some node) × (lead ≡ n + i) × (node.clause ≡ Some c)
lead_found n [] c lead e = absurd (cc e)
lead_found n (node ∷ nodes) c lead e = by_test (is_clause node.clause c) refl e (λ e'. let r = lead_found (n + 1) nodes c lead e' in (suc r.0, r.1, r.2, omega (arith, r.3), r.4))
  where
    by_test : (b : Bool) → is_clause node.clause c ≡ b → (if b then Some n else lead_from (n + 1) (map entry nodes) c) ≡ Some lead
        → (lead_from (n + 1) (map entry nodes) c ≡ Some lead → (i : ℕ) × (found : Node) × (slice_get (node ∷ nodes) i ≡ Some found) × (lead ≡ n + i) × (found.clause ≡ Some c))
        → (i : ℕ) × (found : Node) × (slice_get (node ∷ nodes) i ≡ Some found) × (lead ≡ n + i) × (found.clause ≡ Some c)
    by_test true is e later = (0, node, refl, (let s : lead ≡ n = cc e in omega (arith, s)), is_that node.clause c is)
    by_test false is e later = later e

taken_get : (nodes : List Node) (j i : ℕ) (node : Node) → slice_get (take j nodes) i ≡ Some node → slice_get nodes i ≡ Some node
taken_get nodes zero i node e = absurd (none nodes e)
  where
    none : (ns : List Node) → slice_get (take 0 ns) i ≡ Some node → ⊥
    none [] e = cc e
    none (x ∷ xs) e = cc e
taken_get [] (suc j) i node e = e
taken_get (x ∷ xs) (suc j) zero node e = e
taken_get (x ∷ xs) (suc j) (suc i) node e = taken_get xs j i node e

-- the first of all is the first before a node of the clause, or else that node
lead_at : (n : ℕ) (nodes : List Node) (j : ℕ) (node : Node) (c : ℕ) → slice_get nodes j ≡ Some node → is_clause node.clause c ≡ true
    → lead_from n (map entry nodes) c ≡ (if has_lead (lead_from n (earlier nodes j) c) then lead_from n (earlier nodes j) c else Some (n + j))
lead_at n [] j node c is own = absurd (cc is)
lead_at n (first ∷ nodes) zero node c is own =
    let same : node ≡ first = cc is in
    ap (λ b. if b then Some n else lead_from (n + 1) (map entry nodes) c) (subst (λ m. is_clause m.clause c ≡ true) same own) ∙ ap Some (let e : n ≡ n + 0 = omega arith in e)
lead_at n (first ∷ nodes) (suc j) node c is own = by_test (is_clause first.clause c) (lead_at (n + 1) nodes j node c is own ∙ ap (λ k. if has_lead (lead_from (n + 1) (earlier nodes j) c) then lead_from (n + 1) (earlier nodes j) c else Some k) (let e : n + 1 + j ≡ n + suc j = omega arith in e))
  where
    by_test : (b : Bool) → lead_from (n + 1) (map entry nodes) c ≡ (if has_lead (lead_from (n + 1) (earlier nodes j) c) then lead_from (n + 1) (earlier nodes j) c else Some (n + suc j))
        → (if b then Some n else lead_from (n + 1) (map entry nodes) c) ≡ (if has_lead (if b then Some n else lead_from (n + 1) (earlier nodes j) c) then (if b then Some n else lead_from (n + 1) (earlier nodes j) c) else Some (n + suc j))
    by_test true e = refl
    by_test false e = e

-- what a name joins
name_join : (x n : ℕ) (o : Option FlatName) (p : Pair) → Contains (name_joins x n o) p → (name : FlatName) × (o ≡ Some name) × (name.input ≡ false) × (p ≡ record { a = x; b = n })
name_join x n None p h = absurd (in_none p h)
name_join x n (Some name) p h = by_input name.input refl h
  where
    by_input : (b : Bool) → name.input ≡ b → Contains (own_joins x n b) p → (found : FlatName) × (Some name ≡ Some found) × (found.input ≡ false) × (p ≡ record { a = x; b = n })
    by_input true is h = absurd (in_none p h)
    by_input false is h = (name, refl, is, sym (in_one (record { a = x; b = n }) p h))

join_name : (x n : ℕ) (o : Option FlatName) (name : FlatName) → o ≡ Some name → name.input ≡ false → Contains (name_joins x n o) (record { a = x; b = n })
join_name x n o name e own = subst (λ p. Contains (name_joins x n p) (record { a = x; b = n })) (sym e) (subst (λ b. Contains (own_joins x n b) (record { a = x; b = n })) (sym own) (here (record { a = x; b = n }) []))

mention_join : (names : List FlatName) (n : ℕ) (m : Mention) (p : Pair) → Contains (joins_by names n m) p
    → (x : ℕ) × (name : FlatName) × (m ≡ Stands x) × (slice_get names x ≡ Some name) × (name.input ≡ false) × (p ≡ record { a = x; b = n })
mention_join names n (Stands x) p h = let r = name_join x n (slice_get names x) p h in (x, r.0, refl, r.1, r.2, r.3)
mention_join names n Ticks p h = absurd (in_none p h)
mention_join names n Samples p h = absurd (in_none p h)
mention_join names n (Holds x) p h = absurd (in_none p h)
mention_join names n (Converts by x) p h = absurd (in_none p h)
mention_join names n (Gives clock) p h = absurd (in_none p h)

lead_join : (n : ℕ) (o : Option ℕ) (p : Pair) → Contains (lead_joins n o) p → (lead : ℕ) × (o ≡ Some lead) × (p ≡ record { a = lead; b = n })
lead_join n None p h = absurd (in_none p h)
lead_join n (Some lead) p h = (lead, refl, sym (in_one (record { a = lead; b = n }) p h))

clause_join : (first : ℕ) (before : List NodeOf) (n : ℕ) (o : Option ℕ) (p : Pair) → Contains (clause_joins first before n o) p
    → (c : ℕ) × (lead : ℕ) × (o ≡ Some c) × (lead_from first before c ≡ Some lead) × (p ≡ record { a = lead; b = n })
clause_join first before n None p h = absurd (in_none p h)
clause_join first before n (Some c) p h = let r = lead_join n (lead_from first before c) p h in (c, r.0, refl, r.1, r.2)

-- a pair of the joins is a step of the definition
pub pair_step : (model : FlatModel) (a b : ℕ) → IsPair (terms_of model).joins a b → IsJoined model a b
pair_step model a b h =
    let r = from_adds (joins_step model.names) [] (nodes_of model) (record { a = a; b = b }) (subst (λ ps. Contains ps (record { a = a; b = b })) (joins_are model) h) in
    let j = r.0 in
    let node = r.1 in
    let n = number_after model.names (earlier (nodes_of model) j) in
    let same : n ≡ numbered model j = ap (λ k. length model.names + k) (count_earlier (nodes_of model) j node r.2) in
    ⊎_elim
    (λ clause.
    let q = clause_join (length model.names) (earlier (nodes_of model) j) n node.clause (record { a = a; b = b }) clause in
    let f = lead_found (length model.names) (take j (nodes_of model)) q.0 q.1 q.3 in
    let ea : a ≡ q.1 = ap (λ p. p.a) q.4 in
    let eb : b ≡ n = ap (λ p. p.b) q.4 in
    inr (f.0, j, ea ∙ f.3, eb ∙ same, record { first = f.1; second = node; is_first = taken_get (nodes_of model) j f.0 f.1 f.2; is_second = r.2; clause = q.0; of_first = f.4; of_second = q.2 }))
    (λ mentions.
    let m = from_flat (joins_by model.names n) node.mentions (record { a = a; b = b }) mentions in
    let q = mention_join model.names n m.0 (record { a = a; b = b }) m.2 in
    let ea : a ≡ q.0 = ap (λ p. p.a) q.5 in
    let eb : b ≡ n = ap (λ p. p.b) q.5 in
    inl (j, eb ∙ same, subst (λ x. StandsUncut model x j) (sym ea) (record { node = node; is_node = r.2; stands = subst (λ z. Contains node.mentions z) q.2 m.1; name = q.1; is_named = q.3; own = q.4 })))
    (Contains-append_cases (clause_joins (length model.names) (earlier (nodes_of model) j) n node.clause) (flat_map (joins_by model.names n) node.mentions) (record { a = a; b = b }) r.3)

-- a node's own additions are among the joins
added_at : (model : FlatModel) (j : ℕ) (node : Node) (p : Pair) → IsNode model j node → Contains (joins_step model.names (earlier (nodes_of model) j) node) p → Contains (terms_of model).joins p
added_at model j node p is h = subst (λ ps. Contains ps p) (sym (joins_are model)) (to_adds (joins_step model.names) [] (nodes_of model) j node p is h)

name_step : (model : FlatModel) (x j : ℕ) → StandsUncut model x j → AreJoined (terms_of model).joins x (numbered model j)
name_step model x j s =
    let n = number_after model.names (earlier (nodes_of model) j) in
    let same : n ≡ numbered model j = ap (λ k. length model.names + k) (count_earlier (nodes_of model) j s.node s.is_node) in
    let pair : IsPair (terms_of model).joins x n =
    added_at model j s.node (record { a = x; b = n }) s.is_node
    (Contains-append_right (clause_joins (length model.names) (earlier (nodes_of model) j) n s.node.clause) (flat_map (joins_by model.names n) s.node.mentions) (record { a = x; b = n })
    (to_flat (joins_by model.names n) s.node.mentions (Stands x) (record { a = x; b = n }) s.stands (join_name x n (slice_get model.names x) s.name s.is_named s.own))) in
    subst (λ k. AreJoined (terms_of model).joins x k) same (forward x n n pair (stay n))

-- each equation of a clause is joined to the first
to_lead : (model : FlatModel) (j : ℕ) (node : Node) (c : ℕ) → IsNode model j node → node.clause ≡ Some c
    → (lead : ℕ) × (lead_from (length model.names) (map entry (nodes_of model)) c ≡ Some lead) × AreJoined (terms_of model).joins (numbered model j) lead
to_lead model j node c is own =
    by_lead (lead_from (length model.names) (earlier (nodes_of model) j) c) refl (lead_at (length model.names) (nodes_of model) j node c is (that_is node.clause c own))
  where
    n : ℕ
    n = number_after model.names (earlier (nodes_of model) j)

    by_lead : (o : Option ℕ) → lead_from (length model.names) (earlier (nodes_of model) j) c ≡ o
        → lead_from (length model.names) (map entry (nodes_of model)) c ≡ (if has_lead o then o else Some (length model.names + j))
        → (lead : ℕ) × (lead_from (length model.names) (map entry (nodes_of model)) c ≡ Some lead) × AreJoined (terms_of model).joins (numbered model j) lead
    by_lead None before e = (length model.names + j, e, stay (numbered model j))
    by_lead (Some lead) before e =
        let same : number_after model.names (earlier (nodes_of model) j) ≡ numbered model j = ap (λ k. length model.names + k) (count_earlier (nodes_of model) j node is) in
        let own_pair : Contains (clause_joins (length model.names) (earlier (nodes_of model) j) (number_after model.names (earlier (nodes_of model) j)) node.clause) (record { a = lead; b = number_after model.names (earlier (nodes_of model) j) }) =
        subst (λ o. Contains (clause_joins (length model.names) (earlier (nodes_of model) j) (number_after model.names (earlier (nodes_of model) j)) o) (record { a = lead; b = number_after model.names (earlier (nodes_of model) j) })) (sym own)
        (subst (λ o. Contains (lead_joins (number_after model.names (earlier (nodes_of model) j)) o) (record { a = lead; b = number_after model.names (earlier (nodes_of model) j) })) (sym before) (here _ [])) in
        let pair : IsPair (terms_of model).joins lead (number_after model.names (earlier (nodes_of model) j)) = added_at model j node _ is (Contains-append_left (clause_joins (length model.names) (earlier (nodes_of model) j) (number_after model.names (earlier (nodes_of model) j)) node.clause) _ _ own_pair) in
        (lead, e, subst (λ k. AreJoined (terms_of model).joins k lead) same (backward _ lead lead pair (stay lead)))

clause_step : (model : FlatModel) (i j : ℕ) → AreOfOneClause model i j → AreJoined (terms_of model).joins (numbered model i) (numbered model j)
clause_step model i j s =
    let p = to_lead model i s.first s.clause s.is_first s.of_first in
    let q = to_lead model j s.second s.clause s.is_second s.of_second in
    let same : p.0 ≡ q.0 = (let e : Some p.0 ≡ Some q.0 = sym p.1 ∙ q.1 in cc e) in
    follow (IsPair (terms_of model).joins) (numbered model i) q.0 (numbered model j) (subst (λ l. AreJoined (terms_of model).joins (numbered model i) l) same p.2) (reversed (IsPair (terms_of model).joins) (numbered model j) q.0 q.2)

-- a step of the definition is a chain of joins
step_pairs : (model : FlatModel) (a b : ℕ) → IsJoined model a b → AreJoined (terms_of model).joins a b
step_pairs model a b (inl (j, e, stands)) = subst (λ k. AreJoined (terms_of model).joins a k) (sym e) (name_step model a j stands)
step_pairs model a b (inr (i, j, ea, eb, one)) = subst (λ k. AreJoined (terms_of model).joins k b) (sym ea) (subst (λ k. AreJoined (terms_of model).joins (numbered model i) k) (sym eb) (clause_step model i j one))

-- the law: chains over the joins are the classes of the definition
pub joined_class : (model : FlatModel) (a b : ℕ) → AreJoined (terms_of model).joins a b → AreOfOneClass model a b
joined_class model = refined (IsPair (terms_of model).joins) (IsJoined model) (λ x y p. forward x y y (pair_step model x y p) (stay y))

pub class_joined : (model : FlatModel) (a b : ℕ) → AreOfOneClass model a b → AreJoined (terms_of model).joins a b
class_joined model = refined (IsJoined model) (IsPair (terms_of model).joins) (step_pairs model)
