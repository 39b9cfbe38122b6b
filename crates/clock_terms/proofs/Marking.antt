-- The marks of terms are those of the definition, and the joins stay below the count.
use Rattle.std.proofs.Common.{◌≡◌, ◌≢◌, refl, ap, subst, zero, suc, ◌+◌, ◌<◌, Bool, true, false, length, arith, ◌∙◌, sym, ℕ, List, [], ◌∷◌, Option, Some, None, flat_map, slice_get, slice_index_or, inl, inr, ◌⊎◌, ⊎_elim, Contains}
use Rattle.std.proofs.lemmas.List.Elements.{Contains-append_left, Contains-append_right, Contains-append_cases, Contains-get_or}
use Rattle.flat_model.specs.declared.model.FlatName.{FlatName}
use Rattle.flat_model.specs.declared.model.FlatModel.{FlatModel}
use Rattle.flat_model.specs.declared.model.NameKind.{NameKind}
use Rattle.flat_model.specs.declared.model.NameKind.TheVariants as kind
use Rattle.mo_connect.specs.Chain.{AreBelow}
use Rattle.clock_terms.specs.declared.data.Cause.{Cause}
use Rattle.clock_terms.specs.Mentions.{Mention, Stands, Ticks, Samples, Holds, Converts, Gives}
use Rattle.clock_terms.specs.Nodes.{Node, nodes_of}
use Rattle.clock_terms.specs.Gathered.{terms_of, clock_names}
use Rattle.clock_terms.specs.Said.{IsNode, numbered, IsNamed, IsJoined, NeedsClock, TakesLast, IsMarkedClocked, IsHold, IsInput, IsMarkedUnclocked}
use Rattle.clock_terms.specs.private.Added.{adds, number_after, clocked_by, clause_marks, clocked_step, input_marks, name_marks, unclocked_by, cause_marks, unclocked_step}
use Rattle.clock_terms.proofs.Adding.{clocked_are, unclocked_are}
use Rattle.clock_terms.proofs.Joining.{cons_cases, here, there, in_none, in_one, from_flat, to_flat, earlier, from_adds, to_adds, count_earlier, pair_step}

-- ---- names of clocks

clock_named : (k : ℕ) (names : List FlatName) (a : ℕ) → Contains (clock_names k names) a → (i : ℕ) × (name : FlatName) × (slice_get names i ≡ Some name) × (a ≡ k + i) × (name.kind ≡ kind.Clock)
clock_named k [] a h = absurd (in_none a h)
clock_named k (name ∷ names) a h = by_kind name.kind refl h (λ h'. let r = clock_named (k + 1) names a h' in (suc r.0, r.1, r.2, omega (arith, r.3), r.4))
  where
    by_kind : (s : NameKind) → name.kind ≡ s → Contains (clock_names k ((record name { kind = s }) ∷ names)) a
        → (Contains (clock_names (k + 1) names) a → (i : ℕ) × (found : FlatName) × (slice_get (name ∷ names) i ≡ Some found) × (a ≡ k + i) × (found.kind ≡ kind.Clock))
        → (i : ℕ) × (found : FlatName) × (slice_get (name ∷ names) i ≡ Some found) × (a ≡ k + i) × (found.kind ≡ kind.Clock)
    by_kind kind.Clock is h later = ⊎_elim (λ e. (0, name, refl, omega (arith, e), is)) later (cons_cases k (clock_names (k + 1) names) a h)
    by_kind kind.Integer is h later = later h
    by_kind kind.Boolean is h later = later h

named_clock : (k : ℕ) (names : List FlatName) (i : ℕ) (name : FlatName) → slice_get names i ≡ Some name → name.kind ≡ kind.Clock → Contains (clock_names k names) (k + i)
named_clock k [] i name is own = absurd (cc is)
named_clock k (first ∷ names) zero name is own =
    let same : name ≡ first = cc is in
    subst (λ s. Contains (clock_names k ((record first { kind = s }) ∷ names)) (k + 0)) (sym (subst (λ m. m.kind ≡ kind.Clock) same own)) (subst (λ x. Contains (k ∷ clock_names (k + 1) names) x) (let e : k ≡ k + 0 = omega arith in e) (here k (clock_names (k + 1) names)))
named_clock k (first ∷ names) (suc i) name is own = by_kind first.kind (subst (λ x. Contains (clock_names (k + 1) names) x) (let e : k + 1 + i ≡ k + suc i = omega arith in e) (named_clock (k + 1) names i name is own))
  where
    by_kind : (s : NameKind) → Contains (clock_names (k + 1) names) (k + suc i) → Contains (clock_names k ((record first { kind = s }) ∷ names)) (k + suc i)
    by_kind kind.Clock h = there k (clock_names (k + 1) names) (k + suc i) h
    by_kind kind.Integer h = h
    by_kind kind.Boolean h = h

-- ---- clocked

clause_mark : (n : ℕ) (o : Option ℕ) (a : ℕ) → Contains (clause_marks n o) a → (a ≡ n) × (o ≢ None)
clause_mark n None a h = absurd (in_none a h)
clause_mark n (Some c) a h = (sym (in_one n a h), λ e. cc e)

mark_clause : (n : ℕ) (o : Option ℕ) → o ≢ None → Contains (clause_marks n o) n
mark_clause n None some = absurd (some refl)
mark_clause n (Some c) some = here n []

clocked_mark : (n : ℕ) (m : Mention) (a : ℕ) → Contains (clocked_by n m) a → ((a ≡ n) × NeedsClock m) ⊎ TakesLast a m
clocked_mark n (Stands x) a h = absurd (in_none a h)
clocked_mark n Ticks a h = inl (sym (in_one n a h), tt)
clocked_mark n Samples a h = inl (sym (in_one n a h), tt)
clocked_mark n (Holds x) a h = inr (sym (in_one x a h))
clocked_mark n (Converts by x) a h = ⊎_elim (λ e. inl (sym e, tt)) (λ later. inr (sym (in_one x a later))) (cons_cases n (x ∷ []) a h)
clocked_mark n (Gives clock) a h = absurd (in_none a h)

mark_asked : (n : ℕ) (m : Mention) → NeedsClock m → Contains (clocked_by n m) n
mark_asked n (Stands x) h = absurd h
mark_asked n Ticks h = here n []
mark_asked n Samples h = here n []
mark_asked n (Holds x) h = absurd h
mark_asked n (Converts by x) h = here n (x ∷ [])
mark_asked n (Gives clock) h = absurd h

mark_taken : (n : ℕ) (m : Mention) (a : ℕ) → TakesLast a m → Contains (clocked_by n m) a
mark_taken n (Stands x) a h = absurd h
mark_taken n Ticks a h = absurd h
mark_taken n Samples a h = absurd h
mark_taken n (Holds x) a h = subst (λ z. Contains (x ∷ []) z) (sym h) (here x [])
mark_taken n (Converts by x) a h = there n (x ∷ []) a (subst (λ z. Contains (x ∷ []) z) (sym h) (here x []))
mark_taken n (Gives clock) a h = absurd h

number_at : (model : FlatModel) (j : ℕ) (node : Node) → IsNode model j node → number_after model.names (earlier (nodes_of model) j) ≡ numbered model j
number_at model j node is = ap (λ k. length model.names + k) (count_earlier (nodes_of model) j node is)

pub clocked_marked : (model : FlatModel) (a : ℕ) → Contains (terms_of model).clocked a → IsMarkedClocked model a
clocked_marked model a h = ⊎_elim
    (λ named. let r = clock_named 0 model.names a named in let e : a ≡ r.0 = omega (arith, r.3) in inl (r.1, subst (λ x. IsNamed model x r.1) (sym e) r.2, r.4))
    (λ added.
    let r = from_adds (clocked_step model.names) [] (nodes_of model) a added in
    let n = number_after model.names (earlier (nodes_of model) r.0) in
    let same = number_at model r.0 r.1 r.2 in
    ⊎_elim
    (λ clause. let q = clause_mark n r.1.clause a clause in inr (inl (r.0, q.0 ∙ same, r.1, r.2, q.1)))
    (λ mentions.
    let m = from_flat (clocked_by n) r.1.mentions a mentions in
    ⊎_elim
    (λ q. inr (inr (inl (r.0, q.0 ∙ same, (r.1, r.2, (m.0, m.1, q.1))))))
    (λ q. inr (inr (inr (r.0, (r.1, r.2, (m.0, m.1, q))))))
    (clocked_mark n m.0 a m.2))
    (Contains-append_cases (clause_marks n r.1.clause) (flat_map (clocked_by n) r.1.mentions) a r.3))
    (Contains-append_cases (clock_names 0 model.names) (adds (clocked_step model.names) [] (nodes_of model)) a (subst (λ xs. Contains xs a) (clocked_are model) h))

clocked_at : (model : FlatModel) (j : ℕ) (node : Node) (a : ℕ) → IsNode model j node → Contains (clocked_step model.names (earlier (nodes_of model) j) node) a → Contains (terms_of model).clocked a
clocked_at model j node a is h = subst (λ xs. Contains xs a) (sym (clocked_are model)) (Contains-append_right (clock_names 0 model.names) _ a (to_adds (clocked_step model.names) [] (nodes_of model) j node a is h))

clocked_by_mention : (model : FlatModel) (j : ℕ) (node : Node) (m : Mention) (a : ℕ) → IsNode model j node → Contains node.mentions m → Contains (clocked_by (number_after model.names (earlier (nodes_of model) j)) m) a → Contains (terms_of model).clocked a
clocked_by_mention model j node m a is stands h = clocked_at model j node a is (Contains-append_right (clause_marks (number_after model.names (earlier (nodes_of model) j)) node.clause) _ a (to_flat (clocked_by (number_after model.names (earlier (nodes_of model) j))) node.mentions m a stands h))

pub marked_clocked : (model : FlatModel) (a : ℕ) → IsMarkedClocked model a → Contains (terms_of model).clocked a
marked_clocked model a (inl (name, is, own)) = subst (λ xs. Contains xs a) (sym (clocked_are model)) (Contains-append_left (clock_names 0 model.names) _ a (subst (λ x. Contains (clock_names 0 model.names) x) (let e : 0 + a ≡ a = omega arith in e) (named_clock 0 model.names a name is own)))
marked_clocked model a (inr (inl (j, e, node, is, some))) =
    subst (λ x. Contains (terms_of model).clocked x) (number_at model j node is ∙ sym e)
    (clocked_at model j node (number_after model.names (earlier (nodes_of model) j)) is (Contains-append_left (clause_marks (number_after model.names (earlier (nodes_of model) j)) node.clause) _ _ (mark_clause (number_after model.names (earlier (nodes_of model) j)) node.clause some)))
marked_clocked model a (inr (inr (inl (j, e, (node, is, (m, stands, asks)))))) =
    subst (λ x. Contains (terms_of model).clocked x) (number_at model j node is ∙ sym e)
    (clocked_by_mention model j node m (number_after model.names (earlier (nodes_of model) j)) is stands (mark_asked (number_after model.names (earlier (nodes_of model) j)) m asks))
marked_clocked model a (inr (inr (inr (j, (node, is, (m, stands, takes)))))) =
    clocked_by_mention model j node m a is stands (mark_taken (number_after model.names (earlier (nodes_of model) j)) m a takes)

-- ---- unclocked

cause_mark : (n : ℕ) (o : Option Cause) (a : ℕ) → Contains (cause_marks n o) a → (a ≡ n) × (o ≢ None)
cause_mark n None a h = absurd (in_none a h)
cause_mark n (Some c) a h = (sym (in_one n a h), λ e. cc e)

mark_cause : (n : ℕ) (o : Option Cause) → o ≢ None → Contains (cause_marks n o) n
mark_cause n None some = absurd (some refl)
mark_cause n (Some c) some = here n []

name_mark : (n : ℕ) (o : Option FlatName) (a : ℕ) → Contains (name_marks n o) a → (name : FlatName) × (o ≡ Some name) × (name.input ≡ true) × (a ≡ n)
name_mark n None a h = absurd (in_none a h)
name_mark n (Some name) a h = by_input name.input refl h
  where
    by_input : (b : Bool) → name.input ≡ b → Contains (input_marks n b) a → (found : FlatName) × (Some name ≡ Some found) × (found.input ≡ true) × (a ≡ n)
    by_input true is h = (name, refl, is, sym (in_one n a h))
    by_input false is h = absurd (in_none a h)

unclocked_mark : (model : FlatModel) (n : ℕ) (m : Mention) (a : ℕ) → Contains (unclocked_by model.names n m) a → (a ≡ n) × (IsInput model m ⊎ IsHold m)
unclocked_mark model n (Stands x) a h = let r = name_mark n (slice_get model.names x) a h in (r.3, inl (r.0, r.1, r.2))
unclocked_mark model n Ticks a h = absurd (in_none a h)
unclocked_mark model n Samples a h = absurd (in_none a h)
unclocked_mark model n (Holds x) a h = (sym (in_one n a h), inr tt)
unclocked_mark model n (Converts by x) a h = absurd (in_none a h)
unclocked_mark model n (Gives clock) a h = absurd (in_none a h)

mark_input : (model : FlatModel) (n : ℕ) (m : Mention) → IsInput model m → Contains (unclocked_by model.names n m) n
mark_input model n (Stands x) (name, is, own) = subst (λ o. Contains (name_marks n o) n) (sym is) (subst (λ b. Contains (input_marks n b) n) (sym own) (here n []))
mark_input model n Ticks h = absurd h
mark_input model n Samples h = absurd h
mark_input model n (Holds x) h = absurd h
mark_input model n (Converts by x) h = absurd h
mark_input model n (Gives clock) h = absurd h

mark_hold : (names : List FlatName) (n : ℕ) (m : Mention) → IsHold m → Contains (unclocked_by names n m) n
mark_hold names n (Stands x) h = absurd h
mark_hold names n Ticks h = absurd h
mark_hold names n Samples h = absurd h
mark_hold names n (Holds x) h = here n []
mark_hold names n (Converts by x) h = absurd h
mark_hold names n (Gives clock) h = absurd h

pub unclocked_marked : (model : FlatModel) (a : ℕ) → Contains (terms_of model).unclocked a → IsMarkedUnclocked model a
unclocked_marked model a h =
    let r = from_adds (unclocked_step model.names) [] (nodes_of model) a (subst (λ xs. Contains xs a) (unclocked_are model) h) in
    let n = number_after model.names (earlier (nodes_of model) r.0) in
    let same = number_at model r.0 r.1 r.2 in
    ⊎_elim
    (λ cause. let q = cause_mark n r.1.cause a cause in inr (inr (r.0, q.0 ∙ same, r.1, r.2, q.1)))
    (λ mentions.
    let m = from_flat (unclocked_by model.names n) r.1.mentions a mentions in
    let q = unclocked_mark model n m.0 a m.2 in
    ⊎_elim
    (λ input. inl (r.0, q.0 ∙ same, (r.1, r.2, (m.0, m.1, input))))
    (λ hold. inr (inl (r.0, q.0 ∙ same, (r.1, r.2, (m.0, m.1, hold)))))
    q.1)
    (Contains-append_cases (cause_marks n r.1.cause) (flat_map (unclocked_by model.names n) r.1.mentions) a r.3)

unclocked_at : (model : FlatModel) (j : ℕ) (node : Node) (a : ℕ) → IsNode model j node → Contains (unclocked_step model.names (earlier (nodes_of model) j) node) a → Contains (terms_of model).unclocked a
unclocked_at model j node a is h = subst (λ xs. Contains xs a) (sym (unclocked_are model)) (to_adds (unclocked_step model.names) [] (nodes_of model) j node a is h)

unclocked_by_mention : (model : FlatModel) (j : ℕ) (node : Node) (m : Mention) (a : ℕ) → IsNode model j node → Contains node.mentions m → Contains (unclocked_by model.names (number_after model.names (earlier (nodes_of model) j)) m) a → Contains (terms_of model).unclocked a
unclocked_by_mention model j node m a is stands h = unclocked_at model j node a is (Contains-append_right (cause_marks (number_after model.names (earlier (nodes_of model) j)) node.cause) _ a (to_flat (unclocked_by model.names (number_after model.names (earlier (nodes_of model) j))) node.mentions m a stands h))

pub marked_unclocked : (model : FlatModel) (a : ℕ) → IsMarkedUnclocked model a → Contains (terms_of model).unclocked a
marked_unclocked model a (inl (j, e, (node, is, (m, stands, input)))) =
    subst (λ x. Contains (terms_of model).unclocked x) (number_at model j node is ∙ sym e)
    (unclocked_by_mention model j node m (number_after model.names (earlier (nodes_of model) j)) is stands (mark_input model (number_after model.names (earlier (nodes_of model) j)) m input))
marked_unclocked model a (inr (inl (j, e, (node, is, (m, stands, hold))))) =
    subst (λ x. Contains (terms_of model).unclocked x) (number_at model j node is ∙ sym e)
    (unclocked_by_mention model j node m (number_after model.names (earlier (nodes_of model) j)) is stands (mark_hold model.names (number_after model.names (earlier (nodes_of model) j)) m hold))
marked_unclocked model a (inr (inr (j, e, node, is, some))) =
    subst (λ x. Contains (terms_of model).unclocked x) (number_at model j node is ∙ sym e)
    (unclocked_at model j node (number_after model.names (earlier (nodes_of model) j)) is (Contains-append_left (cause_marks (number_after model.names (earlier (nodes_of model) j)) node.cause) _ _ (mark_cause (number_after model.names (earlier (nodes_of model) j)) node.cause some)))

-- ---- the count of names and nodes

pub get_below : {X : Type 0} (xs : List X) (i : ℕ) (x : X) → slice_get xs i ≡ Some x → i < length xs
get_below [] i x is = absurd (cc is)
get_below (y ∷ ys) zero x is = omega arith
get_below (y ∷ ys) (suc i) x is = let e = get_below ys i x is in omega (arith, e)

step_below : (model : FlatModel) (a b : ℕ) → IsJoined model a b → (a < numbered model (length (nodes_of model))) × (b < numbered model (length (nodes_of model)))
step_below model a b (inl (j, e, s)) =
    let x = get_below model.names a s.name s.is_named in
    let n = get_below (nodes_of model) j s.node s.is_node in
    (omega (arith, x), omega (arith, n, e))
step_below model a b (inr (i, j, ea, eb, s)) =
    let x = get_below (nodes_of model) i s.first s.is_first in
    let n = get_below (nodes_of model) j s.second s.is_second in
    (omega (arith, x, ea), omega (arith, n, eb))

pub joins_below : (model : FlatModel) → AreBelow (numbered model (length (nodes_of model))) (terms_of model).joins
joins_below model k d lt =
    let pair = slice_index_or (terms_of model).joins k d in
    step_below model pair.a pair.b (pair_step model pair.a pair.b (Contains-get_or (terms_of model).joins k d lt))
