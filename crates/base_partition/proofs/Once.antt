-- A model has one answer.
use Rattle.std.proofs.Common.{◌≡◌, ◌≢◌, refl, ap, ap₂, subst, sym, ◌∙◌, ℕ, zero, suc, ◌-◌, ◌<◌, ◌≤◌, ◌⊎◌, inl, inr, ⊎_elim, Bool, true, false, List, [], ◌∷◌, length, slice_index_or, slice_get, get_or, Some, None, Option, Result, Ok, Err, Contains, arith}
use Rattle.std.proofs.lemmas.Bool.{cases_order, cases_Bool}
use Rattle.std.proofs.lemmas.List.{ext_get_or, get_or_default}
use Rattle.std.proofs.lemmas.List.Elements.{All-contains}
use Rattle.std.proofs.lemmas.List.Kept.{AllPairs-from_increasing}
use Rattle.flat_model.specs.declared.model.FlatModel.{FlatModel}
use Rattle.flat_model.specs.declared.model.FlatName.{FlatName}
use Rattle.flat_model.specs.declared.place.Place.{Place}
use Rattle.flat_model.specs.declared.place.Place.TheVariants as place
use Rattle.mo_connect.specs.Chain.{Chain}
use Rattle.mo_connect.proofs.Chains.{follow, reversed}
use Rattle.mo_connect.proofs.Unique.{same_from_elements}
use Rattle.clock_terms.specs.declared.data.Classes.{Classes}
use Rattle.clock_terms.specs.Nodes.{nodes_of}
use Rattle.clock_terms.specs.Said.{numbered, IsJoined, IsMarkedClocked}
use Rattle.clock_terms.specs.Classing.{IsMember, AreNumbered, IsPlaceOf, AreConverted, HasMark, AreClassesOf, class_in, is_clocked, partition_in}
use Rattle.clock_terms.specs.Least.{IsLeast}
use Rattle.clock_terms.proofs.Marking.{get_below}
use Rattle.base_partition.specs.declared.kinds.ClassEnd.{ClassEnd}
use Rattle.base_partition.specs.declared.kinds.ClassEnd.TheVariants as end
use Rattle.base_partition.specs.Classified.{IsMixed, IsBaseMixed, Classifies}
use Rattle.base_partition.proofs.ClassNumbers.{inside_or_past}

-- ---- numbers of classes

module _ (IsOne : ℕ → Type 0) (Step : ℕ → ℕ → Type 0) where
  abbrev IsNumbered : List ℕ → (ℕ → ℕ) → Type 0
  IsNumbered = AreNumbered IsOne (Chain Step)

  one_first : (firsts : List ℕ) (number_of : ℕ → ℕ) → IsNumbered firsts number_of → (f g : ℕ) → Contains firsts f → Contains firsts g → Chain Step f g → f ≡ g
  one_first firsts number_of h f g (i, lt, e) (j, lt', e') chain = elim (cases_order i j) [
    | inl same ↦ sym e ∙ ap (λ k. get_or firsts k f) same ∙ get_or_default firsts j f g lt' ∙ e'
    | inr ne ↦ absurd (⊎_elim
        (λ below. h.apart i j f below lt' (subst (λ a. Chain Step a (get_or firsts j f)) (sym e) (subst (λ b. Chain Step f b) (sym (get_or_default firsts j f g lt' ∙ e')) chain)))
        (λ above. h.apart j i f above lt (reversed Step (get_or firsts i f) (get_or firsts j f) (subst (λ a. Chain Step a (get_or firsts j f)) (sym e) (subst (λ b. Chain Step f b) (sym (get_or_default firsts j f g lt' ∙ e')) chain))))
        ne)
  ]

  get_contains : (firsts : List ℕ) (i f : ℕ) → slice_get firsts i ≡ Some f → Contains firsts f
  get_contains [] i f is = absurd (cc is)
  get_contains (x ∷ xs) zero f is = (0, omega arith, (let e : x ≡ f = cc is in e))
  get_contains (x ∷ xs) (suc i) f is = let r = get_contains xs i f is in (suc r.0, (let lt = r.1 in omega (arith, lt)), r.2)

  -- a first member is the least of its class, so it is a first member of the other numbers too
  first_of_other : (fs gs : List ℕ) (number_of other : ℕ → ℕ) → IsNumbered fs number_of → IsNumbered gs other → (f : ℕ) → Contains fs f → Contains gs f
  first_of_other fs gs number_of other h k f inside =
      let one = All-contains IsOne fs f h.members inside in
      let g = k.found f one in
      let in_gs = get_contains gs (other f) g.0 g.1 in
      let one' = All-contains IsOne gs g.0 k.members in_gs in
      let r = h.found g.0 one' in
      let in_fs = get_contains fs (number_of g.0) r.0 r.1 in
      let same : r.0 ≡ f = one_first fs number_of h r.0 f in_fs inside (follow Step r.0 g.0 f r.2 g.2) in
      let down = g.3 in
      let up = r.3 in
      subst (λ x. Contains gs x) (let e : g.0 ≡ f = omega (arith, down, up, same) in e) in_gs

  pub firsts_once : (fs gs : List ℕ) (number_of other : ℕ → ℕ) → IsNumbered fs number_of → IsNumbered gs other → fs ≡ gs
  firsts_once fs gs number_of other h k =
      same_from_elements (λ x. x) fs gs (AllPairs-from_increasing fs h.rising) (AllPairs-from_increasing gs k.rising)
      (first_of_other fs gs number_of other h k) (first_of_other gs fs other number_of k h)

  place_once : (fs : List ℕ) (number_of : ℕ → ℕ) → IsNumbered fs number_of → (i j f : ℕ) → slice_get fs i ≡ Some f → slice_get fs j ≡ Some f → i ≡ j
  place_once fs number_of h i j f is is' = elim (cases_order i j) [
    | inl same ↦ same
    | inr ne ↦ absurd (⊎_elim
        (λ below. let up = AllPairs-from_increasing fs h.rising i j 0 below (get_below fs j f is') in let a = value fs i f is in let b = value fs j f is' in omega (arith, up, a, b))
        (λ above. let up = AllPairs-from_increasing fs h.rising j i 0 above (get_below fs i f is) in let a = value fs i f is in let b = value fs j f is' in omega (arith, up, a, b))
        ne)
  ]
    where
      value : (xs : List ℕ) (k f : ℕ) → slice_get xs k ≡ Some f → get_or xs k 0 ≡ f
      value [] k f is = absurd (cc is)
      value (x ∷ xs) zero f is = (let e : x ≡ f = cc is in e)
      value (x ∷ xs) (suc k) f is = value xs k f is

  pub number_once : (fs gs : List ℕ) (number_of other : ℕ → ℕ) → IsNumbered fs number_of → IsNumbered gs other → (a : ℕ) → IsOne a → number_of a ≡ other a
  number_once fs gs number_of other h k a one =
      let r = h.found a one in
      let s = k.found a one in
      let same = firsts_once fs gs number_of other h k in
      let in_fs = get_contains fs (number_of a) r.0 r.1 in
      let s_in : slice_get fs (other a) ≡ Some s.0 = ap (λ xs. slice_get xs (other a)) same ∙ s.1 in
      let one_class : r.0 ≡ s.0 = one_first fs number_of h r.0 s.0 in_fs (get_contains fs (other a) s.0 s_in) (follow Step r.0 a s.0 r.2 (reversed Step s.0 a s.2)) in
      place_once fs number_of h (number_of a) (other a) r.0 r.1 (s_in ∙ ap Some (sym one_class))

-- ---- classes

none_below : (xs : List FlatName) (i : ℕ) → slice_get xs i ≡ None → length xs ≤ i
none_below [] i is = omega arith
none_below (x ∷ xs) zero is = absurd (cc is)
none_below (x ∷ xs) (suc i) is = let e = none_below xs i is in omega (arith, e)

member_or_not : (model : FlatModel) (a : ℕ) → IsMember model a ⊎ (IsMember model a → ⊥)
member_or_not model a = by_name (slice_get model.names a) refl
  where
    by_node : length model.names ≤ a → slice_get model.names a ≡ None → (a < numbered model (length (nodes_of model))) ⊎ (numbered model (length (nodes_of model)) ≤ a) → IsMember model a ⊎ (IsMember model a → ⊥)
    by_node behind none (inl below) = inl (inr (a - length model.names, (let e : a ≡ numbered model (a - length model.names) = omega (arith, behind) in e), (let lt : a - length model.names < length (nodes_of model) = omega (arith, behind, below) in lt)))
    by_node behind none (inr above) = inr (λ m. ⊎_elim
        (λ (name, named, own). let e : Some name ≡ None = sym named ∙ none in cc e)
        (λ (j, e, lt). omega (arith, e, lt, above))
        m)

    by_input : (name : FlatName) → slice_get model.names a ≡ Some name → (b : Bool) → name.input ≡ b → IsMember model a ⊎ (IsMember model a → ⊥)
    by_input name is false own = inl (inl (name, is, own))
    by_input name is true input = inr (λ m. ⊎_elim
        (λ (other, named, own). let same : name ≡ other = (let e : Some name ≡ Some other = sym is ∙ named in cc e) in let e : true ≡ false = sym input ∙ ap (λ n. n.input) same ∙ own in cc e)
        (λ (j, e, lt). let below = get_below model.names a name is in omega (arith, e, below))
        m)

    by_name : (o : Option FlatName) → slice_get model.names a ≡ o → IsMember model a ⊎ (IsMember model a → ⊥)
    by_name None is = by_node (none_below model.names a is) is (inside_or_past a (numbered model (length (nodes_of model))))
    by_name (Some name) is = by_input name is name.input refl

place_of_once : (model : FlatModel) (first : ℕ) (p q : Place) → IsPlaceOf model first p → IsPlaceOf model first q → p ≡ q
place_of_once model first p q (inl (n, named, e)) (inl (m, named', e')) =
    let same : n ≡ m = (let both : Some n ≡ Some m = sym named ∙ named' in cc both) in
    e ∙ ap (λ k. place.Name k.text) same ∙ sym e'
place_of_once model first p q (inl (n, named, e)) (inr (j, at, node, is, e')) = absurd (let lt = get_below model.names first n named in omega (arith, lt, at))
place_of_once model first p q (inr (j, at, node, is, e')) (inl (n, named, e)) = absurd (let lt = get_below model.names first n named in omega (arith, lt, at))
place_of_once model first p q (inr (j, at, node, is, e)) (inr (j', at', node', is', e')) =
    let index : j ≡ j' = omega (arith, at, at') in
    let both : Some node ≡ Some node' = sym is ∙ ap (λ k. slice_get (nodes_of model) k) index ∙ is' in
    let same : node ≡ node' = cc both in
    e ∙ ap (λ k. place.Equation k.equation) same ∙ sym e'

flags_same : (p q : Bool) → (p ≡ true → q ≡ true) → (q ≡ true → p ≡ true) → p ≡ q
flags_same true q there back = sym (there refl)
flags_same false true there back = back refl
flags_same false false there back = refl

get_some : {X : Type 0} (xs : List X) (i : ℕ) (d : X) → i < length xs → slice_get xs i ≡ Some (get_or xs i d)
get_some [] i d lt = absurd (omega (arith, lt))
get_some (x ∷ xs) zero d lt = refl
get_some (x ∷ xs) (suc i) d lt = get_some xs i d (omega (arith, lt))

module _ (model : FlatModel) (a b : Classes) (h : AreClassesOf model a) (k : AreClassesOf model b) where
  firsts_same : h.firsts ≡ k.firsts
  firsts_same = firsts_once (IsMember model) (IsJoined model) h.firsts k.firsts (class_in a) (class_in b) h.numbered_by k.numbered_by

  class_same : (x : ℕ) → class_in a x ≡ class_in b x
  class_same x = ⊎_elim
      (λ member. number_once (IsMember model) (IsJoined model) h.firsts k.firsts (class_in a) (class_in b) h.numbered_by k.numbered_by x member)
      (λ out. h.others x out ∙ sym (k.others x out))
      (member_or_not model x)

  class_of_same : a.class_of ≡ b.class_of
  class_of_same = ext_get_or 0 a.class_of b.class_of (h.lengths.class_of ∙ sym k.lengths.class_of) (λ i lt. class_same i)

  mark_same : (IsMarked : ℕ → Type 0) (x y : Classes) → ((n : ℕ) → class_in x n ≡ class_in y n) → (c : ℕ) → HasMark model IsMarked (class_in x) c → HasMark model IsMarked (class_in y) c
  mark_same IsMarked x y same c (n, member, marked, e) = (n, member, marked, sym (same n) ∙ e)

  clocked_same : a.clocked ≡ b.clocked
  clocked_same = ext_get_or false a.clocked b.clocked (h.lengths.clocked ∙ ap length firsts_same ∙ sym k.lengths.clocked)
      (λ c lt.
      let n = h.lengths.clocked in
      let size = ap length firsts_same in
      let in_a : c < length h.firsts = omega (arith, lt, n) in
      let in_b : c < length k.firsts = omega (arith, lt, n, size) in
      flags_same (is_clocked a c) (is_clocked b c)
      (λ e. (k.clocked c in_b).1 (mark_same (IsMarkedClocked model) a b class_same c ((h.clocked c in_a).0 e)))
      (λ e. (h.clocked c in_a).1 (mark_same (IsMarkedClocked model) b a (λ m. sym (class_same m)) c ((k.clocked c in_b).0 e))))

  abbrev IsBased : List ℕ → List Bool → Type 0
  IsBased class_of clocked = AreNumbered (λ c. slice_index_or clocked c false ≡ true) (Chain (AreConverted model (λ x. slice_index_or class_of x 0))) k.bases (partition_in b)

  based_same : IsBased a.class_of a.clocked
  based_same = subst (λ co. IsBased co a.clocked) (sym class_of_same) (subst (λ cl. IsBased b.class_of cl) (sym clocked_same) k.partitions)

  partition_at : (c : ℕ) → partition_in a c ≡ partition_in b c
  partition_at c = ⊎_elim
      (λ clocked. number_once (λ d. is_clocked a d ≡ true) (AreConverted model (class_in a)) h.bases k.bases (partition_in a) (partition_in b) h.partitions based_same c clocked)
      (λ out. h.unclocked c out ∙ sym (k.unclocked c (ap (λ cl. slice_index_or cl c false) (sym clocked_same) ∙ out)))
      (cases_Bool (is_clocked a c))

  partition_same : a.partition ≡ b.partition
  partition_same = ext_get_or 0 a.partition b.partition (h.lengths.partition ∙ ap length firsts_same ∙ sym k.lengths.partition) (λ c lt. partition_at c)

  places_same : a.places ≡ b.places
  places_same = ext_get_or place.Model a.places b.places (h.lengths.places ∙ ap length firsts_same ∙ sym k.lengths.places)
      (λ c lt.
      let n = h.lengths.places in
      let m = k.lengths.places in
      let size = ap length firsts_same in
      let in_a : c < length h.firsts = omega (arith, lt, n) in
      let first = get_or h.firsts c 0 in
      let is : slice_get h.firsts c ≡ Some first = get_some h.firsts c 0 in_a in
      place_of_once model first (get_or a.places c place.Model) (get_or b.places c place.Model)
      (h.places c first (get_or a.places c place.Model) is (get_some a.places c place.Model lt))
      (k.places c first (get_or b.places c place.Model) (ap (λ fs. slice_get fs c) (sym firsts_same) ∙ is) (get_some b.places c place.Model (omega (arith, lt, n, m, size)))))

  -- the classes of a model are one
  pub classes_once : a ≡ b
  classes_once =
      ap₂ (λ x y. record { class_of = x; clocked = y; partition = a.partition; places = a.places }) class_of_same clocked_same
      ∙ ap₂ (λ x y. record { class_of = b.class_of; clocked = b.clocked; partition = x; places = y }) partition_same places_same

least_once : (Is : ℕ → Type 0) (m n : ℕ) → IsLeast Is m → IsLeast Is n → m ≡ n
least_once Is m n h k = elim (cases_order m n) [
  | inl same ↦ same
  | inr ne ↦ absurd (⊎_elim (λ below. k.1 m below h.0) (λ above. h.1 n above k.0) ne)
]

-- apart from want of memory, a model has one answer
pub answer_once : (model : FlatModel) (r s : Result Classes ClassEnd) → Classifies model r → Classifies model s → r ≢ Err end.NoMemory → s ≢ Err end.NoMemory → r ≡ s
answer_once model (Ok a) (Ok b) h k _ _ = ap Ok (classes_once model a b h.are k.are)
answer_once model (Ok a) (Err (end.Mixed p)) h k _ _ =
    absurd (h.classes_apart k.class (subst (λ x. IsMixed model x k.class) (classes_once model k.classes a k.are h.are) k.least.0))
answer_once model (Ok a) (Err (end.BaseMixed e)) h k _ _ =
    absurd (h.bases_apart e (subst (λ x. IsBaseMixed model x e) (classes_once model k.classes a k.are h.are) k.least.0))
answer_once model (Err (end.Mixed p)) (Ok b) h k _ _ =
    absurd (k.classes_apart h.class (subst (λ x. IsMixed model x h.class) (classes_once model h.classes b h.are k.are) h.least.0))
answer_once model (Err (end.BaseMixed e)) (Ok b) h k _ _ =
    absurd (k.bases_apart e (subst (λ x. IsBaseMixed model x e) (classes_once model h.classes b h.are k.are) h.least.0))
answer_once model (Err (end.Mixed p)) (Err (end.Mixed q)) h k _ _ =
    let one = classes_once model h.classes k.classes h.are k.are in
    let class : h.class ≡ k.class = least_once (IsMixed model k.classes) h.class k.class (subst (λ x. IsLeast (IsMixed model x) h.class) one h.least) k.least in
    let both : Some p ≡ Some q = sym h.is_place ∙ ap₂ (λ x c. slice_get x.places c) one class ∙ k.is_place in
    let same : p ≡ q = cc both in
    ap (λ x. Err (end.Mixed x)) same
answer_once model (Err (end.Mixed p)) (Err (end.BaseMixed e)) h k _ _ =
    absurd (k.classes_apart h.class (subst (λ x. IsMixed model x h.class) (classes_once model h.classes k.classes h.are k.are) h.least.0))
answer_once model (Err (end.BaseMixed e)) (Err (end.Mixed p)) h k _ _ =
    absurd (h.classes_apart k.class (subst (λ x. IsMixed model x k.class) (classes_once model k.classes h.classes k.are h.are) k.least.0))
answer_once model (Err (end.BaseMixed d)) (Err (end.BaseMixed e)) h k _ _ =
    let one = classes_once model h.classes k.classes h.are k.are in
    let same : d ≡ e = least_once (IsBaseMixed model k.classes) d e (subst (λ x. IsLeast (IsBaseMixed model x) d) one h.least) k.least in
    ap (λ x. Err (end.BaseMixed x)) same
answer_once model (Err end.NoMemory) s h k some _ = absurd (some refl)
answer_once model r (Err end.NoMemory) h k _ some = absurd (some refl)
