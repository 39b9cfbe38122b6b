-- What the numbers, marks and pairs of terms make are the classes and base partitions of the model.
use Rattle.std.proofs.Common.{◌≡◌, refl, ap, subst, sym, ◌∙◌, ℕ, zero, suc, ◌+◌, ◌<◌, ◌⊎◌, ◌↔◌, inl, inr, ⊎_elim, Bool, true, false, not, if◌then◌else◌, List, [], ◌∷◌, length, replicate, slice_index_or, slice_get, Some, get_or, Contains, All, arith}
use Rattle.std.proofs.lemmas.Bool.{not-true, cases_Bool}
use Rattle.std.proofs.lemmas.List.{length-replicate}
use Rattle.std.proofs.lemmas.List.Elements.{Contains-get_or}
use Rattle.flat_model.specs.declared.model.FlatModel.{FlatModel}
use Rattle.flat_model.specs.declared.model.FlatName.{FlatName}
use Rattle.flat_model.specs.declared.place.Place.{Place}
use Rattle.mo_connect.specs.declared.Pair.{Pair}
use Rattle.mo_connect.specs.Chain.{Chain, AreJoined, AreBelow, IsPair, stay, forward, backward}
use Rattle.mo_connect.proofs.Chains.{refined}
use Rattle.clock_terms.specs.declared.data.Terms.{Terms}
use Rattle.clock_terms.specs.Mentions.{Mention, Stands, Ticks, Samples, Holds, Converts, Gives}
use Rattle.clock_terms.specs.Nodes.{Node, nodes_of}
use Rattle.clock_terms.specs.Said.{IsNode, numbered, IsJoined, AreOfOneClass, NeedsClock, TakesLast, IsMarkedClocked, IsConversionOf, AreTermsOf}
use Rattle.clock_terms.specs.Classing.{IsMember, AreNumbered, AreConverted, HasMark, AreClassesOf}
use Rattle.clock_terms.proofs.Joining.{in_one, in_none, here, from_flat, to_flat}
use Rattle.clock_terms.proofs.Marking.{get_below}
use Rattle.base_partition.specs.private.Members.{members_of}
use Rattle.base_partition.specs.private.Numbered.{is_member, AreClassNumbers, AreTogether}
use Rattle.base_partition.specs.private.Marks.{HasMarks, HasClasses}
use Rattle.base_partition.specs.private.Pairs.{class_pair, class_pairs}
use Rattle.base_partition.specs.private.Placed.{ArePlaces}
use Rattle.base_partition.proofs.FirstPlaces.{count_map}

-- ---- members

in_trues : (n a : ℕ) → slice_index_or (replicate n true) a false ≡ true → a < n
in_trues zero zero h = absurd (cc h)
in_trues zero (suc a) h = absurd (cc h)
in_trues (suc n) zero h = omega arith
in_trues (suc n) (suc a) h = let lt = in_trues n a h in omega (arith, lt)

trues_in : (n a : ℕ) → a < n → slice_index_or (replicate n true) a false ≡ true
trues_in zero a lt = absurd (omega (arith, lt))
trues_in (suc n) zero lt = refl
trues_in (suc n) (suc a) lt = trues_in n a (omega (arith, lt))

abbrev IsOwnOrNode : List FlatName → ℕ → ℕ → Type 0
IsOwnOrNode names n a = ((name : FlatName) × (slice_get names a ≡ Some name) × (name.input ≡ false)) ⊎ ((j : ℕ) × (a ≡ length names + j) × (j < n))

own_or_node : (names : List FlatName) (n a : ℕ) → slice_index_or (members_of names n) a false ≡ true → IsOwnOrNode names n a
own_or_node [] n a h = inr (a, (let e : a ≡ 0 + a = omega arith in e), in_trues n a h)
own_or_node (name ∷ names) n zero h = inl (name, refl, not-true name.input h)
own_or_node (name ∷ names) n (suc a) h = ⊎_elim (λ own. inl own) (λ (j, e, lt). inr (j, (let s : suc a ≡ suc (length names) + j = omega (arith, e) in s), lt)) (own_or_node names n a h)

own_set : (names : List FlatName) (n a : ℕ) (name : FlatName) → slice_get names a ≡ Some name → name.input ≡ false → slice_index_or (members_of names n) a false ≡ true
own_set [] n a name is own = absurd (cc is)
own_set (first ∷ names) n zero name is own = let same : first ≡ name = cc is in ap (λ k. not k.input) same ∙ ap not own
own_set (first ∷ names) n (suc a) name is own = own_set names n a name is own

node_set : (names : List FlatName) (n j : ℕ) → j < n → slice_index_or (members_of names n) (length names + j) false ≡ true
node_set [] n j lt = subst (λ k. slice_index_or (replicate n true) k false ≡ true) (let e : j ≡ 0 + j = omega arith in e) (trues_in n j lt)
node_set (name ∷ names) n j lt = subst (λ k. slice_index_or (members_of (name ∷ names) n) k false ≡ true) (let e : suc (length names + j) ≡ suc (length names) + j = omega arith in e) (node_set names n j lt)

count_trues : (n : ℕ) → length (replicate n true) ≡ n
count_trues n = length-replicate n true

count_of : (names : List FlatName) (n : ℕ) → length (members_of names n) ≡ length names + n
count_of [] n = count_trues n ∙ (let e : n ≡ 0 + n = omega arith in e)
count_of (name ∷ names) n = let e = count_of names n in omega (arith, e)

-- ---- conversions

abbrev pair_of : ℕ → ℕ → Pair
pair_of c d = record { a = c; b = d }

needs_clock : (m : Mention) (x : ℕ) → IsConversionOf x m → NeedsClock m
needs_clock (Stands y) x h = absurd h
needs_clock Ticks x h = absurd h
needs_clock Samples x h = absurd h
needs_clock (Holds y) x h = absurd h
needs_clock (Converts by y) x h = tt
needs_clock (Gives clock) x h = absurd h

takes_last : (m : Mention) (x : ℕ) → IsConversionOf x m → TakesLast x m
takes_last (Stands y) x h = absurd h
takes_last Ticks x h = absurd h
takes_last Samples x h = absurd h
takes_last (Holds y) x h = absurd h
takes_last (Converts by y) x h = h
takes_last (Gives clock) x h = absurd h

renumbered : (IsOne IsOther : ℕ → Type 0) (Joined Linked : ℕ → ℕ → Type 0) (firsts : List ℕ) (number_of : ℕ → ℕ)
    → ((a : ℕ) → IsOne a → IsOther a) → ((a : ℕ) → IsOther a → IsOne a) → ((a b : ℕ) → Joined a b → Linked a b) → ((a b : ℕ) → Linked a b → Joined a b)
    → AreNumbered IsOne Joined firsts number_of → AreNumbered IsOther Linked firsts number_of
renumbered IsOne IsOther Joined Linked firsts number_of to from forth back h = record {
  rising = h.rising;
  members = λ k d within. to (get_or firsts k d) (h.members k d within);
  found = λ a one. let r = h.found a (from a one) in (r.0, r.1, forth r.0 a r.2, r.3);
  apart = λ i j d lt within linked. h.apart i j d lt within (back (get_or firsts i d) (get_or firsts j d) linked);
}

module _ (model : FlatModel) (terms : Terms) (t : AreTermsOf model terms) (members : List Bool) (is : members ≡ members_of model.names (length terms.nodes)) where
  nodes_count : length terms.nodes ≡ length (nodes_of model)
  nodes_count = ap length t.nodes ∙ count_map (nodes_of model)

  pub member_of : (a : ℕ) → is_member members a ≡ true → IsMember model a
  member_of a h = ⊎_elim (λ own. inl own) (λ (j, e, lt). inr (j, e, (let n = nodes_count in omega (arith, lt, n))))
      (own_or_node model.names (length terms.nodes) a (subst (λ ms. is_member ms a ≡ true) is h))

  pub of_member : (a : ℕ) → IsMember model a → is_member members a ≡ true
  of_member a (inl (name, named, own)) = subst (λ ms. is_member ms a ≡ true) (sym is) (own_set model.names (length terms.nodes) a name named own)
  of_member a (inr (j, e, lt)) = subst (λ ms. is_member ms a ≡ true) (sym is)
      (subst (λ b. is_member (members_of model.names (length terms.nodes)) b ≡ true) (sym e) (node_set model.names (length terms.nodes) j (let n = nodes_count in omega (arith, lt, n))))

  member_below : (a : ℕ) → IsMember model a → a < length model.names + length terms.nodes
  member_below a (inl (name, named, own)) = let lt = get_below model.names a name named in omega (arith, lt)
  member_below a (inr (j, e, lt)) = let n = nodes_count in omega (arith, e, lt, n)

  node_member : (a j : ℕ) (node : Node) → a ≡ numbered model j → IsNode model j node → IsMember model a
  node_member a j node e found = inr (j, e, get_below (nodes_of model) j node found)

  step_members : (a b : ℕ) → IsJoined model a b → IsMember model a × IsMember model b
  step_members a b (inl (j, e, s)) = (inl (s.name, s.is_named, s.own), node_member b j s.node e s.is_node)
  step_members a b (inr (i, j, ea, eb, s)) = (node_member a i s.first ea s.is_first, node_member b j s.second eb s.is_second)

  same_step : (a b : ℕ) → IsJoined model a b → is_member members a ≡ is_member members b
  same_step a b s = let both = step_members a b s in of_member a both.0 ∙ sym (of_member b both.1)

  same_chain : (a b : ℕ) → AreOfOneClass model a b → is_member members a ≡ is_member members b
  same_chain a b (stay x) = refl
  same_chain a b (forward u v w step more) = same_step u v step ∙ same_chain v w more
  same_chain a b (backward u v w step more) = sym (same_step v u step) ∙ same_chain v w more

  pub joins_together : AreTogether terms.joins members
  joins_together a b j = same_chain a b ((t.joins a b).0 j)

  pub members_count : length members ≡ length model.names + length terms.nodes
  members_count = ap length is ∙ count_of model.names (length terms.nodes)

  module _ (firsts class_of : List ℕ) (numbers : AreClassNumbers terms.joins members firsts class_of) where
    abbrev class : ℕ → ℕ
    class a = slice_index_or class_of a 0

    pub has_classes : HasClasses members class_of (length firsts)
    has_classes a h = let r = numbers.numbered.found a h in get_below firsts (class a) r.0 r.1

    pub firsts_within : All (λ first. first < length model.names + length terms.nodes) firsts
    firsts_within k d within = member_below (get_or firsts k d) (member_of (get_or firsts k d) (numbers.numbered.members k d within))

    pub own_numbers : AreNumbered (IsMember model) (AreOfOneClass model) firsts class
    own_numbers = renumbered (λ a. is_member members a ≡ true) (IsMember model) (AreJoined terms.joins) (AreOfOneClass model) firsts class member_of of_member (λ a b. (t.joins a b).0) (λ a b. (t.joins a b).1) numbers.numbered

    pub other_class : (a : ℕ) → (IsMember model a → ⊥) → class a ≡ 0
    other_class a out = ⊎_elim (λ h. absurd (out (member_of a h))) (λ h. numbers.others a h) (cases_Bool (is_member members a))

    -- the marks of the list are those of the model
    pub marks_are : (IsMarked : ℕ → Type 0) (list : List ℕ) (count : ℕ) (marks : List Bool) → ((a : ℕ) → Contains list a ↔ IsMarked a) → HasMarks members class_of list count marks
        → (c : ℕ) → (slice_index_or marks c false ≡ true) ↔ HasMark model IsMarked class c
    marks_are IsMarked list count marks listed h c = (
      (λ e. let one = (h.marked c).0 e in (one.0, member_of one.0 one.2, (listed one.0).0 one.1, one.3)),
      (λ (a, member, marked, e). (h.marked c).1 (a, (listed a).1 marked, of_member a member, e)),
    )

    -- ---- base partitions

    pair_converted : (c d : ℕ) → IsPair (class_pairs members class_of terms.conversions) c d → AreConverted model class c d
    pair_converted c d h =
        let r = from_flat (class_pair members class_of) terms.conversions (pair_of c d) h in
        by_member r.0 (is_member members r.0.b) refl r.1 r.2
      where
        by_member : (pair : Pair) (b : Bool) → is_member members pair.b ≡ b → Contains terms.conversions pair
            → Contains (if b then pair_of (class pair.a) (class pair.b) ∷ [] else []) (pair_of c d) → AreConverted model class c d
        by_member pair true own listed inside =
            let e = in_one (pair_of (class pair.a) (class pair.b)) (pair_of c d) inside in
            record { node = pair.a; name = pair.b; converted = (t.conversions pair.a pair.b).0 listed; own = member_of pair.b own; result = ap (λ p. p.a) e; argument = ap (λ p. p.b) e }
        by_member pair false own listed inside = absurd (in_none (pair_of c d) inside)

    converted_pair : (c d : ℕ) → AreConverted model class c d → IsPair (class_pairs members class_of terms.conversions) c d
    converted_pair c d h =
        let inside : Contains (class_pair members class_of (pair_of h.node h.name)) (pair_of c d) =
        subst (λ b. Contains (if b then pair_of (class h.node) (class h.name) ∷ [] else []) (pair_of c d)) (sym (of_member h.name h.own))
        (subst (λ e. Contains (pair_of (class h.node) (class h.name) ∷ []) (pair_of e d)) h.result
        (subst (λ e. Contains (pair_of (class h.node) (class h.name) ∷ []) (pair_of (class h.node) e)) h.argument (here (pair_of (class h.node) (class h.name)) []))) in
        to_flat (class_pair members class_of) terms.conversions (pair_of h.node h.name) (pair_of c d) ((t.conversions h.node h.name).1 h.converted) inside

    node_of : (c d : ℕ) (h : AreConverted model class c d) → IsMember model h.node
    node_of c d h = let k = h.converted in node_member h.node k.0 k.2.0 k.1 k.2.1

    result_marked : (c d : ℕ) → AreConverted model class c d → HasMark model (IsMarkedClocked model) class c
    result_marked c d h =
        let k = h.converted in
        let m = k.2.2 in
        (h.node, node_of c d h, inr (inr (inl (k.0, k.1, (k.2.0, k.2.1, (m.0, m.1, needs_clock m.0 h.name m.2))))), h.result)

    argument_marked : (c d : ℕ) → AreConverted model class c d → HasMark model (IsMarkedClocked model) class d
    argument_marked c d h =
        let k = h.converted in
        let m = k.2.2 in
        (h.name, h.own, inr (inr (inr (k.0, (k.2.0, k.2.1, (m.0, m.1, takes_last m.0 h.name m.2))))), h.argument)

    mark_below : (IsMarked : ℕ → Type 0) (c : ℕ) → HasMark model IsMarked class c → c < length firsts
    mark_below IsMarked c (a, member, marked, e) = let lt = has_classes a (of_member a member) in omega (arith, lt, e)

    pub pairs_below : AreBelow (length firsts) (class_pairs members class_of terms.conversions)
    pairs_below k d within =
        let pair = slice_index_or (class_pairs members class_of terms.conversions) k d in
        let h = pair_converted pair.a pair.b (Contains-get_or (class_pairs members class_of terms.conversions) k d within) in
        (mark_below (IsMarkedClocked model) pair.a (result_marked pair.a pair.b h), mark_below (IsMarkedClocked model) pair.b (argument_marked pair.a pair.b h))

    module _ (clocked : List Bool) (marks : HasMarks members class_of terms.clocked (length firsts) clocked) where
      pub clocked_are : (c : ℕ) → (slice_index_or clocked c false ≡ true) ↔ HasMark model (IsMarkedClocked model) class c
      clocked_are = marks_are (IsMarkedClocked model) terms.clocked (length firsts) clocked t.clocked marks

      same_pair : (c d : ℕ) → IsPair (class_pairs members class_of terms.conversions) c d → is_member clocked c ≡ is_member clocked d
      same_pair c d p = let h = pair_converted c d p in (clocked_are c).1 (result_marked c d h) ∙ sym ((clocked_are d).1 (argument_marked c d h))

      pub pairs_together : AreTogether (class_pairs members class_of terms.conversions) clocked
      pairs_together a b (stay x) = refl
      pairs_together a b (forward u v w step more) = same_pair u v step ∙ pairs_together v w more
      pairs_together a b (backward u v w step more) = sym (same_pair v u step) ∙ pairs_together v w more

      module _ (bases partition : List ℕ) (based : AreClassNumbers (class_pairs members class_of terms.conversions) clocked bases partition) where
        linked : (c d : ℕ) → AreJoined (class_pairs members class_of terms.conversions) c d → Chain (AreConverted model class) c d
        linked c d = refined (IsPair (class_pairs members class_of terms.conversions)) (AreConverted model class) (λ x y p. forward x y y (pair_converted x y p) (stay y)) c d

        unlinked : (c d : ℕ) → Chain (AreConverted model class) c d → AreJoined (class_pairs members class_of terms.conversions) c d
        unlinked c d = refined (AreConverted model class) (IsPair (class_pairs members class_of terms.conversions)) (λ x y h. forward x y y (converted_pair x y h) (stay y)) c d

        pub partition_below : (c : ℕ) → is_member clocked c ≡ true → slice_index_or partition c 0 < length bases
        partition_below c h = let r = based.numbered.found c h in get_below bases (slice_index_or partition c 0) r.0 r.1

        pub classes_are : (places : List Place) → length members ≡ length model.names + length terms.nodes → ArePlaces model firsts places
            → AreClassesOf model (record { class_of = class_of; clocked = clocked; partition = partition; places = places })
        classes_are places sum placed = record {
          firsts = firsts;
          lengths = record {
            class_of = (let e = numbers.count in let n = nodes_count in omega (arith, e, sum, n));
            clocked = marks.count_is;
            partition = based.count ∙ marks.count_is;
            places = placed.count;
          };
          numbered_by = own_numbers;
          others = other_class;
          places = placed.each;
          clocked = λ c within. clocked_are c;
          bases = bases;
          partitions = renumbered (λ c. is_member clocked c ≡ true) (λ c. slice_index_or clocked c false ≡ true) (AreJoined (class_pairs members class_of terms.conversions)) (Chain (AreConverted model class)) bases (λ c. slice_index_or partition c 0)
              (λ c h. h) (λ c h. h) linked unlinked based.numbered;
          unclocked = based.others;
        }
