-- Only one answer is right.
use Rattle.std.proofs.Common.{◌≡◌, ◌≢◌, refl, ap, ap₂, sym, ◌∙◌, subst, ℕ, Bool, List, [], ◌∷◌, ◌++◌, flat_map, length, Option, Some, Result, Ok, Err}
use Rattle.std.specs.List.{AllZip}
use Rattle.sync_values.specs.declared.value.Value.{Value}
use Rattle.mo_connect.specs.declared.Pair.{Pair}
use Rattle.mo_connect.proofs.Unique.{only_classes}
use Rattle.mo_parser.specs.declared.tree.ClassDef.{ClassDef}
use Rattle.flat_model.specs.declared.model.FlatName.{FlatName}
use Rattle.flat_model.specs.declared.model.NameKind.{NameKind}
use Rattle.flat_model.specs.declared.place.Place.{Place}
use Rattle.flat_model.specs.declared.raw.RawEq.{RawEq}
use Rattle.flat_model.specs.declared.raw.RawExpr.{RawExpr}
use Rattle.flat_model.specs.declared.raw.RawModel.{RawModel}
use Rattle.class_scopes.specs.declared.end.NameCode.{NameCode}
use Rattle.flat_instances.specs.Instances.{Variable}
use Rattle.parameter_values.specs.Values.{Values, start_from}
use Rattle.value_rules.proofs.Cycles.{same_values}
use Rattle.flat_expressions.specs.Equations.{groups, equations_from, clocks_of}
use Rattle.connection_equations.specs.Connections.{pairs}
use Rattle.connection_equations.specs.Sets.{AreEquations, equations_of_set}
use Rattle.flat_answer.specs.declared.end.FlattenEnd.{FlattenEnd}
use Rattle.flat_answer.specs.declared.end.FlattenEnd.TheVariants.{Fault, NoMemory}
use Rattle.flat_answer.specs.Answers.{Answers, OneAnswerLaw, told}
use Rattle.flat_answer.specs.Flat.{IsNameOf, IsFlat, start_of}
use Rattle.flat_answer.specs.Inputs.{is_model_input}
use Rattle.flat_answer.specs.Model.{items_of, variables_of, named, number_in}
use Rattle.flat_answer.proofs.Ranks.{one_code, one_place}

one_list : {A B : Type 0} (R : A → B → Type 0) → ((x : A) (y z : B) → R x y → R x z → y ≡ z) → (xs : List A) (ys zs : List B) → AllZip R xs ys → AllZip R xs zs → ys ≡ zs
one_list R same [] [] [] a b = refl
one_list R same [] [] (z ∷ zs) a b = absurd b
one_list R same [] (y ∷ ys) zs a b = absurd a
one_list R same (x ∷ xs) [] zs a b = absurd a
one_list R same (x ∷ xs) (y ∷ ys) [] a b = absurd b
one_list R same (x ∷ xs) (y ∷ ys) (z ∷ zs) a b = ap₂ (λ h t. h ∷ t) (same x y z a.0 b.0) (one_list R same xs ys zs a.1 b.1)

-- the equations of connection sets are determined by the pairs
one_set : (count : ℕ) (joined : List Pair) (m n : List RawEq) → AreEquations count joined m → AreEquations count joined n → m ≡ n
one_set count joined m n a b =
    a.are ∙ ap (flat_map equations_of_set) (sym (only_classes count joined a.sets b.sets a.classes b.classes)) ∙ sym b.are

abbrev name_with : List ℕ → NameKind → Bool → Value → FlatName
name_with text kind input start = record { text = text; kind = kind; input = input; start = start }

abbrev model_with : List FlatName → List RawEq → List RawExpr → RawModel
model_with names equations clauses = record { names = names; equations = equations; clauses = clauses }

module _ (text : List ℕ) (classes : List ClassDef) (chosen : Option ℕ) where
  one_name : (values : Values) (v : Variable) (m n : FlatName) → IsNameOf text classes chosen values v m → IsNameOf text classes chosen values v n → m ≡ n
  one_name values v m n a b =
      let kinds : m.kind ≡ n.kind = cc (a.kind_is, b.kind_is) in
      let texts : m.text ≡ n.text = a.text_is ∙ sym b.text_is in
      let inputs : m.input ≡ n.input = a.input_is ∙ ap (is_model_input text classes chosen v) kinds ∙ sym b.input_is in
      let both : Some m.start ≡ Some n.start = sym a.start_is ∙ ap (λ k. start_of k (start_from text classes values v)) kinds ∙ b.start_is in
      let starts : m.start ≡ n.start = cc both in
      ap (λ t. name_with t m.kind m.input m.start) texts ∙ ap (λ k. name_with n.text k m.input m.start) kinds
      ∙ ap (λ i. name_with n.text n.kind i m.start) inputs ∙ ap (λ s. name_with n.text n.kind n.input s) starts

  one_model : (m n : RawModel) → IsFlat text classes chosen m → IsFlat text classes chosen n → m ≡ n
  one_model m n a b =
      let values : b.values ≡ a.values = same_values text classes (variables_of text classes chosen) b.values a.values b.given a.given in
      let names : m.names ≡ n.names = one_list (IsNameOf text classes chosen a.values) (one_name a.values) (named text classes chosen) m.names n.names a.names
      (subst (λ v. AllZip (IsNameOf text classes chosen v) (named text classes chosen) n.names) values b.names) in
      let sets : a.connections ≡ b.connections = one_set (length (named text classes chosen)) (pairs text classes (number_in (named text classes chosen)) (items_of text classes chosen))
      a.connections b.connections a.connected b.connected in
      let equations : m.equations ≡ n.equations = a.equations ∙ ap₂ (λ v r. equations_from 0 (groups text v (number_in (named text classes chosen)) classes (items_of text classes chosen)) ++ r) (sym values) sets
      ∙ sym b.equations in
      let clauses : m.clauses ≡ n.clauses = a.clauses ∙ ap (λ v. clocks_of (groups text v (number_in (named text classes chosen)) classes (items_of text classes chosen))) (sym values) ∙ sym b.clauses in
      ap (λ x. model_with x m.equations m.clauses) names ∙ ap (λ x. model_with n.names x m.clauses) equations ∙ ap (λ x. model_with n.names n.equations x) clauses

  one_fault : (c d : NameCode) (p q : Place) → Answers text classes chosen (Err (Fault c p)) → Answers text classes chosen (Err (Fault d q)) → (c ≡ d) × (p ≡ q)
  one_fault c d p q (at, first, place) (other, second, there) =
      let codes : c ≡ d = one_code text classes chosen c d at other first second in
      let places : at ≡ other = one_place text classes chosen c d at other first second in
      (codes, place ∙ ap₂ (told text classes chosen) codes places ∙ sym there)

pub one_answer : OneAnswerLaw
one_answer text classes chosen (Ok m) (Ok n) a b memory enough = ap Ok (one_model text classes chosen m n a.1 b.1)
one_answer text classes chosen (Ok m) (Err (Fault c p)) a (at, first, place) memory enough = absurd (a.0 c at first.first.broken)
one_answer text classes chosen (Err (Fault c p)) (Ok n) (at, first, place) b memory enough = absurd (b.0 c at first.first.broken)
one_answer text classes chosen (Err (Fault c p)) (Err (Fault d q)) a b memory enough =
    let same = one_fault text classes chosen c d p q a b in
    ap₂ (λ x y. Err (Fault x y)) same.0 same.1
one_answer text classes chosen (Err NoMemory) b a right memory enough = absurd (memory refl)
one_answer text classes chosen (Ok m) (Err NoMemory) a b memory enough = absurd (enough refl)
one_answer text classes chosen (Err (Fault c p)) (Err NoMemory) a b memory enough = absurd (enough refl)
