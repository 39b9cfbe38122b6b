-- How clocks spread over relations, round by round: only from the classes that took theirs in the round before, and only over the relations that touch a class.
use Rattle.std.proofs.Common.{◌≡◌, ◌∙◌, refl, sym, ap, subst, ℕ, zero, suc, ◌+◌, ◌<◌, ◌==◌, ◌⊎◌, inl, inr, ⊎_elim, Bool, true, false, ◌&&◌, ◌||◌, if◌then◌else◌, List, [], ◌∷◌, Option, Some, None, option_map, filter, arith, Contains, length, get_or, drop, take, ◌++◌}
use Rattle.std.proofs.Math.Path.{fun_ext}
use Rattle.std.proofs.lemmas.Bool.{eqb-true, eq-eqb}
use Rattle.clock_terms.specs.declared.data.Relation.{Relation}
use Rattle.std.proofs.lemmas.List.{drop_more, take_more as take_more_of}
use Rattle.std.proofs.lemmas.List.Elements.{filter-append}
use Rattle.flat_model.specs.declared.clock.Conversion.{Conversion}
use Rattle.clock_terms.specs.declared.data.Grid.{Grid}
use Rattle.clock_terms.specs.Position.{Progression, AreSame, progression_of_grid}
use Rattle.clock_terms.proofs.Progressions.{same_trans}
use Rattle.clock_terms.proofs.Conversions.{converted_same, converted_proper}
use Rattle.clock_spread.specs.declared.offers.Found.{Found}
use Rattle.clock_spread.specs.declared.offers.Found.TheVariants.{Not, Kept, Lost}
use Rattle.clock_spread.specs.Found.{Agrees, touches}
use Rattle.clock_spread.proofs.Limits.{grid_proper}
use Rattle.clock_terms.specs.Asked.{converted, inverse, IsGiven}
use Rattle.clock_terms.specs.Clocking.{Said, Held}
use Rattle.clock_spread.specs.Rounds.{is_given, first_some, offer, offered, if_clocked, after_round, Gets}

by_test : {P : Type 0} (b : Bool) → (b ≡ true → P) → (b ≡ false → P) → P
by_test true f g = f refl
by_test false f g = g refl

none_some : {A : Type 0} {a : A} → None ≡ Some a → ⊥
none_some e = absurd cc

contains_cases : {X : Type 0} (y x : X) (xs : List X) → Contains (y ∷ xs) x → (y ≡ x) ⊎ Contains xs x
contains_cases y x xs (zero, within, is) = inl is
contains_cases y x xs (suc k, within, is) = inr (k, omega (arith, within), is)

contains_first : {X : Type 0} (y : X) (xs : List X) → Contains (y ∷ xs) y
contains_first y xs = (0, omega arith, refl)

contains_later : {X : Type 0} (y x : X) (xs : List X) → Contains xs x → Contains (y ∷ xs) x
contains_later y x xs (k, within, is) = (suc k, omega (arith, within), is)

-- a given relation has these two classes at its ends
pub record IsBetween (class_of : ℕ → ℕ) (r : Relation) (c d : ℕ) : Type 0 where
  pub given : is_given r.by ≡ true
  pub ends : ((class_of r.result ≡ c) × (class_of r.argument ≡ d)) ⊎ ((class_of r.argument ≡ c) × (class_of r.result ≡ d))

both_true : (a b : Bool) → (a && b) ≡ true → (a ≡ true) × (b ≡ true)
both_true true b e = (refl, e)
both_true false b e = absurd cc

mapped_some : {A B : Type 0} (f : A → B) (o : Option A) (p : B) → option_map f o ≡ Some p → (a : A) × (o ≡ Some a)
mapped_some f None p e = absurd (none_some e)
mapped_some f (Some a) p e = (a, refl)

-- the two tests of an offer
abbrev here : (ℕ → ℕ) → Relation → ℕ → Bool
here class_of r c = is_given r.by && class_of r.result == c

abbrev there : (ℕ → ℕ) → Relation → ℕ → Bool
there class_of r c = is_given r.by && class_of r.argument == c

abbrev forward : (ℕ → ℕ) → Held → Relation → Option Progression
forward class_of held r = option_map (converted r.by) (held (class_of r.argument))

abbrev back : (ℕ → ℕ) → Held → Relation → Option Progression
back class_of held r = option_map (converted (inverse r.by)) (held (class_of r.result))

-- an offer comes from the other end
offer_from : (class_of : ℕ → ℕ) (held : Held) (r : Relation) (c : ℕ) (p : Progression) → offer class_of held r c ≡ Some p
    → (d : ℕ) × IsBetween class_of r c d × ((x : Progression) × (held d ≡ Some x))
offer_from class_of held r c p e = by_test (here class_of r c)
    (λ t.
    let two = both_true (is_given r.by) (class_of r.result == c) t in
    let m = mapped_some (converted r.by) (held (class_of r.argument)) p (subst (λ b. (if b then forward class_of held r else if there class_of r c then back class_of held r else None) ≡ Some p) t e) in
    (class_of r.argument, record { given = two.0; ends = inl (eqb-true (class_of r.result) c two.1, refl) }, m))
    (λ f.
    let rest : (if there class_of r c then back class_of held r else None) ≡ Some p = subst (λ b. (if b then forward class_of held r else if there class_of r c then back class_of held r else None) ≡ Some p) f e in
    by_test (there class_of r c)
    (λ t.
    let two = both_true (is_given r.by) (class_of r.argument == c) t in
    let m = mapped_some (converted (inverse r.by)) (held (class_of r.result)) p (subst (λ b. (if b then back class_of held r else None) ≡ Some p) t rest) in
    (class_of r.result, record { given = two.0; ends = inr (eqb-true (class_of r.argument) c two.1, refl) }, m))
    (λ g. absurd (none_some (subst (λ b. (if b then back class_of held r else None) ≡ Some p) g rest))))

first_some_is : {A : Type 0} (a b : Option A) (p : A) → first_some a b ≡ Some p → (a ≡ Some p) ⊎ (b ≡ Some p)
first_some_is None b p e = inr e
first_some_is (Some a) b p e = inl e

pub offered_from : (class_of : ℕ → ℕ) (held : Held) (rs : List Relation) (c : ℕ) (p : Progression) → offered class_of held rs c ≡ Some p
    → (r : Relation) × Contains rs r × ((d : ℕ) × IsBetween class_of r c d × ((x : Progression) × (held d ≡ Some x)))
offered_from class_of held [] c p e = absurd (none_some e)
offered_from class_of held (r ∷ rs) c p e = elim (first_some_is (offer class_of held r c) (offered class_of held rs c) p e) [
  | inl this ↦ (r, contains_first r rs, offer_from class_of held r c p this)
  | inr later ↦ let (s, within, from) = offered_from class_of held rs c p later in (s, contains_later r s rs within, from)
]

-- and the other end makes one, where the class itself has no clock
is_true : (a b : Bool) → a ≡ true → b ≡ true → (a && b) ≡ true
is_true true b e f = f
is_true false b e f = absurd cc

mapped_is : {A B : Type 0} (f : A → B) (o : Option A) (a : A) → o ≡ Some a → option_map f o ≡ Some (f a)
mapped_is f None a e = absurd (none_some e)
mapped_is f (Some b) a e = cc

offer_some : (class_of : ℕ → ℕ) (held : Held) (r : Relation) (c d : ℕ) (x : Progression) → IsBetween class_of r c d → held d ≡ Some x → held c ≡ None
    → (p : Progression) × (offer class_of held r c ≡ Some p)
offer_some class_of held r c d x between has none = by_test (here class_of r c)
    (λ t. ⊎_elim
    (λ e.
    let m = mapped_is (converted r.by) (held (class_of r.argument)) x (ap held e.1 ∙ has) in
    (converted r.by x, rw t m))
    (λ e.
    let same : c ≡ d = sym (eqb-true (class_of r.result) c (both_true (is_given r.by) (class_of r.result == c) t).1) ∙ e.1 in
    absurd (none_some (sym none ∙ ap held same ∙ has)))
    between.ends)
    (λ f. ⊎_elim
    (λ e. absurd (clash (sym f ∙ is_true (is_given r.by) (class_of r.result == c) between.given (eq-eqb (class_of r.result) c e.0))))
    (λ e.
    let t : there class_of r c ≡ true = is_true (is_given r.by) (class_of r.argument == c) between.given (eq-eqb (class_of r.argument) c e.0) in
    let m = mapped_is (converted (inverse r.by)) (held (class_of r.result)) x (ap held e.1 ∙ has) in
    (converted (inverse r.by) x, rw (f, t) m))
    between.ends)
  where
    clash : false ≡ true → ⊥
    clash e = absurd cc

first_is : {A : Type 0} (a b : Option A) (p : A) → b ≡ Some p → (q : A) × (first_some a b ≡ Some q)
first_is None b p e = (p, e)
first_is (Some a) b p e = (a, refl)

pub offered_some : (class_of : ℕ → ℕ) (held : Held) (rs : List Relation) (r : Relation) (c d : ℕ) (x : Progression) → Contains rs r → IsBetween class_of r c d → held d ≡ Some x → held c ≡ None
    → (p : Progression) × (offered class_of held rs c ≡ Some p)
offered_some class_of held [] r c d x within between has none = absurd (omega (arith, within.1))
offered_some class_of held (s ∷ rs) r c d x within between has none = elim (contains_cases s r rs within) [
  | inl e ↦ let o = offer_some class_of held r c d x between has none in (o.0, first_of_some (offer class_of held s c) (offered class_of held rs c) o.0 (subst (λ z. offer class_of held z c ≡ Some o.0) (sym e) o.1))
  | inr w ↦ let o = offered_some class_of held rs r c d x w between has none in first_is (offer class_of held s c) (offered class_of held rs c) o.0 o.1
]
  where
    first_of_some : (a b : Option Progression) (p : Progression) → a ≡ Some p → first_some a b ≡ Some p
    first_of_some None b p e = absurd (none_some e)
    first_of_some (Some a) b p e = e

-- the clocks of one round from those of the round before
abbrev pub next : Said → Held → Held
next said held c = first_some (held c) (if_clocked (said.clocked c) (offered said.class_of held said.relations c))

-- a round that changes nothing is the last
pub settled : (said : Said) (round : ℕ) → ((c : ℕ) → after_round said (suc round) c ≡ after_round said round c) → (more c : ℕ) → after_round said (more + round) c ≡ after_round said round c
settled said round still zero c = ap (λ n. after_round said n c) (let e : 0 + round ≡ round = omega arith in e)
settled said round still (suc more) c =
    let same : after_round said (more + round) ≡ after_round said round = fun_ext (settled said round still more) in
    ap (λ n. after_round said n c) (let e : suc more + round ≡ suc (more + round) = omega arith in e)
    ∙ ap (λ held. next said held c) same ∙ still c

if_clocked_is : (b : Bool) (o : Option Progression) (p : Progression) → if_clocked b o ≡ Some p → (b ≡ true) × (o ≡ Some p)
if_clocked_is true o p e = (refl, e)
if_clocked_is false o p e = absurd (none_some e)

-- a class that takes a clock in a round takes it over a relation to a class that took its own in the round before
pub takes_from_last : (said : Said) (round c : ℕ) (p : Progression) → after_round said (suc round) c ≡ None → after_round said (suc (suc round)) c ≡ Some p
    → (r : Relation) × Contains said.relations r × ((d : ℕ) × IsBetween said.class_of r c d × (after_round said round d ≡ None) × ((x : Progression) × (after_round said (suc round) d ≡ Some x)))
takes_from_last said round c p none takes =
    let new : (said.clocked c ≡ true) × (offered said.class_of (after_round said (suc round)) said.relations c ≡ Some p) =
    if_clocked_is (said.clocked c) (offered said.class_of (after_round said (suc round)) said.relations c) p
    (subst (λ o. first_some o (if_clocked (said.clocked c) (offered said.class_of (after_round said (suc round)) said.relations c)) ≡ Some p) none takes) in
    let (r, within, (d, between, has)) = offered_from said.class_of (after_round said (suc round)) said.relations c p new.1 in
    (r, within, (d, between, not_before r d within between (after_round said round d) refl, has))
  where
    both_none : (a : Option Progression) (b : Bool) (o : Option Progression) (q : Progression) → a ≡ None → b ≡ true → o ≡ Some q → first_some a (if_clocked b o) ≡ Some q
    both_none None true o q e f g = g
    both_none (Some a) b o q e f g = absurd (none_some (sym e))
    both_none None false o q e f g = absurd cc

    before_none : {A : Type 0} (a b : Option A) → first_some a b ≡ None → a ≡ None
    before_none None b e = refl
    before_none (Some a) b e = absurd (none_some (sym e))

    not_before : (r : Relation) (d : ℕ) → Contains said.relations r → IsBetween said.class_of r c d → (o : Option Progression) → after_round said round d ≡ o → after_round said round d ≡ None
    not_before r d within between None e = e
    not_before r d within between (Some x) e =
        let c_none : after_round said round c ≡ None = before_none (after_round said round c) (if_clocked (said.clocked c) (offered said.class_of (after_round said round) said.relations c)) none in
        let o = offered_some said.class_of (after_round said round) said.relations r c d x within between e c_none in
        let clocked : said.clocked c ≡ true = (if_clocked_is (said.clocked c) (offered said.class_of (after_round said (suc round)) said.relations c) p
        (subst (λ o. first_some o (if_clocked (said.clocked c) (offered said.class_of (after_round said (suc round)) said.relations c)) ≡ Some p) none takes)).0 in
        let got : after_round said (suc round) c ≡ Some o.0 = both_none (after_round said round c) (said.clocked c) (offered said.class_of (after_round said round) said.relations c) o.0 c_none clocked o.1 in
        absurd (none_some (sym none ∙ got))

-- only relations that touch the class make an offer
no_offer : (class_of : ℕ → ℕ) (held : Held) (r : Relation) (c : ℕ) → here class_of r c ≡ false → there class_of r c ≡ false → offer class_of held r c ≡ None
no_offer class_of held r c f g = neither (here class_of r c) (there class_of r c) f g
  where
    neither : (a b : Bool) → a ≡ false → b ≡ false → (if a then forward class_of held r else if b then back class_of held r else None) ≡ None
    neither false false e f = refl
    neither true b e f = absurd cc
    neither false true e f = absurd cc

touch_step : (class_of : ℕ → ℕ) (held : Held) (r : Relation) (rs kept : List Relation) (c : ℕ) (a b : Bool) → here class_of r c ≡ a → there class_of r c ≡ b
    → offered class_of held kept c ≡ offered class_of held rs c
    → offered class_of held (if a || b then r ∷ kept else kept) c ≡ first_some (offer class_of held r c) (offered class_of held rs c)
touch_step class_of held r rs kept c true b e f same = ap (λ o. first_some (offer class_of held r c) o) same
touch_step class_of held r rs kept c false true e f same = ap (λ o. first_some (offer class_of held r c) o) same
touch_step class_of held r rs kept c false false e f same = same ∙ ap (λ o. first_some o (offered class_of held rs c)) (sym (no_offer class_of held r c e f))

pub offered_touching : (class_of : ℕ → ℕ) (held : Held) (rs : List Relation) (c : ℕ) → offered class_of held (filter (touches class_of c) rs) c ≡ offered class_of held rs c
offered_touching class_of held [] c = refl
offered_touching class_of held (r ∷ rs) c =
    touch_step class_of held r rs (filter (touches class_of c) rs) c (here class_of r c) (there class_of r c) refl refl (offered_touching class_of held rs c)

-- ---- what is kept of clocks

pub kept_onward : (by : Conversion) (g h : Grid) (o : Option Progression) → IsGiven by → Agrees (Kept g) o → AreSame (progression_of_grid h) (converted by (progression_of_grid g))
    → (x : Progression) × (option_map (converted by) o ≡ Some x) × AreSame (progression_of_grid h) x
kept_onward by g h o given (p, e, same) is = (
  converted by p,
  mapped_is (converted by) o p e,
  same_trans (progression_of_grid h) (converted by (progression_of_grid g)) (converted by p) (converted_proper by (progression_of_grid g) given (grid_proper g)) is
      (converted_same by (progression_of_grid g) p same),
)

pub lost_onward : (by : Conversion) (p : Progression) (o : Option Progression) → o ≡ Some p → (x : Progression) × (option_map (converted by) o ≡ Some x)
lost_onward by p o e = (converted by p, mapped_is (converted by) o p e)

-- the first offer that is there is taken, and one that is not changes nothing
pub first_taken : (found : Found) (a b : Option Progression) → (found ≡ Not → ⊥) → Agrees found a → Agrees found (first_some a b)
first_taken Not a b some h = absurd (some refl)
first_taken (Kept g) None b some h = absurd (none_some h.1)
first_taken (Kept g) (Some p) b some h = h
first_taken Lost None b some h = absurd (none_some h.1)
first_taken Lost (Some p) b some h = h

pub none_passed : (found : Found) (a b : Option Progression) → found ≡ Not → Agrees found a → first_some a b ≡ b
none_passed found a b e h = nothing a (subst (λ f. Agrees f a) e h)
  where
    nothing : (a : Option Progression) → a ≡ None → first_some a b ≡ b
    nothing None e = refl
    nothing (Some p) e = absurd (none_some (sym e))

pub take_more : (found : Found) (class_of : ℕ → ℕ) (held : Held) (rs : List Relation) (i c : ℕ) (d : Relation) → found ≡ Not → i < length rs → Agrees found (offer class_of held (get_or rs i d) c)
    → offered class_of held (drop (i + 1) rs) c ≡ offered class_of held (drop i rs) c
take_more found class_of held rs i c d none within h =
    sym (ap (λ l. offered class_of held l c) (drop_more rs i d within)
    ∙ none_passed found (offer class_of held (get_or rs i d) c) (offered class_of held (drop (i + 1) rs) c) none h)

pub take_here : (found : Found) (class_of : ℕ → ℕ) (held : Held) (rs : List Relation) (i c : ℕ) (d : Relation) → (found ≡ Not → ⊥) → i < length rs → Agrees found (offer class_of held (get_or rs i d) c)
    → Agrees found (offered class_of held (drop i rs) c)
take_here found class_of held rs i c d some within h =
    rw (drop_more rs i d within) (first_taken found (offer class_of held (get_or rs i d) c) (offered class_of held (drop (i + 1) rs) c) some h)

-- ---- the relations that touch a class

pub touching_more : (p : Relation → Bool) (rs : List Relation) (i : ℕ) (d : Relation) → i < length rs → filter p (take (i + 1) rs) ≡ filter p (take i rs) ++ (if p (get_or rs i d) then get_or rs i d ∷ [] else [])
touching_more p rs i d within = ap (λ l. filter p l) (take_more_of rs i d within) ∙ filter-append p (take i rs) (get_or rs i d ∷ [])

-- ---- a clock once taken stays

pub stays : (said : Said) (round c : ℕ) (p : Progression) → after_round said round c ≡ Some p → (more : ℕ) → after_round said (more + round) c ≡ Some p
stays said round c p e zero = ap (λ n. after_round said n c) (let f : 0 + round ≡ round = omega arith in f) ∙ e
stays said round c p e (suc more) =
    ap (λ n. after_round said n c) (let f : suc more + round ≡ suc (more + round) = omega arith in f)
    ∙ kept (after_round said (more + round) c) (if_clocked (said.clocked c) (offered said.class_of (after_round said (more + round)) said.relations c)) (stays said round c p e more)
  where
    kept : (a b : Option Progression) → a ≡ Some p → first_some a b ≡ Some p
    kept None b e = absurd (none_some e)
    kept (Some a) b e = e

-- so a class gets one clock
pub gets_once : (said : Said) (c : ℕ) (p q : Progression) → Gets said c p → Gets said c q → p ≡ q
gets_once said c p q (m, e) (n, f) =
    some_same (sym (stays said m c p e n) ∙ ap (λ k. after_round said k c) (let g : n + m ≡ m + n = omega arith in g) ∙ stays said n c q f m)
  where
    some_same : {a b : Progression} → Some a ≡ Some b → a ≡ b
    some_same e = cc
