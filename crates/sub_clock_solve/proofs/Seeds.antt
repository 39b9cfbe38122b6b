-- The clocks of round 0, constructor by constructor.
use Rattle.std.proofs.Common.{◌≡◌, ◌≢◌, ◌∙◌, refl, sym, ap, subst, ℕ, zero, suc, ◌+◌, ◌<◌, ◌≤◌, ◌^◌, ◌==◌, Bool, true, false, if◌then◌else◌, List, [], ◌∷◌, ◌++◌, Option, Some, None, All, length, take, get_or, arith}
use Rattle.std.proofs.lemmas.List.{get_or_default, take_more, take_all}
use Rattle.std.proofs.lemmas.List.Elements.{All-tail}
use Rattle.clock_terms.specs.declared.data.Grid.{Grid}
use Rattle.clock_terms.specs.Position.{Progression, IsFine, IsProper, IsTooFine}
use Rattle.clock_terms.specs.Source.{Source}
use Rattle.clock_spread.specs.declared.offers.Found.{Found}
use Rattle.clock_spread.specs.declared.offers.Found.TheVariants.{Not, Kept, Lost}
use Rattle.clock_spread.specs.Found.{IsFineFound, Agrees, Agree, NoneLost, class_in, found_of}
use Rattle.clock_spread.specs.Queue.{marked}
use Rattle.clock_spread.specs.Rounds.{first_some, if_clocked, seeded}
use Rattle.clock_spread.proofs.Losing.{kept_fine}
use Rattle.sub_clock_solve.specs.declared.given.Given.{Given}
use Rattle.sub_clock_solve.specs.private.Given.{IsGridOf, AreSources}
use Rattle.sub_clock_solve.specs.private.Seeding.{seeded_at, start_of}
use Rattle.sub_clock_solve.proofs.Giving.{source_at, sources_length}
use Rattle.sub_clock_solve.proofs.Rounding.{start_proper}

none_some : {A : Type 0} {a : A} → None ≡ Some a → ⊥
none_some e = absurd cc

-- the first constructor of a class, with one constructor more
seeded_more : (class_of : ℕ → ℕ) (ss : List Source) (s : Source) (c : ℕ) → seeded class_of (ss ++ s ∷ []) c ≡ first_some (seeded class_of ss c) (if class_of s.node == c then Some s.clock else None)
seeded_more class_of [] s c = refl
seeded_more class_of (t ∷ ss) s c = by (seeded_more class_of ss s c) (class_of t.node == c)
  where
    by : seeded class_of (ss ++ s ∷ []) c ≡ first_some (seeded class_of ss c) (if class_of s.node == c then Some s.clock else None)
        → (b : Bool) → (if b then Some t.clock else seeded class_of (ss ++ s ∷ []) c) ≡ first_some (if b then Some t.clock else seeded class_of ss c) (if class_of s.node == c then Some s.clock else None)
    by again true = refl
    by again false = again

seeded_agrees : (b m : Bool) (f : Found) (o : Option Progression) (g : Grid) (clock : Progression) → IsGridOf g clock → Agrees f (if_clocked m o)
    → Agrees (if b then seeded_at m f g else f) (if_clocked m (first_some o (if b then Some clock else None)))
seeded_agrees false true f None g clock is h = h
seeded_agrees false true f (Some p) g clock is h = h
seeded_agrees false false f o g clock is h = h
seeded_agrees true false f o g clock is h = h
seeded_agrees true true Not None g clock is h = (clock, refl, is.same)
seeded_agrees true true Not (Some p) g clock is h = absurd (none_some (sym h))
seeded_agrees true true (Kept k) None g clock is h = absurd (none_some h.1)
seeded_agrees true true (Kept k) (Some p) g clock is h = h
seeded_agrees true true Lost None g clock is h = absurd (none_some h.1)
seeded_agrees true true Lost (Some p) g clock is h = h

seeded_fine : (b m : Bool) (f : Found) (g : Grid) → IsFine (2 ^ 40) g → IsFineFound f → IsFineFound (if b then seeded_at m f g else f)
seeded_fine false m f g fine h = h
seeded_fine true false f g fine h = h
seeded_fine true true Not g fine h = fine
seeded_fine true true (Kept k) g fine h = h
seeded_fine true true Lost g fine h = h

seeded_kept : (b m : Bool) (f : Found) (g : Grid) → f ≢ Lost → (if b then seeded_at m f g else f) ≢ Lost
seeded_kept false m f g h = h
seeded_kept true false f g h = h
seeded_kept true true Not g h = λ e. absurd cc
seeded_kept true true (Kept k) g h = h
seeded_kept true true Lost g h = h

-- each class takes the clock of one constructor more
abbrev pub IsSeeded : List Bool → ℕ → Grid → List Found → List Found → Type 0
IsSeeded clocked class g old new = (c : ℕ) → found_of new c ≡ (if class == c then seeded_at (marked clocked c) (found_of old c) g else found_of old c)

pub seed_agree : (class_of : List ℕ) (clocked : List Bool) (sources : List Source) (givens : List Given) (i : ℕ) (d : Given) (old new : List Found)
    → AreSources givens sources → i < length givens → IsSeeded clocked (class_in class_of (get_or givens i d).node) (get_or givens i d).grid old new
    → Agree old (start_of class_of clocked (take i sources)) → Agree new (start_of class_of clocked (take (i + 1) sources))
seed_agree class_of clocked sources givens i d old new are within seeds agree c =
    let e = get_or sources i (record { node = 0; equation = 0; clock = record { site = None; period = record { more = 0; less = 0; den = 1 }; start = record { more = 0; less = 0; den = 1 } } }) in
    let source = source_at givens sources i d e are within in
    let inside : i < length sources = let same = sources_length givens sources are in omega (arith, same, within) in
    let one = get_or sources i e in
    let class = class_in class_of (get_or givens i d).node in
    let same : class_in class_of one.node ≡ class = ap (λ n. class_in class_of n) (sym source.node) in
    let step = seeded_agrees (class == c) (marked clocked c) (found_of old c) (seeded (class_in class_of) (take i sources) c) (get_or givens i d).grid one.clock source.grid (agree c) in
    let all : seeded (class_in class_of) (take (i + 1) sources) c ≡ first_some (seeded (class_in class_of) (take i sources) c) (if class == c then Some one.clock else None) =
    ap (λ l. seeded (class_in class_of) l c) (take_more sources i e inside) ∙ seeded_more (class_in class_of) (take i sources) one c
    ∙ ap (λ k. first_some (seeded (class_in class_of) (take i sources) c) (if k == c then Some one.clock else None)) same in
    subst (λ f. Agrees f (start_of class_of clocked (take (i + 1) sources) c)) (sym (seeds c))
    (subst (λ o. Agrees (if class == c then seeded_at (marked clocked c) (found_of old c) (get_or givens i d).grid else found_of old c) (if_clocked (marked clocked c) o)) (sym all) step)

-- what holds at each class holds of all
pub all_found : (P : Found → Type 0) (found : List Found) → ((c : ℕ) → P (found_of found c)) → All P found
all_found P found h = λ k d lt. subst P (get_or_default found k Not d lt) (h k)

pub found_all : (found : List Found) → All IsFineFound found → (c : ℕ) → IsFineFound (found_of found c)
found_all [] h c = tt
found_all (f ∷ fs) h zero = h 0 f (omega arith)
found_all (f ∷ fs) h (suc c) = found_all fs (All-tail IsFineFound f fs h) c

pub seed_fine : (clocked : List Bool) (class : ℕ) (g : Grid) (old new : List Found) → IsFine (2 ^ 40) g → IsSeeded clocked class g old new → All IsFineFound old → All IsFineFound new
seed_fine clocked class g old new fine seeds h =
    all_found IsFineFound new (λ c. subst IsFineFound (sym (seeds c)) (seeded_fine (class == c) (marked clocked c) (found_of old c) g fine (found_all old h c)))

pub seed_kept : (clocked : List Bool) (class : ℕ) (g : Grid) (old new : List Found) → IsSeeded clocked class g old new → NoneLost old → NoneLost new
seed_kept clocked class g old new seeds h c = subst (λ f. f ≢ Lost) (sym (seeds c)) (seeded_kept (class == c) (marked clocked c) (found_of old c) g (h c))

-- before any constructor
start_none : (class_of : List ℕ) (clocked : List Bool) (sources : List Source) (c : ℕ) → start_of class_of clocked (take 0 sources) c ≡ None
start_none class_of clocked sources c = by (marked clocked c)
  where
    by : (b : Bool) → if_clocked b (seeded (class_in class_of) [] c) ≡ None
    by true = refl
    by false = refl

pub seed_none : (class_of : List ℕ) (clocked : List Bool) (sources : List Source) (found : List Found) → ((c : ℕ) → found_of found c ≡ Not) → Agree found (start_of class_of clocked (take 0 sources))
seed_none class_of clocked sources found none c =
    subst (λ f. Agrees f (start_of class_of clocked (take 0 sources) c)) (sym (none c)) (start_none class_of clocked sources c)

pub seed_all_of : (class_of : List ℕ) (clocked : List Bool) (sources : List Source) (givens : List Given) (i : ℕ) (found : List Found) → AreSources givens sources → length givens ≤ i
    → Agree found (start_of class_of clocked (take i sources)) → Agree found (start_of class_of clocked sources)
seed_all_of class_of clocked sources givens i found are past agree =
    let same = sources_length givens sources are in
    subst (λ l. Agree found (start_of class_of clocked l)) (take_all i sources (omega (arith, same, past))) agree

-- no clock of round 0 is too fine
pub start_fine : (class_of : List ℕ) (clocked : List Bool) (sources : List Source) (found : List Found) → All IsFineFound found → NoneLost found → Agree found (start_of class_of clocked sources)
    → All (λ s. IsProper s.clock) sources → (c : ℕ) (p : Progression) → start_of class_of clocked sources c ≡ Some p → IsTooFine (2 ^ 40) p → ⊥
start_fine class_of clocked sources found fine kept agree proper c p e over =
    kept c (kept_fine (found_of found c) (start_of class_of clocked sources c) p (found_all found fine c) (agree c) e (start_proper class_of clocked sources proper c p e) over)
