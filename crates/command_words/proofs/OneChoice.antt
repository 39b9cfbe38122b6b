-- One choice of the values, and one misfit.
use Rattle.std.proofs.Common.{◌≡◌, refl, sym, ◌∙◌, ap₂, subst, ℕ, ◌<◌, List, Option, Ok, Err, ap, codes, get_or, arith}
use Rattle.std.proofs.Props.{props}
use Rattle.std.specs.Int.{IsGcd}
use Rattle.rational_time.specs.declared.ratio.Ratio.{Ratio}
use Rattle.rational_time.specs.Fraction.{IsFraction}
use Rattle.rational_time.proofs.Fractions.{IsLowest-ratio, IsLowest-unique}
use Rattle.rational_time.proofs.TimeTexts.{WritesTime-unique, WritesTime-positive}
use Rattle.command_words.specs.declared.command.Mode.{Mode}
use Rattle.command_words.specs.declared.command.Mode.TheVariants.{Run, Flat, Clocks, Stress}
use Rattle.command_words.specs.declared.command.UsageFault.{UsageFault}
use Rattle.command_words.specs.Answer.{IsCommand, IsUsage, OneAnswer}
use Rattle.command_words.specs.Answer.IsUsage.{not_taken, no_choice}
use Rattle.command_words.specs.Choice.{Choice, IsChoice, IsMisfit, IsStop, IsMembers, IsMode, Texts, mode_name}
use Rattle.command_words.specs.Choice.IsMisfit.{no_mode, no_stop, no_workers, no_members}
use Rattle.command_words.specs.Words.{texts_of}

-- fractions of equal parts are one
with_proofs : (a : Ratio) (q : 0 < a.den) (m : ∥ IsGcd a.num a.den 1 ∥₁) → a ≡ record { num = a.num; den = a.den; positive = q; lowest = m }
with_proofs a q m =
    let positive : IsProp (0 < a.den) = hlevel props in
    let lowest : IsProp (∥ IsGcd a.num a.den 1 ∥₁) = hlevel props in
    ap₂ (λ (x : 0 < a.den) (y : ∥ IsGcd a.num a.den 1 ∥₁). ratio_with a.num a.den x y) (positive a.positive q) (lowest a.lowest m)
  where
    ratio_with : (num den : ℕ) → 0 < den → ∥ IsGcd num den 1 ∥₁ → Ratio
    ratio_with num den x y = record { num = num; den = den; positive = x; lowest = y }

with_den : (a : Ratio) (den : ℕ) → a.den ≡ den → (q : 0 < den) (m : ∥ IsGcd a.num den 1 ∥₁) → a ≡ record { num = a.num; den = den; positive = q; lowest = m }
with_den a den d = subst (λ x. (q : 0 < x) (m : ∥ IsGcd a.num x 1 ∥₁) → a ≡ record { num = a.num; den = x; positive = q; lowest = m }) d (with_proofs a)

with_parts : (a : Ratio) (num den : ℕ) → a.num ≡ num → a.den ≡ den → (q : 0 < den) (m : ∥ IsGcd num den 1 ∥₁) → a ≡ record { num = num; den = den; positive = q; lowest = m }
with_parts a num den n d = subst (λ x. (q : 0 < den) (m : ∥ IsGcd x den 1 ∥₁) → a ≡ record { num = x; den = den; positive = q; lowest = m }) n (with_den a den d)

one_ratio : (a b : Ratio) → a.num ≡ b.num → a.den ≡ b.den → a ≡ b
one_ratio a b n d = with_parts a b.num b.den n d b.positive b.lowest

-- a text writes one stop at most
one_stop : (text : List ℕ) (a b : Ratio) → IsStop text a → IsStop text b → a ≡ b
one_stop text a b p q =
    let same = WritesTime-unique text q.num q.den p.num p.den q.writes p.writes in
    let value : IsFraction b p.num p.den = rw (sym same.0, sym same.1) q.value in
    let parts = IsLowest-unique p.num p.den a.num a.den b.num b.den (WritesTime-positive text p.num p.den p.writes) (IsLowest-ratio a p.num p.den p.value) (IsLowest-ratio b p.num p.den value) in
    one_ratio a b parts.0 parts.1

-- two texts that are equal begin alike
other_initial : (a b : List ℕ) → a ≡ b → (get_or a 0 0 ≡ get_or b 0 0 → ⊥) → ⊥
other_initial a b e apart = apart (ap (λ t. get_or t 0 0) e)

-- a name is of one mode
one_mode : (name model : List ℕ) (a b : Mode) → IsMode name model a → IsMode name model b → a ≡ b
one_mode name model Run Run p q = refl
one_mode name model Run Flat p q = absurd (other_initial _ _ (sym p ∙ q) (λ same. omega (arith, same)))
one_mode name model Run Clocks p q = absurd (other_initial _ _ (sym p ∙ q) (λ same. omega (arith, same)))
one_mode name model Run (Stress n) p q = absurd (other_initial _ _ (sym p ∙ q.0) (λ same. omega (arith, same)))
one_mode name model Flat Run p q = absurd (other_initial _ _ (sym p ∙ q) (λ same. omega (arith, same)))
one_mode name model Flat Flat p q = refl
one_mode name model Flat Clocks p q = absurd (other_initial _ _ (sym p ∙ q) (λ same. omega (arith, same)))
one_mode name model Flat (Stress n) p q = absurd (other_initial _ _ (sym p ∙ q.0) (λ same. omega (arith, same)))
one_mode name model Clocks Run p q = absurd (other_initial _ _ (sym p ∙ q) (λ same. omega (arith, same)))
one_mode name model Clocks Flat p q = absurd (other_initial _ _ (sym p ∙ q) (λ same. omega (arith, same)))
one_mode name model Clocks Clocks p q = refl
one_mode name model Clocks (Stress n) p q = absurd (other_initial _ _ (sym p ∙ q.0) (λ same. omega (arith, same)))
one_mode name model (Stress m) Run p q = absurd (other_initial _ _ (sym p.0 ∙ q) (λ same. omega (arith, same)))
one_mode name model (Stress m) Flat p q = absurd (other_initial _ _ (sym p.0 ∙ q) (λ same. omega (arith, same)))
one_mode name model (Stress m) Clocks p q = absurd (other_initial _ _ (sym p.0 ∙ q) (λ same. omega (arith, same)))
one_mode name model (Stress m) (Stress n) p q = ap Stress (p.1.value ∙ sym q.1.value)

-- and it is its name
named : (name model : List ℕ) (mode : Mode) → IsMode name model mode → name ≡ mode_name mode
named name model Run p = p
named name model Flat p = p
named name model Clocks p = p
named name model (Stress n) p = p.0

-- the mode of the stress model has members
has_members : (name model : List ℕ) (mode : Mode) → IsMode name model mode → name ≡ codes "stress" → (n : ℕ) × IsMembers model n
has_members name model Run p is = absurd (other_initial _ _ (sym p ∙ is) (λ same. omega (arith, same)))
has_members name model Flat p is = absurd (other_initial _ _ (sym p ∙ is) (λ same. omega (arith, same)))
has_members name model Clocks p is = absurd (other_initial _ _ (sym p ∙ is) (λ same. omega (arith, same)))
has_members name model (Stress n) p is = (n, p.1)

-- choices of equal parts are one
same_choices : (a b : Choice) → a.model ≡ b.model → a.stop ≡ b.stop → a.table ≡ b.table → a.class ≡ b.class → a.workers ≡ b.workers → a.mode ≡ b.mode → a ≡ b
same_choices a b p q r s t u =
    let e : choice_with a.model a.stop a.table a.class a.workers a.mode ≡ choice_with b.model b.stop b.table b.class b.workers b.mode = cc in e
  where
    choice_with : List ℕ → Ratio → Option (List ℕ) → Option (List ℕ) → ℕ → Mode → Choice
    choice_with model stop table class workers mode = record { model = model; stop = stop; table = table; class = class; workers = workers; mode = mode }

-- values mean one choice at most
pub one_choice : (texts : Texts) (a b : Choice) → IsChoice texts a → IsChoice texts b → a ≡ b
one_choice texts a b p q = same_choices a b
    (p.model ∙ sym q.model)
    (one_stop texts.stop a.stop b.stop p.stop q.stop)
    (p.table ∙ sym q.table)
    (p.class ∙ sym q.class)
    (p.workers.value ∙ sym q.workers.value)
    (one_mode texts.mode texts.model a.mode b.mode p.mode q.mode)

-- values that mean a choice are no misfit
pub fits : (texts : Texts) (choice : Choice) (fault : UsageFault) → IsChoice texts choice → IsMisfit texts fault → ⊥
fits texts choice fault p (no_mode none is) = none choice.mode (named texts.mode texts.model choice.mode p.mode)
fits texts choice fault p (no_stop mode is_named none is) = none choice.stop p.stop
fits texts choice fault p (no_workers mode is_named stop stops none is) = none choice.workers p.workers
fits texts choice fault p (no_members is_stress stop stops workers work none is) = let (n, has) = has_members texts.mode texts.model choice.mode p.mode is_stress in none n has

-- values have one misfit at most
pub one_misfit : (texts : Texts) (a b : UsageFault) → IsMisfit texts a → IsMisfit texts b → a ≡ b
one_misfit texts a b (no_mode none is) (no_mode none' is') = is ∙ sym is'
one_misfit texts a b (no_mode none is) (no_stop mode' at' none' is') = absurd (none mode' at')
one_misfit texts a b (no_mode none is) (no_workers mode' at' stop' stops' none' is') = absurd (none mode' at')
one_misfit texts a b (no_mode none is) (no_members at' stop' stops' workers' work' none' is') = absurd (none (Stress 0) at')
one_misfit texts a b (no_stop mode at none is) (no_mode none' is') = absurd (none' mode at)
one_misfit texts a b (no_stop mode at none is) (no_stop mode' at' none' is') = is ∙ sym is'
one_misfit texts a b (no_stop mode at none is) (no_workers mode' at' stop' stops' none' is') = absurd (none stop' stops')
one_misfit texts a b (no_stop mode at none is) (no_members at' stop' stops' workers' work' none' is') = absurd (none stop' stops')
one_misfit texts a b (no_workers mode at stop stops none is) (no_mode none' is') = absurd (none' mode at)
one_misfit texts a b (no_workers mode at stop stops none is) (no_stop mode' at' none' is') = absurd (none' stop stops)
one_misfit texts a b (no_workers mode at stop stops none is) (no_workers mode' at' stop' stops' none' is') = is ∙ sym is'
one_misfit texts a b (no_workers mode at stop stops none is) (no_members at' stop' stops' workers' work' none' is') = absurd (none workers' work')
one_misfit texts a b (no_members at stop stops workers work none is) (no_mode none' is') = absurd (none' (Stress 0) at)
one_misfit texts a b (no_members at stop stops workers work none is) (no_stop mode' at' none' is') = absurd (none' stop stops)
one_misfit texts a b (no_members at stop stops workers work none is) (no_workers mode' at' stop' stops' none' is') = absurd (none' workers work)
one_misfit texts a b (no_members at stop stops workers work none is) (no_members at' stop' stops' workers' work' none' is') = is ∙ sym is'

-- a command is not refused
not_both : (words : List (List ℕ)) (choice : Choice) (fault : UsageFault) → IsCommand words choice → IsUsage words fault → ⊥
not_both words choice fault p (not_taken none is) = none p.taken
not_both words choice fault p (no_choice taken misfit) = fits (texts_of words) choice fault p.choice_is misfit

one_usage : (words : List (List ℕ)) (a b : UsageFault) → IsUsage words a → IsUsage words b → a ≡ b
one_usage words a b (not_taken none is) (not_taken none' is') = is ∙ sym is'
one_usage words a b (not_taken none is) (no_choice taken misfit) = absurd (none taken)
one_usage words a b (no_choice taken misfit) (not_taken none is) = absurd (none taken)
one_usage words a b (no_choice taken misfit) (no_choice taken' misfit') = one_misfit (texts_of words) a b misfit misfit'

pub one_answer : OneAnswer
one_answer words (Ok a) (Ok b) p q = ap Ok (one_choice (texts_of words) a b p.choice_is q.choice_is)
one_answer words (Ok a) (Err b) p q = absurd (not_both words a b p q)
one_answer words (Err a) (Ok b) p q = absurd (not_both words b a q p)
one_answer words (Err a) (Err b) p q = ap Err (one_usage words a b p q)
