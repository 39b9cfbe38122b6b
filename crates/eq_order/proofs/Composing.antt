-- The order of a model, from the lists of what its equations read.
use Rattle.std.proofs.Common.{◌≡◌, refl, ap, sym, subst, ◌∙◌, ℕ, zero, suc, ◌<◌, Bool, true, List, [], ◌∷◌, length, get_or, set, map, Result, Ok, Err, All, arith}
use Rattle.std.specs.List.{Contains}
use Rattle.std.specs.Result.{IsErr, IsErrAnd}
use Rattle.std.proofs.lemmas.List.{length-set}
use Rattle.std.proofs.lemmas.Option.{slice_get_within}
use Rattle.flat_model.specs.declared.clock.Clocking.{Clocking}
use Rattle.flat_model.specs.declared.model.FlatModel.{FlatModel}
use Rattle.flat_model.specs.Setting.{Setting}
use Rattle.eq_order.specs.declared.uses.Use.{Use}
use Rattle.eq_order.specs.declared.ends.OrderEnd.{OrderEnd}
use Rattle.eq_order.specs.declared.ends.OrderEnd.TheVariants.{Fault, NoMemory}
use Rattle.eq_order.specs.Order.{Answers, use_of}
use Rattle.eq_order.specs.private.Reaching.{is_waiting, waiting, list_at, AreTaken, flags_after}
use Rattle.eq_order.specs.private.Tables.{AreReads, HaveEnded, EndsAs, is_known}
use Rattle.eq_order.proofs.Ties.{uses_are, uses_end, have_spines, start_flags, nothing_done}

-- a setting with this model and clocking
abbrev pub setting_of : FlatModel → Clocking → Setting
setting_of flat clocking = record { model = flat; clocking = clocking; table = record { times = []; columns = []; cells = [] }; instants = [] }

at_same : (xs : List ℕ) (k d : ℕ) → k < length xs → get_or xs k (get_or xs k d) ≡ get_or xs k d
at_same [] k d within = absurd (omega (arith, within))
at_same (x ∷ xs) zero d within = refl
at_same (x ∷ xs) (suc k) d within = at_same xs k d (omega (arith, within))

list_is : (lists : List (List ℕ)) (k : ℕ) (d : List ℕ) → k < length lists → get_or lists k d ≡ list_at lists k
list_is [] k d within = absurd (omega (arith, within))
list_is (list ∷ lists) zero d within = refl
list_is (list ∷ lists) (suc k) d within = list_is lists k d (omega (arith, within))

-- the names in the lists are names of the model
pub names_below : (s : Setting) (lists : List (List ℕ)) → AreReads s lists → All (All (λ x. x < length s.model.names)) lists
names_below s lists are i d inside j e within =
    let same = list_is lists i d inside in
    let there : Contains (list_at lists i) (get_or (get_or lists i d) j e) =
    subst (λ list. Contains list (get_or (get_or lists i d) j e)) same (j, within, at_same (get_or lists i d) j e within) in
    let own = (are.sound i (get_or (get_or lists i d) j e) there).1 in
    slice_get_within s.model.names (get_or (get_or lists i d) j e) own.0 own.1

all_wait : (reached : List Bool) (xs : List ℕ) → ((x : ℕ) → Contains xs x → is_waiting reached x ≡ true) → waiting reached xs ≡ xs
all_wait reached [] wait = refl
all_wait reached (z ∷ zs) wait = rw (wait z (0, omega arith, refl)) (ap (λ ys. z ∷ ys) (all_wait reached zs (λ x (k, within, is). wait x (suc k, omega (arith, within), is))))

-- all names in the lists wait at the start
pub all_fresh : (s : Setting) (lists : List (List ℕ)) (known : List Bool) → AreReads s lists → known ≡ map is_known s.model.names → (i : ℕ) → waiting known (list_at lists i) ≡ list_at lists i
all_fresh s lists known are is i = all_wait known (list_at lists i) (λ x found.
    let own = (are.sound i x found).1 in
    (start_flags s known is x).1 (record { name = own.0; found = own.1; valued = own.2; own = own.3; later = no_member x }))
  where
    no_member : (x : ℕ) → Contains [] x → ⊥
    no_member x (k, within, same) = omega (arith, within)

module _ (s : Setting) (lists : List (List ℕ)) (known : List Bool) (uses : List Use) (are : AreReads s lists) (is : known ≡ map is_known s.model.names) (taken : AreTaken s.model.equations lists known uses) where
  pub at_end : HaveEnded s (flags_after known uses) (map use_of uses)
  at_end = uses_end s lists are known [] uses (start_flags s known is) (nothing_done s) taken

  pub answer_ok : EndsAs s (map use_of uses) (Ok tt) → Answers s (Ok uses)
  answer_ok end = (
    record { uses_are = uses_are s lists are known [] uses (start_flags s known is) (nothing_done s) taken; reached = end.0; used = end.1 },
    have_spines s.model.equations lists known uses taken,
  )

  pub answer_err : (end : OrderEnd) → EndsAs s (map use_of uses) (Err end) → Answers s (Err end)
  answer_err (Fault code at) broken = (map use_of uses, uses_are s lists are known [] uses (start_flags s known is) (nothing_done s) taken, broken)
  answer_err NoMemory free = tt

pub flags_length : (flags : List Bool) (uses : List Use) → length (flags_after flags uses) ≡ length flags
flags_length flags [] = refl
flags_length flags (entry ∷ rest) = flags_length (set flags entry.name true) rest ∙ length-set flags entry.name true

-- an error that is passed on is the same
pub answer_passed : (s : Setting) (r : Result (List Use) OrderEnd) (end : OrderEnd) → IsErr r → IsErrAnd r (λ other. other ≡ end) → Answers s (Err end) → Answers s r
answer_passed s (Ok uses) end some same answers = cc some
answer_passed s (Err other) end some same answers = subst (λ it. Answers s (Err it)) (sym same) answers
