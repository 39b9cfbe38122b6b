-- What the code of a base partition begins with.
use Rattle.std.proofs.Common.{◌≡◌, ap, sym, subst, ◌∙◌, ℕ, zero, suc, ◌<◌, List, [], ◌∷◌, ◌++◌, Contains, Some, inl, inr, slice_get}
use Rattle.std.proofs.lemmas.Option.{none-some, same_Some}
use Rattle.flat_model.specs.declared.equation.Equation.{Equation}
use Rattle.flat_model.specs.declared.equation.Equation.TheVariants.{Valued, Clocks}
use Rattle.flat_model.specs.declared.expression.Expr.{Expr}
use Rattle.flat_model.specs.Values.{value_in}
use Rattle.flat_model.specs.Asks.{Asking, AsksFor, OfNow, OfLast, OfPrevious, asked}
use Rattle.flat_model.specs.Assignment.{Assignment, previous_value}
use Rattle.flat_model.specs.Given.{Row}
use Rattle.flat_model.specs.Setting.{Setting, class_of_name, partition_of, start_of, name_ticks}
use Rattle.flat_model.specs.Uses.{Use}
use Rattle.moment_theory.specs.Free.{IsReachedBy, IsOrdered}
use Rattle.moment_theory.proofs.Facts.{class_of_use, facts_of_use}
use Rattle.moment_theory.proofs.FromRunnable.{facts_of}
use Rattle.moment_theory.proofs.Members.{IsMember, contains_member, member_contains, member_reached, reached_member}
use Rattle.cell_keys.specs.declared.key.CellKey.TheVariants as key
use Rattle.cell_keys.specs.declared.sight.Sight.TheVariants.{Now}
use Rattle.cell_keys.specs.Cells.{cell_of}
use Rattle.part_stretches.specs.Parts.{AllBegin}
use Rattle.whole_runs.proofs.Taking.{reached_before, reached_once}
use Rattle.tree_step.specs.declared.cell.Cell.{Cell}
use Rattle.tree_step.specs.declared.frame.ClockNow.{ClockNow}
use Rattle.tree_step.specs.declared.taking.Entry.{Entry}
use Rattle.tree_step.specs.Cells.{cell_in}
use Rattle.tree_step.specs.Starts.{Sight, use_of, uses_of, IsAmong, KeepsLast, IsSideSeen, AreSidesSeen, IsEntry}
use Rattle.part_words.specs.SetWords.{IsKeptFor, AreKeysShown}
use Rattle.part_code.specs.declared.coded.Coded.{Coded}
use Rattle.part_code.specs.Coded.{IsSideOf, IsCodeOf}
use Rattle.undone_side.specs.Undone.{IsSolvedSide}
use Rattle.undone_side.proofs.Kept.{solved_asks}
use Rattle.coded_step.specs.Taking.{IsCodeStart}
use Rattle.coded_step.proofs.Asks.{keys_asked}
use Rattle.coded_step.proofs.There.{there}

member_at : (some rest : List Use) (entry : Use) → IsMember entry some → IsMember entry (some ++ rest)
member_at [] rest entry h = absurd h
member_at (first ∷ some) rest entry (inl at) = inl at
member_at (first ∷ some) rest entry (inr h) = inr (member_at some rest entry h)

pub among_at : (entries : List Entry) (i : ℕ) (e : Entry) → slice_get entries i ≡ Some e → IsAmong e entries
among_at [] i e found = absurd (none-some e found)
among_at (first ∷ rest) zero e found = inl (same_Some first e found)
among_at (first ∷ rest) (suc i) e found = inr (among_at rest i e found)

pub at_among : (entries : List Entry) (e : Entry) → IsAmong e entries → (i : ℕ) × (slice_get entries i ≡ Some e)
at_among [] e among = absurd among
at_among (first ∷ rest) e (inl is) = (0, ap Some is)
at_among (first ∷ rest) e (inr among) = let (i, found) = at_among rest e among in (suc i, found)

pub among_reached : (entries : List Entry) (e : Entry) → IsAmong e entries → IsReachedBy e.name (uses_of entries)
among_reached [] e among = absurd among
among_reached (first ∷ rest) e (inl is) = inl (ap (λ z. z.name) (sym is))
among_reached (first ∷ rest) e (inr among) = inr (among_reached rest e among)

pub among_member : (entries : List Entry) (e : Entry) → IsAmong e entries → IsMember (use_of e) (uses_of entries)
among_member [] e among = absurd among
among_member (first ∷ rest) e (inl is) = inl (ap use_of is)
among_member (first ∷ rest) e (inr among) = inr (among_member rest e among)

-- a side of an equation that asks for this, with what is seen of it
pub record IsSeenAsking (s : Setting) (S : Assignment) (m : ℕ) (base : Row) (sight : Sight) (cells : List Cell) (clock : ClockNow) (d : ℕ) (q : Asking) : Type 0 where
  pub side : Expr
  pub seen : IsSideSeen s S m base sight cells clock side
  pub asks : AsksFor side d q

seen_asking : (s : Setting) (S : Assignment) (m : ℕ) (base : Row) (sight : Sight) (cells : List Cell) (clock : ClockNow) (x : ℕ) (equation : Equation) (side : Expr) → IsSolvedSide x equation side → AreSidesSeen s S m base sight cells clock equation
    → (d : ℕ) (q : Asking) → AsksFor side d q → IsSeenAsking s S m base sight cells clock d q
seen_asking s S m base sight cells clock x (Valued left right clause) side solves seen d q some = elim (solved_asks x left right clause side solves d q some) [
  | inl asks ↦ record { side = left; seen = seen.0; asks = asks }
  | inr asks ↦ record { side = right; seen = seen.1; asks = asks }
]
seen_asking s S m base sight cells clock x (Clocks left right clause) side solves seen d q some = absurd solves

no_value : (x y : ℕ) → key.Previous x ≡ key.Value y → ⊥
no_value x y e = cc

no_left : (x y : ℕ) → key.Left x ≡ key.Value y → ⊥
no_left x y e = cc

no_last : (x y : ℕ) → key.LeftLast x ≡ key.Value y → ⊥
no_last x y e = cc

one_value : (x y : ℕ) → key.Value x ≡ key.Value y → x ≡ y
one_value x y e = cc

module _ (s : Setting) (uses before after : List Use) (partition : ℕ) (S : Assignment) (m : ℕ) (base : Row) (sight : Sight) (entries : List Entry) (cells : List Cell) (start : IsCodeStart s uses before after partition S m base sight entries cells) where
  pub ordered : IsOrdered s uses (before ++ (uses_of entries ++ after))
  ordered = start.start.ordered

  -- nothing of the base partition comes before
  pub begins : AllBegin s (Some partition) S m base before
  begins class in_partition ticks = record { meets = start.start.meets; typed = start.start.typed; all = λ y reached same now. absurd (nothing y reached same); ticks = ticks }
    where
      nothing : (y : ℕ) → IsReachedBy y before → partition_of s (class_of_name s y) ≡ partition_of s (Some class) → ⊥
      nothing y reached same =
          let (entry, member, is) = member_reached before y reached in
          let used : Contains uses entry = ordered.same.only entry (member_contains entry (before ++ (uses_of entries ++ after)) (member_at before (uses_of entries ++ after) entry member)) in
          let class_is = class_of_use s (facts_of s ordered.runs) entry (facts_of_use s uses ordered.uses_are.uses_are entry used) in
          let own = start.whole entry used (ap (partition_of s) (sym class_is ∙ ap (class_of_name s) (sym is)) ∙ same ∙ in_partition) in
          reached_once s y before (uses_of entries ++ after) ordered.free reached
          (reached_before y (uses_of entries) after (subst (λ z. IsReachedBy z (uses_of entries)) (sym is) (reached_member (uses_of entries) entry (contains_member entry (uses_of entries) own))))

  -- a cell is that of a name that the uses reach, and keeps its last value
  pub kept_for : (x : ℕ) (cell : Cell) → cell_in sight.places cells x ≡ Some cell → IsKeptFor s S m base sight cells x
  kept_for x cell found =
      let at = there sight.places cells x cell found in
      let (entry, entry_found, named) = start.named at.place cell at.found in
      let same : x ≡ entry.name = sym at.named ∙ named in
      record {
        cell = cell;
        found = found;
        keeps = subst (λ z. KeepsLast s S m z cell) at.named (start.keeps at.place cell at.found);
        fresh = start.start.clear x (subst (λ z. IsReachedBy z (uses_of entries)) (sym same) (among_reached entries entry (among_at entries at.place entry entry_found)));
      }

  pub is_entry : (e : Entry) → IsAmong e entries → IsEntry s S m base sight cells e
  is_entry e among = start.start.each e among

  own_kept : (e : Entry) → IsAmong e entries → IsKeptFor s S m base sight cells e.name
  own_kept e among = let (cell, found) = (is_entry e among).own in kept_for e.name cell found

  module _ (e : Entry) (among : IsAmong e entries) (side : Expr) (of : IsSideOf sight.equations e side) where
    asking : (d : ℕ) (q : Asking) → AsksFor side d q → IsSeenAsking s S m base sight cells (is_entry e among).clock d q
    asking =
        let is = is_entry e among in
        let same : is.equation ≡ of.equation = same_Some is.equation of.equation (sym is.found ∙ ap (λ es. slice_get es e.equation) (sym start.start.model) ∙ of.found) in
        seen_asking s S m base sight cells is.clock e.name of.equation side of.solved (subst (AreSidesSeen s S m base sight cells is.clock) same is.seen)

    now_kept : (x : ℕ) → 0 < asked side 0 (OfNow x) → IsKeptFor s S m base sight cells x
    now_kept x asks = let at = asking 0 (OfNow x) asks in let (cell, found) = at.seen.now x at.asks in kept_for x cell found

    last_kept : (x : ℕ) → 0 < asked side 0 (OfLast x) → IsKeptFor s S m base sight cells x
    last_kept x asks = let at = asking 0 (OfLast x) asks in let (cell, found, keeps, stands) = at.seen.last x at.asks in kept_for x cell found

    previous_kept : (x : ℕ) → 0 < asked side 0 (OfPrevious x) → IsKeptFor s S m base sight cells x
    previous_kept x asks = let at = asking 0 (OfPrevious x) asks in let (cell, found, more) = at.seen.previous x at.asks in kept_for x cell found

  module _ (code : Coded) (is : IsCodeOf sight.equations s.model.names entries code) where
    value_kept : (x c : ℕ) → cell_of code.keys (key.Value x) ≡ Some c → IsKeptFor s S m base sight cells x
    value_kept x c of_x = let by = is.asked (key.Value x) c of_x in elim by.asks [
      | inl own ↦ subst (IsKeptFor s S m base sight cells) (sym (one_value x by.entry.name own)) (own_kept by.entry by.among)
      | inr read ↦ elim (keys_asked by.side by.entry.clock Now (key.Value x) read) [
        | inl now ↦ now_kept by.entry by.among by.side by.of x now
        | inr more ↦ elim more [
          | inl last ↦ last_kept by.entry by.among by.side by.of x last
          | inr previous ↦ previous_kept by.entry by.among by.side by.of x previous
        ]
      ]
    ]

    before_kept : (x c : ℕ) → cell_of code.keys (key.Previous x) ≡ Some c → IsKeptFor s S m base sight cells x
    before_kept x c of_x = let by = is.asked (key.Previous x) c of_x in elim by.asks [
      | inl own ↦ absurd (no_value x by.entry.name own)
      | inr read ↦ previous_kept by.entry by.among by.side by.of x (keys_asked by.side by.entry.clock Now (key.Previous x) read)
    ]

    left_told : (x c k : ℕ) → cell_of code.keys (key.Left x) ≡ Some c → m ≡ suc k → value_in sight.left.now x ≡ S x k
    left_told x c k of_x later = let by = is.asked (key.Left x) c of_x in elim by.asks [
      | inl own ↦ absurd (no_left x by.entry.name own)
      | inr read ↦ (start.samples by.entry by.side by.among by.of).now x k (keys_asked by.side by.entry.clock Now (key.Left x) read) later
    ]

    last_told : (k : ℕ) → m ≡ suc k → (x c : ℕ) → cell_of code.keys (key.LeftLast x) ≡ Some c → slice_get sight.left.last x ≡ previous_value (name_ticks s S x) (S x) (start_of s x) m
    last_told k later x c of_x = let by = is.asked (key.LeftLast x) c of_x in elim by.asks [
      | inl own ↦ absurd (no_last x by.entry.name own)
      | inr read ↦ (start.samples by.entry by.side by.among by.of).last x k (keys_asked by.side by.entry.clock Now (key.LeftLast x) read) later
    ]

    pub keys_told : (k : ℕ) → m ≡ suc k → AreKeysShown s S m base sight cells code.keys
    keys_told k later = record { value = value_kept; previous = before_kept; left = left_told; left_last = last_told k later }
