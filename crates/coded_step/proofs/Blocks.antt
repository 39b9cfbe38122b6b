-- The stretches of the code as blocks of uses.
use Rattle.std.proofs.Common.{◌≡◌, refl, ap, sym, subst, ◌∙◌, ℕ, zero, suc, true, ℤ, List, [], ◌∷◌, ◌++◌, length, Contains, Option, Some, None, unwrap_or, inl, inr, slice_get}
use Rattle.std.proofs.lemmas.Option.{none-some}
use Rattle.sync_values.specs.declared.value.Value.{Value}
use Rattle.flat_model.specs.declared.expression.Expr.{Expr}
use Rattle.flat_model.specs.Assignment.{Assignment}
use Rattle.flat_model.specs.Given.{Row, with_row}
use Rattle.flat_model.specs.Setting.{Setting, class_of_equation, partition_of, class_ticks}
use Rattle.flat_model.specs.Uses.{Use}
use Rattle.moment_theory.proofs.Members.{member_contains, IsMember}
use Rattle.cell_keys.specs.declared.key.CellKey.{CellKey}
use Rattle.step_code.specs.Code.{Cells}
use Rattle.step_code.specs.Lines.{Line}
use Rattle.part_layout.specs.Keyed.{keyed_cells}
use Rattle.part_layout.specs.LayoutLaws.{AreTypedLines, IsTable}
use Rattle.part_layout.proofs.Tables.{is_table}
use Rattle.side_theory.specs.Kept.{IsClockSet}
use Rattle.part_stretches.specs.declared.running.ClassStretch.{ClassStretch}
use Rattle.part_stretches.specs.Parts.{Block, entries_of, AreAlike}
use Rattle.part_stretches.specs.Running.{tick_in}
use Rattle.whole_runs.specs.Lines.{AreExpressing}
use Rattle.whole_runs.specs.Whole.{AreCoded, AreShownBy}
use Rattle.tree_step.specs.declared.cell.Cell.{Cell}
use Rattle.tree_step.specs.declared.taking.Entry.{Entry}
use Rattle.tree_step.specs.Starts.{Sight, use_of, uses_of, IsAmong, IsClockShown}
use Rattle.part_words.specs.Words.{AreFilled}
use Rattle.part_words.proofs.SetWords.{words_set}
use Rattle.part_code.specs.declared.coded.Coded.{Coded}
use Rattle.part_code.specs.Coded.{IsSideOf, AreLinesFor, AreStretchesOf, IsCodeOf}
use Rattle.coded_step.specs.private.Landing.{ticking_of}
use Rattle.coded_step.specs.Taking.{IsCodeStart}
use Rattle.coded_step.proofs.Beginning.{ordered, is_entry, among_member, keys_told}
use Rattle.coded_step.proofs.Telling.{tells, typed_line}
use Rattle.coded_step.proofs.Ticks.{tick_found}

keyed_alike : (keys : List CellKey) (s : Setting) (a b : ℕ) → AreAlike (keyed_cells keys s.model.names a) (keyed_cells keys s.model.names b)
keyed_alike keys s a b = record { now = now; previous = previous; last = last; const = const }
  where
    now : (k x : ℕ) → (keyed_cells keys s.model.names a k).now x ≡ (keyed_cells keys s.model.names b k).now x
    now zero x = refl
    now (suc zero) x = refl
    now (suc (suc k)) x = refl

    previous : (k x : ℕ) → (keyed_cells keys s.model.names a k).previous x ≡ (keyed_cells keys s.model.names b k).previous x
    previous zero x = refl
    previous (suc zero) x = refl
    previous (suc (suc k)) x = refl

    last : (k x : ℕ) → (keyed_cells keys s.model.names a k).last x ≡ (keyed_cells keys s.model.names b k).last x
    last zero x = refl
    last (suc zero) x = refl
    last (suc (suc k)) x = refl

    const : (k : ℕ) (v : Value) → (keyed_cells keys s.model.names a k).const v ≡ (keyed_cells keys s.model.names b k).const v
    const zero v = refl
    const (suc zero) v = refl
    const (suc (suc k)) v = refl

class_some : (s : Setting) (o : Option ℕ) (partition : ℕ) → partition_of s o ≡ Some partition → o ≡ Some (unwrap_or o 0)
class_some s None partition within = absurd (none-some partition within)
class_some s (Some class) partition within = refl

among_front : (front behind : List Entry) (e : Entry) → IsAmong e front → IsAmong e (front ++ behind)
among_front [] behind e h = absurd h
among_front (first ∷ front) behind e (inl is) = inl is
among_front (first ∷ front) behind e (inr h) = inr (among_front front behind e h)

among_behind : (front behind : List Entry) (e : Entry) → IsAmong e behind → IsAmong e (front ++ behind)
among_behind [] behind e h = h
among_behind (first ∷ front) behind e h = inr (among_behind front behind e h)

uses_append : (front behind : List Entry) → uses_of (front ++ behind) ≡ uses_of front ++ uses_of behind
uses_append [] behind = refl
uses_append (first ∷ front) behind = ap (λ us. use_of first ∷ us) (uses_append front behind)

module _ (s : Setting) (uses before after : List Use) (partition : ℕ) (S : Assignment) (m : ℕ) (base : Row) (sight : Sight) (entries : List Entry) (cells : List Cell) (start : IsCodeStart s uses before after partition S m base sight entries cells) (code : Coded)
    (is : IsCodeOf sight.equations s.model.names entries code) where
  abbrev at : ℕ → Cells
  at place = keyed_cells code.keys s.model.names place

  abbrev t : ℕ
  t = length code.keys

  abbrev class_of : Entry → ℕ
  class_of e = unwrap_or (class_of_equation s e.equation) 0

  class_is : (e : Entry) → IsAmong e entries → class_of_equation s e.equation ≡ Some (class_of e)
  class_is e among = class_some s (class_of_equation s e.equation) partition (start.of e among)

  table : (place : ℕ) → IsTable s code.keys place (at place)
  table place = is_table s code.keys place

  used : (e : Entry) → IsAmong e entries → Contains uses (use_of e)
  used e among =
      let order = ordered s uses before after partition S m base sight entries cells start in
      order.same.only (use_of e) (member_contains (use_of e) (before ++ (uses_of entries ++ after)) (member_behind before (uses_of entries ++ after) (member_front (uses_of entries) (among_member entries e among))))
    where
      member_behind : (some rest : List Use) → IsMember (use_of e) rest → IsMember (use_of e) (some ++ rest)
      member_behind [] rest h = h
      member_behind (first ∷ some) rest h = inr (member_behind some rest h)

      member_front : (some : List Use) → IsMember (use_of e) some → IsMember (use_of e) (some ++ after)
      member_front [] h = absurd h
      member_front (first ∷ some) (inl same) = inl same
      member_front (first ∷ some) (inr h) = inr (member_front some h)

  -- the equation of an entry is one of the model
  model_found : (e : Entry) (side : Expr) (of : IsSideOf sight.equations e side) → slice_get s.model.equations e.equation ≡ Some of.equation
  model_found e side of = ap (λ qs. slice_get qs e.equation) (sym start.start.model) ∙ of.found

  -- lines of entries of one clock express uses of one class
  lines_of : (first : Entry) → IsAmong first entries → (place : ℕ) → first.clock ≡ place → (es : List Entry) (ls : List Line) → ((e : Entry) → IsAmong e es → IsAmong e entries) → AreLinesFor sight.equations place es ls
      → AreExpressing s uses (class_of first) (uses_of es) ls × AreTypedLines s ls
  lines_of first first_among place first_place [] [] within are = (tt, tt)
  lines_of first first_among place first_place [] (l ∷ ls) within are = absurd are
  lines_of first first_among place first_place (e ∷ es) [] within are = absurd are
  lines_of first first_among place first_place (e ∷ es) (l ∷ ls) within ((of, name, clock), rest) =
      let among = within e (inl refl) in
      let order = ordered s uses before after partition S m base sight entries cells start in
      let found = model_found e l.side of in
      let others = lines_of first first_among place first_place es ls (λ d h. within d (inr h)) rest in (
        (
          (
            used e among,
            name,
            tells s uses order.runs order.uses_are.uses_are (use_of e) (used e among) (class_of first) (start.one_class e first among first_among (clock ∙ sym first_place) ∙ class_is first first_among) of.equation l.side found of.solved,
          ),
          others.0,
        ),
        (typed_line s uses order.runs order.uses_are.uses_are (use_of e) (used e among) of.equation l found of.solved name, others.1),
      )

  -- the blocks of stretches
  abbrev pub blocks_of : (es : List Entry) (stretches : List ClassStretch) → AreStretchesOf sight.equations s.model.names code.keys es stretches → List Block
  blocks_of es [] none = []
  blocks_of es (one ∷ rest) (first, front, behind, es_are, of, others) = record { class = class_of first; entries = uses_of (first ∷ front); lines = of.lines; at = at one.class } ∷ blocks_of behind rest others

  pub entries_are : (es : List Entry) (stretches : List ClassStretch) (are : AreStretchesOf sight.equations s.model.names code.keys es stretches) → entries_of (blocks_of es stretches are) ≡ uses_of es
  entries_are es [] none = ap uses_of (sym none)
  entries_are es (one ∷ rest) (first, front, behind, es_are, of, others) =
      ap (λ us. uses_of (first ∷ front) ++ us) (entries_are behind rest others) ∙ sym (uses_append (first ∷ front) behind) ∙ ap uses_of (sym es_are)

  first_clock : (place : ℕ) (first : Entry) (front : List Entry) (ls : List Line) → AreLinesFor sight.equations place (first ∷ front) ls → first.clock ≡ place
  first_clock place first front [] are = absurd are
  first_clock place first front (l ∷ ls) are = are.0.2

  pub coded : (es : List Entry) → ((e : Entry) → IsAmong e es → IsAmong e entries) → (stretches : List ClassStretch) (are : AreStretchesOf sight.equations s.model.names code.keys es stretches) → AreCoded s uses (Some partition) (at 0) t stretches (blocks_of es stretches are)
  coded es within [] none = tt
  coded es within (one ∷ rest) (first, front, behind, es_are, of, others) =
      let there : (e : Entry) → IsAmong e (first ∷ front) → IsAmong e entries = λ e h. within e (subst (IsAmong e) (sym es_are) (among_front (first ∷ front) behind e h)) in
      let among = there first (inl refl) in
      let lines = lines_of first among one.class (first_clock one.class first front of.lines of.are) (first ∷ front) of.lines there of.are in
      let tab = table one.class in (
        record {
          partition = ap (partition_of s) (sym (class_is first among)) ∙ start.of first among;
          stretch = of.stretch;
          lines = lines.0;
          alike = keyed_alike code.keys s 0 one.class;
          apart = tab.apart;
          celled = tab.celled of.lines lines.1 of.laid;
          booleans = tab.booleans;
          laid = tab.laid;
        },
        coded behind (λ e h. within e (subst (IsAmong e) (sym es_are) (among_behind (first ∷ front) behind e h))) rest others,
      )

  -- what is shown of the clock of an entry
  pub ticks_told : (e : Entry) → (among : IsAmong e entries) → tick_in (ticking_of sight.clocks) e.clock ≡ class_ticks s (with_row S m base) (class_of_equation s e.equation) m
  ticks_told e among = let entry = is_entry s uses before after partition S m base sight entries cells start e among in tick_found sight.clocks e.clock entry.clock entry.clock_found ∙ entry.told.ticks

  module _ (words : List ℤ) (filled : AreFilled sight cells code.keys words) (k : ℕ) (later : m ≡ suc k) where
    clock_set : (e : Entry) → IsAmong e entries → tick_in (ticking_of sight.clocks) e.clock ≡ true → IsClockSet s S m (class_of e) (at e.clock) t words
    clock_set e among tick =
        let entry = is_entry s uses before after partition S m base sight entries cells start e among in
        (words_set s S m base sight cells code.keys words is.whole (keys_told s uses before after partition S m base sight entries cells start code is k later) filled e.clock).1
        (class_of e) entry.clock entry.clock_found (sym (tick_found sight.clocks e.clock entry.clock entry.clock_found) ∙ tick)
        (subst (λ c. IsClockShown s S m base c entry.clock) (class_is e among) entry.told)

    pub told : (es : List Entry) → ((e : Entry) → IsAmong e es → IsAmong e entries) → (stretches : List ClassStretch) (are : AreStretchesOf sight.equations s.model.names code.keys es stretches) → AreShownBy s S m base (ticking_of sight.clocks) t words stretches (blocks_of es stretches are)
    told es within [] none = tt
    told es within (one ∷ rest) (first, front, behind, es_are, of, others) =
        let among = within first (subst (IsAmong first) (sym es_are) (inl refl)) in
        let clock = first_clock one.class first front of.lines of.are in (
          (
            ap (tick_in (ticking_of sight.clocks)) (sym clock) ∙ ticks_told first among ∙ ap (λ c. class_ticks s (with_row S m base) c m) (class_is first among),
            λ tick. subst (λ place. IsClockSet s S m (class_of first) (at place) t words) clock (clock_set first among (ap (tick_in (ticking_of sight.clocks)) clock ∙ tick)),
          ),
          told behind (λ e h. within e (subst (IsAmong e) (sym es_are) (among_behind (first ∷ front) behind e h))) rest others,
        )
