-- The table of the cells of keys is one over which code may run.
use Rattle.std.proofs.Common.{◌≡◌, refl, ap, sym, ◌∙◌, ℕ, zero, suc, ◌&&◌, Bool, true, false, List, [], ◌∷◌, length, Option, Some, None, unwrap_or, arith}
use Rattle.std.proofs.lemmas.Bool.{false≢true}
use Rattle.std.proofs.lemmas.Option.{same_Some, none-some}
use Rattle.sync_values.specs.Relation.{rank}
use Rattle.sync_values.specs.declared.value.Value.{Value}
use Rattle.flat_model.specs.declared.expression.Expr.{Expr}
use Rattle.sync_values.specs.declared.value.ChainOp.TheVariants.{And}
use Rattle.flat_model.specs.declared.expression.Expr.TheVariants.{Chain, rolls-Chain}
use Rattle.flat_model.specs.declared.clock.ClockExpr.TheOpen.{Expr-F}
use Rattle.flat_model.specs.declared.clock.ClockExpr.TheFolds.{fold-roll-Expr}
use Rattle.flat_model.specs.declared.model.FlatName.{FlatName}
use Rattle.flat_model.specs.declared.model.NameKind.{NameKind}
use Rattle.flat_model.specs.declared.model.NameKind.TheVariants as kind
use Rattle.flat_model.specs.Setting.{Setting}
use Rattle.flat_model.specs.Typing.{Types, types_in, type_of, type_of_level, chain_type, valued_type}
use Rattle.cell_keys.specs.declared.key.CellKey.{CellKey}
use Rattle.cell_keys.specs.declared.key.CellKey.TheVariants as key
use Rattle.cell_keys.specs.Cells.{cell_of}
use Rattle.cell_keys.specs.declared.sight.Sight.TheVariants.{Now}
use Rattle.cell_keys.proofs.Distinct.{one_key, cell_below}
use Rattle.step_code.specs.Code.{Cells, piece_of, is_chain}
use Rattle.part_layout.specs.Keyed.{is_boolean, keyed_cells}
use Rattle.step_code.specs.Known.{Covering, covered_level, covering_of, AreMarked, has_cells}
use Rattle.step_code.specs.Lines.{Line, AreApart, IsLine, IsNoCell}
use Rattle.step_code.proofs.Known.{typed_known}
use Rattle.step_code.proofs.Pieces.{piece_of-Chain}
use Rattle.side_theory.specs.Kept.{IsLaidOut}
use Rattle.side_theory.specs.Runs.{AreCelled}
use Rattle.side_theory.specs.SetOn.{AreNoClockCells}
use Rattle.part_layout.specs.LayoutLaws.{HasAll, AreLaid, IsTypedLine, AreTypedLines, IsTable}
use Rattle.part_layout.specs.Reads.{keys_read}
use Rattle.part_layout.proofs.Covering.{covered}

-- ---- the type of two truth values joined

-- a side twice, joined by `and`
abbrev joined : Expr → Expr
joined e = Chain (e ∷ (e ∷ [])) (And ∷ [])

type_of-joined : (types : Types) (e : Expr) → type_of types e ≡ Some kind.Boolean → type_of types (joined e) ≡ Some kind.Boolean
unfolding type_of
type_of-joined types e typed =
    ap (type_of types) (sym (rolls-Chain (e ∷ (e ∷ [])) (And ∷ []))) ∙ fold-roll-Expr (Unit {0}) (Option NameKind) (λ _. tt) (type_of_level types) (Expr-F.Chain (e ∷ (e ∷ [])) (And ∷ []))
    ∙ ap (λ o. chain_type (o ∷ (o ∷ [])) (And ∷ [])) typed

has_cells-joined : (at : Cells) (e : Expr) → has_cells at e ≡ true → has_cells at (joined e) ≡ true
unfolding covering_of
has_cells-joined at e has =
    ap (λ d. has_cells at d) (sym (rolls-Chain (e ∷ (e ∷ [])) (And ∷ []))) ∙ ap (λ h. h at) (fold-roll-Expr (Unit {0}) Covering (λ _. tt) covered_level (Expr-F.Chain (e ∷ (e ∷ [])) (And ∷ [])))
    ∙ ap (λ b. b && (b && true)) has

both : (a b : Bool) → a && b ≡ true → (a ≡ true) × (b ≡ true)
both true b h = (refl, h)
both false b h = absurd (false≢true h)

-- a side of type Boolean is a truth value, since it may be joined by `and`
typed_truth : (types : Types) (at : Cells) → AreMarked types at → (e : Expr) → type_of types e ≡ Some kind.Boolean → has_cells at e ≡ true → (piece_of at e).truth ≡ true
typed_truth types at marks e typed has =
    let known : (piece_of at (joined e)).known ≡ true = typed_known types at marks (joined e) kind.Boolean (type_of-joined types e typed) (has_cells-joined at e has) in
    let chain = both (is_chain (And ∷ []) (piece_of at e ∷ (piece_of at e ∷ []))) _ (sym (ap (λ p. p.known) (piece_of-Chain at (e ∷ (e ∷ [])) (And ∷ []))) ∙ known) in
    (both (piece_of at e).truth _ chain.0).0

-- ---- keys of two kinds

same_value : (x y : ℕ) → key.Value x ≡ key.Value y → x ≡ y
same_value x y e = cc

abbrev is_value : CellKey → Bool
is_value (key.Value x) = true
is_value _ = false

other_key : (x : ℕ) (k : CellKey) → is_value k ≡ false → key.Value x ≡ k → ⊥
other_key x k other e = false≢true (sym other ∙ sym (ap is_value e))

module _ (keys : List CellKey) (names : List FlatName) (class : ℕ) where
  abbrev at : Cells
  at = keyed_cells keys names class

  -- the cell of a name's value is that of no other key
  other_cell : (x c : ℕ) (k : CellKey) → is_value k ≡ false → cell_of keys (key.Value x) ≡ Some c → cell_of keys k ≡ Some c → ⊥
  other_cell x c k other of_x of_k = other_key x k other (one_key keys (key.Value x) k c of_x of_k)

  -- the cell that tells what does not fit is no cell of a name's value, where there is one and where there is none
  unfit_cell : (x u : ℕ) (o : Option ℕ) (k : CellKey) → is_value k ≡ false → cell_of keys k ≡ o → unwrap_or o (length keys) ≡ u → cell_of keys (key.Value x) ≡ Some u → ⊥
  unfit_cell x u None k other none is of_x = (let below = cell_below keys (key.Value x) u of_x in omega (arith, below, is))
  unfit_cell x u (Some v) k other some is of_x = other_cell x u k other of_x (some ∙ ap Some is)

  behind_all : (x u : ℕ) → length keys ≡ u → cell_of keys (key.Value x) ≡ Some u → ⊥
  behind_all x u is of_x = (let below = cell_below keys (key.Value x) u of_x in omega (arith, below, is))

  pub laid : IsLaidOut at
  laid = record {
    last = λ x c is. is;
    previous = previous;
    first = first;
    interval = interval;
    far = λ k x. refl;
    far_last = λ k x. refl;
  }
    where
      previous : (k x : ℕ) → (at (suc k)).previous x ≡ None
      previous zero x = refl
      previous (suc k) x = refl

      first : (k : ℕ) → (at (suc k)).first ≡ None
      first zero = refl
      first (suc k) = refl

      interval : (k n : ℕ) → (at (suc k)).interval n ≡ None
      interval zero n = refl
      interval (suc k) n = refl

  pub apart : AreApart at
  apart = record {
    now = λ x y c a b. same_value x y (one_key keys (key.Value x) (key.Value y) c a b);
    left = left;
    previous = previous;
    last = λ x y c a b. same_value x y (one_key keys (key.Value x) (key.Value y) c a b);
    left_last = left_last;
    const = const;
    first = first;
    interval = interval;
    unfit = unfit;
  }
    where
      left : (k x y c : ℕ) → (at 0).now x ≡ Some c → (at (suc k)).now y ≡ Some c → ⊥
      left zero x y c a b = other_cell x c (key.Left y) refl a b
      left (suc k) x y c a b = none-some c b

      left_last : (k x y c : ℕ) → (at 0).now x ≡ Some c → (at (suc k)).last y ≡ Some c → ⊥
      left_last zero x y c a b = other_cell x c (key.LeftLast y) refl a b
      left_last (suc k) x y c a b = none-some c b

      previous : (k x y c : ℕ) → (at 0).now x ≡ Some c → (at k).previous y ≡ Some c → ⊥
      previous zero x y c a b = other_cell x c (key.Previous y) refl a b
      previous (suc zero) x y c a b = none-some c b
      previous (suc (suc k)) x y c a b = none-some c b

      const : (k x c : ℕ) (v : Value) → (at 0).now x ≡ Some c → (at k).const v ≡ Some c → ⊥
      const zero x c v a b = other_cell x c (key.Constant (rank v)) refl a b
      const (suc zero) x c v a b = other_cell x c (key.Constant (rank v)) refl a b
      const (suc (suc k)) x c v a b = other_cell x c (key.Constant (rank v)) refl a b

      first : (k x c : ℕ) → (at 0).now x ≡ Some c → (at k).first ≡ Some c → ⊥
      first zero x c a b = other_cell x c (key.First class) refl a b
      first (suc zero) x c a b = none-some c b
      first (suc (suc k)) x c a b = none-some c b

      interval : (k x n c : ℕ) → (at 0).now x ≡ Some c → (at k).interval n ≡ Some c → ⊥
      interval zero x n c a b = other_cell x c (key.Interval class n) refl a b
      interval (suc zero) x n c a b = none-some c b
      interval (suc (suc k)) x n c a b = none-some c b

      unfit : (k x n : ℕ) → (at 0).now x ≡ Some ((at k).unfit n) → ⊥
      unfit zero x n a = unfit_cell x _ (cell_of keys (key.Unfit class n)) (key.Unfit class n) refl refl refl a
      unfit (suc zero) x n a = behind_all x _ refl a
      unfit (suc (suc k)) x n a = behind_all x _ refl a

  boolean_type : (o : Option NameKind) → is_boolean o ≡ true → o ≡ Some kind.Boolean
  boolean_type (Some kind.Boolean) e = refl
  boolean_type (Some kind.Integer) e = absurd (false≢true e)
  boolean_type (Some kind.Clock) e = absurd (false≢true e)
  boolean_type None e = absurd (false≢true e)

  pub booleans : (k x : ℕ) → (at k).truth x ≡ true → types_in names x ≡ Some kind.Boolean
  booleans zero x is = boolean_type (types_in names x) is
  booleans (suc zero) x is = boolean_type (types_in names x) is
  booleans (suc (suc k)) x is = boolean_type (types_in names x) is

  marked : AreMarked (types_in names) at
  marked zero x is = ap is_boolean is
  marked (suc zero) x is = ap is_boolean is
  marked (suc (suc k)) x is = ap is_boolean is

  no_cell : (c : ℕ) (k : CellKey) → is_value k ≡ false → cell_of keys k ≡ Some c → (ls : List Line) → AreLaid keys class ls → IsNoCell c ls
  no_cell c k other of_k [] laid_ls = tt
  no_cell c k other of_k (l ∷ ls) laid_ls = (λ is. other_cell l.name c k other (laid_ls.0.0 ∙ ap Some (sym is)) of_k, no_cell c k other of_k ls laid_ls.1)

  no_unfit : (n : ℕ) (o : Option ℕ) → cell_of keys (key.Unfit class n) ≡ o → (ls : List Line) → AreLaid keys class ls → IsNoCell (unwrap_or o (length keys)) ls
  no_unfit n o is [] laid_ls = tt
  no_unfit n o is (l ∷ ls) laid_ls = (λ same. unfit_cell l.name l.cell o (key.Unfit class n) refl is same laid_ls.0.0, no_unfit n o is ls laid_ls.1)

  pub clock_cells : (ls : List Line) → AreLaid keys class ls → AreNoClockCells at ls
  clock_cells ls laid_ls = record {
    first = λ c is. no_cell c (key.First class) refl is ls laid_ls;
    interval = λ n c is. (no_cell c (key.Interval class n) refl is ls laid_ls, no_unfit n (cell_of keys (key.Unfit class n)) refl ls laid_ls);
  }

module _ (s : Setting) (keys : List CellKey) (class : ℕ) where
  abbrev cells : Cells
  cells = keyed_cells keys s.model.names class

  abbrev types : ℕ → Option NameKind
  types = types_in s.model.names

  boolean_kind : (o : Option NameKind) (type : NameKind) → valued_type o ≡ Some type → is_boolean o ≡ true → type ≡ kind.Boolean
  boolean_kind (Some kind.Boolean) type e is = sym (same_Some kind.Boolean type e)
  boolean_kind (Some kind.Integer) type e is = absurd (false≢true is)
  boolean_kind (Some kind.Clock) type e is = absurd (false≢true is)
  boolean_kind None type e is = absurd (false≢true is)

  one_line : (l : Line) → IsTypedLine s l → (cell_of keys (key.Value l.name) ≡ Some l.cell) × HasAll keys (keys_read l.side class Now) → IsLine cells (length keys) l
  one_line l typed laid_l =
      let has : has_cells cells l.side ≡ true = covered keys s.model.names class l.side typed.plain laid_l.1 in
      record {
        known = typed_known types cells (marked keys s.model.names class) l.side typed.type typed.side has;
        cell = laid_l.0;
        below = cell_below keys (key.Value l.name) l.cell laid_l.0;
        kept = λ c is_c. same_Some c l.cell (sym is_c ∙ laid_l.0);
        truth = λ truth. typed_truth types cells (marked keys s.model.names class) l.side (typed.side ∙ ap Some (boolean_kind (types l.name) typed.type typed.name truth)) has;
      }

  all_celled : (ls : List Line) → AreTypedLines s ls → AreLaid keys class ls → AreCelled cells (length keys) ls
  all_celled [] typed laid_ls = tt
  all_celled (l ∷ ls) typed laid_ls = (one_line l typed.0 laid_ls.0, all_celled ls typed.1 laid_ls.1)

pub is_table : (s : Setting) (keys : List CellKey) (class : ℕ) → IsTable s keys class (keyed_cells keys s.model.names class)
is_table s keys class = record {
  laid = laid keys s.model.names class;
  apart = apart keys s.model.names class;
  booleans = booleans keys s.model.names class;
  celled = all_celled s keys class;
  clock = clock_cells keys s.model.names class;
}
