-- A typed expression whose reads have cells is known.
use Rattle.std.proofs.Common.{◌≡◌, refl, ap, sym, subst, ◌∙◌, ℕ, suc, ◌+◌, ◌==◌, ◌&&◌, Bool, true, false, if◌then◌else◌, List, [], ◌∷◌, map, length, Option, Some, None, arith}
use Rattle.std.specs.List.{list_all}
use Rattle.std.specs.Option.{is_some}
use Rattle.std.proofs.lemmas.Bool.{false≢true, eq-eqb}
use Rattle.std.proofs.lemmas.Option.{same_Some, none-some}
use Rattle.sync_values.specs.declared.value.Value.{Value}
use Rattle.sync_values.specs.declared.value.Value.TheVariants as value
use Rattle.sync_values.specs.declared.value.ChainOp.{ChainOp}
use Rattle.sync_values.specs.declared.value.ChainOp.TheVariants.{Plus, Minus, Times, Over, And, Or}
use Rattle.flat_model.specs.declared.model.NameKind.{NameKind}
use Rattle.flat_model.specs.declared.model.NameKind.TheVariants as kind
use Rattle.flat_model.specs.declared.expression.Expr.{Expr}
use Rattle.flat_model.specs.declared.expression.Fun.{Fun}
use Rattle.flat_model.specs.declared.expression.Fun.TheVariants.{Div, Mod, Rem, Abs, Min, Max}
use Rattle.flat_model.specs.declared.clock.ClockExpr.{ClockExpr}
use Rattle.flat_model.specs.declared.clock.ClockExpr.TheOpen.{Expr-F}
use Rattle.flat_model.specs.declared.clock.ClockExpr.TheViews.{roll-Expr}
use Rattle.flat_model.specs.declared.clock.ClockExpr.TheFolds.{ind-Expr, fold-roll-Expr, map-Expr}
use Rattle.flat_model.specs.Typing.{Types, valued_type, type_of_value, is_value, is_type, goes_with, type_of_operator, type_if_all, chain_type, relation_type, if_type, arity, call_type, type_of_level, type_of}
use Rattle.flat_model.proofs.Typed.{both, if_some, typed_some, is_type_some, same_number}
use Rattle.step_code.specs.Code.{Cells, cells_before, Piece, Shape, shape_of, shape_of_level, pieces_at, piece_of, guarded, cell_piece, made, value_truth, all_known, all_truths, is_lazy, is_strict, is_chain, is_call, is_if, chain_code, chain_truth, if_code, call_code}
use Rattle.step_code.specs.Known.{Covering, all_covered, covered_level, covering_of, has_cells, AreMarked}
use Rattle.step_code.proofs.Emitting.{shape_roll}

-- ---- what tests tell

and_both : (a b : Bool) → a ≡ true → b ≡ true → a && b ≡ true
and_both true b h k = k
and_both false b h k = h

not_boolean : (t : NameKind) → kind.Integer ≡ t → t ≡ kind.Boolean → false ≡ true
not_boolean t is boolean = cc

boolean_name : (o : Option NameKind) → valued_type o ≡ Some kind.Boolean → o ≡ Some kind.Boolean
boolean_name (Some kind.Boolean) e = refl
boolean_name (Some kind.Integer) e = e
boolean_name (Some kind.Clock) e = absurd (none-some kind.Boolean e)
boolean_name None e = absurd (none-some kind.Boolean e)

-- ---- operators of a chain

lazy_one : (o q : ChainOp) → is_lazy o ≡ true → goes_with o q ≡ true → is_lazy q ≡ true
lazy_one Plus q a b = absurd (false≢true a)
lazy_one Minus q a b = absurd (false≢true a)
lazy_one Times q a b = absurd (false≢true a)
lazy_one Over q a b = absurd (false≢true a)
lazy_one And And a b = refl
lazy_one Or Or a b = refl
lazy_one And q a b = absurd (false≢true b)
lazy_one Or q a b = absurd (false≢true b)

lazy_all : (o : ChainOp) (ops : List ChainOp) → is_lazy o ≡ true → list_all (goes_with o) ops ≡ true → list_all is_lazy ops ≡ true
lazy_all o [] a b = refl
lazy_all o (q ∷ ops) a b =
    let two = both (goes_with o q) _ b in
    and_both (is_lazy q) (list_all is_lazy ops) (lazy_one o q a two.0) (lazy_all o ops a two.1)

strict_one : (o q : ChainOp) → is_strict o ≡ true → goes_with o q ≡ true → is_strict q ≡ true
strict_one And q a b = absurd (false≢true a)
strict_one Or q a b = absurd (false≢true a)
strict_one o Plus a b = refl
strict_one o Minus a b = refl
strict_one o Times a b = refl
strict_one o Over a b = refl
strict_one Plus And a b = absurd (false≢true b)
strict_one Plus Or a b = absurd (false≢true b)
strict_one Minus And a b = absurd (false≢true b)
strict_one Minus Or a b = absurd (false≢true b)
strict_one Times And a b = absurd (false≢true b)
strict_one Times Or a b = absurd (false≢true b)
strict_one Over And a b = absurd (false≢true b)
strict_one Over Or a b = absurd (false≢true b)

strict_all : (o : ChainOp) (ops : List ChainOp) → is_strict o ≡ true → list_all (goes_with o) ops ≡ true → list_all is_strict ops ≡ true
strict_all o [] a b = refl
strict_all o (q ∷ ops) a b =
    let two = both (goes_with o q) _ b in
    and_both (is_strict q) (list_all is_strict ops) (strict_one o q a two.0) (strict_all o ops a two.1)

-- the tests of a chain but that of its length
abbrev chain_ops : ChainOp → List ChainOp → Piece → Piece → List Piece → Bool
chain_ops o ops p q ps = if is_lazy o then list_all is_lazy ops && (p.truth && (q.truth && all_truths ps)) else list_all is_strict ops

chain_shape : (o : ChainOp) (ops : List ChainOp) (p q : Piece) (ps : List Piece) (t : NameKind) → type_of_operator o ≡ Some t → list_all (goes_with o) ops ≡ true → (t ≡ kind.Boolean → all_truths (p ∷ q ∷ ps) ≡ true) → chain_ops o ops p q ps ≡ true
chain_shape Plus ops p q ps t is goes truths = strict_all Plus ops refl goes
chain_shape Minus ops p q ps t is goes truths = strict_all Minus ops refl goes
chain_shape Times ops p q ps t is goes truths = strict_all Times ops refl goes
chain_shape Over ops p q ps t is goes truths = absurd (none-some t is)
chain_shape And ops p q ps t is goes truths = and_both (list_all is_lazy ops) _ (lazy_all And ops refl goes) (truths (sym (same_Some kind.Boolean t is)))
chain_shape Or ops p q ps t is goes truths = and_both (list_all is_lazy ops) _ (lazy_all Or ops refl goes) (truths (sym (same_Some kind.Boolean t is)))

lazy_type : (o : ChainOp) (t : NameKind) → type_of_operator o ≡ Some t → t ≡ kind.Boolean → is_lazy o ≡ true
lazy_type Plus t is boolean = not_boolean t (same_Some kind.Integer t is) boolean
lazy_type Minus t is boolean = not_boolean t (same_Some kind.Integer t is) boolean
lazy_type Times t is boolean = not_boolean t (same_Some kind.Integer t is) boolean
lazy_type Over t is boolean = absurd (none-some t is)
lazy_type And t is boolean = refl
lazy_type Or t is boolean = refl

-- what the type of a chain tells
record IsTyped (parts : List (Option NameKind)) (o : ChainOp) (ops : List ChainOp) (type : NameKind) : Type 0 where
  pub operator : type_of_operator o ≡ Some type
  pub goes : list_all (goes_with o) ops ≡ true
  pub each : list_all (is_type type) parts ≡ true
  pub long : length parts ≡ length ops + 2

chain_typed : (parts : List (Option NameKind)) (o : ChainOp) (ops : List ChainOp) (type : NameKind) → chain_type parts (o ∷ ops) ≡ Some type → IsTyped parts o ops type
chain_typed parts o ops type e =
    let two = if_some (length parts == length ops + 2 && list_all (goes_with o) ops) (type_if_all (type_of_operator o) parts) type e in
    let tests = both (length parts == length ops + 2) (list_all (goes_with o) ops) two.0 in
    next (type_of_operator o) refl two.1 (same_number _ _ tests.0) tests.1
  where
    next : (t : Option NameKind) → type_of_operator o ≡ t → type_if_all t parts ≡ Some type → length parts ≡ length ops + 2 → list_all (goes_with o) ops ≡ true → IsTyped parts o ops type
    next None is e long goes = absurd (none-some type e)
    next (Some t) is e long goes =
        let of = typed_some (list_all (is_type t) parts) t type e in
        record {
          operator = is ∙ ap Some of.1;
          goes = goes;
          each = subst (λ u. list_all (is_type u) parts ≡ true) of.1 of.0;
          long = long;
        }

-- ---- one level

-- known, and as a truth value where it is of type Boolean
record KnownAs (type : NameKind) (p : Piece) : Type 0 where
  pub known : p.known ≡ true
  pub truth : type ≡ kind.Boolean → p.truth ≡ true

cell_known : (type : NameKind) (o : Option ℕ) (truth : Bool) → is_some o ≡ true → (type ≡ kind.Boolean → truth ≡ true) → KnownAs type (cell_piece o truth)
cell_known type None truth some is = absurd (false≢true some)
cell_known type (Some c) truth some is = record { known = refl; truth = is }

guarded_known : (o : Option ℕ) (unfit : ℕ) → is_some o ≡ true → KnownAs kind.Integer (guarded o unfit)
guarded_known None unfit some = absurd (false≢true some)
guarded_known (Some c) unfit some = record { known = refl; truth = not_boolean kind.Integer refl }

const_truth : (v : Value) (type : NameKind) → type_of_value v ≡ type → type ≡ kind.Boolean → value_truth v ≡ true
const_truth (value.Int z) type is boolean = not_boolean type is boolean
const_truth (value.Bool b) type is boolean = refl

none_called : (function : Fun) → 0 ≡ arity function → ⊥
none_called Abs e = omega (arith, e)
none_called Div e = omega (arith, e)
none_called Mod e = omega (arith, e)
none_called Rem e = omega (arith, e)
none_called Min e = omega (arith, e)
none_called Max e = omega (arith, e)

many_called : (function : Fun) (n : ℕ) → suc (suc (suc n)) ≡ arity function → ⊥
many_called Abs n e = omega (arith, e)
many_called Div n e = omega (arith, e)
many_called Mod n e = omega (arith, e)
many_called Rem n e = omega (arith, e)
many_called Min n e = omega (arith, e)
many_called Max n e = omega (arith, e)

covering_roll : (y : Expr-F ClockExpr Expr) → covering_of (roll-Expr y) ≡ covered_level (map-Expr ClockExpr Expr (Unit {0}) Covering (λ _. tt) covering_of y)
unfolding covering_of
covering_roll y = fold-roll-Expr (Unit {0}) Covering (λ _. tt) covered_level y

module _ (types : Types) where
  abbrev Knows : Expr → Type 0
  Knows e = (at : Cells) → AreMarked types at → (type : NameKind) → type_of types e ≡ Some type → has_cells at e ≡ true → KnownAs type (piece_of at e)

  type_roll : (y : Expr-F ClockExpr Expr) → type_of types (roll-Expr y) ≡ type_of_level types (map-Expr ClockExpr Expr (Unit {0}) (Option NameKind) (λ _. tt) (type_of types) y)
  unfolding type_of
  type_roll y = fold-roll-Expr (Unit {0}) (Option NameKind) (λ _. tt) (type_of_level types) y

  marked : (at : Cells) → AreMarked types at → (x : ℕ) (type : NameKind) → valued_type (types x) ≡ Some type → type ≡ kind.Boolean → (at 0).truth x ≡ true
  marked at marks x type typed boolean = marks 0 x (boolean_name (types x) (typed ∙ ap Some boolean))

  module _ {A B : Type 0} (f : A → ClockExpr) (g : B → Expr) (all : (b : B) → Knows (g b)) where
    abbrev pieces : Cells → List B → List Piece
    pieces at zs = pieces_at at (map shape_of (map g zs))

    abbrev kinds : List B → List (Option NameKind)
    kinds zs = map (type_of types) (map g zs)

    abbrev covered : Cells → List B → Bool
    covered at zs = all_covered at (map covering_of (map g zs))

    parts_known : (at : Cells) → AreMarked types at → (type : NameKind) (zs : List B) → list_all (is_type type) (kinds zs) ≡ true → covered at zs ≡ true → all_known (pieces at zs) ≡ true
    parts_known at marks type [] typed cells = refl
    parts_known at marks type (z ∷ zs) typed cells =
        let t = both (is_type type (type_of types (g z))) _ typed in
        let c = both (has_cells at (g z)) _ cells in
        and_both (piece_of at (g z)).known _ (all z at marks type (is_type_some type _ t.0) c.0).known (parts_known at marks type zs t.1 c.1)

    parts_truths : (at : Cells) → AreMarked types at → (type : NameKind) → type ≡ kind.Boolean → (zs : List B) → list_all (is_type type) (kinds zs) ≡ true → covered at zs ≡ true → all_truths (pieces at zs) ≡ true
    parts_truths at marks type boolean [] typed cells = refl
    parts_truths at marks type boolean (z ∷ zs) typed cells =
        let t = both (is_type type (type_of types (g z))) _ typed in
        let c = both (has_cells at (g z)) _ cells in
        and_both (piece_of at (g z)).truth _ ((all z at marks type (is_type_some type _ t.0) c.0).truth boolean) (parts_truths at marks type boolean zs t.1 c.1)

    same_length : (at : Cells) (zs : List B) → length (pieces at zs) ≡ length (kinds zs)
    same_length at [] = refl
    same_length at (z ∷ zs) = ap suc (same_length at zs)

    chain_long : (at : Cells) → AreMarked types at → (type : NameKind) (zs : List B) (o : ChainOp) (ops : List ChainOp) → IsTyped (kinds zs) o ops type → covered at zs ≡ true → is_chain (o ∷ ops) (pieces at zs) ≡ true
    chain_long at marks type [] o ops is cells = absurd (let long = is.long in omega (arith, long))
    chain_long at marks type (y ∷ []) o ops is cells = absurd (let long = is.long in omega (arith, long))
    chain_long at marks type (y ∷ z ∷ zs) o ops is cells =
        let long = is.long in
        let size = same_length at zs in
        let same : length ops ≡ length (pieces at zs) = omega (arith, long, size) in
        and_both (length ops == length (pieces at zs)) _ (eq-eqb _ _ same)
        (chain_shape o ops (piece_of at (g y)) (piece_of at (g z)) (pieces at zs) type is.operator is.goes (λ boolean. parts_truths at marks type boolean (y ∷ z ∷ zs) is.each cells))

    chain_known : (at : Cells) → AreMarked types at → (type : NameKind) (zs : List B) (ops : List ChainOp) → chain_type (kinds zs) ops ≡ Some type → covered at zs ≡ true
        → KnownAs type (made (chain_code ops (pieces at zs)) (is_chain ops (pieces at zs) && all_known (pieces at zs)) (chain_truth ops))
    chain_known at marks type zs [] typed cells = absurd (none-some type typed)
    chain_known at marks type zs (o ∷ ops) typed cells =
        let is = chain_typed (kinds zs) o ops type typed in
        record {
          known = and_both (is_chain (o ∷ ops) (pieces at zs)) _ (chain_long at marks type zs o ops is cells) (parts_known at marks type zs is.each cells);
          truth = λ boolean. lazy_type o type is.operator boolean;
        }

    relation_known : (at : Cells) → AreMarked types at → (type : NameKind) (p q : B) (o : Option NameKind) → type_of types (g p) ≡ o → relation_type o (type_of types (g q)) ≡ Some type → has_cells at (g p) && has_cells at (g q) ≡ true
        → (piece_of at (g p)).known && (piece_of at (g q)).known ≡ true
    relation_known at marks type p q None is typed cells = absurd (none-some type typed)
    relation_known at marks type p q (Some t) is typed cells =
        let of = typed_some (is_type t (type_of types (g q))) kind.Boolean type typed in
        let c = both (has_cells at (g p)) _ cells in
        and_both (piece_of at (g p)).known _ (all p at marks t is c.0).known (all q at marks t (is_type_some t _ of.0) c.1).known

    if_shape : (at : Cells) (cs bs : List B) → length (kinds bs) ≡ length (kinds cs) → is_if (pieces at cs) (pieces at bs) ≡ true
    if_shape at [] [] long = refl
    if_shape at [] (b ∷ bs) long = absurd (omega (arith, long))
    if_shape at (c ∷ cs) [] long = absurd (omega (arith, long))
    if_shape at (c ∷ cs) (b ∷ bs) long = if_shape at cs bs (omega (arith, long))

    if_known : (at : Cells) → AreMarked types at → (type : NameKind) (cs bs : List B) (other : B) (o : Option NameKind) → type_of types (g other) ≡ o → if_type (kinds cs) (kinds bs) o ≡ Some type
        → covered at cs && (covered at bs && has_cells at (g other)) ≡ true
        → KnownAs type (made (if_code (pieces at cs) (pieces at bs) (piece_of at (g other))) (is_if (pieces at cs) (pieces at bs) && (all_known (pieces at cs) && (all_known (pieces at bs) && (piece_of at (g other)).known))) (all_truths (pieces at bs) && (piece_of at (g other)).truth))
    if_known at marks type cs bs other None is typed cells = absurd (none-some type typed)
    if_known at marks type cs bs other (Some t) is typed cells =
        let of = typed_some _ t type typed in
        let one = both _ (list_all (is_type t) (kinds bs)) of.0 in
        let two = both _ (list_all (is_type kind.Boolean) (kinds cs)) one.0 in
        let three = both _ (length (kinds bs) == length (kinds cs)) two.0 in
        let c = both (covered at cs) _ cells in
        let d = both (covered at bs) _ c.1 in
        let last = all other at marks t is d.1 in
        let bodies = parts_known at marks t bs one.1 d.0 in
        let tests = parts_known at marks kind.Boolean cs two.1 c.0 in
        record {
          known =
              and_both (is_if (pieces at cs) (pieces at bs)) _ (if_shape at cs bs (same_number _ _ three.1))
              (and_both (all_known (pieces at cs)) _ tests (and_both (all_known (pieces at bs)) _ bodies last.known));
          truth = λ boolean.
              and_both (all_truths (pieces at bs)) _ (parts_truths at marks t (of.1 ∙ boolean) bs one.1 d.0) (last.truth (of.1 ∙ boolean));
        }

    call_shape : (at : Cells) (function : Fun) (zs : List B) → length (kinds zs) ≡ arity function → is_call (pieces at zs) ≡ true
    call_shape at function [] long = absurd (none_called function long)
    call_shape at function (x ∷ []) long = refl
    call_shape at function (x ∷ y ∷ []) long = refl
    call_shape at function (x ∷ y ∷ z ∷ zs) long = absurd (many_called function (length (kinds zs)) long)

    call_known : (at : Cells) → AreMarked types at → (function : Fun) (type : NameKind) (zs : List B) → call_type function (kinds zs) ≡ Some type → covered at zs ≡ true
        → KnownAs type (made (call_code function (pieces at zs)) (is_call (pieces at zs) && all_known (pieces at zs)) false)
    call_known at marks function type zs typed cells =
        let of = typed_some _ kind.Integer type typed in
        let two = both (length (kinds zs) == arity function) _ of.0 in
        record {
          known = and_both (is_call (pieces at zs)) _ (call_shape at function zs (same_number _ _ two.0)) (parts_known at marks kind.Integer zs two.1 cells);
          truth = not_boolean type of.1;
        }

    level_known : (y : Expr-F A B) (at : Cells) → AreMarked types at → (type : NameKind)
        → type_of_level types (map-Expr ClockExpr Expr (Unit {0}) (Option NameKind) (λ _. tt) (type_of types) (map-Expr A B ClockExpr Expr f g y)) ≡ Some type
        → covered_level (map-Expr ClockExpr Expr (Unit {0}) Covering (λ _. tt) covering_of (map-Expr A B ClockExpr Expr f g y)) at ≡ true
        → KnownAs type (shape_of_level (map-Expr ClockExpr Expr (Unit {0}) Shape (λ _. tt) shape_of (map-Expr A B ClockExpr Expr f g y)) at)
    level_known (Expr-F.Const v) at marks type typed cells =
        let of = typed_some (is_value v) (type_of_value v) type typed in
        cell_known type ((at 0).const v) (value_truth v) cells (λ boolean. const_truth v type of.1 boolean)
    level_known (Expr-F.Read x) at marks type typed cells = cell_known type ((at 0).now x) ((at 0).truth x) cells (marked at marks x type typed)
    level_known (Expr-F.Chain ps ops) at marks type typed cells = chain_known at marks type ps ops typed cells
    level_known (Expr-F.Relation rel p q) at marks type typed cells = record {
      known = relation_known at marks type p q (type_of types (g p)) refl typed cells;
      truth = λ boolean. refl;
    }
    level_known (Expr-F.Neg p) at marks type typed cells =
        let of = typed_some (is_type kind.Integer (type_of types (g p))) kind.Integer type typed in
        record {
          known = (all p at marks kind.Integer (is_type_some kind.Integer _ of.0) cells).known;
          truth = not_boolean type of.1;
        }
    level_known (Expr-F.Not p) at marks type typed cells =
        let of = typed_some (is_type kind.Boolean (type_of types (g p))) kind.Boolean type typed in
        record {
          known = (all p at marks kind.Boolean (is_type_some kind.Boolean _ of.0) cells).known;
          truth = λ boolean. refl;
        }
    level_known (Expr-F.If cs bs other) at marks type typed cells = if_known at marks type cs bs other (type_of types (g other)) refl typed cells
    level_known (Expr-F.Apply function ps) at marks type typed cells = call_known at marks function type ps typed cells
    level_known (Expr-F.Previous x) at marks type typed cells = cell_known type ((at 0).previous x) ((at 0).truth x) cells (marked at marks x type typed)
    level_known (Expr-F.FirstTick x) at marks type typed cells = cell_known type (at 0).first true cells (λ boolean. refl)
    level_known (Expr-F.IntervalTimes x k) at marks type typed cells =
        subst (λ t. KnownAs t (guarded ((at 0).interval k) ((at 0).unfit k))) (same_Some kind.Integer type typed) (guarded_known ((at 0).interval k) ((at 0).unfit k) cells)
    level_known (Expr-F.Hold x) at marks type typed cells = cell_known type ((at 0).last x) ((at 0).truth x) cells (marked at marks x type typed)
    level_known (Expr-F.«Expr::Convert» conversion x) at marks type typed cells = cell_known type ((at 0).last x) ((at 0).truth x) cells (marked at marks x type typed)
    level_known (Expr-F.Sample p clock) at marks type typed cells = all p (cells_before at) (λ k x is. marks (k + 1) x is) type typed cells

    rolled : (y : Expr-F A B) → Knows (roll-Expr (map-Expr A B ClockExpr Expr f g y))
    rolled y at marks type typed cells =
        let z = map-Expr A B ClockExpr Expr f g y in
        let piece : piece_of at (roll-Expr z) ≡ shape_of_level (map-Expr ClockExpr Expr (Unit {0}) Shape (λ _. tt) shape_of z) at = ap (λ h. h at) (shape_roll z) in
        subst (KnownAs type) (sym piece) (level_known y at marks type (sym (type_roll z) ∙ typed) (sym (ap (λ h. h at) (covering_roll z)) ∙ cells))

  knows : (e : Expr) → Knows e
  knows = ind-Expr (λ c. Unit {0}) Knows (λ x y is. tt) (λ x y is. subst (λ z. Knows (roll-Expr z)) is (rolled (λ c. c.0) (λ e. e.0) (λ e. e.1) y))

-- a typed expression whose reads have cells is known
pub typed_known : (types : Types) (at : Cells) → AreMarked types at → (e : Expr) (type : NameKind) → type_of types e ≡ Some type → has_cells at e ≡ true → (piece_of at e).known ≡ true
typed_known types at marks e type typed cells = (knows types e at marks type typed cells).known
