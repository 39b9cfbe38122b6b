-- The places of broken rules are short enough for a line.
use Rattle.std.proofs.Common.{◌≡◌, refl, sym, subst, ℕ, ◌<◌, ◌≤◌, inl, inr, List, [], length, get_or, Some, Err, slice_get, All, arith}
use Rattle.std.proofs.lemmas.Option.{slice_get_within, slice_get-get_or}
use Rattle.flat_model.specs.declared.model.FlatModel.{FlatModel}
use Rattle.flat_model.specs.declared.model.FlatName.{FlatName}
use Rattle.flat_model.specs.declared.clock.Clocking.{Clocking}
use Rattle.flat_model.specs.declared.place.Place.{Place}
use Rattle.flat_model.specs.declared.place.Place.TheVariants.{At, Equation, Name, Cell, Model, Table, Plan}
use Rattle.flat_model.specs.Models.{IsModel, IsName, AreNames}
use Rattle.flat_model.specs.Setting.{Setting}
use Rattle.flat_model.specs.Uses as uses_of_model
use Rattle.clock_terms.specs.declared.data.Classes.{Classes}
use Rattle.clock_terms.specs.Classing.{AreClassesOf, IsPlaceOf}
use Rattle.base_partition.specs.declared.kinds.ClassEnd.{ClassEnd}
use Rattle.base_partition.specs.declared.kinds.ClassEnd.TheVariants as class
use Rattle.base_partition.specs.Classified.{Classifies}
use Rattle.eq_order.specs.declared.ends.OrderCode.{OrderCode}
use Rattle.eq_order.specs.declared.ends.OrderCode.TheVariants.{Q1, Q2, Q3, Q4}
use Rattle.eq_order.specs.declared.ends.OrderEnd.{OrderEnd}
use Rattle.eq_order.specs.declared.ends.OrderEnd.TheVariants as order
use Rattle.eq_order.specs.Order as orders
use Rattle.input_table.specs.declared.ends.TableCode.{TableCode}
use Rattle.input_table.specs.declared.ends.TableCode.TheVariants.{I1, I2, I3, I4, I5, I6, I7}
use Rattle.input_table.specs.declared.ends.TableEnd.{TableEnd}
use Rattle.input_table.specs.declared.ends.TableEnd.TheVariants as table
use Rattle.input_table.specs.Fields.{Record}
use Rattle.input_table.specs.Tables as tables
use Rattle.input_table.specs.Tables.{no_header, no_time, no_input, missing, in_row, no_row}
use Rattle.typed_model.proofs.Lists.{all_at}
use Rattle.trace_print.specs.Refusals.{IsShort}
use Rattle.command_answer.specs.Layers.{Orders}
use Rattle.command_stages.specs.Ends.{IsPrintable, of_classes, of_order, of_table}

-- a name of a model is short
name_short : (names : List FlatName) → AreNames names → (x : ℕ) (name : FlatName) → slice_get names x ≡ Some name → length name.text ≤ 4500
name_short names are x name at = let is = (all_at IsName names x name are.each at).short in omega (arith, is)

-- and so is the place of a class
pub class_short : (flat : FlatModel) (classes : Classes) → IsModel flat → AreClassesOf flat classes → (c : ℕ) (p : Place) → slice_get classes.places c ≡ Some p → IsShort p
class_short flat classes is are c p at =
    let within = slice_get_within classes.places c p at in
    let count = are.lengths.places in
    let lt : c < length are.firsts = omega (arith, within, count) in
    by_place (get_or are.firsts c 0) (are.places c (get_or are.firsts c 0) p (slice_get-get_or are.firsts c 0 lt) at)
  where
    by_place : (first : ℕ) → IsPlaceOf flat first p → IsShort p
    by_place first (inl (name, named, same)) = subst (λ q. IsShort q) (sym same) (name_short flat.names is.names first name named)
    by_place first (inr (j, numbered, node, is_node, same)) = subst (λ q. IsShort q) (sym same) tt

pub places_short : (flat : FlatModel) (classes : Classes) → IsModel flat → AreClassesOf flat classes → All (λ p. IsShort p) classes.places
places_short flat classes is are c d lt = class_short flat classes is are c (get_or classes.places c d) (slice_get-get_or classes.places c d lt)

pub classes_short : (flat : FlatModel) → IsModel flat → (e : ClassEnd) → Classifies flat (Err e) → IsPrintable (of_classes e)
classes_short flat is (class.Mixed place) p = class_short flat p.classes is p.are p.class place p.is_place
classes_short flat is (class.BaseMixed i) p = tt
classes_short flat is class.NoMemory p = tt

order_place : (s : Setting) → IsModel s.model → (uses : List uses_of_model.Use) (code : OrderCode) (at : Place) → orders.Breaks s uses code at → IsShort at
order_place s is uses Q2 (Name text) (stuck, few, (x, name, least, named, same)) = subst (λ t. length t ≤ 4500) (sym same) (name_short s.model.names is.names x name named)
order_place s is uses Q1 (Name text) breaks = absurd breaks
order_place s is uses Q3 (Name text) breaks = absurd breaks
order_place s is uses Q4 (Name text) breaks = absurd breaks
order_place s is uses code (At line column) breaks = tt
order_place s is uses code (Equation i) breaks = tt
order_place s is uses code (Cell row column) breaks = tt
order_place s is uses code Model breaks = tt
order_place s is uses code Table breaks = tt
order_place s is uses code Plan breaks = tt

-- a setting of a model and its clocking
abbrev bare : FlatModel → Clocking → Setting
bare flat clocking = record { model = flat; clocking = clocking; table = record { times = []; columns = []; cells = [] }; instants = [] }

pub order_short : (flat : FlatModel) (clocking : Clocking) → IsModel flat → (e : OrderEnd) → Orders flat clocking (Err e) → IsPrintable (of_order e)
order_short flat clocking is (order.Fault code at) p = let (uses, are, breaks) = p (bare flat clocking) refl refl in order_place (bare flat clocking) is uses code at breaks
order_short flat clocking is order.NoMemory p = tt

table_place : (names : List FlatName) → AreNames names → (all : List Record) (code : TableCode) (at : Place) → tables.Breaks names all code at → IsShort at
table_place names are all code at no_header = tt
table_place names are all code at (no_time header records_ none) = tt
table_place names are all code at (no_input header records_ form begins column wrong first) = tt
table_place names are all code at (missing header records_ form begins right x name lack first) = name_short names are x name lack.found
table_place names are all code at (in_row header records_ form columns is own row column breaks) = tt
table_place names are all code at (no_row header form columns is) = tt

pub table_short : (flat : FlatModel) → IsModel flat → (all : List Record) (e : TableEnd) → tables.Answers flat.names all (Err e) → IsPrintable (of_table e)
table_short flat is all (table.Fault code at) p = table_place flat.names is.names all code at p
table_short flat is all table.NoMemory p = tt

none_place : (names : List FlatName) → AreNames names → (code : TableCode) (at : Place) → tables.AnswersNone names (Err (table.Fault code at)) → IsShort at
none_place names are I2 (Name text) (x, name, named, input, same, first) = subst (λ t. length t ≤ 4500) (sym same) (name_short names are x name named)
none_place names are I1 (Name text) p = absurd p
none_place names are I3 (Name text) p = absurd p
none_place names are I4 (Name text) p = absurd p
none_place names are I5 (Name text) p = absurd p
none_place names are I6 (Name text) p = absurd p
none_place names are I7 (Name text) p = absurd p
none_place names are code (At line column) p = tt
none_place names are code (Equation i) p = tt
none_place names are code (Cell row column) p = tt
none_place names are code Model p = tt
none_place names are code Table p = tt
none_place names are code Plan p = tt

pub no_table_short : (flat : FlatModel) → IsModel flat → (e : TableEnd) → tables.AnswersNone flat.names (Err e) → IsPrintable (of_table e)
no_table_short flat is (table.Fault code at) p = none_place flat.names is.names code at p
no_table_short flat is table.NoMemory p = tt
