-- How a command that ends early in one of its stages ends in the chain.
use Rattle.std.proofs.Common.{◌≡◌, refl, sym, subst, inl, inr, Some, None, Result, Ok, Err, IfErr}
use Rattle.std.specs.Result.{IsErrAnd}
use Rattle.flat_answer.specs.declared.end.FlattenEnd.{FlattenEnd}
use Rattle.flat_answer.specs.declared.end.FlattenEnd.TheVariants as flatten
use Rattle.flat_types.specs.declared.ends.TypeEnd.{TypeEnd}
use Rattle.flat_types.specs.declared.ends.TypeEnd.TheVariants as type
use Rattle.base_partition.specs.declared.kinds.ClassEnd.{ClassEnd}
use Rattle.base_partition.specs.declared.kinds.ClassEnd.TheVariants as class
use Rattle.eq_order.specs.declared.ends.OrderEnd.{OrderEnd}
use Rattle.eq_order.specs.declared.ends.OrderEnd.TheVariants as order
use Rattle.input_table.specs.declared.ends.TableEnd.{TableEnd}
use Rattle.input_table.specs.declared.ends.TableEnd.TheVariants as table
use Rattle.tick_plan.specs.declared.plan_end.PlanEnd.{PlanEnd}
use Rattle.tick_plan.specs.declared.plan_end.PlanEnd.TheVariants as plan
use Rattle.command_answer.specs.Stages.{Stage, ◌>>=◌}
use Rattle.command_answer.specs.Told.{told_names, told_types, told_classes, told_order, told_table, told_plan}
use Rattle.command_stages.specs.declared.end.End.{End}
use Rattle.command_stages.specs.declared.end.End.TheVariants.{NoMemory}
use Rattle.command_stages.specs.Ends.{Halts, told_end, of_names, of_types, of_classes, of_order, of_table, of_plan}

-- the ends of the layers are told as the stages tell them
pub names_told : (e : FlattenEnd) → told_end (of_names e) ≡ told_names e
names_told (flatten.Fault code at) = refl
names_told flatten.NoMemory = refl

pub types_told : (e : TypeEnd) → told_end (of_types e) ≡ told_types e
types_told (type.Fault code i) = refl
types_told type.NoMemory = refl

pub classes_told : (e : ClassEnd) → told_end (of_classes e) ≡ told_classes e
classes_told (class.Mixed at) = refl
classes_told (class.BaseMixed i) = refl
classes_told class.NoMemory = refl

pub order_told : (e : OrderEnd) → told_end (of_order e) ≡ told_order e
order_told (order.Fault code at) = refl
order_told order.NoMemory = refl

pub table_told : (e : TableEnd) → told_end (of_table e) ≡ told_table e
table_told (table.Fault code at) = refl
table_told table.NoMemory = refl

pub plan_told : (e : PlanEnd) → told_end (of_plan e) ≡ told_plan e
plan_told (plan.TooMany count) = refl
plan_told plan.NoMemory = refl

-- want of memory ends any stage
pub halts_none : {A : Type 0} (stage : Stage A) → Halts stage NoMemory
halts_none stage answer is = let none : None ≡ Some answer = is in absurd (cc none)

-- the first of two stages ends
pub halts_first : {A B : Type 0} (R : Stage A) (S : A → Stage B) (end : End) → Halts R end → Halts (R >>= S) end
unfolding ◌>>=◌
halts_first R S end halts answer is = inl (halts answer is)

-- the first one made this, and a later one ends
pub halts_next : {A B : Type 0} (R : Stage A) (S : A → Stage B) (x : A) (end : End) → R.makes x → Halts (S x) end → Halts (R >>= S) end
unfolding ◌>>=◌
halts_next R S x end made halts answer is = inr (x, made, halts answer is)

pub makes_next : {A B : Type 0} (R : Stage A) (S : A → Stage B) (x : A) (y : B) → R.makes x → (S x).makes y → (R >>= S).makes y
unfolding ◌>>=◌
makes_next R S x y made then = (x, made, then)

-- what is known of an end that is passed on
pub passed : {A : Type 0} (P : End → Type 0) (r : Result A End) (end : End) → IsErrAnd r (λ other. other ≡ end) → P end → IfErr r P
passed P (Ok x) end same p = tt
passed P (Err other) end same p = subst P (sym same) p
