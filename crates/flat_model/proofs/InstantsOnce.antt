-- The list of the instants that are left, with its proof untold, is one.
use Rattle.std.proofs.Common.{◌≡◌, ap, subst, List, Option}
use Rattle.std.proofs.Props.{props}
use Rattle.std.proofs.Math.Logic.{∥∥₁_elim}
use Rattle.rational_time.specs.declared.ratio.Ratio.{Ratio}
use Rattle.flat_model.specs.declared.clock.Clock.{Clock}
use Rattle.flat_model.specs.declared.clock.Moment.{Moment}
use Rattle.flat_model.specs.NextInstant.{AreLeft}
use Rattle.flat_model.proofs.InstantsLeft.{one_left}

pair_is : {A : Type 0} (P : A → Type 0) → ((a : A) → IsProp (P a)) → (a b : A) (p : P a) (q : P b) → a ≡ b → ◌≡◌ {A = (z : A) × P z} (a, p) (b, q)
pair_is {A} P prop a b p q e = subst (λ z. (r : P z) → pair a p ≡ pair z r) e (λ r. ap (pair a) (prop a p r)) q
  where
    pair : (z : A) → P z → (z : A) × P z
    pair z r = (z, r)

pub one_list : (clocks : List Clock) (times : List Ratio) (stop : Ratio) (given : Option Moment) → IsProp ((instants : List Ratio) × ∥ AreLeft clocks times stop given instants ∥₁)
one_list clocks times stop given x y =
    let set : IsSet (List Ratio) = hlevel props in
    let lists : x.0 ≡ y.0 = ∥∥₁_elim x.1 (set x.0 y.0) (λ a. ∥∥₁_elim y.1 (set x.0 y.0) (λ b. one_left clocks times stop given x.0 y.0 a b)) in
    pair_is (λ instants. ∥ AreLeft clocks times stop given instants ∥₁) (λ instants. hlevel props) x.0 y.0 x.1 y.1 lists
