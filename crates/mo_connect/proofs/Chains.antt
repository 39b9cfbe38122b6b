-- Chains of steps, put together and taken apart.
use Rattle.std.proofs.Common.{◌≡◌, ℕ, refl, sym, ◌∙◌}
use Rattle.mo_connect.specs.Chain.{Chain, stay, forward, backward}

-- one chain after another
pub follow : (Step : ℕ → ℕ → Type 0) (x y z : ℕ) → Chain Step x y → Chain Step y z → Chain Step x z
follow Step x y z (stay w) rest = rest
follow Step x y z (forward u v w step more) rest = forward u v z step (follow Step v w z more rest)
follow Step x y z (backward u v w step more) rest = backward u v z step (follow Step v w z more rest)

-- a chain from its end back
pub reversed : (Step : ℕ → ℕ → Type 0) (x y : ℕ) → Chain Step x y → Chain Step y x
reversed Step x y (stay w) = stay w
reversed Step x y (forward u v w step more) = follow Step w v u (reversed Step v w more) (backward v u u step (stay u))
reversed Step x y (backward u v w step more) = follow Step w v u (reversed Step v w more) (forward v u u step (stay u))

-- a chain of steps that are chains themselves
pub refined : (Step Finer : ℕ → ℕ → Type 0) → ((x y : ℕ) → Step x y → Chain Finer x y) → (x y : ℕ) → Chain Step x y
    → Chain Finer x y
refined Step Finer finer x y (stay w) = stay w
refined Step Finer finer x y (forward u v w step more) = follow Finer u v w (finer u v step) (refined Step Finer finer v w more)
refined Step Finer finer x y (backward u v w step more) =
    follow Finer u v w (reversed Finer v u (finer v u step)) (refined Step Finer finer v w more)

-- what no step changes, no chain changes
pub unchanged : (Step : ℕ → ℕ → Type 0) (f : ℕ → ℕ) → ((x y : ℕ) → Step x y → f x ≡ f y)
    → (x y : ℕ) → Chain Step x y → f x ≡ f y
unchanged Step f same x y (stay w) = refl
unchanged Step f same x y (forward u v w step more) = same u v step ∙ unchanged Step f same v w more
unchanged Step f same x y (backward u v w step more) = sym (same v u step) ∙ unchanged Step f same v w more
