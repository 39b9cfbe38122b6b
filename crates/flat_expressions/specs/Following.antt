-- Answers that follow from those of parts.
use Rattle.std.specs.Prelude.{◌≡◌, ℕ, ◌<◌, ◌^◌, Some, Result, IfOk}
use Rattle.std.specs.declared.alloc.AllocError.{AllocError}
use Rattle.class_scopes.specs.Spelled.{Ident}
use Rattle.class_scopes.specs.Tables.{Numbered, number_of}

-- an answer is the value, or memory was refused
abbrev pub Gives : {A : Type 0} → A → Result A AllocError → Type 0
Gives value answer = IfOk answer (λ x. x ≡ value)

-- an answer follows from that of a part, of two, or of three
abbrev pub Follows : {A B : Type 0} → (A → B) → Result A AllocError → Result B AllocError → Type 0
Follows {A} node part answer = (a : A) → Gives a part → Gives (node a) answer

abbrev pub FollowsBoth : {A B C : Type 0} → (A → B → C) → Result A AllocError → Result B AllocError → Result C AllocError → Type 0
FollowsBoth {A} {B} node first second answer = (a : A) (b : B) → Gives a first → Gives b second → Gives (node a b) answer

abbrev pub FollowsAll : {A B C D : Type 0} → (A → B → C → D) → Result A AllocError → Result B AllocError → Result C AllocError → Result D AllocError → Type 0
FollowsAll {A} {B} {C} node first second third answer =
    (a : A) (b : B) (c : C) → Gives a first → Gives b second → Gives c third → Gives (node a b c) answer

-- the numbers of a table fit into 32 bits
abbrev pub NumbersFit : Numbered → Type 0
NumbersFit table = (name : Ident) (n : ℕ) → number_of table name ≡ Some n → n < 2 ^ 32
