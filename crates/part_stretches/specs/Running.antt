-- What a run of several stretches is.
use Rattle.std.specs.Prelude.{◌≡◌, ℕ, suc, Bool, true, false, ℤ, List, [], ◌∷◌, Option, Some, None, slice_get, unwrap_or}
use Rattle.step_code.specs.Machine.{AreWithin}
use Rattle.step_lines.specs.declared.running.Failing.{Failing}
use Rattle.step_lines.specs.Stretches.{RunsLines}
use Rattle.part_stretches.specs.declared.running.ClassStretch.{ClassStretch}
use Rattle.part_stretches.specs.declared.running.PartFailing.{PartFailing}

-- a class ticks
abbrev pub tick_in : List Bool → ℕ → Bool
tick_in ticking class = unwrap_or (slice_get ticking class) false

-- all instructions of a stretch name cells that are there
abbrev pub IsRunWithin : ℕ → ClassStretch → Type 0
IsRunWithin n one = AreWithin n one.stretch.code.items

-- what comes of a stretch that ran as number i, where `next` says what the others do
abbrev pub GoesOn : ℕ → List ℤ → List ℤ → Option PartFailing → (List ℤ → Type 0) → Option Failing → Type 0
GoesOn i mid new result next None = next mid
GoesOn i mid new result next (Some failing) = (result ≡ Some (record { stretch = i; place = failing.place; kind = failing.kind })) × (new ≡ mid)

-- a stretch runs where its class ticks, and is passed over where it rests
abbrev pub RunsOne : Bool → ℕ → ClassStretch → List ℤ → List ℤ → Option PartFailing → (List ℤ → Type 0) → Type 0
RunsOne false i one old new result next = next old
RunsOne true i one old new result next = (mid : List ℤ) × (stop : Option Failing) × RunsLines one.stretch old mid stop × GoesOn i mid new result next stop

-- stretches from number i on run one after the other, up to the first equation that fails
abbrev pub RunsFrom : ℕ → List Bool → List ClassStretch → List ℤ → List ℤ → Option PartFailing → Type 0
RunsFrom i ticking [] old new result = (result ≡ None) × (new ≡ old)
RunsFrom i ticking (one ∷ rest) old new result = RunsOne (tick_in ticking one.class) i one old new result (λ mid. RunsFrom (suc i) ticking rest mid new result)
