-- The base partitions of a share before a moment.
use Rattle.std.proofs.Common.{◌≡◌, ap, ◌∙◌, sym, ℕ, List, ◌++◌, Some, slice_get, Contains, inl, inr, subst}
use Rattle.flat_model.specs.declared.equation.Equation.{Equation}
use Rattle.flat_model.specs.declared.equation.Equation.TheVariants.{Valued, Clocks}
use Rattle.flat_model.specs.Values.{value_in}
use Rattle.flat_model.specs.Asks.{OfLast}
use Rattle.flat_model.specs.Assignment.{Assignment}
use Rattle.flat_model.specs.Given.{Row}
use Rattle.flat_model.specs.Setting.{Setting}
use Rattle.flat_model.specs.Typing.{types_in}
use Rattle.flat_model.specs.Uses.{Use}
use Rattle.flat_model.specs.WholeTyping.{IsTyped}
use Rattle.fork_steps.specs.declared.slot.Slot.{Slot}
use Rattle.moment_body.specs.declared.model.ClockedModel.{ClockedModel}
use Rattle.moment_steps.specs.declared.piece.Piece.{Piece}
use Rattle.moment_steps.specs.Settled.{own_uses}
use Rattle.moment_steps.proofs.Parts.{answer_flat}
use Rattle.moment_steps.proofs.Rows.{base_typed, base_sound, piece_clear, cut}
use Rattle.moment_steps.proofs.Starting.{valued_name}
use Rattle.moment_theory.specs.Division.{joined}
use Rattle.moment_theory.specs.Free.{IsOrdered}
use Rattle.moment_theory.proofs.Beside.{regroup}
use Rattle.moment_theory.proofs.FromRunnable.{all_at}
use Rattle.moment_theory.proofs.Named.{typed_names}
use Rattle.partition_step.specs.Parts.{IsPiece}
use Rattle.partition_step.specs.Steps.{Showing, AreSamplesShown, IsShown, IsStepStart, CanStep}
use Rattle.partition_step.proofs.Lists.{at_map}
use Rattle.share_run.specs.Shares.{AskNothingOf}
use Rattle.share_run.specs.Standing.{Holding, IsShareSlot, pieces_of}
use Rattle.share_run.specs.Taking.{Values, Plan, IsShareAt, CanTakeShare}
use Rattle.tree_step.specs.Starts.{uses_of}

-- ---- lists of uses

cut_order : (pure ps later front piece back : List Use) → ps ≡ front ++ (piece ++ back) → pure ++ (ps ++ later) ≡ (pure ++ front) ++ (piece ++ (back ++ later))
cut_order pure ps later front piece back is =
    ap (λ us. pure ++ (us ++ later)) is ∙ ap (λ us. pure ++ us) (regroup front (piece ++ back) later ∙ ap (λ us. front ++ us) (regroup piece back later)) ∙ sym (regroup pure front (piece ++ (back ++ later)))

-- ---- before a moment

module _ (h : Holding) (model_now : ClockedModel) (plan : Plan) (now : Values) where
  abbrev pub showing : Showing
  showing = record { equations = model_now.flat.equations; places = h.places; moment = plan.at; ticks = plan.ticks; answers = plan.answers; left = h.left }

  module _ (s : Setting) (uses pure others : List Use) (A : Assignment) (n : ℕ) (is : IsShareAt h model_now plan now s uses pure others A n) where
    abbrev pub base : Row
    base = value_in now

    -- the uses behind those of the base partitions
    abbrev pub later : List Use
    later = uses_of h.waiting ++ others

    samples : (own : List Use) → AskNothingOf s own others → (entry : Use) (equation : Equation) → Contains own entry → slice_get s.model.equations entry.equation ≡ Some equation → AreSamplesShown s A n h.left equation
    samples own alone entry (Clocks left right clause) has found = tt
    samples own alone entry (Valued left right clause) has found =
        let typed : IsTyped (types_in s.model.names) (Valued left right clause) = all_at (IsTyped (types_in s.model.names)) s.model.equations entry.equation (Valued left right clause) is.division.staged.ordered.runs.model.typed.equations found in
        let left_is = is.before.left_is in (
          record {
            now = λ y k asks before. left_is.now y k (alone entry (Valued left right clause) y has found (inl (1, inl asks))) before;
            last = λ z k asks before.
                let (kind, type) = typed_names (types_in s.model.names) left typed.0 typed.1 1 (OfLast z) asks in
                left_is.last z (alone entry (Valued left right clause) z has found (inl (1, inr (inl asks)))) (valued_name s z kind type);
          },
          record {
            now = λ y k asks before. left_is.now y k (alone entry (Valued left right clause) y has found (inr (1, inl asks))) before;
            last = λ z k asks before.
                let (kind, type) = typed_names (types_in s.model.names) right typed.0 typed.2 1 (OfLast z) asks in
                left_is.last z (alone entry (Valued left right clause) z has found (inr (1, inr (inl asks)))) (valued_name s z kind type);
          },
        )

    module _ (i : ℕ) (slot : Slot Piece) (found : slice_get h.slots i ≡ Some slot) where
      abbrev pub own : List Use
      own = own_uses slot

      pub piece_found : slice_get (pieces_of h) i ≡ Some own
      piece_found = at_map own_uses h.slots i slot found

      pub slot_is : IsShareSlot s uses h.classes h.places i slot
      slot_is = is.before.slots_are i slot found

      abbrev parts : (front : List Use) × (back : List Use) × (joined (pieces_of h) ≡ front ++ (own ++ back))
      parts = cut (pieces_of h) i own piece_found

      abbrev pub ahead : List Use
      ahead = pure ++ parts.0

      abbrev pub after : List Use
      after = parts.1 ++ later

      piece : IsPiece s uses ahead own after slot_is.partition
      piece = record {
        ordered = subst (IsOrdered s uses) (cut_order pure (joined (pieces_of h)) later parts.0 own parts.1 parts.2) is.division.staged.ordered;
        of = slot_is.of;
        whole = slot_is.whole;
      }

      shown : IsShown s own A n base showing
      shown = record {
        model = ap (λ flat. flat.equations) is.model_is.flat;
        here = is.here;
        ticks = is.ticks_are;
        answers = λ site. answer_flat (slice_get plan.answers site) ∙ is.answers_are site;
        samples = samples own (is.division.pieces_alone i own piece_found);
      }

      pub step_start : IsStepStart s uses ahead own after slot_is.partition A n base showing slot.piece.part
      step_start = record {
        piece = piece;
        part_of = slot_is.part_of;
        stands = is.before.stand i slot found;
        meets = is.valued;
        typed = base_typed s uses pure (pieces_of h) later is.division.staged A n plan.at is.here is.inputs is.are base is.taken;
        sound = base_sound s uses pure (pieces_of h) later is.division.staged A n plan.at is.here is.inputs is.are base is.taken;
        clear = piece_clear s uses pure (pieces_of h) later is.division.staged A n plan.at is.here is.inputs is.are base is.taken i own piece_found;
        shown = shown;
        measured = is.before.settled.measured;
      }

  pub can_step : CanTakeShare h model_now plan now → (i : ℕ) (slot : Slot Piece) → slice_get h.slots i ≡ Some slot → CanStep showing slot.piece.part
  can_step (s, uses, pure, others, A, n, is) i slot found = record {
    s = s;
    uses = uses;
    before = ahead s uses pure others A n is i slot found;
    own = own_uses slot;
    after = after s uses pure others A n is i slot found;
    partition = (slot_is s uses pure others A n is i slot found).partition;
    S = A;
    m = n;
    base = value_in now;
    start = step_start s uses pure others A n is i slot found;
  }
