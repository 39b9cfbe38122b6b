-- Code that is the same but for its words.
use Rattle.std.proofs.Common.{◌≡◌, ap, ◌∙◌, sym, subst, ℕ, List, length, vec_len, Option, Some, None, slice_get, All, arith}
use Rattle.std.specs.Prelude.{IfSome}
use Rattle.flat_model.specs.declared.equation.Equation.{Equation}
use Rattle.flat_model.specs.declared.model.FlatName.{FlatName}
use Rattle.cell_keys.specs.Cells.{cell_of, AreWhole}
use Rattle.part_stretches.specs.Running.{IsRunWithin}
use Rattle.tree_step.specs.declared.taking.Entry.{Entry}
use Rattle.part_code.specs.declared.coded.Coded.{Coded}
use Rattle.part_code.specs.Coded.{AreStretchesOf, IsLandingOf, IsCodeOf}
use Rattle.coded_step.specs.Taking.{IsSameCode}
use Rattle.partition_step.specs.private.Coding.{IsSameOption}

module _ (equations : List Equation) (names : List FlatName) (entries : List Entry) where
  same_code : (old new : Coded) → IsSameCode old new → IsCodeOf equations names entries old → IsCodeOf equations names entries new
  same_code old new same is = record {
    stretches = subst (λ v. AreStretchesOf equations names new.keys entries v.items) (sym same.stretches) (subst (λ ks. AreStretchesOf equations names ks entries old.stretches.items) (sym same.keys) is.stretches);
    whole = subst AreWhole (sym same.keys) is.whole;
    asked = λ k c found. is.asked k c (ap (λ ks. cell_of ks k) (sym same.keys) ∙ found);
    landings = λ i e found.
        let (landing, there, of) = is.landings i e found in
        (landing, ap (λ v. slice_get v.items i) same.landings ∙ there, subst (λ ks. IsLandingOf names ks e landing) (sym same.keys) of);
    room = let keys = ap length same.keys in let words = same.words in let room = is.room in omega (arith, keys, words, room);
    within = subst (λ v. All (IsRunWithin (vec_len new.words)) v.items) (sym same.stretches) (subst (λ n. All (IsRunWithin n) old.stretches.items) (sym same.words) is.within);
  }

  pub same_option : (old new : Option Coded) → IsSameOption old new → IfSome old (IsCodeOf equations names entries) → IfSome new (IsCodeOf equations names entries)
  same_option None None same is = tt
  same_option None (Some new) same is = absurd same
  same_option (Some old) None same is = absurd same
  same_option (Some old) (Some new) same is = same_code old new same is
