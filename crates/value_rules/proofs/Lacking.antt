-- Expressions without a value, and what they miss.
use Rattle.std.proofs.Common.{◌≡◌, refl, ap, sym, ◌∙◌, ℕ, List, Option, Some, None, is_some, not}
use Rattle.sync_values.specs.declared.value.Value.{Value}
use Rattle.mo_order.specs.Values.{Slots}
use Rattle.mo_parser.specs.declared.tree.ClassDef.{ClassDef}
use Rattle.flat_model.specs.declared.model.NameKind.{NameKind}
use Rattle.class_scopes.specs.Tables.{Numbered}
use Rattle.flat_instances.specs.Instances.{Placed}
use Rattle.parameter_values.specs.Values.{value_by}
use Rattle.parameter_values.specs.Slots.{seen}
use Rattle.parameter_values.specs.Givens.{value_with}
use Rattle.value_rules.specs.private.Missing.{missing_reads, unless_value, missing_for}
use Rattle.value_rules.proofs.Evaluated.{with_classes}

module _ (text : List ℕ) (classes : List ClassDef) (table : Numbered) (found : Slots) (count : ℕ) where
  pub record IsLacking (k : Option NameKind) (placed : Option Placed) (reads : List ℕ) : Type 0 where
    pub expr : Placed
    pub there : placed ≡ Some expr
    pub none : value_by text classes (seen table found) k placed ≡ None
    pub same : reads ≡ missing_reads text table found count expr.scope expr.expr

  pub lacks_reads : (k : Option NameKind) (placed : Option Placed) (reads : List ℕ) → missing_for text table found count k placed ≡ Some reads → IsLacking k placed reads
  lacks_reads k None reads is = absurd (cc is)
  lacks_reads k (Some p) reads is = by (value_with text table found (k, Some p)) refl is
    where
      by : (o : Option Value) → value_with text table found (k, Some p) ≡ o → unless_value text table found count (not (is_some o)) p ≡ Some reads → IsLacking k (Some p) reads
      by (Some v) at is = absurd (cc is)
      by None at is = record {
        expr = p;
        there = refl;
        none = sym (with_classes text classes (seen table found) k (Some p)) ∙ at;
        same = let e : missing_reads text table found count p.scope p.expr ≡ reads = cc is in sym e;
      }

  pub reads_lacks : (k : Option NameKind) (placed : Option Placed) (p : Placed) → placed ≡ Some p → value_by text classes (seen table found) k placed ≡ None
      → missing_for text table found count k placed ≡ Some (missing_reads text table found count p.scope p.expr)
  reads_lacks k placed p is none =
      let here : value_with text table found (k, Some p) ≡ None =
      with_classes text classes (seen table found) k (Some p) ∙ ap (value_by text classes (seen table found) k) (sym is) ∙ none in
      ap (missing_for text table found count k) is ∙ ap (λ o. unless_value text table found count (not (is_some o)) p) here
