-- The classes of a model beside their marks as unclocked and the count of base partitions.
use Rattle.std.specs.Prelude.{◌≡◌, ◌↔◌, ℕ, ◌<◌, true, false, length, slice_index_or}
use Rattle.flat_model.specs.declared.model.FlatModel.{FlatModel}
use Rattle.clock_terms.specs.Classing.{AreClassesOf, HasMark, class_in, is_clocked, partition_in}
use Rattle.clock_terms.specs.Said.{IsMarkedUnclocked}
use Rattle.base_partition.specs.declared.group.Grouped.{Grouped}

pub record IsGrouped (model : FlatModel) (grouped : Grouped) : Type 0 where
  pub are : AreClassesOf model grouped.classes
  pub count : length grouped.classes.clocked ≡ length grouped.unclocked
  pub unclocked : (c : ℕ) → (slice_index_or grouped.unclocked c false ≡ true) ↔ HasMark model (IsMarkedUnclocked model) (class_in grouped.classes) c
  pub bases : (c : ℕ) → is_clocked grouped.classes c ≡ true → partition_in grouped.classes c < grouped.bases
