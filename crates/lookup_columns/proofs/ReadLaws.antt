-- What is read from the columns of an exclusive lookup.
use Rattle.std.proofs.Common.{◌≡◌, ◌≢◌, ◌<◌, ℕ, Some, List, length, get_or, ap, subst, ◌∙◌}
use Rattle.std.proofs.lemmas.Option.{slice_get_within}
use Rattle.list_laws.proofs.Items.{read_is}
use Rattle.field.specs.Ring.{Ring}
use Rattle.lookup_columns.proofs.ZipLaws.{Beside, beside}
use Rattle.lookup_columns.specs.ChunkColumns.{HasFlag, StoreSelected, IsStored, IsStoredIfSet, IsStoredSelected}
use Rattle.lookup_columns.specs.declared.columns.BranchColumns.{BranchColumns}
use Rattle.lookup_model.specs.Message.{Key, Message}

module _ {F K : Type 0} (R : Ring F) (denominator : Key F → K) (index : ℕ) (columns : List (BranchColumns F K)) (flags : List F) (messages : List (Message F)) (selected : StoreSelected R denominator index columns flags messages) (i : ℕ) (c : BranchColumns F K) (lt : i < length columns) (is : c ≡ get_or columns i c) where
  -- the flag and the message beside a column
  pub flag : Beside (HasFlag index) flags i c
  flag = beside (HasFlag index) columns flags i c selected.flags_are lt is

  pub message : Beside (IsStoredIfSet R denominator index) messages i c
  message = beside (IsStoredIfSet R denominator index) columns messages i c selected.held lt is

  -- the column has a flag at this index
  pub flag_within : index < length c.flags.items
  flag_within = slice_get_within c.flags.items index flag.item flag.holds

  module _ (f : F) (f_is : f ≡ get_or c.flags.items index f) where
    -- it is the one that is read
    pub flag_read : flag.item ≡ f
    flag_read = read_is c.flags.items index f flag.item flag.holds f_is

    module _ (set : f ≢ R.zero) where
      placed : IsStoredSelected denominator index c message.item
      placed = message.holds f (flag.holds ∙ ap Some flag_read) set

      -- if it is not zero, an index is kept for the row
      pub index_kept : index < length c.indices.items
      index_kept = slice_get_within c.indices.items index placed.at placed.there

      -- where the column has the message
      pub held_there : (at : ℕ) → at ≡ get_or c.indices.items index at → IsStored denominator at c message.item
      held_there at at_is =
          subst (λ n. IsStored denominator n c message.item) (read_is c.indices.items index at placed.at placed.there at_is) placed.held
