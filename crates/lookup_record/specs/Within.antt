-- Interactions whose expressions stay within a layout.
use Rattle.std.specs.Prelude.{All}
use Rattle.std.specs.declared.vec.Vec.{Vec}
use Rattle.lookup_record.specs.Interaction.{Tuple, GlobalInteraction, Branch, Interaction, global, local, exclusive}

module _ {E L : Type 0} (within : L → E → Type 0) (layout : L) where
  -- all expressions of a tuple stay within the layout
  pub record TupleWithin (t : Tuple E) : Type 0 where
    pub fields : All (within layout) t.fields
    pub count : within layout t.count

  -- all of a message on a bus
  pub record GlobalWithin (m : GlobalInteraction E) : Type 0 where
    pub fields : All (within layout) m.fields
    pub count : within layout m.count

  -- all of a branch
  pub record BranchWithin (b : Branch E) : Type 0 where
    pub flag : within layout b.flag
    pub count : within layout b.count
    pub fields : All (within layout) b.fields

  -- a flag and its key
  abbrev pub KeyWithin : {Z : Type 0} → E × Vec E Z → Type 0
  KeyWithin g = within layout g.0 × All (within layout) g.1.items

  -- all of an interaction
  abbrev pub IsInteractionWithin : Interaction E → Type 0
  IsInteractionWithin (global m) = GlobalWithin m
  IsInteractionWithin (local tuples) = All TupleWithin tuples
  IsInteractionWithin (exclusive m) = All BranchWithin m.branches
