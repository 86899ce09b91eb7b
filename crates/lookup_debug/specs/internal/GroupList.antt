-- Groups as the program lists them.
use Rattle.std.specs.Prelude.{◌≡◌, ◌++◌, All, Bool, List, Some, map, slice_get, ⊤}
use Rattle.field.specs.Ring.{Ring}
use Rattle.lookup_debug.specs.Contributions.{IsTracedFitting, Traced, traced_of}
use Rattle.lookup_debug.specs.Groups.{Group, bus_group, local_group}
use Rattle.lookup_debug.specs.declared.named_group.GroupAt.{GroupAt}
use Rattle.lookup_debug.specs.declared.named_group.GroupAt.TheVariants.{Bus, Local}

-- a local lookup stands in its AIR, whose lookups fit
abbrev pub IsWalkable : {F : Type 0} → GroupAt F → Type 0
IsWalkable (Local instance index traced lookup) = (slice_get traced.now.lookups.now index ≡ Some lookup.now) × IsTracedFitting (traced_of traced.now)
IsWalkable (Bus name) = ⊤

module _ {F : Type 0} (R : Ring F) (eq : F → F → Bool) (all : List (Traced F)) where
  -- the group that a value of the program stands for
  abbrev pub group_of : GroupAt F → Group F
  group_of (Local instance index traced lookup) = local_group R eq (record { instance = instance; index = index; traced = traced_of traced.now; lookup = lookup.now })
  group_of (Bus name) = bus_group R eq all name.now

  -- a list stands for these groups, and each of them can be walked over
  abbrev pub ListsGroups : List (GroupAt F) → List (Group F) → Type 0
  ListsGroups list gs = (map group_of list ≡ gs) × All IsWalkable list

  -- after a list there is one that stands for more groups
  abbrev pub AddsGroups : List (GroupAt F) → List (GroupAt F) → List (Group F) → Type 0
  AddsGroups before after more = (gs : List (Group F)) → ListsGroups before gs → ListsGroups after (gs ++ more)
