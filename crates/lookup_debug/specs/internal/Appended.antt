-- Contributions while they are collected, and locations while they are found.
use Rattle.std.specs.Prelude.{◌≡◌, ◌++◌, Bool, List, map}
use Rattle.std.specs.declared.alloc.Global.{Global}
use Rattle.std.specs.declared.vec.Vec.{Vec}
use Rattle.field.specs.Ring.{Ring}
use Rattle.lookup_debug.specs.Contributions.{Contribution, location_of}
use Rattle.lookup_debug.specs.Mismatch.{tuple_locations}
use Rattle.lookup_debug.specs.declared.arena.Contributions.{Contributions}
use Rattle.lookup_debug.specs.declared.fault.Location.{Location}
use Rattle.lookup_debug.specs.declared.tuple_locations.TupleLocations.{TupleLocations}
use Rattle.lookup_debug.specs.internal.Arena.{AreWithin, amounts_in}
use Rattle.lookup_debug.specs.internal.Nets.{amount_nets}

-- a contribution without its location
abbrev pub without_location : {F : Type 0} → Contribution F → List F × F
without_location c = (c.tuple, c.amount)

-- After the earlier contributions come these, and every span is a part of the elements.
abbrev pub Appends : {F : Type 0} → Contributions F → Contributions F → List (Contribution F) → Type 0
Appends before after more = AreWithin after × (amounts_in after ≡ amounts_in before ++ map without_location more)

-- If the nets before were those of some contributions, they are those of these followed by more after.
abbrev pub Collects : {F : Type 0} → Ring F → (F → F → Bool) → Contributions F → Contributions F → List (Contribution F) → Type 0
Collects {F} R eq before after more =
    AreWithin after × ((cs : List (Contribution F)) → amount_nets R eq (amounts_in before) ≡ amount_nets R eq (map without_location cs) → amount_nets R eq (amounts_in after) ≡ amount_nets R eq (map without_location (cs ++ more)))

-- After the earlier locations come the locations of those of these contributions that have this tuple.
abbrev pub AppendsLocations : {F : Type 0} → Ring F → (F → F → Bool) → List F → Vec Location Global → Vec Location Global → List (Contribution F) → Type 0
AppendsLocations R eq tuple before after more =
    map location_of after.items ≡ map location_of before.items ++ tuple_locations R eq tuple more

-- The tuple stays, and after its earlier locations come those of these contributions.
abbrev pub FindsLocations : {F : Type 0} → Ring F → (F → F → Bool) → TupleLocations F → TupleLocations F → List (Contribution F) → Type 0
FindsLocations R eq before after more =
    (after.tuple.now ≡ before.tuple.now) × AppendsLocations R eq before.tuple.now before.locations after.locations more
