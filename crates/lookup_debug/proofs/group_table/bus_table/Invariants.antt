use Rattle.std.proofs.Common.{◌≡◌, map, take}
use Rattle.lookup_debug.specs.BusTable.{group_row, row_of}
use Rattle.lookup_debug.specs.Contributions.{traced_of}
use Rattle.field.specs.Signs.{is_negative}
use Rattle.lookup_debug.specs.internal.GroupList.{group_of}
use Rattle.lookup_debug.proofs.group_table.bus_table.Given as goal

abbrev pub invariant-loop-group : goal.invariant-loop-group
invariant-loop-group g l =
    let R = g.F.PrimeCharacteristicRing.ring in
    let eq = g.F.PartialEq.eq in
    let negative = is_negative g.F.PrimeCharacteristicRing.CHARACTERISTIC g.F.SignedField.number in
    map row_of l.table.items ≡ map (λ h. group_row R eq l.limit negative (group_of R eq (map traced_of l.instances) h)) (take l.group-index l.group-items)
