use Rattle.std.proofs.Common.{◌≡◌, ◌++◌, map, take}
use Rattle.lookup_model.specs.Sent.{branches_at, flags_at}
use Rattle.lookup_messages.specs.TraceBuilder.{builder_window}
use Rattle.lookup_debug.specs.Contributions.{amounts, contributions_from, nonzero, location_of}
use Rattle.lookup_debug.specs.Mismatch.{tuple_locations}
use Rattle.lookup_debug.proofs.tuple_locations.push_row_locations.Given as goal

abbrev pub invariant-loop-branch : goal.invariant-loop-branch
invariant-loop-branch g l =
    let R = g.F.PrimeCharacteristicRing.ring in
    let eq = g.F.PartialEq.eq in
    let w = builder_window l.builder in
    let branches = branches_at R w 0 l.lookup in
    map location_of l.locations.items ≡ map location_of l.fn.locations.items
    ++ tuple_locations R eq l.tuple (nonzero R eq (take l.branch (contributions_from (location_of l.location) branches (amounts R (flags_at R w l.lookup) branches))))
