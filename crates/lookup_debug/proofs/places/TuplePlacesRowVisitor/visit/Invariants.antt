use Rattle.std.proofs.Common.{take}
use Rattle.lookup_model.specs.Sent.{branches_at, flags_at}
use Rattle.lookup_messages.specs.TraceBuilder.{builder_window}
use Rattle.lookup_debug.specs.Contributions.{amounts, contributions_from, location_of, nonzero}
use Rattle.lookup_debug.specs.internal.Places.{FindsPlaces}
use Rattle.lookup_debug.proofs.places.TuplePlacesRowVisitor.visit.Given as goal

abbrev pub invariant-loop-branch : goal.invariant-loop-branch
invariant-loop-branch g l =
    let R = g.F.PrimeCharacteristicRing.ring in
    let eq = g.F.PartialEq.eq in
    let w = builder_window l.builder in
    let branches = branches_at R w 0 l.lookup in
    FindsPlaces R eq l.fn.self l.self (nonzero R eq (take l.branch (contributions_from (location_of l.location) branches (amounts R (flags_at R w l.lookup) branches))))
