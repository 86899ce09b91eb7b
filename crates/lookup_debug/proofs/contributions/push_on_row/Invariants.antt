use Rattle.std.proofs.Common.{take}
use Rattle.lookup_model.specs.Sent.{branches_at, flags_at}
use Rattle.lookup_messages.specs.TraceBuilder.{builder_window}
use Rattle.lookup_debug.specs.Contributions.{SentLocation, amounts, contributions_from, nonzero}
use Rattle.lookup_debug.specs.internal.Appended.{Appends}
use Rattle.lookup_debug.proofs.contributions.push_on_row.Given as goal

abbrev pub invariant-loop-branch : goal.invariant-loop-branch
invariant-loop-branch g l =
    let R = g.F.PrimeCharacteristicRing.ring in
    let w = builder_window l.builder in
    let branches = branches_at R w 0 l.lookup in
    (location : SentLocation) → Appends l.fn.contributions l.contributions (nonzero R g.F.PartialEq.eq (take l.branch (contributions_from location branches (amounts R (flags_at R w l.lookup) branches))))
