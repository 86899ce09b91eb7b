use Rattle.std.proofs.Common.{◌∙◌}
use Rattle.std.proofs.lemmas.Result.{on_ok_weaker}
use Rattle.lookup_messages.specs.TraceBuilder.{builder_window}
use Rattle.lookup_debug.specs.Contributions.{contributions_at, location_of}
use Rattle.lookup_debug.specs.internal.Arena.{amounts_in}
use Rattle.lookup_debug.proofs.AmountNets.{nets_go_on}
use Rattle.lookup_debug.proofs.contributions.ContributionsRowVisitor.visit.Goals as goal

pub merge_at_limit-requires : goal.merge_at_limit-requires
merge_at_limit-requires g c = record { within = (c.in_ok-push_on_row.ensures (location_of c.args._location)).0 }

pub returns : goal.returns
returns g c =
    let eq = g.F.PartialEq.eq in
    let location = location_of c.args._location in
    let more = contributions_at g.F.PrimeCharacteristicRing.ring eq location (builder_window c.args.builder.now) c.args.lookup.now in
    let pushed = amounts_in c.push_on_row.new.contributions in
    on_ok_weaker c.merge_at_limit.result
    (λ merged. (merged.0, λ cs same. merged.1 ∙ nets_go_on g.F.PrimeCharacteristicRing.lawful eq g.met.F.PrimeCharacteristicRing.eq_is (amounts_in c.args.self.now) pushed cs more same (c.in_ok-push_on_row.ensures location).1))
    c.merge_at_limit.ensures
