use Rattle.std.proofs.Common.{arith, ap, drop, length, map, subst, ◌∙◌, ◌+◌, ◌≡◌}
use Rattle.std.proofs.lemmas.Result.{on_ok_weaker}
use Rattle.lookup_messages.specs.TraceBuilder.{builder_window}
use Rattle.lookup_debug.specs.BusTable.{saturated_usize}
use Rattle.lookup_debug.specs.Contributions.{contributions_at, location_of}
use Rattle.field.specs.Signs.{is_negative}
use Rattle.lookup_debug.specs.internal.Arena.{amounts_in}
use Rattle.lookup_debug.specs.internal.Tallies.{AreSignCounts}
use Rattle.lookup_debug.proofs.AmountNets.{nets_go_on}
use Rattle.lookup_debug.proofs.TallyLaws.{appended_amounts, appended_grows, capped-later}
use Rattle.lookup_debug.proofs.tally.TallyRowVisitor.visit.Goals as goal

pub sign_counts-sent-requires : goal.sign_counts-sent-requires
sign_counts-sent-requires g c =
    let location = location_of c.args._location in
    let more = contributions_at g.F.PrimeCharacteristicRing.ring g.F.PartialEq.eq location (builder_window c.args.builder.now) c.args.lookup.now in
    let before = c.args.self.now.contributions in
    omega (arith, c.len-start.ensures, before.spans.ok.0, appended_grows before c.push_on_row.new.contributions more (c.in_ok-push_on_row.ensures location))

pub merge_at_limit-requires : goal.merge_at_limit-requires
merge_at_limit-requires g c = record { within = (c.in_ok-push_on_row.ensures (location_of c.args._location)).0 }

pub returns : goal.returns
returns g c =
    let R = g.F.PrimeCharacteristicRing.ring in
    let eq = g.F.PartialEq.eq in
    let location = location_of c.args._location in
    let more = contributions_at R eq location (builder_window c.args.builder.now) c.args.lookup.now in
    let before = c.args.self.now in
    let pushed = c.push_on_row.new.contributions in
    let appends = c.in_ok-push_on_row.ensures location in
    let negative = is_negative g.F.PrimeCharacteristicRing.CHARACTERISTIC g.F.SignedField.number in
    let start : c.len-start.result ≡ length before.contributions.spans.items = omega (arith, c.len-start.ensures, before.contributions.spans.ok.0) in
    let counts : AreSignCounts negative (map (λ d. d.amount) more) c.sign_counts-sent.result.0 c.sign_counts-sent.result.1 =
    subst (λ amounts. AreSignCounts negative amounts c.sign_counts-sent.result.0 c.sign_counts-sent.result.1)
    (ap (λ n. map (λ s. s.amount) (drop n pushed.spans.items)) start ∙ appended_amounts before.contributions pushed more appends)
    c.sign_counts-sent.ensures in
    on_ok_weaker c.merge_at_limit.result
    (λ merged. record {
      collects = (merged.0, λ cs same. merged.1 ∙ nets_go_on g.F.PrimeCharacteristicRing.lawful eq g.met.F.PrimeCharacteristicRing.eq_is (amounts_in before.contributions) (amounts_in pushed) cs more same appends.1);
      counts = record {
        sent = c.saturating_add-self.ensures ∙ ap (λ n. saturated_usize (before.sent + n)) counts.0 ∙ capped-later before.sent _;
        received = c.saturating_add-self-2.ensures ∙ ap (λ n. saturated_usize (before.received + n)) counts.1 ∙ capped-later before.received _;
      };
    })
    c.merge_at_limit.ensures
