use Rattle.std.proofs.Common.{[], ap, map, ◌∙◌}
use Rattle.lookup_debug.specs.BusTable.{distinct_tuples, received_count, sent_count, unbalanced_tuples}
use Rattle.lookup_debug.specs.Contributions.{traced_of}
use Rattle.field.specs.Signs.{is_negative}
use Rattle.lookup_debug.specs.internal.GroupList.{group_of}
use Rattle.lookup_debug.specs.internal.Nets.{amount_nets, tuple_entries}
use Rattle.lookup_debug.specs.internal.Places.{placed_entry}
use Rattle.lookup_debug.proofs.AmountNets.{nets_without_location}
use Rattle.lookup_debug.proofs.RowLaws.{entry_count, first_entries, kept_entries}
use Rattle.lookup_debug.proofs.TallyLaws.{capped-from}
use Rattle.lookup_debug.proofs.group_table.row_of_group.Goals as goal

pub returns : goal.returns
returns g c =
    let R = g.F.PrimeCharacteristicRing.ring in
    let eq = g.F.PartialEq.eq in
    let negative = is_negative g.F.PrimeCharacteristicRing.CHARACTERISTIC g.F.SignedField.number in
    let all = map traced_of c.args.instances.now in
    let cs = (group_of R eq all c.args.group.now).contributions in
    let limit = c.args.limit in
    let tallies = c.in_ok-walk_group.ensures in
    let same = tallies.collects.1 [] (ap (amount_nets R eq) c.clear.ensures.empty) in
    let es = c.in_ok-nets.nets.entries in
    let nets = c.in_ok-nets.ensures ∙ same ∙ nets_without_location g.F.PrimeCharacteristicRing.lawful eq g.met.F.PrimeCharacteristicRing.eq_is cs in
    let kept = c.keep_unbalanced.new.nets.entries in
    let kept_nets = ap tuple_entries c.keep_unbalanced.ensures ∙ kept_entries R eq cs es (distinct_tuples R eq cs) nets in
    let label = c.in_ok-name.ensures all in
    let sent = capped-from _ _ (sent_count negative cs) tallies.counts.sent c.clear.ensures.sent in
    let received = capped-from _ _ (received_count negative cs) tallies.counts.received c.clear.ensures.received in
    let distinct = c.len-distinct.ensures.len ∙ entry_count R eq cs es (distinct_tuples R eq cs) nets in
    let unbalanced = c.len-unbalanced.ensures.len ∙ entry_count R eq cs kept (unbalanced_tuples R eq cs) kept_nets in
    let first = c.in_ok-first.ensures
    ∙ ap (map (placed_entry R eq limit cs)) c.truncate.ensures.entries
    ∙ first_entries R eq cs kept (unbalanced_tuples R eq cs) kept_nets limit in
    λ i. record {
      label = label i;
      sent = sent i;
      received = received i;
      distinct = distinct i;
      unbalanced = unbalanced i;
      first = first i;
    }
