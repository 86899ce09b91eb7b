use Rattle.std.proofs.Common.{◌≡◌, ◌∷◌, [], List, ap, map, subst, ◌∙◌}
use Rattle.std.specs.Borrow.{Bor}
use Rattle.std.specs.Cmp.Lexicographic.{pointwise}
use Rattle.lookup_debug.specs.BusTable.{entry_of}
use Rattle.lookup_debug.specs.Contributions.{traced_of}
use Rattle.lookup_debug.specs.internal.GroupList.{group_of}
use Rattle.lookup_debug.specs.internal.Nets.{amount_nets}
use Rattle.lookup_debug.specs.internal.Places.{placed_entry}
use Rattle.lookup_debug.proofs.FirstUnbalancedLaws.{only_one, unbalanced_in}
use Rattle.lookup_debug.proofs.MismatchLaws.{IsFound}
use Rattle.indexmap.specs.IndexMap.{insert_entry}
use Rattle.lookup_debug.proofs.first_unbalanced.mismatch_in.Goals as goal

pub returns-in_default : goal.returns-in_default
returns-in_default g c =
    let R = g.F.PrimeCharacteristicRing.ring in
    let eq = g.F.PartialEq.eq in
    let cs = (group_of R eq (map traced_of c.args.instances.now) c.args.group.now).contributions in
    let same = c.in_ok-walk_group.ensures.1 [] (ap (amount_nets R eq) c.clear.ensures.empty) in
    subst (IsFound R eq g.F.Field.text cs) c.in_default.is (c.in_ok-found.ensures cs same)

pub returns : goal.returns
returns g c =
    let R = g.F.PrimeCharacteristicRing.ring in
    let eq = g.F.PartialEq.eq in
    let text = g.F.Field.text in
    let all = map traced_of c.args.instances.now in
    let group = group_of R eq all c.args.group.now in
    let cs = group.contributions in
    let limit = c.args.limit in
    let same = c.in_ok-walk_group.ensures.1 [] (ap (amount_nets R eq) c.clear.ensures.empty) in
    let found = subst (IsFound R eq text cs) c.in-Some.is (c.in_ok-found.ensures cs same) in
    let listed : c.insert.new.self.entries ≡ c.in-Some.found ∷ [] =
    c.in_ok-insert.ensures.entries ∙ ap (λ es. insert_entry (λ (a b : Bor (List _)). pointwise eq a.now b.now) es c.in-Some.found.0 c.in-Some.found.1) c.new-listed.ensures.empty in
    let u = c.in-Some-pop.unbalanced in
    let entry = only_one entry_of c.in_ok-tuples.tuples.items c.pop.new.self.items u (placed_entry R eq limit cs c.in-Some.found) c.in-Some-pop.ensures.items (c.in_ok-tuples.ensures ∙ ap (map (placed_entry R eq limit cs)) listed) in
    unbalanced_in R eq text limit cs group.label c.in_ok-name.name u c.in-Some.found found entry (c.in_ok-name.ensures all)
