use Rattle.std.proofs.Common.{◌≡◌, ◌<◌, Some, ap, arith, length, map, refl, slice_get, sym, ◌∙◌}
use Rattle.std.proofs.lemmas.List.{length-map}
use Rattle.std.proofs.lemmas.Option.{slice_get_read, slice_get_within}
use Rattle.list_laws.proofs.Images.{map_at}
use Rattle.list_laws.proofs.Items.{holds_next}
use Rattle.lookup_debug.specs.Contributions.{traced_of}
use Rattle.lookup_debug.specs.FirstUnbalanced.{IsFirstUnbalanced, IsUnbalancedIn}
use Rattle.lookup_debug.specs.Groups.{Group, groups}
use Rattle.lookup_debug.specs.Mismatch.{AllBalance, Balances}
use Rattle.lookup_debug.specs.internal.GroupList.{group_of}
use Rattle.lookup_debug.proofs.FirstUnbalancedLaws.{answer_missing, answer_there}
use Rattle.lookup_debug.proofs.first_unbalanced.mismatch_of.Goals as goal

pub groups_of-requires : goal.groups_of-requires
groups_of-requires g c = λ n d lt. record { fit = c.requires.fit n d lt; heights = c.requires.heights n d lt }

pub mismatch_in-requires-clause-fit : goal.mismatch_in-requires-clause-fit
mismatch_in-requires-clause-fit g c = λ n d lt. record { fit = c.requires.fit n d lt; heights = c.requires.heights n d lt }

pub returns-then-is_some : goal.returns-then-is_some
returns-then-is_some g c =
    let R = g.F.PrimeCharacteristicRing.ring in
    let eq = g.F.PartialEq.eq in
    let text = g.F.Field.text in
    let all = map traced_of c.args.instances.now in
    let index = c.loop-group.group-index in
    let items = c.deref-group-items.result.now in
    let item = c.group-item.result in
    let own = group_of R eq all item in
    let listed = ap (map (group_of R eq all)) c.deref-group-items.ensures.value ∙ c.in_ok-groups.ensures.0 in
    let there : slice_get (groups R eq all) index ≡ Some own =
    ap (λ t. slice_get t index) (sym listed) ∙ map_at (group_of R eq all) items index item (slice_get_read items (length items) index item refl c.loop-group-test.true c.group-item.is) in
    answer_there (Balances R eq own.contributions) (AllBalance R eq all) (IsUnbalancedIn R eq text c.args.limit own.label own.contributions) (IsFirstUnbalanced R eq text c.args.limit all) c.in_ok-found.found (sym c.if-is_some.ensures) c.in_ok-found.ensures
    (λ found is. record { index = index; item = own; is_there = there; before = c.loop-group.invariant; fault = is })

pub loop-group-preserved : goal.loop-group-preserved
loop-group-preserved g c =
    let R = g.F.PrimeCharacteristicRing.ring in
    let eq = g.F.PartialEq.eq in
    let all = map traced_of c.args.instances.now in
    let index = c.loop-group.group-index in
    let items = c.deref-group-items.result.now in
    let item = c.group-item.result in
    let own = group_of R eq all item in
    let listed = ap (map (group_of R eq all)) c.deref-group-items.ensures.value ∙ c.in_ok-groups.ensures.0 in
    let there : slice_get (groups R eq all) index ≡ Some own =
    ap (λ t. slice_get t index) (sym listed) ∙ map_at (group_of R eq all) items index item (slice_get_read items (length items) index item refl c.loop-group-test.true c.group-item.is) in
    holds_next (λ (h : Group _). Balances R eq h.contributions) (groups R eq all) index own there
    (answer_missing (Balances R eq own.contributions) (IsUnbalancedIn R eq g.F.Field.text c.args.limit own.label own.contributions) c.in_ok-found.found (sym c.if-is_some.ensures) c.in_ok-found.ensures)
    c.loop-group.invariant

pub returns : goal.returns
returns g c =
    let R = g.F.PrimeCharacteristicRing.ring in
    let eq = g.F.PartialEq.eq in
    let all = map traced_of c.args.instances.now in
    let items = c.deref-group-items.result.now in
    let listed = ap (map (group_of R eq all)) c.deref-group-items.ensures.value ∙ c.in_ok-groups.ensures.0 in
    λ i h there.
    let within : i < length (groups R eq all) = slice_get_within (groups R eq all) i h there in
    c.loop-group.invariant i h (omega (arith, within, ap length (sym listed), length-map items (group_of R eq all), c.loop-group-test.false)) there
