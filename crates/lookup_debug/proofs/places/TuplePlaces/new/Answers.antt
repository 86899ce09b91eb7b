use Rattle.std.proofs.Common.{◌≤◌, ◌++◌, ◌∷◌, [], ap, arith, length, map, refl, sym, ◌∙◌}
use Rattle.std.proofs.lemmas.List.{map-append, take_all}
use Rattle.std.proofs.lemmas.Option.{get_or_from_slice_get, slice_get_within}
use Rattle.list_laws.proofs.Images.{images_more}
use Rattle.lookup_debug.specs.BusTable.{entry_of, location_and_count_of}
use Rattle.lookup_debug.specs.internal.Places.{placed_entry}
use Rattle.lookup_debug.proofs.PlaceLaws.{entry_is}
use Rattle.lookup_debug.proofs.places.TuplePlaces.new.Goals as goal

pub loop-index-preserved : goal.loop-index-preserved
loop-index-preserved g c =
    let R = g.F.PrimeCharacteristicRing.ring in
    let eq = g.F.PartialEq.eq in
    let limit = c.args.limit in
    let entries = c.args.listed.entries in
    let index = c.loop-index.index in
    let entry = c.entry_at-net.result in
    let there = c.entry_at-net.ensures in
    let made = c.in_ok-new.field-0 in
    let is = c.in_ok-new.ensures in
    let none = ap (map location_and_count_of) is.3 ∙ sym (take_all limit [] (omega arith)) in
    ap (map entry_of) c.in_ok-push.ensures.items
    ∙ map-append entry_of c.loop-index.tuples.items (made ∷ [])
    ∙ (λ i. c.loop-index.invariant i ++ entry_is R eq g.met.F.PrimeCharacteristicRing.eq_is limit [] made entry is.0 is.1 (is.2, none) i ∷ [])
    ∙ sym (images_more (placed_entry R eq limit []) entries index entry (slice_get_within entries index entry there) (sym (get_or_from_slice_get entries index entry entry there)))

pub returns : goal.returns
returns g c =
    let R = g.F.PrimeCharacteristicRing.ring in
    let entries = c.args.listed.entries in
    let past : length entries ≤ c.loop-index.index = omega (arith, c.loop-index-test.false, c.len-index-end.ensures.len) in (
      refl,
      refl,
      c.loop-index.invariant ∙ ap (map (placed_entry R g.F.PartialEq.eq c.args.limit [])) (take_all c.loop-index.index entries past),
    )
