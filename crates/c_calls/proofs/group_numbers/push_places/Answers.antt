use Rattle.std.proofs.Common.{◌++◌, ◌∙◌, ◌∷◌, [], ap, arith}
use Rattle.c_calls.specs.GroupNumbers.{place_numbers}
use Rattle.c_calls.proofs.WrittenLaws.{all_appended, part_appended}
use Rattle.c_calls.proofs.group_numbers.push_places.Goals as goal

pub loop-place-preserved : goal.loop-place-preserved
loop-place-preserved g c = part_appended place_numbers c.args.places.now c.loop-place.place-index c.place-item.result c.loop-place-test.true c.place-item.is c.args.numbers.now.items c.loop-place.numbers.items _ c.loop-place.invariant
    (c.in_ok-extend_from_slice.ensures.items ∙ ap (λ n. c.loop-place.numbers.items ++ (c.place-item.result.location.instance ∷ c.place-item.result.location.lookup ∷ c.place-item.result.location.row ∷ n ∷ [])) c.as_canonical_u32-count.ensures.value)

pub returns : goal.returns
returns g c = all_appended place_numbers c.args.places.now c.loop-place.place-index (omega (arith, c.loop-place-test.false)) c.args.numbers.now.items c.loop-place.numbers.items c.loop-place.invariant
