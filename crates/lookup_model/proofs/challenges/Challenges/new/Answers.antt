use Rattle.std.proofs.Common.{◌+◌, ◌++◌, ◌∷◌, [], map, sym, ap, ◌∙◌, arith, rules}
use Rattle.std.proofs.lemmas.List.FromFn.{map-range_with_len_more}
use Rattle.std.specs.Box.{boxed_slice_items}
use Rattle.std.specs.List.{range_with_len}
use Rattle.field.specs.Ring.{of_nat}
use Rattle.lookup_model.specs.Challenges.{prefix_of_bus}
use Rattle.lookup_model.proofs.Prefixes.{has_points, no_step, one_more_step}
use Rattle.lookup_model.proofs.challenges.Challenges.new.Goals as goal

pub loop-init : goal.loop-init
loop-init g c =
    (c.in_ok-prefixes.ensures.items, no_step g.EF.PrimeCharacteristicRing.lawful c.args.alpha c.positive_power-gamma.result)

pub loop-preserved : goal.loop-preserved
loop-preserved g c =
    let S = g.EF.PrimeCharacteristicRing.ring in
    let lawful = g.EF.PrimeCharacteristicRing.lawful in
    let prefix = prefix_of_bus S c.args.alpha c.args.beta c.args.max_message_width in
    let next = g.met.EF.PrimeCharacteristicRing.add_is _ _ _ c.add-prefix.ensures ∙ ap (λ t. S.add t c.positive_power-gamma.result) c.loop.invariant.1 ∙ one_more_step lawful c.args.alpha c.positive_power-gamma.result c.loop.counter in
    (c.in_ok-push.ensures.items ∙ (λ i. c.loop.invariant.0 i ++ (next ∙ ap (λ t. S.add c.args.alpha (S.mul (of_nat S (c.loop.counter + 1)) t)) c.positive_power-gamma.ensures) i ∷ []) ∙ sym (map-range_with_len_more prefix 0 c.loop.counter c.loop.counter (search rules)), next)

pub returns-clause-points : goal.returns-clause-points
returns-clause-points g c =
    let prefix = prefix_of_bus g.EF.PrimeCharacteristicRing.ring c.args.alpha c.args.beta c.args.max_message_width in
    has_points g.EF.PrimeCharacteristicRing.lawful c.args.max_message_width c.args.num_bus_ids c.args.alpha c.args.beta (boxed_slice_items c.into_boxed_slice.result)
    (c.into_boxed_slice.ensures.items ∙ c.loop.invariant.0 ∙ ap (λ n. map prefix (range_with_len 0 n)) (omega (arith, c.loop-test.false, c.loop.auto.counter-end)))
