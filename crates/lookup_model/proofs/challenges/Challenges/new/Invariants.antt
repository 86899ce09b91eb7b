use Rattle.std.proofs.Common.{◌≡◌, map}
use Rattle.std.specs.List.{range_with_len}
use Rattle.lookup_model.specs.Challenges.{prefix_of_bus}
use Rattle.field.specs.Ring.{of_nat}
use Rattle.lookup_model.proofs.challenges.Challenges.new.Given as goal

abbrev pub invariant-loop : goal.invariant-loop
invariant-loop g l =
    let S = g.EF.PrimeCharacteristicRing.ring in
    (l.prefixes.items ≡ map (prefix_of_bus S l.alpha l.beta l.max_message_width) (range_with_len 0 l.counter)) × (l.prefix ≡ S.add l.alpha (S.mul (of_nat S l.counter) l.gamma))
