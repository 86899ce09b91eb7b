use Rattle.lookup_enforced.proofs.FixedLaws.{none_fixed}
use Rattle.lookup_enforced.proofs.fixed.fixed_constraints.Goals as goal

pub returns : goal.returns
returns g c = c.in_ok-push_exclusive.ensures (c.in_ok-push_bits.ensures (none_fixed g.F.PrimeCharacteristicRing.ring c.args.preprocessed.now c.new-found.result.items c.new-found.ensures.items))
