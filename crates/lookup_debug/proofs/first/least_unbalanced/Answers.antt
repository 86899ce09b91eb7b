use Rattle.std.proofs.Common.{subst, arith}
use Rattle.lookup_debug.specs.internal.Nets.{IsFirstIndex}
use Rattle.lookup_debug.proofs.first.least_unbalanced.Goals as goal

pub returns : goal.returns
returns g c =
    subst (λ n. IsFirstIndex g.F.PrimeCharacteristicRing.ring g.F.PartialEq.eq g.F.Field.text c.args.nets.now.entries n c.loop-index.best)
    (omega (arith, c.loop-index-test.false, c.loop-index.auto.index-end, c.len-index-end.ensures.len))
    c.loop-index.invariant
