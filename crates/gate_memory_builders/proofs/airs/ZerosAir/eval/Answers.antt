use Rattle.air_expressions.proofs.Assertions.{accepts_all_keep, on_ok}
use Rattle.gate_memory_builders.proofs.airs.ZerosAir.eval.Goals as goal

pub returns : goal.returns
returns g c = on_ok c.assert_zeros.result _ _ _ c.assert_zeros.ensures
    (λ all. accepts_all_keep g.AB.AirBuilder.accepts g.AB.AirBuilder.layout g.met.AB.AirBuilder.keeps_layout _ _ _ all)
