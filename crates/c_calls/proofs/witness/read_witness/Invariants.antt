use Rattle.std.proofs.Common.{◌≡◌, All, map, take}
use Rattle.c_calls.specs.Witnesses.{IsAirWitness, witness_auxiliary, witness_terminal}
use Rattle.c_calls.proofs.witness.read_witness.Given as goal

abbrev pub invariant-loop-index : goal.invariant-loop-index
invariant-loop-index g l = record {
  aux : l.aux.items ≡ map (witness_auxiliary g.K.MontyParameters.positive) (take l.index l.witness);
  terminals : l.terminals.items ≡ map (λ air. witness_terminal g.K.MontyParameters.positive air.terminal) (take l.index l.witness);
  each : All (IsAirWitness g.row.P) (take l.index l.witness);
}
