use Rattle.std.proofs.Common.{arith, refl, subst}
use Rattle.std.proofs.lemmas.Option.{none-some}
use Rattle.lookup_model.specs.Records.{LookupsFit}
use Rattle.gate_memory.proofs.generations.generate.Goals as goal

pub generate_counted-requires-clause-fit : goal.generate_counted-requires-clause-fit
generate_counted-requires-clause-fit g c =
    subst (λ l. LookupsFit l c.args.lookups.now) c.of_traces-layout.ensures (c.if-not-fits.ensures.0 refl)

pub generate_counted-requires-clause-challenges : goal.generate_counted-requires-clause-challenges
generate_counted-requires-clause-challenges g c = omega (arith, c.if-lookups-challenges.false)

pub generate_permutation-requires-clause-fit : goal.generate_permutation-requires-clause-fit
generate_permutation-requires-clause-fit g c =
    subst (λ l. LookupsFit l c.args.lookups.now) c.of_traces-layout.ensures (c.if-not-fits.ensures.0 refl)

pub generate_permutation-requires-clause-heights : goal.generate_permutation-requires-clause-heights
generate_permutation-requires-clause-heights g c x is = absurd (none-some x is)

pub generate_permutation-requires-clause-challenges : goal.generate_permutation-requires-clause-challenges
generate_permutation-requires-clause-challenges g c = omega (arith, c.if-lookups-challenges.false)
