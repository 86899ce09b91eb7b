use Rattle.std.specs.Prelude.{◌+◌, ◌*◌}
use Rattle.std.proofs.Common.{refl, ◌∙◌, arith}
use Rattle.air_expressions.proofs.Cells.{reads_at}
use Rattle.lookup_constraints.proofs.FoundCells.{found_at}
use Rattle.lookup_constraints.proofs.cells.column_challenges.Goals as goal

pub returns-clause-alpha : goal.returns-clause-alpha
returns-clause-alpha g c =
    let challenges = c.permutation_randomness-challenges.ensures in
    let found = found_at _ _ (2 * c.args.column) _ refl (omega (arith, challenges.means.len, c.requires)) c.index-challenges-column.is in record {
      means = λ w stands. g.met.AB.PermutationAirBuilder.challenge_converts _ _ w c.into.ensures ∙ reads_at _ _ _ _ _ (2 * c.args.column) _ w _ challenges.means found stands;
      within = λ t. omega (arith, challenges.degree (2 * c.args.column) t _ _ found c.into.ensures);
    }

pub returns-clause-beta : goal.returns-clause-beta
returns-clause-beta g c =
    let challenges = c.permutation_randomness-challenges.ensures in
    let found = found_at _ _ (2 * c.args.column + 1) _ refl (omega (arith, challenges.means.len, c.requires)) c.index-challenges-column-2.is in record {
      means = λ w stands. g.met.AB.PermutationAirBuilder.challenge_converts _ _ w c.into-2.ensures ∙ reads_at _ _ _ _ _ (2 * c.args.column + 1) _ w _ challenges.means found stands;
      within = λ t. omega (arith, challenges.degree (2 * c.args.column + 1) t _ _ found c.into-2.ensures);
    }
