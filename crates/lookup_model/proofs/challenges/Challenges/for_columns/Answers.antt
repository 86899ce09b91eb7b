use Rattle.std.proofs.Common.{length, ap, ◌∙◌, arith}
use Rattle.std.proofs.lemmas.List.{take_all}
use Rattle.lookup_model.specs.Challenges.{column_challenges, table_of}
use Rattle.lookup_model.proofs.ColumnChallenges.{length-column_challenges}
use Rattle.lookup_model.proofs.challenges.Challenges.for_columns.Goals as goal

pub returns-clause-len : goal.returns-clause-len
returns-clause-len g c =
    let table = table_of c.args.self.now in
    let ids = c.args.ids.now in
    ap length (c.loop-id.invariant ∙ ap (column_challenges table) (take_all c.loop-id.id-index ids (omega arith))) ∙ length-column_challenges table ids
