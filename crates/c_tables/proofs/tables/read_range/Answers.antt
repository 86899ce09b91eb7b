use Rattle.std.proofs.lemmas.Result.{MatchResult-weaker}
use Rattle.c_tables.proofs.TablesOnce.{written_once}
use Rattle.c_tables.proofs.tables.read_range.Goals as goal

pub returns : goal.returns
returns g c =
    MatchResult-weaker c.expressions_at.result c.expressions_at.ensures
    (λ v are. record { are = are; only = λ others say. written_once g.K.MontyParameters.positive c.args.nodes.now c.args.span others v.items say are })
    (λ e bad. bad)
