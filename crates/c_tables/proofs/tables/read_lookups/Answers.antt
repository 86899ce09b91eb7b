use Rattle.std.proofs.lemmas.Result.{MatchResult-weaker}
use Rattle.c_tables.proofs.TablesOnce.{lookups_once}
use Rattle.c_tables.proofs.tables.read_lookups.Goals as goal

pub returns : goal.returns
returns g c =
    MatchResult-weaker c.lookups_at.result c.lookups_at.ensures
    (λ v are. record { are = are; only = λ others say. lookups_once g.K.MontyParameters.positive c.args.tables.now others v.items say are })
    (λ e bad. bad)
