use Rattle.std.proofs.Common.{ap, map, reverse, vec_capacity}
use Rattle.lookup_columns.proofs.spare.SpareLists.new.Goals as goal

pub returns : goal.returns
returns g c = ap (λ l. reverse (map (λ v. vec_capacity v) l)) c.new.ensures.items
