use Rattle.std.proofs.Common.{ap, map, reverse}
use Rattle.lookup_columns.proofs.slots.Slots.new.Goals as goal

pub returns-clause-slots : goal.returns-clause-slots
returns-clause-slots g c = ap (λ l. reverse (map (λ v. v.items) l)) c.new.ensures.items
