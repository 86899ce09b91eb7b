use Rattle.lookup.proofs.Within.{packed_fit}
use Rattle.lookup.proofs.lookups.Lookups.pack_same_bus_with_degree.Goals as goal

pub returns-clause-fits : goal.returns-clause-fits
returns-clause-fits g c = λ layout fit. packed_fit layout _ c.args.max_degree c.args.self.lookups.items c.in_ok-lookups.lookups.items c.in_ok-lookups.ensures.packs.1 c.in_ok-lookups.ensures.records fit
