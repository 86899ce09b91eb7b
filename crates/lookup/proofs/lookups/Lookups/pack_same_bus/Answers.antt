use Rattle.std.proofs.Common.{get_or, map, Ok}
use Rattle.std.proofs.lemmas.Option.{slice_get-get_or}
use Rattle.lookup_model.specs.Outline.{fields_of}
use Rattle.lookup.proofs.StepLaws.{plain_on}
use Rattle.lookup.proofs.FewestColumns.{fewest_packed}
use Rattle.lookup.proofs.Within.{packed_fit}
use Rattle.lookup.proofs.lookups.Lookups.pack_same_bus.Goals as goal

pub returns-clause-fewest : goal.returns-clause-fewest
returns-clause-fewest g c =
    fewest_packed c.args.max_degree (λ v. map fields_of v.items) (map fields_of c.args.self.lookups.items) (Ok c.in_ok-lookups.lookups)
    (λ name. plain_on c.args.self.lookups.items name (λ k d lt. (c.args.self.records k (get_or c.args.self.lookups.items k d) lt (slice_get-get_or c.args.self.lookups.items k d lt)).1))
    c.in_ok-lookups.ensures.packs

pub returns-clause-fits : goal.returns-clause-fits
returns-clause-fits g c = λ layout fit. packed_fit layout _ c.args.max_degree c.args.self.lookups.items c.in_ok-lookups.lookups.items c.in_ok-lookups.ensures.packs.1 c.in_ok-lookups.ensures.records fit
