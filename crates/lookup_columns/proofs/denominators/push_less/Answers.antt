use Rattle.std.proofs.Common.{rules}
use Rattle.std.proofs.lemmas.Iterator.{YieldsList-from_map, YieldsList-from_slice}
use Rattle.std.proofs.lemmas.Iterator.Adapters.{items_from_extend}
use Rattle.std.proofs.lemmas.Iterator.Consumers.{YieldsList-at}
use Rattle.field.specs.Ring.{sub_in}
use Rattle.lookup_columns.proofs.denominators.push_less.Goals as goal

pub returns : goal.returns
returns g c =
    let h = items_from_extend c.extend.result c.extend.ensures.ran (YieldsList-from_map _ (λ x. sub_in g.EF.PrimeCharacteristicRing.ring c.args.alpha (g.EF.ExtensionDomain.embed x)) (YieldsList-at c.map.ensures.source (YieldsList-from_slice c.args.column.now cc)) c.map.ensures.closure (λ x r q k. search rules)) in
    search rules
