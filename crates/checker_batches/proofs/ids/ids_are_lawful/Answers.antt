use Rattle.std.proofs.Common.{ap, map, ◌∙◌}
use Rattle.lookup_model.specs.Batches.Instances.{instances_of}
use Rattle.checker_batches.specs.internal.Identified.{identified_of}
use Rattle.checker_batches.proofs.IdLaws.{lawful_back, lawful_from}
use Rattle.checker_batches.proofs.ids.ids_are_lawful.Goals as goal

pub returns : goal.returns
returns g c =
    let W = c.args.max_message_width in
    let m = c.args.num_bus_ids in
    let p = g.F.PrimeCharacteristicRing.CHARACTERISTIC in
    let all = c.as_slice.result.now in
    let instances = instances_of c.args.instances.now in
    let are = ap (map identified_of) c.as_slice.ensures.value ∙ c.in_ok-all.ensures in
    (λ e. lawful_from W m p all instances are (c.are_lawful.ensures.0 e), λ lawful. c.are_lawful.ensures.1 (lawful_back W m p all instances are lawful))
