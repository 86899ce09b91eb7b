use Rattle.std.proofs.Common.{◌∙◌, sym}
use Rattle.std.proofs.lemmas.List.{length-map}
use Rattle.lookup_record.specs.Records.{local_of}
use Rattle.lookup_record.proofs.symbolic.InteractionSymbolicBuilderInteractionBuilder.num_local_interactions.Goals as goal

pub returns : goal.returns
returns g c =
    c.len.ensures ∙ c.args.self.now.local_interactions.ok.0 ∙ sym (length-map c.args.self.now.local_interactions.items local_of)
