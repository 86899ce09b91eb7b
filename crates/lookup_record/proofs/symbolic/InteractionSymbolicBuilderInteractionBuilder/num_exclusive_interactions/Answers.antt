use Rattle.std.proofs.Common.{◌∙◌, sym}
use Rattle.std.proofs.lemmas.List.{length-map}
use Rattle.lookup_record.specs.Records.{exclusive_of}
use Rattle.lookup_record.proofs.symbolic.InteractionSymbolicBuilderInteractionBuilder.num_exclusive_interactions.Goals as goal

pub returns : goal.returns
returns g c =
    c.len.ensures ∙ c.args.self.now.exclusive_interactions.ok.0 ∙ sym (length-map c.args.self.now.exclusive_interactions.items exclusive_of)
