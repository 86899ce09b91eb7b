use Rattle.std.proofs.Common.{◌∙◌, sym}
use Rattle.std.proofs.lemmas.List.{length-map}
use Rattle.lookup_indexed.specs.Declaration.{read_of}
use Rattle.lookup_record.proofs.symbolic.InteractionSymbolicBuilderIndexedLookupBuilder.num_indexed_reads.Goals as goal

pub returns : goal.returns
returns g c =
    c.len.ensures ∙ c.args.self.now.indexed_reads.ok.0 ∙ sym (length-map c.args.self.now.indexed_reads.items read_of)
