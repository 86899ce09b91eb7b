use Rattle.std.proofs.Common.{◌∙◌, sym}
use Rattle.std.proofs.lemmas.List.{length-map}
use Rattle.lookup_indexed.specs.Declaration.{declared_table}
use Rattle.lookup_record.proofs.symbolic.InteractionSymbolicBuilderIndexedLookupBuilder.num_indexed_tables.Goals as goal

pub returns : goal.returns
returns g c =
    c.len.ensures ∙ c.args.self.now.indexed_tables.ok.0 ∙ sym (length-map c.args.self.now.indexed_tables.items declared_table)
