use Rattle.std.proofs.Common.{◌∙◌, ap, map}
use Rattle.lookup_indexed.specs.Declaration.{read_of, declared_table}
use Rattle.lookup_record.proofs.indexed.IndexedLookups.copy.Goals as goal

pub returns-clause-reads : goal.returns-clause-reads
returns-clause-reads c = c.in_ok-copy_reads.ensures ∙ ap (map read_of) c.reads.ensures

pub returns-clause-tables : goal.returns-clause-tables
returns-clause-tables c = c.in_ok-copy_tables.ensures ∙ ap (map declared_table) c.tables.ensures
