use Rattle.lookup_record.proofs.indexed.IndexedLookups.tables.Goals as goal

pub returns : goal.returns
returns c = c.as_slice.ensures.value
