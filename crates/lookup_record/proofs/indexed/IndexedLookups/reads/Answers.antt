use Rattle.lookup_record.proofs.indexed.IndexedLookups.reads.Goals as goal

pub returns : goal.returns
returns c = c.as_slice.ensures.value
