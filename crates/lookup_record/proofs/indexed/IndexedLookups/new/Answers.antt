use Rattle.std.proofs.Common.{refl}
use Rattle.lookup_record.proofs.indexed.IndexedLookups.new.Goals as goal

pub returns : goal.returns
returns c =
    (refl, refl, rw (← c.deref.ensures.value, ← c.deref-2.ensures.value) c.in_ok-check_declarations.ensures)
