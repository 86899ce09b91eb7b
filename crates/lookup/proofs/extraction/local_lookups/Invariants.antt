use Rattle.std.proofs.Common.{◌≡◌, ◌++◌, length, map, All}
use Rattle.std.specs.Vec.Iter.{into_iter_items}
use Rattle.lookup_model.specs.Records.{AreRecords}
use Rattle.lookup_model.specs.declared.error.LookupError.{LookupError}
use Rattle.lookup_record.specs.Records.{local_of}
use Rattle.lookup_model.specs.Outline.{fields_of}
use Rattle.lookup.specs.Extraction.{in_columns, IsFaultless, IsFirstLocalRefusal, local_at}
use Rattle.lookup.proofs.extraction.local_lookups.Given as goal

abbrev pub invariant-loop-interaction : goal.invariant-loop-interaction
invariant-loop-interaction g l =
    let rest = map local_of (into_iter_items l.interaction-iterator) in
    let all = map local_of l.fn.locals.items in
    (map fields_of l.lookups.items ++ in_columns local_at (length l.lookups.items) rest ≡ in_columns local_at 0 all)
    × AreRecords l.lookups.items
    × (All IsFaultless rest → All IsFaultless all)
    × ((e : LookupError) → IsFirstLocalRefusal rest e → IsFirstLocalRefusal all e)
