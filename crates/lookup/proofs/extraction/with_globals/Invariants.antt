use Rattle.std.proofs.Common.{◌≡◌, ◌++◌, length, map}
use Rattle.std.specs.Vec.Iter.{into_iter_items}
use Rattle.lookup_model.specs.Records.{AreRecords}
use Rattle.lookup_record.specs.Records.{global_of}
use Rattle.lookup_model.specs.Outline.{fields_of}
use Rattle.lookup.specs.Extraction.{in_columns, global_at}
use Rattle.lookup.proofs.extraction.with_globals.Given as goal

abbrev pub invariant-loop-interaction : goal.invariant-loop-interaction
invariant-loop-interaction g l =
    (map fields_of l.lookups.items ++ in_columns global_at (length l.lookups.items) (map global_of (into_iter_items l.interaction-iterator))
    ≡ map fields_of l.fn.before.items ++ in_columns global_at (length l.fn.before.items) (map global_of l.fn.globals.items))
    × AreRecords l.lookups.items
