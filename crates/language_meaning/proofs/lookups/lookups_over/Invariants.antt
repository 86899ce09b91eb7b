use Rattle.std.proofs.Common.{◌≡◌, All, length, map, take}
use Rattle.field.specs.Ring.{of_nat}
use Rattle.lookup_model.specs.Outline.{outline_of}
use Rattle.lookup_model.specs.Records.{AreRecords}
use Rattle.language_meaning.specs.Lookups.{column_of}
use Rattle.language_meaning.specs.Columns.{IsMade, outlines_in}
use Rattle.language_meaning.proofs.lookups.lookups_over.Given as goal

-- the lookups so far are those of the columns so far, which can all be made
abbrev pub invariant-loop-index : goal.invariant-loop-index
invariant-loop-index g l = record {
  outlines : map outline_of l.lookups.items ≡ outlines_in (of_nat g.F.PrimeCharacteristicRing.ring) l.text 0 (map column_of (take l.index l.named));
  made : All (IsMade l.text) (map column_of (take l.index l.named));
  records : AreRecords l.lookups.items;
  as_many : length l.lookups.items ≡ l.index;
}
