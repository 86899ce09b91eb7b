use Rattle.std.proofs.Common.{map}
use Rattle.language_meaning.specs.Shapes.{shape_of}
use Rattle.language_meaning.specs.Lookups.{said_of}
use Rattle.language.specs.Batches.{section_of}
use Rattle.check_judge.specs.Said.{airs_of}
use Rattle.check_judge.proofs.AirLaws.{GoOnSaying}
use Rattle.check_judge.proofs.CauseLaws.{RefusesNames}
use Rattle.check_judge.proofs.airs.airs_named.Given as goal

abbrev pub invariant-loop-index : goal.invariant-loop-index
invariant-loop-index l = let sections = map section_of l.batch.sections.items in record {
  said : GoOnSaying l.text sections 1048576 (airs_of sections) (map shape_of l.shapes) l.index l.room (map said_of l.named.items);
  refuses : RefusesNames l.text sections 1048576 (airs_of sections) (map shape_of l.shapes) l.index l.room;
}
