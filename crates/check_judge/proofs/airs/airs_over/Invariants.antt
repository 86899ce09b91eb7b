use Rattle.std.proofs.Common.{map}
use Rattle.field.specs.Ring.{of_nat}
use Rattle.language_meaning.specs.Tables.{tables_of}
use Rattle.language.specs.Batches.{section_of}
use Rattle.check_judge.specs.Constraints.{IsConstrained, over_constrained}
use Rattle.check_judge.specs.Said.{IsSaid, airs_of}
use Rattle.check_judge.specs.Airs.{AreFittingAirs, over_traced}
use Rattle.check_judge.proofs.AirLaws.{GoesOn}
use Rattle.check_judge.proofs.CauseLaws.{RefusesAirs}
use Rattle.check_judge.proofs.airs.airs_over.Given as goal

abbrev pub invariant-loop-index : goal.invariant-loop-index
invariant-loop-index g l = let sections = map section_of l.batch.sections.items in record {
  said : GoesOn (IsSaid (of_nat g.F.PrimeCharacteristicRing.ring) l.text sections) 1048576 (airs_of sections) (map tables_of l.tables) l.index l.room (map over_traced l.airs.items);
  constrained : GoesOn (IsConstrained (of_nat g.F.PrimeCharacteristicRing.ring) l.text sections) 1048576 (airs_of sections) (map tables_of l.tables) l.index l.room (map over_constrained l.airs.items);
  fit : AreFittingAirs l.airs.items;
  refuses : RefusesAirs l.text sections 1048576 (of_nat g.F.PrimeCharacteristicRing.ring) (airs_of sections) (map tables_of l.tables) l.index l.room;
}
