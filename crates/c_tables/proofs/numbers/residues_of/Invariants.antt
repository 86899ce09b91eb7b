use Rattle.std.proofs.Common.{◌≡◌, ◌≤◌, length, map, take, vec_capacity}
use Rattle.field.specs.Residue.{residue_of}
use Rattle.c_tables.specs.internal.Numbers.{AreNumbersUpTo}
use Rattle.c_tables.proofs.numbers.residues_of.Given as goal

abbrev pub invariant-loop-n : goal.invariant-loop-n
invariant-loop-n g l = record {
  values : l.values.items ≡ map (residue_of g.row.P g.K.MontyParameters.positive) (take l.n-index l.numbers);
  many : length l.values.items ≡ l.n-index;
  has_room : length l.numbers ≤ vec_capacity l.values;
  greatest : AreNumbersUpTo l.greatest l.n-index l.numbers;
}
