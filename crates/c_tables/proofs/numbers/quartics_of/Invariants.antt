use Rattle.std.proofs.Common.{◌≡◌, ◌≤◌, ◌-◌, All, length, map, take, vec_capacity}
use Rattle.c_tables.specs.Numbers.{quartic_of_numbers}
use Rattle.c_tables.specs.internal.Numbers.{IsNumberGroupUpTo}
use Rattle.c_tables.proofs.numbers.quartics_of.Given as goal

abbrev pub invariant-loop-first : goal.invariant-loop-first
invariant-loop-first g l = record {
  within : l.first ≤ length l.groups;
  values : l.values.items ≡ map (quartic_of_numbers g.K.MontyParameters.positive) (take l.first l.groups);
  has_room : length l.groups ≤ vec_capacity l.values;
  greatest : All (IsNumberGroupUpTo l.greatest) (take l.first l.groups);
}

abbrev pub decreases-loop-first : goal.decreases-loop-first
decreases-loop-first g l = length l.groups - l.first
