use Rattle.std.proofs.Common.{◌≡◌, ◌+◌, ◌++◌, length, map, take, vec_capacity}
use Rattle.c_tables.proofs.GroupLaws.{quartic_with}
use Rattle.c_tables.proofs.numbers.push_quartics.Given as goal

abbrev pub invariant-loop-four : goal.invariant-loop-four
invariant-loop-four g l = record {
  values : l.values.items ≡ l.initial.values.items ++ map (quartic_with g.K.MontyParameters.positive) (take l.four-index l.fours);
  many : length l.values.items ≡ length l.initial.values.items + l.four-index;
  room : vec_capacity l.values ≡ vec_capacity l.initial.values;
}
