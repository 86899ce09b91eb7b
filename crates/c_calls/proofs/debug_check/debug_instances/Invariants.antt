use Rattle.std.proofs.Common.{◌≡◌, map, take}
use Rattle.lookup_debug.specs.Contributions.{AreFitting, traced_of}
use Rattle.c_calls.specs.DebugCheck.{all_debug_traced}
use Rattle.c_calls.proofs.debug_check.debug_instances.Given as goal

abbrev pub invariant-loop-air : goal.invariant-loop-air
invariant-loop-air g l = record {
  traced : map traced_of l.instances.items ≡ take l.air (all_debug_traced l.sets l.traces);
  fit : AreFitting l.instances.items;
}
