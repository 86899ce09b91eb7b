use Rattle.std.proofs.Common.{◌≡◌, map, take}
use Rattle.c_calls.specs.Enforced.{is_query}
use Rattle.c_calls.proofs.enforced.queries_of.Given as goal

abbrev pub invariant-loop-byte : goal.invariant-loop-byte
invariant-loop-byte l = l.queries.items ≡ map is_query (take l.byte-index l.bytes)
