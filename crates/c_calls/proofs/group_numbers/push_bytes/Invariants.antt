use Rattle.std.proofs.Common.{◌≡◌, ◌++◌, take}
use Rattle.c_calls.proofs.group_numbers.push_bytes.Given as goal

abbrev pub invariant-loop-byte : goal.invariant-loop-byte
invariant-loop-byte l = l.numbers.items ≡ l.initial.numbers.items ++ take l.byte-index l.bytes
