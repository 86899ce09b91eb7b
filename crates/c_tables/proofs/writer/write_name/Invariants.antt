use Rattle.std.proofs.Common.{◌≡◌, ◌++◌, take}
use Rattle.c_tables.proofs.writer.write_name.Given as goal

abbrev pub invariant-loop-byte : goal.invariant-loop-byte
invariant-loop-byte l = l.names.items ≡ l.initial.names.items ++ take l.byte-index l.name
