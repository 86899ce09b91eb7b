use Rattle.std.proofs.Common.{take, map, All}
use Rattle.lookup_indexed.specs.Declaration.{read_of}
use Rattle.lookup_indexed.specs.Faults.{IsFaultlessRead}
use Rattle.lookup_indexed.proofs.check.check_reads.Given as goal

abbrev pub invariant-loop-read : goal.invariant-loop-read
invariant-loop-read l = All (IsFaultlessRead l.width) (map read_of (take l.read-index l.reads))
