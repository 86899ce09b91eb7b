use Rattle.std.proofs.Common.{◌≡◌, map, take}
use Rattle.lookup_indexed.specs.Declaration.{read_of}
use Rattle.lookup_record.proofs.indexed.copy_reads.Given as goal

abbrev pub invariant-loop-read : goal.invariant-loop-read
invariant-loop-read l = map read_of l.copies.items ≡ map read_of (take l.read-index l.reads)
