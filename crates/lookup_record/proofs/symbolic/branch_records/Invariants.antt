use Rattle.std.proofs.Common.{◌≡◌, ◌++◌, map}
use Rattle.std.specs.Vec.Iter.{into_iter_items}
use Rattle.lookup_record.specs.Pushed.{pushed_branch}
use Rattle.lookup_record.specs.Records.{branch_of}
use Rattle.lookup_record.proofs.symbolic.branch_records.Given as goal

abbrev pub invariant-loop-flag : goal.invariant-loop-flag
invariant-loop-flag g l =
    (map branch_of l.records.items ++ map pushed_branch (into_iter_items l.flag-iterator) ≡ map pushed_branch l.fn.branches.items)
