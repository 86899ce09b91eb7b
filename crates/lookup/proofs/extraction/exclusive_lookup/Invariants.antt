use Rattle.std.proofs.Common.{◌≡◌, ◌++◌, map, max}
use Rattle.std.specs.Vec.Iter.{into_iter_items}
use Rattle.lookup_model.specs.LookupDegree.{greatest}
use Rattle.lookup_record.specs.Records.{branch_of, exclusive_of}
use Rattle.lookup.proofs.extraction.exclusive_lookup.Given as goal

abbrev pub invariant-loop-branch : goal.invariant-loop-branch
invariant-loop-branch g l =
    let rest = map branch_of (into_iter_items l.branch-iterator) in
    let all = (exclusive_of l.fn.interaction).branches in
    (map (λ tuple. tuple.items) l.elements.items ++ map (λ b. b.fields) rest ≡ map (λ b. b.fields) all)
    × (l.multiplicities.items ++ map (λ b. b.count) rest ≡ map (λ b. b.count) all)
    × (l.flags.items ++ map (λ b. b.flag) rest ≡ map (λ b. b.flag) all)
    × (max l.count_weight (greatest (map (λ b. b.weight) rest)) ≡ greatest (map (λ b. b.weight) all))
