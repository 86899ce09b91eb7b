use Rattle.std.proofs.Common.{◌≡◌, ◌+◌, ◌<◌, ◌++◌, map}
use Rattle.std.specs.List.{sum_by}
use Rattle.std.specs.Vec.Iter.{into_iter_items}
use Rattle.lookup_record.specs.Pushed.{tuple_of}
use Rattle.lookup_record.specs.Records.{local_of}
use Rattle.lookup_model.specs.Weight.{weight_bound}
use Rattle.lookup.proofs.extraction.local_lookup.Given as goal

abbrev pub invariant-loop-fields : goal.invariant-loop-fields
invariant-loop-fields g l =
    let rest = map tuple_of (into_iter_items l.fields-iterator) in
    let all = local_of l.fn.interaction in
    (map (λ tuple. tuple.items) l.elements.items ++ map (λ t. t.fields) rest ≡ map (λ t. t.fields) all)
    × (l.multiplicities.items ++ map (λ t. t.count) rest ≡ map (λ t. t.count) all)
    × (l.count_weight < weight_bound)
    × (l.count_weight + sum_by (λ t. t.weight) rest ≡ sum_by (λ t. t.weight) all)
