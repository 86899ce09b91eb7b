use Rattle.std.proofs.Common.{◌∙◌, ap, arith, map}
use Rattle.std.proofs.lemmas.List.{take_all}
use Rattle.std.proofs.lemmas.Simd.{map-map}
use Rattle.air_expressions.specs.Tree.{tree_of}
use Rattle.field.proofs.Items.{copied_more}
use Rattle.lookup_record.specs.Interaction.{map_tuple}
use Rattle.lookup_record.specs.Pushed.{tuple_of}
use Rattle.lookup_record.proofs.interaction.SymbolicLocalInteraction.copy.Goals as goal

pub loop-tuple-preserved : goal.loop-tuple-preserved
loop-tuple-preserved g c = rw c.in_ok-push.ensures.items
    (copied_more (λ t. map_tuple tree_of (tuple_of t)) c.loop-tuple.tuples.items c.as_slice-tuple-items.result.now c.loop-tuple.tuple-index c.in_ok-copy_local_tuple.field-0 c.tuple-item.result c.loop-tuple.invariant c.loop-tuple-test.true c.tuple-item.is c.in_ok-copy_local_tuple.ensures)

pub returns : goal.returns
returns g c =
    let seen = map (λ (t : _). map_tuple tree_of (tuple_of t)) in
    simp map-map (c.loop-tuple.invariant ∙ ap seen (take_all c.loop-tuple.tuple-index c.as_slice-tuple-items.result.now (omega arith)) ∙ ap seen c.as_slice-tuple-items.ensures.value)
