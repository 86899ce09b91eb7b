use Rattle.std.proofs.Common.{◌∙◌, ap, map}
use Rattle.air_expressions.specs.Tree.{tree_of}
use Rattle.field.proofs.Items.{copied_more}
use Rattle.lookup_model.proofs.copies.copy_tuples.Goals as goal

pub loop-tuple-preserved : goal.loop-tuple-preserved
loop-tuple-preserved g c = rw c.in_ok-push.ensures.items
    (copied_more (λ tuple. map tree_of tuple.items) c.loop-tuple.copies.items c.args.tuples.now c.loop-tuple.tuple-index c.in_ok-copy_expressions.field-0 c.tuple-item.result c.loop-tuple.invariant c.loop-tuple-test.true c.tuple-item.is (c.in_ok-copy_expressions.ensures ∙ ap (map tree_of) c.as_slice.ensures.value))
