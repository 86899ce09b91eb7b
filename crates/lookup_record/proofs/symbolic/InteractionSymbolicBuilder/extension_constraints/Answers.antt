use Rattle.std.proofs.Common.{◌∙◌, ap, arith, map}
use Rattle.std.proofs.lemmas.List.{take_all}
use Rattle.air_expressions.specs.ExtTree.{ext_tree_of}
use Rattle.field.proofs.Items.{copied_more}
use Rattle.lookup_record.proofs.symbolic.InteractionSymbolicBuilder.extension_constraints.Goals as goal

pub loop-constraint-preserved : goal.loop-constraint-preserved
loop-constraint-preserved g c = rw c.in_ok-push.ensures.items
    (copied_more ext_tree_of c.loop-constraint.copies.items c.extension_constraints-constraint-items.result.now c.loop-constraint.constraint-index c.in_ok-copy.field-0 c.constraint-item.result c.loop-constraint.invariant c.loop-constraint-test.true c.constraint-item.is c.in_ok-copy.ensures)

pub returns : goal.returns
returns g c =
    c.loop-constraint.invariant ∙ ap (map ext_tree_of) (take_all c.loop-constraint.constraint-index c.extension_constraints-constraint-items.result.now (omega arith)) ∙ ap (map ext_tree_of) c.extension_constraints-constraint-items.ensures
