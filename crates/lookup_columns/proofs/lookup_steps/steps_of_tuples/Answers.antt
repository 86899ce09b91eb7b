use Rattle.std.proofs.Common.{◌+◌, ◌∷◌, ◌++◌, [], ap, sym, subst, subst₂, take, ◌∙◌}
use Rattle.std.proofs.lemmas.Slice.Zip.{all_zipped_more}
use Rattle.std.specs.List.{AllZip}
use Rattle.list_laws.proofs.Items.{take_item}
use Rattle.lookup_columns.specs.Steps.{AreStepsOf}
use Rattle.lookup_columns.specs.LookupSteps.{AreTupleSteps}
use Rattle.lookup_columns.proofs.lookup_steps.steps_of_tuples.Goals as goal

pub loop-tuple-preserved : goal.loop-tuple-preserved
loop-tuple-preserved g c =
    let tuples = c.args.lookup.now.elements.items in
    let seen = c.deref-tuple-items.result.now in
    let same = c.deref-tuple-items.ensures.value in
    let i = c.loop-tuple.tuple-index in
    let tuple = c.tuple-item.result in
    let steps = c.in_ok-steps_of_each.field-0 in
    let more = ap (take (i + 1)) (sym same) ∙ take_item seen i tuple c.loop-tuple-test.true c.tuple-item.is ∙ ap (λ l. take i l ++ tuple ∷ []) same in
    subst₂ (AllZip AreTupleSteps) (sym c.in_ok-push.ensures.items) (sym more)
    (all_zipped_more AreTupleSteps c.loop-tuple.tuples.items (take i tuples) steps tuple c.loop-tuple.invariant
    (subst (AllZip AreStepsOf steps.items) c.deref.ensures.value c.in_ok-steps_of_each.ensures.steps))
