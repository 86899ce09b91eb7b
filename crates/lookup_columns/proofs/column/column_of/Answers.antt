use Rattle.std.proofs.Common.{◌+◌, [], ap, drop, sym, ◌∙◌, arith}
use Rattle.std.proofs.lemmas.List.{drop_all}
use Rattle.field.proofs.DotProduct.{drop_read}
use Rattle.lookup_columns.specs.Slots.{filled_slots}
use Rattle.lookup_columns.specs.internal.Slots.{last_of}
use Rattle.air.specs.Traces.{traces_of, window_of}
use Rattle.lookup_columns.proofs.StepLaws.{worked_out, worked_out_tree}
use Rattle.lookup_columns.proofs.column.column_of.Goals as goal

pub loop-step-preserved : goal.loop-step-preserved
unfolding worked_out
loop-step-preserved g c =
    let go = worked_out g.F.PrimeCharacteristicRing.ring (window_of (traces_of c.args.traces.now)) c.args.rows.now in
    let i = c.loop-step.step-index in
    let steps = c.args.steps.now in
    ap (go (drop (i + 1) steps)) c.in_ok-work_out.ensures
    ∙ sym (ap (λ l. go l (filled_slots c.loop-step.slots)) (drop_read steps i c.step-item.result c.loop-step-test.true c.step-item.is))
    ∙ c.loop-step.invariant

pub returns : goal.returns
unfolding worked_out
returns g c = λ tree are.
    let R = g.F.PrimeCharacteristicRing.ring in
    let ws = window_of (traces_of c.args.traces.now) in
    let go = worked_out R ws c.args.rows.now in
    let steps = c.args.steps.now in
    let none = drop_all c.loop-step.step-index steps (omega (arith, c.loop-step-test.false)) in
    c.pop.ensures.last
    ∙ ap last_of (
    sym (ap (λ l. go l (filled_slots c.loop-step.slots)) none)
    ∙ c.loop-step.invariant ∙ ap (λ l. go l []) are ∙ worked_out_tree R ws c.args.rows.now tree []
    )
