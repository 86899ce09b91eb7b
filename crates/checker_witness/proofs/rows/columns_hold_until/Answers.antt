use Rattle.std.proofs.Common.{Option, IfOk, refl, subst, sym}
use Rattle.field.specs.laws.Extension.{of_laws}
use Rattle.lookup_model.specs.Batches.Instances.{instance_of}
use Rattle.lookup_model.specs.Witness.{HasShape, HoldsOnRow, witness_window}
use Rattle.lookup_model.specs.declared.types.LookupTerminal.{LookupTerminal}
use Rattle.matrix.specs.Matrix.{height}
use Rattle.checker_witness.specs.Columns.{ColumnsHoldUntil}
use Rattle.checker_witness.proofs.CheckLaws.{answer_adds_up, range_adds_up}
use Rattle.checker_witness.proofs.CheckedInputs.{none_hold}
use Rattle.checker_witness.proofs.UntilLaws.{until_end}
use Rattle.checker_witness.proofs.rows.columns_hold_until.Goals as goal

pub returns-in-None-clause-holds : goal.returns-in-None-clause-holds
returns-in-None-clause-holds g c =
    let E = of_laws g.met.EF.ExtensionField.lawful_fields in
    let i = instance_of c.args.instance.now in
    let h = height c.args.instance.now.main.now in
    until_end (HoldsOnRow E i.traces i.lookups c.args.challenges.now c.args.aux.now c.args.terminal.now) c.args.first c.args.end c.args.end c.requires.range.0 refl
    (λ r low high. none_hold E (witness_window i.traces c.args.challenges.now c.args.aux.now c.args.terminal.now r) i.lookups h c.args.aux.now
    (subst (λ (t : Option (LookupTerminal _)). HasShape i.lookups h c.args.aux.now t) c.in-None.is c.requires.shape))

pub returns-then-end-first-lt-MANY_ROWS-clause-adds : goal.returns-then-end-first-lt-MANY_ROWS-clause-adds
returns-then-end-first-lt-MANY_ROWS-clause-adds g c =
    let laws = g.met.EF.ExtensionField.lawful_fields in
    let E = of_laws laws in
    let i = instance_of c.args.instance.now in
    range_adds_up E i.traces i.lookups c.args.challenges.now laws i.ids (c.args.aux.now, c.args.terminal.now) c.requires.shape.presence c.args.first c.args.end c.few_hold_until.result c.requires.range.1
    (subst (λ (t : Option (LookupTerminal _)). ColumnsHoldUntil E i.traces i.lookups c.args.challenges.now (c.args.aux.now, t) c.args.first c.args.end c.few_hold_until.result) (sym c.in-Some.is) c.few_hold_until.ensures)

pub returns-else-end-first-lt-MANY_ROWS-clause-adds : goal.returns-else-end-first-lt-MANY_ROWS-clause-adds
returns-else-end-first-lt-MANY_ROWS-clause-adds g c =
    let laws = g.met.EF.ExtensionField.lawful_fields in
    let E = of_laws laws in
    let i = instance_of c.args.instance.now in
    answer_adds_up E i.traces i.lookups c.args.challenges.now laws i.ids (c.args.aux.now, c.args.terminal.now) c.requires.shape.presence c.args.first c.args.end c.requires.range.1 c.many_hold_until.result
    (subst (λ (t : Option (LookupTerminal _)). IfOk c.many_hold_until.result (ColumnsHoldUntil E i.traces i.lookups c.args.challenges.now (c.args.aux.now, t) c.args.first c.args.end)) (sym c.in-Some.is) c.many_hold_until.ensures)
