use Rattle.std.proofs.Common.{◌+◌, ◌-◌, sym, subst, subst₂, arith}
use Rattle.checker_witness.proofs.CheckLaws.{range_adds_up}
use Rattle.checker_witness.specs.Ranges.{HoldsUntil}
use Rattle.field.specs.laws.Extension.{of_laws}
use Rattle.lookup_model.specs.Batches.Instances.{instance_of}
use Rattle.lookup_model.specs.Witness.{HoldsOnRow}
use Rattle.checker_witness.proofs.WholeChecks.{check_there}
use Rattle.checker_witness.proofs.range_check.rows_hold_around.Goals as goal

pub columns_hold_until-requires-clause-nonempty : goal.columns_hold_until-requires-clause-nonempty
columns_hold_until-requires-clause-nonempty g c = λ _. omega (arith, c.requires.rows, c.requires.range.some)

pub returns-clause-holds : goal.returns-clause-holds
returns-clause-holds g c = λ whole auxiliary are is.
    let E = of_laws g.met.EF.ExtensionField.lawful_fields in
    let part = instance_of c.args.around.now in
    let challenges = c.args.challenges.now in
    let range = c.args.range in
    let terminal = c.args.terminal.now in
    subst (λ p. HoldsUntil (HoldsOnRow E whole part.lookups challenges auxiliary terminal) range.first range.end (range.first + (c.in_ok-row.row - p))) (sym c.place-first.ensures)
    (check_there E whole part.traces part.lookups challenges auxiliary c.args.aux.now terminal range are is c.requires.range c.in_ok-row.row
    (subst₂ (λ p n. HoldsUntil (HoldsOnRow E part.traces part.lookups challenges c.args.aux.now terminal) p (p + n) c.in_ok-row.row) c.place-first.ensures c.rows.ensures.many c.in_ok-row.ensures.holds))

pub returns-clause-adds : goal.returns-clause-adds
returns-clause-adds g c = λ whole auxiliary are is.
    let laws = g.met.EF.ExtensionField.lawful_fields in
    let part = instance_of c.args.around.now in
    range_adds_up (of_laws laws) whole part.lookups c.args.challenges.now laws part.ids (auxiliary, c.args.terminal.now) c.requires.shape.presence c.args.range.first c.args.range.end _
    (omega (arith, c.requires.range.within, are.high)) (returns-clause-holds g c whole auxiliary are is)
