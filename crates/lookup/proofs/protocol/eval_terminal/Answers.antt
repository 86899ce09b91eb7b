use Rattle.air_expressions.specs.Window.{ExtWindow}
use Rattle.lookup_model.specs.Constraints.{accumulator_constraints, terminal_at}
use Rattle.field.specs.laws.Extension.{of_laws}
use Rattle.lookup_constraints.proofs.AssertedLaws.{evaluates_read}
use Rattle.lookup.proofs.Evaluations.{terminal_reads}
use Rattle.lookup.proofs.protocol.eval_terminal.Goals as goal

pub returns : goal.returns
returns g c =
    let E = of_laws g.met.AB.EF.ExtensionField.lawful_fields in
    let value : g.row.AB-ExprEF.Denot → ExtWindow g.row.AB-F.Denot g.row.AB-EF.Denot → g.row.AB-EF.Denot = λ x w. g.AB.ExprEF.Expression.value x (g.AB.ExtensionBuilder.seen_ext w) in
    let degree = g.AB.ExprEF.Expression.degree in
    let lookups = c.args.lookups.now in
    let terminal = c.terminal-terminal in
    evaluates_read _ _ _ _ _ (accumulator_constraints E lookups (value terminal.result) (degree terminal.result)) (accumulator_constraints E lookups (terminal_at E) (λ t. 0))
    (terminal_reads E value degree (g.AB.ExtensionBuilder.stands_for_ext c.args.builder.now) lookups (value terminal.result) (terminal_at E) (degree terminal.result) terminal.ensures.means terminal.ensures.degree)
    c.args.builder.now c.eval_accumulator.result c.eval_accumulator.new.builder c.eval_accumulator.ensures
