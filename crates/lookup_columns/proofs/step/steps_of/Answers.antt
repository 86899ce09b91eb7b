use Rattle.std.proofs.Common.{◌++◌, ap, ◌∙◌}
use Rattle.air_expressions.specs.Tree.{tree_of}
use Rattle.lookup_columns.specs.Steps.{steps_in_order}
use Rattle.lookup_columns.proofs.StepLaws.{expression_steps_fit}
use Rattle.lookup_columns.proofs.step.steps_of.Goals as goal

pub returns-clause-fit : goal.returns-clause-fit
returns-clause-fit g c = λ layout.
    expression_steps_fit layout c.push_steps.new.to c.args.expression.now (c.in_ok-push_steps.ensures ∙ ap (λ v. v ++ steps_in_order (tree_of c.args.expression.now)) c.new-steps.ensures.items)
