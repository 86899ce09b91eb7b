use Rattle.std.proofs.Common.{ap, refl, sym, ◌∙◌}
use Rattle.std.specs.List.{flat_map}
use Rattle.batch.specs.Runs.{plan_of}
use Rattle.c_calls.specs.Plan.{id_items}
use Rattle.c_calls.proofs.WrittenLaws.{all_ids_are}
use Rattle.c_calls.proofs.AnswerLaws.{refused_is}
use Rattle.c_calls.proofs.plan.answer_plan.Goals as goal

pub returns-in_err-made-clause-answers : goal.returns-in_err-made-clause-answers
returns-in_err-made-clause-answers g c = rw (refused_is c.from_residual.result c.from_residual.ensures.1) c.in_err-made.ensures

pub returns-in_err-made-clause-kept : goal.returns-in_err-made-clause-kept
returns-in_err-made-clause-kept g c = rw (refused_is c.from_residual.result c.from_residual.ensures.1) (refl, refl)

pub returns-clause-answers : goal.returns-clause-answers
returns-clause-answers g c = record {
  plan = plan_of c.in_ok-made.made;
  plan_is = c.in_ok-made.ensures.0;
  ids_are = c.write_ids.ensures ∙ (ap (flat_map id_items) c.ids.ensures ∙ sym (all_ids_are c.in_ok-made.made.ids.items));
  width = c.max_message_width.ensures;
  count = c.num_ids.ensures;
  have_rows = c.in_ok-made.ensures.2;
}
