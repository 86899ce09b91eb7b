use Rattle.std.proofs.Common.{◌∙◌, ap, inl, inr, length, sym}
use Rattle.std.specs.List.{flat_map}
use Rattle.batch.specs.Runs.{plan_of}
use Rattle.c_calls.specs.Plan.{id_items}
use Rattle.c_calls.specs.declared.codes.Part.TheVariants.{Ids}
use Rattle.c_calls.specs.declared.fault.Fault.TheVariants.{Length}
use Rattle.c_calls.proofs.AnswerLaws.{refused_is}
use Rattle.c_calls.proofs.WrittenLaws.{all_ids_are}
use Rattle.c_calls.proofs.plan.plan_into_room.Goals as goal

pub returns-in_err-plan : goal.returns-in_err-plan
returns-in_err-plan g c = rw (refused_is c.from_residual.result c.from_residual.ensures.1) (inr (inl c.in_err-plan.ensures))

pub returns-in_err-check_airs_have_rows : goal.returns-in_err-check_airs_have_rows
returns-in_err-check_airs_have_rows g c = rw (refused_is c.from_residual-in_err-check_airs_have_rows.result c.from_residual-in_err-check_airs_have_rows.ensures.1) (inr (inr (inl c.in_err-check_airs_have_rows.ensures)))

pub returns-then-expected-room : goal.returns-then-expected-room
returns-then-expected-room g c =
    let many = c.in-Some.ensures ∙ (ap (λ is. length (flat_map id_items is)) c.ids.ensures ∙ ap length (sym (all_ids_are c.in_ok-plan.plan.ids.items))) in
    inr (inr (inr (plan_of c.in_ok-plan.plan, c.in_ok-plan.ensures, λ same. c.if-expected-room.true (many ∙ same), ap (λ n. Length Ids n c.args.room) many)))
