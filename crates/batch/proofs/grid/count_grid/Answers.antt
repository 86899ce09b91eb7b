use Rattle.std.proofs.Common.{◌<◌, ◌^◌, ℕ, All, inl, inr, subst}
use Rattle.std.proofs.lemmas.List.Elements.{All-map, recursion_from_All}
use Rattle.std.proofs.lemmas.Result.{err_from_is_err_and}
use Rattle.field.specs.laws.Extension.{of_laws}
use Rattle.lookup_model.specs.Batches.Instances.{IsFitting, instance_of, instances_of}
use Rattle.lookup_model.specs.Batches.Ids.{batch_lookups_with_ids}
use Rattle.batch.proofs.TraceLaws.{have_below}
use Rattle.batch.proofs.CountLaws.{bound_holds, bound_overflows, count_refused, grid_refused, stays_within}
use Rattle.batch.specs.Grids.{HaveNoRepeat}
use Rattle.batch.proofs.grid.count_grid.Goals as goal

pub returns-in_err-check_distinct-clause-answer : goal.returns-in_err-check_distinct-clause-answer
returns-in_err-check_distinct-clause-answer g c =
    let p = err_from_is_err_and c.from_residual.result c.from_residual.ensures.1 in
    rw (p.1, p.2) (elim c.in_err-check_distinct.ensures [
      | inl memory ↦ inl memory
      | inr (repeat, is) ↦ inr (inl ((λ distinct. repeat distinct.0), is))
    ])

pub returns-in_err-check_distinct-2-clause-answer : goal.returns-in_err-check_distinct-2-clause-answer
returns-in_err-check_distinct-2-clause-answer g c =
    let p = err_from_is_err_and c.from_residual-in_err-check_distinct-2.result c.from_residual-in_err-check_distinct-2.ensures.1 in
    rw (p.1, p.2) (elim c.in_err-check_distinct-2.ensures [
      | inl memory ↦ inl memory
      | inr (repeat, is) ↦ inr (inl ((λ distinct. repeat distinct.1), is))
    ])

pub count_accepted_pairs-requires-clause-ids : goal.count_accepted_pairs-requires-clause-ids
count_accepted_pairs-requires-clause-ids g c =
    let bs = c.args.batch.now in
    have_below c.args.num_ids bs c.requires.fit (recursion_from_All (λ a. a.0 < c.args.num_ids) (batch_lookups_with_ids (instances_of bs)) c.requires.lawful.below)

pub returns-in_err-counts-clause-answer : goal.returns-in_err-counts-clause-answer
returns-in_err-counts-clause-answer g c =
    let E = of_laws g.met.EF.ExtensionField.lawful_fields in
    let distinct : HaveNoRepeat c.args.alphas.now c.args.betas.now = (c.in_ok-check_distinct.ensures, c.in_ok-check_distinct-2.ensures) in
    let p = err_from_is_err_and c.from_residual-in_err-counts.result c.from_residual-in_err-counts.ensures.1 in
    let instances = instances_of c.args.batch.now in
    let W = c.args.max_message_width in
    rw (p.1, p.2) (grid_refused E instances W c.args.alphas.now c.args.betas.now _ distinct (count_refused E instances W c.in_err-counts.field-0.0 c.in_err-counts.ensures.answer))

pub returns-in_err-bound-clause-answer : goal.returns-in_err-bound-clause-answer
returns-in_err-bound-clause-answer g c =
    let E = of_laws g.met.EF.ExtensionField.lawful_fields in
    let answer = c.in_ok-counts.ensures.answer in
    let p = err_from_is_err_and c.from_residual-in_err-bound.result c.from_residual-in_err-bound.ensures.1 in
    let overflow = bound_overflows E (instances_of c.args.batch.now) c.args.max_message_width c.args.alphas.now c.args.betas.now c.in_ok-counts.counts answer.1 c.in_err-bound.field-0.0 c.in_err-bound.ensures.answer in
    rw (p.1, p.2) (inr (inr (inr ((c.in_ok-check_distinct.ensures, c.in_ok-check_distinct-2.ensures), answer.0, overflow.0, overflow.1))))

pub returns-clause-answer : goal.returns-clause-answer
returns-clause-answer g c =
    let E = of_laws g.met.EF.ExtensionField.lawful_fields in
    let answer = c.in_ok-counts.ensures.answer in (
      (c.in_ok-check_distinct.ensures, c.in_ok-check_distinct-2.ensures),
      answer.0,
      record {
        accepted = c.in_ok-accepted.ensures;
        bound = bound_holds E (instances_of c.args.batch.now) c.args.max_message_width c.args.alphas.now c.args.betas.now c.in_ok-counts.counts answer.1 c.in_ok-bound.bound c.in_ok-bound.ensures.answer;
        fits = subst (λ (n : ℕ). n < 2 ^ 128) answer.1.bad_betas c.in_ok-bound.ensures.fits;
      },
    )

pub returns-clause-within : goal.returns-clause-within
returns-clause-within g c =
    let E = of_laws g.met.EF.ExtensionField.lawful_fields in
    let instances = instances_of c.args.batch.now in
    let W = c.args.max_message_width in
    let bound = bound_holds E instances W c.args.alphas.now c.args.betas.now c.in_ok-counts.counts c.in_ok-counts.ensures.answer.1 c.in_ok-bound.bound c.in_ok-bound.ensures.answer in
    let few = c.joint_soundness.ensures.counts W c.args.num_ids instances (All-map IsFitting instance_of c.args.batch.now c.requires.fit) c.requires.lawful c.in_ok-counts.ensures.answer.0 in
    stays_within E instances W c.args.alphas.now c.args.betas.now few (c.in_ok-check_distinct.ensures, c.in_ok-check_distinct-2.ensures) c.in_ok-accepted.accepted c.in_ok-accepted.ensures c.in_ok-bound.bound bound

pub returns-clause-linear : goal.returns-clause-linear
returns-clause-linear g c =
    let instances = instances_of c.args.batch.now in
    let fitting : All IsFitting instances = All-map IsFitting instance_of c.args.batch.now c.requires.fit in
    λ some. c.linear_soundness.ensures.counts c.args.max_message_width c.args.num_ids instances fitting c.requires.lawful c.in_ok-counts.ensures.answer.0 some c.args.alphas.now c.args.betas.now c.in_ok-check_distinct.ensures c.in_ok-check_distinct-2.ensures c.in_ok-accepted.accepted c.in_ok-accepted.ensures
