use Rattle.std.proofs.Common.{inl, inr, refl}
use Rattle.std.proofs.lemmas.Result.{err_from_is_err_and}
use Rattle.check_judge.specs.Found.{IsAirFound}
use Rattle.check_judge.specs.internal.Sizes.{sized_lookups_of}
use Rattle.check_judge.proofs.SizeLaws.{images_zip}
use Rattle.check_judge.proofs.plan.report_plan.Goals as goal

pub returns : goal.returns
returns g c = record {
  airs = images_zip (IsAirFound g.F.PrimeCharacteristicRing.ring g.F.PartialEq.eq c.args.max_degree) sized_lookups_of c.args.airs.now c.in_ok-reports_of.field-0.items c.in_ok-reports_of.ensures;
  plan_is = c.requires.planned;
  ids = c.num_ids.ensures;
  widest = c.max_message_width.ensures;
  heights = c.in_ok-heights.ensures.answer;
  bound = c.in_ok-heights.ensures.sound;
  height_sum_is = c.height_sum.ensures;
  characteristic = c.CHARACTERISTIC.ensures;
}

pub returns-in_err-reports_of : goal.returns-in_err-reports_of
returns-in_err-reports_of g c =
    let p = err_from_is_err_and c.from_residual-in_err-reports_of.result c.from_residual-in_err-reports_of.ensures.1 in
    rw (p.1, p.2) (elim c.in_err-reports_of.ensures [
      | inl memory ↦ inl memory
      | inr refusal ↦ inr (inr (c.in_ok-heights.heights, c.in_ok-heights.ensures.answer, refusal))
    ])

pub returns-in_err-heights : goal.returns-in_err-heights
returns-in_err-heights g c =
    let p = err_from_is_err_and c.from_residual.result c.from_residual.ensures.1 in
    rw (p.1, p.2) (inr (inl (c.in_err-heights.field-0.0, c.in_err-heights.ensures.answer, refl)))
