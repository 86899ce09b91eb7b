use Rattle.std.proofs.Common.{◌≡◌, inl, inr, length, ap, arith}
use Rattle.std.proofs.lemmas.Result.{err_from_is_err_and}
use Rattle.batch.proofs.PlanLaws.{local_passed}
use Rattle.batch.specs.Refusals.{of_lookup}
use Rattle.batch.proofs.widths.check_airs.Goals as goal

pub returns-in_err-check_local_widths : goal.returns-in_err-check_local_widths
returns-in_err-check_local_widths g c =
    let same : length c.args.heights.now ≡ length c.args.airs.now = omega (arith, c.if-heights-airs.false) in
    let error = c.in_err-check_local_widths.field-0.0 in
    let q = err_from_is_err_and c.from_residual-in_err-check_local_widths.result c.from_residual-in_err-check_local_widths.ensures.1 in
    rw (q.1, q.2) (elim c.in_err-check_local_widths.ensures [
      | inl memory ↦ inl (ap of_lookup memory)
      | inr first ↦ inr (inr (same, inr (c.in_ok-check_bus_widths.ensures.0, inl (error, first, local_passed c.args.airs.now error first))))
    ])

pub returns : goal.returns
returns g c = (
  omega (arith, c.if-heights-airs.false),
  record { buses = c.in_ok-check_bus_widths.ensures.0; locals = c.in_ok-check_local_widths.ensures },
)
