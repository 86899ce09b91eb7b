use Rattle.std.proofs.Common.{Ok, Err, inl, inr, refl}
use Rattle.std.proofs.lemmas.Result.{err_from_is_err_and}
use Rattle.lookup_record.proofs.OwnLayout.{evaluated_as}
use Rattle.lookup_enforced.proofs.constrained.ConstrainedLookups.from_air.Goals as goal

pub returns-in_err-builder : goal.returns-in_err-builder
returns-in_err-builder g c =
    let refusal = c.in_err-builder.field-0.0 in
    let evaluated = evaluated_as g.A.Air.evaluates c.args.air.now _ _ _ c.from_air-layout.result (Err refusal) c.from_air-layout.ensures c.in_err-builder.ensures.evaluates in
    let p = err_from_is_err_and c.from_residual.result c.from_residual.ensures.1 in
    rw (p.1, p.2) (inr (inl (refusal, evaluated, refl)))

pub returns-in_err-lookups : goal.returns-in_err-lookups
returns-in_err-lookups g c =
    let builder = c.in_ok-builder.builder in
    let evaluated = evaluated_as g.A.Air.evaluates c.args.air.now _ _ _ c.from_air-layout.result (Ok builder) c.from_air-layout.ensures c.in_ok-builder.ensures.evaluates in
    let p = err_from_is_err_and c.from_residual-in_err-lookups.result c.from_residual-in_err-lookups.ensures.1 in
    rw (p.1, p.2) (elim c.in_err-lookups.ensures [
      | inl memory ↦ inl memory
      | inr refusal ↦ inr (inr (builder, evaluated, refusal))
    ])

pub returns : goal.returns
returns g c =
    let builder = c.in_ok-builder.builder in
    let evaluated = evaluated_as g.A.Air.evaluates c.args.air.now _ _ _ c.from_air-layout.result (Ok builder) c.from_air-layout.ensures c.in_ok-builder.ensures.evaluates in
    (builder, evaluated, c.in_ok-lookups.ensures.0, c.in_ok-lookups.ensures.1, c.in_ok-constraints.ensures)
