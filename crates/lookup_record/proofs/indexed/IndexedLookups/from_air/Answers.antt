use Rattle.std.proofs.Common.{Err, inl, inr, refl, subst}
use Rattle.std.proofs.lemmas.Result.{err_from_is_err_and}
use Rattle.air_expressions.specs.declared.layout.AirLayout.{AirLayout}
use Rattle.lookup_record.specs.IndexedLookups.{Declares}
use Rattle.lookup_record.proofs.Declared.{declared_from}
use Rattle.lookup_record.proofs.OwnLayout.{evaluated_as, own_mismatch}
use Rattle.lookup_record.proofs.indexed.IndexedLookups.from_air.Goals as goal

pub returns-in_err-builder : goal.returns-in_err-builder
returns-in_err-builder g c =
    let refusal = c.in_err-builder.field-0.0 in
    let evaluated = evaluated_as g.A.Air.evaluates c.args.air.now _ _ _ c.from_air-layout.result (Err refusal) c.from_air-layout.ensures c.in_err-builder.ensures.evaluates in
    let p = err_from_is_err_and c.from_residual.result c.from_residual.ensures.1 in
    rw (p.1, p.2) (inr (inl (refusal, evaluated, refl)))

pub returns : goal.returns
returns g c =
    let layout = c.from_air-layout.result in
    let evaluated = c.in_ok-builder.ensures.evaluates (own_mismatch _ _ _ layout c.from_air-layout.ensures) in
    let parts = c.into_declarations-reads.ensures in
    subst (λ (l : AirLayout). Declares g.A.Air.evaluates c.args.air.now l c.new.result) c.from_air-layout.ensures
    (declared_from g.A.Air.evaluates c.args.air.now layout c.in_ok-builder.builder _ _ evaluated parts.reads parts.tables c.new.result c.new.ensures)
