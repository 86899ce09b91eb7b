use Rattle.std.proofs.Common.{Ok, Err, List, All, inl, inr, refl, subst, ◌∙◌}
use Rattle.std.proofs.lemmas.Result.{err_from_is_err_and}
use Rattle.lookup_record.specs.Interaction.{Tuple}
use Rattle.lookup.specs.Extraction.{IsFaultless, IsFirstLocalRefusal, extraction}
use Rattle.air_expressions.specs.declared.layout.AirLayout.{AirLayout}
use Rattle.lookup_model.specs.Records.{LookupsFit}
use Rattle.lookup_model.specs.declared.types.Lookup.{Lookup}
use Rattle.lookup_record.specs.RecordedAir.{recorded_air}
use Rattle.lookup_record.proofs.OwnLayout.{evaluated_as}
use Rattle.lookup.proofs.Within.{extracted_fit}
use Rattle.lookup.proofs.lookups.Lookups.from_air.Goals as goal

pub returns-in_err-builder-clause-extracts : goal.returns-in_err-builder-clause-extracts
returns-in_err-builder-clause-extracts g c =
    let refusal = c.in_err-builder.field-0.0 in
    let evaluated = evaluated_as g.A.Air.evaluates c.args.air.now _ _ _ c.from_air-layout.result (Err refusal) c.from_air-layout.ensures c.in_err-builder.ensures.evaluates in
    let p = err_from_is_err_and c.from_residual.result c.from_residual.ensures.1 in
    rw (p.1, p.2) (inr (inl (refusal, evaluated, refl)))

pub returns-in_err-lookups-clause-extracts : goal.returns-in_err-lookups-clause-extracts
returns-in_err-lookups-clause-extracts g c =
    let builder = c.in_ok-builder.builder in
    let evaluated = evaluated_as g.A.Air.evaluates c.args.air.now _ _ _ c.from_air-layout.result (Ok builder) c.from_air-layout.ensures c.in_ok-builder.ensures.evaluates in
    let p = err_from_is_err_and c.from_residual-in_err-lookups.result c.from_residual-in_err-lookups.ensures.1 in
    rw (p.1, p.2) (elim c.in_err-lookups.ensures [
      | inl memory ↦ inl memory
      | inr refusal ↦ inr (inr (builder, evaluated, subst (λ (t : List (List (Tuple _))). IsFirstLocalRefusal t c.in_err-lookups.field-0.0) c.into_interactions-locals.ensures.locals refusal))
    ])

pub returns-clause-extracts : goal.returns-clause-extracts
returns-clause-extracts g c =
    let builder = c.in_ok-builder.builder in
    let evaluated = evaluated_as g.A.Air.evaluates c.args.air.now _ _ _ c.from_air-layout.result (Ok builder) c.from_air-layout.ensures c.in_ok-builder.ensures.evaluates in
    let parts = c.into_interactions-locals.ensures in
    (builder, evaluated, c.in_ok-lookups.ensures.0 ∙ (λ i. extraction (parts.locals i) (parts.globals i) (parts.exclusives i)), subst (λ (t : List (List (Tuple _))). All IsFaultless t) parts.locals c.in_ok-lookups.ensures.1)

pub returns-clause-within : goal.returns-clause-within
returns-clause-within g c given =
    let builder = c.in_ok-builder.builder in
    let pushed = c.in_ok-builder.ensures.within given in
    let parts = c.into_interactions-locals.ensures in
    let same = c.in_ok-lookups.ensures.0 ∙ (λ i. extraction (parts.locals i) (parts.globals i) (parts.exclusives i)) in
    let lookups : List (Lookup g.row.F.Denot) = c.in_ok-lookups.lookups.items in
    let fits : LookupsFit (recorded_air builder).constraints.layout lookups = extracted_fit (recorded_air builder).constraints.layout lookups _ _ _ c.in_ok-lookups.ensures.2 same pushed.locals pushed.globals pushed.exclusives in
    subst (λ (l : AirLayout). LookupsFit l lookups) (c.in_ok-builder.ensures.layout ∙ c.from_air-layout.ensures) fits
