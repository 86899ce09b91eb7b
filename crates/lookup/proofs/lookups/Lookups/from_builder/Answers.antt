use Rattle.std.proofs.Common.{List, All, inl, inr, subst, ◌∙◌}
use Rattle.std.proofs.lemmas.Result.{err_from_is_err_and}
use Rattle.lookup_record.specs.Interaction.{Tuple}
use Rattle.lookup.specs.Extraction.{IsFaultless, IsFirstLocalRefusal, extraction}
use Rattle.lookup.proofs.lookups.Lookups.from_builder.Goals as goal

pub returns-in_err-lookups : goal.returns-in_err-lookups
returns-in_err-lookups g c =
    let p = err_from_is_err_and c.from_residual.result c.from_residual.ensures.1 in
    rw (p.1, p.2) (elim c.in_err-lookups.ensures [
      | inl memory ↦ inl memory
      | inr refusal ↦ inr (subst (λ (t : List (List (Tuple _))). IsFirstLocalRefusal t c.in_err-lookups.field-0.0) c.into_interactions-locals.ensures.locals refusal)
    ])

pub returns : goal.returns
returns g c =
    let parts = c.into_interactions-locals.ensures in
    (c.in_ok-lookups.ensures.0 ∙ (λ i. extraction (parts.locals i) (parts.globals i) (parts.exclusives i)), subst (λ (t : List (List (Tuple _))). All IsFaultless t) parts.locals c.in_ok-lookups.ensures.1)
