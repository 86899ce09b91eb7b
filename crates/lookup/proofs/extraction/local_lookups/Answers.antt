use Rattle.std.proofs.Common.{◌≡◌, length, map, All, ap, inl, inr, subst, sym, ◌∙◌, List, arith}
use Rattle.std.proofs.lemmas.List.{nil_from_length}
use Rattle.std.specs.Vec.Iter.{into_iter_items}
use Rattle.std.proofs.lemmas.List.Elements.{All-cons}
use Rattle.std.proofs.lemmas.Result.{err_from_is_err_and}
use Rattle.lookup_record.specs.Interaction.{Tuple}
use Rattle.lookup_record.specs.Records.{local_of}
use Rattle.lookup_model.specs.Outline.{fields_of}
use Rattle.lookup.specs.Extraction.{IsFaultless, IsFirstLocalRefusal, local_at}
use Rattle.lookup.proofs.ExtractionLaws.{all_seen, next_seen, refused_first, refused_later}
use Rattle.lookup.proofs.RecordLaws.{next_records}
use Rattle.lookup.proofs.extraction.local_lookups.Goals as goal

pub returns-in_err-local_lookup : goal.returns-in_err-local_lookup
returns-in_err-local_lookup g c =
    let next = ap (map local_of) c.in-Some.ensures.steps.0 in
    let p = err_from_is_err_and c.from_residual.result c.from_residual.ensures.1 in
    rw (p.1, p.2) (elim c.in_err-local_lookup.ensures [
      | inl memory ↦ inl memory
      | inr refusal ↦ inr (c.loop-interaction.invariant.3 c.in_err-local_lookup.field-0.0 (subst (λ (t : List (List (Tuple _))). IsFirstLocalRefusal t c.in_err-local_lookup.field-0.0) (sym next) (refused_first _ _ c.in_err-local_lookup.field-0.0 refusal)))
    ])

pub loop-interaction-preserved : goal.loop-interaction-preserved
loop-interaction-preserved g c =
    let made = c.in_ok-local_lookup.ensures in
    let pushed = c.in_ok-push.ensures.items in
    let next = ap (map local_of) c.in-Some.ensures.steps.0 in
    let column : c.len-column.result ≡ length c.loop-interaction.lookups.items = omega (arith, c.len-column.ensures, c.loop-interaction.lookups.ok.0) in
    let invariant = c.loop-interaction.invariant in
    (next_seen fields_of local_at local_of _ _ _ _ _ _ _ pushed c.in-Some.ensures.steps.0 column made.0 ∙ invariant.0, next_records _ _ _ _ pushed column invariant.1 made.2, λ h. invariant.2 (subst (λ (t : List (List (Tuple _))). All IsFaultless t) (sym next) (All-cons IsFaultless _ _ made.1 h)), λ e h. invariant.3 e (subst (λ (t : List (List (Tuple _))). IsFirstLocalRefusal t e) (sym next) (refused_later _ _ e made.1 h)))

pub returns : goal.returns
returns g c =
    let none = ap (map local_of) (nil_from_length (into_iter_items c.loop-interaction.interaction-iterator) (omega (arith, c.in-None.ensures.steps.0, c.loop-interaction.interaction-iterator.rest.ok.0))) in
    let invariant = c.loop-interaction.invariant in
    (all_seen fields_of local_at _ _ _ none invariant.0, invariant.2 (subst (λ (t : List (List (Tuple _))). All IsFaultless t) (sym none) (λ k d lt. absurd (omega (arith, lt)))), invariant.1)
