use Rattle.std.proofs.Common.{◌≡◌, ◌∙◌, ap, arith, inl, inr, map, subst, sym, take}
use Rattle.std.proofs.lemmas.List.{length-map}
use Rattle.std.specs.List.{AllZip, take-map}
use Rattle.list_laws.proofs.Each.{all_here, all_of_map}
use Rattle.list_laws.proofs.Zips.{AllZip-more}
use Rattle.lookup_model.specs.Outline.{outline_of}
use Rattle.lookup_model.specs.declared.error.LookupError.{LookupError}
use Rattle.check_judge.specs.Causes.{IsPackingRefusal}
use Rattle.check_judge.specs.Found.{IsAirFound, Sized}
use Rattle.check_judge.specs.Refusals.{of_lookups}
use Rattle.check_judge.specs.internal.Sizes.{sized_lookups_of}
use Rattle.check_judge.specs.internal.Sharing.{HaveTuples}
use Rattle.check_judge.proofs.AirLaws.{image_next}
use Rattle.check_judge.proofs.CauseLaws.{first_refused}
use Rattle.check_judge.proofs.SizeLaws.{images_zip}
use Rattle.check_judge.proofs.sizes.reports_of.Goals as goal

pub report_of-requires : goal.report_of-requires
report_of-requires g c =
    let airs = c.args.airs.now in
    let Taken = λ (a : Sized g.row.F.Denot). HaveTuples (map outline_of a.lookups) in
    subst (λ a. Taken (sized_lookups_of a)) (sym c.index-airs-index.is) (all_here (λ a. Taken (sized_lookups_of a)) airs c.loop-index.index c.index-airs-index.result c.loop-index-test.true (all_of_map Taken sized_lookups_of airs c.requires))

pub loop-index-preserved : goal.loop-index-preserved
loop-index-preserved g c =
    AllZip-more (λ air found. IsAirFound g.F.PrimeCharacteristicRing.ring g.F.PartialEq.eq c.args.max_degree (sized_lookups_of air) found) c.args.airs.now c.loop-index.reports.items _ c.loop-index.index _ c.index-airs-index.result c.in-Ok.report c.loop-index-test.true c.index-airs-index.is c.in_ok-push-in-Ok.ensures.items c.in-Ok.ensures c.loop-index.invariant

pub returns-in-Err : goal.returns-in-Err
returns-in-Err g c =
    let airs = c.args.airs.now in
    let i = c.loop-index.index in
    let air = c.index-airs-index.result in
    let Finds = IsAirFound g.F.PrimeCharacteristicRing.ring g.F.PartialEq.eq c.args.max_degree in
    let reports = c.loop-index.reports.items in
    let given = subst (λ xs. AllZip Finds xs reports) (sym (take-map sized_lookups_of i airs)) (images_zip Finds sized_lookups_of (take i airs) reports c.loop-index.invariant) in
    elim c.in-Err.ensures [
      | inl memory ↦ inl (c.refusal_of.ensures ∙ ap (of_lookups i) memory)
      | inr refusal ↦ inr (first_refused Finds (λ index a. (e : LookupError) × IsPackingRefusal c.args.max_degree a e × (c.refusal_of.result ≡ of_lookups index e)) (map sized_lookups_of airs) reports i (sized_lookups_of air)
          (omega (arith, c.loop-index-test.true, length-map airs sized_lookups_of)) (image_next sized_lookups_of airs i air c.loop-index-test.true (sym c.index-airs-index.is)) given (c.in-Err.error, refusal, c.refusal_of.ensures))
    ]
