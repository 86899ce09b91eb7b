use Rattle.std.proofs.Common.{◌∙◌, IfSome, Option, Some, ap, arith, subst, sym}
use Rattle.lookup_messages.specs.TraceBuilder.{builder_layout, builder_window}
use Rattle.lookup_model.proofs.RecordLaws.{Fits-at, multiplicity_fits}
use Rattle.lookup_model.specs.Records.{AllFit, IsWithin}
use Rattle.lookup_debug.proofs.AmountLaws.{size_counted, size_flagged}
use Rattle.lookup_debug.proofs.contributions.amount_of.Goals as goal

pub value_of-requires : goal.value_of-requires
value_of-requires g c =
    multiplicity_fits (builder_layout c.args.builder.now) c.args.lookup.now c.requires.fits c.requires.lengths c.args.branch _ (omega (arith, c.requires.branch)) c.index-multiplicity.ensures

pub flagged_amount-requires-clause-count_fits : goal.flagged_amount-requires-clause-count_fits
flagged_amount-requires-clause-count_fits g c =
    multiplicity_fits (builder_layout c.args.builder.now) c.args.lookup.now c.requires.fits c.requires.lengths c.args.branch _ (omega (arith, c.requires.branch)) c.index-multiplicity.ensures

pub flagged_amount-requires-clause-flag_fits : goal.flagged_amount-requires-clause-flag_fits
unfolding IsWithin
flagged_amount-requires-clause-flag_fits g c =
    let layout = builder_layout c.args.builder.now in
    let flags = c.in-Some.flags in
    let fit : AllFit layout flags.items = subst (λ (o : Option _). IfSome o (λ fs. AllFit layout fs.items)) c.in-Some.is c.requires.fits.2 in
    Fits-at layout flags.items c.args.branch _ fit (omega (arith, c.requires.branch, c.requires.lengths.flags flags c.in-Some.is)) c.index-flag.ensures

pub returns-in-None : goal.returns-in-None
returns-in-None g c =
    size_counted g.F.PrimeCharacteristicRing.ring g.F.PartialEq.eq (record { instance = 0; lookup = 0; row = 0 }) (builder_window c.args.builder.now) c.args.lookup.now c.requires.lengths c.args.branch c.index-multiplicity.result.now c.requires.branch c.index-multiplicity.ensures c.in-None.is
    ∙ ap Some (sym c.value_of.ensures)

pub returns-in-Some : goal.returns-in-Some
returns-in-Some g c =
    size_flagged g.F.PrimeCharacteristicRing.ring g.F.PartialEq.eq (record { instance = 0; lookup = 0; row = 0 }) (builder_window c.args.builder.now) c.args.lookup.now c.requires.lengths c.args.branch c.index-multiplicity.result.now c.requires.branch c.index-multiplicity.ensures c.in-Some.flags c.in-Some.is c.index-flag.result.now c.index-flag.ensures
    ∙ ap Some (sym c.flagged_amount.ensures)
