use Rattle.std.proofs.Common.{◌<◌, ◌-◌, length, sym, ◌∙◌, arith}
use Rattle.std.proofs.lemmas.Bool.{eqb-true, eqb-false}
use Rattle.std.proofs.lemmas.List.{nil_from_length}
use Rattle.std.proofs.lemmas.Result.{err_from_is_err_and}
use Rattle.air.specs.Traces.{traces_of}
use Rattle.field.specs.Extension.{extension, IsLawful}
use Rattle.field.specs.laws.Extension.{lawful_extension}
use Rattle.lookup_generation.proofs.MadeRows.{empty_answer, rows_answer}
use Rattle.lookup_generation.proofs.RangeFaults.{refused_between}
use Rattle.lookup_model.proofs.Lookups.PlainResults.{IsShaped-product}
use Rattle.lookup_model.specs.Denominators.{key_denominator}
use Rattle.lookup_generation.proofs.ranges.generate_rows.Goals as goal

pub returns-then-is_empty-clause-answers : goal.returns-then-is_empty-clause-answers
returns-then-is_empty-clause-answers g c = λ inverse is_inverse.
    let E = extension g.F.PrimeCharacteristicRing.ring g.F.PartialEq.eq g.EF.PrimeCharacteristicRing.ring g.EF.PartialEq.eq g.EF.ExtensionDomain.embed inverse in
    let laws : IsLawful E = lawful_extension g.F.PrimeCharacteristicRing.lawful g.met.F.PrimeCharacteristicRing.eq_is g.EF.PrimeCharacteristicRing.lawful g.met.EF.Domain.domain g.met.EF.PrimeCharacteristicRing.eq_is g.met.EF.ExtensionDomain.embeds is_inverse in
    empty_answer laws (traces_of c.args.traces.now) c.args.challenges.now c.args.lookups.now c.args.first c.args.end c.new-then-is_empty.result c.ZERO.result
    (nil_from_length c.args.lookups.now (eqb-true (length c.args.lookups.now) 0 (sym c.is_empty.ensures ∙ c.if-is_empty.true)))
    (c.new-then-is_empty.ensures ∙ (λ i. record { values = c.new.ensures.items i; width = 0 })) (c.ZERO.ensures ∙ g.met.EF.PrimeCharacteristicRing.zero_is)

pub returns-in_err-made-clause-answers : goal.returns-in_err-made-clause-answers
returns-in_err-made-clause-answers g c = λ inverse is_inverse.
    let E = extension g.F.PrimeCharacteristicRing.ring g.F.PartialEq.eq g.EF.PrimeCharacteristicRing.ring g.EF.PartialEq.eq g.EF.ExtensionDomain.embed inverse in
    let p = err_from_is_err_and c.from_residual-in_err-made.result c.from_residual-in_err-made.ensures.1 in
    rw (p.1, p.2) (refused_between E (key_denominator E c.args.challenges.now) (traces_of c.args.traces.now) c.args.lookups.now c.args.first c.args.end c.requires.from c.requires.up_to _ (c.in_err-made.ensures.rows inverse is_inverse))

pub new-requires-2 : goal.new-requires-2
new-requires-2 g c = IsShaped-product c.in_ok-made.made.cells.items (c.args.end - c.args.first) (length c.args.lookups.now) c.in_ok-made.ensures.many

pub returns-clause-answers : goal.returns-clause-answers
returns-clause-answers g c = λ inverse is_inverse.
    let E = extension g.F.PrimeCharacteristicRing.ring g.F.PartialEq.eq g.EF.PrimeCharacteristicRing.ring g.EF.PartialEq.eq g.EF.ExtensionDomain.embed inverse in
    let laws : IsLawful E = lawful_extension g.F.PrimeCharacteristicRing.lawful g.met.F.PrimeCharacteristicRing.eq_is g.EF.PrimeCharacteristicRing.lawful g.met.EF.Domain.domain g.met.EF.PrimeCharacteristicRing.eq_is g.met.EF.ExtensionDomain.embeds is_inverse in
    let some : 0 < length c.args.lookups.now = omega (arith, eqb-false (length c.args.lookups.now) 0 (sym c.is_empty.ensures ∙ c.if-is_empty.false)) in
    let made = c.in_ok-made.ensures.rows inverse is_inverse in
    rows_answer laws (traces_of c.args.traces.now) c.args.challenges.now c.args.lookups.now c.args.first c.args.end c.new-2.result c.in_ok-made.made.cells.items c.in_ok-made.made.accumulator some c.requires.from c.requires.up_to made.0 made.1 c.new-2.ensures
