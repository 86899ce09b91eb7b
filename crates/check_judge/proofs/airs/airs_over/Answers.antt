use Rattle.std.proofs.Common.{◌≡◌, ◌∙◌, ◌<◌, ap, arith, inl, inr, length, map, sym}
use Rattle.std.proofs.lemmas.List.{length-map, map_push}
use Rattle.std.proofs.lemmas.List.Elements.{All-push, All-same}
use Rattle.std.proofs.lemmas.Result.{err_from_is_err_and}
use Rattle.field.specs.Ring.{of_nat}
use Rattle.language_meaning.specs.Tables.{tables_of}
use Rattle.language.specs.Batches.{air_of, section_of}
use Rattle.check_judge.specs.Constraints.{IsConstrained, over_constrained}
use Rattle.check_judge.specs.Said.{IsSaid, airs_of}
use Rattle.check_judge.specs.Airs.{IsFittingAir, over_traced}
use Rattle.check_judge.proofs.AirLaws.{all_gone, goes_on, image_next, next_air}
use Rattle.check_judge.proofs.CauseLaws.{air_refused, refuses_airs}
use Rattle.check_judge.proofs.airs.airs_over.Goals as goal

pub loop-index-preserved : goal.loop-index-preserved
loop-index-preserved g c =
    let sections = map section_of c.args.batch.now.sections.items in
    let tables = c.args.tables.now in
    let i = c.loop-index.index in
    let said = c.in_ok-said.said.items in
    let table = c.index-tables-index.result in
    let air = c.in_ok-air.air in
    let long : length said ≡ length tables = omega (arith, c.in_ok-check_count.ensures, c.len.ensures, c.in_ok-said.said.ok.0) in
    let within : i < length said = omega (arith, c.loop-index-test.true, long) in
    let first = next_air (λ a. air_of a.now) said (airs_of sections) i c.index.result.now within (sym c.index.ensures) c.in_ok-said.ensures in
    let second = image_next tables_of tables i table c.loop-index-test.true (sym c.index-tables-index.is) in
    record {
      said = goes_on (IsSaid (of_nat g.F.PrimeCharacteristicRing.ring) c.args.text.now sections) 1048576 (airs_of sections) (map tables_of tables) i c.loop-index.room c.in_ok-air.left (air_of c.index.result.now.now) (tables_of table) (map over_traced c.loop-index.airs.items) _ (over_traced air)
          first second (ap (map over_traced) c.in_ok-push.ensures.items ∙ map_push over_traced c.loop-index.airs.items air)
          c.in_ok-air.ensures.said c.loop-index.invariant.said;
      constrained = goes_on (IsConstrained (of_nat g.F.PrimeCharacteristicRing.ring) c.args.text.now sections) 1048576 (airs_of sections) (map tables_of tables) i c.loop-index.room c.in_ok-air.left (air_of c.index.result.now.now) (tables_of table) (map over_constrained c.loop-index.airs.items) _ (over_constrained air)
          first second (ap (map over_constrained) c.in_ok-push.ensures.items ∙ map_push over_constrained c.loop-index.airs.items air)
          c.in_ok-air.ensures.constrained c.loop-index.invariant.constrained;
      fit = All-same IsFittingAir _ _ c.in_ok-push.ensures.items (All-push IsFittingAir c.loop-index.airs.items air c.loop-index.invariant.fit c.in_ok-air.ensures.fit);
      refuses = refuses_airs c.args.text.now sections 1048576 (of_nat g.F.PrimeCharacteristicRing.ring) (airs_of sections) (map tables_of tables) i c.loop-index.room c.in_ok-air.left (air_of c.index.result.now.now) (tables_of table) (over_traced air)
          first second c.in_ok-air.ensures.said c.loop-index.invariant.refuses;
    }

pub returns-clause-said : goal.returns-clause-said
returns-clause-said g c =
    let sections = map section_of c.args.batch.now.sections.items in
    let said = c.in_ok-said.said.items in
    let tables = c.args.tables.now in
    all_gone (IsSaid (of_nat g.F.PrimeCharacteristicRing.ring) c.args.text.now sections) 1048576 (airs_of sections) (map tables_of tables) c.loop-index.index c.loop-index.room (map over_traced c.loop-index.airs.items)
    (omega (arith, c.loop-index-test.false, c.in_ok-check_count.ensures, c.len.ensures, c.in_ok-said.said.ok.0, ap length c.in_ok-said.ensures, length-map said (λ a. air_of a.now)))
    (omega (arith, c.loop-index-test.false, length-map tables tables_of)) c.loop-index.invariant.said

pub returns-clause-constrained : goal.returns-clause-constrained
returns-clause-constrained g c =
    let sections = map section_of c.args.batch.now.sections.items in
    let said = c.in_ok-said.said.items in
    let tables = c.args.tables.now in
    all_gone (IsConstrained (of_nat g.F.PrimeCharacteristicRing.ring) c.args.text.now sections) 1048576 (airs_of sections) (map tables_of tables) c.loop-index.index c.loop-index.room (map over_constrained c.loop-index.airs.items)
    (omega (arith, c.loop-index-test.false, c.in_ok-check_count.ensures, c.len.ensures, c.in_ok-said.said.ok.0, ap length c.in_ok-said.ensures, length-map said (λ a. air_of a.now)))
    (omega (arith, c.loop-index-test.false, length-map tables tables_of)) c.loop-index.invariant.constrained

pub returns-in_err-air-clause-refused : goal.returns-in_err-air-clause-refused
returns-in_err-air-clause-refused g c =
    let sections = map section_of c.args.batch.now.sections.items in
    let tables = c.args.tables.now in
    let i = c.loop-index.index in
    let said = c.in_ok-said.said.items in
    let table = c.index-tables-index.result in
    let long : length said ≡ length tables = omega (arith, c.in_ok-check_count.ensures, c.len.ensures, c.in_ok-said.said.ok.0) in
    let within : i < length said = omega (arith, c.loop-index-test.true, long) in
    let as_many : length (airs_of sections) ≡ length (map tables_of tables) = omega (arith, long, ap length c.in_ok-said.ensures, length-map said (λ a. air_of a.now), length-map tables tables_of) in
    let first = next_air (λ a. air_of a.now) said (airs_of sections) i c.index.result.now within (sym c.index.ensures) c.in_ok-said.ensures in
    let second = image_next tables_of tables i table c.loop-index-test.true (sym c.index-tables-index.is) in
    let p = err_from_is_err_and c.from_residual-in_err-air.result c.from_residual-in_err-air.ensures.1 in
    rw (p.1, p.2) (elim c.in_err-air.ensures.refused [
      | inl memory ↦ inl memory
      | inr refusal ↦ inr (inr (as_many, air_refused c.args.text.now sections 1048576 (of_nat g.F.PrimeCharacteristicRing.ring) (airs_of sections) (map tables_of tables) i c.loop-index.room (air_of c.index.result.now.now) (tables_of table) _ first second refusal c.loop-index.invariant.refuses))
    ])
