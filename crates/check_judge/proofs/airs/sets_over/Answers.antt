use Rattle.std.proofs.Common.{arith, inl, inr, map, subst, sym, take}
use Rattle.std.proofs.lemmas.List.{length-map}
use Rattle.std.proofs.lemmas.Result.{err_from_is_err_and}
use Rattle.std.specs.List.{AllZip, take-map}
use Rattle.field.specs.Ring.{of_nat}
use Rattle.list_laws.proofs.Zips.{AllZip-images, AllZip-more}
use Rattle.lookup.specs.Lookups.{lookups_of}
use Rattle.check_judge.specs.Causes.{IsElementRefusal}
use Rattle.check_judge.specs.Said.{AreLookupsOf}
use Rattle.language_meaning.specs.Lookups.{said_of}
use Rattle.check_judge.proofs.AirLaws.{image_next}
use Rattle.check_judge.proofs.CauseLaws.{first_refused}
use Rattle.check_judge.proofs.airs.sets_over.Goals as goal

pub loop-index-preserved : goal.loop-index-preserved
loop-index-preserved g c =
    AllZip-more (λ air set. AreLookupsOf (of_nat g.F.PrimeCharacteristicRing.ring) c.args.text.now (said_of air) (lookups_of set)) c.args.named.now c.loop-index.sets.items _ c.loop-index.index _ c.index-named-index.result c.in_ok-lookup_set.field-0 c.loop-index-test.true c.index-named-index.is c.in_ok-push.ensures.items c.in_ok-lookup_set.ensures c.loop-index.invariant

pub returns-in_err-lookup_set : goal.returns-in_err-lookup_set
returns-in_err-lookup_set g c =
    let text = c.args.text.now in
    let named = c.args.named.now in
    let i = c.loop-index.index in
    let sets = c.loop-index.sets.items in
    let Are = AreLookupsOf (of_nat g.F.PrimeCharacteristicRing.ring) text in
    let given = subst (λ xs. AllZip Are xs (map lookups_of sets)) (sym (take-map said_of i named)) (AllZip-images Are said_of lookups_of (take i named) sets c.loop-index.invariant) in
    let p = err_from_is_err_and c.from_residual.result c.from_residual.ensures.1 in
    rw (p.1, p.2) (elim c.in_err-lookup_set.ensures [
      | inl memory ↦ inl memory
      | inr refusal ↦ inr (first_refused Are (λ _ s. IsElementRefusal text s c.in_err-lookup_set.field-0.0) (map said_of named) (map lookups_of sets) i (said_of c.index-named-index.result)
          (omega (arith, c.loop-index-test.true, length-map named said_of)) (image_next said_of named i c.index-named-index.result c.loop-index-test.true (sym c.index-named-index.is)) given refusal)
    ])
