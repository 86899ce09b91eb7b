use Rattle.std.proofs.Common.{ap, arith, inl, inr, length}
use Rattle.std.proofs.lemmas.List.{length_push}
use Rattle.field.specs.Ring.{of_nat}
use Rattle.language_meaning.proofs.ColumnLaws.{first_refused, made_next, outlines_next, records_next, refused_is}
use Rattle.language_meaning.proofs.lookups.lookups_over.Goals as goal

pub returns-in_err-lookup_over-clause-lookups : goal.returns-in_err-lookup_over-clause-lookups
returns-in_err-lookup_over-clause-lookups g c = rw (refused_is c.from_residual.result c.from_residual.ensures.1) (elim c.in_err-lookup_over.ensures.lookup [
  | inl memory ↦ inl memory
  | inr r ↦ inr (r.0, r.1, first_refused c.args.text.now c.args.named.now c.loop-index.index c.index-named-index.result r.0 c.loop-index-test.true c.index-named-index.is c.loop-index.invariant.made r.2)
])

pub loop-index-preserved : goal.loop-index-preserved
loop-index-preserved g c =
    let named = c.args.named.now in
    let i = c.loop-index.index in
    let x = c.index-named-index.result in
    let l = c.in_ok-lookup_over.field-0 in
    record {
      outlines = outlines_next (of_nat g.F.PrimeCharacteristicRing.ring) c.args.text.now named i x c.loop-index.lookups.items _ l c.loop-index-test.true c.index-named-index.is c.in_ok-push.ensures.items c.in_ok-lookup_over.ensures.lookup.0 c.loop-index.invariant.outlines;
      made = made_next c.args.text.now named i x c.loop-index-test.true c.index-named-index.is c.in_ok-lookup_over.ensures.lookup.1 c.loop-index.invariant.made;
      records = records_next c.loop-index.lookups.items _ l i c.in_ok-push.ensures.items c.loop-index.invariant.as_many c.in_ok-lookup_over.ensures.record c.loop-index.invariant.records;
      as_many = omega (arith, ap length c.in_ok-push.ensures.items, length_push c.loop-index.lookups.items l, c.loop-index.invariant.as_many);
    }
