use Rattle.std.proofs.Common.{◌≡◌, ◌+◌, ◌<◌, length, map, refl, slice_index_or, take, ap, ◌∙◌}
use Rattle.std.proofs.lemmas.List.{get_or_read}
use Rattle.list_laws.proofs.Each.{All-at}
use Rattle.field.specs.Sums.{sum_in}
use Rattle.lookup_model.proofs.SumLaws.{sum_mapped_next}
use Rattle.lookup_model.specs.declared.types.Lookup.{Lookup}
use Rattle.checker_witness.proofs.accumulator.accumulate.Goals as goal

pub loop-lookup-preserved : goal.loop-lookup-preserved
loop-lookup-preserved g c =
    let S = g.EF.PrimeCharacteristicRing.ring in
    let laws = g.EF.PrimeCharacteristicRing.lawful in
    let cells = c.args.cells.now in
    let lookups = c.args.lookups.now in
    let i = c.loop-lookup.lookup-index in
    let lookup = c.lookup-item.result in
    let start = slice_index_or cells 0 S.zero in
    let f = λ (l : Lookup _). slice_index_or cells (l.column + 1) S.zero in
    let so_far = sum_in S (map f (take i lookups)) in
    let within = All-at (λ (l : Lookup _). l.column + 1 < length cells) lookups i lookup c.requires.fractions c.loop-lookup-test.true c.lookup-item.is in
    let there : c.index-cells-lookup.result ≡ f lookup = get_or_read cells (lookup.column + 1) c.index-cells-lookup.result within c.index-cells-lookup.is S.zero in
    g.met.EF.PrimeCharacteristicRing.add_is _ _ _ c.add-sum.ensures
    ∙ (λ k. S.add (c.loop-lookup.invariant k) (there k))
    ∙ laws.add_assoc start so_far (f lookup)
    ∙ ap (S.add start) (sum_mapped_next laws f lookups i lookup so_far (S.add so_far (f lookup)) c.loop-lookup-test.true c.lookup-item.is refl refl)
