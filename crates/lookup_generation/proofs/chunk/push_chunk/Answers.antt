use Rattle.std.proofs.Common.{◌≡◌, ◌<◌, ◌+◌, ◌-◌, ◌*◌, ◌∷◌, suc, inr, length, refl, sym, ap, subst, ◌∙◌, arith}
use Rattle.std.proofs.lemmas.List.{length-append}
use Rattle.std.proofs.lemmas.List.FromFn.{length-map-range_with_len}
use Rattle.std.proofs.lemmas.Result.{err_from_is_err_and}
use Rattle.std.specs.List.{slice_index_or}
use Rattle.air.specs.Traces.{traces_of, window_of}
use Rattle.lookup_generation.proofs.ColumnsOfMatrix.{column_cells-are}
use Rattle.lookup_generation.proofs.ProgressLaws.{product_more}
use Rattle.lookup_generation.proofs.RangeLaws.{cells_more}
use Rattle.lookup_generation.specs.internal.Chunks.{HasCellsFrom}
use Rattle.lookup_generation.specs.internal.Progress.{all_fractions, column_cells}
use Rattle.lookup_model.proofs.Lookups.PlainResults.{IsShaped-product, height_of}
use Rattle.lookup_model.proofs.Lookups.SentRows.{length-sent_rows}
use Rattle.lookup_model.specs.Denominators.{key_denominator}
use Rattle.field.specs.Extension.{extension, IsLawful}
use Rattle.field.specs.laws.Extension.{lawful_extension}
use Rattle.lookup_model.specs.Trace.{sent_rows}
use Rattle.matrix.specs.Matrix.{IsShaped, height, row}
use Rattle.lookup_generation.proofs.chunk.push_chunk.Goals as goal

pub new-by_lookup-requires : goal.new-by_lookup-requires
new-by_lookup-requires g c =
    let n = c.args.end - c.args.first in
    let m = length c.args.inputs.now.lookups.now in
    let one : n ≡ (n - 1) + 1 = omega (arith, c.requires.from) in
    let values = c.in_ok-fractions.fractions.items in
    let long : length values ≡ m * ((n - 1) + 1) = c.in_ok-fractions.ensures.many ∙ c.in_ok-ratios.ensures.defined.many ∙ ap (λ w. m * w) one in
    subst (λ w. IsShaped (record { values = values; width = w })) (sym one) (IsShaped-product values m (n - 1) long)

pub loop-index-init : goal.loop-index-init
loop-index-init g c = (
  λ inverse is_inverse.
      let E = extension g.F.PrimeCharacteristicRing.ring g.F.PartialEq.eq g.EF.PrimeCharacteristicRing.ring g.EF.PartialEq.eq g.EF.ExtensionDomain.embed inverse in
      let here : c.args.first ≡ c.args.first + 0 = omega arith in
      λ origin le so_far. subst (λ r. HasCellsFrom E c.args.inputs.now origin r c.args.made.now) here so_far,
  omega arith,
)

pub loop-index-preserved : goal.loop-index-preserved
loop-index-preserved g c = (
  λ inverse is_inverse.
      let E = extension g.F.PrimeCharacteristicRing.ring g.F.PartialEq.eq g.EF.PrimeCharacteristicRing.ring g.EF.PartialEq.eq g.EF.ExtensionDomain.embed inverse in
      let laws : IsLawful E = lawful_extension g.F.PrimeCharacteristicRing.lawful g.met.F.PrimeCharacteristicRing.eq_is g.EF.PrimeCharacteristicRing.lawful g.met.EF.Domain.domain g.met.EF.PrimeCharacteristicRing.eq_is g.met.EF.ExtensionDomain.embeds is_inverse in
      let denominator = key_denominator E c.args.inputs.now.challenges.now in
      let rows = sent_rows E.base E.base_eq (traces_of c.args.inputs.now.traces.now) c.args.inputs.now.lookups.now in
      let first = c.args.first in
      let n = c.args.end - first in
      let one : n ≡ (n - 1) + 1 = omega (arith, c.requires.from) in
      let high = length-sent_rows E.base E.base_eq (traces_of c.args.inputs.now.traces.now) c.args.inputs.now.lookups.now in
      let fs = all_fractions E denominator (window_of (traces_of c.args.inputs.now.traces.now)) c.args.inputs.now.lookups.now first n in
      let values = c.in_ok-fractions.fractions.items in
      let are : values ≡ fs = c.in_ok-fractions.ensures.values fs (c.in_ok-ratios.ensures.answers inverse is_inverse).ratios_are in
      let long : length values ≡ length c.args.inputs.now.lookups.now * ((n - 1) + 1) = c.in_ok-fractions.ensures.many ∙ c.in_ok-ratios.ensures.defined.many ∙ ap (λ w. length c.args.inputs.now.lookups.now * w) one in
      let matrix = c.new-by_lookup.result in
      let tall : height matrix ≡ length c.args.inputs.now.lookups.now = ap height c.new-by_lookup.ensures ∙ ap (λ w. height (record { values = values; width = w })) one ∙ height_of values (length c.args.inputs.now.lookups.now) (n - 1) long in
      let index = c.loop-index.index in
      let below : first + index < height c.args.inputs.now.traces.now.main.now = omega (arith, c.loop-index-test.true, c.requires.up_to, c.requires.from) in
      let here = column_cells-are E denominator (traces_of c.args.inputs.now.traces.now) c.args.inputs.now.lookups.now matrix first n index (ap (λ t. t.width) c.new-by_lookup.ensures) tall (ap (λ t. t.values) c.new-by_lookup.ensures ∙ are) c.loop-index-test.true below in
      λ origin le before.
      cells_more laws denominator rows origin first index c.loop-index.made.cells.items c.push_row.new.made.cells.items (column_cells E.ring.zero matrix index) c.loop-index.made.accumulator c.push_row.new.made.accumulator le (omega (arith, high, below)) here c.in_ok-push_row.ensures.0 c.in_ok-push_row.ensures.1
      (c.loop-index.invariant.0 inverse is_inverse origin le before),
  let n = c.args.end - c.args.first in
      let m = length c.args.inputs.now.lookups.now in
      let one : n ≡ (n - 1) + 1 = omega (arith, c.requires.from) in
      let values = c.in_ok-fractions.fractions.items in
      let long : length values ≡ m * ((n - 1) + 1) = c.in_ok-fractions.ensures.many ∙ c.in_ok-ratios.ensures.defined.many ∙ ap (λ w. m * w) one in
      let matrix = c.new-by_lookup.result in
      let tall : height matrix ≡ m = ap height c.new-by_lookup.ensures ∙ ap (λ w. height (record { values = values; width = w })) one ∙ height_of values m (n - 1) long in
      let zero = g.EF.PrimeCharacteristicRing.ring.zero in
      let index = c.loop-index.index in
      let wide : length (column_cells zero matrix index) ≡ m = length-map-range_with_len (λ r. slice_index_or (row matrix r) index zero) 0 (height matrix) ∙ tall in
      ap length c.in_ok-push_row.ensures.0 ∙ length-append c.loop-index.made.cells.items (c.loop-index.made.accumulator ∷ column_cells zero matrix index)
      ∙ (λ k. c.loop-index.invariant.1 k + suc (wide k))
      ∙ omega (arith, product_more index (m + 1)),
)

pub returns-clause-rows : goal.returns-clause-rows
returns-clause-rows g c = λ inverse is_inverse.
    let E = extension g.F.PrimeCharacteristicRing.ring g.F.PartialEq.eq g.EF.PrimeCharacteristicRing.ring g.EF.PartialEq.eq g.EF.ExtensionDomain.embed inverse in
    let all : c.args.first + c.loop-index.index ≡ c.args.end = omega (arith, c.loop-index-test.false, c.loop-index.auto.index-end, c.requires.from) in
    λ origin le so_far.
    subst (λ r. HasCellsFrom E c.args.inputs.now origin r c.loop-index.made) all (c.loop-index.invariant.0 inverse is_inverse origin le so_far)

pub returns-clause-faults : goal.returns-clause-faults
returns-clause-faults g c = λ inverse is_inverse. (c.in_ok-ratios.ensures.answers inverse is_inverse).faultless

pub returns-in_err-ratios-clause-faults : goal.returns-in_err-ratios-clause-faults
returns-in_err-ratios-clause-faults g c = λ inverse is_inverse.
    let p = err_from_is_err_and c.from_residual.result c.from_residual.ensures.1 in
    rw (p.1, p.2) (c.in_err-ratios.ensures.answers inverse is_inverse)

pub returns-clause-many : goal.returns-clause-many
returns-clause-many g c =
    let all : c.loop-index.index ≡ c.args.end - c.args.first = omega (arith, c.loop-index-test.false, c.loop-index.auto.index-end) in
    c.loop-index.invariant.1 ∙ ap (λ m. length c.args.made.now.cells.items + m * (length c.args.inputs.now.lookups.now + 1)) all

pub returns-in_err-ratios-clause-one_fewer_if_refused : goal.returns-in_err-ratios-clause-one_fewer_if_refused
returns-in_err-ratios-clause-one_fewer_if_refused g c =
    let p = err_from_is_err_and c.from_residual.result c.from_residual.ensures.1 in
    rw (p.1, p.2) (inr refl)

pub returns-clause-nothing_sent : goal.returns-clause-nothing_sent
returns-clause-nothing_sent g c = λ no_tuples.
    c.in_ok-fractions.ensures.not_counted_for_units (c.in_ok-ratios.ensures.unit_denominators no_tuples)
