use Rattle.std.specs.List.{flat_map, range_with_len}
use Rattle.matrix.specs.Matrix.{height}
use Rattle.std.proofs.Common.{◌≡◌, length, subst, sym, arith}
use Rattle.std.proofs.lemmas.Option.{get_or_from_slice_get, slice_get_within}
use Rattle.air.specs.Traces.{layout_of}
use Rattle.air_expressions.specs.declared.layout.AirLayout.{AirLayout}
use Rattle.lookup_messages.proofs.Layouts.{LookupsFit-with_challenges, with_challenges}
use Rattle.lookup_messages.specs.TraceBuilder.{builder_window}
use Rattle.lookup_model.specs.Records.{IsWithin}
use Rattle.lookup_model.specs.declared.types.Lookup.{Lookup}
use Rattle.lookup_debug.specs.Contributions.{contributions_on, traced_of}
use Rattle.lookup_debug.proofs.AmountLaws.{row_step}
use Rattle.lookup_debug.proofs.walk.walk_lookup.Goals as goal

pub visit-requires-clause-ready : goal.visit-requires-clause-ready
visit-requires-clause-ready g c = g.met.V.RowVisitor.composes.leaves _ _ _ c.loop-row.invariant

pub visit-requires-clause-fits : goal.visit-requires-clause-fits
visit-requires-clause-fits g c =
    let i = c.args.traced.now in
    let lookups = i.lookups.now in
    let lookup = c.args.lookup.now in
    let n = length i.permutation_challenges.now in
    let layout = layout_of (traced_of i).traces in
    let fit = LookupsFit-with_challenges layout n lookups c.requires.fit.fit in
    subst (λ (a : AirLayout). IsWithin a lookup) (sym c.row_builder-builder.ensures.layout)
    (subst (λ (l : Lookup _). IsWithin (with_challenges layout n) l) (get_or_from_slice_get lookups c.args.index lookup lookup c.requires.at_index)
    (fit.within c.args.index lookup (slice_get_within lookups c.args.index lookup c.requires.at_index)))

pub loop-row-init : goal.loop-row-init
loop-row-init g c = g.met.V.RowVisitor.composes.rests c.args.visitor.now c.requires.ready

pub loop-row-preserved : goal.loop-row-preserved
loop-row-preserved g c =
    row_step g.met.V.RowVisitor.composes g.F.PrimeCharacteristicRing.ring g.F.PartialEq.eq c.args.instance c.args.index (traced_of c.args.traced.now) c.args.lookup.now c.loop-row.row c.args.visitor.now c.loop-row.visitor c.visit.new.self
    (builder_window c.row_builder-builder.result) c.row_builder-builder.ensures.window c.loop-row.invariant c.in_ok-visit.ensures

pub row_builder-builder-requires : goal.row_builder-builder-requires
row_builder-builder-requires g c = record {
  rows = c.height-rows.ensures.height;
  row_exists = c.loop-row-test.true;
}

pub invariant_of-traces : goal.invariant_of-traces
invariant_of-traces g c = record { heights = c.requires.fit.heights }

pub visit-requires-clause-lengths : goal.visit-requires-clause-lengths
visit-requires-clause-lengths g c = (c.requires.fit.fit.records c.args.index c.args.lookup.now (slice_get_within c.args.traced.now.lookups.now c.args.index c.args.lookup.now c.requires.at_index) c.requires.at_index).1

pub returns : goal.returns
returns g c =
    let all : c.loop-row.row ≡ height c.args.traced.now.main_trace.now = omega (arith, c.loop-row-test.false, c.loop-row.auto.row-end, c.height-rows.ensures.height) in
    subst (λ n. g.V.RowVisitor.changes c.args.visitor.now c.loop-row.visitor (flat_map (contributions_on g.F.PrimeCharacteristicRing.ring g.F.PartialEq.eq c.args.instance c.args.index (traced_of c.args.traced.now) c.args.lookup.now) (range_with_len 0 n))) all c.loop-row.invariant
