use Rattle.std.proofs.Common.{◌++◌, [], ap, arith, map, sym, take_all, ◌∙◌}
use Rattle.std.proofs.lemmas.List.Folds.{flat_map-map}
use Rattle.std.specs.List.{flat_map}
use Rattle.lookup_model.specs.Outline.{fields_of}
use Rattle.lookup.specs.Lookups.{lookups_of}
use Rattle.lookup.specs.NamedWidths.{named_widths, seen_widths}
use Rattle.lookup.proofs.NamedWidthLaws.{parts_more}
use Rattle.lookup.proofs.bus_widths.widths_on_buses.Goals as goal

pub loop-air-preserved : goal.loop-air-preserved
loop-air-preserved g c =
    parts_more (λ air. named_widths (map fields_of (lookups_of air))) c.args.airs.now c.loop-air.air-index c.air-item.result [] _ _ c.loop-air-test.true c.air-item.is c.loop-air.invariant
    (c.in_ok-push_air.ensures ∙ ap (λ l. seen_widths c.loop-air.widths.items ++ named_widths (map fields_of l)) c.as_slice.ensures.lookups)

pub returns : goal.returns
returns g c =
    c.loop-air.invariant
    ∙ ap (flat_map (λ air. named_widths (map fields_of (lookups_of air)))) (take_all c.loop-air.air-index c.args.airs.now (omega arith))
    ∙ sym (flat_map-map named_widths (λ air. map fields_of (lookups_of air)) c.args.airs.now)
