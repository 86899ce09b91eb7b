use Rattle.std.proofs.Common.{◌≡◌, ◌+◌, ◌-◌, [], List, ℕ}
use Rattle.air_expressions.specs.Window.{Window}
use Rattle.lookup_model.specs.Denominators.{key_denominator}
use Rattle.field.specs.Extension.{extension}
use Rattle.lookup_generation.specs.internal.Fraction.{AreAlike, AreDefined, HaveUnitDenominators, ratios_in}
use Rattle.lookup_columns.specs.internal.StoredRows.{StoreOnRows}
use Rattle.lookup_generation.specs.Inverses.{ForInverses}
use Rattle.lookup_generation.specs.internal.Progress.{HasColumn, sent_on}
use Rattle.lookup_generation.proofs.chunk.push_column.Given as goal

abbrev pub invariant-loop-row : goal.invariant-loop-row
invariant-loop-row g l =
    ForInverses g.EF.PrimeCharacteristicRing.ring (λ inverse.
    let E = extension g.F.PrimeCharacteristicRing.ring g.F.PartialEq.eq g.EF.PrimeCharacteristicRing.ring g.EF.PartialEq.eq g.EF.ExtensionDomain.embed inverse in
    (challenges : List _) (window : ℕ → Window _) → StoreOnRows E.base E.ring E.embed challenges window l.first l.end l.lookup l.columns
    → HasColumn E (key_denominator E challenges) (sent_on E.base E.base_eq window l.lookup) l.lookup.column l.first l.row (ratios_in l.fn.ratios) (ratios_in l.ratios))
    × ((n : ℕ) → AreDefined g.EF.PrimeCharacteristicRing.ring n (ratios_in l.fn.ratios) → AreDefined g.EF.PrimeCharacteristicRing.ring (n + (l.row - l.first)) (ratios_in l.ratios))
    × (l.lookup.elements.items ≡ [] → HaveUnitDenominators g.EF.PrimeCharacteristicRing.ring (ratios_in l.fn.ratios) → HaveUnitDenominators g.EF.PrimeCharacteristicRing.ring (ratios_in l.ratios))
    × AreAlike l.ratios
