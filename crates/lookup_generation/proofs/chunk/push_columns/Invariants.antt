use Rattle.std.proofs.Common.{◌≡◌, ◌-◌, ◌*◌, ◌<◌, ◌≤◌, ℕ, IfSome, List, None, take}
use Rattle.air_expressions.specs.Window.{Window}
use Rattle.lookup_model.specs.Denominators.{key_denominator}
use Rattle.field.specs.Extension.{extension}
use Rattle.lookup_generation.specs.internal.Fraction.{AreAlike, AreDefined, HaveUnitDenominators, ratios_in}
use Rattle.lookup_columns.specs.internal.StoredRows.{StoreAllOnRows}
use Rattle.lookup_generation.specs.Inverses.{ForInverses}
use Rattle.lookup_generation.specs.Progress.{HaveNoTuples}
use Rattle.lookup_generation.specs.internal.Progress.{AnswersPushColumns}
use Rattle.lookup_generation.proofs.chunk.push_columns.Given as goal

abbrev pub invariant-loop-lookup : goal.invariant-loop-lookup
invariant-loop-lookup g l =
    ForInverses g.EF.PrimeCharacteristicRing.ring (λ inverse.
    let E = extension g.F.PrimeCharacteristicRing.ring g.F.PartialEq.eq g.EF.PrimeCharacteristicRing.ring g.EF.PartialEq.eq g.EF.ExtensionDomain.embed inverse in
    (challenges : List _) (window : ℕ → Window _) → StoreAllOnRows E.base E.ring E.embed challenges window l.first l.end l.lookups l.columns
    → AnswersPushColumns E (key_denominator E challenges) window (take l.lookup-index l.lookups) l.first l.end (ratios_in l.ratios) l.fault)
    × (l.fault ≡ None → AreDefined g.EF.PrimeCharacteristicRing.ring (l.lookup-index * (l.end - l.first)) (ratios_in l.ratios))
    × (HaveNoTuples l.lookups → HaveUnitDenominators g.EF.PrimeCharacteristicRing.ring (ratios_in l.ratios))
    × IfSome l.fault (λ f. (l.first ≤ f.row) × (f.row < l.end))
    × AreAlike l.ratios
