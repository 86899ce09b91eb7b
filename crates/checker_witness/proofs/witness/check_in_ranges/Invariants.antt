use Rattle.std.proofs.Common.{ℕ, ◌<◌, drop}
use Rattle.air.specs.Traces.{height_of}
use Rattle.field.specs.laws.Extension.{of_laws}
use Rattle.lookup_generation.specs.Ranges.{AreEnds}
use Rattle.lookup_model.specs.Batches.Instances.{instance_of}
use Rattle.lookup_model.specs.Witness.{HoldsOnRow}
use Rattle.checker_witness.proofs.witness.check_in_ranges.Given as goal

abbrev pub invariant-loop-end : goal.invariant-loop-end
invariant-loop-end g l =
    let E = of_laws g.met.EF.ExtensionField.lawful_fields in
    let i = instance_of l.instance in
    AreEnds l.first (drop l.end-index l.ends) (height_of i.traces)
    × ((s : ℕ) → s < l.first → HoldsOnRow E i.traces i.lookups l.columns.items l.aux l.terminal s)
