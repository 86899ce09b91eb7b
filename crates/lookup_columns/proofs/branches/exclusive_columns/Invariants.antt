use Rattle.std.proofs.Common.{◌≡◌, ℕ, Some, take}
use Rattle.std.specs.List.{slice_get}
use Rattle.lookup_columns.specs.ChunkColumns.{StoreSelected, key_denominator_over}
use Rattle.lookup_model.specs.Sent.{branches_at, values}
use Rattle.air.specs.Traces.{traces_of, window_of}
use Rattle.lookup_columns.proofs.branches.exclusive_columns.Given as goal

abbrev pub invariant-loop-branch : goal.invariant-loop-branch
invariant-loop-branch g l =
    let R = g.F.PrimeCharacteristicRing.ring in
    let denominator = key_denominator_over g.EF.PrimeCharacteristicRing.ring g.EF.ExtensionDomain.embed l.inputs.challenges.now in
    let windows = window_of (traces_of l.inputs.traces.now) in
    (index r : ℕ) → slice_get l.inputs.rows.now index ≡ Some r
    → StoreSelected R denominator index l.branches.items (take l.branch (values R (windows r) l.flags)) (take l.branch (branches_at R (windows r) l.lookup.column l.lookup))
