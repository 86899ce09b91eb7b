use Rattle.std.proofs.Common.{◌≡◌, ℕ, Some, take}
use Rattle.std.specs.List.{AllZip, slice_get}
use Rattle.lookup_columns.specs.ChunkColumns.{IsStored, key_denominator_over}
use Rattle.lookup_model.specs.Sent.{branches_at}
use Rattle.air.specs.Traces.{traces_of, window_of}
use Rattle.lookup_columns.proofs.branches.additive_columns.Given as goal

abbrev pub invariant-loop-branch : goal.invariant-loop-branch
invariant-loop-branch g l =
    let denominator = key_denominator_over g.EF.PrimeCharacteristicRing.ring g.EF.ExtensionDomain.embed l.inputs.challenges.now in
    let windows = window_of (traces_of l.inputs.traces.now) in
    (index r : ℕ) → slice_get l.inputs.rows.now index ≡ Some r
    → AllZip (IsStored denominator index) l.branches.items (take l.branch (branches_at g.F.PrimeCharacteristicRing.ring (windows r) l.lookup.column l.lookup))
