use Rattle.std.proofs.Common.{◌<◌, length, arith}
use Rattle.list_laws.proofs.Items.{item_at, item_there}
use Rattle.list_laws.proofs.Zips.{AllZip-all_right, AllZip-more_right}
use Rattle.lookup_columns.specs.ChunkColumns.{IsStored, key_denominator_over}
use Rattle.lookup_model.proofs.Branches.{length-branches_at}
use Rattle.lookup_model.specs.Sent.{branches_at}
use Rattle.air.specs.Traces.{traces_of, window_of}
use Rattle.lookup_columns.proofs.branches.additive_columns.Goals as goal

pub loop-branch-preserved : goal.loop-branch-preserved
loop-branch-preserved g c = λ index r there.
    let inputs = c.args.inputs.now in
    let stored = IsStored (key_denominator_over g.EF.PrimeCharacteristicRing.ring g.EF.ExtensionDomain.embed inputs.challenges.now) index in
    let lookup = c.args.lookup.now in
    let i = c.loop-branch.branch in
    let ms = branches_at g.F.PrimeCharacteristicRing.ring (window_of (traces_of inputs.traces.now) r) lookup.column lookup in
    let lt : i < length ms = omega (arith, length-branches_at g.F.PrimeCharacteristicRing.ring (window_of (traces_of inputs.traces.now) r) lookup.column lookup c.requires.lengths) in
    let (m, m_is) = item_at ms i lt in
    AllZip-more_right stored _ _ ms i _ m lt m_is c.in_ok-push.ensures.items (c.in_ok-columns.ensures index r m there (item_there ms i m lt m_is)) (c.loop-branch.invariant index r there)

pub returns : goal.returns
returns g c = λ index r there.
    let inputs = c.args.inputs.now in
    let stored = IsStored (key_denominator_over g.EF.PrimeCharacteristicRing.ring g.EF.ExtensionDomain.embed inputs.challenges.now) index in
    let lookup = c.args.lookup.now in
    AllZip-all_right stored _ _ c.loop-branch.branch (omega (arith, c.loop-branch-test.false, length-branches_at g.F.PrimeCharacteristicRing.ring (window_of (traces_of inputs.traces.now) r) lookup.column lookup c.requires.lengths)) (c.loop-branch.invariant index r there)
