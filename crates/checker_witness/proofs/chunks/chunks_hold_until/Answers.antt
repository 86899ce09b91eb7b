use Rattle.std.proofs.Common.{refl, arith}
use Rattle.field.specs.laws.Extension.{of_laws}
use Rattle.checker_witness.specs.internal.Rows.{HoldsOn}
use Rattle.checker_witness.proofs.UntilLaws.{fails_joined, joined, until_end}
use Rattle.checker_witness.proofs.chunks.chunks_hold_until.Goals as goal

pub returns-then-until-last : goal.returns-then-until-last
returns-then-until-last g c =
    let E = of_laws g.met.EF.ExtensionField.lawful_fields in
    let so_far = c.loop-next.invariant in
    fails_joined (HoldsOn E c.args.inputs.now c.args.lookups.now) c.args.first c.loop-next.next c.chunk_end-last.result c.in_ok-until.until so_far.2 c.in_ok-until.ensures c.args.end so_far.0 c.chunk_end-last.ensures.up_to c.if-until-last.true

pub loop-next-preserved : goal.loop-next-preserved
loop-next-preserved g c =
    let E = of_laws g.met.EF.ExtensionField.lawful_fields in
    let so_far = c.loop-next.invariant in (
      omega (arith, so_far.0, c.chunk_end-last.ensures.further),
      c.chunk_end-last.ensures.up_to,
      λ s low high. joined (HoldsOn E c.args.inputs.now c.args.lookups.now) c.args.first c.loop-next.next c.chunk_end-last.result c.in_ok-until.until so_far.2 c.in_ok-until.ensures s low (omega (arith, high, c.if-until-last.false)),
    )

pub returns : goal.returns
returns g c =
    let E = of_laws g.met.EF.ExtensionField.lawful_fields in
    let so_far = c.loop-next.invariant in
    until_end (HoldsOn E c.args.inputs.now c.args.lookups.now) c.args.first c.args.end c.args.end c.requires.from refl (λ s low high. so_far.2 s low (omega (arith, high, c.loop-next-test.false)))
