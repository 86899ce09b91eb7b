use Rattle.std.proofs.Common.{arith}
use Rattle.std.proofs.lemmas.List.{nil_from_length}
use Rattle.std.specs.Vec.Iter.{into_iter_items}
use Rattle.list_laws.proofs.Images.{all_passed}
use Rattle.matrix.specs.Matrix.{height}
use Rattle.example_machines.proofs.traces.air_parts.Goals as goal

pub returns : goal.returns
returns g c =
    let left = into_iter_items c.loop-trace.trace-iterator in
    let none = nil_from_length left (omega (arith, c.in-None.ensures.steps.0, c.loop-trace.trace-iterator.rest.ok.0)) in
    let invariant = c.loop-trace.invariant in (
      all_passed (λ t. t.lookups) _ _ left none invariant.0,
      all_passed (λ t. t.main) _ _ left none invariant.1,
      all_passed (λ t. height t.main) _ _ left none invariant.2,
    )
