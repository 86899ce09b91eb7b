use Rattle.std.proofs.Common.{refl, arith, inl, inr, sym, ◌∙◌}
use Rattle.lookup_debug.proofs.FirstMismatch.{texts-end}
use Rattle.lookup_debug.proofs.first.text_order.Goals.{then-loop-index-test+else-index-b, else-loop-index-test}
use Rattle.lookup_debug.proofs.first.text_order.Goals as goal

pub returns : goal.returns
returns g c =
    c.cmp.ensures
    ∙ sym (texts-end g.F.Field.text c.args.a.now c.args.b.now c.loop-index.index c.loop-index.invariant.first c.loop-index.invariant.second (elim c.loop-index-test.branch [
      | then-loop-index-test+else-index-b w ↦ inr w.if-index-b.false
      | else-loop-index-test w ↦ inl w.loop-index-test.false
    ]))
    ∙ c.loop-index.invariant.rest

pub loop-index-init : goal.loop-index-init
loop-index-init g c = record { rest = refl; first = omega arith; second = omega arith }

pub bounds-a-index : goal.bounds-a-index
bounds-a-index g c = omega (arith, c.loop-index-test.true)

pub offset_bounds-a-index : goal.offset_bounds-a-index
offset_bounds-a-index g c = omega (arith, c.loop-index-test.true)

pub bounds-b-index : goal.bounds-b-index
bounds-b-index g c = omega (arith, c.if-index-b.true)

pub offset_bounds-b-index : goal.offset_bounds-b-index
offset_bounds-b-index g c = omega (arith, c.if-index-b.true)

pub loop-index-smaller : goal.loop-index-smaller
loop-index-smaller g c = omega (arith, c.loop-index-test.true)
