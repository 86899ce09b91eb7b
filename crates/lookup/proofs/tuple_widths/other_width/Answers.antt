use Rattle.std.proofs.Common.{◌≡◌, ◌≢◌, Some, length, ap, sym, ◌∙◌, arith}
use Rattle.lookup.proofs.WidthLaws.{not_here, other_here}
use Rattle.lookup.proofs.tuple_widths.other_width.Goals as goal

pub returns-then-len-width : goal.returns-then-len-width
returns-then-len-width g c =
    let is : c.len-then-len-width.result ≡ length c.tuple-item.result.items = omega (arith, c.len-then-len-width.ensures, c.tuple-item.result.ok.0) in
    let differs : length c.tuple-item.result.items ≢ c.args.width = λ e. c.if-len-width.true (omega (arith, e, c.len.ensures, c.tuple-item.result.ok.0)) in
    ap Some is ∙ sym (other_here (λ t. length t.items) c.args.width c.args.tuples.now c.loop-tuple.tuple-index c.tuple-item.result c.loop-tuple-test.true c.tuple-item.is c.loop-tuple.invariant differs)

pub loop-tuple-preserved : goal.loop-tuple-preserved
loop-tuple-preserved g c =
    let same : length c.tuple-item.result.items ≡ c.args.width = omega (arith, c.if-len-width.false, c.len.ensures, c.tuple-item.result.ok.0) in
    not_here (λ t. length t.items) c.args.width c.args.tuples.now c.loop-tuple.tuple-index c.tuple-item.result c.loop-tuple-test.true c.tuple-item.is c.loop-tuple.invariant same
