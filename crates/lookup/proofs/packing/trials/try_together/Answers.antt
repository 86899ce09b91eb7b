use Rattle.std.proofs.Common.{◌≡◌, ◌<◌, ◌+◌, length, arith}
use Rattle.lookup_model.specs.Weight.{weight_bound}
use Rattle.lookup.proofs.TrialLaws.{joined_both, set_apart}
use Rattle.lookup.proofs.packing.trials.try_together.Goals as goal

pub returns-in-Some : goal.returns-in-Some
returns-in-Some g c =
    let sum : c.in-Some.sum ≡ c.args.column.now.count_weight + c.args.next.count_weight = omega (arith, c.in-Some.ensures) in
    let small : c.args.column.now.count_weight + c.args.next.count_weight < weight_bound = omega (arith, c.in-Some.ensures) in
    joined_both (g.T.TrialDegrees.answers c.args.degrees.now) c.args.max_degree c.args.column.now c.args.next c.requires.column c.requires.next c.append.new.self c.append-2.new.self c.in_ok-append.ensures.items c.in_ok-append-2.ensures.items c.in_ok-answer.answer c.in-Some.sum c.in_ok-answer.ensures (omega (arith, c.if-answer-max_degree.true)) sum small

pub returns : goal.returns
returns g c =
    let at : c.len-pivot.result ≡ length c.args.column.now.elements.items = omega (arith, c.len-pivot.ensures, c.args.column.now.elements.ok.0) in
    set_apart (g.T.TrialDegrees.answers c.args.degrees.now) c.args.max_degree c.args.column.now c.args.next c.requires.column c.requires.next c.append.new.self c.append-2.new.self c.in_ok-append.ensures.items c.in_ok-append-2.ensures.items c.in_ok-answer.answer c.len-pivot.result
    c.split_off.new.self c.split_off-else-answer-max_degree.new.self c.in_ok-next.field-0 c.in_ok-next-2.field-0 c.in_ok-answer.ensures (omega (arith, c.if-answer-max_degree.false)) at
    c.in_ok-next.ensures.items c.in_ok-next.ensures.tail c.in_ok-next-2.ensures.items c.in_ok-next-2.ensures.tail
