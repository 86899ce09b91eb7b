use Rattle.std.proofs.Common.{◌/◌, arith}
use Rattle.std.proofs.Math.Nat.{div-add-mod}
use Rattle.lookup_model.proofs.Counting.LinearBound.{linear_of_even, linear_of_odd}
use Rattle.lookup_model.proofs.count.SoundnessCount.linear_bad_betas.Goals as goal

pub returns-then-k-eq0 : goal.returns-then-k-eq0
returns-then-k-eq0 c = λ W is.
    let k = c.args.self.now.unbalanced in
    let j = k / 2 in
    linear_of_even W k j _ (omega (arith, c.if-k-eq0.true, div-add-mod k 2)) (omega (arith, c.if-k-lt2.false, c.if-k-eq0.true, div-add-mod k 2)) is

pub returns-else-k-eq0 : goal.returns-else-k-eq0
returns-else-k-eq0 c = λ W is.
    let k = c.args.self.now.unbalanced in
    linear_of_odd W k (k / 2) _ (omega (arith, c.if-k-eq0.false, div-add-mod k 2)) is
