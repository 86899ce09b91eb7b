use Rattle.std.proofs.Common.{◌≡◌, ◌⊎◌, ◌*◌, ◌^◌, ◌≤◌, ◌↔◌, IsTrue, subst}
use Rattle.check_judge.proofs.BitLaws.{target_met}
use Rattle.check_judge.proofs.bits.Deceiving.meets.Goals as goal

pub returns : goal.returns
returns c =
    let wanted = c.in-Some-Some.wanted in
    let alphas = c.in-Some-Some.alphas in
    target_met c.args.challenges c.args.target c.args.self.alphas c.args.self.betas wanted alphas c.leaves.result c.ranges.challenges.fits c.in-Some-Some.is-0 c.in-Some-Some.is-1
    (subst (λ bad. IsTrue c.leaves.result ↔ ((wanted ≡ 0) ⊎ (bad * 2 ^ wanted ≤ c.args.challenges))) c.saturating_add.ensures c.leaves.ensures)
