use Rattle.std.proofs.Common.{refl, sym}
use Rattle.std.proofs.lemmas.Bool.{iff_false, true≢false}
use Rattle.list_laws.proofs.Each.{All-at, All-held}
use Rattle.list_laws.proofs.Items.{holds_next, item_there}
use Rattle.check_judge.specs.Enforced.{IsAllEnforced}
use Rattle.check_judge.proofs.enforced.are_all_enforced.Goals as goal

pub loop-index-preserved : goal.loop-index-preserved
loop-index-preserved c =
    let airs = c.args.airs.now in
    let i = c.loop-index.index in
    let air = c.index-airs-index.result in
    holds_next IsAllEnforced airs i air (item_there airs i air c.loop-index-test.true c.index-airs-index.is) (c.is_all_enforced.ensures.0 c.if-not-is_all_enforced.false) c.loop-index.invariant

pub returns-then-not-is_all_enforced : goal.returns-then-not-is_all_enforced
returns-then-not-is_all_enforced c = (
  λ t. absurd (true≢false (sym t)),
  λ all. absurd (iff_false c.is_all_enforced.ensures c.if-not-is_all_enforced.true (All-at IsAllEnforced c.args.airs.now c.loop-index.index c.index-airs-index.result all c.loop-index-test.true c.index-airs-index.is)),
)

pub returns : goal.returns
returns c = (λ t. All-held IsAllEnforced c.args.airs.now c.loop-index.index c.loop-index-test.false c.loop-index.invariant, λ all. refl)
