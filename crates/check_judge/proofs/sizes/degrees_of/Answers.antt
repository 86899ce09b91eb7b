use Rattle.std.proofs.Common.{◌≡◌, ◌<◌, get_or, inr, length, subst}
use Rattle.std.proofs.lemmas.Result.{err_from_is_err_and}
use Rattle.list_laws.proofs.Items.{item_there}
use Rattle.lookup.specs.Lookups.{lookups_of}
use Rattle.check_judge.proofs.sizes.degrees_of.Goals as goal

pub returns-in_err-constraint_degree : goal.returns-in_err-constraint_degree
returns-in_err-constraint_degree g c =
    let p = err_from_is_err_and c.from_residual.result c.from_residual.ensures.1 in
    let i = c.loop-lookup.lookup-index in
    let x = c.lookup-item.result in
    let all = c.as_slice-lookup-items.ensures.lookups in
    let there = item_there (lookups_of c.args.lookups.now) i x (subst (λ ls. i < length ls) all c.loop-lookup-test.true) (subst (λ ls. x ≡ get_or ls i x) all c.lookup-item.is) in
    rw (p.1, p.2) (inr (i, x, there, c.in_err-constraint_degree.ensures))
