use Rattle.std.proofs.Common.{ap, arith, map, reverse, vec_capacity}
use Rattle.std.proofs.lemmas.Result.{err_from_is_err_and}
use Rattle.lookup_columns.proofs.SpareLaws.{rooms_push}
use Rattle.lookup_columns.proofs.spare.SpareLists.put.Goals as goal

pub returns-in_err-push-clause-refused : goal.returns-in_err-push-clause-refused
returns-in_err-push-clause-refused g c =
    let p = err_from_is_err_and c.from_residual.result c.from_residual.ensures.1 in
    rw p.1 (ap (λ l. reverse (map (λ v. vec_capacity v) l)) c.in_err-push.ensures.items)

pub returns-in_ok-push-clause-none : goal.returns-in_ok-push-clause-none
returns-in_ok-push-clause-none g c = λ none. absurd (omega (arith, c.capacity.ensures, c.if-capacity-gt0.true))

pub returns-in_ok-push-clause-one : goal.returns-in_ok-push-clause-one
returns-in_ok-push-clause-one g c = λ _.
    rooms_push (λ v. vec_capacity v) c.args.self.now.lists.items c.args.list c.in_ok-push.ensures.items
