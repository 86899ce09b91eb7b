use Rattle.std.proofs.Common.{arith}
use Rattle.std.proofs.lemmas.Result.{IfOk-weaker, err_from_is_err_and}
use Rattle.air_expressions.proofs.resolve.+resolve_over.Goals as goal

pub resolve_leaf-requires-clause-fits : goal.resolve_leaf-requires-clause-fits
resolve_leaf-requires-clause-fits g t c = rw c.in-Leaf.is at c.requires.fits

pub resolve_leaf-requires-clause-main : goal.resolve_leaf-requires-clause-main
resolve_leaf-requires-clause-main g t c = c.requires.main

pub returns-in_err-left-in-Add : goal.returns-in_err-left-in-Add
returns-in_err-left-in-Add g t c =
    rw (err_from_is_err_and c.from_residual.result c.from_residual.ensures.1).1 record { means = tt; degree = tt }

pub returns-in_err-right-in-Add : goal.returns-in_err-right-in-Add
returns-in_err-right-in-Add g t c =
    rw (err_from_is_err_and c.from_residual-in_err-right-in-Add.result c.from_residual-in_err-right-in-Add.ensures.1).1 record { means = tt; degree = tt }

pub returns-in_ok-right-in-Add-clause-means : goal.returns-in_ok-right-in-Add-clause-means
returns-in_ok-right-in-Add-clause-means g t c =
    rw c.in-Add.is (IfOk-weaker c.add.result _ _ (λ x means w stands. let l = c.in_ok-left-in-Add.ensures.means w stands in
    let r = c.in_ok-right-in-Add.ensures.means w stands in
    let both = means (g.AB.AirBuilder.seen w) in
    cc) c.add.ensures.means)

pub returns-in_ok-right-in-Add-clause-degree : goal.returns-in_ok-right-in-Add-clause-degree
returns-in_ok-right-in-Add-clause-degree g t c =
    rw c.in-Add.is (IfOk-weaker c.add.result _ _ (λ x degree n. let l = rw c.deref.ensures at c.in_ok-left-in-Add.ensures.degree n in
    let r = rw c.deref-in-Add.ensures at c.in_ok-right-in-Add.ensures.degree n in
    let both = degree n in
    omega arith) c.add.ensures.degree)

pub returns-in_err-left-in-Sub : goal.returns-in_err-left-in-Sub
returns-in_err-left-in-Sub g t c =
    rw (err_from_is_err_and c.from_residual-in_err-left-in-Sub.result c.from_residual-in_err-left-in-Sub.ensures.1).1 record { means = tt; degree = tt }

pub returns-in_err-right-in-Sub : goal.returns-in_err-right-in-Sub
returns-in_err-right-in-Sub g t c =
    rw (err_from_is_err_and c.from_residual-in_err-right-in-Sub.result c.from_residual-in_err-right-in-Sub.ensures.1).1 record { means = tt; degree = tt }

pub returns-in_ok-right-in-Sub-clause-means : goal.returns-in_ok-right-in-Sub-clause-means
returns-in_ok-right-in-Sub-clause-means g t c =
    rw c.in-Sub.is (IfOk-weaker c.sub.result _ _ (λ x means w stands. let l = c.in_ok-left-in-Sub.ensures.means w stands in
    let r = c.in_ok-right-in-Sub.ensures.means w stands in
    let both = means (g.AB.AirBuilder.seen w) in
    cc) c.sub.ensures.means)

pub returns-in_ok-right-in-Sub-clause-degree : goal.returns-in_ok-right-in-Sub-clause-degree
returns-in_ok-right-in-Sub-clause-degree g t c =
    rw c.in-Sub.is (IfOk-weaker c.sub.result _ _ (λ x degree n. let l = rw c.deref-in-Sub.ensures at c.in_ok-left-in-Sub.ensures.degree n in
    let r = rw c.deref-in-Sub-2.ensures at c.in_ok-right-in-Sub.ensures.degree n in
    let both = degree n in
    omega arith) c.sub.ensures.degree)

pub returns-in_err-left-in-Mul : goal.returns-in_err-left-in-Mul
returns-in_err-left-in-Mul g t c =
    rw (err_from_is_err_and c.from_residual-in_err-left-in-Mul.result c.from_residual-in_err-left-in-Mul.ensures.1).1 record { means = tt; degree = tt }

pub returns-in_err-right-in-Mul : goal.returns-in_err-right-in-Mul
returns-in_err-right-in-Mul g t c =
    rw (err_from_is_err_and c.from_residual-in_err-right-in-Mul.result c.from_residual-in_err-right-in-Mul.ensures.1).1 record { means = tt; degree = tt }

pub returns-in_ok-right-in-Mul-clause-means : goal.returns-in_ok-right-in-Mul-clause-means
returns-in_ok-right-in-Mul-clause-means g t c =
    rw c.in-Mul.is (IfOk-weaker c.mul.result _ _ (λ x means w stands. let l = c.in_ok-left-in-Mul.ensures.means w stands in
    let r = c.in_ok-right-in-Mul.ensures.means w stands in
    let both = means (g.AB.AirBuilder.seen w) in
    cc) c.mul.ensures.means)

pub returns-in_ok-right-in-Mul-clause-degree : goal.returns-in_ok-right-in-Mul-clause-degree
returns-in_ok-right-in-Mul-clause-degree g t c =
    rw c.in-Mul.is (IfOk-weaker c.mul.result _ _ (λ x degree n. let l = rw c.deref-in-Mul.ensures at c.in_ok-left-in-Mul.ensures.degree n in
    let r = rw c.deref-in-Mul-2.ensures at c.in_ok-right-in-Mul.ensures.degree n in
    let both = degree n in
    omega arith) c.mul.ensures.degree)
