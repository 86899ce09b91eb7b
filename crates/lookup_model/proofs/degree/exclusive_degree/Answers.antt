use Rattle.std.proofs.Common.{◌≡◌, ℕ, ◌+◌, ◌≤◌, ◌<◌, max, map, length, arith, ap, rules}
use Rattle.std.proofs.lemmas.List.{length-map, take_all}
use Rattle.std.proofs.lemmas.Result.{err_from_is_err_and}
use Rattle.std.specs.List.{zip}
use Rattle.list_laws.proofs.Zips.{length-zipped}
use Rattle.lookup_model.proofs.Branches.{length-degrees}
use Rattle.lookup_model.specs.LookupDegree.{BranchDegrees, expression_degree, greatest, lookup_branch_degrees, tuple_degree}
use Rattle.lookup_model.proofs.Degrees.{pair_next, pair_within}
use Rattle.lookup_model.proofs.degree.exclusive_degree.Goals as goal

pub returns-in_err-branch_degree : goal.returns-in_err-branch_degree
returns-in_err-branch_degree g c =
    let t = c.args.transition in
    let lookup = c.args.lookup.now in
    let flags = c.args.flags.now in
    let i = c.loop-branch.branch in
    let flag = c.index-flags-branch.result in
    let tuple = c.index-tuple.result.now in
    let multiplicity = c.index-multiplicity.result.now in
    let lt : i < length lookup.elements.items = omega (arith, c.loop-branch-test.true, c.requires.flag_number) in
    let d : ℕ × BranchDegrees → ℕ = λ b. max (b.0 + b.1.tuple) b.0 in
    let n : ℕ × BranchDegrees → ℕ = λ b. b.0 + b.1.multiplicity in
    let within = pair_within t lookup c.requires.lengths i tuple multiplicity lt c.index-tuple.ensures c.index-multiplicity.ensures flags flag c.requires.flag_number c.index-flags-branch.is in
    let p = err_from_is_err_and c.from_residual.result c.from_residual.ensures.1 in
    rw (p.1, p.2) (c.in_err-branch_degree.ensures.0, omega (arith, c.in_err-branch_degree.ensures.1, ap (tuple_degree t) c.deref.ensures.value, within d, within n))

pub loop-branch-preserved : goal.loop-branch-preserved
loop-branch-preserved g c =
    let t = c.args.transition in
    let lookup = c.args.lookup.now in
    let flags = c.args.flags.now in
    let i = c.loop-branch.branch in
    let flag = c.index-flags-branch.result in
    let tuple = c.index-tuple.result.now in
    let multiplicity = c.index-multiplicity.result.now in
    let lt : i < length lookup.elements.items = omega (arith, c.loop-branch-test.true, c.requires.flag_number) in
    let d : ℕ × BranchDegrees → ℕ = λ b. max (b.0 + b.1.tuple) b.0 in
    let n : ℕ × BranchDegrees → ℕ = λ b. b.0 + b.1.multiplicity in
    let greater : c.max-degree.result ≡ max c.loop-branch.degree c.in_ok-branch_degree.field-0 = search rules in
    let next = pair_next t lookup c.requires.lengths i tuple multiplicity lt c.index-tuple.ensures c.index-multiplicity.ensures flags flag c.requires.flag_number c.index-flags-branch.is in
    omega (arith, greater, next d, next n, c.loop-branch.invariant, c.in_ok-branch_degree.ensures, ap (tuple_degree t) c.deref.ensures.value)

pub returns : goal.returns
returns g c =
    let t = c.args.transition in
    let lookup = c.args.lookup.now in
    let flags = c.args.flags.now in
    let i = c.loop-branch.branch in
    let degrees = map (expression_degree t) flags in
    let bs = lookup_branch_degrees t lookup in
    let same : length bs ≡ length degrees = omega (arith, length-degrees lookup c.requires.lengths t, c.requires.flag_number, length-map flags (expression_degree t)) in
    let past : length degrees ≤ i = omega (arith, c.loop-branch-test.false, length-map flags (expression_degree t)) in
    let all = λ (f : ℕ × BranchDegrees → ℕ). ap greatest (take_all i (map f (zip degrees bs)) (omega (arith, past, length-zipped f degrees bs same))) in
    omega (arith, c.loop-branch.invariant, all (λ b. max (b.0 + b.1.tuple) b.0), all (λ b. b.0 + b.1.multiplicity))
