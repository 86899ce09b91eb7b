use Rattle.std.proofs.Common.{◌≡◌, ℕ, ◌+◌, ◌-◌, ◌<◌, ◌∷◌, ◌++◌, [], List, length, take, drop, get_or, arith, sym, ap, subst}
use Rattle.std.proofs.lemmas.List.{take-append-drop, take_all}
use Rattle.std.proofs.lemmas.Result.{err_from_is_err_and}
use Rattle.std.specs.declared.alloc.Global.{Global}
use Rattle.std.specs.declared.vec.Vec.{Vec}
use Rattle.air_expressions.specs.declared.base_expression.SymbolicExpression.{SymbolicExpression}
use Rattle.lookup_model.proofs.Branches.{degrees_more, length-degrees}
use Rattle.lookup_model.proofs.Degrees.{branch_within, numerator_terms}
use Rattle.lookup_model.proofs.SumDegreeLaws.{greater_of_front}
use Rattle.lookup_model.specs.LookupDegree.{BranchDegrees, additive_denominator_degree, branch_degrees, lookup_branch_degrees, tuple_degree}
use Rattle.lookup_model.specs.Records.{HasEqualLengths}
use Rattle.lookup_model.specs.SumDegrees.{AreSumDegrees, IsTooGreat, greater_degree}
use Rattle.lookup_model.specs.declared.sum_degrees.SumDegrees.{SumDegrees}
use Rattle.lookup_model.specs.declared.types.Lookup.{Lookup}
use Rattle.lookup_model.proofs.sum_degrees.SumDegrees.of_lookup.Goals as goal

-- What holds of the degrees before a branch together with its own holds of all of these.
one_more : {F : Type 0} {es : List (SymbolicExpression F)} (t : ℕ) (lookup : Lookup F) (lengths : HasEqualLengths lookup) (i : ℕ) (tuple : Vec (SymbolicExpression F) Global) (multiplicity : SymbolicExpression F) (sum next : SumDegrees) (Holds : List BranchDegrees → Type 0) → i < length lookup.elements.items → tuple ≡ get_or lookup.elements.items i tuple → multiplicity ≡ get_or lookup.multiplicities.items i multiplicity → es ≡ tuple.items
    → AreSumDegrees (take i (lookup_branch_degrees t lookup)) sum → AreSumDegrees (branch_degrees t es multiplicity ∷ []) next
    → ((first second : List BranchDegrees) → AreSumDegrees first sum → AreSumDegrees second next → Holds (first ++ second)) → Holds (take (i + 1) (lookup_branch_degrees t lookup))
one_more {F} {es} t lookup lengths i tuple multiplicity sum next Holds lt tuple_is multiplicity_is items before own together =
    let longer = degrees_more lookup lengths t i tuple multiplicity lt tuple_is multiplicity_is in
    let branch : AreSumDegrees (branch_degrees t tuple.items multiplicity ∷ []) next = subst (λ (xs : List (SymbolicExpression F)). AreSumDegrees (branch_degrees t xs multiplicity ∷ []) next) items own in
    subst Holds (sym longer) (together (take i (lookup_branch_degrees t lookup)) (branch_degrees t tuple.items multiplicity ∷ []) before branch)

pub returns-in_err-next : goal.returns-in_err-next
returns-in_err-next g c =
    let t = c.args.transition in
    let lookup = c.args.lookup.now in
    let bs = lookup_branch_degrees t lookup in
    let i = c.loop-branch.branch in
    let tuple = c.index-tuple.result.now in
    let multiplicity = c.index-multiplicity.result.now in
    let lt : i < length lookup.elements.items = omega (arith, c.loop-branch-test.true, c.len-branch-end.ensures) in
    let term : BranchDegrees → ℕ = λ b. b.multiplicity + (additive_denominator_degree bs - b.tuple) in
    let within : (BranchDegrees → ℕ) → _ = λ f. branch_within t lookup c.requires i tuple multiplicity lt c.index-tuple.ensures c.index-multiplicity.ensures f in
    let p = err_from_is_err_and c.from_residual.result c.from_residual.ensures.1 in
    rw (p.1, p.2) (c.in_err-next.ensures.0, omega (arith, c.in_err-next.ensures.1, ap (tuple_degree t) c.deref.ensures.value, (within (λ b. b.tuple)).1, (within term).0, numerator_terms bs))

pub returns-in_err-sum : goal.returns-in_err-sum
returns-in_err-sum g c =
    let t = c.args.transition in
    let lookup = c.args.lookup.now in
    let bs = lookup_branch_degrees t lookup in
    let i = c.loop-branch.branch in
    let lt : i < length lookup.elements.items = omega (arith, c.loop-branch-test.true, c.len-branch-end.ensures) in
    let great : IsTooGreat (take (i + 1) bs) c.in_err-sum.field-0.0 =
    one_more t lookup c.requires i c.index-tuple.result.now c.index-multiplicity.result.now c.loop-branch.sum c.in_ok-next.next (λ (ds : List BranchDegrees). IsTooGreat ds c.in_err-sum.field-0.0) lt c.index-tuple.ensures c.index-multiplicity.ensures c.deref.ensures.value c.loop-branch.invariant c.in_ok-next.ensures c.in_err-sum.ensures in
    let some = greater_of_front (take (i + 1) bs) (drop (i + 1) bs) in
    let all = ap greater_degree (take-append-drop (i + 1) bs) in
    let p = err_from_is_err_and c.from_residual-in_err-sum.result c.from_residual-in_err-sum.ensures.1 in
    rw (p.1, p.2) (great.0, omega (arith, great.1, some, all))

pub loop-branch-preserved : goal.loop-branch-preserved
loop-branch-preserved g c =
    let t = c.args.transition in
    let lookup = c.args.lookup.now in
    let i = c.loop-branch.branch in
    let lt : i < length lookup.elements.items = omega (arith, c.loop-branch-test.true, c.len-branch-end.ensures) in
    one_more t lookup c.requires i c.index-tuple.result.now c.index-multiplicity.result.now c.loop-branch.sum c.in_ok-next.next (λ (ds : List BranchDegrees). AreSumDegrees ds c.in_ok-sum.sum) lt c.index-tuple.ensures c.index-multiplicity.ensures c.deref.ensures.value c.loop-branch.invariant c.in_ok-next.ensures c.in_ok-sum.ensures

pub returns : goal.returns
returns g c =
    let bs = lookup_branch_degrees c.args.transition c.args.lookup.now in
    subst (λ (ds : List BranchDegrees). AreSumDegrees ds c.loop-branch.sum) (take_all c.loop-branch.branch bs (omega (arith, c.loop-branch-test.false, c.len-branch-end.ensures, length-degrees c.args.lookup.now c.requires c.args.transition))) c.loop-branch.invariant
