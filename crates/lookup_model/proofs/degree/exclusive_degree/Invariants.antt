use Rattle.std.proofs.Common.{◌≡◌, ◌+◌, map, max, take}
use Rattle.std.specs.List.{zip}
use Rattle.lookup_model.specs.LookupDegree.{expression_degree, greatest, lookup_branch_degrees}
use Rattle.lookup_model.proofs.degree.exclusive_degree.Given as goal

abbrev pub invariant-loop-branch : goal.invariant-loop-branch
invariant-loop-branch g l =
    let branches = zip (map (expression_degree l.transition) l.flags) (lookup_branch_degrees l.transition l.lookup) in
    l.degree ≡ max (1 + greatest (take l.branch (map (λ b. max (b.0 + b.1.tuple) b.0) branches))) (greatest (take l.branch (map (λ b. b.0 + b.1.multiplicity) branches)))
