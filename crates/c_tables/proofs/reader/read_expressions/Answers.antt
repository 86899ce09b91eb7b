use Rattle.air_expressions.specs.Tree.{Tree, tree_of}
use Rattle.field.specs.Residue.{Residue}
use Rattle.air_expressions.specs.declared.base_expression.SymbolicExpression.{SymbolicExpression}
use Rattle.c_tables.specs.declared.nodes.Node.{Node}
use Rattle.c_tables.specs.declared.part.Part.{Part}
use Rattle.c_tables.specs.Nodes.{NodesAreTrees}
use Rattle.c_tables.proofs.Unique.{same_trees}
use Rattle.std.proofs.Common.{◌≡◌, ◌<◌, ◌++◌, ℕ, List, [], map, sym, ◌∙◌, arith}
use Rattle.std.proofs.lemmas.List.{nil_from_length}
use Rattle.std.specs.Vec.Iter.{into_iter_items}
use Rattle.c_tables.proofs.StackLaws.{are_trees, passed_all, passed_part, trees}
use Rattle.c_tables.proofs.reader.read_expressions.Goals as goal

pub loop-part-init : goal.loop-part-init
loop-part-init g c = rw (c.in_ok-expressions.ensures.items, c.into_iter-part-iterator.ensures.into_iter_gives.0) (are_trees c.in_ok-parts.parts.items c.args.nodes.now c.in_ok-parts.ensures)

pub loop-part-preserved : goal.loop-part-preserved
loop-part-preserved g c =
    passed_part _ _ _ _ c.in-Some.part c.args.nodes.now c.in_ok-push.ensures.items c.in-Some.ensures.steps.0 c.loop-part.invariant

all_read : {p : ℕ} (positive : 0 < p) (expressions : List (SymbolicExpression (Residue p))) (left : List (Part (Residue p))) (nodes : List Node) → left ≡ [] → NodesAreTrees (map tree_of expressions ++ trees left) nodes → NodesAreTrees (map tree_of expressions) nodes × ((others : List (Tree (Residue p))) → NodesAreTrees others nodes → others ≡ map tree_of expressions)
all_read positive expressions left nodes none are =
    let all = passed_all expressions left nodes none are in
    (all, λ others same. same_trees positive others (map tree_of expressions) (same.same ∙ sym all.same))

pub returns : goal.returns
returns g c =
    let both = all_read g.K.MontyParameters.positive c.loop-part.expressions.items _ c.args.nodes.now (nil_from_length (into_iter_items c.loop-part.part-iterator) (omega (arith, c.in-None.ensures.steps.0, c.loop-part.part-iterator.rest.ok.0))) c.loop-part.invariant in
    record { reads = both.0; only = both.1 }
