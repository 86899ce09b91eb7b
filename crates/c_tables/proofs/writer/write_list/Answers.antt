use Rattle.std.proofs.Common.{◌≡◌, ◌++◌, ◌≤◌, ◌-◌, All, List, ap, arith, get_or, inl, inr, length, map, refl, subst, take, ◌∙◌}
use Rattle.field.specs.Residue.{Residue}
use Rattle.std.proofs.lemmas.List.{take_all}
use Rattle.std.proofs.lemmas.List.Elements.{All-more, All-weaker}
use Rattle.std.proofs.lemmas.Option.{slice_get-get_or}
use Rattle.std.proofs.lemmas.Result.{err_from_is_err_and}
use Rattle.std.specs.List.{flat_map}
use Rattle.air_expressions.specs.Depth.{depth_of}
use Rattle.air_expressions.specs.Tree.{tree_of}
use Rattle.air_expressions.specs.declared.base_expression.SymbolicExpression.{SymbolicExpression}
use Rattle.c_tables.specs.Nodes.{nodes_of}
use Rattle.c_tables.specs.Written.{IsWritableWithin, IsWritingTreeFault}
use Rattle.c_tables.proofs.WriterLaws.{list_long, list_next, list_written}
use Rattle.c_tables.proofs.writer.write_list.Goals as goal

pub returns-in_err-push_nodes : goal.returns-in_err-push_nodes
returns-in_err-push_nodes g c =
    let expressions = c.args.expressions.now in
    let i = c.loop-expression.expression-index in
    let p = err_from_is_err_and c.from_residual.result c.from_residual.ensures.1 in
    rw (p.1, p.2) (elim c.in_err-push_nodes.ensures [
      | inl memory ↦ inl memory
      | inr fault ↦ inr (inr (
        i,
        get_or expressions i c.expression-item.result,
        slice_get-get_or expressions i c.expression-item.result c.loop-expression-test.true,
        subst (λ (x : SymbolicExpression (Residue g.row.P)). IsWritingTreeFault 1024 (tree_of x) c.in_err-push_nodes.field-0.0) c.expression-item.is fault,
      ))
    ])

pub loop-expression-preserved : goal.loop-expression-preserved
loop-expression-preserved g c = record {
  nodes = list_next c.args.expressions.now c.loop-expression.expression-index c.expression-item.result c.args.nodes.now.items c.loop-expression.nodes.items _ c.loop-expression-test.true c.expression-item.is c.loop-expression.invariant.nodes c.in_ok-push_nodes.ensures.0;
  each = All-more (λ e. IsWritableWithin 1024 (tree_of e)) c.args.expressions.now c.loop-expression.expression-index c.expression-item.result c.loop-expression-test.true c.loop-expression.invariant.each
      (subst (λ (e : SymbolicExpression (Residue g.row.P)). IsWritableWithin 1024 (tree_of e)) c.expression-item.is c.in_ok-push_nodes.ensures.1);
}

pub returns-then-end-start-gt-MAX_NODES : goal.returns-then-end-start-gt-MAX_NODES
returns-then-end-start-gt-MAX_NODES g c =
    let expressions = c.args.expressions.now in
    let nodes_are : c.loop-expression.nodes.items ≡ c.args.nodes.now.items ++ flat_map nodes_of (map tree_of expressions) =
    c.loop-expression.invariant.nodes ∙ ap (λ es. c.args.nodes.now.items ++ flat_map nodes_of (map tree_of es)) (take_all c.loop-expression.expression-index expressions (omega (arith, c.loop-expression-test.false))) in
    let long : length (flat_map nodes_of (map tree_of expressions)) ≡ c.len-end.result - c.len-start.result =
    list_long c.args.nodes.now.items c.loop-expression.nodes.items expressions c.len-start.result c.len-end.result nodes_are (omega (arith, c.len-start.ensures)) (omega (arith, c.len-end.ensures)) in
    inr (inl (refl, omega (arith, long, c.if-end-start-gt-MAX_NODES.true)))

pub returns : goal.returns
returns g c =
    let expressions = c.args.expressions.now in
    let whole : take c.loop-expression.expression-index expressions ≡ expressions = take_all c.loop-expression.expression-index expressions (omega (arith, c.loop-expression-test.false)) in
    let nodes_are : c.loop-expression.nodes.items ≡ c.args.nodes.now.items ++ flat_map nodes_of (map tree_of expressions) =
    c.loop-expression.invariant.nodes ∙ ap (λ es. c.args.nodes.now.items ++ flat_map nodes_of (map tree_of es)) whole in
    let long : length (flat_map nodes_of (map tree_of expressions)) ≡ c.len-end.result - c.len-start.result =
    list_long c.args.nodes.now.items c.loop-expression.nodes.items expressions c.len-start.result c.len-end.result nodes_are (omega (arith, c.len-start.ensures)) (omega (arith, c.len-end.ensures)) in
    let each : All (λ e. IsWritableWithin 1024 (tree_of e)) expressions =
    subst (λ (es : List (SymbolicExpression (Residue g.row.P))). All (λ e. IsWritableWithin 1024 (tree_of e)) es) whole c.loop-expression.invariant.each in (
      (flat_map nodes_of (map tree_of expressions), nodes_are),
      list_written c.args.nodes.now.items c.loop-expression.nodes.items expressions (record { start = c.len-start.result; end = c.len-end.result }) nodes_are (omega (arith, c.len-start.ensures)) (omega (arith, c.len-end.ensures)) c.if-end-start-gt-MAX_NODES.false
          (All-weaker (λ e. IsWritableWithin 1024 (tree_of e)) (λ e. depth_of (tree_of e) ≤ 1024) (λ e say. say.1) expressions each),
      record {
        each = each;
        short = omega (arith, long, c.if-end-start-gt-MAX_NODES.false);
      },
    )
