use Rattle.std.proofs.Common.{◌≡◌, arith, ap, ◌∙◌, map, max, rules}
use Rattle.std.proofs.lemmas.List.{length-map}
use Rattle.std.proofs.lemmas.Result.{err_from_is_err_and}
use Rattle.list_laws.proofs.Images.{mapped_at, mapped_more}
use Rattle.lookup_model.specs.LookupDegree.{expression_degree}
use Rattle.lookup_model.proofs.Degrees.{greatest_longer, item_within}
use Rattle.lookup_model.proofs.expression_degree.degree_of_tuple.Goals as goal

pub returns-in_err-degree_of : goal.returns-in_err-degree_of
returns-in_err-degree_of g c =
    let degree = expression_degree c.args.transition in
    let elements = c.args.tuple.now in
    let element = c.element-item.result in
    let i = c.loop-element.element-index in
    let within = item_within (map degree elements) i (degree element) (omega (arith, c.loop-element-test.true, length-map elements degree)) (mapped_at degree elements i element c.loop-element-test.true c.element-item.is) in
    let p = err_from_is_err_and c.from_residual.result c.from_residual.ensures.1 in
    rw (p.1, p.2) (c.in_err-degree_of.ensures.0, omega (arith, c.in_err-degree_of.ensures.1, within.0))

pub loop-element-preserved : goal.loop-element-preserved
loop-element-preserved g c =
    let greater : c.max-degree.result ≡ max c.loop-element.degree c.in_ok-degree_of.field-0 = search rules in
    let degree = expression_degree c.args.transition in
    let elements = c.args.tuple.now in
    let element = c.element-item.result in
    let i = c.loop-element.element-index in
    greatest_longer (map degree elements) i (degree element) c.loop-element.degree c.max-degree.result (mapped_more degree elements i element c.loop-element-test.true c.element-item.is) c.loop-element.invariant (greater ∙ ap (max c.loop-element.degree) c.in_ok-degree_of.ensures)
