use Rattle.std.proofs.Common.{◌≡◌, ◌+◌, ◌-◌, ◌∷◌, ◌++◌, [], ap, sym, ◌∙◌, arith}
use Rattle.std.specs.List.{range_with_len}
use Rattle.list_laws.proofs.Items.{range_more}
use Rattle.lookup_columns.proofs.rows.rows_between.Goals as goal

pub loop-row-init : goal.loop-row-init
loop-row-init c =
    let none : 0 ≡ c.args.first - c.args.first = omega arith in
    c.in_ok-rows.ensures.empty ∙ ap (range_with_len c.args.first) none

pub loop-row-preserved : goal.loop-row-preserved
loop-row-preserved c =
    let n = c.loop-row.row - c.args.first in
    let here : c.loop-row.row ≡ c.args.first + n = omega (arith, c.loop-row.auto.row) in
    let one_more : n + 1 ≡ c.loop-row.row + 1 - c.args.first = omega (arith, c.loop-row.auto.row) in
    c.in_ok-push.ensures.items ∙ (λ k. c.loop-row.invariant k ++ here k ∷ [])
    ∙ sym (range_more c.args.first n)
    ∙ ap (range_with_len c.args.first) one_more

pub returns : goal.returns
returns c =
    let all : c.loop-row.row ≡ c.args.end = omega (arith, c.loop-row-test.false, c.loop-row.auto.row-end c.requires) in
    c.loop-row.invariant ∙ ap (λ r. range_with_len c.args.first (r - c.args.first)) all
