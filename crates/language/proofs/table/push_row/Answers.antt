use Rattle.std.proofs.Common.{◌+◌, length, List, ℕ, Option, Bor, ap, option_map, sym, ◌∙◌}
use Rattle.std.proofs.lemmas.Result.{err_from_is_err_and}
use Rattle.language.specs.internal.Tables.{cells_in}
use Rattle.language.proofs.TableLaws.{first_cell, place-more, row-end, row-extra, row-fault, row-missing, row-more, size}
use Rattle.language.proofs.table.push_row.Goals as goal

-- the cells that are left
abbrev left : Option (Bor (List ℕ)) → List (List ℕ)
left rest = cells_in (option_map (λ x. x.now) rest)

pub returns-in_default : goal.returns-in_default
returns-in_default c = row-missing c.args.modulus c.loop.at c.args.width c.loop.counter c.loop.cells.items (left c.loop.rest) _ c.loop.invariant.told c.loop-test.true (ap left c.in_default.is)

pub returns-in_err-read_cell : goal.returns-in_err-read_cell
returns-in_err-read_cell c =
    let p = err_from_is_err_and c.from_residual.result c.from_residual.ensures.1 in
    rw (p.1, p.2)
    (row-fault c.args.modulus c.loop.at c.args.width c.loop.counter c.loop.cells.items (left c.loop.rest) _ c.loop.invariant.told c.split_cell.result.0.now (left c.split_cell.result.1) c.in_err-read_cell.field-0.0 c.loop-test.true (ap left c.in-Some.is ∙ c.split_cell.ensures.cells) c.in_err-read_cell.ensures)

pub loop-preserved : goal.loop-preserved
loop-preserved c = record {
  place = place-more c.loop.at _ (length c.split_cell.result.0.now) c.in-Some.left.now (option_map (λ x. x.now) c.split_cell.result.1) (ap (λ (rest : Option (Bor (List ℕ))). c.loop.at + size (option_map (λ x. x.now) rest)) (sym c.in-Some.is) ∙ c.loop.invariant.place) c.split_cell.ensures.within;
  told = rw c.in_ok-push.ensures.items (row-more c.args.modulus c.loop.at c.args.width c.loop.counter c.loop.cells.items (left c.loop.rest) _ c.loop.invariant.told c.split_cell.result.0.now (left c.split_cell.result.1) c.in_ok-read_cell.field-0 c.loop-test.true (ap left c.in-Some.is ∙ c.split_cell.ensures.cells) c.in_ok-read_cell.ensures);
}

pub returns-in-None : goal.returns-in-None
returns-in-None c = row-end c.args.modulus c.loop.at c.args.width c.loop.counter c.loop.cells.items (left c.loop.rest) _ c.loop.invariant.told c.loop-test.false (ap left c.in-None.is)

pub returns-in-Some-rest : goal.returns-in-Some-rest
returns-in-Some-rest c =
    let first = first_cell c.in-Some-rest.field-0.now in
    row-extra c.args.modulus c.loop.at c.args.width c.loop.counter c.loop.cells.items (left c.loop.rest) _ c.loop.invariant.told first.0 first.1 c.loop-test.false (ap left c.in-Some-rest.is ∙ first.2)
