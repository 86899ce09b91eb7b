use Rattle.std.proofs.Common.{◌≡◌, ◌<◌, ◌≤◌, ◌+◌, ◌==◌, not, List, ℕ, Ok, arith, length, subst}
use Rattle.std.proofs.lemmas.Bool.Decides.{nat_tests}
use Rattle.std.proofs.lemmas.List.{length-drop}
use Rattle.std.proofs.lemmas.Result.{err_from_is_err_and}
use Rattle.language.specs.Faults.{IsTextFaultOrMemory}
use Rattle.language.specs.Tables.{cells_of_line, row_at}
use Rattle.language.specs.internal.Tables.{with_numbers}
use Rattle.language.proofs.TableLaws.{rows-end, rows-fault, rows-more}
use Rattle.language.proofs.TokenLaws.{length-take_while}
use Rattle.language.proofs.table.read_rows.Goals as goal

pub returns-in_err-push_row : goal.returns-in_err-push_row
returns-in_err-push_row c =
    let p = err_from_is_err_and c.from_residual.result c.from_residual.ensures.1 in
    let some : 0 < length c.loop-rest.rest.now = let test = c.loop-rest-test.ensures in grind (arith, nat_tests) in
    let fails = subst (λ (line : List ℕ). IsTextFaultOrMemory c.in_err-push_row.field-0.0 (with_numbers c.loop-rest.cells.items (row_at c.args.modulus c.loop-rest.at c.args.width (cells_of_line line)))) c.without_return.ensures c.in_err-push_row.ensures in
    rw (p.1, p.2)
    (rows-fault c.args.modulus c.args.width c.loop-rest.at c.line_length-len.result c.loop-rest.cells.items c.loop-rest.rest.now _ some c.line_length-len.ensures c.loop-rest.invariant.told c.in_err-push_row.field-0.0 fails)

pub loop-rest-preserved : goal.loop-rest-preserved
loop-rest-preserved c =
    let some : 0 < length c.loop-rest.rest.now = let test = c.loop-rest-test.ensures in grind (arith, nat_tests) in
    let row = subst (λ (line : List ℕ). with_numbers c.loop-rest.cells.items (row_at c.args.modulus c.loop-rest.at c.args.width (cells_of_line line)) ≡ Ok c.push_row.new.cells.items) c.without_return.ensures c.in_ok-push_row.ensures in
    let most : c.line_length-len.result ≤ length c.loop-rest.rest.now = omega (arith, c.line_length-len.ensures, length-take_while (λ b. not (b == 10)) c.loop-rest.rest.now) in
    let rest = length-drop (c.line_length-len.result + 1) c.loop-rest.rest.now in
    let place = c.loop-rest.invariant.place some in
    rw c.after-rest.ensures
    (record {
      place = λ more. omega arith;
      end = omega arith;
      told = rows-more c.args.modulus c.args.width c.loop-rest.at c.line_length-len.result c.loop-rest.cells.items c.loop-rest.rest.now _ some c.line_length-len.ensures c.loop-rest.invariant.told c.push_row.new.cells.items row;
    })

pub returns : goal.returns
returns c =
    let none : length c.loop-rest.rest.now ≡ 0 = let test = c.loop-rest-test.ensures in grind (arith, nat_tests) in
    rows-end c.args.modulus c.args.width c.loop-rest.at c.loop-rest.cells.items c.loop-rest.rest.now _ none c.loop-rest.invariant.told
