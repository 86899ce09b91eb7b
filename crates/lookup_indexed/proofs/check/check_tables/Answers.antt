use Rattle.std.proofs.Common.{inl, inr}
use Rattle.std.proofs.lemmas.Result.{err_from_is_err_and}
use Rattle.lookup_indexed.specs.Declaration.{declared_table}
use Rattle.lookup_indexed.specs.Faults.{IsFaultlessTable}
use Rattle.list_laws.proofs.Each.{All-more_images}
use Rattle.lookup_indexed.proofs.FaultLaws.{all_at_end, first_declared_fault}
use Rattle.lookup_indexed.proofs.check.check_tables.Goals as goal

pub returns-in_err-check_table : goal.returns-in_err-check_table
returns-in_err-check_table c =
    let p = err_from_is_err_and c.from_residual.result c.from_residual.ensures.1 in
    rw (p.1, p.2) (elim c.in_err-check_table.ensures [
      | inl memory ↦ inl memory
      | inr fault ↦ inr (first_declared_fault declared_table (IsFaultlessTable c.args.layout.now) c.args.tables.now c.loop-table.table-index c.table-item.result _ c.loop-table-test.true c.table-item.is c.loop-table.invariant fault)
    ])

pub loop-table-preserved : goal.loop-table-preserved
loop-table-preserved c =
    All-more_images (IsFaultlessTable c.args.layout.now) declared_table c.args.tables.now c.loop-table.table-index c.table-item.result c.loop-table-test.true c.table-item.is c.in_ok-check_table.ensures c.loop-table.invariant

pub returns : goal.returns
returns c = all_at_end declared_table (IsFaultlessTable c.args.layout.now) c.args.tables.now c.loop-table.table-index c.loop-table-test.false c.loop-table.invariant
