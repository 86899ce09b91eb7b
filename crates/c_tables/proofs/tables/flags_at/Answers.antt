use Rattle.std.proofs.Common.{inl, inr}
use Rattle.std.proofs.lemmas.Result.{err_from_is_err_and}
use Rattle.c_tables.proofs.TableLaws.{no_flags_at}
use Rattle.c_tables.proofs.tables.flags_at.Goals as goal

pub returns-in_err-expressions_at-in-1 : goal.returns-in_err-expressions_at-in-1
returns-in_err-expressions_at-in-1 g c =
    let p = err_from_is_err_and c.from_residual.result c.from_residual.ensures.1 in
    rw (p.1, p.2) (elim c.in_err-expressions_at-in-1.ensures [
      | inl memory ↦ inl memory
      | inr (none, fault) ↦ inr (no_flags_at g.row.P c.args.nodes.now c.args.record.now c.in-1.is none, inr (c.in-1.is, fault))
    ])
