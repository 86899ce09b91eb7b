use Rattle.std.proofs.Common.{refl, inl, inr}
use Rattle.std.proofs.lemmas.Result.{err_from_is_err_and}
use Rattle.c_tables.proofs.TableLaws.{first_bad_tuple, none_zipped}
use Rattle.list_laws.proofs.Zips.{AllZip-more}
use Rattle.c_tables.specs.Tables.{AreTableExpressions}
use Rattle.c_tables.proofs.tables.tuples_at.Goals as goal

pub loop-span-preserved : goal.loop-span-preserved
loop-span-preserved g c =
    AllZip-more (λ span tuple. AreTableExpressions c.args.nodes.now span tuple.items) c.args.spans.now c.loop-span.tuples.items _ c.loop-span.span-index _ _ c.in_ok-expressions_at.field-0 c.loop-span-test.true refl c.in_ok-push.ensures.items c.in_ok-expressions_at.ensures c.loop-span.invariant

pub returns-in_err-expressions_at : goal.returns-in_err-expressions_at
returns-in_err-expressions_at g c =
    let p = err_from_is_err_and c.from_residual.result c.from_residual.ensures.1 in
    rw (p.1, p.2) (elim c.in_err-expressions_at.ensures [
      | inl memory ↦ inl memory
      | inr (none, fault) ↦ inr (
        none_zipped (λ span tuple. AreTableExpressions c.args.nodes.now span tuple.items) c.args.spans.now c.loop-span.span-index _ c.loop-span-test.true (λ tuple w. none tuple.items w),
        c.loop-span.span-index,
        first_bad_tuple g.row.P c.args.nodes.now c.args.spans.now c.loop-span.span-index _ c.loop-span.tuples.items _ c.loop-span-test.true c.loop-span.invariant none fault,
      )
    ])
