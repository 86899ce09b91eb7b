use Rattle.std.proofs.Common.{inl, inr}
use Rattle.std.proofs.lemmas.Result.{err_from_is_err_and}
use Rattle.lookup_indexed.specs.Declaration.{read_of}
use Rattle.lookup_indexed.specs.Faults.{IsFaultlessRead}
use Rattle.list_laws.proofs.Each.{All-more_images}
use Rattle.lookup_indexed.proofs.FaultLaws.{all_at_end, first_declared_fault}
use Rattle.lookup_indexed.proofs.check.check_reads.Goals as goal

pub returns-in_err-check_read : goal.returns-in_err-check_read
returns-in_err-check_read c =
    let p = err_from_is_err_and c.from_residual.result c.from_residual.ensures.1 in
    rw (p.1, p.2) (elim c.in_err-check_read.ensures [
      | inl memory ↦ inl memory
      | inr fault ↦ inr (first_declared_fault read_of (IsFaultlessRead c.args.width) c.args.reads.now c.loop-read.read-index c.read-item.result _ c.loop-read-test.true c.read-item.is c.loop-read.invariant fault)
    ])

pub loop-read-preserved : goal.loop-read-preserved
loop-read-preserved c =
    All-more_images (IsFaultlessRead c.args.width) read_of c.args.reads.now c.loop-read.read-index c.read-item.result c.loop-read-test.true c.read-item.is c.in_ok-check_read.ensures c.loop-read.invariant

pub returns : goal.returns
returns c = all_at_end read_of (IsFaultlessRead c.args.width) c.args.reads.now c.loop-read.read-index c.loop-read-test.false c.loop-read.invariant
