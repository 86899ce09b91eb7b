use Rattle.std.proofs.Common.{refl}
use Rattle.std.proofs.lemmas.Result.{err_from_is_err_and}
use Rattle.air.proofs.recording.builder.SymbolicAirBuilder.new.Goals as goal

pub invariant_of-result : goal.invariant_of-result
invariant_of-result g c = record { counted = rw (c.new-2.ensures.items, c.new-3.ensures.items) refl }

pub returns-clause-new : goal.returns-clause-new
returns-clause-new g c =
    rw (c.in_ok-new.ensures, c.new-2.ensures.items, c.new-3.ensures.items, c.new-4.ensures.items, c.new-5.ensures.items) refl

pub returns-in_err-new-clause-refused : goal.returns-in_err-new-clause-refused
returns-in_err-new-clause-refused g c =
    let p = err_from_is_err_and c.from_residual.result c.from_residual.ensures.1 in
    rw p.1 p.2
