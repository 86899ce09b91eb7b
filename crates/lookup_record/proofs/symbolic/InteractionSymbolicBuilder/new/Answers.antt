use Rattle.std.proofs.Common.{refl}
use Rattle.lookup_record.proofs.symbolic.InteractionSymbolicBuilder.new.Goals as goal

pub returns-clause-new : goal.returns-clause-new
returns-clause-new g c =
    rw (c.in_ok-new.ensures.new, c.new-2.ensures.items, c.new-3.ensures.items, c.new-4.ensures.items, c.new-5.ensures.items, c.new-6.ensures.items) refl
