use Rattle.std.proofs.Common.{refl}
use Rattle.lookup_record.proofs.interaction.SymbolicExclusiveBranch.copy.Goals as goal

pub returns : goal.returns
returns g c =
    rw (c.in_ok-copy.ensures, c.in_ok-copy-2.ensures, c.in_ok-copy_expressions.ensures, c.as_slice.ensures.value) refl
