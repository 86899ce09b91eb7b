use Rattle.std.proofs.Common.{refl}
use Rattle.lookup_record.proofs.interaction.SymbolicInteraction.copy.Goals as goal

pub returns : goal.returns
returns g c =
    rw (c.in_ok-from_str.ensures.ok, c.as_str.ensures.value, c.in_ok-copy_expressions.ensures, c.as_slice.ensures.value, c.in_ok-copy.ensures) refl
