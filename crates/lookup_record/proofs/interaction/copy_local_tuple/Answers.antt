use Rattle.std.proofs.Common.{refl}
use Rattle.lookup_record.proofs.interaction.copy_local_tuple.Goals as goal

pub returns : goal.returns
returns g c =
    rw (c.in_ok-fields.ensures, c.as_slice.ensures.value, c.in_ok-count.ensures.tree, c.in_ok-count.ensures.weight) refl
