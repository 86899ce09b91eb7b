use Rattle.std.proofs.Common.{sym}
use Rattle.field_monty.proofs.monty_field.MontyField31Serialize.serialize.Goals as goal

pub returns : goal.returns
returns g c = rw (sym c.as_canonical_u32.ensures.value) c.serialize.ensures
