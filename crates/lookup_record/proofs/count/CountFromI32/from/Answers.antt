use Rattle.std.proofs.Common.{◌∙◌}
use Rattle.std.proofs.lemmas.Int.{to_z-of_z}
use Rattle.lookup_record.proofs.count.CountFromI32.from.Goals as goal

pub returns : goal.returns
returns g c = (
  simp (to_z-of_z, c.ranges.count) at c.whole.ensures,
  c.from.ensures ∙ simp (to_z-of_z, c.ranges.count) at c.unsigned_abs.ensures.value,
)
