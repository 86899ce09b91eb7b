use Rattle.std.proofs.Common.{refl}
use Rattle.air_expressions.proofs.layout.AirLayout.from_air.Goals as goal

pub returns : goal.returns
returns g c = rw (c.width.ensures, c.preprocessed_width.ensures, c.num_public_values.ensures) refl
