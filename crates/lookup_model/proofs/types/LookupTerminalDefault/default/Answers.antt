use Rattle.std.proofs.Common.{◌∙◌}
use Rattle.lookup_model.proofs.types.LookupTerminalDefault.default.Goals as goal

pub returns : goal.returns
returns g c = c.ZERO.ensures ∙ g.met.F.PrimeCharacteristicRing.zero_is
