use Rattle.std.proofs.Common.{refl}
use Rattle.lookup_record.proofs.count.CountNeg.neg.Goals as goal

pub returns : goal.returns
returns g c = rw (← c.self.view_is) (c.neg.ensures, refl)
