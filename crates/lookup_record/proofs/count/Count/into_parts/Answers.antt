use Rattle.std.proofs.Common.{ap}
use Rattle.lookup_record.specs.SignedCount.{SignedCount}
use Rattle.lookup_record.proofs.count.Count.into_parts.Goals as goal

pub returns : goal.returns
returns g c = ap (λ (s : SignedCount _). (s.expression, s.weight)) c.self.view_is
