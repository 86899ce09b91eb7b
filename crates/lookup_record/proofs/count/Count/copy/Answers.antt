use Rattle.std.proofs.Common.{refl}
use Rattle.lookup_record.proofs.count.Count.copy.Goals as goal

pub returns-clause-means : goal.returns-clause-means
returns-clause-means g c = rw (← c.self.view_is) c.in_ok-expression.ensures.means

pub returns-clause-degree : goal.returns-clause-degree
returns-clause-degree g c = rw (← c.self.view_is) c.in_ok-expression.ensures.degree

pub returns-clause-same : goal.returns-clause-same
returns-clause-same g c = rw (← c.self.view_is) c.in_ok-expression.ensures.same

pub returns-clause-weight : goal.returns-clause-weight
returns-clause-weight g c = rw (← c.self.view_is) refl

pub returns-clause-within : goal.returns-clause-within
returns-clause-within g c = rw (← c.self.view_is) c.in_ok-expression.ensures.within
