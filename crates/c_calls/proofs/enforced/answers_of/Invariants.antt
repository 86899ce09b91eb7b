use Rattle.std.proofs.Common.{take}
use Rattle.std.specs.List.{AllZip, zip}
use Rattle.c_calls.specs.Enforced.{IsAnswerOf}
use Rattle.c_calls.proofs.enforced.answers_of.Given as goal

abbrev pub invariant-loop-index : goal.invariant-loop-index
invariant-loop-index g l =
    AllZip (IsAnswerOf g.F.PrimeCharacteristicRing.ring g.F.PartialEq.eq l.queries) (take l.index (zip l.records (zip l.lookups l.shown))) l.answers.items
