use Rattle.std.proofs.Common.{◌≡◌, ◌∙◌, ◌<◌, ap, arith, inl, inr, slice_get, subst, sym}
use Rattle.std.proofs.lemmas.Bool.{cases_lt}
use Rattle.air.specs.Traces.{traces_of}
use Rattle.check_judge.specs.Excesses.{IsExcess, IsWithin, most_of}
use Rattle.check_judge.proofs.ExcessLaws.{within_past}
use Rattle.check_judge.proofs.excess.first_excess.Goals as goal

pub returns-in-Some : goal.returns-in-Some
returns-in-Some g c =
    let found = c.in-Some.ensures in
    let same = found.2.message_is in
    record {
      bound = found.0;
      said = ap (λ m. most_of (slice_get c.args.said.now m)) same ∙ found.1;
      is = subst (λ m. IsExcess g.F.PrimeCharacteristicRing.CHARACTERISTIC g.F.SignedField.number g.F.PrimeCharacteristicRing.ring g.F.PartialEq.eq (traces_of c.args.traces.now) c.args.lookup.now m found.0 c.in-Some.excess) (sym same) found.2;
      messages_before = λ m below. c.loop-message.invariant m (subst (λ k. m < k) same below);
    }

pub loop-message-preserved : goal.loop-message-preserved
loop-message-preserved g c = λ m below.
    elim (cases_lt m c.loop-message.message) [
      | inl earlier ↦ c.loop-message.invariant m earlier
      | inr late ↦
          let at : c.loop-message.message ≡ m = omega (arith, late, below) in
          subst (IsWithin g.F.PrimeCharacteristicRing.CHARACTERISTIC g.F.SignedField.number g.F.PrimeCharacteristicRing.ring g.F.PartialEq.eq (traces_of c.args.traces.now) c.args.lookup.now c.args.said.now) at c.in_default.ensures
    ]

pub returns : goal.returns
returns g c = λ m.
    elim (cases_lt m c.loop-message.message) [
      | inl earlier ↦ c.loop-message.invariant m earlier
      | inr late ↦ within_past g.F.PrimeCharacteristicRing.CHARACTERISTIC g.F.SignedField.number g.F.PrimeCharacteristicRing.ring g.F.PartialEq.eq (traces_of c.args.traces.now) c.args.lookup.now c.args.said.now m (omega (arith, late, c.loop-message-test.false))
    ]
