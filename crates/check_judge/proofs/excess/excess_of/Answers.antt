use Rattle.std.proofs.Common.{◌≡◌, arith, inl, inr, refl, subst}
use Rattle.std.proofs.lemmas.Bool.{cases_lt}
use Rattle.air.specs.Traces.{traces_of, window_of}
use Rattle.check_judge.specs.Excesses.{CountsMore}
use Rattle.check_judge.proofs.excess.excess_of.Goals as goal

pub returns-in-Some : goal.returns-in-Some
returns-in-Some g c = record {
  message_is = refl;
  row_exists = omega (arith, c.loop-row-test.true, c.height-row-end.ensures.height);
  more = c.in-Some.ensures;
  rows_before = c.loop-row.invariant;
}

pub loop-row-preserved : goal.loop-row-preserved
loop-row-preserved g c = λ r count below.
    elim (cases_lt r c.loop-row.row) [
      | inl earlier ↦ c.loop-row.invariant r count earlier
      | inr late ↦
          let at : c.loop-row.row ≡ r = omega (arith, late, below) in
          subst (λ n. ¬ CountsMore g.F.PrimeCharacteristicRing.CHARACTERISTIC g.F.SignedField.number g.F.PrimeCharacteristicRing.ring g.F.PartialEq.eq (window_of (traces_of c.args.traces.now) n) c.args.lookup.now c.args.message c.args.most count) at
          (c.in_default.ensures count)
    ]

pub returns : goal.returns
returns g c = λ r count below. c.loop-row.invariant r count (omega (arith, below, c.loop-row-test.false, c.height-row-end.ensures.height))
