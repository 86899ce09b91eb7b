use Rattle.std.proofs.Common.{◌≡◌, arith, inl, inr, subst}
use Rattle.std.proofs.lemmas.Bool.{cases_lt}
use Rattle.air.specs.Traces.{traces_of, window_of}
use Rattle.air_expressions.specs.Window.{Window}
use Rattle.air_constraints.specs.Checked.{FailsFirst}
use Rattle.air_constraints.specs.Hold.{Hold}
use Rattle.air_constraints.proofs.check.check_constraints.Goals as goal

pub returns-in-Some : goal.returns-in-Some
returns-in-Some g c = record {
  row_exists = omega (arith, c.loop-row-test.true, c.height-num_rows.ensures.height);
  fails = subst (λ (w : Window _). FailsFirst g.F.PrimeCharacteristicRing.ring w c.args.constraints.now c.in-Some.constraint) c.new-checked.ensures c.in-Some.ensures;
  before = c.loop-row.invariant;
}

pub loop-row-preserved : goal.loop-row-preserved
loop-row-preserved g c = λ r below.
    let R = g.F.PrimeCharacteristicRing.ring in
    let row = c.loop-row.row in
    let constraints = c.args.constraints.now in
    elim (cases_lt r row) [
      | inl earlier ↦ c.loop-row.invariant r earlier
      | inr late ↦
          let at : row ≡ r = omega (arith, late, below) in
          subst (λ n. Hold R (window_of (traces_of c.args.traces.now) n) constraints) at
          (subst (λ (w : Window _). Hold R w constraints) c.new-checked.ensures c.in_default.ensures)
    ]

pub returns : goal.returns
returns g c = λ r below.
    c.loop-row.invariant r (omega (arith, below, c.loop-row-test.false, c.height-num_rows.ensures.height))
