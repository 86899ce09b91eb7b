use Rattle.std.proofs.Common.{[], ◌∷◌, arith, length-append, refl}
use Rattle.air.proofs.recording.builder.SymbolicAirBuilderAirBuilder.assert_zero.Goals as goal

pub invariant_of-self : goal.invariant_of-self
invariant_of-self g c = record { counted = rw c.in_err-append.ensures.refused.0 c.args.self.now.counted }

pub invariant_of-self-2 : goal.invariant_of-self-2
invariant_of-self-2 g c = record {
  counted = rw c.in_ok-append.ensures.appended.0 (omega (arith, length-append c.args.self.now.base_constraints.items (c.args.x ∷ []), c.in-Some.ensures, c.args.self.now.counted));
}

pub returns : goal.returns
returns g c =
    rw (c.in_ok-append.ensures.appended.0, c.in_ok-append.ensures.appended.1, c.args.self.now.counted) refl

pub returns-in_default : goal.returns-in_default
returns-in_default g c = (refl, refl)
