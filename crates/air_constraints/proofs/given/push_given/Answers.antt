use Rattle.air_constraints.proofs.given.push_given.Goals as goal

pub returns : goal.returns
returns g c = λ w so is_zero known.
    c.in_ok-push_given_with-4.ensures w so is_zero (c.in_ok-push_given_with-3.ensures w so is_zero (c.in_ok-push_given_with-2.ensures w so is_zero (c.in_ok-push_given_with.ensures w so is_zero known)))
