use Rattle.air_constraints.proofs.learn.facts_of.Goals as goal

pub loop-round-init : goal.loop-round-init
loop-round-init g c = λ w kind hold.
    let so = c.nothing-facts.ensures w in
    record { bits = so.bits; exclusive = so.exclusive; zero_products = so.zero_products; given = so.given; zeros = c.in_ok-zeros.ensures w kind so hold }
