use Rattle.language.proofs.formula.+grammar.Given as goal

abbrev pub decreases-more_product : goal.decreases-more_product
decreases-more_product l = l.layers

abbrev pub decreases-more_sum : goal.decreases-more_sum
decreases-more_sum l = l.layers

abbrev pub decreases-read_atom : goal.decreases-read_atom
decreases-read_atom l = l.layers

abbrev pub decreases-read_factor : goal.decreases-read_factor
decreases-read_factor l = l.layers

abbrev pub decreases-read_product : goal.decreases-read_product
decreases-read_product l = l.layers

abbrev pub decreases-read_sum : goal.decreases-read_sum
decreases-read_sum l = l.layers
