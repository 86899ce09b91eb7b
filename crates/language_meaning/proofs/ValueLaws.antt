-- How many nodes and layers values have.
use Rattle.std.proofs.Common.{◌≡◌, ◌+◌, ◌*◌, ◌<◌, ℕ, zero, suc, arith}
use Rattle.language_meaning.specs.Values.{Meant, main, preprocessed, public, first_row, last_row, transition, number, negative, sum, difference, product, layers_of, powers, node_count_of}

-- each value has a node
pub size_of_positive : (m : Meant) → 0 < node_count_of m
size_of_positive (main offset column) = omega arith
size_of_positive (preprocessed offset column) = omega arith
size_of_positive (public index) = omega arith
size_of_positive first_row = omega arith
size_of_positive last_row = omega arith
size_of_positive transition = omega arith
size_of_positive (number n) = omega arith
size_of_positive (negative m) = omega arith
size_of_positive (sum m n) = omega arith
size_of_positive (difference m n) = omega arith
size_of_positive (product m n) = omega arith

-- a power has the nodes of each factor, and one for each product
pub size_of_powers : (k : ℕ) (m : Meant) → node_count_of (powers k m) ≡ k * node_count_of m + k + node_count_of m
size_of_powers zero m = grind arith
size_of_powers (suc k) m = grind (arith, size_of_powers k m)

-- each value has a layer
pub layers_of_positive : (m : Meant) → 0 < layers_of m
layers_of_positive (main offset column) = omega arith
layers_of_positive (preprocessed offset column) = omega arith
layers_of_positive (public index) = omega arith
layers_of_positive first_row = omega arith
layers_of_positive last_row = omega arith
layers_of_positive transition = omega arith
layers_of_positive (number n) = omega arith
layers_of_positive (negative m) = omega arith
layers_of_positive (sum m n) = omega arith
layers_of_positive (difference m n) = omega arith
layers_of_positive (product m n) = omega arith
