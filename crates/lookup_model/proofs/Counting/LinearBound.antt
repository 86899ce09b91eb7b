-- The linear bound of bad betas, W * (k - 1), from the one by pairs, W * k * (k - 1) / 2.
use Rattle.std.proofs.Common.{◌≡◌, ℕ, ◌+◌, ◌-◌, ◌*◌, ◌/◌, ◌<◌, sym, ap, ◌∙◌, arith, mul-div_cancel, mul_assoc, mul_comm}
use Rattle.lookup_model.proofs.Counting.SharingBetas.{half_product, number_of_pairs, pairs_product}

-- an even number of keys has half as many pairs with each other key
pairs_of_even : (k j q : ℕ) → k ≡ 2 * j → k + 2 * q ≡ k * k → q ≡ (k - 1) * j
pairs_of_even k j q even e =
    let twice : 2 * j * (k - 1) ≡ q * 2 = ap (λ (n : ℕ). n * (k - 1)) (sym even) ∙ pairs_product k q e in
    omega (arith, mul_assoc 2 j (k - 1), twice, mul_comm j (k - 1))

-- an odd one has each key with half of the others
pairs_of_odd : (k j q : ℕ) → k ≡ 2 * j + 1 → k + 2 * q ≡ k * k → q ≡ j * k
pairs_of_odd k j q odd e =
    let others : k - 1 ≡ 2 * j = omega (arith, odd) in
    let twice : k * (2 * j) ≡ q * 2 = ap (λ (n : ℕ). k * n) (sym others) ∙ pairs_product k q e in
    omega (arith, twice, mul_comm k (2 * j), mul_assoc 2 j k)

-- of an even number of keys: by half of them
pub linear_of_even : (W k j b : ℕ) → k ≡ 2 * j → 0 < j → b ≡ W * k * (k - 1) / 2 → b / j ≡ W * (k - 1)
linear_of_even W k j b even some is =
    let (q, e) = number_of_pairs k in
    let product : b ≡ W * (k - 1) * j =
    is ∙ half_product W k q e ∙ ap (λ (n : ℕ). W * n) (pairs_of_even k j q even e) ∙ sym (mul_assoc W (k - 1) j) in
    ap (λ (n : ℕ). n / j) product ∙ mul-div_cancel (W * (k - 1)) some

-- of an odd one: by all of them, and twice
pub linear_of_odd : (W k j b : ℕ) → k ≡ 2 * j + 1 → b ≡ W * k * (k - 1) / 2 → b / k * 2 ≡ W * (k - 1)
linear_of_odd W k j b odd is =
    let (q, e) = number_of_pairs k in
    let product : b ≡ W * j * k =
    is ∙ half_product W k q e ∙ ap (λ (n : ℕ). W * n) (pairs_of_odd k j q odd e) ∙ sym (mul_assoc W j k) in
    let quotient : b / k ≡ W * j = ap (λ (n : ℕ). n / k) product ∙ mul-div_cancel (W * j) (omega (arith, odd)) in
    let others : k - 1 ≡ j * 2 = omega (arith, odd) in
    ap (λ (n : ℕ). n * 2) quotient ∙ mul_assoc W j 2 ∙ ap (λ (n : ℕ). W * n) (sym others)
