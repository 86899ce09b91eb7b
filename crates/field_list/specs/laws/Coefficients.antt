-- The fields that are offered have coefficients.
use Rattle.std.specs.Prelude.{◌≡◌, ℕ, List, [], ◌∷◌, length, refl}
use Rattle.std.proofs.Common.{arith, ap}
use Rattle.field_monty.specs.Quartic.{Quartic, coefficients_of}
use Rattle.field_goldilocks.specs.Quadratic.{Quadratic, coefficients_of as quadratic_coefficients_of}
use Rattle.field_list.specs.Coefficients.{HasCoefficients}

each_one : {F : Type 0} → (some : List F) → length some ≡ 1 → (x : F) × ((x ∷ []) ≡ some)
each_one [] long = absurd (omega (arith, long))
each_one (a ∷ []) long = (a, refl)
each_one (a ∷ b ∷ rest) long = absurd (omega (arith, long))

pub has_one : {F : Type 0} → HasCoefficients {F = F} {K = F} (λ x. x ∷ []) 1
has_one = record { count = λ x. refl; one = λ x y same. cc same; each = each_one }

each_two : {F : Type 0} → (some : List F) → length some ≡ 2 → (x : Quadratic F) × (quadratic_coefficients_of x ≡ some)
each_two [] long = absurd (omega (arith, long))
each_two (a ∷ []) long = absurd (omega (arith, long))
each_two (a ∷ b ∷ []) long = (record { c0 = a; c1 = b }, refl)
each_two (a ∷ b ∷ c ∷ rest) long = absurd (omega (arith, long))

abbrev two_of : {F : Type 0} → Quadratic F → List F → Quadratic F
two_of x (a ∷ b ∷ []) = record { c0 = a; c1 = b }
two_of x _ = x

one_two : {F : Type 0} (x y : Quadratic F) → quadratic_coefficients_of x ≡ quadratic_coefficients_of y → x ≡ y
one_two x y same = ap (two_of x) same

pub has_two : {F : Type 0} → HasCoefficients {F = F} {K = Quadratic F} quadratic_coefficients_of 2
has_two = record { count = λ x. refl; one = one_two; each = each_two }

each_four : {F : Type 0} → (some : List F) → length some ≡ 4 → (x : Quartic F) × (coefficients_of x ≡ some)
each_four [] long = absurd (omega (arith, long))
each_four (a ∷ []) long = absurd (omega (arith, long))
each_four (a ∷ b ∷ []) long = absurd (omega (arith, long))
each_four (a ∷ b ∷ c ∷ []) long = absurd (omega (arith, long))
each_four (a ∷ b ∷ c ∷ d ∷ []) long = (record { c0 = a; c1 = b; c2 = c; c3 = d }, refl)
each_four (a ∷ b ∷ c ∷ d ∷ e ∷ rest) long = absurd (omega (arith, long))

abbrev four_of : {F : Type 0} → Quartic F → List F → Quartic F
four_of x (a ∷ b ∷ c ∷ d ∷ []) = record { c0 = a; c1 = b; c2 = c; c3 = d }
four_of x _ = x

one_four : {F : Type 0} (x y : Quartic F) → coefficients_of x ≡ coefficients_of y → x ≡ y
one_four x y same = ap (four_of x) same

pub has_four : {F : Type 0} → HasCoefficients {F = F} {K = Quartic F} coefficients_of 4
has_four = record { count = λ x. refl; one = one_four; each = each_four }
