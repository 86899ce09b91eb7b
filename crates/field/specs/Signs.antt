-- The sign of an element.
use Rattle.std.specs.Prelude.{◌*◌, ℕ, Bool, nat_lt}

-- Whether an element is negative: of the whole numbers below the characteristic it is one past half
-- of the characteristic.
abbrev pub is_negative : {F : Type 0} → ℕ → (F → ℕ) → F → Bool
is_negative characteristic number a = nat_lt characteristic (2 * number a)
