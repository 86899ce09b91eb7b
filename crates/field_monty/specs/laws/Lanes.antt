-- The ring of four integers modulo p is lawful, and their lanes can be told from them.
use Rattle.std.specs.Prelude.{◌≡◌, ◌<◌, ℕ, List, [], ◌∷◌}
use Rattle.std.proofs.Common.{arith}
use Rattle.field_monty.specs.Montgomery.{IsMontgomery}
use Rattle.field.specs.Ring.{IsCommutativeRing}
use Rattle.field_monty.specs.internal.Lanes.{AreStored, from_lanes, lanes_ring, stored_lanes}
use Rattle.field_monty.specs.laws.Four.{four_lawful}
use Rattle.field_monty.specs.laws.Montgomery.{stored_again}
use Rattle.field.specs.laws.ResidueRing.{residue_ring_lawful}

-- The laws of the ring of four integers modulo p side by side.
pub lanes_lawful : (p : ℕ) (positive : 0 < p) → IsCommutativeRing (lanes_ring p positive)
lanes_lawful p positive = four_lawful (residue_ring_lawful p positive)

module _ {p modulus_inverse radix_squared one i : ℕ} (positive : 0 < p) (facts : IsMontgomery p modulus_inverse radix_squared one i) where
  -- Going from stored lanes to their elements and back gives the same lanes.
  pub lanes_again : (xs : List ℕ) → AreStored p xs → stored_lanes p (from_lanes p i positive xs) ≡ xs
  lanes_again (a ∷ b ∷ c ∷ d ∷ []) h =
      let p = h.below in
      let again = stored_again positive facts in
      λ j. again a p.0 j ∷ again b p.1.0 j ∷ again c p.1.1.0 j ∷ again d p.1.1.1.0 j ∷ []
  lanes_again [] h = absurd (omega (arith, h.long))
  lanes_again (a ∷ []) h = absurd (omega (arith, h.long))
  lanes_again (a ∷ b ∷ []) h = absurd (omega (arith, h.long))
  lanes_again (a ∷ b ∷ c ∷ []) h = absurd (omega (arith, h.long))
  lanes_again (a ∷ b ∷ c ∷ d ∷ e ∷ xs) h = absurd (omega (arith, h.long))
