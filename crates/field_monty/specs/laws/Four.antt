-- When fours are equal, and that their ring is lawful.
use Rattle.std.specs.Prelude.{◌≡◌}
use Rattle.std.proofs.Common.{ap}
use Rattle.field.specs.Ring.{Ring, IsCommutativeRing}
use Rattle.field_monty.specs.internal.Four.{Four, coefficients_ring, element_of, four_of, four_ring}

-- Fours of the same elements are the same.
pub four_same : {A : Type 0} (a b : Four A) → a.first ≡ b.first → a.second ≡ b.second → a.third ≡ b.third → a.fourth ≡ b.fourth → a ≡ b
four_same a b e f g h = λ i. record { first = e i; second = f i; third = g i; fourth = h i }

-- The ring of four elements side by side is commutative.
pub four_lawful : {A : Type 0} {R : Ring A} → IsCommutativeRing R → IsCommutativeRing (four_ring R)
four_lawful laws = record {
  add_assoc = λ a b c. four_same _ _ (laws.add_assoc a.first b.first c.first) (laws.add_assoc a.second b.second c.second) (laws.add_assoc a.third b.third c.third) (laws.add_assoc a.fourth b.fourth c.fourth);
  add_comm = λ a b. four_same _ _ (laws.add_comm a.first b.first) (laws.add_comm a.second b.second) (laws.add_comm a.third b.third) (laws.add_comm a.fourth b.fourth);
  add_zero = λ a. four_same _ _ (laws.add_zero a.first) (laws.add_zero a.second) (laws.add_zero a.third) (laws.add_zero a.fourth);
  add_neg = λ a. four_same _ _ (laws.add_neg a.first) (laws.add_neg a.second) (laws.add_neg a.third) (laws.add_neg a.fourth);
  mul_assoc = λ a b c. four_same _ _ (laws.mul_assoc a.first b.first c.first) (laws.mul_assoc a.second b.second c.second) (laws.mul_assoc a.third b.third c.third) (laws.mul_assoc a.fourth b.fourth c.fourth);
  mul_comm = λ a b. four_same _ _ (laws.mul_comm a.first b.first) (laws.mul_comm a.second b.second) (laws.mul_comm a.third b.third) (laws.mul_comm a.fourth b.fourth);
  mul_one = λ a. four_same _ _ (laws.mul_one a.first) (laws.mul_one a.second) (laws.mul_one a.third) (laws.mul_one a.fourth);
  mul_add = λ a b c. four_same _ _ (laws.mul_add a.first b.first c.first) (laws.mul_add a.second b.second c.second) (laws.mul_add a.third b.third c.third) (laws.mul_add a.fourth b.fourth c.fourth);
}

-- So it is where they are kept as the coefficients of a polynomial.
pub coefficients_lawful : {A : Type 0} {R : Ring A} → IsCommutativeRing R → IsCommutativeRing (coefficients_ring R)
coefficients_lawful laws =
    let four = four_lawful laws in
    record {
      add_assoc = λ a b c. ap element_of (four.add_assoc (four_of a) (four_of b) (four_of c));
      add_comm = λ a b. ap element_of (four.add_comm (four_of a) (four_of b));
      add_zero = λ a. ap element_of (four.add_zero (four_of a));
      add_neg = λ a. ap element_of (four.add_neg (four_of a));
      mul_assoc = λ a b c. ap element_of (four.mul_assoc (four_of a) (four_of b) (four_of c));
      mul_comm = λ a b. ap element_of (four.mul_comm (four_of a) (four_of b));
      mul_one = λ a. ap element_of (four.mul_one (four_of a));
      mul_add = λ a b c. ap element_of (four.mul_add (four_of a) (four_of b) (four_of c));
    }
