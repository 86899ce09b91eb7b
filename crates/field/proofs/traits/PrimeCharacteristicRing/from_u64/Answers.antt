use Rattle.std.proofs.Common.{◌+◌, ◌*◌, ◌/◌, ◌%◌, ◌≡◌, ℕ, ap, arith, sym, ◌∙◌}
use Rattle.field.specs.Ring.{of_nat}
use Rattle.field.specs.laws.RingFacts.{of_nat-add, of_nat-mul}
use Rattle.field.proofs.traits.PrimeCharacteristicRing.from_u64.Goals as goal

pub returns : goal.returns
returns g c =
    let R = g.Self.PrimeCharacteristicRing.ring in
    let laws = g.Self.PrimeCharacteristicRing.lawful in
    let met = g.met.Self.PrimeCharacteristicRing in
    let n : ℕ = c.args.n in
    let whole : n / 4294967296 * (65536 * 65536) + n % 4294967296 ≡ n = omega arith in
    let square = met.mul_is _ _ _ c.mul.ensures ∙ (λ i. R.mul (c.from_u32-half.ensures i) (c.from_u32-half.ensures i)) ∙ sym (of_nat-mul laws 65536 65536) in
    let high = met.mul_is _ _ _ c.mul-2.ensures ∙ (λ i. R.mul (c.from_u32-high.ensures i) (square i)) ∙ sym (of_nat-mul laws (n / 4294967296) (65536 * 65536)) in
    met.add_is _ _ _ c.add.ensures ∙ (λ i. R.add (high i) (c.from_u32-low.ensures i)) ∙ sym (of_nat-add laws (n / 4294967296 * (65536 * 65536)) (n % 4294967296)) ∙ ap (of_nat R) whole
