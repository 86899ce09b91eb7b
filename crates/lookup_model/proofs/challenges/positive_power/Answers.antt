use Rattle.std.proofs.Common.{◌≡◌, ◌-◌, suc, ap, sym, ◌∙◌, arith}
use Rattle.field.proofs.Exponents.{even_step, no_factor_left, odd_step}
use Rattle.field.specs.Ring.{power}
use Rattle.lookup_model.proofs.challenges.positive_power.Goals.{then-left-eq1, else-left-eq1}
use Rattle.lookup_model.proofs.challenges.positive_power.Goals as goal

pub loop-left-init : goal.loop-left-init
unfolding power
loop-left-init g c =
    let all : suc (c.args.n - 1) ≡ c.args.n = omega (arith, c.requires) in
    ap (power g.EF.PrimeCharacteristicRing.ring c.args.base) all

pub loop-left-preserved : goal.loop-left-preserved
loop-left-preserved g c =
    let lawful = g.EF.PrimeCharacteristicRing.lawful in
    let met = g.met.EF.PrimeCharacteristicRing in
    let square = met.mul_is _ _ _ c.mul-square.ensures in
    elim c.if-left-eq1.branch [
      | then-left-eq1 w ↦ odd_step lawful _ _ _ _ _ _ w.if-left-eq1.true (w.product-is ∙ met.mul_is _ _ _ w.mul-product.ensures) square c.loop-left.invariant
      | else-left-eq1 w ↦ even_step lawful _ _ _ _ _ _ (omega arith) w.product-is square c.loop-left.invariant
    ]

pub returns-then-left-eq1-2 : goal.returns-then-left-eq1-2
unfolding power
returns-then-left-eq1-2 g c =
    let S = g.EF.PrimeCharacteristicRing.ring in
    let p = c.loop-left.product in
    let b = c.loop-left.square in
    let one_left : 1 ≡ c.loop-left.left = sym c.if-left-eq1-2.true in
    g.met.EF.PrimeCharacteristicRing.mul_is _ _ _ c.mul.ensures
    ∙ ap (S.mul p) (sym (g.EF.PrimeCharacteristicRing.lawful.mul_one b))
    ∙ ap (λ n. S.mul p (power S b n)) one_left
    ∙ c.loop-left.invariant

pub returns-else-left-eq1-2 : goal.returns-else-left-eq1-2
returns-else-left-eq1-2 g c =
    no_factor_left g.EF.PrimeCharacteristicRing.lawful _ _ _ _ (omega arith) c.loop-left.invariant
