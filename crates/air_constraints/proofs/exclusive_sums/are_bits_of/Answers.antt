use Rattle.std.proofs.Common.{◌≤◌, ◌+◌, ℕ, inl, length, take, take_all, refl, sym, ap, subst, ◌∙◌, arith}
use Rattle.std.proofs.lemmas.Bool.{eqb-true}
use Rattle.list_laws.proofs.Items.{item_at}
use Rattle.field.specs.laws.RingFacts.{zero_mul}
use Rattle.air_expressions.specs.Meaning.{variable_value}
use Rattle.air_expressions.specs.Window.{Window}
use Rattle.air_constraints.specs.Facts.{AreApart, AreBits, IsBit}
use Rattle.air_constraints.specs.Polynomials.{sum_at, term_at}
use Rattle.air_constraints.proofs.ExclusiveLaws.{IsBitBefore, skipped, sum-next, taken}
use Rattle.air_constraints.proofs.exclusive_sums.are_bits_of.Goals as goal
use Rattle.air_constraints.proofs.exclusive_sums.are_bits_of.Goals.{then-is_next_bit, else-is_next_bit}

pub loop-cell-init : goal.loop-cell-init
loop-cell-init g c = (omega arith, λ w bits apart. (inl refl, λ k d from lt. zero_mul g.F.PrimeCharacteristicRing.lawful _))

pub loop-cell-preserved : goal.loop-cell-preserved
loop-cell-preserved g c =
    let R = g.F.PrimeCharacteristicRing.ring in
    let laws = g.F.PrimeCharacteristicRing.lawful in
    let terms = c.args.terms.now in
    let list = c.args.list.now in
    let i = c.loop-cell.cell-index in
    let n = c.loop-cell.found in
    let P : ℕ → Type 0 = λ m. (m ≤ length terms) × ((w : Window g.row.F.Denot) → AreBits R w c.args.bits.now → AreApart R w list → IsBitBefore laws w list (i + 1) (sum_at R w (take m terms))) in
    elim c.if-is_next_bit.branch [
      | then-is_next_bit w ↦
          let t = w.if-is_next_bit.true in
          let lt = c.is_next_bit.ensures.next t in
          let term = item_at terms n lt in
          subst P (sym w.found-is) (
            omega (arith, lt),
            λ win bits apart.
                let Q : g.row.F.Denot → Type 0 = IsBitBefore laws win list (i + 1) in
                let value = ap (term_at R win) term.1 ∙ c.is_next_bit.ensures.lone t win term.0 in
                subst Q (sym (sum-next laws win terms n term.0 lt term.1 ∙ ap (λ x. R.add x (sum_at R win (take n terms))) value))
                (taken laws win list i _ _ (sum_at R win (take n terms)) c.loop-cell-test.true refl (c.is_next_bit.ensures.bit t win bits) apart (c.loop-cell.invariant.1 win bits apart)),
          )
      | else-is_next_bit w ↦ subst P (sym w.found-is) (c.loop-cell.invariant.0, λ win bits apart. skipped laws win list i (sum_at R win (take n terms)) (c.loop-cell.invariant.1 win bits apart))
    ]

pub returns : goal.returns
returns g c = λ t w bits apart.
    let R = g.F.PrimeCharacteristicRing.ring in
    let terms = c.args.terms.now in
    let P : g.row.F.Denot → Type 0 = IsBit R in
    subst P (ap (sum_at R w) (take_all c.loop-cell.found terms (omega (arith, eqb-true c.loop-cell.found (length terms) t)))) (c.loop-cell.invariant.1 w bits apart).0
