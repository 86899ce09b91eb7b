use Rattle.std.proofs.Common.{◌∙◌, ◌≡◌, subst, sym, take}
use Rattle.std.proofs.lemmas.Bool.{iff_false}
use Rattle.std.proofs.lemmas.List.{take_all}
use Rattle.std.proofs.lemmas.List.Elements.{All-push}
use Rattle.list_laws.proofs.Items.{item_there, take_item}
use Rattle.air_constraints.specs.Checked.{checked_window}
use Rattle.air_constraints.specs.Hold.{Hold, value_at}
use Rattle.air_constraints.proofs.check.first_nonzero.Goals as goal

pub returns-then-not-is_zero : goal.returns-then-not-is_zero
returns-then-not-is_zero g c = record {
  constraint = c.index-constraints-constraint.result;
  is_there = item_there c.args.constraints.now c.loop-constraint.constraint c.index-constraints-constraint.result c.loop-constraint-test.true c.index-constraints-constraint.is;
  fails = λ zero. iff_false c.is_zero.ensures c.if-not-is_zero.true (c.value_of.ensures ∙ zero);
  before = c.loop-constraint.invariant;
}

pub loop-constraint-preserved : goal.loop-constraint-preserved
loop-constraint-preserved g c =
    let R = g.F.PrimeCharacteristicRing.ring in
    let w = checked_window c.args.row.now in
    let constraints = c.args.constraints.now in
    let i = c.loop-constraint.constraint in
    let constraint = c.index-constraints-constraint.result in
    subst (Hold R w) (sym (take_item constraints i constraint c.loop-constraint-test.true c.index-constraints-constraint.is))
    (All-push (λ e. value_at R w e ≡ R.zero) (take i constraints) constraint c.loop-constraint.invariant (sym c.value_of.ensures ∙ c.is_zero.ensures.0 c.if-not-is_zero.false))

pub returns : goal.returns
returns g c =
    subst (Hold g.F.PrimeCharacteristicRing.ring (checked_window c.args.row.now)) (take_all c.loop-constraint.constraint c.args.constraints.now c.loop-constraint-test.false) c.loop-constraint.invariant
