use Rattle.std.proofs.Common.{◌≡◌, slice_index, eq-eqb, sym, ap, ◌∙◌, arith}
use Rattle.std.proofs.lemmas.Bool.{eqb-true}
use Rattle.field_monty.proofs.LaneProducts.{lane_below}
use Rattle.field_monty.proofs.LaneSums.{zero_lanes}
use Rattle.field_monty.proofs.StoredTests.{zero_alone}
use Rattle.field_monty.proofs.lanes.Lanes.are_zero.Goals as goal

pub returns-then-first-ne0 : goal.returns-then-first-ne0
returns-then-first-ne0 g c =
    (λ t. cc, λ e. absurd (c.if-first-ne0.true (zero_alone g.K.MontyParameters.positive g.K.MontyParameters.right _ (lane_below g.row.P c.self.inside.stored 0 (omega arith) c.self.invariant) (ap (λ a. a.first) (c.self.view_is ∙ e)))))

pub returns-then-second-ne0 : goal.returns-then-second-ne0
returns-then-second-ne0 g c =
    (λ t. cc, λ e. absurd (c.if-second-ne0.true (zero_alone g.K.MontyParameters.positive g.K.MontyParameters.right _ (lane_below g.row.P c.self.inside.stored 1 (omega arith) c.self.invariant) (ap (λ a. a.second) (c.self.view_is ∙ e)))))

pub returns-then-third-ne0 : goal.returns-then-third-ne0
returns-then-third-ne0 g c =
    (λ t. cc, λ e. absurd (c.if-third-ne0.true (zero_alone g.K.MontyParameters.positive g.K.MontyParameters.right _ (lane_below g.row.P c.self.inside.stored 2 (omega arith) c.self.invariant) (ap (λ a. a.third) (c.self.view_is ∙ e)))))

pub returns : goal.returns
returns g c =
    let xs = c.self.inside.stored in
    let first : slice_index xs 0 ≡ 0 = omega arith in
    let second : slice_index xs 1 ≡ 0 = omega arith in
    let third : slice_index xs 2 ≡ 0 = omega arith in (
      λ t. sym c.self.view_is ∙ zero_lanes g.K.MontyParameters.positive g.K.MontyParameters.right xs first second third (eqb-true (slice_index xs 3) 0 t),
      λ e. eq-eqb (slice_index xs 3) 0 (zero_alone g.K.MontyParameters.positive g.K.MontyParameters.right _ (lane_below g.row.P xs 3 (omega arith) c.self.invariant) (ap (λ a. a.fourth) (c.self.view_is ∙ e))),
    )
