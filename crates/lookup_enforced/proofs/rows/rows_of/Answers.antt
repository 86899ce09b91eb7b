use Rattle.std.proofs.Common.{List, sym, subst}
use Rattle.lookup_enforced.specs.declared.rows.RowFacts.{RowFacts}
use Rattle.lookup_enforced.specs.internal.Shown.{IsAnyOf}
use Rattle.lookup_enforced.proofs.RowLaws.{one_of_two, only_row, some_row}
use Rattle.lookup_enforced.proofs.rows.rows_of.Goals as goal

pub returns-then-height-eq1 : goal.returns-then-height-eq1
returns-then-height-eq1 g c = λ w row hold.
    let R = g.F.PrimeCharacteristicRing.ring in
    let P : List (RowFacts g.row.F.Denot) → Type 0 = λ rs. IsAnyOf R rs w in
    let of = c.in_ok-only.ensures in
    subst P (sym c.in_ok-rows.ensures.items) (only_row c.in_ok-only.only w c.args.height row c.if-height-eq1.true (of.0, of.1, λ kind. of.2 w kind hold))

pub returns-then-height-eq2 : goal.returns-then-height-eq2
returns-then-height-eq2 g c = λ w row hold.
    let R = g.F.PrimeCharacteristicRing.ring in
    let P : List (RowFacts g.row.F.Denot) → Type 0 = λ rs. IsAnyOf R rs w in
    let first = c.in_ok-first.ensures in
    let last = c.in_ok-last.ensures in
    subst P (sym c.in_ok-rows-2.ensures.items)
    (one_of_two c.in_ok-first.first c.in_ok-last.last w c.args.height row c.if-height-eq2.true (first.0, first.1, λ kind. first.2 w kind hold) (last.0, last.1, λ kind. last.2 w kind hold))

pub returns : goal.returns
returns g c = λ w row hold.
    let R = g.F.PrimeCharacteristicRing.ring in
    let P : List (RowFacts g.row.F.Denot) → Type 0 = λ rs. IsAnyOf R rs w in
    let first = c.in_ok-first.ensures in
    let last = c.in_ok-last.ensures in
    let between = c.in_ok-between.ensures in
    subst P (sym c.in_ok-rows-3.ensures.items)
    (some_row c.in_ok-first.first c.in_ok-last.last c.in_ok-between.between w c.args.height row c.if-height-eq1.false
    (first.0, first.1, λ kind. first.2 w kind hold) (last.0, last.1, λ kind. last.2 w kind hold) (between.0, between.1, λ kind. between.2 w kind hold))
