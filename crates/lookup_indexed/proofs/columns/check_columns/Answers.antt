use Rattle.std.proofs.Common.{◌≡◌, nat_eq, take, get_or, true, false, inl, inr, sym, ◌∙◌, arith}
use Rattle.std.proofs.lemmas.Bool.{not-false, not-true}
use Rattle.std.proofs.lemmas.Grind.{common_steps}
use Rattle.std.specs.List.{list_any}
use Rattle.lookup_indexed.proofs.FaultLaws.{columns_more, first_column_fault, met_before}
use Rattle.lookup_indexed.proofs.columns.check_columns.Goals as goal

pub returns-then-column-width : goal.returns-then-column-width
returns-then-column-width c = elim c.out_of_range.ensures [
  | inl memory ↦ inl memory
  | inr names ↦ inr (first_column_fault _ _ c.args.columns.now c.loop-column.column-index _ c.loop-column-test.true c.loop-column.invariant.0 (inl (c.if-column-width.true, names)))
]

pub returns-then-not-branch : goal.returns-then-not-branch
returns-then-not-branch c =
    let columns = c.args.columns.now in
    let i = c.loop-column.column-index in
    let met : list_any (nat_eq (get_or columns i 0)) (take i columns) ≡ true = sym (c.loop-column.invariant.1 (get_or columns i 0)) ∙ not-false _ (sym c.in_ok-insert.ensures.added ∙ c.if-not-branch.true) in
    elim c.repeated_column.ensures [
      | inl memory ↦ inl memory
      | inr names ↦ inr (first_column_fault _ _ columns i _ c.loop-column-test.true c.loop-column.invariant.0 (inr (omega arith, met_before (take i columns) (get_or columns i 0) met, names)))
    ]

pub loop-column-preserved : goal.loop-column-preserved
loop-column-preserved c =
    let columns = c.args.columns.now in
    let i = c.loop-column.column-index in
    let new : list_any (nat_eq (get_or columns i 0)) (take i columns) ≡ false = sym (c.loop-column.invariant.1 (get_or columns i 0)) ∙ not-true _ (sym c.in_ok-insert.ensures.added ∙ c.if-not-branch.false) in
    (columns_more _ columns i c.loop-column-test.true c.loop-column.invariant.0 (omega arith) new, λ q. grind (arith, common_steps, c.loop-column.invariant.1 q))
