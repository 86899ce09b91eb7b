use Rattle.std.proofs.Common.{inl, inr, subst, List, ℕ}
use Rattle.lookup_indexed.specs.Faults.{NamesTable}
use Rattle.lookup_indexed.specs.declared.error.IndexedLookupError.TheVariants.{ColumnOutOfRange}
use Rattle.lookup_indexed.proofs.check.check_read.Goals as goal

pub returns-then-read-width : goal.returns-then-read-width
returns-then-read-width c = elim c.out_of_range.ensures [
  | inl memory ↦ inl memory
  | inr names ↦ inr (inl (c.if-read-width.true, subst (λ (t : List ℕ). NamesTable t (λ name. ColumnOutOfRange name c.args.read.now.position c.args.width) c.out_of_range.result) c.as_str-table.ensures.value names))
]
