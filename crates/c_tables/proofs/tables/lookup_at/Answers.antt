use Rattle.std.proofs.Common.{inl, inr}
use Rattle.std.proofs.lemmas.Result.{err_from_is_err_and}
use Rattle.c_tables.proofs.tables.lookup_at.Goals as goal

pub returns-in_err-multiplicities : goal.returns-in_err-multiplicities
returns-in_err-multiplicities g c =
    let p = err_from_is_err_and c.from_residual-in_err-multiplicities.result c.from_residual-in_err-multiplicities.ensures.1 in
    rw (p.1, p.2) (elim c.in_err-multiplicities.ensures [
      | inl memory ↦ inl memory
      | inr (none, fault) ↦ inr (
        λ lookup is. none lookup.multiplicities.items is.multiplicities,
        inr (inr (inl (
          (c.in_ok-kind.kind, c.in_ok-kind.ensures),
          (record { ordered = c.if-spans.false; ends = c.if-spans-tables.false }, (c.in_ok-elements.elements.items, c.in_ok-elements.ensures)),
          fault,
        ))),
      )
    ])
