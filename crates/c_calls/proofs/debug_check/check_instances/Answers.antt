use Rattle.std.proofs.Common.{arith, inl, inr, refl}
use Rattle.c_calls.proofs.debug_check.check_instances.Goals as goal

pub check_lookups-requires-clause-fit : goal.check_lookups-requires-clause-fit
check_lookups-requires-clause-fit g c = λ k d there. (c.requires k d there).fit

pub check_lookups-requires-clause-heights : goal.check_lookups-requires-clause-heights
check_lookups-requires-clause-heights g c = λ k d there. (c.requires k d there).heights

pub returns-in_ok-text-in-Err : goal.returns-in_ok-text-in-Err
returns-in_ok-text-in-Err g c =
    inr (
      c.in-Err.mismatch,
      c.in_ok-text-in-Err.field-0,
      refl,
      elim c.in-Err.ensures [
        | inl memory ↦ absurd (grind (arith, memory, c.in-Err.mismatch-is))
        | inr first ↦ first
      ],
      c.in_ok-text-in-Err.ensures,
    )
