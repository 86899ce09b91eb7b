-- From the refusal of a step to that of a run.
use Rattle.std.proofs.Common.{◌≡◌, ◌⊎◌, inl, inr, ℕ, List, Result, Ok}
use Rattle.language_meaning.specs.declared.table_fault.TableRefusal.{TableRefusal}
use Rattle.language.specs.Batches.{Section, batch_at}
use Rattle.check_run.specs.RunRefusals.{IsReadingRefused}
use Rattle.check_judge.specs.declared.fault.JudgeFault.{JudgeFault}
use Rattle.check_judge.specs.declared.fault.JudgeFault.TheVariants as fault
use Rattle.check_report.specs.declared.refusal.RunRefusal.{RunRefusal}
use Rattle.check_report.specs.declared.refusal.RunRefusal.TheVariants.{Memory}
use Rattle.check_judge.proofs.CauseLaws.{memory_or_not}

module _ {X : Type 0} (text : List ℕ) (reading : List Section → Result X TableRefusal) (Later : List Section → X → JudgeFault → Type 0) where
  -- what was read is refused, or memory ran out
  pub read_refused : (sections : List Section) (x : X) (e : JudgeFault) (r : RunRefusal) → batch_at text ≡ Ok sections → reading sections ≡ Ok x
      → (e ≡ fault.Memory → r ≡ Memory) → (e ≡ fault.Memory) ⊎ Later sections x e → (r ≡ Memory) ⊎ IsReadingRefused text reading Later
  read_refused sections x e r read there kept (inl memory) = inl (kept memory)
  read_refused sections x e r read there kept (inr is) = elim (memory_or_not e) [
    | inl memory ↦ inl (kept memory)
    | inr other ↦ inr (inr (sections, read, inr (x, there, e, other, is)))
  ]
