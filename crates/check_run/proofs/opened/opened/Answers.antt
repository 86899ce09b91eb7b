use Rattle.std.proofs.Common.{◌≡◌, ◌⊎◌, ◌∙◌, ap, inl, inr, map, subst, sym}
use Rattle.field.specs.Ring.{of_nat}
use Rattle.language_meaning.specs.Files.{named_of}
use Rattle.language_meaning.specs.Tables.{all_tables, tables_of}
use Rattle.language.specs.Batches.{section_of}
use Rattle.check_judge.specs.Causes.{HasNoPlan}
use Rattle.check_judge.specs.declared.fault.JudgeFault.TheVariants as fault
use Rattle.check_run.proofs.RunRefusalLaws.{read_refused}
use Rattle.check_run.proofs.opened.opened.Goals as goal

pub returns-in_ok-of_judge-in-Err : goal.returns-in_ok-of_judge-in-Err
returns-in_ok-of_judge-in-Err g c =
    let text = c.args.given.text.now in
    let files = map named_of c.args.given.files.now in
    let sections = map section_of c.in_ok-batch.batch.sections.items in
    let p = g.F.PrimeCharacteristicRing.CHARACTERISTIC in
    let Later = HasNoPlan p (of_nat g.F.PrimeCharacteristicRing.ring) text in
    let there = ap (λ m. all_tables text files m sections) (sym c.modulus.ensures) ∙ c.in_ok-tables.ensures in
    let cause = subst (λ ts. (c.in-Err.fault ≡ fault.Memory) ⊎ Later sections (map tables_of ts) c.in-Err.fault) c.deref.ensures.value c.in-Err.ensures.refused in
    elim (read_refused text (all_tables text files p) Later sections (map tables_of c.in_ok-tables.tables.items) c.in-Err.fault c.in_ok-of_judge-in-Err.field-0 c.in_ok-batch.ensures there c.in_ok-of_judge-in-Err.ensures cause) [
      | inl memory ↦ inl memory
      | inr refused ↦ inr (inr (inr refused))
    ]
