use Rattle.std.proofs.Common.{◌≡◌, ◌⊎◌, ◌∙◌, ◌&&◌, ◌||◌, List, ap, map, not, subst, sym}
use Rattle.field.specs.Ring.{of_nat}
use Rattle.field_words.specs.Fields.{run_fields}
use Rattle.language_meaning.specs.Files.{named_of}
use Rattle.language_meaning.specs.Tables.{TablesOf, all_tables, tables_of}
use Rattle.language.specs.Batches.{Section, section_of}
use Rattle.check_judge.specs.Causes.{IsJudgeRefusal}
use Rattle.check_judge.specs.Constraints.{AreConstrained}
use Rattle.check_judge.specs.Said.{AreSaid, airs_of}
use Rattle.check_judge.specs.declared.fault.JudgeFault.{JudgeFault}
use Rattle.check_judge.specs.declared.fault.JudgeFault.TheVariants as fault
use Rattle.check_judge.proofs.JudgeLaws.{found_within}
use Rattle.check_run.proofs.RunRefusalLaws.{read_refused}
use Rattle.check_run.proofs.VerdictLaws.{good_verdict}
use Rattle.check_run.proofs.commands.check.Goals as goal
use Rattle.check_run.proofs.commands.check.Goals.{then-json+in_ok-push_report_json-in-Ok, else-json+in_ok-push_report-in-Ok}

pub returns-in-Ok : goal.returns-in-Ok
returns-in-Ok g c =
    let text = c.args.given.text.now in
    let sections = map section_of c.in_ok-batch.batch.sections.items in
    let traced = c.in-Ok.ensures.found.1 in
    let constraints = c.in-Ok.ensures.constraints in
    let verdict = c.is_yes.ensures ∙ ap (λ good. good && (not c.args.enforced || c.in-Ok.report.enforced.all)) c.is_good.ensures in
    record {
      traced = traced;
      batch = record {
        sections = sections;
        read = c.in_ok-batch.ensures;
        distinct = c.in-Ok.ensures.found.0;
        tables = map tables_of c.in_ok-tables.tables.items;
        tables_are = ap (λ m. all_tables text (map named_of c.args.given.files.now) m sections) (sym c.modulus.ensures) ∙ c.in_ok-tables.ensures;
        said = subst (λ ts. AreSaid (of_nat g.F.PrimeCharacteristicRing.ring) text sections 1048576 (airs_of sections) (map tables_of ts) traced) c.deref.ensures.value c.in-Ok.ensures.found.2;
      };
      report = c.in-Ok.report;
      found = found_within _ _ _ _ c.args.max_degree _ traced c.in-Ok.report c.max-most.ensures c.in-Ok.ensures.found.3;
      airs = constraints.0;
      constrained = subst (λ ts. AreConstrained (of_nat g.F.PrimeCharacteristicRing.ring) text sections 1048576 (airs_of sections) (map tables_of ts) constraints.0) c.deref.ensures.value constraints.1;
      shown = constraints.2;
      verdict = verdict;
      good = good_verdict c.in-Ok.report.balanced c.in-Ok.report.hold c.in-Ok.report.within c.args.enforced c.in-Ok.report.enforced.all c.is_yes.result verdict c.in-Ok.ensures.found.3.balanced constraints.2.hold constraints.2.within constraints.2.all_enforced;
      told = λ plain. elim c.if-json.branch [
        | then-json+in_ok-push_report_json-in-Ok w ↦ absurd (cc (sym plain ∙ w.if-json.true))
        | else-json+in_ok-push_report-in-Ok w ↦ (w.in_ok-push_report-in-Ok.ensures.0, ap (λ p. p.bytes.items) w.page-is ∙ w.in_ok-push_report-in-Ok.ensures.1)
      ];
    }

pub returns : goal.returns
returns g c =
    let text = c.args.given.text.now in
    let files = map named_of c.args.given.files.now in
    let sections = map section_of c.in_ok-batch.batch.sections.items in
    let fields = run_fields g.F.PrimeCharacteristicRing.ring g.F.PartialEq.eq g.F.PrimeCharacteristicRing.CHARACTERISTIC g.EF.PrimeCharacteristicRing.ring g.EF.PartialEq.eq g.EF.ExtensionDomain.embed g.EF.Field.inverse g.EF.Challenge.written g.EF.Field.text g.F.Field.text in
    let p = fields.characteristic in
    let Later : List Section → List TablesOf → JudgeFault → Type 0 = λ s. IsJudgeRefusal fields.extension p text s c.args.max_degree in
    let there = ap (λ m. all_tables text files m sections) (sym c.modulus.ensures) ∙ c.in_ok-tables.ensures in
    let cause = subst (λ ts. (c.in-Err.fault ≡ fault.Memory) ⊎ Later sections (map tables_of ts) c.in-Err.fault) c.deref.ensures.value c.in-Err.ensures.found in
    read_refused text (all_tables text files p) Later sections (map tables_of c.in_ok-tables.tables.items) c.in-Err.fault c.in_ok-of_judge-in-Err.field-0 c.in_ok-batch.ensures there c.in_ok-of_judge-in-Err.ensures cause
