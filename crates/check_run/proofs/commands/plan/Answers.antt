use Rattle.std.proofs.Common.{◌≡◌, ◌⊎◌, ◌∙◌, ◌↔◌, IsTrue, List, ap, map, subst, sym}
use Rattle.field_words.specs.Fields.{run_fields}
use Rattle.language_meaning.specs.Files.{named_of}
use Rattle.language_meaning.specs.Shapes.{Shape, all_shapes, shape_of}
use Rattle.language.specs.Batches.{Section, section_of}
use Rattle.check_judge.specs.Bits.{MeetsTarget}
use Rattle.check_judge.specs.Causes.{IsPlanJudgeRefusal}
use Rattle.field.specs.Ring.{of_nat}
use Rattle.check_judge.specs.Enforced.{AreAsserted}
use Rattle.check_judge.specs.Found.{sized_over}
use Rattle.check_judge.specs.Said.{SayOver, airs_of}
use Rattle.check_judge.specs.declared.fault.JudgeFault.{JudgeFault}
use Rattle.check_judge.specs.declared.fault.JudgeFault.TheVariants as fault
use Rattle.check_judge.proofs.JudgeLaws.{planned_over}
use Rattle.check_run.proofs.RunRefusalLaws.{read_refused}
use Rattle.check_run.proofs.commands.plan.Goals as goal

pub returns-in-Ok : goal.returns-in-Ok
returns-in-Ok g c =
    let text = c.args.given.text.now in
    let sections = map section_of c.in_ok-batch.batch.sections.items in
    let shapes = c.in_ok-shapes.shapes.items in
    let found = c.in-Ok.ensures in
    let lookups = found.2 in
    let report = c.in-Ok.judged.report in
    let enforced = c.in-Ok.judged.enforced in
    let meets = subst (λ alphas. IsTrue c.meets-meets.result ↔ MeetsTarget c.args.field.challenges c.args.task.target c.for_all_traces-bits_left.result.betas alphas) c.for_all_traces-bits_left.ensures.1 c.meets-meets.ensures in
    let target = subst (λ betas. IsTrue c.meets-meets.result ↔ MeetsTarget c.args.field.challenges c.args.task.target betas report.heights.accepting_alphas) c.for_all_traces-bits_left.ensures.0 meets in
    record {
      sections = sections;
      read = c.in_ok-batch.ensures;
      distinct = found.0;
      shapes = map shape_of shapes;
      shapes_are = ap (λ m. all_shapes text (map named_of c.args.given.files.now) m sections) (sym c.modulus.ensures) ∙ c.in_ok-shapes.ensures;
      said = found.1;
      says = subst (λ ss. SayOver text sections 1048576 (airs_of sections) (map shape_of ss) found.1) c.deref.ensures.value found.5;
      lookups = lookups;
      lookups_are = found.6;
      plan = found.3;
      report = report;
      found = planned_over _ _ c.args.task.degree (sized_over lookups (map shape_of c.deref.result.now)) (sized_over lookups (map shape_of shapes)) found.3 report (ap (λ ss. sized_over lookups (map shape_of ss)) c.deref.ensures.value) found.7;
      shown = enforced;
      assertions = found.4;
      asserted = subst (λ ss. AreAsserted (of_nat g.F.PrimeCharacteristicRing.ring) text (airs_of sections) (map shape_of ss) found.1 found.4) c.deref.ensures.value found.8;
      enforces = found.9;
      all_enforced = found.10;
      meets = c.meets-meets.result;
      is_met = target;
      yes = c.is_yes.ensures;
      told = c.in_ok-push_planned-in-Ok.ensures;
    }

pub returns : goal.returns
returns g c =
    let text = c.args.given.text.now in
    let files = map named_of c.args.given.files.now in
    let sections = map section_of c.in_ok-batch.batch.sections.items in
    let fields = run_fields g.F.PrimeCharacteristicRing.ring g.F.PartialEq.eq g.F.PrimeCharacteristicRing.CHARACTERISTIC g.EF.PrimeCharacteristicRing.ring g.EF.PartialEq.eq g.EF.ExtensionDomain.embed g.EF.Field.inverse g.EF.Challenge.written g.EF.Field.text g.F.Field.text in
    let p = fields.characteristic in
    let Later : List Section → List Shape → JudgeFault → Type 0 = λ s. IsPlanJudgeRefusal fields.extension p text s c.args.task.degree in
    let there = ap (λ m. all_shapes text files m sections) (sym c.modulus.ensures) ∙ c.in_ok-shapes.ensures in
    let cause = subst (λ ss. (c.in-Err.fault ≡ fault.Memory) ⊎ Later sections (map shape_of ss) c.in-Err.fault) c.deref.ensures.value c.in-Err.ensures in
    read_refused text (all_shapes text files p) Later sections (map shape_of c.in_ok-shapes.shapes.items) c.in-Err.fault c.in_ok-of_judge-in-Err.field-0 c.in_ok-batch.ensures there c.in_ok-of_judge-in-Err.ensures cause
