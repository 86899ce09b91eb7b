use Rattle.std.proofs.Common.{◌∙◌, ap, inl, inr, map, subst, sym}
use Rattle.field.specs.Ring.{of_nat}
use Rattle.language_meaning.specs.Files.{named_of}
use Rattle.language_meaning.specs.Shapes.{all_shapes, shape_of}
use Rattle.language_meaning.specs.Lookups.{said_of}
use Rattle.language.specs.Batches.{section_of}
use Rattle.check_judge.specs.Causes.{IsFirstElementRefusal, IsSayingRefusal}
use Rattle.check_judge.specs.Said.{SayOver, airs_of}
use Rattle.check_judge.proofs.CauseLaws.{memory_or_not}
use Rattle.check_run.proofs.commands.show.Goals as goal

pub returns-in-Err : goal.returns-in-Err
returns-in-Err g c =
    let text = c.args.given.text.now in
    let sections = map section_of c.in_ok-batch.batch.sections.items in
    let shapes = map shape_of c.in_ok-shapes.shapes.items in
    let fault = c.in-Err.fault in
    let there = ap (λ m. all_shapes text (map named_of c.args.given.files.now) m sections) (sym c.modulus.ensures) ∙ c.in_ok-shapes.ensures in
    elim (memory_or_not fault) [
      | inl memory ↦ inl (c.in_ok-of_judge-in-Err.ensures memory)
      | inr other ↦ elim c.in-Err.ensures [
        | inl memory ↦ absurd (other memory)
        | inr (inl bus) ↦ inr (inr (sections, c.in_ok-batch.ensures, inr (shapes, there, fault, other, inl bus)))
        | inr (inr said) ↦ inr (inr (sections, c.in_ok-batch.ensures, inr (shapes, there, fault, other, inr (said.0, inl (subst (λ ss. IsSayingRefusal text sections (map shape_of ss) fault) c.deref.ensures.value said.1)))))
      ]
    ]

pub returns : goal.returns
returns g c =
    let text = c.args.given.text.now in
    let sections = map section_of c.in_ok-batch.batch.sections.items in
    let shapes = map shape_of c.in_ok-shapes.shapes.items in
    let named = map said_of c.in-Ok.named.items in
    let fault = c.in-Err-sets_over.fault in
    let there = ap (λ m. all_shapes text (map named_of c.args.given.files.now) m sections) (sym c.modulus.ensures) ∙ c.in_ok-shapes.ensures in
    let says = subst (λ ss. SayOver text sections 1048576 (airs_of sections) (map shape_of ss) named) c.deref.ensures.value c.in-Ok.ensures.1 in
    elim (memory_or_not fault) [
      | inl memory ↦ inl (c.in_ok-of_judge-in-Err-sets_over.ensures memory)
      | inr other ↦ elim c.in-Err-sets_over.ensures [
        | inl memory ↦ absurd (other memory)
        | inr refusal ↦ inr (inr (
          sections,
          c.in_ok-batch.ensures,
          inr (
            shapes,
            there,
            fault,
            other,
            inr (
              c.in-Ok.ensures.0,
              inr (
                c.if-not-json.false,
                named,
                says,
                subst (λ ns. IsFirstElementRefusal (of_nat g.F.PrimeCharacteristicRing.ring) text (map said_of ns) fault) c.deref-2.ensures.value refusal,
              ),
            ),
          ),
        ))
      ]
    ]
