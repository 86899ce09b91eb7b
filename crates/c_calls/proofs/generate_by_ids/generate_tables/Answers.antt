use Rattle.std.proofs.Common.{◌∙◌, ap, arith, inl, length, subst₂, sym}
use Rattle.c_calls.specs.Generate.{GenerateFits}
use Rattle.c_calls.proofs.AnswerLaws.{refused_is}
use Rattle.c_calls.proofs.ByIdsLaws.{generated_by_ids}
use Rattle.c_calls.proofs.generate_by_ids.generate_tables.Goals as goal

pub returns-in_err-air : goal.returns-in_err-air
returns-in_err-air g c = rw (refused_is c.from_residual.result c.from_residual.ensures.1) (inl c.in_err-air.ensures)

pub generate_fitting-requires : goal.generate_fitting-requires
generate_fitting-requires g c =
    let read = c.in_ok-air.ensures in (
      omega arith,
      (
        omega arith,
        (
          subst₂ GenerateFits (sym read.traces_are) (sym c.deref.ensures.value) read.is.fitting,
          omega (arith, read.challenges_are.many, read.is.read.as_many, ap length c.deref.ensures.value, ap length c.deref-2.ensures.value),
        ),
      ),
    )

pub returns : goal.returns
returns g c =
    let read = c.in_ok-air.ensures in
    generated_by_ids g.K.MontyParameters.positive _ c.args.tables.now c.args.traces.now _ _ _ _ c.generate_fitting.result c.in_ok-air.air.lookups.items _ read.a read.b _ _ read.is read.traces_are
    c.deref.ensures.value (c.deref-2.ensures.value ∙ read.challenges_are.challenges_are) c.generate_fitting.ensures
