use Rattle.std.proofs.Common.{arith, inl, inr, subst₂}
use Rattle.c_calls.specs.Generate.{GenerateFits, IsGenerateUnfit}
use Rattle.c_calls.specs.PlannedAirs.{IsPlannedInput}
use Rattle.c_calls.proofs.AnswerLaws.{refused_is}
use Rattle.c_calls.proofs.BatchLaws.{decoded}
use Rattle.c_calls.proofs.planned_air.read_air.Given.{Over}
use Rattle.c_calls.proofs.planned_air.read_air.Goals.{In_ok-challenges}
use Rattle.c_calls.proofs.planned_air.read_air.Goals as goal

-- what is read, whether or not the lookups fit the traces
read_input : (g : Over) (c : In_ok-challenges g)
    → IsPlannedInput g.K.MontyParameters.positive c.args.tables.now c.args.traces.now c.args.plan.now.ids.now c.args.plan.now.sizes.now c.args.plan.now.alpha.now c.args.plan.now.beta.now c.in_ok-lookups.lookups.items c.in_ok-alpha.alpha c.in_ok-beta.beta
read_input g c = record {
  encoded = c.in_ok-lookups.ensures;
  traces_below = c.in_ok-traces.ensures.canonical;
  alpha_is = c.in_ok-alpha.ensures;
  beta_is = c.in_ok-beta.ensures;
  ids_are = c.in_ok-challenges.ensures.ids_are;
  as_many = omega (arith, c.if-plan-len.false, c.len.ensures);
}

pub returns-in_err-lookups : goal.returns-in_err-lookups
returns-in_err-lookups g c = rw (refused_is c.from_residual.result c.from_residual.ensures.1) (inl c.in_err-lookups.ensures)

pub returns-in_err-traces : goal.returns-in_err-traces
returns-in_err-traces g c = rw (refused_is c.from_residual-in_err-traces.result c.from_residual-in_err-traces.ensures.1) (inr (inl c.in_err-traces.ensures))

pub returns-in_err-check_fit : goal.returns-in_err-check_fit
returns-in_err-check_fit g c =
    let fault = c.in_err-check_fit.field-0.0 in
    rw (refused_is c.from_residual-in_err-check_fit.result c.from_residual-in_err-check_fit.ensures.1)
    (inr (inr (inr (inr (inr (inr (
      c.in_ok-lookups.lookups.items,
      c.in_ok-alpha.alpha,
      c.in_ok-beta.beta,
      read_input g (goal.at.returns-in_err-check_fit g c).In_ok-challenges,
      subst₂ (λ traces lookups. IsGenerateUnfit traces lookups fault) (decoded g.K.MontyParameters.positive c.args.traces.now c.in_ok-traces.traces c.in_ok-traces.ensures) c.deref.ensures.value c.in_err-check_fit.ensures,
    )))))))

pub returns : goal.returns
returns g c = record {
  a = c.in_ok-alpha.alpha;
  b = c.in_ok-beta.beta;
  is = record {
    read = read_input g (goal.at.returns g c).In_ok-challenges;
    fitting = subst₂ GenerateFits (decoded g.K.MontyParameters.positive c.args.traces.now c.in_ok-traces.traces c.in_ok-traces.ensures) c.deref.ensures.value c.in_ok-check_fit.ensures;
  };
  traces_are = decoded g.K.MontyParameters.positive c.args.traces.now c.in_ok-traces.traces c.in_ok-traces.ensures;
  challenges_are = c.in_ok-challenges.ensures;
}
