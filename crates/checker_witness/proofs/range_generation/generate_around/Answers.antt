use Rattle.std.proofs.Common.{◌≡◌, ◌+◌, ◌^◌, ◌≤◌, Err, Ok, ap, sym, subst, subst₂, ◌∙◌, arith}
use Rattle.air.specs.Traces.{traces_of}
use Rattle.field.specs.laws.Extension.{of_laws}
use Rattle.lookup_generation.specs.Ranges.{AnswersRows}
use Rattle.checker_witness.proofs.WholeAnswers.{made_there, refused_there}
use Rattle.checker_witness.specs.Around.{place_of_first}
use Rattle.checker_witness.specs.internal.Renumbered.{renumbered_fault}
use Rattle.checker_witness.proofs.range_generation.generate_around.Goals as goal

pub returns-in-Ok : goal.returns-in-Ok
returns-in-Ok g c = λ whole is.
    let E = of_laws g.met.EF.ExtensionField.lawful_fields in
    let part = traces_of c.args.around.now in
    let fits : c.args.range.end ≤ 2 ^ 64 = omega (arith, c.rows.ensures.end_is_usize) in
    made_there E whole part c.args.lookups.now c.args.challenges.now c.args.range is c.requires.range c.in-Ok.made.0 c.in-Ok.made.1 fits
    (subst₂ (λ first n. AnswersRows E part c.args.lookups.now c.args.challenges.now first (first + n) (Ok c.in-Ok.made)) c.place-first.ensures c.rows.ensures.many
    (c.in-Ok.ensures.answers g.EF.Field.inverse g.met.EF.Field.inverse_is))

pub returns-in-Err : goal.returns-in-Err
returns-in-Err g c = λ whole is.
    let E = of_laws g.met.EF.ExtensionField.lawful_fields in
    let part = traces_of c.args.around.now in
    let fits : c.args.range.end ≤ 2 ^ 64 = omega (arith, c.rows.ensures.end_is_usize) in
    let range = c.args.range in
    let answer = subst₂ (λ first n. AnswersRows E part c.args.lookups.now c.args.challenges.now first (first + n) (Err c.in-Err.error)) c.place-first.ensures c.rows.ensures.many
    (c.in-Err.ensures.answers g.EF.Field.inverse g.met.EF.Field.inverse_is) in
    let named : c.in_whole.result ≡ renumbered_fault (place_of_first range.first) range.first c.in-Err.error = c.in_whole.ensures ∙ ap (λ p. renumbered_fault p range.first c.in-Err.error) c.place-first.ensures in
    subst (λ e. AnswersRows E whole c.args.lookups.now c.args.challenges.now range.first range.end (Err e)) (sym named)
    (refused_there E whole part c.args.lookups.now c.args.challenges.now range is c.requires.range c.in-Err.error fits answer)
