use Rattle.std.proofs.Common.{[], inr, refl}
use Rattle.std.proofs.lemmas.Result.{err_from_is_err_and}
use Rattle.example_memory.proofs.PushLaws.{answered_one, refused_cell}
use Rattle.example_memory.proofs.airs.GapsAirAir.eval.Goals as goal

pub returns-in_err-entry : goal.returns-in_err-entry
returns-in_err-entry g c =
    let p = err_from_is_err_and c.from_residual.result c.from_residual.ensures.1 in
    rw (p.1, p.2) (refused_cell g.AB.InteractionBuilder.pushes g.AB.InteractionBuilder.refuses_push g.AB.AirBuilder.window_refuses g.AB.AirBuilder.layout 2 c.args.builder.now [] _ refl _ c.in_err-entry.ensures.refused)

pub returns-in_err-uses : goal.returns-in_err-uses
returns-in_err-uses g c =
    let p = err_from_is_err_and c.from_residual-in_err-uses.result c.from_residual-in_err-uses.ensures.1 in
    rw (p.1, p.2) (refused_cell g.AB.InteractionBuilder.pushes g.AB.InteractionBuilder.refuses_push g.AB.AirBuilder.window_refuses g.AB.AirBuilder.layout 2 c.args.builder.now [] _ refl _ (inr c.in_err-uses.ensures.refused))

pub returns : goal.returns
returns g c =
    answered_one g.AB.InteractionBuilder.pushes g.AB.InteractionBuilder.refuses_push g.AB.AirBuilder.window_refuses g.AB.AirBuilder.layout 2 c.args.builder.now [] _ refl _ _ c.table_entry.result _ _ _ c.table_entry.ensures.pushed c.table_entry.ensures.layout c.table_entry.ensures.within
    (λ layout within. (layout, λ old. within c.in_ok-entry.ensures.within c.in_ok-uses.ensures.within old))
