use Rattle.std.proofs.Common.{[], ◌∷◌, refl, ◌∙◌}
use Rattle.std.proofs.lemmas.Result.{err_from_is_err_and}
use Rattle.lookup_record.specs.Pushed.{pushed_global}
use Rattle.example_memory.proofs.PushLaws.{answered_one, refused_cell, refused_push}
use Rattle.example_memory.proofs.airs.BoundaryAirAir.eval.Goals as goal

pub returns-in_err-initial : goal.returns-in_err-initial
returns-in_err-initial g c =
    let p = err_from_is_err_and c.from_residual.result c.from_residual.ensures.1 in
    rw (p.1, p.2) (refused_cell g.AB.InteractionBuilder.pushes g.AB.InteractionBuilder.refuses_push g.AB.AirBuilder.window_refuses g.AB.AirBuilder.layout 4 c.args.builder.now [] _ refl _ c.in_err-initial.ensures.refused)

pub returns-in_err-send : goal.returns-in_err-send
returns-in_err-send g c =
    let p = err_from_is_err_and c.from_residual-in_err-send.result c.from_residual-in_err-send.ensures.1 in
    rw (p.1, p.2) (refused_push g.AB.InteractionBuilder.pushes g.AB.InteractionBuilder.refuses_push g.AB.AirBuilder.window_refuses g.AB.AirBuilder.layout 4 c.args.builder.now [] _ refl _ _ _ c.in_err-send.ensures.pushed)

pub returns-in_err-last : goal.returns-in_err-last
returns-in_err-last g c =
    let p = err_from_is_err_and c.from_residual-in_err-last.result c.from_residual-in_err-last.ensures.1 in
    rw (p.1, p.2) (refused_cell g.AB.InteractionBuilder.pushes g.AB.InteractionBuilder.refuses_push g.AB.AirBuilder.window_refuses g.AB.AirBuilder.layout 4 c.args.builder.now ((pushed_global c.new-memory.result c.in_ok-initial.initial.items c.from.result) ∷ []) _ (c.send.new.builder, c.in_ok-send.ensures.pushed, refl) _ c.in_err-last.ensures.refused)

pub returns : goal.returns
returns g c =
    answered_one g.AB.InteractionBuilder.pushes g.AB.InteractionBuilder.refuses_push g.AB.AirBuilder.window_refuses g.AB.AirBuilder.layout 4 c.args.builder.now ((pushed_global c.new-memory.result c.in_ok-initial.initial.items c.from.result) ∷ []) _ (c.send.new.builder, c.in_ok-send.ensures.pushed, refl) _ _ c.receive.result _ _ _ c.receive.ensures.pushed c.receive.ensures.layout c.receive.ensures.within
    (λ layout within. (
      layout ∙ c.in_ok-send.ensures.layout,
      λ old.
          within c.in_ok-last.ensures.within (g.met.AB.Expr.Expression.whole_within _ _ _ c.from-2.ensures.0)
          (c.in_ok-send.ensures.within c.in_ok-initial.ensures.within (g.met.AB.Expr.Expression.whole_within _ _ _ c.from.ensures.0) old),
    ))
