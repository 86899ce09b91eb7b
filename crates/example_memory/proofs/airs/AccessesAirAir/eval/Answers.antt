use Rattle.std.proofs.Common.{[], ◌∷◌, refl, ◌∙◌}
use Rattle.std.proofs.lemmas.Result.{err_from_is_err_and}
use Rattle.lookup_record.specs.Pushed.{pushed_global}
use Rattle.example_memory.proofs.PushLaws.{accepted_more, answered_this, refused_cell, refused_one, refused_push}
use Rattle.example_memory.proofs.airs.AccessesAirAir.eval.Goals as goal

pub returns-in_err-found : goal.returns-in_err-found
returns-in_err-found g c =
    let p = err_from_is_err_and c.from_residual.result c.from_residual.ensures.1 in
    rw (p.1, p.2) (refused_cell g.AB.InteractionBuilder.pushes g.AB.InteractionBuilder.refuses_push g.AB.AirBuilder.window_refuses g.AB.AirBuilder.layout 5 c.args.builder.now [] _ refl _ c.in_err-found.ensures.refused)

pub returns-in_err-receive : goal.returns-in_err-receive
returns-in_err-receive g c =
    let p = err_from_is_err_and c.from_residual-in_err-receive.result c.from_residual-in_err-receive.ensures.1 in
    rw (p.1, p.2) (refused_one g.AB.InteractionBuilder.pushes g.AB.InteractionBuilder.refuses_push g.AB.AirBuilder.window_refuses g.AB.AirBuilder.layout 5 c.args.builder.now [] _ refl _ _ _ c.in_err-receive.ensures.pushed)

pub returns-in_err-left : goal.returns-in_err-left
returns-in_err-left g c =
    let p = err_from_is_err_and c.from_residual-in_err-left.result c.from_residual-in_err-left.ensures.1 in
    rw (p.1, p.2) (refused_cell g.AB.InteractionBuilder.pushes g.AB.InteractionBuilder.refuses_push g.AB.AirBuilder.window_refuses g.AB.AirBuilder.layout 5 c.args.builder.now (c.in_ok-receive.ensures.pushed.0 ∷ []) _ (c.receive.new.builder, c.in_ok-receive.ensures.pushed.2, refl) _ c.in_err-left.ensures.refused)

pub returns-in_err-send : goal.returns-in_err-send
returns-in_err-send g c =
    let p = err_from_is_err_and c.from_residual-in_err-send.result c.from_residual-in_err-send.ensures.1 in
    rw (p.1, p.2) (refused_push g.AB.InteractionBuilder.pushes g.AB.InteractionBuilder.refuses_push g.AB.AirBuilder.window_refuses g.AB.AirBuilder.layout 5 c.args.builder.now (c.in_ok-receive.ensures.pushed.0 ∷ []) _ (c.receive.new.builder, c.in_ok-receive.ensures.pushed.2, refl) _ _ _ c.in_err-send.ensures.pushed)

pub returns-in_err-gap : goal.returns-in_err-gap
returns-in_err-gap g c =
    let p = err_from_is_err_and c.from_residual-in_err-gap.result c.from_residual-in_err-gap.ensures.1 in
    rw (p.1, p.2) (refused_cell g.AB.InteractionBuilder.pushes g.AB.InteractionBuilder.refuses_push g.AB.AirBuilder.window_refuses g.AB.AirBuilder.layout 5 c.args.builder.now (c.in_ok-receive.ensures.pushed.0 ∷ (pushed_global c.new-memory.result c.in_ok-left.left.items c.from-2.result) ∷ []) _ (accepted_more g.AB.InteractionBuilder.pushes (c.in_ok-receive.ensures.pushed.0 ∷ []) c.args.builder.now c.receive.new.builder c.send.new.builder (pushed_global c.new-memory.result c.in_ok-left.left.items c.from-2.result) (c.receive.new.builder, c.in_ok-receive.ensures.pushed.2, refl) c.in_ok-send.ensures.pushed) _ c.in_err-gap.ensures.refused)

pub returns : goal.returns
returns g c =
    answered_this g.AB.InteractionBuilder.pushes g.AB.InteractionBuilder.refuses_push g.AB.AirBuilder.window_refuses g.AB.AirBuilder.layout 5 c.args.builder.now (c.in_ok-receive.ensures.pushed.0 ∷ (pushed_global c.new-memory.result c.in_ok-left.left.items c.from-2.result) ∷ []) _ (accepted_more g.AB.InteractionBuilder.pushes (c.in_ok-receive.ensures.pushed.0 ∷ []) c.args.builder.now c.receive.new.builder c.send.new.builder (pushed_global c.new-memory.result c.in_ok-left.left.items c.from-2.result) (c.receive.new.builder, c.in_ok-receive.ensures.pushed.2, refl) c.in_ok-send.ensures.pushed) _ _ c.lookup_key.result _ _ _ c.lookup_key.ensures.pushed c.lookup_key.ensures.layout c.lookup_key.ensures.within
    (λ layout within. (
      layout ∙ c.in_ok-send.ensures.layout ∙ c.in_ok-receive.ensures.layout,
      λ old.
          within c.in_ok-gap.ensures.within (g.met.AB.Expr.Expression.whole_within _ _ _ c.from-3.ensures.0)
          (c.in_ok-send.ensures.within c.in_ok-left.ensures.within (g.met.AB.Expr.Expression.whole_within _ _ _ c.from-2.ensures.0)
          (c.in_ok-receive.ensures.within c.in_ok-found.ensures.within (g.met.AB.Expr.Expression.whole_within _ _ _ c.from.ensures.0) old)),
    ))
