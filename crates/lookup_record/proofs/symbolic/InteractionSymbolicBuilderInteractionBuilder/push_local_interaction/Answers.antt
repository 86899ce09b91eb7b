use Rattle.std.proofs.Common.{refl}
use Rattle.std.proofs.lemmas.List.{map-append}
use Rattle.std.proofs.lemmas.Result.{err_from_is_err_and}
use Rattle.lookup_record.proofs.symbolic.InteractionSymbolicBuilderInteractionBuilder.push_local_interaction.Goals as goal

pub returns : goal.returns
returns g c = rw (c.in_ok-push.ensures.items, map-append) refl

pub returns-in_err-push : goal.returns-in_err-push
returns-in_err-push g c =
    let p = err_from_is_err_and c.from_residual.result c.from_residual.ensures.1 in
    rw p.1 (rw c.in_err-push.ensures.items refl, p.2)
