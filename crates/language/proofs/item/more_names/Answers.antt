use Rattle.std.proofs.Common.{Ok, Option, ap, length, ◌∙◌}
use Rattle.std.proofs.lemmas.Result.{err_from_is_err_and}
use Rattle.language.specs.declared.token.Span.{Span}
use Rattle.language.specs.Items.{more_name}
use Rattle.language.proofs.ListLaws.{many-end, many-endless, many-fault, many-more}
use Rattle.language.proofs.item.more_names.Goals as goal

pub returns-in_err-value : goal.returns-in_err-value
returns-in_err-value c =
    let p = err_from_is_err_and c.from_residual-in_err-value.result c.from_residual-in_err-value.ensures.1 in
    rw (p.1, p.2)
    (many-fault more_name (length c.args.tokens.now) c.loop.counter c.loop.values.items c.loop.left.now _ c.loop.invariant c.in_err-value.field-0.0 c.loop-test.true c.in_err-value.ensures)

pub returns-in_default : goal.returns-in_default
returns-in_default c =
    many-end more_name (length c.args.tokens.now) c.loop.counter c.loop.values.items c.loop.left.now _ c.loop.invariant c.in_ok-value.after.now c.loop-test.true (c.in_ok-value.ensures ∙ ap (λ (x : Option Span). Ok (x, c.in_ok-value.after.now)) c.in_default.is)

pub loop-preserved : goal.loop-preserved
loop-preserved c =
    let x : Span = c.in-Some.value in
    let items = c.in_ok-push-2.ensures.items in
    rw items
    (many-more more_name (length c.args.tokens.now) c.loop.counter c.loop.values.items c.loop.left.now _ c.loop.invariant x c.in_ok-value.after.now c.loop-test.true (c.in_ok-value.ensures ∙ ap (λ (x : Option Span). Ok (x, c.in_ok-value.after.now)) c.in-Some.is))

pub returns : goal.returns
returns c =
    rw c.place.ensures (many-endless more_name (length c.args.tokens.now) c.loop.counter c.loop.values.items c.loop.left.now _ c.loop.invariant c.loop-test.false)
