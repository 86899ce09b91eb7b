use Rattle.std.proofs.Common.{◌≡◌, ◌++◌, ◌∷◌, [], Ok, Option, ap, length, map, option_map, ◌∙◌}
use Rattle.std.proofs.lemmas.List.{map_push}
use Rattle.std.proofs.lemmas.Result.{err_from_is_err_and}
use Rattle.language.specs.declared.item.PlacedItem.{PlacedItem}
use Rattle.language.specs.Batches.{more_item}
use Rattle.language.specs.Items.{placed_of}
use Rattle.language.proofs.ListLaws.{many-end, many-endless, many-fault, many-more, with_front-start}
use Rattle.language.proofs.batch.read_items.Goals as goal

pub loop-init : goal.loop-init
loop-init c = rw c.new-values.ensures.items (with_front-start more_item (length c.args.tokens.now) c.args.tokens.now)

pub returns-in_err-value : goal.returns-in_err-value
returns-in_err-value c =
    let p = err_from_is_err_and c.from_residual.result c.from_residual.ensures.1 in
    rw (p.1, p.2)
    (many-fault more_item (length c.args.tokens.now) c.loop.counter (map placed_of c.loop.values.items) c.loop.left.now _ c.loop.invariant c.in_err-value.field-0.0 c.loop-test.true c.in_err-value.ensures)

pub returns-in_default : goal.returns-in_default
returns-in_default c =
    many-end more_item (length c.args.tokens.now) c.loop.counter (map placed_of c.loop.values.items) c.loop.left.now _ c.loop.invariant c.in_ok-value.after.now c.loop-test.true (c.in_ok-value.ensures ∙ ap (λ (x : Option PlacedItem). Ok (option_map placed_of x, c.in_ok-value.after.now)) c.in_default.is)

pub loop-preserved : goal.loop-preserved
loop-preserved c =
    let x : PlacedItem = c.in-Some.value in
    let items : map placed_of c.push.new.self.items ≡ map placed_of c.loop.values.items ++ placed_of x ∷ [] = ap (map placed_of) c.in_ok-push.ensures.items ∙ map_push placed_of c.loop.values.items x in
    rw items
    (many-more more_item (length c.args.tokens.now) c.loop.counter (map placed_of c.loop.values.items) c.loop.left.now _ c.loop.invariant (placed_of x) c.in_ok-value.after.now c.loop-test.true (c.in_ok-value.ensures ∙ ap (λ (x : Option PlacedItem). Ok (option_map placed_of x, c.in_ok-value.after.now)) c.in-Some.is))

pub returns : goal.returns
returns c =
    rw c.place.ensures (many-endless more_item (length c.args.tokens.now) c.loop.counter (map placed_of c.loop.values.items) c.loop.left.now _ c.loop.invariant c.loop-test.false)
