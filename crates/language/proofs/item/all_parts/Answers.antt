use Rattle.std.proofs.Common.{◌≡◌, ◌++◌, ◌∷◌, [], Ok, Option, ap, length, map, option_map, ◌∙◌}
use Rattle.std.proofs.lemmas.List.{map_push}
use Rattle.std.proofs.lemmas.Result.{err_from_is_err_and}
use Rattle.language.specs.declared.item.PartText.{PartText}
use Rattle.language.specs.Items.{more_part, group_part_of}
use Rattle.language.proofs.ListLaws.{many-end, many-endless, many-fault, many-more, with_front-start}
use Rattle.language.proofs.item.all_parts.Goals as goal

pub loop-init : goal.loop-init
loop-init c = rw c.new-values.ensures.items (with_front-start (more_part c.args.exclusive) (length c.args.tokens.now) c.args.tokens.now)

pub returns-in_err-value : goal.returns-in_err-value
returns-in_err-value c =
    let p = err_from_is_err_and c.from_residual.result c.from_residual.ensures.1 in
    rw (p.1, p.2)
    (many-fault (more_part c.args.exclusive) (length c.args.tokens.now) c.loop.counter (map group_part_of c.loop.values.items) c.loop.left.now _ c.loop.invariant c.in_err-value.field-0.0 c.loop-test.true c.in_err-value.ensures)

pub returns-in_default : goal.returns-in_default
returns-in_default c =
    many-end (more_part c.args.exclusive) (length c.args.tokens.now) c.loop.counter (map group_part_of c.loop.values.items) c.loop.left.now _ c.loop.invariant c.in_ok-value.after.now c.loop-test.true (c.in_ok-value.ensures ∙ ap (λ (x : Option PartText). Ok (option_map group_part_of x, c.in_ok-value.after.now)) c.in_default.is)

pub loop-preserved : goal.loop-preserved
loop-preserved c =
    let x : PartText = c.in-Some.value in
    let items : map group_part_of c.push.new.self.items ≡ map group_part_of c.loop.values.items ++ group_part_of x ∷ [] = ap (map group_part_of) c.in_ok-push.ensures.items ∙ map_push group_part_of c.loop.values.items x in
    rw items
    (many-more (more_part c.args.exclusive) (length c.args.tokens.now) c.loop.counter (map group_part_of c.loop.values.items) c.loop.left.now _ c.loop.invariant (group_part_of x) c.in_ok-value.after.now c.loop-test.true (c.in_ok-value.ensures ∙ ap (λ (x : Option PartText). Ok (option_map group_part_of x, c.in_ok-value.after.now)) c.in-Some.is))

pub returns : goal.returns
returns c =
    rw c.place.ensures (many-endless (more_part c.args.exclusive) (length c.args.tokens.now) c.loop.counter (map group_part_of c.loop.values.items) c.loop.left.now _ c.loop.invariant c.loop-test.false)
