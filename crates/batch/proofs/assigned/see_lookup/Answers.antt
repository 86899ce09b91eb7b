use Rattle.std.proofs.Common.{◌<◌, ◌∙◌, Some, ap, refl, sym, arith}
use Rattle.std.proofs.lemmas.Result.{IfOk-weaker}
use Rattle.lookup_model.specs.Outline.{bus_of}
use Rattle.batch.proofs.SeenLaws.{bus_seen, local_seen}
use Rattle.batch.proofs.assigned.see_lookup.Goals as goal

pub returns-in_ok-insert-in-Local : goal.returns-in_ok-insert-in-Local
returns-in_ok-insert-in-Local g c = λ all seen.
    let m = c.args.num_ids in
    let low : c.args.id < m = omega (arith, c.if-id-num_ids.false) in
    let is = c.in_ok-insert-in-Local.ensures in
    local_seen m all (c.args.id, c.args.lookup.now) c.args.seen.now (record { names = c.args.seen.now.names; ids = c.insert.new.self }) seen low (ap bus_of c.in-Local.is) refl
    c.in_ok-insert-in-Local.field-0 (record { answer_is = is.added; keys = is.keys })

pub returns-in-Global : goal.returns-in-Global
returns-in-Global g c =
    let m = c.args.num_ids in
    let low : c.args.id < m = omega (arith, c.if-id-num_ids.false) in
    IfOk-weaker c.see_on_bus.result _ _
    (λ lawful is all seen. bus_seen m all (c.args.id, c.args.lookup.now) c.args.seen.now c.see_on_bus.new.seen seen low c.as_str.result (ap bus_of c.in-Global.is ∙ ap Some (sym c.as_str.ensures.value)) lawful is)
    c.see_on_bus.ensures
