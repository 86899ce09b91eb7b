use Rattle.std.proofs.Common.{arith}
use Rattle.lookup_debug.specs.declared.arena.Contributions.{Contributions}
use Rattle.lookup_debug.proofs.SpanLaws.{appends-span}
use Rattle.lookup_debug.proofs.arena.Contributions.push.Goals as goal

pub returns : goal.returns
returns g c =
    let before : Contributions _ = c.args.self.now in
    let after : Contributions _ = record { elements = c.extend_from_slice.new.self; spans = c.push.new.self; limit = before.limit } in
    appends-span before after c.args.tuple.now _ c.requires.within c.in_ok-extend_from_slice.ensures.items c.in_ok-push.ensures.items (omega (arith, c.len-start.ensures, before.elements.ok.0)) (omega (arith, c.len-end.ensures, after.elements.ok.0))
