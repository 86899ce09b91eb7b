use Rattle.std.proofs.Common.{◌≡◌, ◌++◌, [], ◌∷◌, List, Some, ap, arith, length, option_map, slice_get, sym, ◌∙◌}
use Rattle.std.proofs.lemmas.List.{length-map, take_all}
use Rattle.std.proofs.lemmas.Option.{get_or_from_slice_get, slice_get-map, slice_get_within}
use Rattle.std.specs.Borrow.{Bor}
use Rattle.list_laws.proofs.Items.{take_item}
use Rattle.lookup_debug.specs.internal.Arena.{amounts_in}
use Rattle.lookup_debug.specs.internal.Nets.{amount_nets}
use Rattle.lookup_debug.proofs.arena.merge_equal.Goals as goal

pub loop-index-preserved : goal.loop-index-preserved
loop-index-preserved g c =
    let all = amount_nets g.F.PrimeCharacteristicRing.ring g.F.PartialEq.eq (amounts_in c.args.contributions.now) in
    let index = c.loop-index.index in
    let entry = c.entry_at-net.result in
    let x : List _ × _ = (entry.0.now, entry.1) in
    let there : slice_get all index ≡ Some x =
    sym (ap (λ t. slice_get t index) c.in_ok-nets.ensures)
    ∙ slice_get-map (λ (e : Bor (List _) × _). (e.0.now, e.1)) c.in_ok-nets.nets.entries index
    ∙ ap (option_map (λ (e : Bor (List _) × _). (e.0.now, e.1))) c.entry_at-net.ensures in (
      c.in_ok-push.ensures.0,
      c.in_ok-push.ensures.1
          ∙ ap (λ t. t ++ x ∷ []) c.loop-index.invariant.1
          ∙ sym (take_item all index x (slice_get_within all index x there) (sym (get_or_from_slice_get all index x x there))),
    )

pub returns : goal.returns
returns g c =
    let all = amount_nets g.F.PrimeCharacteristicRing.ring g.F.PartialEq.eq (amounts_in c.args.contributions.now) in
    let es = c.in_ok-nets.nets.entries in
    let many = ap length (sym c.in_ok-nets.ensures) ∙ length-map es (λ (e : Bor (List _) × _). (e.0.now, e.1)) in (
      c.loop-index.invariant.0,
      c.loop-index.invariant.1 ∙ take_all c.loop-index.index all (omega (arith, many, c.loop-index-test.false)),
    )
