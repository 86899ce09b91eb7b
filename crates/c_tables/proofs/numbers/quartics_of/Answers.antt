use Rattle.std.proofs.Common.{◌≤◌, ℕ, All, arith, refl, subst, sym, take}
use Rattle.c_tables.proofs.GroupLaws.{chunk_next, up_to_next}
use Rattle.c_tables.specs.internal.Numbers.{IsNumberGroupUpTo}
use Rattle.c_tables.proofs.numbers.quartics_of.Goals as goal

pub loop-first-preserved : goal.loop-first-preserved
loop-first-preserved g c =
    let groups = c.args.groups.now in
    let so_far = c.loop-first.invariant in
    let up : c.loop-first.first ≤ c.chunk_end-end.result = omega (arith, c.chunk_end-end.ensures.further) in
    record {
      within = c.chunk_end-end.ensures.within;
      values = chunk_next g.K.MontyParameters.positive groups c.loop-first.first c.chunk_end-end.result _ c.loop-first.values.items _ up refl c.in_ok-most.ensures.pushed so_far.values;
      has_room = omega (arith, so_far.has_room, c.in_ok-most.ensures.room);
      greatest = subst (λ (m : ℕ). All (IsNumberGroupUpTo m) (take c.chunk_end-end.result groups)) (sym c.max-greatest.ensures)
          (up_to_next groups c.loop-first.first c.chunk_end-end.result _ c.loop-first.greatest c.in_ok-most.most up refl so_far.greatest c.in_ok-most.ensures.most);
    }
