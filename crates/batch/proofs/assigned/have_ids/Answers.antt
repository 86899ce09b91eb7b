use Rattle.std.proofs.Common.{◌≡◌, ◌<◌, length, ap, sym, true≢false, arith}
use Rattle.lookup.specs.Lookups.{lookups_of}
use Rattle.batch.proofs.IdCounts.{counts_next, same_at}
use Rattle.batch.proofs.assigned.have_ids.Goals as goal

pub returns-then-len-as_slice : goal.returns-then-len-as_slice
returns-then-len-as_slice g c =
    let ids = c.args.ids.now in
    let airs = c.args.airs.now in
    let list = c.index-ids-air.result in
    let in_ids : c.loop-air.air < length ids = omega (arith, c.if-ids-airs.false, c.loop-air-test.true) in (
      λ yes. absurd (true≢false (sym yes)),
      λ same.
          let own = same_at ids airs c.loop-air.air list c.index-airs-air.result in_ids c.loop-air-test.true c.index-ids-air.is c.index-airs-air.is same in
          absurd (omega (arith, c.if-len-as_slice.true, c.len.ensures, list.ok.0, ap length c.as_slice.ensures.lookups, own)),
    )

pub loop-air-preserved : goal.loop-air-preserved
loop-air-preserved g c =
    let ids = c.args.ids.now in
    let airs = c.args.airs.now in
    let list = c.index-ids-air.result in
    let air = c.index-airs-air.result in
    let in_ids : c.loop-air.air < length ids = omega (arith, c.if-ids-airs.false, c.loop-air-test.true) in
    let same : length list.items ≡ length (lookups_of air) = omega (arith, c.if-len-as_slice.false, c.len.ensures, list.ok.0, ap length c.as_slice.ensures.lookups) in
    counts_next ids airs c.loop-air.air list air in_ids c.loop-air-test.true c.index-ids-air.is c.index-airs-air.is same c.loop-air.invariant
