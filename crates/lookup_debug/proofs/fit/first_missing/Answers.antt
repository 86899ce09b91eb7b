use Rattle.std.proofs.Common.{arith, refl}
use Rattle.list_laws.proofs.Each.{All-held}
use Rattle.list_laws.proofs.Items.{holds_next, item_there}
use Rattle.lookup_model.specs.Records.{IsWithin}
use Rattle.lookup_debug.proofs.fit.first_missing.Goals as goal

pub returns-in-Some : goal.returns-in-Some
returns-in-Some g c = record {
  index = c.loop-index.index;
  item = c.index-lookups-index.result;
  is_there = item_there c.args.lookups.now c.loop-index.index c.index-lookups-index.result c.loop-index-test.true c.index-lookups-index.is;
  before = c.loop-index.invariant;
  fault = (refl, c.in-Some.ensures);
}

pub loop-index-preserved : goal.loop-index-preserved
loop-index-preserved g c =
    holds_next (IsWithin c.args.layout.now) c.args.lookups.now c.loop-index.index c.index-lookups-index.result
    (item_there c.args.lookups.now c.loop-index.index c.index-lookups-index.result c.loop-index-test.true c.index-lookups-index.is) c.in_default.ensures c.loop-index.invariant

pub returns : goal.returns
returns g c = All-held (IsWithin c.args.layout.now) c.args.lookups.now c.loop-index.index (omega (arith, c.loop-index-test.false)) c.loop-index.invariant
