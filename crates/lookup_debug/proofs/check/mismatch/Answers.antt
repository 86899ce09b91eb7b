use Rattle.std.proofs.Common.{refl}
use Rattle.lookup_debug.proofs.check.mismatch.Goals as goal

pub returns : goal.returns
returns g c = record {
  name = c.args.label;
  texts = c.in_ok-tuple.tuple;
  locations = c.args.locations;
  fault_is = refl;
  label_is = refl;
  tuple_is = c.in_ok-tuple.ensures;
  locations_are = refl;
}
