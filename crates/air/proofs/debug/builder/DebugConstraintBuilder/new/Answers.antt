use Rattle.std.proofs.Common.{refl}
use Rattle.air.proofs.debug.builder.DebugConstraintBuilder.new.Goals as goal

pub returns : goal.returns
returns g c = record {
  window = rw (c.window_of_rows.ensures.current, c.window_of_rows.ensures.next, c.window_of_option.ensures.current, c.window_of_option.ensures.next, c.window_of_rows-2.ensures.current, c.window_of_rows-2.ensures.next, c.height-height.ensures.height) refl;
  layout = rw (c.window_of_rows.ensures.len, c.window_of_option.ensures.len, c.window_of_rows-2.ensures.len) refl;
  row_is = refl;
  height_is = c.height-height.ensures.height;
}
