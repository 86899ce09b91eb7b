use Rattle.std.proofs.Common.{◌∙◌, ap}
use Rattle.c_calls.specs.GroupNumbers.{table_numbers}
use Rattle.c_calls.proofs.debug_numbers.numbers_of.Goals as goal

pub bus_table-requires-clause-fit : goal.bus_table-requires-clause-fit
bus_table-requires-clause-fit g c = λ k d there. (c.requires k d there).fit

pub bus_table-requires-clause-heights : goal.bus_table-requires-clause-heights
bus_table-requires-clause-heights g c = λ k d there. (c.requires k d there).heights

pub mismatch_of-requires-clause-fit : goal.mismatch_of-requires-clause-fit
mismatch_of-requires-clause-fit g c = λ k d there. (c.requires k d there).fit

pub mismatch_of-requires-clause-heights : goal.mismatch_of-requires-clause-heights
mismatch_of-requires-clause-heights g c = λ k d there. (c.requires k d there).heights
