use Rattle.std.proofs.Common.{◌≡◌, None, drop, map}
use Rattle.language.specs.Items.{placed_of}
use Rattle.language_meaning.specs.declared.table_fault.TableWhy.TheVariants.{RepeatedTrace}
use Rattle.language_meaning.specs.Tables.{one_of, trace_in}
use Rattle.language_meaning.proofs.tables.one_trace.Given as goal

-- what the items that are left name after what is found is what all name
abbrev pub invariant-loop-item : goal.invariant-loop-item
invariant-loop-item l = one_of trace_in RepeatedTrace l.found (map placed_of (drop l.item-index l.items)) ≡ one_of trace_in RepeatedTrace None (map placed_of l.items)
