use Rattle.std.proofs.Common.{◌≡◌, ◌++◌, codes, string_bytes, take}
use Rattle.std.specs.List.{flat_map}
use Rattle.language_witness.proofs.writing.push_rest.Given as goal

abbrev pub invariant-loop-cell : goal.invariant-loop-cell
invariant-loop-cell g l = string_bytes l.text ≡ string_bytes l.fn.text ++ flat_map (λ cell. codes " " ++ g.EF.Field.text cell) (take l.cell-index l.cells)
