use Rattle.std.proofs.Common.{◌≡◌, ◌++◌, string_bytes, take}
use Rattle.lookup_model.specs.Batches.Witnesses.{results_of}
use Rattle.language_witness.specs.Lines.{witness_lines}
use Rattle.language_witness.proofs.writing.push_witness.Given as goal

abbrev pub invariant-loop-air : goal.invariant-loop-air
invariant-loop-air g l = string_bytes l.text ≡ string_bytes l.fn.text ++ witness_lines g.EF.Field.text (take l.air (results_of l.witness))
