use Rattle.language_witness.specs.Lines.{IsPlainlyShaped}
use Rattle.language_witness.proofs.reading.rows_of.Given as goal

-- what is read so far is plainly shaped
abbrev pub invariant-loop-line : goal.invariant-loop-line
invariant-loop-line g l = IsPlainlyShaped l.reading.witness
