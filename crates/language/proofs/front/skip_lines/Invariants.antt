use Rattle.std.proofs.Common.{◌≡◌, length}
use Rattle.language.specs.Fronts.{after_lines}
use Rattle.language.proofs.front.skip_lines.Given as goal

abbrev pub invariant-loop-left : goal.invariant-loop-left
invariant-loop-left l = after_lines l.left ≡ after_lines l.tokens

abbrev pub decreases-loop-left : goal.decreases-loop-left
decreases-loop-left l = length l.left
