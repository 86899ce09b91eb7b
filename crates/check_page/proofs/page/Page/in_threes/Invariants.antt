use Rattle.std.proofs.Common.{◌≡◌, ◌++◌, drop}
use Rattle.check_page.specs.Shown.{in_threes}
use Rattle.check_page.proofs.page.Page.in_threes.Given as goal

abbrev pub invariant-loop-index : goal.invariant-loop-index
invariant-loop-index l = l.self.bytes.items ++ in_threes (drop l.index l.digits) ≡ l.fn.self.bytes.items ++ in_threes l.digits
