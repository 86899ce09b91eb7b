use Rattle.std.proofs.Common.{◌≡◌, ◌++◌, map, take}
use Rattle.check_page.specs.Shown.{shown_byte}
use Rattle.check_page.proofs.page.Page.shown.Given as goal

abbrev pub invariant-loop-byte : goal.invariant-loop-byte
invariant-loop-byte l = l.self.bytes.items ≡ l.fn.self.bytes.items ++ map shown_byte (take l.byte-index l.bytes)
