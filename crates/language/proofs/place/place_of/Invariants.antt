use Rattle.std.proofs.Common.{◌≡◌, ◌+◌, count_by, take}
use Rattle.language.specs.Places.{BeginsLastLine, is_line_end}
use Rattle.language.proofs.place.place_of.Given as goal

abbrev pub invariant-loop-index : goal.invariant-loop-index
invariant-loop-index l = record {
  counted : l.line ≡ 1 + count_by is_line_end (take l.index l.front);
  begins : BeginsLastLine (take l.index l.front) l.start;
}
