use Rattle.std.proofs.Common.{◌≡◌, length}
use Rattle.language_meaning.specs.Paths.{folder_of}
use Rattle.language_meaning.proofs.path.folder_of.Given as goal

abbrev pub invariant-loop-folder : goal.invariant-loop-folder
invariant-loop-folder l = folder_of l.folder ≡ folder_of l.fn.file

abbrev pub decreases-loop-folder : goal.decreases-loop-folder
decreases-loop-folder l = length l.folder
