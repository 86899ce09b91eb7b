use Rattle.std.proofs.Common.{◌≡◌, drop, map}
use Rattle.language_meaning.specs.Files.{content_of, named_of}
use Rattle.language_meaning.proofs.files.content_of.Given as goal

abbrev pub invariant-loop-file : goal.invariant-loop-file
invariant-loop-file l = content_of l.name (map named_of (drop l.file-index l.files)) ≡ content_of l.name (map named_of l.files)
