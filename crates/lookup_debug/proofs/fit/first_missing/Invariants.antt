use Rattle.std.proofs.Common.{◌≡◌, ◌<◌, ℕ, Some}
use Rattle.std.specs.List.{slice_get}
use Rattle.lookup_model.specs.Records.{IsWithin}
use Rattle.lookup_model.specs.declared.types.Lookup.{Lookup}
use Rattle.lookup_debug.proofs.fit.first_missing.Given as goal

abbrev pub invariant-loop-index : goal.invariant-loop-index
invariant-loop-index g l = (i : ℕ) (other : Lookup _) → i < l.index → slice_get l.lookups i ≡ Some other → IsWithin l.layout other
