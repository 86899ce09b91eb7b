-- The branches that are made of flags and keys.
use Rattle.std.proofs.Common.{◌≡◌, List, map, All}
use Rattle.std.proofs.lemmas.List.Elements.{All-map, All-same}
use Rattle.std.specs.declared.vec.Vec.{Vec}
use Rattle.list_laws.proofs.Each.{All-of_map}
use Rattle.lookup_record.specs.Interaction.{Branch}
use Rattle.lookup_record.specs.Messages.{flag_and_fields, flag_and_key}
use Rattle.lookup_record.specs.Within.{BranchWithin, KeyWithin}

-- branches of flags and keys within a layout stay within it, if their counts do
pub branches_within : {E L Z : Type 0} (within : L → E → Type 0) (layout : L) (given : List (E × Vec E Z)) (branches : List (Branch E)) → map flag_and_fields branches ≡ map flag_and_key given → All (KeyWithin within layout) given → All (λ b. within layout b.count) branches → All (BranchWithin within layout) branches
branches_within {E} within layout given branches same keys counts k d l =
    record { flag = (keys_of k d l).0; count = counts k d l; fields = (keys_of k d l).1 }
  where
    IsKey : E × List E → Type 0
    IsKey key = within layout key.0 × All (within layout) key.1

    keys_of : All (λ b. IsKey (flag_and_fields b)) branches
    keys_of = All-of_map IsKey flag_and_fields branches
        (All-same IsKey (map flag_and_fields branches) (map flag_and_key given) same (All-map IsKey flag_and_key given keys))
