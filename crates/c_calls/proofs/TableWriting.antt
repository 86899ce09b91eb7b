-- What the tables of a set rest on.
use Rattle.std.proofs.Common.{◌≡◌, ◌∷◌, ◌+◌, ◌<◌, [], ℕ, suc, List, Some, ap₂, arith, length, map, refl, slice_get}
use Rattle.std.specs.List.{range_with_len}
use Rattle.lookup_model.specs.Records.{AreRecords}
use Rattle.lookup_model.specs.declared.types.Lookup.{Lookup}

-- columns from n on
columns_from : {F : Type 0} (n : ℕ) (lookups : List (Lookup F)) → ((i : ℕ) (l : Lookup F) → i < length lookups → slice_get lookups i ≡ Some l → l.column ≡ n + i)
    → map (λ l. l.column) lookups ≡ range_with_len n (length lookups)
columns_from n [] are = refl
columns_from n (l ∷ ls) are =
    let first : l.column ≡ n = omega (arith, are 0 l (omega arith) refl) in
    ap₂ (λ c cs. c ∷ cs) first (columns_from (n + 1) ls (λ i other below there. omega (arith, are (suc i) other (omega (arith, below)) there)))

-- the columns of a set are 0, 1, 2, …
pub columns_are : {F : Type 0} (lookups : List (Lookup F)) → AreRecords lookups → map (λ l. l.column) lookups ≡ range_with_len 0 (length lookups)
columns_are lookups records = columns_from 0 lookups (λ i l below there. omega (arith, (records i l below there).0))
