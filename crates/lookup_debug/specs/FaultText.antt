-- The text of a fault.
use Rattle.std.specs.Prelude.{ℕ, ◌++◌, List, codes, decimal, map}
use Rattle.std.specs.List.{join_by}
use Rattle.std.specs.String.{string_bytes}
use Rattle.lookup_debug.specs.Contributions.{SentLocation, location_of}
use Rattle.lookup_debug.specs.declared.fault.LookupFault.{LookupFault}
use Rattle.lookup_debug.specs.declared.fault.LookupFault.TheVariants.{Mismatch, Memory}

-- `instance I lookup L row R`
abbrev pub location_text : SentLocation → List ℕ
location_text p = codes "instance " ++ (decimal p.instance ++ (codes " lookup " ++ (decimal p.lookup ++ (codes " row " ++ decimal p.row))))

-- `Lookup mismatch (LABEL): tuple [T, T] has net multiplicity N at LOCATION; LOCATION`
abbrev pub mismatch_text : List ℕ → List (List ℕ) → List ℕ → List SentLocation → List ℕ
mismatch_text label tuple net locations =
    codes "Lookup mismatch (" ++ (label ++ (codes "): tuple [" ++ (join_by (λ t. t) (codes ", ") tuple
    ++ (codes "] has net multiplicity " ++ (net ++ (codes " at " ++ join_by location_text (codes "; ") locations))))))

-- the text of a fault, where text is that of an element
abbrev pub fault_text : {F : Type 0} → (F → List ℕ) → LookupFault F → List ℕ
fault_text text Memory = codes "out of memory"
fault_text text (Mismatch label tuple net locations) =
    mismatch_text (string_bytes label) (map (λ t. string_bytes t) tuple.items) (text net) (map location_of locations.items)
