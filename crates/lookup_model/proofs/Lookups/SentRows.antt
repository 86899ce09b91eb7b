-- What a row sends, lookup by lookup, and the plain accumulator after it.
use Rattle.std.proofs.Common.{◌≡◌, ℕ, ◌+◌, ◌<◌, Bool, List, [], length, map, get_or, sym, ap, subst, ◌∙◌, arith}
use Rattle.std.proofs.lemmas.List.{length-map}
use Rattle.std.proofs.lemmas.List.FromFn.{get_or-map-range_with_len, length-map-range_with_len}
use Rattle.std.proofs.lemmas.Option.{slice_get_read}
use Rattle.std.specs.List.{AllByRecursion}
use Rattle.list_laws.proofs.Each.{all_here}
use Rattle.list_laws.proofs.Images.{mapped_at}
use Rattle.field.specs.Extension.{Extension, IsLawful}
use Rattle.field.specs.Ring.{Ring}
use Rattle.field.specs.Sums.{sum_in}
use Rattle.air.specs.Traces.{AirTraces, window_of}
use Rattle.lookup_model.specs.Records.{AreRecords, HasEqualLengths}
use Rattle.lookup_model.specs.Message.{Key}
use Rattle.lookup_model.specs.Plain.{plain_accumulator, plain_fraction}
use Rattle.lookup_model.specs.Sent.{Sent, sent_at}
use Rattle.matrix.specs.Matrix.{height}
use Rattle.lookup_model.specs.Trace.{sent_row, sent_rows}
use Rattle.lookup_model.specs.declared.types.Lookup.{Lookup}
use Rattle.lookup_model.proofs.Lookups.Rows.{plain_accumulator-more}

-- the column of a well formed record is its index
pub column_is : {F : Type 0} (lookups : List (Lookup F)) (i : ℕ) (lookup : Lookup F) → AreRecords lookups → i < length lookups → lookup ≡ get_or lookups i lookup → lookup.column ≡ i
column_is lookups i lookup records lt is = (records i lookup lt (slice_get_read lookups (length lookups) i lookup (λ _. length lookups) lt is)).0

-- and its lists have equal lengths
pub equal_lengths : {F : Type 0} (lookups : List (Lookup F)) (i : ℕ) (lookup : Lookup F) → AreRecords lookups → i < length lookups → lookup ≡ get_or lookups i lookup → HasEqualLengths lookup
equal_lengths lookups i lookup records lt is = (records i lookup lt (slice_get_read lookups (length lookups) i lookup (λ _. length lookups) lt is)).1

-- row r is what the window of row r sends
pub sent_rows-at : {F : Type 0} (R : Ring F) (eq : F → F → Bool) (traces : AirTraces F) (lookups : List (Lookup F)) (r : ℕ) → r < height traces.main
    → let row = sent_row R eq (window_of traces r) lookups in row ≡ get_or (sent_rows R eq traces lookups) r row
sent_rows-at R eq traces lookups r lt =
    let f = λ (k : ℕ). sent_row R eq (window_of traces k) lookups in
    sym (get_or-map-range_with_len f 0 (height traces.main) r r (f r) lt (omega arith))

-- and so it is the item at r
pub get_or-sent_rows : {F : Type 0} (R : Ring F) (eq : F → F → Bool) (traces : AirTraces F) (lookups : List (Lookup F)) (r : ℕ) → r < height traces.main → get_or (sent_rows R eq traces lookups) r [] ≡ sent_row R eq (window_of traces r) lookups
get_or-sent_rows R eq traces lookups r lt =
    let f = λ (k : ℕ). sent_row R eq (window_of traces k) lookups in
    get_or-map-range_with_len f 0 (height traces.main) r r [] lt (omega arith)

-- the number of rows is the height of the trace
pub length-sent_rows : {F : Type 0} (R : Ring F) (eq : F → F → Bool) (traces : AirTraces F) (lookups : List (Lookup F)) → length (sent_rows R eq traces lookups) ≡ height traces.main
length-sent_rows R eq traces lookups =
    length-map-range_with_len (λ k. sent_row R eq (window_of traces k) lookups) 0 (height traces.main)

-- the length of each row is the number of lookups
pub length-sent_rows-at : {F : Type 0} (R : Ring F) (eq : F → F → Bool) (traces : AirTraces F) (lookups : List (Lookup F)) (r : ℕ) → r < height traces.main → length (get_or (sent_rows R eq traces lookups) r []) ≡ length lookups
length-sent_rows-at R eq traces lookups r lt =
    ap length (get_or-sent_rows R eq traces lookups r lt) ∙ length-map lookups (λ l. sent_at R eq (window_of traces r) l.column l)

-- what holds of all that is sent holds of what a lookup sends on a row
pub sent_rows-each : {F : Type 0} (R : Ring F) (eq : F → F → Bool) (traces : AirTraces F) (lookups : List (Lookup F)) (P : Sent F → Type 0) → AllByRecursion (AllByRecursion P) (sent_rows R eq traces lookups)
    → (r : ℕ) → r < height traces.main → (k : ℕ) (lookup : Lookup F) → k < length lookups → lookup ≡ get_or lookups k lookup → P (sent_at R eq (window_of traces r) lookup.column lookup)
sent_rows-each R eq traces lookups P all r lt k lookup below is =
    let sent_of = λ (l : Lookup _). sent_at R eq (window_of traces r) l.column l in
    let of_row : AllByRecursion P (map sent_of lookups) =
    subst (AllByRecursion P) (get_or-sent_rows R eq traces lookups r lt) (all_here (AllByRecursion P) (sent_rows R eq traces lookups) r [] (omega (arith, length-sent_rows R eq traces lookups, lt)) all) in
    subst P (sym (mapped_at sent_of lookups k lookup below is)) (all_here P (map sent_of lookups) k (sent_of lookup) (omega (arith, length-map lookups sent_of, below)) of_row)

-- the plain accumulator after a row
pub accumulator_after : {F K : Type 0} (E : Extension F K) (denominator : Key F → K) (traces : AirTraces F) (lookups : List (Lookup F)) → IsLawful E → (r : ℕ) → r < height traces.main → let rows = sent_rows E.base E.base_eq traces lookups in
    plain_accumulator E denominator rows (r + 1) ≡ E.ring.add (plain_accumulator E denominator rows r) (sum_in E.ring (map (plain_fraction E denominator) (sent_row E.base E.base_eq (window_of traces r) lookups)))
accumulator_after E denominator traces lookups laws r lt =
    plain_accumulator-more E denominator laws (sent_rows E.base E.base_eq traces lookups) r (sent_row E.base E.base_eq (window_of traces r) lookups) (omega (arith, length-sent_rows E.base E.base_eq traces lookups, lt)) (sent_rows-at E.base E.base_eq traces lookups r lt)
