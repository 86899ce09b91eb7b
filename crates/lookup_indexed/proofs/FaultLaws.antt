-- Laws of faults: how a walk over declarations finds the first one.
use Rattle.std.proofs.Common.{arith, ◌≡◌, ◌+◌, ◌<◌, ◌≤◌, ◌⊎◌, ℕ, nat_eq, List, All, length, map, take, get_or, refl, sym, subst, inr, true, false}
use Rattle.std.proofs.lemmas.Bool.{eqb-true}
use Rattle.std.proofs.lemmas.List.{take_all, take_more}
use Rattle.std.proofs.lemmas.List.Elements.{All-push}
use Rattle.std.proofs.lemmas.Map.Keys.{IsDistinct-push}
use Rattle.std.proofs.lemmas.Map.Views.{Contains-from_any}
use Rattle.std.specs.Cmp.{nat_eq_equiv}
use Rattle.std.specs.List.{Contains, list_any}
use Rattle.std.specs.String.{string_bytes}
use Rattle.std.specs.declared.alloc.Global.{Global}
use Rattle.std.specs.declared.string.String.{String}
use Rattle.std.proofs.lemmas.List.{get_or_default, length-map, take-map}
use Rattle.list_laws.proofs.Images.{mapped_at}
use Rattle.air_expressions.specs.Faults.{SplitsAtFault}
use Rattle.air_expressions.proofs.FirstFaults.{split_fault}
use Rattle.lookup_indexed.specs.Faults.{AreDistinctColumns, IsColumnFault, IsFirstColumnFault, NamesTable}
use Rattle.lookup_indexed.specs.declared.error.IndexedLookupError.{IndexedLookupError}
use Rattle.lookup_indexed.specs.declared.error.IndexedLookupError.TheVariants.{Memory}

-- a refusal made with a copy of the table's name
pub named : (table : List ℕ) (refusal : String Global → IndexedLookupError) (name : String Global) → string_bytes name ≡ table → (refusal name ≡ Memory) ⊎ NamesTable table refusal (refusal name)
named table refusal name is =
    inr (record { name = name; name_is = is; refusal_is = refl })

-- the first fault is that of the column at an index before which there is none
pub first_column_fault : (table : List ℕ) (width : ℕ) (columns : List ℕ) (i : ℕ) (e : IndexedLookupError) → i < length columns → AreDistinctColumns width (take i columns) → IsColumnFault table width e (take i columns) (get_or columns i 0) → IsFirstColumnFault table width columns e
first_column_fault table width columns i e lt good fault =
    split_fault (AreDistinctColumns width) (IsColumnFault table width e) columns i (get_or columns i 0) lt (get_or_default columns i 0 (get_or columns i 0) lt) good fault

-- one more column without a fault
pub columns_more : (width : ℕ) (columns : List ℕ) (i : ℕ) → i < length columns → AreDistinctColumns width (take i columns) → get_or columns i 0 < width → list_any (nat_eq (get_or columns i 0)) (take i columns) ≡ false → AreDistinctColumns width (take (i + 1) columns)
columns_more width columns i lt good within new =
    subst (λ (cs : List ℕ). AreDistinctColumns width cs) (sym (take_more columns i 0 lt)) (record {
      within = All-push (λ c. c < width) (take i columns) (get_or columns i 0) good.within within;
      distinct = IsDistinct-push nat_eq_equiv (take i columns) (get_or columns i 0) good.distinct new;
    })

-- a column that was met among others is one of them
pub met_before : (columns : List ℕ) (column : ℕ) → list_any (nat_eq column) columns ≡ true → Contains columns column
met_before columns column met = Contains-from_any (λ x y h. eqb-true x y h) column columns met

module _ {X Y : Type 0} (f : X → Y) (P : Y → Type 0) (xs : List X) (i : ℕ) where
  -- the first fault of a list of declarations is that of the item at an index before which there is none
  pub first_declared_fault : (x : X) (IsFault : List Y → Y → Type 0) → i < length xs → x ≡ get_or xs i x → All P (map f (take i xs)) → IsFault (map f (take i xs)) (f x) → SplitsAtFault (All P) IsFault (map f xs)
  first_declared_fault x IsFault lt is good fault =
      split_fault (All P) IsFault (map f xs) i (f x) (omega (arith, length-map xs f, lt)) (mapped_at f xs i x lt is)
      (subst (All P) (sym (take-map f i xs)) good) (subst (λ (ys : List Y). IsFault ys (f x)) (sym (take-map f i xs)) fault)

  -- after the last index a fact of the first ones holds of all
  pub all_at_end : length xs ≤ i → All P (map f (take i xs)) → All P (map f xs)
  all_at_end le all = subst (λ (ys : List X). All P (map f ys)) (take_all i xs le) all
