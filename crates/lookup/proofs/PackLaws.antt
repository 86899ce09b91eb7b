-- From the groups of buses to the packing of all lookups.
use Rattle.std.proofs.Common.{◌≡◌, ◌+◌, ℕ, List, [], ◌∷◌, ◌++◌, Some, Result, map, slice_get, take, sym, ap, subst, ◌∙◌, drop}
use Rattle.std.proofs.lemmas.Option.{slice_get_within, get_or_from_slice_get}
use Rattle.std.specs.Borrow.{Bor}
use Rattle.std.specs.List.{AllZip, flat_map}
use Rattle.std.specs.declared.alloc.Global.{Global}
use Rattle.std.specs.declared.vec.Vec.{Vec}
use Rattle.list_laws.proofs.Zips.{AllZip-map_left}
use Rattle.list_laws.proofs.Images.{from_map, map-map, map_at, map_split}
use Rattle.air_expressions.specs.Faults.{SplitsAtFault}
use Rattle.air_expressions.specs.declared.base_expression.SymbolicExpression.{SymbolicExpression}
use Rattle.lookup_model.specs.Outline.{Outline, fields_of}
use Rattle.lookup_model.specs.declared.error.LookupError.{LookupError}
use Rattle.lookup_model.specs.declared.types.Lookup.{Lookup}
use Rattle.lookup.specs.Buses.{bus_groups, bus_names, group_of, on_bus}
use Rattle.std.proofs.lemmas.List.{append_assoc}
use Rattle.list_laws.proofs.Items.{split_at, take_item}
use Rattle.lookup.specs.Packing.{IsFillRefusal, IsFilling, IsPacking, IsStuck, additive_lookups, joined_lookup, numbered_lookups, passing}

-- an item at its index
pub at_index : {A : Type 0} (xs : List A) (i : ℕ) (x : A) → slice_get xs i ≡ Some x → (later : List A) × (xs ≡ take i xs ++ x ∷ later) × (take (i + 1) xs ≡ take i xs ++ x ∷ [])
at_index xs i x e =
    let lt = slice_get_within xs i x e in
    let is = sym (get_or_from_slice_get xs i x x e) in
    (drop (i + 1) xs, split_at xs i x lt is ∙ append_assoc (take i xs) (x ∷ []) (drop (i + 1) xs), take_item xs i x lt is)

module _ {F : Type 0} where
  -- the bus at an index of a map of groups
  pub bus_here : (os : List (Outline (SymbolicExpression F))) (es : List (Bor (List ℕ) × Vec (Bor (Lookup F)) Global)) (i : ℕ) (k : Bor (List ℕ)) (v : Vec (Bor (Lookup F)) Global) → map group_of es ≡ bus_groups os → slice_get es i ≡ Some (k, v)
      → (slice_get (bus_names os) i ≡ Some k.now) × (map (λ r. fields_of r.now) v.items ≡ on_bus k.now os)
  bus_here os es i k v groups there =
      let (name, named, is) = from_map {B = List ℕ × List (Outline (SymbolicExpression F))} (λ name. (name, on_bus name os)) (bus_names os) i (group_of (k, v)) (ap (λ t. slice_get t i) (sym groups) ∙ map_at group_of es i (k, v) there) in
      let same : name ≡ k.now = ap (λ p. p.0) is in
      (named ∙ ap Some same, sym (ap (λ p. p.1) is) ∙ ap (λ n. on_bus n os) same)

module _ {E : Type 0} (answers : Outline E → Result ℕ LookupError → Type 0) (most : ℕ) where
  -- columns with those of each bus of a list behind them, each with its greedy cut
  abbrev pub AreColumnsAdded : List (List (Outline E)) → List (Outline E) → List (Outline E) → Type 0
  AreColumnsAdded buses before after =
      (cuts : List (List (Outline E × List (Outline E)))) × AllZip (λ bus cut. IsFilling answers most cut bus) buses cuts × (after ≡ before ++ flat_map (λ cut. map joined_lookup cut) cuts)

  -- the refusal of the first bus of a list whose filling is refused
  abbrev pub IsFirstStuck : List (List (Outline E)) → LookupError → Type 0
  IsFirstStuck buses e = SplitsAtFault
      (λ earlier. (cuts : List (List (Outline E × List (Outline E)))) × AllZip (λ b cut. IsFilling answers most cut b) earlier cuts)
      (λ _ bus. IsStuck answers most bus e)
      buses

-- groups without their names
pub groups_of : {E : Type 0} (os : List (Outline E)) → map (λ g. g.1) (bus_groups os) ≡ map (λ name. on_bus name os) (bus_names os)
groups_of {E} os = map-map {B = List ℕ × List (Outline E)} (λ g. g.1) (λ name. (name, on_bus name os)) (bus_names os)

module _ {E : Type 0} (answers : Outline E → Result ℕ LookupError → Type 0) (most : ℕ) (before : List (Outline E)) where
  -- the first bus that is stuck, by its name
  pub fill_refusal : (buses : List (List (Outline E))) (e : LookupError) → buses ≡ map (λ name. on_bus name (additive_lookups before)) (bus_names (additive_lookups before)) → IsFirstStuck answers most buses e → IsFillRefusal answers most before e
  fill_refusal buses e are stuck =
      let (earlier, name, later, names, earlier_is, name_is, later_is) = map_split (λ name. on_bus name (additive_lookups before)) (bus_names (additive_lookups before)) stuck.before stuck.item stuck.after (sym are ∙ stuck.split) in record {
        before = earlier;
        item = name;
        after = later;
        split = names;
        good = (stuck.good.0, AllZip-map_left (λ bus cut. IsFilling answers most cut bus) (λ n. on_bus n (additive_lookups before)) earlier stuck.good.0 (rw earlier_is stuck.good.1));
        fault = rw name_is stuck.fault;
      }

  -- what passes through, and the columns of all buses
  pub all_packed : (buses : List (List (Outline E))) (front columns after : List (Outline E)) → buses ≡ map (λ name. on_bus name (additive_lookups before)) (bus_names (additive_lookups before)) → front ≡ passing before → AreColumnsAdded answers most buses front columns → after ≡ numbered_lookups columns → IsPacking answers most before after
  all_packed buses front columns after are front_is added after_is = record {
    cuts = added.0;
    filled = AllZip-map_left (λ bus cut. IsFilling answers most cut bus) (λ n. on_bus n (additive_lookups before)) (bus_names (additive_lookups before)) added.0 (subst (λ (t : List (List (Outline E))). AllZip (λ bus cut. IsFilling answers most cut bus) t added.0) are added.1);
    columns = after_is ∙ ap numbered_lookups (added.2 ∙ ap (λ t. t ++ flat_map (λ cut. map joined_lookup cut) added.0) front_is);
  }
