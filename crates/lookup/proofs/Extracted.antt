-- What the lookups that are extracted from an AIR send.
use Rattle.std.proofs.Common.{◌≡◌, ℕ, ◌+◌, Bool, List, [], ◌∷◌, ◌++◌, length, map, Option, None, Some, option_map, slice_get, All, inl, inr, refl, sym, ap, ap₂, arith, ◌∙◌, subst}
use Rattle.std.proofs.lemmas.List.{append_assoc, length-map, map-append}
use Rattle.std.proofs.lemmas.List.Elements.{All-map, recursion_from_All}
use Rattle.std.specs.List.{enumerate_from, zip}
use Rattle.std.specs.declared.alloc.Global.{Global}
use Rattle.std.specs.declared.vec.Vec.{Vec}
use Rattle.list_laws.proofs.Images.{map-map}
use Rattle.list_laws.proofs.Items.{enumerate_from-append}
use Rattle.list_laws.proofs.Zips.{zip_mapped, zip_of_maps}
use Rattle.field.specs.Ring.{Ring}
use Rattle.air_expressions.specs.Window.{Window}
use Rattle.air_expressions.specs.declared.base_expression.SymbolicExpression.{SymbolicExpression}
use Rattle.air_expressions.specs.declared.layout.AirLayout.{AirLayout}
use Rattle.lookup_model.specs.Outline.{Outline, fields_of}
use Rattle.lookup_model.specs.Sent.{Sent, branch_at, sent, sent_at, value, values}
use Rattle.lookup_model.specs.Trace.{sent_row_under}
use Rattle.lookup_model.specs.declared.error.LookupError.{LookupError}
use Rattle.lookup_model.specs.declared.types.Lookup.{Lookup}
use Rattle.lookup_record.specs.Interaction.{ExclusiveInteraction, GlobalInteraction, Interaction, Tuple, exclusive, global, local}
use Rattle.lookup_record.specs.RecordedAir.{RecordedAir, no_air_recorded, with_interaction}
use Rattle.lookup.specs.Extraction.{IsFaultless, IsFirstLocalRefusal, IsLocalRefusal, exclusive_at, extraction, global_at, in_columns, local_at, tuple_widths}
use Rattle.list_laws.proofs.Each.{all_back, All-there}
use Rattle.lookup.specs.Sends.{bus_and_weight, in_order, interaction_sends, interaction_tuples, lookup_bus_and_weight}

module _ {E : Type 0} where
  -- the lookup of an interaction in a column
  abbrev outline_at : ℕ → Interaction E → Outline E
  outline_at column (global m) = global_at column m
  outline_at column (local tuples) = local_at column tuples
  outline_at column (exclusive m) = exclusive_at column m

  -- the lookups of interactions, in the columns from n upwards
  abbrev outlines_from : ℕ → List (Interaction E) → List (Outline E)
  outlines_from n interactions = in_columns outline_at n interactions

  -- interactions of one kind
  one_kind : {M : Type 0} (kind : M → Interaction E) (lookup_at : ℕ → M → Outline E) → ((column : ℕ) (m : M) → lookup_at column m ≡ outline_at column (kind m))
      → (n : ℕ) (ms : List M) → in_columns lookup_at n ms ≡ outlines_from n (map kind ms)
  one_kind kind lookup_at same n [] = refl
  one_kind kind lookup_at same n (m ∷ ms) = λ i. same n m i ∷ one_kind kind lookup_at same (n + 1) ms i

  -- interactions one list after another
  outlines_append : (n : ℕ) (xs ys : List (Interaction E)) → outlines_from n (xs ++ ys) ≡ outlines_from n xs ++ outlines_from (n + length xs) ys
  outlines_append n xs ys =
      let at = λ (p : ℕ × Interaction E). outline_at p.0 p.1 in
      ap (map at) (enumerate_from-append n xs ys) ∙ map-append at (enumerate_from n xs) (enumerate_from (n + length xs) ys)

  -- the extraction is that of the interactions in order
  extraction_in_order : (locals : List (List (Tuple E))) (globals : List (GlobalInteraction E)) (exclusives : List (ExclusiveInteraction E))
      → extraction locals globals exclusives ≡ outlines_from 0 (in_order locals globals exclusives)
  extraction_in_order locals globals exclusives =
      (λ i. (one_kind local local_at (λ column m. refl) 0 locals i ++ one_kind global global_at (λ column m. refl) (length locals) globals i)
      ++ one_kind exclusive exclusive_at (λ column m. refl) (length locals + length globals) exclusives i)
      ∙ append_assoc (outlines_from 0 (map local locals)) (outlines_from (length locals) (map global globals)) (outlines_from (length locals + length globals) (map exclusive exclusives))
      ∙ ap (λ t. outlines_from 0 (map local locals) ++ t) behind
      ∙ sym (outlines_append 0 (map local locals) (map global globals ++ map exclusive exclusives) ∙ ap (λ k. outlines_from 0 (map local locals) ++ outlines_from k (map global globals ++ map exclusive exclusives)) (omega (arith, length-map locals local)))
    where
      behind : outlines_from (length locals) (map global globals) ++ outlines_from (length locals + length globals) (map exclusive exclusives) ≡ outlines_from (length locals) (map global globals ++ map exclusive exclusives)
      behind =
          sym (outlines_append (length locals) (map global globals) (map exclusive exclusives)
          ∙ ap (λ k. outlines_from (length locals) (map global globals) ++ outlines_from (length locals + k) (map exclusive exclusives)) (length-map globals global))

module _ {F : Type 0} (R : Ring F) (eq : F → F → Bool) (w : Window F) where
  -- what the fields of a lookup send under an id
  abbrev pub outline_sends : ℕ → Outline (SymbolicExpression F) → Sent F
  outline_sends id o =
      sent R eq (option_map (values R w) o.flags) (map (λ p. branch_at R w id p.0 p.1) (zip o.elements o.multiplicities))

  -- the values of the flags, which may be absent
  flags_seen : (flags : Option (Vec (SymbolicExpression F) Global)) → option_map (λ flags. values R w flags.items) flags ≡ option_map (values R w) (option_map (λ flags. flags.items) flags)
  flags_seen flags = grind arith

  -- a lookup sends what its fields say
  pub sent_by_fields : (id : ℕ) (l : Lookup F) → sent_at R eq w id l ≡ outline_sends id (fields_of l)
  sent_by_fields id l =
      ap₂ (sent R eq) (flags_seen l.flags) (zip_mapped (λ tuple. tuple.items) (branch_at R w id) l.elements.items l.multiplicities.items)

  -- the lookup of an interaction sends what the interaction does
  outline_sends_pushed : (id column : ℕ) (m : Interaction (SymbolicExpression F)) → outline_sends id (outline_at column m) ≡ interaction_sends R eq (value R w) id m
  outline_sends_pushed id column (global m) = refl
  outline_sends_pushed id column (local tuples) =
      ap (sent R eq None) (zip_of_maps (branch_at R w id) (λ t. t.fields) (λ t. t.count) tuples)
  outline_sends_pushed id column (exclusive m) =
      ap₂ (λ flags messages. sent R eq (Some flags) messages) (map-map (value R w) (λ b. b.flag) m.branches)
      (zip_of_maps (branch_at R w id) (λ b. b.fields) (λ b. b.count) m.branches)

  -- what lookups with the fields of these interactions send, each under the id of its column
  sent_from : (id : ℕ → ℕ) (n : ℕ) (lookups : List (Lookup F)) (interactions : List (Interaction (SymbolicExpression F))) → map fields_of lookups ≡ outlines_from n interactions
      → sent_row_under R eq (λ l. id l.column) w lookups ≡ map (λ p. interaction_sends R eq (value R w) (id p.0) p.1) (enumerate_from n interactions)
  sent_from id n [] [] same = refl
  sent_from id n (l ∷ ls) (m ∷ ms) same =
      let first : fields_of l ≡ outline_at n m = cc same in
      let rest : map fields_of ls ≡ outlines_from (n + 1) ms = cc same in
      let column : l.column ≡ n = ap (λ o. o.column) first ∙ column_is n m in
      let here : sent_at R eq w (id l.column) l ≡ interaction_sends R eq (value R w) (id n) m =
      sent_by_fields (id l.column) l ∙ (λ i. outline_sends (id (column i)) (first i)) ∙ outline_sends_pushed (id n) n m in
      λ i. here i ∷ sent_from id (n + 1) ls ms rest i
    where
      column_is : (k : ℕ) (m : Interaction (SymbolicExpression F)) → (outline_at k m).column ≡ k
      column_is k (global m) = refl
      column_is k (local tuples) = refl
      column_is k (exclusive m) = refl
  sent_from id n ls ms same = absurd (cc same)

-- lookups that are extracted from interactions send, at each window, what the interactions do, in
-- order, each under the id of its column
pub extracted_send : {F : Type 0} (R : Ring F) (eq : F → F → Bool) (id : ℕ → ℕ) (lookups : List (Lookup F)) (locals : List (List (Tuple (SymbolicExpression F)))) (globals : List (GlobalInteraction (SymbolicExpression F))) (exclusives : List (ExclusiveInteraction (SymbolicExpression F)))
    → map fields_of lookups ≡ extraction locals globals exclusives
    → (w : Window F) → sent_row_under R eq (λ l. id l.column) w lookups ≡ map (λ p. interaction_sends R eq (value R w) (id p.0) p.1) (enumerate_from 0 (in_order locals globals exclusives))
extracted_send R eq id lookups locals globals exclusives same w =
    sent_from R eq w id 0 lookups (in_order locals globals exclusives) (same ∙ extraction_in_order locals globals exclusives)

-- the bus and the weight of an outline
abbrev outline_bus_and_weight : {E : Type 0} → Outline E → Option (List ℕ) × ℕ
outline_bus_and_weight o = (o.bus, o.count_weight)

-- those of the lookups of interactions
kinds_from : {E : Type 0} (n : ℕ) (interactions : List (Interaction E)) → map outline_bus_and_weight (outlines_from n interactions) ≡ map bus_and_weight interactions
kinds_from n [] = refl
kinds_from n (m ∷ ms) = grind (arith, kinds_from (n + 1) ms)

-- lookups that are extracted from interactions have their buses and weights, in order
pub extracted_kinds : {F : Type 0} (lookups : List (Lookup F)) (locals : List (List (Tuple (SymbolicExpression F)))) (globals : List (GlobalInteraction (SymbolicExpression F))) (exclusives : List (ExclusiveInteraction (SymbolicExpression F)))
    → map fields_of lookups ≡ extraction locals globals exclusives → map lookup_bus_and_weight lookups ≡ map bus_and_weight (in_order locals globals exclusives)
extracted_kinds lookups locals globals exclusives same =
    sym (map-map outline_bus_and_weight fields_of lookups)
    ∙ ap (map outline_bus_and_weight) (same ∙ extraction_in_order locals globals exclusives)
    ∙ kinds_from 0 (in_order locals globals exclusives)

-- the tuples of the lookups of interactions
tuples_from : {E : Type 0} (n : ℕ) (interactions : List (Interaction E)) → map (λ o. o.elements) (outlines_from n interactions) ≡ map interaction_tuples interactions
tuples_from n [] = refl
tuples_from n (m ∷ ms) = grind (arith, tuples_from (n + 1) ms)

-- lookups that are extracted from interactions have their tuples, in order
pub extracted_tuples : {F : Type 0} (lookups : List (Lookup F)) (locals : List (List (Tuple (SymbolicExpression F)))) (globals : List (GlobalInteraction (SymbolicExpression F))) (exclusives : List (ExclusiveInteraction (SymbolicExpression F)))
    → map fields_of lookups ≡ extraction locals globals exclusives → map (λ l. (fields_of l).elements) lookups ≡ map interaction_tuples (in_order locals globals exclusives)
extracted_tuples lookups locals globals exclusives same =
    sym (map-map (λ o. o.elements) fields_of lookups)
    ∙ ap (map (λ o. o.elements)) (same ∙ extraction_in_order locals globals exclusives)
    ∙ tuples_from 0 (in_order locals globals exclusives)

-- where one interaction was pushed into a new builder, it is the only one
pub one_in_order : {F EF : Type 0} (layout : AirLayout) (m : Interaction (SymbolicExpression F)) (r : RecordedAir F EF) → r ≡ with_interaction (no_air_recorded layout) m → in_order r.locals r.globals r.exclusives ≡ m ∷ []
one_in_order layout m r is = grind (arith, is)

module _ {E : Type 0} where
  -- widths of tuples of one width have no other
  one_width : (tuples : List (Tuple E)) (width other k : ℕ) → All (λ t. length t.fields ≡ width) tuples → slice_get (tuple_widths tuples) k ≡ Some other → other ≡ width
  one_width tuples width other k all found = All-there (λ w. w ≡ width) (tuple_widths tuples) k other (All-map (λ w. w ≡ width) (λ t. length t.fields) tuples all) found

  -- a local lookup without a fault is not refused
  not_refused : (tuples : List (Tuple E)) (e : LookupError) → IsFaultless tuples → ¬ IsLocalRefusal tuples e
  not_refused tuples e faultless (inl (heavy, is)) = absurd (omega (arith, heavy, faultless.weight))
  not_refused tuples e faultless (inr (light, uneven)) =
      let has = uneven.differ in
      has.differs (one_width tuples faultless.width uneven.other has.index faultless.widths has.found ∙ sym (one_width tuples faultless.width uneven.width 0 faultless.widths has.first))

  -- none of several is
  pub none_refused : (locals : List (List (Tuple E))) (e : LookupError) → All IsFaultless locals → ¬ IsFirstLocalRefusal locals e
  none_refused locals e all first =
      let each = recursion_from_All IsFaultless _ (subst (All IsFaultless) first.split all) in
      not_refused first.item e (all_back IsFaultless first.before (first.item ∷ first.after) each).0 first.fault
