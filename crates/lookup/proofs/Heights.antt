-- The height law: messages of bounded weight that balance do so in whole numbers, but for provided keys.
use Rattle.std.proofs.Common.{◌≡◌, ◌≢◌, ℕ, zero, suc, ◌+◌, ◌*◌, ◌<◌, ◌≤◌, ◌⊎◌, inl, inr, ℤ, pos, negsuc, ◌+ℤ◌, nat_abs, Bool, true, None, Some, List, [], ◌∷◌, ◌++◌, length, map, refl, sym, ap, ◌∙◌, arith, Decides}
use Rattle.std.proofs.lemmas.Int.{ints}
use Rattle.std.proofs.lemmas.List.{length-map}
use Rattle.std.proofs.lemmas.List.FromFn.{length-map-range_with_len}
use Rattle.std.proofs.lemmas.List.Sums.{sum_by-append, sum_by-cons}
use Rattle.std.proofs.lemmas.Nat.Gcd.{le_of_dvd}
use Rattle.std.specs.List.{AllByRecursion, AllZip, flat_map, range_with_len, sum_by, zip}
use Rattle.list_laws.proofs.Each.{all_images, each_of}
use Rattle.list_laws.proofs.Zips.{AllZip-append}
use Rattle.field.specs.Characteristic.{HasCharacteristic}
use Rattle.field.specs.Distinct.{IsAmong}
use Rattle.field.specs.Ring.{Ring, IsCommutativeRing, of_int, of_nat}
use Rattle.field.specs.laws.RingFacts.{neg_neg, neg_zero, of_nat-add}
use Rattle.field.specs.laws.RingSolver.{var, con, :neg, ◌:+◌, ring_given}
use Rattle.matrix.specs.Matrix.{height}
use Rattle.air.specs.Traces.{window_of}
use Rattle.lookup_model.specs.Plain.{trace_messages}
use Rattle.lookup_model.specs.Sent.{Sent, sent_at}
use Rattle.lookup_model.specs.declared.types.Lookup.{Lookup}
use Rattle.lookup_model.proofs.Lookups.KeyLaws.{same_key-Decides}
use Rattle.lookup_model.specs.Message.{Key, Message, same_key}
use Rattle.lookup_model.specs.Net.{IsBalanced, net}
use Rattle.lookup_model.specs.Trace.{sent_row_under}
use Rattle.lookup_model.specs.Batches.Instances.{Instance}
use Rattle.lookup_model.specs.Batches.Messages.{batch_messages, id_of, sent_rows_of}
use Rattle.lookup.specs.Guards.{weighted_height, weighted_height_sum}
use Rattle.lookup.specs.Weights.{HeightLaws, HasRole, Role, RowKeepsWeights, TraceKeepsWeights, all_roles, provided_keys, query_sum, size_of_role}

module _ {A : Type 0} {R : Ring A} (laws : IsCommutativeRing R) where
  -- a signed number is a difference of two
  by_parts : (z : ℤ) (p n : ℕ) → pos p ≡ z +ℤ pos n → R.add (of_int R z) (of_nat R n) ≡ of_nat R p
  by_parts (pos m) p n e = sym (of_nat-add laws m n) ∙ ap (of_nat R) (omega (arith, ints, e))
  by_parts (negsuc m) p n e =
      let s : p + suc m ≡ n = omega (arith, ints, e) in
      let t : R.add (of_nat R p) (of_nat R (suc m)) ≡ of_nat R n = sym (of_nat-add laws p (suc m)) ∙ ap (of_nat R) s in
      ring_given laws (of_nat R (suc m) ∷ of_nat R n ∷ of_nat R p ∷ []) ((:neg (con 1), var 2 :+ var 0, var 1) ∷ []) (:neg (var 0) :+ var 1) (var 2) (t, tt) refl

  parts : (z : ℤ) → (p : ℕ) × (n : ℕ) × (pos p ≡ z +ℤ pos n)
  parts (pos m) = (m, 0, omega (arith, ints))
  parts (negsuc m) = (0, suc m, omega (arith, ints))

  -- the sum of two numbers as an element
  pub of_int-add : (a b : ℤ) → of_int R (a +ℤ b) ≡ R.add (of_int R a) (of_int R b)
  of_int-add a b =
      let s = parts a in
      let t = parts b in
      let e = by_parts (a +ℤ b) (s.0 + t.0) (s.1 + t.1) (omega (arith, ints, s.2, t.2)) in
      let i = con 1 in
      ring_given laws
      (of_int R (a +ℤ b) ∷ of_int R a ∷ of_int R b ∷ of_nat R s.1 ∷ of_nat R t.1 ∷ of_nat R (s.1 + t.1) ∷ of_nat R s.0 ∷ of_nat R t.0 ∷ of_nat R (s.0 + t.0) ∷ [])
      ((i, var 0 :+ var 5, var 8) ∷ (:neg i, var 5, var 3 :+ var 4) ∷ (i, var 8, var 6 :+ var 7) ∷ (:neg i, var 1 :+ var 3, var 6) ∷ (:neg i, var 2 :+ var 4, var 7) ∷ [])
      (var 0) (var 1 :+ var 2) (e, (of_nat-add laws s.1 t.1, (of_nat-add laws s.0 t.0, (by_parts a s.0 s.1 s.2, (by_parts b t.0 t.1 t.2, tt))))) refl

  small : (p n : ℕ) → HasCharacteristic R p → suc n < p → of_nat R (suc n) ≡ R.zero → ⊥
  small p n char lt e = omega (arith, lt, le_of_dvd {n = suc n} (omega arith) ((char (suc n)).0 e))

  -- a number below the characteristic in absolute value that is zero in the ring is zero
  pub small_zero : (p : ℕ) → HasCharacteristic R p → (z : ℤ) → nat_abs z < p → of_int R z ≡ R.zero → z ≡ pos 0
  small_zero p char (pos zero) lt e = refl
  small_zero p char (pos (suc n)) lt e = absurd (small p n char (omega (arith, ints, lt)) e)
  small_zero p char (negsuc n) lt e =
      absurd (small p n char (omega (arith, ints, lt)) (sym (neg_neg laws (of_nat R (suc n))) ∙ ap R.neg e ∙ neg_zero laws))

module _ {F : Type 0} {R : Ring F} (laws : IsCommutativeRing R) (eq : F → F → Bool) (decides : (a b : Key F) → Decides (same_key eq a b) (a ≡ b)) (key : Key F) where
  -- where no provided entry has the key the net is the sum of the query numbers
  net_is : (ms : List (Message F)) (ps : List Role) → AllZip (HasRole R) ms ps → ¬ IsAmong key (provided_keys (zip ms ps)) → net R eq ms key ≡ of_int R (query_sum eq key (zip ms ps))
  unfolding of_nat
  net_is [] [] each none = refl
  net_is (m ∷ ms) (None ∷ ps) each none =
      grind (arith, net_is ms ps each.1 (λ among. none (inr among)), λ (e : same_key eq key m.key ≡ true). none (inl ((decides key m.key).0 e)))
  net_is (m ∷ ms) (Some z ∷ ps) each none = grind (arith, net_is ms ps each.1 none, each.0, of_int-add laws z (query_sum eq key (zip ms ps)))
  net_is ms ps each none = absurd each

  -- and no greater than all sizes together
  query_sum-small : (ms : List (Message F)) (ps : List Role) → nat_abs (query_sum eq key (zip ms ps)) ≤ sum_by size_of_role ps
  query_sum-small [] ps = omega (arith, ints)
  query_sum-small (m ∷ ms) [] = omega (arith, ints)
  query_sum-small (m ∷ ms) (p ∷ ps) = grind (arith, ints, query_sum-small ms ps, sum_by-cons size_of_role p ps)

  is_among : (ks : List (Key F)) → IsAmong key ks ⊎ (IsAmong key ks → ⊥)
  is_among [] = inr (λ none. none)
  is_among (k ∷ ks) = grind (arith, is_among ks, decides key k)

  -- the law over one list of messages
  pub provided_key : (p : ℕ) → HasCharacteristic R p → (ms : List (Message F)) (ps : List Role) → AllZip (HasRole R) ms ps → sum_by size_of_role ps < p → IsBalanced R eq ms → query_sum eq key (zip ms ps) ≢ pos 0 → IsAmong key (provided_keys (zip ms ps))
  provided_key p char ms ps each light balanced ne = elim (is_among (provided_keys (zip ms ps))) [
    | inl there ↦ there
    | inr absent ↦ absurd (ne (small_zero laws p char (query_sum eq key (zip ms ps)) (omega (arith, query_sum-small ms ps, light)) (sym (net_is ms ps each absent) ∙ balanced key)))
  ]

module _ {F : Type 0} (R : Ring F) where
  -- roles of some messages, no greater than a bound
  pub record AreBounded (ms : List (Message F)) (ps : List Role) (bound : ℕ) : Type 0 where
    pub divided : AllZip (HasRole R) ms ps
    pub within : sum_by size_of_role ps ≤ bound

  bounded_both : (ms ns : List (Message F)) (ps qs : List Role) (a b c : ℕ) → AreBounded ms ps a → AreBounded ns qs b → a + b ≤ c → AreBounded (ms ++ ns) (ps ++ qs) c
  bounded_both ms ns ps qs a b c first second le = record {
    divided = AllZip-append (HasRole R) ms ps ns qs first.divided second.divided;
    within = omega (arith, sum_by-append size_of_role ps qs, first.within, second.within, le);
  }

  row_bounded : (lookups : List (Lookup F)) (row : List (Sent F)) (roles : List (List Role)) → length row ≡ length lookups → RowKeepsWeights R lookups row roles → AreBounded (flat_map (λ s. s.messages) row) (flat_map (λ p. p) roles) (sum_by (λ l. l.count_weight) lookups)
  row_bounded [] [] [] same keeps = record { divided = tt; within = omega arith }
  row_bounded [] (s ∷ ss) ps same keeps = absurd (omega (arith, same))
  row_bounded (l ∷ ls) [] ps same keeps = absurd (omega (arith, same))
  row_bounded (l ∷ ls) (s ∷ ss) (p ∷ ps) same keeps =
      bounded_both s.messages (flat_map (λ t. t.messages) ss) p (flat_map (λ q. q) ps) l.count_weight (sum_by (λ k. k.count_weight) ls) (sum_by (λ k. k.count_weight) (l ∷ ls))
      (record { divided = keeps.0.divided; within = keeps.0.within }) (row_bounded ls ss ps (omega (arith, same)) keeps.1) (omega (arith, sum_by-cons (λ k. k.count_weight) l ls))
  row_bounded ls ss ps same keeps = absurd keeps

  trace_bounded : (lookups : List (Lookup F)) (rows : List (List (Sent F))) (division : List (List (List Role))) → AllByRecursion (λ row. length row ≡ length lookups) rows → AllZip (RowKeepsWeights R lookups) rows division
      → AreBounded (trace_messages rows) (flat_map (λ row. flat_map (λ p. p) row) division) (sum_by (λ l. l.count_weight) lookups * length rows)
  trace_bounded lookups [] [] long keeps = record { divided = tt; within = omega arith }
  trace_bounded lookups (row ∷ rows) (d ∷ ds) long keeps =
      let w = sum_by (λ (l : Lookup F). l.count_weight) lookups in
      bounded_both (flat_map (λ s. s.messages) row) (trace_messages rows) (flat_map (λ p. p) d) (flat_map (λ r. flat_map (λ p. p) r) ds) w (w * length rows) (w * suc (length rows))
      (row_bounded lookups row d long.0 keeps.0) (trace_bounded lookups rows ds long.1 keeps.1) (omega arith)
  trace_bounded lookups rows ds long keeps = absurd keeps

  -- the weighted height of an AIR
  abbrev own : Instance F → ℕ
  own i = weighted_height (i.lookups, height i.traces.main)

  batch_bounded : (eq : F → F → Bool) (instances : List (Instance F)) (divisions : List (List (List (List Role)))) → AllZip (TraceKeepsWeights R eq) instances divisions → AreBounded (batch_messages R eq instances) (all_roles divisions) (sum_by own instances)
  batch_bounded eq [] [] keeps = record { divided = tt; within = omega arith }
  batch_bounded eq (i ∷ is) (d ∷ ds) keeps =
      let rows = sent_rows_of R eq i in
      let rs = range_with_len 0 (height i.traces.main) in
      let window = λ (r : ℕ). window_of i.traces r in
      let w = sum_by (λ (l : Lookup F). l.count_weight) i.lookups in
      let high : length rows ≡ height i.traces.main = length-map-range_with_len (λ r. sent_row_under R eq (id_of i.ids) (window r) i.lookups) 0 (height i.traces.main) in
      let area : w * length rows ≡ w * height i.traces.main = ap (λ n. w * n) high in
      let long = all_images (λ row. length row ≡ length i.lookups) (λ r. sent_row_under R eq (id_of i.ids) (window r) i.lookups) rs (each_of _ (λ r. length-map i.lookups (λ lookup. sent_at R eq (window r) (id_of i.ids lookup) lookup)) rs) in
      bounded_both (trace_messages rows) (batch_messages R eq is) (flat_map (λ row. flat_map (λ p. p) row) d) (all_roles ds) (w * length rows) (sum_by own is) (sum_by own (i ∷ is))
      (trace_bounded i.lookups rows d long keeps.0) (batch_bounded eq is ds keeps.1) (omega (arith, area, sum_by-cons own i is))
  batch_bounded eq is ds keeps = absurd keeps

  -- the sum over a batch is that over its lookups and heights
  own_sum : (instances : List (Instance F)) → sum_by own instances ≡ weighted_height_sum (map (λ i. i.lookups) instances) (map (λ i. height i.traces.main) instances)
  own_sum [] = refl
  own_sum (i ∷ is) =
      sum_by-cons own i is ∙ ap (λ n. own i + n) (own_sum is)
      ∙ sym (sum_by-cons weighted_height (i.lookups, height i.traces.main) (zip (map (λ j. j.lookups) is) (map (λ j. height j.traces.main) is)))

-- the law of all batches with these lookups and heights
pub height_laws : {F : Type 0} {R : Ring F} → IsCommutativeRing R → (eq : F → F → Bool) → ((a b : F) → Decides (eq a b) (a ≡ b)) → (p : ℕ) → HasCharacteristic R p → (airs : List (List (Lookup F))) (heights : List ℕ) → weighted_height_sum airs heights < p → HeightLaws R eq airs heights
height_laws {F} {R} laws eq decides p char airs heights light instances lookups_are heights_are divisions keeps balanced key ne =
    let bounded = batch_bounded R eq instances divisions keeps in
    let sum_is : sum_by (own R) instances ≡ weighted_height_sum airs heights = own_sum R instances ∙ (λ k. weighted_height_sum (lookups_are k) (heights_are k)) in
    provided_key laws eq (same_key-Decides eq decides) key p char (batch_messages R eq instances) (all_roles divisions) bounded.divided (omega (arith, bounded.within, sum_is, light)) balanced ne
