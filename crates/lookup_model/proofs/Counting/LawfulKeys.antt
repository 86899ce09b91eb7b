-- Under lawful ids all keys of a batch are lawful.
use Rattle.std.proofs.Common.{◌≡◌, ℕ, zero, suc, ◌<◌, ◌≤◌, Bool, true, false, cond, List, [], ◌∷◌, All, length, map, get_or, slice_index_or, nat_eq, refl, sym, ap, subst, ◌∙◌, arith, not}
use Rattle.std.proofs.lemmas.Bool.Decides.{Decides-eqb}
use Rattle.std.proofs.lemmas.List.{length-map}
use Rattle.std.proofs.lemmas.List.Elements.{recursion_from_All}
use Rattle.std.specs.List.{AllByRecursion, flat_map, range_with_len, zip}
use Rattle.std.specs.declared.alloc.Global.{Global}
use Rattle.std.specs.declared.vec.Vec.{Vec}
use Rattle.list_laws.proofs.Each.{all_front, all_back, all_both, all_indexed, all_kept, all_joined, all_images, each_of}
use Rattle.field.specs.Ring.{Ring}
use Rattle.matrix.specs.Matrix.{height}
use Rattle.air_expressions.specs.Window.{Window}
use Rattle.air.specs.Traces.{window_of}
use Rattle.air_expressions.specs.declared.base_expression.SymbolicExpression.{SymbolicExpression}
use Rattle.lookup_model.specs.Message.{Message, same_key}
use Rattle.lookup_model.specs.Net.{first_seen, keys}
use Rattle.lookup_model.specs.Plain.{trace_messages}
use Rattle.lookup_model.specs.Sent.{Sent, branch_at, branches_at, flags_at, sent_at, value}
use Rattle.lookup_model.proofs.Lookups.SentRows.{column_is}
use Rattle.lookup_model.specs.declared.types.Lookup.{Lookup}
use Rattle.lookup_model.specs.Trace.{sent_row_under}
use Rattle.lookup_model.specs.Batches.Instances.{Instance, IsFitting}
use Rattle.lookup_model.specs.Batches.Messages.{batch_messages, id_of, sent_rows_of}
use Rattle.lookup_model.specs.Collisions.{IsLawfulKey}
use Rattle.lookup_model.specs.Batches.Ids.{AreLawfulIds, batch_lookups_with_ids}
use Rattle.lookup_model.proofs.Batches.SentFacts.{all_sent}

module _ {F : Type 0} where
  -- the width of the first tuple, or n without one
  abbrev first_width : List (Vec (SymbolicExpression F) Global) → ℕ → ℕ
  first_width [] n = n
  first_width (t ∷ ts) n = length t.items

  -- the width of the first tuple under an id, 0 without one
  abbrev pub width_under : List (ℕ × Lookup F) → ℕ → ℕ
  width_under [] id = 0
  width_under (a ∷ rest) id = cond (nat_eq a.0 id) (first_width a.1.elements.items (width_under rest id)) (width_under rest id)

  first_is : (es : List (Vec (SymbolicExpression F) Global)) (n r : ℕ) → All (λ t. n ≡ length t.items) es → 0 < length es → first_width es r ≡ n
  first_is [] n r all some = absurd (omega (arith, some))
  first_is (t ∷ ts) n r all some = sym (all 0 t (omega arith))

  first_or_rest : (es : List (Vec (SymbolicExpression F) Global)) (n r : ℕ) → All (λ t. n ≡ length t.items) es → r ≡ n → first_width es r ≡ n
  first_or_rest [] n r all rest = rest
  first_or_rest (t ∷ ts) n r all rest = sym (all 0 t (omega arith))

  -- where all tuples under an id have one width, and there is one, it is this
  pub width_is : (rest : List (ℕ × Lookup F)) (id n : ℕ) → All (λ a. id ≡ a.0 → All (λ t. n ≡ length t.items) a.1.elements.items) rest
      → (k : ℕ) (d : ℕ × Lookup F) → k < length rest → id ≡ (get_or rest k d).0 → 0 < length (get_or rest k d).1.elements.items → width_under rest id ≡ n
  width_is [] id n all k d lt same some = absurd (omega (arith, lt))
  width_is (a ∷ rest) id n all zero d lt same some =
      ap (λ b. cond b (first_width a.1.elements.items (width_under rest id)) (width_under rest id)) ((Decides-eqb a.0 id).1 (sym same))
      ∙ first_is a.1.elements.items n (width_under rest id) (all 0 a (omega arith) same) some
  width_is (a ∷ rest) id n all (suc k) d lt same some =
      by_test (nat_eq a.0 id) refl (width_is rest id n (λ j e below. all (suc j) e (omega (arith, below))) k d (omega (arith, lt)) same some)
    where
      by_test : (b : Bool) → nat_eq a.0 id ≡ b → width_under rest id ≡ n → cond b (first_width a.1.elements.items (width_under rest id)) (width_under rest id) ≡ n
      by_test true e others = first_or_rest a.1.elements.items n (width_under rest id) (all 0 a (omega arith) (sym ((Decides-eqb a.0 id).0 e))) others
      by_test false e others = others

module _ {A : Type 0} (same : A → A → Bool) (P : A → Type 0) where
  -- what holds of each item holds of those first seen
  pub all_first_seen : (xs : List A) → AllByRecursion P xs → AllByRecursion P (first_seen same xs)
  all_first_seen [] all = tt
  all_first_seen (x ∷ xs) all = (all.0, all_kept P (λ y. not (same x y)) (first_seen same xs) (all_first_seen xs all.1))

module _ {F : Type 0} (R : Ring F) (eq : F → F → Bool) (W m : ℕ) (width : ℕ → ℕ) where
  abbrev IsLawfulMessage : Message F → Type 0
  IsLawfulMessage message = IsLawfulKey W m width message.key

  -- an id and a lookup whose messages are lawful
  pub record IsLawfulLookup (a : ℕ × Lookup F) : Type 0 where
    pub below : a.0 < m
    pub widths : AllByRecursion (λ tuple. length tuple.items ≡ width a.0) a.1.elements.items
    pub narrow : AllByRecursion (λ tuple. length tuple.items ≤ W) a.1.elements.items

  sent_lawful : (w : Window F) (id : ℕ) (lookup : Lookup F) → IsLawfulLookup (id, lookup) → AllByRecursion IsLawfulMessage (sent_at R eq w id lookup).messages
  sent_lawful w id lookup lawful =
      all_sent R eq IsLawfulMessage (flags_at R w lookup) (branches_at R w id lookup) (of_branches lookup.elements.items lookup.multiplicities.items lawful.widths lawful.narrow)
    where
      of_branches : (ts : List (Vec (SymbolicExpression F) Global)) (ms : List (SymbolicExpression F)) → AllByRecursion (λ tuple. length tuple.items ≡ width id) ts → AllByRecursion (λ tuple. length tuple.items ≤ W) ts → AllByRecursion IsLawfulMessage (map (λ b. branch_at R w id b.0.items b.1) (zip ts ms))
      of_branches [] ms widths narrow = tt
      of_branches (t ∷ ts) [] widths narrow = tt
      of_branches (t ∷ ts) (count ∷ ms) widths narrow =
          (record { below = lawful.below; has_width = length-map t.items (value R w) ∙ widths.0; narrow = omega (arith, length-map t.items (value R w), narrow.0) }, of_branches ts ms widths.1 narrow.1)

  -- the items of two lists of one length at an index of both
  zip_here : {A B : Type 0} (P : A × B → Type 0) (xs : List A) (ys : List B) (k : ℕ) (d : A) (y : B) → length xs ≡ length ys → AllByRecursion P (zip xs ys) → k < length ys → y ≡ get_or ys k y → P (get_or xs k d, y)
  zip_here P xs [] k d y same all lt is = absurd (omega (arith, lt))
  zip_here P [] (b ∷ ys) k d y same all lt is = absurd (omega (arith, same))
  zip_here P (a ∷ xs) (b ∷ ys) zero d y same all lt is = subst (λ t. P (a, t)) (sym is) all.0
  zip_here P (a ∷ xs) (b ∷ ys) (suc k) d y same all lt is = zip_here P xs ys k d y (omega (arith, same)) all.1 (omega (arith, lt)) is

  instance_lawful : (instance : Instance F) → IsFitting instance → AllByRecursion IsLawfulLookup (zip instance.ids instance.lookups) → AllByRecursion IsLawfulMessage (trace_messages (sent_rows_of R eq instance))
  instance_lawful instance fitting lawful =
      let window = λ (r : ℕ). window_of instance.traces r in
      let of_row = λ (row : List (Sent F)). flat_map (λ (s : Sent F). s.messages) row in
      all_joined IsLawfulMessage of_row (sent_rows_of R eq instance)
      (all_images (λ row. AllByRecursion IsLawfulMessage (of_row row)) (λ r. sent_row_under R eq (id_of instance.ids) (window r) instance.lookups) (range_with_len 0 (height instance.traces.main))
      (each_of (λ r. AllByRecursion IsLawfulMessage (of_row (sent_row_under R eq (id_of instance.ids) (window r) instance.lookups))) (λ r.
      all_joined IsLawfulMessage (λ (s : Sent F). s.messages) (sent_row_under R eq (id_of instance.ids) (window r) instance.lookups)
      (all_images (λ (s : Sent F). AllByRecursion IsLawfulMessage s.messages) (λ lookup. sent_at R eq (window r) (id_of instance.ids lookup) lookup) instance.lookups
      (all_indexed (λ lookup. AllByRecursion IsLawfulMessage (sent_at R eq (window r) (id_of instance.ids lookup) lookup).messages) instance.lookups (λ k lookup below is.
      let at : lookup.column ≡ k = column_is instance.lookups k lookup fitting.fit.records below is in
      sent_lawful (window r) (id_of instance.ids lookup) lookup
      (subst (λ (c : ℕ). IsLawfulLookup (slice_index_or instance.ids c 0, lookup)) (sym at) (zip_here IsLawfulLookup instance.ids instance.lookups k 0 lookup fitting.ids lawful below is))))))
      (range_with_len 0 (height instance.traces.main))))

  batch_lawful : (instances : List (Instance F)) → AllByRecursion IsFitting instances → AllByRecursion IsLawfulLookup (batch_lookups_with_ids instances) → AllByRecursion IsLawfulMessage (batch_messages R eq instances)
  batch_lawful [] fitting lawful = tt
  batch_lawful (instance ∷ instances) fitting lawful =
      all_both IsLawfulMessage (trace_messages (sent_rows_of R eq instance)) (batch_messages R eq instances)
      (instance_lawful instance fitting.0 (all_front IsLawfulLookup (zip instance.ids instance.lookups) (batch_lookups_with_ids instances) lawful))
      (batch_lawful instances fitting.1 (all_back IsLawfulLookup (zip instance.ids instance.lookups) (batch_lookups_with_ids instances) lawful))

-- so all keys of a batch with lawful ids are lawful
pub keys_lawful : {F : Type 0} (R : Ring F) (eq : F → F → Bool) (W m p : ℕ) (instances : List (Instance F)) → AllByRecursion IsFitting instances → AreLawfulIds W m p instances → AllByRecursion (IsLawfulKey W m (width_under (batch_lookups_with_ids instances))) (keys eq (batch_messages R eq instances))
keys_lawful {F} R eq W m p instances fitting ids =
    let messages = batch_messages R eq instances in
    let width = width_under (batch_lookups_with_ids instances) in
    all_first_seen (same_key eq) (IsLawfulKey W m width) (map (λ t. t.key) messages)
    (all_images (IsLawfulKey W m width) (λ t. t.key) messages
    (batch_lawful R eq W m width instances fitting (recursion_from_All (IsLawfulLookup R eq W m width) (batch_lookups_with_ids instances) (λ i d lt. record {
      below = ids.below i d lt;
      widths = recursion_from_All (λ tuple. length tuple.items ≡ width (get_or (batch_lookups_with_ids instances) i d).0) _ (λ j t within.
          sym (width_is (batch_lookups_with_ids instances) (get_or (batch_lookups_with_ids instances) i d).0 (length (get_or (get_or (batch_lookups_with_ids instances) i d).1.elements.items j t).items)
          (λ k e below same. ids.widths i d lt k e below same j t within) i d lt refl (omega (arith, within))));
      narrow = recursion_from_All (λ tuple. length tuple.items ≤ W) _ (ids.narrow i d lt);
    }))))
