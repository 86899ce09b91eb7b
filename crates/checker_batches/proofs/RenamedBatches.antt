-- A batch whose ids are renamed, different ones to different ones, has as many messages as before, and as many
-- of them do not balance.
use Rattle.std.proofs.Common.{◌≡◌, ◌<◌, ◌++◌, ℕ, Bool, true, false, cond, not, Decides, List, [], ◌∷◌, Option, None, Some, length, map, refl, sym, ap, ◌∙◌, arith}
use Rattle.std.proofs.lemmas.Bool.Decides.{same_from_decides}
use Rattle.std.proofs.lemmas.List.{get_or-map, length-map, map-append}
use Rattle.std.proofs.lemmas.Option.{slice_get-get_or}
use Rattle.std.proofs.lemmas.Simd.{map-map}
use Rattle.std.specs.List.{AllByRecursion, filter, flat_map, range_with_len, zip}
use Rattle.list_laws.proofs.Images.{filter_images}
use Rattle.list_laws.proofs.Each.{all_indexed, all_weaker, each_of}
use Rattle.field.specs.Ring.{Ring}
use Rattle.field.specs.Sums.{sum_in}
use Rattle.field.specs.Extension.{Extension, IsLawful}
use Rattle.air_expressions.specs.Window.{Window}
use Rattle.air.specs.Traces.{AirTraces, height_of, window_of}
use Rattle.lookup_model.specs.Message.{Key, Message, same_key}
use Rattle.lookup_model.specs.Net.{first_seen, keys, net, unbalanced_keys}
use Rattle.lookup_model.specs.Plain.{trace_messages}
use Rattle.lookup_model.specs.Sent.{branch_at, branches_at, chosen_branches, flags_at, sent, sent_at}
use Rattle.lookup_model.specs.Trace.{sent_row_under}
use Rattle.lookup_model.specs.declared.types.Lookup.{Lookup}
use Rattle.lookup_model.specs.Batches.Instances.{Instance, IsFitting}
use Rattle.lookup_model.specs.Batches.Messages.{batch_messages, id_of, sent_rows_of}
use Rattle.lookup_model.proofs.Lookups.KeyLaws.{same_key-Decides}
use Rattle.checker_batches.specs.Packed.{KeepsCounts}
use Rattle.checker_batches.specs.Renamed.{IsInjective, renamed_instance}

-- the images that are seen first
first_seen_images : {A B : Type 0} (f : A → B) (same : A → A → Bool) (same_image : B → B → Bool) → ((x y : A) → same_image (f x) (f y) ≡ same x y) → (xs : List A) → first_seen same_image (map f xs) ≡ map f (first_seen same xs)
first_seen_images f same same_image agree [] = refl
first_seen_images f same same_image agree (x ∷ xs) =
    ap (λ t. f x ∷ filter (λ y. not (same_image (f x) y)) t) (first_seen_images f same same_image agree xs)
    ∙ ap (λ t. f x ∷ t) (filter_images f (λ y. not (same x y)) (λ y. not (same_image (f x) y)) (λ y. ap not (agree x y)) (first_seen same xs))

-- parts whose items are renamed
parts_renamed : {A B C : Type 0} (of : B → List C) (rename : C → C) (after before : A → B) (xs : List A) → AllByRecursion (λ x. of (after x) ≡ map rename (of (before x))) xs → flat_map of (map after xs) ≡ map rename (flat_map of (map before xs))
parts_renamed of rename after before [] each = refl
parts_renamed of rename after before (x ∷ xs) each =
    (λ i. each.0 i ++ parts_renamed of rename after before xs each.1 i) ∙ sym (map-append rename (of (before x)) (flat_map of (map before xs)))

module _ {F : Type 0} (rename : ℕ → ℕ) where
  abbrev renamed_key : Key F → Key F
  renamed_key k = record { id = rename k.id; tuple = k.tuple }

  abbrev renamed_message : Message F → Message F
  renamed_message m = record { key = renamed_key m.key; multiplicity = m.multiplicity }

  module _ (R : Ring F) (eq : F → F → Bool) where
    chosen_renamed : (flags : List F) (branches : List (Message F)) → chosen_branches R eq flags (map renamed_message branches) ≡ map renamed_message (chosen_branches R eq flags branches)
    chosen_renamed (f ∷ fs) (b ∷ bs) =
        let seconds = λ (zs : List (F × Message F)). map (λ c. c.1) zs in
        let left = λ (ms : List (Message F)). filter (λ c. eq c.0 R.one) (zip fs ms) in
        elim (eq f R.one) as (λ set. seconds (cond set ((f, renamed_message b) ∷ left (map renamed_message bs)) (left (map renamed_message bs))) ≡ map renamed_message (seconds (cond set ((f, b) ∷ left bs) (left bs)))) [
          | true ↦ ap (λ t. renamed_message b ∷ t) (chosen_renamed fs bs)
          | false ↦ chosen_renamed fs bs
        ]
    chosen_renamed [] branches = refl
    chosen_renamed flags [] = refl

    sent_renamed : (flags : Option (List F)) (branches : List (Message F)) → (sent R eq flags (map renamed_message branches)).messages ≡ map renamed_message (sent R eq flags branches).messages
    sent_renamed None branches = refl
    sent_renamed (Some flags) branches = chosen_renamed flags branches

    -- what a lookup sends at a window under a renamed id
    lookup_renamed : (w : Window F) (id : ℕ) (l : Lookup F) → (sent_at R eq w (rename id) l).messages ≡ map renamed_message (sent_at R eq w id l).messages
    lookup_renamed w id l =
        ap (λ bs. (sent R eq (flags_at R w l) bs).messages) (sym (map-map renamed_message (λ b. branch_at R w id b.0.items b.1) (zip l.elements.items l.multiplicities.items)))
        ∙ sent_renamed (flags_at R w l) (branches_at R w id l)

    -- what the lookups of an AIR send on all rows
    rows_renamed : (ids : List ℕ) (traces : AirTraces F) (ls : List (Lookup F)) → AllByRecursion (λ l. l.column < length ids) ls → (rows : List ℕ)
        → trace_messages (map (λ r. sent_row_under R eq (id_of (map rename ids)) (window_of traces r) ls) rows)
        ≡ map renamed_message (trace_messages (map (λ r. sent_row_under R eq (id_of ids) (window_of traces r) ls) rows))
    rows_renamed ids traces ls within rows = parts_renamed (flat_map (λ s. s.messages)) renamed_message _ _ rows (each_of _ (λ r.
        parts_renamed (λ s. s.messages) renamed_message (λ l. sent_at R eq (window_of traces r) (id_of (map rename ids) l) l) (λ l. sent_at R eq (window_of traces r) (id_of ids l) l) ls
        (all_weaker (λ l. l.column < length ids) _ (λ l lt.
        ap (λ n. (sent_at R eq (window_of traces r) n l).messages) (get_or-map rename ids l.column 0 0 lt) ∙ lookup_renamed (window_of traces r) (id_of ids l) l) ls within)) rows)

    -- the columns of an AIR that fits have ids
    have_ids : (instance : Instance F) → IsFitting instance → AllByRecursion (λ l. l.column < length instance.ids) instance.lookups
    have_ids instance fitting =
        all_indexed (λ l. l.column < length instance.ids) instance.lookups
        (λ i l lt is. omega (arith, (fitting.fit.records i l lt (slice_get-get_or instance.lookups i l lt ∙ ap Some (sym is))).0, lt, fitting.ids))

    -- the messages of a batch
    batch_renamed : (instances : List (Instance F)) → AllByRecursion IsFitting instances → batch_messages R eq (map (renamed_instance rename) instances) ≡ map renamed_message (batch_messages R eq instances)
    batch_renamed [] fitting = refl
    batch_renamed (i ∷ is) fitting =
        let rows = range_with_len 0 (height_of i.traces) in
        (λ j. rows_renamed i.ids i.traces i.lookups (have_ids i fitting.0) rows j ++ batch_renamed is fitting.1 j)
        ∙ sym (map-append renamed_message (trace_messages (sent_rows_of R eq i)) (batch_messages R eq is))

module _ {F : Type 0} (R : Ring F) (eq : F → F → Bool) (decides : (a b : F) → Decides (eq a b) (a ≡ b)) (rename : ℕ → ℕ) (apart : IsInjective rename) where
  key_back : (a b : Key F) → renamed_key rename a ≡ renamed_key rename b → a ≡ b
  key_back a b e =
      let id : a.id ≡ b.id = apart a.id b.id (ap (λ (k : Key F). k.id) e) in
      λ i. record { id = id i; tuple = (e i).tuple }

  same_keys : (a b : Key F) → same_key eq (renamed_key rename a) (renamed_key rename b) ≡ same_key eq a b
  same_keys a b =
      let after = same_key-Decides eq decides (renamed_key rename a) (renamed_key rename b) in
      same_from_decides (same_key eq (renamed_key rename a) (renamed_key rename b)) (same_key eq a b) (λ e. key_back a b (after.0 e), λ same. after.1 (ap (renamed_key rename) same)) (same_key-Decides eq decides a b)

  keys_renamed : (ms : List (Message F)) → keys eq (map (renamed_message rename) ms) ≡ map (renamed_key rename) (keys eq ms)
  keys_renamed ms =
      ap (first_seen (same_key eq)) (map-map (λ (m : Message F). m.key) (renamed_message rename) ms ∙ sym (map-map (renamed_key rename) (λ (m : Message F). m.key) ms))
      ∙ first_seen_images (renamed_key rename) (same_key eq) (same_key eq) same_keys (map (λ m. m.key) ms)

  net_renamed : (ms : List (Message F)) (key : Key F) → net R eq (map (renamed_message rename) ms) (renamed_key rename key) ≡ net R eq ms key
  net_renamed ms key =
      ap (λ t. sum_in R (map (λ m. m.multiplicity) t)) (filter_images (renamed_message rename) (λ m. same_key eq key m.key) (λ m. same_key eq (renamed_key rename key) m.key) (λ m. same_keys key m.key) ms)
      ∙ ap (sum_in R) (map-map (λ (m : Message F). m.multiplicity) (renamed_message rename) (filter (λ m. same_key eq key m.key) ms))

  unbalanced_renamed : (ms : List (Message F)) → unbalanced_keys R eq (map (renamed_message rename) ms) ≡ map (renamed_key rename) (unbalanced_keys R eq ms)
  unbalanced_renamed ms =
      ap (filter (λ key. not (eq (net R eq (map (renamed_message rename) ms) key) R.zero))) (keys_renamed ms)
      ∙ filter_images (renamed_key rename) (λ key. not (eq (net R eq ms key) R.zero)) (λ key. not (eq (net R eq (map (renamed_message rename) ms) key) R.zero))
      (λ key. ap (λ n. not (eq n R.zero)) (net_renamed ms key)) (keys eq ms)

-- the counts stay
pub renamed_counts : {F K : Type 0} {E : Extension F K} (laws : IsLawful E) (rename : ℕ → ℕ) → IsInjective rename → (instances : List (Instance F)) → AllByRecursion IsFitting instances → KeepsCounts E instances (map (renamed_instance rename) instances)
renamed_counts {F} {K} {E} laws rename apart instances fitting =
    let messages = batch_messages E.base E.base_eq instances in
    let same = batch_renamed rename E.base E.base_eq instances fitting in
    record {
      messages = ap (λ (ms : List (Message F)). length (keys E.base_eq ms)) same ∙ ap length (keys_renamed E.base E.base_eq laws.base_eq rename apart messages) ∙ length-map (keys E.base_eq messages) (renamed_key rename);
      unbalanced =
          ap (λ (ms : List (Message F)). length (unbalanced_keys E.base E.base_eq ms)) same
          ∙ ap length (unbalanced_renamed E.base E.base_eq laws.base_eq rename apart messages)
          ∙ length-map (unbalanced_keys E.base E.base_eq messages) (renamed_key rename);
    }
