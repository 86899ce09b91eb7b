-- Lookups one after another, in the columns 0, 1, 2, …
use Rattle.std.proofs.Common.{◌≡◌, ◌+◌, ◌-◌, ◌<◌, inl, inr, ℕ, All, List, [], ◌∷◌, ◌++◌, Some, length, map, get_or, set, refl, sym, ap, subst, ◌∙◌, arith, length-append}
use Rattle.std.proofs.Math.ListN.{get_or-append}
use Rattle.std.proofs.Math.Seq.{get_or-append_seam}
use Rattle.std.proofs.lemmas.Bool.{cases_lt}
use Rattle.std.proofs.lemmas.List.{append_assoc, length_push, map_push, set-append_right}
use Rattle.std.proofs.lemmas.List.Elements.{All-head, All-tail}
use Rattle.std.proofs.lemmas.Option.{get_or_from_slice_get, slice_get-get_or}
use Rattle.lookup_model.specs.Outline.{Outline, fields_of}
use Rattle.lookup_model.specs.Records.{AreRecords, HasEqualLengths, IsRecordAt}
use Rattle.lookup_model.specs.declared.types.Lookup.{Lookup}
use Rattle.lookup.specs.Packing.{numbered_lookups, numbered_from}

-- one more well formed record
pub AreRecords-push : {F : Type 0} (lookups : List (Lookup F)) (l : Lookup F) → AreRecords lookups → IsRecordAt (length lookups) l → AreRecords (lookups ++ l ∷ [])
AreRecords-push {F} lookups l records record_at i lookup lt there =
    let found = get_or_from_slice_get (lookups ++ l ∷ []) i lookup lookup there in
    elim (cases_lt i (length lookups)) [
      | inl below ↦ records i lookup below (slice_get-get_or lookups i lookup below ∙ ap Some (sym (get_or-append lookups (l ∷ []) lookup i below) ∙ found))
      | inr above ↦
          let last : i ≡ length lookups = omega (arith, lt, above, length_push lookups l) in
          grind (arith, last, found, record_at, get_or-append_seam lookups l [] lookup)
    ]

-- the lookups with one more are well formed
pub next_records : {F : Type 0} (before after : List (Lookup F)) (l : Lookup F) (column : ℕ) → after ≡ before ++ l ∷ [] → column ≡ length before → AreRecords before → IsRecordAt column l → AreRecords after
next_records {F} before after l column pushed at records record_at =
    subst (λ (t : List (Lookup F)). AreRecords t) (sym pushed) (AreRecords-push before l records (subst (λ (n : ℕ). IsRecordAt n l) at record_at))

-- the lookups so far and those that are left, one further
pub next_numbered : {L E : Type 0} (seen : L → Outline E) (before after : List L) (l x : L) (left later : List L) → after ≡ before ++ l ∷ [] → left ≡ x ∷ later → seen l ≡ record (seen x) { column = length before }
    → map seen after ++ numbered_from (length after) (map seen later) ≡ map seen before ++ numbered_from (length before) (map seen left)
next_numbered seen before after l x left later pushed next is =
    (λ i. map seen (pushed i) ++ numbered_from (length (pushed i)) (map seen later))
    ∙ (λ i. map_push seen before l i ++ numbered_from (length_push before l i) (map seen later))
    ∙ append_assoc (map seen before) (seen l ∷ []) (numbered_from (length before + 1) (map seen later))
    ∙ ap (λ o. map seen before ++ o ∷ numbered_from (length before + 1) (map seen later)) is
    ∙ ap (λ t. map seen before ++ numbered_from (length before) (map seen t)) (sym next)

-- Lookups of which the first n stand in their columns.
pub record AreNumbered {F : Type 0} (lookups items : List (Lookup F)) (n : ℕ) : Type 0 where
  pub front : List (Lookup F)
  pub rest : List (Lookup F)
  pub items_are : items ≡ front ++ rest
  pub long : length items ≡ length lookups
  pub at : length front ≡ n
  pub fields : map fields_of front ++ numbered_from (length front) (map fields_of rest) ≡ numbered_lookups (map fields_of lookups)
  pub records : AreRecords front
  pub left : All HasEqualLengths rest

-- one more of them
pub one_numbered : {F : Type 0} (lookups items after : List (Lookup F)) (n : ℕ) (x : Lookup F) → AreNumbered lookups items n → n < length items → x ≡ get_or items n x → after ≡ set items n (record x { column = n }) → AreNumbered lookups after (n + 1)
one_numbered {F} lookups items after n x so_far lt is after_is = by_rest so_far.rest so_far.items_are so_far.fields so_far.left
  where
    by_rest : (rest : List (Lookup F)) → items ≡ so_far.front ++ rest → map fields_of so_far.front ++ numbered_from (length so_far.front) (map fields_of rest) ≡ numbered_lookups (map fields_of lookups) → All HasEqualLengths rest → AreNumbered lookups after (n + 1)
    by_rest [] items_are fields left = absurd (omega (arith, lt, so_far.at, ap length items_are, length-append so_far.front []))
    by_rest (y ∷ ys) items_are fields left =
        let placed : Lookup F = record y { column = n } in
        let same : x ≡ y = is ∙ (λ i. get_or (items_are i) (sym so_far.at i) x) ∙ get_or-append_seam so_far.front y ys x in
        let none : n - length so_far.front ≡ 0 = omega (arith, so_far.at) in
        let whole : after ≡ so_far.front ++ placed ∷ ys =
        after_is
        ∙ (λ i. set (items_are i) n (record (same i) { column = n }))
        ∙ set-append_right so_far.front (y ∷ ys) (length so_far.front) n placed refl (omega (arith, so_far.at))
        ∙ ap (λ k. so_far.front ++ set (y ∷ ys) k placed) none in
        let head = All-head HasEqualLengths y ys left in record {
          front = so_far.front ++ placed ∷ [];
          rest = ys;
          items_are = whole ∙ sym (append_assoc so_far.front (placed ∷ []) ys);
          long = omega (arith, ap length whole, length-append so_far.front (placed ∷ ys), ap length items_are, length-append so_far.front (y ∷ ys), so_far.long);
          at = length_push so_far.front placed ∙ ap (λ k. k + 1) so_far.at;
          fields = next_numbered fields_of so_far.front (so_far.front ++ placed ∷ []) placed y (y ∷ ys) ys refl refl (λ i. record (fields_of y) { column = sym so_far.at i }) ∙ fields;
          records = next_records so_far.front (so_far.front ++ placed ∷ []) placed n refl (sym so_far.at) so_far.records (refl, record { multiplicities = head.multiplicities; flags = head.flags });
          left = All-tail HasEqualLengths y ys left;
        }

-- none of them, and all
pub none_numbered : {F : Type 0} (lookups : List (Lookup F)) → All HasEqualLengths lookups → AreNumbered lookups lookups 0
none_numbered lookups lengths = record {
  front = [];
  rest = lookups;
  items_are = refl;
  long = refl;
  at = refl;
  fields = refl;
  records = λ i l lt there. absurd (omega (arith, lt));
  left = lengths;
}
