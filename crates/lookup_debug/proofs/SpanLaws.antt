-- Cuts of a list of elements that grows, and the nets of spans, span by span.
use Rattle.std.proofs.Common.{◌≡◌, ℕ, ◌+◌, ◌-◌, ◌≤◌, All, List, [], ◌∷◌, ◌++◌, append_assoc, drop, length, length-append, map, take, ap, refl, subst, sym, ◌∙◌, arith, suc, ◌<◌, Bool, get_or, slice_range, unwrap_or, Decides}
use Rattle.std.proofs.lemmas.List.{append-nil, drop-append-le, length-drop, map-append, take-append-le, take_all}
use Rattle.std.proofs.lemmas.List.Elements.{All-push}
use Rattle.std.specs.List.{slice_range}
use Rattle.std.proofs.lemmas.Slice.Eq.{slice_eq-Decides}
use Rattle.std.specs.Borrow.{Bor}
use Rattle.std.specs.Cmp.Lexicographic.{pointwise}
use Rattle.std.specs.Map.{lookup}
use Rattle.list_laws.proofs.Images.{images_more}
use Rattle.field.specs.Ring.{Ring, IsCommutativeRing}
use Rattle.lookup_messages.proofs.NetEntries.{one_more}
use Rattle.lookup_debug.specs.internal.Appended.{Appends, without_location}
use Rattle.lookup_debug.specs.internal.Arena.{AreWithin, amounts_in, span_amount}
use Rattle.lookup_debug.specs.Contributions.{Contribution}
use Rattle.lookup_debug.specs.declared.arena.Contributions.{Contributions}
use Rattle.lookup_debug.specs.declared.arena.TupleSpan.{TupleSpan}
use Rattle.lookup_debug.specs.internal.Nets.{amount_nets, tuple_entries}
use Rattle.indexmap.specs.IndexMap.{insert_entry}

module _ {F : Type 0} where
  -- a part of a list stays as it is when more comes after the list
  slice_range-longer : (xs ys : List F) (a b : ℕ) → a ≤ b → b ≤ length xs
      → slice_range (xs ++ ys) a b ≡ slice_range xs a b
  slice_range-longer xs ys a b ordered within =
      ap (take (b - a)) (drop-append-le a xs ys (omega (arith, ordered, within)))
      ∙ take-append-le (b - a) (drop a xs) ys (omega (arith, length-drop a xs, ordered, within))

  -- and what comes after it is the part from its end
  slice_range-last : (xs ys : List F) (a b : ℕ) → a ≡ length xs → b ≡ length (xs ++ ys)
      → slice_range (xs ++ ys) a b ≡ ys
  slice_range-last xs ys a b a_is b_is =
      ap (take (b - a)) (ap (λ k. drop k (xs ++ ys)) a_is ∙ drop-front xs)
      ∙ take-whole ys (b - a) (omega (arith, a_is, b_is, length-append xs ys))
    where
      drop-front : (zs : List F) → drop (length zs) (zs ++ ys) ≡ ys
      drop-front [] = refl
      drop-front (z ∷ zs) = drop-front zs

      take-whole : (zs : List F) (n : ℕ) → n ≡ length zs → take n zs ≡ zs
      take-whole zs n is = take_all n zs (omega (arith, is))

  -- whether a span is a part of this many elements
  abbrev IsPart : ℕ → TupleSpan F → Type 0
  IsPart n span = (span.start ≤ span.end) × (span.end ≤ n)

  -- spans have the same amounts when more elements come
  kept : (xs ys : List F) (spans : List (TupleSpan F)) → All (IsPart (length xs)) spans
      → map (span_amount (xs ++ ys)) spans ≡ map (span_amount xs) spans
  kept xs ys [] parts = refl
  kept xs ys (span ∷ spans) parts =
      let here : IsPart (length xs) span = parts 0 span (omega arith) in
      λ i. (slice_range-longer xs ys span.start span.end here.0 here.1 i, span.amount) ∷ kept xs ys spans (λ k d lt. parts (suc k) d (omega (arith, lt))) i

  -- parts of some elements are parts of more
  still_parts : (n m : ℕ) → n ≤ m → (spans : List (TupleSpan F)) → All (IsPart n) spans
      → All (IsPart m) spans
  still_parts n m le spans parts = λ k d lt. (let p = parts k d lt in (p.0, omega (arith, p.1, le)))

  -- nothing is appended
  pub appends-none : (c : Contributions F) → AreWithin c → Appends c c []
  appends-none c within = (within, sym (append-nil (amounts_in c)))

  -- first some contributions are appended, and then more
  pub appends-more : (a b c : Contributions F) (xs ys : List (Contribution F)) → Appends a b xs
      → Appends b c ys → Appends a c (xs ++ ys)
  appends-more a b c xs ys first then = (
    then.0,
    then.1
        ∙ ap (λ t. t ++ map without_location ys) first.1
        ∙ append_assoc (amounts_in a) (map without_location xs) (map without_location ys)
        ∙ ap (λ t. amounts_in a ++ t) (sym (map-append without_location xs ys)),
  )

  -- one more span, from the end of the elements that were there to that of those that are there now
  pub appends-span : (before after : Contributions F) (tuple : List F) (span : TupleSpan F)
      → AreWithin before
      → after.elements.items ≡ before.elements.items ++ tuple
      → after.spans.items ≡ before.spans.items ++ span ∷ []
      → span.start ≡ length before.elements.items → span.end ≡ length after.elements.items
      → AreWithin after × (amounts_in after ≡ amounts_in before ++ (tuple, span.amount) ∷ [])
  appends-span before after tuple span within elements_are spans_are start_is end_is = (parts, seen)
    where
      xs : List F
      xs = before.elements.items

      longer : length after.elements.items ≡ length xs + length tuple
      longer = ap length elements_are ∙ length-append xs tuple

      parts : AreWithin after
      parts =
          subst (λ (spans : List (TupleSpan F)). All (IsPart (length after.elements.items)) spans) (sym spans_are)
          (All-push (IsPart (length after.elements.items)) before.spans.items span
          (still_parts (length xs) (length after.elements.items) (omega (arith, longer)) before.spans.items within)
          (omega (arith, start_is, end_is, longer), omega (arith, end_is)))

      last : slice_range (xs ++ tuple) span.start span.end ≡ tuple
      last = slice_range-last xs tuple span.start span.end start_is (end_is ∙ ap length elements_are)

      seen : amounts_in after ≡ amounts_in before ++ (tuple, span.amount) ∷ []
      seen =
          (λ i. map (span_amount (elements_are i)) (spans_are i))
          ∙ map-append (span_amount (xs ++ tuple)) before.spans.items (span ∷ [])
          ∙ (λ i. kept xs tuple before.spans.items within i ++ (last i, span.amount) ∷ [])

module _ {F : Type 0} {R : Ring F} (laws : IsCommutativeRing R) (eq : F → F → Bool) (eq_is : (a b : F) → Decides (eq a b) (a ≡ b)) (elements : List F) where
  -- one more span is added to the net of its tuple
  pub span_more : (spans : List (TupleSpan F)) (i : ℕ) (span : TupleSpan F) → i < length spans → span ≡ get_or spans i span
      → (before after : List (Bor (List F) × F)) (key : Bor (List F)) → key.now ≡ slice_range elements span.start span.end
      → tuple_entries before ≡ amount_nets R eq (map (span_amount elements) (take i spans))
      → after ≡ insert_entry (λ a b. pointwise eq a.now b.now) before key (R.add (unwrap_or (lookup (λ b. pointwise eq key.now b.now) before) R.zero) span.amount)
      → tuple_entries after ≡ amount_nets R eq (map (span_amount elements) (take (i + 1) spans))
  span_more spans i span lt is before after key key_is so_far inserted =
      let done = map (span_amount elements) (take i spans) in
      ap tuple_entries inserted
      ∙ one_more (pointwise eq) (λ a b. slice_eq-Decides eq_is a b (pointwise eq a b) refl) (λ (k : Bor (List F)). k.now) laws (λ (a : List F × F). a.0) (λ a. a.1)
      done (span_amount elements span) before key _ _ so_far key_is refl refl
      ∙ ap (amount_nets R eq) (sym (images_more (span_amount elements) spans i span lt is))
