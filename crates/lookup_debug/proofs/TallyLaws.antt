-- Contributions that are counted, one by one.
use Rattle.std.proofs.Common.{◌≡◌, ◌++◌, ◌+◌, ◌≤◌, List, ℕ, drop, length, length-append, map, sym, zero-add, ap, ◌∙◌, arith}
use Rattle.std.proofs.Math.Seq.{drop-append_seam}
use Rattle.std.proofs.lemmas.List.{drop-map, length-map, map-append}
use Rattle.list_laws.proofs.Images.{map-map}
use Rattle.lookup_debug.specs.BusTable.{saturated_usize}
use Rattle.lookup_debug.specs.Contributions.{Contribution}
use Rattle.lookup_debug.specs.declared.arena.Contributions.{Contributions}
use Rattle.lookup_debug.specs.declared.arena.TupleSpan.{TupleSpan}
use Rattle.lookup_debug.specs.internal.Appended.{Appends, without_location}
use Rattle.lookup_debug.specs.internal.Arena.{span_amount}

-- a number that is capped before it is added
pub capped-later : (m n : ℕ) → saturated_usize (m + saturated_usize n) ≡ saturated_usize (m + n)
capped-later m n = omega arith

-- a number that was counted from nothing
pub capped-from : (after before n : ℕ) → after ≡ saturated_usize (before + n) → before ≡ 0 → after ≡ saturated_usize n
capped-from after before n e none = e ∙ ap saturated_usize (ap (λ b. b + n) none ∙ zero-add n)

-- the amounts of the spans that are appended are those of the contributions
pub appended_amounts : {F : Type 0} (before after : Contributions F) (more : List (Contribution F)) → Appends before after more
    → map (λ s. s.amount) (drop (length before.spans.items) after.spans.items) ≡ map (λ c. c.amount) more
appended_amounts {F} before after more appends =
    let old = map (span_amount before.elements.items) before.spans.items in
    sym (drop-map (λ (s : TupleSpan F). s.amount) (length before.spans.items) after.spans.items)
    ∙ ap (drop (length before.spans.items)) (
    sym (map-map (λ (a : List F × F). a.1) (span_amount after.elements.items) after.spans.items)
    ∙ ap (map (λ (a : List F × F). a.1)) appends.1
    ∙ map-append (λ (a : List F × F). a.1) old (map without_location more))
    ∙ seam (length before.spans.items) (map (λ (a : List F × F). a.1) old) (map (λ (a : List F × F). a.1) (map without_location more))
    (length-map old (λ (a : List F × F). a.1) ∙ length-map before.spans.items (span_amount before.elements.items))
    ∙ map-map (λ (a : List F × F). a.1) without_location more
  where
    seam : (n : ℕ) (xs ys : List F) → length xs ≡ n → drop n (xs ++ ys) ≡ ys
    seam n xs ys is = ap (λ k. drop k (xs ++ ys)) (sym is) ∙ drop-append_seam xs ys

-- there are no fewer spans than before
pub appended_grows : {F : Type 0} (before after : Contributions F) (more : List (Contribution F)) → Appends before after more → length before.spans.items ≤ length after.spans.items
appended_grows before after more appends =
    let old = map (span_amount before.elements.items) before.spans.items in
    omega (
      arith,
      sym (length-map after.spans.items (span_amount after.elements.items)) ∙ ap length appends.1 ∙ length-append old (map without_location more),
      length-map before.spans.items (span_amount before.elements.items),
    )
