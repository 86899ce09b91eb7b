-- A single lookup is packed as it is.
use Rattle.std.proofs.Common.{◌≡◌, ◌+◌, ◌≤◌, inl, inr, ℕ, suc, Bool, true, false, cond, not, List, [], ◌∷◌, ◌++◌, Some, Result, Ok, Err, MatchResult, length, map, refl, sym, ap, subst, ◌∙◌, arith}
use Rattle.std.proofs.lemmas.List.{append-nil, length-append}
use Rattle.std.proofs.lemmas.Grind.{flat_map-append}
use Rattle.std.specs.List.{AllByRecursion, cons_option, filter, flat_map}
use Rattle.list_laws.proofs.Each.{all_there}
use Rattle.lookup_model.specs.Net.{first_seen}
use Rattle.lookup_model.specs.Outline.{Outline}
use Rattle.lookup_model.specs.declared.error.LookupError.{LookupError}
use Rattle.lookup_model.specs.declared.error.LookupError.TheVariants.{Memory}
use Rattle.lookup.specs.BusWidths.{IsWidthRefusal, widths_of}
use Rattle.lookup.specs.Buses.{bus_names, on_bus}
use Rattle.lookup_model.specs.Names.{is_named, same_name}
use Rattle.lookup.specs.Cuts.{part_items}
use Rattle.lookup.specs.Packing.{AreFilled, IsFillRefusal, IsPacking, Packs, additive_lookups, is_additive, joined_lookup, numbered_lookups, passing}
use Rattle.lookup.proofs.FillLaws.{joined_one}
use Rattle.lookup_model.proofs.Names.{same_name-Decides}
use Rattle.lookup.proofs.ListLaws.{none_behind}
use Rattle.lookup.proofs.JoinedMessages.{on_some_bus}

module _ {E : Type 0} (o : Outline E) where
  -- a cut of one lookup makes that lookup
  cut_of_one : (cut : List (Outline E × List (Outline E))) → flat_map part_items cut ≡ o ∷ [] → map joined_lookup cut ≡ o ∷ []
  cut_of_one [] e = absurd (cc e)
  cut_of_one ((first, []) ∷ []) e = cc (e, joined_one first)
  cut_of_one ((first, x ∷ xs) ∷ []) e = absurd (cc e)
  cut_of_one ((first, rest) ∷ q ∷ qs) e = let none : rest ++ q.0 ∷ (q.1 ++ flat_map part_items qs) ≡ [] = cc e in absurd (none_behind rest q.0 (q.1 ++ flat_map part_items qs) none)

  module _ (answers : Outline E → Result ℕ LookupError → Type 0) (most : ℕ) where
    no_buses : (cuts : List (List (Outline E × List (Outline E)))) → AreFilled answers most [] [] cuts → flat_map (λ cut. map joined_lookup cut) cuts ≡ []
    no_buses [] filled = refl
    no_buses (c ∷ cs) filled = absurd filled

    one_bus : (name : List ℕ) → o.bus ≡ Some name → (cuts : List (List (Outline E × List (Outline E)))) → AreFilled answers most (o ∷ []) (name ∷ []) cuts → flat_map (λ cut. map joined_lookup cut) cuts ≡ o ∷ []
    one_bus name on [] filled = absurd filled
    one_bus name on (c ∷ d ∷ ds) filled = absurd filled.1
    one_bus name on (c ∷ []) filled =
        let named : is_named name o.bus ≡ true = ap (is_named name) on ∙ (same_name-Decides name name).1 refl in
        append-nil (map joined_lookup c) ∙ cut_of_one c (filled.0.0 ∙ ap (λ b. cond b (o ∷ []) []) named)

    -- its packing is the lookup in column 0
    pub one_packed : (after : List (Outline E)) → IsPacking answers most (o ∷ []) after → after ≡ record o { column = 0 } ∷ []
    one_packed after packing = packing.columns ∙ ap numbered_lookups (by_test (is_additive o) refl)
      where
        by_test : (b : Bool) → is_additive o ≡ b → passing (o ∷ []) ++ flat_map (λ cut. map joined_lookup cut) packing.cuts ≡ o ∷ []
        by_test false e =
            let none : additive_lookups (o ∷ []) ≡ [] = ap (λ b. cond b (o ∷ []) []) e in
            let empty = no_buses packing.cuts (subst (λ (os : List (Outline E)). AreFilled answers most os (bus_names os) packing.cuts) none packing.filled) in
            (λ i. cond (not (e i)) (o ∷ []) [] ++ empty i)
        by_test true e =
            let (name, on, plain) = on_some_bus o e in
            let one : additive_lookups (o ∷ []) ≡ o ∷ [] = ap (λ b. cond b (o ∷ []) []) e in
            let here = subst (λ (os : List (Outline E)). AreFilled answers most os (bus_names os) packing.cuts) one packing.filled in
            let names : bus_names (o ∷ []) ≡ name ∷ [] = ap (λ bus. first_seen same_name (cons_option bus [])) on in
            let filled = subst (λ (ns : List (List ℕ)). AreFilled answers most (o ∷ []) ns packing.cuts) names here in
            (λ i. cond (not (e i)) (o ∷ []) [] ++ one_bus name on packing.cuts filled i)

    -- no trial of it is refused, since there is none
    few : (p : Outline E → Bool) (os : List (Outline E)) → length (filter p os) ≤ length os
    few p [] = omega arith
    few p (x ∷ xs) = grind (arith, few p xs)

    never_stuck : (e : LookupError) → IsFillRefusal answers most (o ∷ []) e → ⊥
    never_stuck e refusal =
        let members = on_bus refusal.item (additive_lookups (o ∷ [])) in
        let few_members : length members ≤ 1 = omega (arith, few (λ p. is_named refusal.item p.bus) (additive_lookups (o ∷ [])), few is_additive (o ∷ [])) in
        let stuck = refusal.fault in
        let tried = flat_map part_items (stuck.closed ++ stuck.part ∷ []) in
        let many : length members ≡ length tried + suc (length stuck.rest) = ap length stuck.members_are ∙ length-append tried (stuck.next ∷ stuck.rest) in
        let some : length tried ≡ length (flat_map part_items stuck.closed) + suc (length (stuck.part.1 ++ [])) = ap length (flat_map-append part_items stuck.closed (stuck.part ∷ [])) ∙ length-append (flat_map part_items stuck.closed) (stuck.part.0 ∷ stuck.part.1 ++ []) in
        omega (arith, few_members, many, some)

  -- if all its tuples have one width, it is not refused for its widths
  one_width : (width : ℕ) → AllByRecursion (λ n. n ≡ width) (widths_of o) → (e : LookupError) → IsWidthRefusal (o ∷ []) e → ⊥
  one_width width even e refusal =
      let all = on_this refusal.item in
      let differ = refusal.fault.differ in
      let first = all_there (λ n. n ≡ width) (flat_map widths_of (on_bus refusal.item (o ∷ []))) 0 refusal.fault.width all differ.first in
      let second = all_there (λ n. n ≡ width) (flat_map widths_of (on_bus refusal.item (o ∷ []))) differ.index refusal.fault.other all differ.found in
      differ.differs (second ∙ sym first)
    where
      on_this : (name : List ℕ) → AllByRecursion (λ n. n ≡ width) (flat_map widths_of (on_bus name (o ∷ [])))
      on_this name = grind (arith, even, append-nil (widths_of o))

-- Packing one lookup, whose tuples have one width, gives it in column 0, or memory ran out.
pub packs_one : {E S : Type 0} (answers : Outline E → Result ℕ LookupError → Type 0) (most : ℕ) (seen : S → List (Outline E)) (before : List (Outline E)) (o : Outline E) (width : ℕ) (result : Result S LookupError) → before ≡ o ∷ [] → AllByRecursion (λ n. n ≡ width) (widths_of o)
    → Packs answers most seen before result → MatchResult result (λ set. seen set ≡ record o { column = 0 } ∷ []) (λ e. e ≡ Memory)
packs_one answers most seen before o width (Ok set) is even packs = one_packed o answers most (seen set) (subst (λ (os : List (Outline _)). IsPacking answers most os (seen set)) is packs.1)
packs_one answers most seen before o width (Err e) is even (inl memory) = memory
packs_one answers most seen before o width (Err e) is even (inr (inl widths)) = absurd (one_width o width even e (subst (λ (os : List (Outline _)). IsWidthRefusal os e) is widths))
packs_one answers most seen before o width (Err e) is even (inr (inr fills)) = absurd (never_stuck o answers most e (subst (λ (os : List (Outline _)). IsFillRefusal answers most os e) is fills.1))
