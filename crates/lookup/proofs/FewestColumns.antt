-- With the degree of the gadget a greedy filling has the fewest columns.
use Rattle.std.proofs.Common.{◌≡◌, ◌≤◌, ◌⊎◌, inl, inr, ℕ, true, false, List, [], ◌∷◌, ◌++◌, Option, None, length, map, refl, sym, ap, subst, ◌∙◌, arith, ◌+◌, ◌-◌, ◌<◌, take, drop, length-append, Result, Ok, Err, IfOk}
use Rattle.std.proofs.lemmas.List.{append-nil, length-map, map-append, drop-drop, drop-take, length-drop, take-take, take_at, drop_at, append_assoc, length_push, take-append-drop}
use Rattle.std.proofs.lemmas.List.Elements.{filter-append}
use Rattle.std.specs.List.{AllByRecursion, filter, filter_map, flat_map, zip}
use Rattle.std.specs.Option.{option_map}
use Rattle.list_laws.proofs.Images.{filter_images}
use Rattle.list_laws.proofs.Zips.{zip-append}
use Rattle.list_laws.proofs.Each.{all_front, all_back, all_both, all_kept, all_with, filter_passes}
use Rattle.air_expressions.specs.declared.base_expression.SymbolicExpression.{SymbolicExpression}
use Rattle.lookup_model.proofs.Lookups.Regrouping.{IsSeparate, first_seen_separate}
use Rattle.lookup_model.specs.LookupDegree.{branch_degrees, constraint_degree_of, expression_degree, outline_branch_degrees, outline_degree, BranchDegrees}
use Rattle.lookup_model.specs.Outline.{Outline}
use Rattle.lookup.specs.Buses.{bus_names, on_bus}
use Rattle.lookup_model.specs.Names.{is_named, same_name}
use Rattle.lookup.specs.Cuts.{AreClosed, IsCut, part_items}
use Rattle.lookup.specs.Fewest.{AnswersDegree, HasFewestColumns}
use Rattle.lookup.specs.Packing.{AreFilled, IsAbove, IsFilling, IsPacking, additive_lookups, is_additive, joined_lookup, numbered_from, passing, Packs}
use Rattle.lookup.specs.internal.TrialDegrees.{IsPlain}
use Rattle.lookup.proofs.Columns.{unnumbered, unnumbered_all}
use Rattle.lookup.proofs.FillLaws.{joined_more, with_next}
use Rattle.lookup_model.proofs.Names.{same_name-Decides}
use Rattle.std.proofs.Math.Seq.{take-append_seam}
use Rattle.std.proofs.lemmas.Bool.{cases_lt}
use Rattle.lookup.specs.internal.Cuts.{IsHereditary, IsSplit}
use Rattle.std.proofs.lemmas.Grind.{flat_map-append}
use Rattle.lookup_model.proofs.SumDegreeLaws.{degree_of_back, degree_of_front}
use Rattle.lookup_model.specs.declared.error.LookupError.{LookupError}

-- a beginning and the next item
take_into : {A : Type 0} (xs : List A) (y : A) (ys : List A) → take (length xs + 1) (xs ++ y ∷ ys) ≡ xs ++ y ∷ []
take_into xs y ys = ap (take (length xs + 1)) (sym (append_assoc xs (y ∷ []) ys)) ∙ take_at (xs ++ y ∷ []) ys (length xs + 1) (length_push xs y)

-- no part fits together with the first member of the next
abbrev pub AreFull : {A : Type 0} → (List A → Type 0) → List (A × List A) → Type 0
AreFull Fits parts = AreClosed (λ part x. ¬ Fits (part_items part ++ x ∷ [])) parts

module _ {A : Type 0} (Fits : List A → Type 0) (hereditary : IsHereditary Fits) (whole : List A) where
  -- what is left after the first part, and that part
  rest_is : (part : A × List A) (parts : List (A × List A)) (a : ℕ) → flat_map part_items (part ∷ parts) ≡ drop a whole → flat_map part_items parts ≡ drop (a + length (part_items part)) whole
  rest_is part parts a e =
      let n = length (part_items part) in
      sym (drop_at (part_items part) (flat_map part_items parts) n refl) ∙ ap (drop n) e ∙ drop-drop n a whole

  first_is : (part : A × List A) (parts : List (A × List A)) (a : ℕ) → flat_map part_items (part ∷ parts) ≡ drop a whole → part_items part ≡ take (length (part_items part)) (drop a whole)
  first_is part parts a e = sym (take-append_seam (part_items part) (flat_map part_items parts)) ∙ ap (take (length (part_items part))) e

  later_full : (q : A × List A) (qs : List (A × List A)) → AreFull Fits (q ∷ qs) → AreFull Fits qs
  later_full q [] full = tt
  later_full q (r ∷ rs) full = full.1

  -- Full parts from an index on are no more than those of a split from an earlier index on.
  no_more : (parts split : List (A × List A)) (a b : ℕ) → b ≤ a → flat_map part_items parts ≡ drop a whole → AreFull Fits parts
      → flat_map part_items split ≡ drop b whole → AllByRecursion (λ part. (part.1 ≡ []) ⊎ Fits (part_items part)) split → length parts ≤ length split
  no_more [] split a b le cut full other fits = omega arith
  no_more (q ∷ qs) [] a b le cut full other fits =
      absurd (omega (arith, ap length cut, ap length other, length-append (part_items q) (flat_map part_items qs), length-drop a whole, length-drop b whole, le))
  no_more (q ∷ qs) (p ∷ ps) a b le cut full other fits = elim (cases_lt (a + length (part_items q)) (b + length (part_items p))) [
    | inl lt ↦ absurd (impossible qs cut full lt)
    | inr end ↦ omega (arith, no_more qs ps (a + length (part_items q)) (b + length (part_items p)) end (rest_is q qs a cut) (later_full q qs full) (rest_is p ps b other) fits.1)
  ]
    where
      -- A full part that ends earlier would fit with the next member, since both lie within the other part.
      impossible : (rs : List (A × List A)) → flat_map part_items (q ∷ rs) ≡ drop a whole → AreFull Fits (q ∷ rs) → a + length (part_items q) < b + length (part_items p) → ⊥
      impossible [] e f lt =
          omega (arith, lt, le, ap length e, ap length other, length-append (part_items q) [], length-append (part_items p) (flat_map part_items ps), length-drop a whole, length-drop b whole)
      impossible (r ∷ rs) e f lt = by_fit fits.0
        where
          by_fit : (p.1 ≡ []) ⊎ Fits (part_items p) → ⊥
          by_fit (inl one) = omega (arith, lt, le, ap length one)
          by_fit (inr fit) =
              let gap = a - b in
              let k = length (part_items q) + 1 in
              let m = length (part_items p) - gap in
              let wide : length (part_items p) ≡ gap + m = omega (arith, lt, le) in
              let reach : b + gap ≡ a = omega (arith, le) in
              let few : k ≤ m = omega (arith, lt, le) in
              let here : take k (drop gap (part_items p)) ≡ part_items q ++ r.0 ∷ [] =
              ap (λ xs. take k (drop gap xs)) (first_is p ps b other ∙ ap (λ j. take j (drop b whole)) wide)
              ∙ ap (take k) (drop-take gap m (drop b whole) ∙ ap (take m) (drop-drop gap b whole ∙ ap (λ j. drop j whole) reach))
              ∙ take-take k m (drop a whole) few
              ∙ ap (take k) (sym e) ∙ take_into (part_items q) r.0 (r.1 ++ flat_map part_items rs) in
              f.0 (subst Fits here (hereditary (part_items p) gap k (omega arith) (omega (arith, lt, le)) fit))

-- full parts of a list are no more than the parts of any split of it
pub fewest_parts : {A : Type 0} (Fits : List A → Type 0) → IsHereditary Fits → (xs : List A) (cut split : List (A × List A)) → IsCut cut xs → AreFull Fits cut → IsSplit Fits split xs → length cut ≤ length split
fewest_parts Fits hereditary xs cut split is_cut full other =
    no_more Fits hereditary xs cut split 0 0 (omega arith) is_cut full other.0 other.1

-- so a part of a part that is within a degree is so
pub degree_hereditary : {A : Type 0} (branches : A → List BranchDegrees) (most : ℕ) → IsHereditary (λ xs. constraint_degree_of None (flat_map branches xs) ≤ most)
degree_hereditary {A} branches most xs a n positive within fits =
    let degree = λ (ys : List A). constraint_degree_of None (flat_map branches ys) in
    let in_two = λ (k : ℕ) (ys : List A). ap degree (sym (take-append-drop k ys)) ∙ ap (constraint_degree_of None) (flat_map-append branches (take k ys) (drop k ys)) in
    let ys = drop a xs in
    omega (arith, fits, in_two a xs, in_two n ys, degree_of_front (flat_map branches (take n ys)) (flat_map branches (drop n ys)), degree_of_back (flat_map branches (take a xs)) (flat_map branches ys))

module _ {F : Type 0} where
  -- the branches of several lookups in one
  branches_joined : (os : List (Outline (SymbolicExpression F))) → AllByRecursion IsPlain os
      → map (λ b. branch_degrees 0 b.0 b.1) (zip (flat_map (λ o. o.elements) os) (flat_map (λ o. o.multiplicities) os)) ≡ flat_map (outline_branch_degrees 0) os
  branches_joined [] plain = refl
  branches_joined (o ∷ os) plain =
      ap (map (λ b. branch_degrees 0 b.0 b.1)) (zip-append o.elements (flat_map (λ p. p.elements) os) o.multiplicities (flat_map (λ p. p.multiplicities) os) (plain.0).lengths)
      ∙ map-append (λ b. branch_degrees 0 b.0 b.1) (zip o.elements o.multiplicities) (zip (flat_map (λ p. p.elements) os) (flat_map (λ p. p.multiplicities) os))
      ∙ ap (λ t. outline_branch_degrees 0 o ++ t) (branches_joined os plain.1)

  -- so the degree of a part is that of all its branches
  joined_degree : (part : Outline (SymbolicExpression F) × List (Outline (SymbolicExpression F))) → AllByRecursion IsPlain (part_items part) → outline_degree 0 (joined_lookup part) ≡ constraint_degree_of None (flat_map (outline_branch_degrees 0) (part_items part))
  joined_degree part plain =
      ap (λ flags. constraint_degree_of (option_map (map (expression_degree 0)) flags) (outline_branch_degrees 0 (joined_lookup part))) (plain.0).no_flags
      ∙ ap (constraint_degree_of None) (branches_joined (part_items part) plain)

  module _ (most : ℕ) where
    abbrev Fits : List (Outline (SymbolicExpression F)) → Type 0
    Fits os = constraint_degree_of None (flat_map (outline_branch_degrees 0) os) ≤ most

    -- parts of a greedy filling are full
    full : (parts : List (Outline (SymbolicExpression F) × List (Outline (SymbolicExpression F)))) → AllByRecursion IsPlain (flat_map part_items parts) → AreClosed (IsAbove AnswersDegree most) parts → AreFull Fits parts
    full [] plain closed = tt
    full (p ∷ []) plain closed = tt
    full (p ∷ q ∷ ps) plain closed =
        let first = all_front IsPlain (part_items p) (flat_map part_items (q ∷ ps)) plain in
        let later = all_back IsPlain (part_items p) (flat_map part_items (q ∷ ps)) plain in
        let degree = sym (ap (outline_degree 0) (joined_more p q.0)) ∙ joined_degree (with_next p q.0) (all_both IsPlain (part_items p) (q.0 ∷ []) first (later.0, tt)) in
        (λ fits. omega (arith, closed.0.1.0, closed.0.2, fits, degree), full (q ∷ ps) later closed.1)

    -- what a split asks of its parts is that they fit
    split_fits : (split : List (Outline (SymbolicExpression F) × List (Outline (SymbolicExpression F)))) → AllByRecursion IsPlain (flat_map part_items split)
        → AllByRecursion (λ part. (part.1 ≡ []) ⊎ (outline_degree 0 (joined_lookup part) ≤ most)) split → AllByRecursion (λ part. (part.1 ≡ []) ⊎ Fits (part_items part)) split
    split_fits [] plain within = tt
    split_fits (p ∷ ps) plain within = (
      grind (arith, within.0, joined_degree p (all_front IsPlain (part_items p) (flat_map part_items ps) plain)),
      split_fits ps (all_back IsPlain (part_items p) (flat_map part_items ps) plain) within.1,
    )

    -- a greedy filling of a bus has no more columns than any split of its lookups has parts
    pub fewest_of_bus : (members : List (Outline (SymbolicExpression F))) (cut split : List (Outline (SymbolicExpression F) × List (Outline (SymbolicExpression F)))) → AllByRecursion IsPlain members → IsFilling AnswersDegree most cut members
        → IsCut split members → AllByRecursion (λ part. (part.1 ≡ []) ⊎ (outline_degree 0 (joined_lookup part) ≤ most)) split → length cut ≤ length split
    fewest_of_bus members cut split plain filling is_cut within =
        fewest_parts Fits (degree_hereditary (outline_branch_degrees 0) most) members cut split filling.0
        (full cut (subst (AllByRecursion IsPlain) (sym filling.0) plain) filling.1.1) (is_cut, split_fits split (subst (AllByRecursion IsPlain) (sym is_cut) plain) within)

module _ {E : Type 0} where
  -- numbers of columns do not matter to what is counted
  counted : (name : List ℕ) (os : List (Outline E)) → length (on_bus name (additive_lookups (map unnumbered os))) ≡ length (on_bus name (additive_lookups os))
  counted name os =
      let named = λ (o : Outline E). is_named name o.bus in
      ap length (ap (filter named) (filter_images unnumbered is_additive is_additive (λ o. refl) os) ∙ filter_images unnumbered named named (λ o. refl) (additive_lookups os))
      ∙ length-map (on_bus name (additive_lookups os)) unnumbered

  on_bus-numbered : (name : List ℕ) (n : ℕ) (os : List (Outline E)) → length (on_bus name (additive_lookups (numbered_from n os))) ≡ length (on_bus name (additive_lookups os))
  on_bus-numbered name n os =
      sym (counted name (numbered_from n os)) ∙ ap (λ t. length (on_bus name (additive_lookups t))) (unnumbered_all n os) ∙ counted name os

  -- what passes through is not counted
  pub none_additive : (os : List (Outline E)) → additive_lookups (passing os) ≡ []
  none_additive [] = refl
  none_additive (o ∷ os) = grind (arith, none_additive os)

  -- a lookup that may be joined, on the bus of this name
  pub record IsOn (name : List ℕ) (o : Outline E) : Type 0 where
    pub joins : is_additive o ≡ true
    pub named : is_named name o.bus ≡ true

  pub members_on : (name : List ℕ) (os : List (Outline E)) → AllByRecursion (IsOn name) (on_bus name (additive_lookups os))
  members_on name os =
      all_with (λ o. is_additive o ≡ true) (λ o. is_named name o.bus ≡ true) (IsOn name) (λ o joins named. record { joins = joins; named = named }) (on_bus name (additive_lookups os)) (all_kept (λ o. is_additive o ≡ true) (λ o. is_named name o.bus) (additive_lookups os) (filter_passes is_additive os)) (filter_passes (λ o. is_named name o.bus) (additive_lookups os))

  -- the columns of a bus are those that its parts make, and on another bus there are none of them
  own_columns : (name : List ℕ) (cut : List (Outline E × List (Outline E))) → AllByRecursion (IsOn name) (flat_map part_items cut) → on_bus name (additive_lookups (map joined_lookup cut)) ≡ map joined_lookup cut
  own_columns name [] on = refl
  own_columns name (p ∷ ps) on = grind (arith, own_columns name ps (all_back (IsOn name) (part_items p) (flat_map part_items ps) on), (on.0).joins, (on.0).named)

  other_columns : (name other : List ℕ) → same_name name other ≡ false → (cut : List (Outline E × List (Outline E))) → AllByRecursion (IsOn other) (flat_map part_items cut) → on_bus name (additive_lookups (map joined_lookup cut)) ≡ []
  other_columns name other apart [] on = refl
  other_columns name other apart (p ∷ ps) on = grind (arith, other_columns name other apart ps (all_back (IsOn other) (part_items p) (flat_map part_items ps) on), (on.0).joins, not_named (p.0).bus (on.0).named)
    where
      not_named : (bus : Option (List ℕ)) → is_named other bus ≡ true → is_named name bus ≡ false
      not_named bus e = grind (arith, e, apart, same_name-Decides other)

-- two names are the same, or apart
name_cases : (name other : List ℕ) → (name ≡ other) ⊎ (same_name name other ≡ false)
name_cases name other = grind (arith, same_name-Decides name other)

-- the columns of several buses, counted on one of them
first_append : {E : Type 0} (name : List ℕ) (xs ys : List (Outline E)) → on_bus name (additive_lookups (xs ++ ys)) ≡ on_bus name (additive_lookups xs) ++ on_bus name (additive_lookups ys)
first_append name xs ys = ap (filter (λ o. is_named name o.bus)) (filter-append is_additive xs ys) ∙ filter-append (λ o. is_named name o.bus) (additive_lookups xs) (additive_lookups ys)

module _ {F : Type 0} (most : ℕ) (before : List (Outline (SymbolicExpression F))) (name : List ℕ) where
  members_cut : (other : List ℕ) (cut : List (Outline (SymbolicExpression F) × List (Outline (SymbolicExpression F)))) → IsFilling AnswersDegree most cut (on_bus other (additive_lookups before)) → AllByRecursion (IsOn other) (flat_map part_items cut)
  members_cut other cut filling = subst (AllByRecursion (IsOn other)) (sym filling.0) (members_on other before)

  -- where no name is this one there is no column
  none_on : (names : List (List ℕ)) (cuts : List (List (Outline (SymbolicExpression F) × List (Outline (SymbolicExpression F))))) → AllByRecursion (λ other. same_name name other ≡ false) names → AreFilled AnswersDegree most (additive_lookups before) names cuts
      → on_bus name (additive_lookups (flat_map (λ cut. map joined_lookup cut) cuts)) ≡ []
  none_on [] [] apart filled = refl
  none_on (n ∷ ns) (cut ∷ cuts) apart filled =
      first_append name (map joined_lookup cut) (flat_map (λ c. map joined_lookup c) cuts)
      ∙ (λ i. other_columns name n apart.0 cut (members_cut n cut filled.0) i ++ none_on ns cuts apart.1 filled.1 i)
  none_on ns cuts apart filled = absurd filled

  fewest_in : (names : List (List ℕ)) (cuts : List (List (Outline (SymbolicExpression F) × List (Outline (SymbolicExpression F))))) → IsSeparate same_name names → AreFilled AnswersDegree most (additive_lookups before) names cuts
      → AllByRecursion IsPlain (on_bus name (additive_lookups before)) → (split : List (Outline (SymbolicExpression F) × List (Outline (SymbolicExpression F)))) → IsCut split (on_bus name (additive_lookups before)) → AllByRecursion (λ part. (part.1 ≡ []) ⊎ (outline_degree 0 (joined_lookup part) ≤ most)) split
      → length (on_bus name (additive_lookups (flat_map (λ cut. map joined_lookup cut) cuts))) ≤ length split
  fewest_in [] [] separate filled plain split is_cut within = omega arith
  fewest_in (n ∷ ns) (cut ∷ cuts) separate filled plain split is_cut within =
      let later = fewest_in ns cuts separate.1 filled.1 plain split is_cut within in
      let both = ap length (first_append name (map joined_lookup cut) (flat_map (λ c. map joined_lookup c) cuts)) in
      elim (name_cases name n) [
        | inl is ↦
            let here = subst (λ (m : List ℕ). IsFilling AnswersDegree most cut (on_bus m (additive_lookups before))) (sym is) filled.0 in
            let rest = none_on ns cuts (subst (λ (m : List ℕ). AllByRecursion (λ other. same_name m other ≡ false) ns) (sym is) separate.0) filled.1 in
            omega (arith, both, ap length ((λ i. own_columns name cut (members_cut name cut here) i ++ rest i) ∙ append-nil (map joined_lookup cut)), length-map cut joined_lookup, fewest_of_bus most (on_bus name (additive_lookups before)) cut split plain here is_cut within)
        | inr apart ↦ omega (arith, both, later, ap (λ t. length (t ++ on_bus name (additive_lookups (flat_map (λ c. map joined_lookup c) cuts)))) (other_columns name n apart cut (members_cut n cut filled.0)))
      ]
  fewest_in ns cuts separate filled plain split is_cut within = absurd filled

-- a packing by the degree of the gadget has the fewest columns
pub fewest_columns : {F : Type 0} (most : ℕ) (before after : List (Outline (SymbolicExpression F))) → ((name : List ℕ) → AllByRecursion IsPlain (on_bus name (additive_lookups before))) → IsPacking AnswersDegree most before after → HasFewestColumns most before after
fewest_columns most before after plain packing name split is_cut within =
    let columns = flat_map (λ cut. map joined_lookup cut) packing.cuts in
    let counted = first_append name (passing before) columns ∙ ap (λ t. on_bus name t ++ on_bus name (additive_lookups columns)) (none_additive before) in
    subst (λ n. n ≤ length split) (sym (ap (λ os. length (on_bus name (additive_lookups os))) packing.columns ∙ on_bus-numbered name 0 (passing before ++ columns) ∙ ap length counted)) (fewest_in most before name (bus_names (additive_lookups before)) packing.cuts (first_seen_separate same_name (filter_map (λ o. o.bus) (additive_lookups before))) packing.filled (plain name) split is_cut within)

-- by the degree of the gadget a packing has the fewest columns
pub fewest_packed : {F S : Type 0} (most : ℕ) (seen : S → List (Outline (SymbolicExpression F))) (before : List (Outline (SymbolicExpression F))) (r : Result S LookupError) → ((name : List ℕ) → AllByRecursion IsPlain (on_bus name (additive_lookups before))) → Packs AnswersDegree most seen before r → IfOk r (λ set. HasFewestColumns most before (seen set))
fewest_packed most seen before (Ok set) plain packs = fewest_columns most before (seen set) plain packs.1
fewest_packed most seen before (Err e) plain packs = tt
