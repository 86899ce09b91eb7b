-- Groups of four numbers that are read as one list.
use Rattle.std.proofs.Common.{◌≡◌, ◌∙◌, ◌<◌, ◌≤◌, ◌+◌, ◌-◌, ◌++◌, ◌∷◌, [], ℕ, suc, All, List, ap, arith, get_or, length, map, max, refl, subst, sym, take}
use Rattle.std.proofs.Math.Seq.{take-add}
use Rattle.std.proofs.lemmas.List.{map-append}
use Rattle.std.proofs.lemmas.List.Elements.{All-append, All-cons, All-get_or, All-head, All-nil, All-same, All-tail, All-weaker}
use Rattle.std.proofs.lemmas.Option.{get_or_from_slice_get}
use Rattle.std.specs.List.{flat_map, slice_range}
use Rattle.std.specs.Simd.{first_chunks}
use Rattle.field_monty.specs.Quartic.{Quartic}
use Rattle.field.specs.Residue.{Residue, residue_of}
use Rattle.c_tables.specs.Numbers.{AreNumberGroupsBelow, quartic_of_numbers}
use Rattle.c_tables.specs.internal.Numbers.{AreNumbersUpTo, IsNumberGroupUpTo}

-- each has four numbers
abbrev pub AreFours : List (List ℕ) → Type 0
AreFours groups = All (λ group. length group ≡ 4) groups

-- the items of a list of four
four_items : (g : List ℕ) → length g ≡ 4 → (a : ℕ) × (b : ℕ) × (c : ℕ) × (d : ℕ) × (g ≡ a ∷ b ∷ c ∷ d ∷ [])
four_items (a ∷ b ∷ c ∷ d ∷ []) four = (a, b, c, d, refl)
four_items g four = absurd (omega (arith, four))

-- all numbers are at most this one, four each
pub groups_up_to : (most : ℕ) (groups : List (List ℕ)) → AreFours groups → AreNumbersUpTo most (length (flat_map (λ g. g) groups)) (flat_map (λ g. g) groups) → All (IsNumberGroupUpTo most) groups
groups_up_to most [] fours flat = All-nil (IsNumberGroupUpTo most)
groups_up_to most (g ∷ gs) fours flat =
    let (a, b, c, d, is) = four_items g (All-head (λ group. length group ≡ 4) g gs fours) in
    let all = subst (λ (h : List ℕ). AreNumbersUpTo most (length (h ++ flat_map (λ g. g) gs)) (h ++ flat_map (λ g. g) gs)) is flat in
    All-cons (IsNumberGroupUpTo most) g gs
    (subst (IsNumberGroupUpTo most) (sym is) (record { n0 = all 0 (omega arith); n1 = all 1 (omega arith); n2 = all 2 (omega arith); n3 = all 3 (omega arith) }))
    (groups_up_to most gs (All-tail (λ group. length group ≡ 4) g gs fours) (λ k below. all (suc (suc (suc (suc k)))) (omega (arith, below))))

-- one chunk more
pub take_to : {A : Type 0} (xs : List A) (first end : ℕ) → first ≤ end → take end xs ≡ take first xs ++ slice_range xs first end
take_to xs first end up =
    let same : end ≡ first + (end - first) = omega (arith, up) in
    (λ k. take (same k) xs) ∙ take-add first (end - first) xs

group_within : (low high : ℕ) → low ≤ high → (ns : List ℕ) → IsNumberGroupUpTo low ns → IsNumberGroupUpTo high ns
group_within low high up ns within = record {
  n0 = omega (arith, up, within.n0);
  n1 = omega (arith, up, within.n1);
  n2 = omega (arith, up, within.n2);
  n3 = omega (arith, up, within.n3);
}

pub groups_within : (low high : ℕ) → low ≤ high → (groups : List (List ℕ)) → All (IsNumberGroupUpTo low) groups → All (IsNumberGroupUpTo high) groups
groups_within low high up groups within = All-weaker (IsNumberGroupUpTo low) (IsNumberGroupUpTo high) (group_within low high up) groups within

pub up_to_next : (groups : List (List ℕ)) (first end : ℕ) (chunk : List (List ℕ)) (so_far most : ℕ) → first ≤ end → chunk ≡ slice_range groups first end → All (IsNumberGroupUpTo so_far) (take first groups) → All (IsNumberGroupUpTo most) chunk
    → All (IsNumberGroupUpTo (max so_far most)) (take end groups)
up_to_next groups first end chunk so_far most up chunk_is earlier here =
    All-same (IsNumberGroupUpTo (max so_far most)) (take end groups) (take first groups ++ chunk) (take_to groups first end up ∙ ap (λ xs. take first groups ++ xs) (sym chunk_is))
    (All-append (IsNumberGroupUpTo (max so_far most)) (take first groups) chunk (groups_within so_far (max so_far most) (omega arith) (take first groups) earlier) (groups_within most (max so_far most) (omega arith) chunk here))

module _ {p : ℕ} (positive : 0 < p) where
  -- the element with these coefficients
  abbrev pub quartic_with : List (Residue p) → Quartic (Residue p)
  quartic_with xs = record {
    c0 = get_or xs 0 (residue_of p positive 0);
    c1 = get_or xs 1 (residue_of p positive 0);
    c2 = get_or xs 2 (residue_of p positive 0);
    c3 = get_or xs 3 (residue_of p positive 0);
  }

  -- the residues of all numbers, four each
  pub regrouped : (groups : List (List ℕ)) → AreFours groups → map quartic_with (first_chunks 4 (length groups) (map (residue_of p positive) (flat_map (λ g. g) groups))) ≡ map (quartic_of_numbers positive) groups
  regrouped [] fours = refl
  regrouped (g ∷ gs) fours =
      let (a, b, c, d, is) = four_items g (All-head (λ group. length group ≡ 4) g gs fours) in
      subst (λ (h : List ℕ). map quartic_with (first_chunks 4 (suc (length gs)) (map (residue_of p positive) (h ++ flat_map (λ g. g) gs))) ≡ quartic_of_numbers positive h ∷ map (quartic_of_numbers positive) gs) (sym is)
      (ap (λ qs. quartic_of_numbers positive (a ∷ b ∷ c ∷ d ∷ []) ∷ qs) (regrouped gs (All-tail (λ group. length group ≡ 4) g gs fours)))

  -- the elements of a chunk are appended
  pub chunk_appended : (groups : List (List ℕ)) (flat : List ℕ) (values : List (Residue p)) (fours : List (List (Residue p))) (n : ℕ) (before after : List (Quartic (Residue p))) → AreFours groups → flat ≡ flat_map (λ g. g) groups
      → values ≡ map (residue_of p positive) flat → fours ≡ first_chunks 4 n values → n ≡ length groups → after ≡ before ++ map quartic_with fours → after ≡ before ++ map (quartic_of_numbers positive) groups
  chunk_appended groups flat values fours n before after four flat_is values_is fours_is n_is after_is =
      after_is ∙ ap (λ xs. before ++ xs) (ap (map quartic_with) (fours_is ∙ (λ k. first_chunks 4 (n_is k) ((values_is ∙ ap (map (residue_of p positive)) flat_is) k))) ∙ regrouped groups four)

  pub chunk_next : (groups : List (List ℕ)) (first end : ℕ) (chunk : List (List ℕ)) (before after : List (Quartic (Residue p))) → first ≤ end → chunk ≡ slice_range groups first end → after ≡ before ++ map (quartic_of_numbers positive) chunk
      → before ≡ map (quartic_of_numbers positive) (take first groups) → after ≡ map (quartic_of_numbers positive) (take end groups)
  chunk_next groups first end chunk before after up chunk_is pushed so_far =
      pushed
      ∙ ((λ k. so_far k ++ map (quartic_of_numbers positive) (chunk_is k))
      ∙ (sym (map-append (quartic_of_numbers positive) (take first groups) (slice_range groups first end)) ∙ ap (map (quartic_of_numbers positive)) (sym (take_to groups first end up))))

-- groups of numbers up to one below the modulus
pub groups_below : (p most : ℕ) (groups : List (List ℕ)) → most < p → All (IsNumberGroupUpTo most) groups → AreNumberGroupsBelow p (length groups) groups
groups_below p most groups small within k group below there =
    let here : IsNumberGroupUpTo most group = subst (IsNumberGroupUpTo most) (get_or_from_slice_get groups k group group there) (All-get_or (IsNumberGroupUpTo most) groups k group below within) in
    record { n0 = omega (arith, small, here.n0); n1 = omega (arith, small, here.n1); n2 = omega (arith, small, here.n2); n3 = omega (arith, small, here.n3) }
