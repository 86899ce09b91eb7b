-- Lists cut into parts once more, by how much each part holds.
use Rattle.std.proofs.Common.{◌≡◌, ◌<◌, ◌≤◌, ◌+◌, ℕ, Some, None, List, [], ◌∷◌, ◌++◌, get_or, length, map, min, refl, sym, ap, subst, ◌∙◌, arith}
use Rattle.std.proofs.lemmas.List.{append-nil, append_assoc, length-map, map-append}
use Rattle.std.proofs.lemmas.List.Sums.{sum_by-append, sum_by-cons, sum_by_push}
use Rattle.std.proofs.lemmas.Option.{slice_get-get_or, slice_get_past}
use Rattle.std.specs.List.{AllByRecursion, flat_map, slice_get, sum_by}
use Rattle.list_laws.proofs.Each.{all_front}
use Rattle.list_laws.proofs.Images.{map_at}
use Rattle.lookup.specs.Cuts.{part_items}

-- the item behind the first ones
behind : {A : Type 0} (front back : List A) (x : A) → slice_get (front ++ x ∷ back) (length front) ≡ Some x
behind [] back x = refl
behind (f ∷ fs) back x = behind fs back x

module _ {A : Type 0} (size : A → ℕ) where
  -- what a part holds
  abbrev pub held : A × List A → ℕ
  held part = sum_by size (part_items part)

  -- items that hold less than a part, with a further one, begin it
  proper_front : (taken later front back : List A) (x : A) → taken ++ x ∷ later ≡ front ++ back → sum_by size taken < sum_by size front → (rest : List A) × (front ≡ taken ++ x ∷ rest) × (later ≡ rest ++ back)
  proper_front [] later [] back x e lt = absurd (omega (arith, lt))
  proper_front [] later (f ∷ fs) back x e lt = (fs, cc (sym e), cc e)
  proper_front (o ∷ os) later [] back x e lt = absurd (omega (arith, lt))
  proper_front (o ∷ os) later (f ∷ fs) back x e lt =
      let same : o ≡ f = cc e in
      let less = subst (λ y. sum_by size (o ∷ os) < sum_by size (y ∷ fs)) (sym same) lt in
      let (rest, front_is, later_is) = proper_front os later fs back x (cc e) (omega (arith, sum_by-cons size o os, sum_by-cons size o fs, less)) in
      (rest, (λ i. sym same i ∷ front_is i), later_is)

  -- items that hold nothing are none, if each holds something
  none_held : (xs : List A) → AllByRecursion (λ x. 0 < size x) xs → sum_by size xs ≡ 0 → xs ≡ []
  none_held [] each e = refl
  none_held (x ∷ xs) each e = absurd (omega (arith, each.0, sum_by-cons size x xs, e))

  -- Items of the open part hold less than it; where no part is left, there is none.
  abbrev pub IsBegun : List A → List (A × List A) → Type 0
  IsBegun taken [] = taken ≡ []
  IsBegun taken (part ∷ parts) = sum_by size taken < held part

  -- before its first item, if each item holds something
  pub unbegun : (parts : List (A × List A)) → AllByRecursion (λ x. 0 < size x) (flat_map part_items parts) → IsBegun [] parts
  unbegun [] each = refl
  unbegun (part ∷ parts) each = omega (arith, each.0, sum_by-cons size part.0 part.1)

-- what lists of equal length have at the end of a third, seen through views
module _ {A B C : Type 0} (f : A → ℕ) (g : B → ℕ) (parts : List A) (bs : List B) (same : map f parts ≡ map g bs) (ends : List C) where
  pub size_there : (i : ℕ) (b : B) → i ≡ length ends → i < length bs → b ≡ get_or bs i b → slice_get (map f parts) (length ends) ≡ Some (g b)
  size_there i b end lt is = (λ j. slice_get (same j) (sym end j)) ∙ map_at g bs i b (slice_get-get_or bs i b lt ∙ ap Some (sym is))

  pub none_there : (i : ℕ) → i ≡ length ends → length bs ≤ i → slice_get (map f parts) (length ends) ≡ None
  none_there i end le = (λ j. slice_get (same j) (sym end j)) ∙ slice_get_past (map g bs) i (omega (arith, le, length-map bs g))

module _ {A B : Type 0} (size : A → ℕ) (seen : A → B) where
  -- The parts that are closed, the items of the open one, what these hold, and the items that are left.
  pub record AreCutSoFar (cuts : List (A × List A)) (columns : List (List B)) (members : List B) (n : ℕ) (left : List A) : Type 0 where
    pub closed : List (A × List A)
    pub rest : List (A × List A)
    pub taken : List A
    pub cuts_are : cuts ≡ closed ++ rest
    pub columns_are : columns ≡ map (λ part. map seen (part_items part)) closed
    pub members_are : members ≡ map seen taken
    pub holds : n ≡ min (sum_by size taken) 18446744073709551615
    pub left_are : taken ++ left ≡ flat_map part_items rest
    pub is_begun : IsBegun size taken rest

  module _ (cuts : List (A × List A)) (columns : List (List B)) (members : List B) (n : ℕ) where
    -- the open part goes on with the next item
    record GoesOn (closed : List (A × List A)) (taken later : List A) (x : A) : Type 0 where
      part : A × List A
      parts : List (A × List A)
      back : List A
      cuts_are : cuts ≡ closed ++ part ∷ parts
      part_is : part_items part ≡ taken ++ x ∷ back
      later_is : later ≡ back ++ flat_map part_items parts
      here : slice_get (map (held size) cuts) (length columns) ≡ Some (held size part)

    goes_on : (later : List A) (x : A) (s : AreCutSoFar cuts columns members n (x ∷ later)) → GoesOn s.closed s.taken later x
    goes_on later x s = by_rest s.rest s.cuts_are s.left_are s.is_begun
      where
        by_rest : (rest : List (A × List A)) → cuts ≡ s.closed ++ rest → s.taken ++ x ∷ later ≡ flat_map part_items rest → IsBegun size s.taken rest → GoesOn s.closed s.taken later x
        by_rest [] cut e begun = absurd (cc (sym (ap (λ t. t ++ x ∷ later) begun) ∙ e))
        by_rest (part ∷ parts) cut e begun =
            let (back, part_is, later_is) = proper_front size s.taken later (part_items part) (flat_map part_items parts) x e begun in
            let count : length columns ≡ length (map (held size) s.closed) = ap length s.columns_are ∙ length-map s.closed (λ p. map seen (part_items p)) ∙ sym (length-map s.closed (held size)) in record {
              part = part;
              parts = parts;
              back = back;
              cuts_are = cut;
              part_is = part_is;
              later_is = later_is;
              here = (λ i. slice_get ((ap (map (held size)) cut ∙ map-append (held size) s.closed (part ∷ parts)) i) (count i)) ∙ behind (map (held size) s.closed) (map (held size) parts) (held size part);
            }

    -- a part that holds more than the items so far stays open
    pub stays_open : (later : List A) (x : A) (m : ℕ) → AreCutSoFar cuts columns members n (x ∷ later) → slice_get (map (held size) cuts) (length columns) ≡ Some m → m ≤ 18446744073709551615 → min (n + size x) 18446744073709551615 < m → AreCutSoFar cuts columns (members ++ seen x ∷ []) (min (n + size x) 18446744073709551615) later
    stays_open later x m s here small less =
        let g = goes_on later x s in
        let is : held size g.part ≡ m = cc (sym g.here ∙ here) in
        let sum = sum_by_push size s.taken x in record {
          closed = s.closed;
          rest = g.part ∷ g.parts;
          taken = s.taken ++ x ∷ [];
          cuts_are = g.cuts_are;
          columns_are = s.columns_are;
          members_are = ap (λ t. t ++ seen x ∷ []) s.members_are ∙ sym (map-append seen s.taken (x ∷ []));
          holds = omega (arith, s.holds, sum);
          left_are = append_assoc s.taken (x ∷ []) later ∙ ap (λ t. s.taken ++ x ∷ t) g.later_is ∙ sym (append_assoc s.taken (x ∷ g.back) (flat_map part_items g.parts)) ∙ ap (λ t. t ++ flat_map part_items g.parts) (sym g.part_is);
          is_begun = omega (arith, s.holds, sum, is, small, less);
        }

    -- a part that holds no more than the items so far is these
    pub closes : (later : List A) (x : A) (m : ℕ) → AllByRecursion (λ y. 0 < size y) later → AreCutSoFar cuts columns members n (x ∷ later) → slice_get (map (held size) cuts) (length columns) ≡ Some m → m ≤ min (n + size x) 18446744073709551615 → AreCutSoFar cuts (columns ++ (members ++ seen x ∷ []) ∷ []) [] 0 later
    closes later x m each s here full =
        let g = goes_on later x s in
        let is : held size g.part ≡ m = cc (sym g.here ∙ here) in
        let sum = ap (sum_by size) g.part_is ∙ sum_by-append size s.taken (x ∷ g.back) in
        let none = none_held size g.back (all_front (λ y. 0 < size y) g.back (flat_map part_items g.parts) (subst (AllByRecursion (λ y. 0 < size y)) g.later_is each)) (omega (arith, is, sum, sum_by-cons size x g.back, s.holds, full)) in
        let whole : members ++ seen x ∷ [] ≡ map seen (part_items g.part) = ap (λ t. t ++ seen x ∷ []) s.members_are ∙ sym (map-append seen s.taken (x ∷ [])) ∙ ap (λ t. map seen (s.taken ++ x ∷ t)) (sym none) ∙ ap (map seen) (sym g.part_is) in record {
          closed = s.closed ++ g.part ∷ [];
          rest = g.parts;
          taken = [];
          cuts_are = g.cuts_are ∙ sym (append_assoc s.closed (g.part ∷ []) g.parts);
          columns_are = (λ i. s.columns_are i ++ whole i ∷ []) ∙ sym (map-append (λ part. map seen (part_items part)) s.closed (g.part ∷ []));
          members_are = refl;
          holds = refl;
          left_are = g.later_is ∙ ap (λ t. t ++ flat_map part_items g.parts) none;
          is_begun = unbegun size g.parts (subst (AllByRecursion (λ y. 0 < size y)) (g.later_is ∙ ap (λ t. t ++ flat_map part_items g.parts) none) each);
        }

    -- where items are left, so is a part
    pub one_left : (later : List A) (x : A) → AreCutSoFar cuts columns members n (x ∷ later) → slice_get (map (held size) cuts) (length columns) ≡ None → ⊥
    one_left later x s none = let g = goes_on later x s in cc (sym g.here ∙ none)

    -- where no items are left, all parts are closed
    pub all_closed : AreCutSoFar cuts columns members n [] → columns ≡ map (λ part. map seen (part_items part)) cuts
    all_closed s = by_rest s.rest s.cuts_are s.left_are s.is_begun
      where
        by_rest : (rest : List (A × List A)) → cuts ≡ s.closed ++ rest → s.taken ++ [] ≡ flat_map part_items rest → IsBegun size s.taken rest → columns ≡ map (λ part. map seen (part_items part)) cuts
        by_rest [] cut e begun = s.columns_are ∙ ap (map (λ part. map seen (part_items part))) (sym (append-nil s.closed) ∙ sym cut)
        by_rest (part ∷ parts) cut e begun =
            absurd (omega (arith, begun, ap (sum_by size) (sym (append-nil s.taken) ∙ e), sum_by-append size (part_items part) (flat_map part_items parts)))

  -- before the first item no part is closed
  pub none_cut : (cuts : List (A × List A)) (xs : List A) → flat_map part_items cuts ≡ xs → AllByRecursion (λ x. 0 < size x) xs → AreCutSoFar cuts [] [] 0 xs
  none_cut cuts xs cut each = record {
    closed = [];
    rest = cuts;
    taken = [];
    cuts_are = refl;
    columns_are = refl;
    members_are = refl;
    holds = refl;
    left_are = sym cut;
    is_begun = unbegun size cuts (subst (AllByRecursion (λ x. 0 < size x)) (sym cut) each);
  }
