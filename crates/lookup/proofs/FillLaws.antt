-- A greedy filling, lookup by lookup.
use Rattle.std.proofs.Common.{◌≡◌, ◌<◌, ◌≤◌, ◌+◌, ◌⊎◌, ℕ, List, [], ◌∷◌, ◌++◌, Result, Ok, Err, map, refl, sym, ap, subst, ◌∙◌, arith, length}
use Rattle.std.proofs.lemmas.Grind.{flat_map-append}
use Rattle.std.proofs.lemmas.List.{append-nil, append_assoc, map-append, nil_from_length, length-map}
use Rattle.std.proofs.lemmas.List.Sums.{sum_by-append, sum_by-cons}
use Rattle.std.specs.List.{AllByRecursion, flat_map, sum_by}
use Rattle.list_laws.proofs.Images.{map_split}
use Rattle.list_laws.proofs.Each.{all_front, all_back, all_both}
use Rattle.lookup_model.specs.Outline.{Outline}
use Rattle.lookup_model.specs.Weight.{weight_bound}
use Rattle.lookup_model.specs.declared.error.LookupError.{LookupError}
use Rattle.lookup_model.specs.declared.error.LookupError.TheVariants.{CountWeightOverflow}
use Rattle.lookup.specs.Cuts.{AreClosed, IsGrown, part_items}
use Rattle.lookup.specs.Packing.{IsAbove, IsFilling, IsStuck, Joins, joined_lookup, trial}
use Rattle.lookup.specs.internal.Fillings.{AreGreedyColumns}
use Rattle.lookup.proofs.ListLaws.{none_behind, snoc_split}

module _ {A : Type 0} where
  -- a part with one more member
  abbrev pub with_next : A × List A → A → A × List A
  with_next part next = (part.0, part.1 ++ next ∷ [])

  module _ (J : A × List A → A → Type 0) where
    grown_one : (x : A) → IsGrown J (x, [])
    grown_one x front next back e = absurd (none_behind front next back (sym e))

    grown_more : (part : A × List A) (x : A) → IsGrown J part → J part x → IsGrown J (with_next part x)
    grown_more part x grown joins front next back e = grind (arith, snoc_split part.1 front back x next e, grown, joins)

    all_grown_more : (parts : List (A × List A)) (part : A × List A) (x : A) → AllByRecursion (IsGrown J) (parts ++ part ∷ []) → J part x → AllByRecursion (IsGrown J) (parts ++ with_next part x ∷ [])
    all_grown_more parts part x all joins =
        let last = (all_back (IsGrown J) parts (part ∷ []) all).0 in
        all_both (IsGrown J) parts (with_next part x ∷ []) (all_front (IsGrown J) parts (part ∷ []) all) (grown_more part x last joins, tt)

    all_grown_next : (parts : List (A × List A)) (x : A) → AllByRecursion (IsGrown J) parts → AllByRecursion (IsGrown J) (parts ++ (x, []) ∷ [])
    all_grown_next parts x all = all_both (IsGrown J) parts ((x, []) ∷ []) all (grown_one x, tt)

  module _ (S : A × List A → A → Type 0) where
    closed_more : (parts : List (A × List A)) (part : A × List A) (x : A) → AreClosed S (parts ++ part ∷ []) → AreClosed S (parts ++ with_next part x ∷ [])
    closed_more [] part x h = tt
    closed_more (q ∷ []) part x h = (h.0, tt)
    closed_more (q ∷ r ∷ rs) part x h = (h.0, closed_more (r ∷ rs) part x h.1)

    closed_next : (parts : List (A × List A)) (part : A × List A) (x : A) → AreClosed S (parts ++ part ∷ []) → S part x → AreClosed S ((parts ++ part ∷ []) ++ (x, []) ∷ [])
    closed_next [] part x h s = (s, tt)
    closed_next (q ∷ []) part x h s = (h.0, (s, tt))
    closed_next (q ∷ r ∷ rs) part x h s = (h.0, closed_next (r ∷ rs) part x h.1 s)

  -- the items of parts of which the last has one more member, or of one part more
  items_more : (parts : List (A × List A)) (part : A × List A) (x : A) → flat_map part_items (parts ++ with_next part x ∷ []) ≡ flat_map part_items (parts ++ part ∷ []) ++ x ∷ []
  items_more parts part x =
      rw (flat_map-append part_items parts (with_next part x ∷ []), flat_map-append part_items parts (part ∷ []), append-nil (part.1 ++ x ∷ []), append-nil part.1)
      (sym (append_assoc (flat_map part_items parts) (part_items part) (x ∷ [])))

  items_next : (parts : List (A × List A)) (x : A) → flat_map part_items (parts ++ (x, []) ∷ []) ≡ flat_map part_items parts ++ x ∷ []
  items_next parts x = flat_map-append part_items parts ((x, []) ∷ [])

module _ {E : Type 0} where
  sum_by-one : (f : Outline E → ℕ) (o : Outline E) → sum_by f (o ∷ []) ≡ f o
  sum_by-one f o = sum_by-cons f o [] ∙ omega arith

  -- one lookup alone makes itself
  pub joined_one : (o : Outline E) → joined_lookup (o, []) ≡ o
  joined_one o = λ i. record o {
    elements = append-nil o.elements i;
    multiplicities = append-nil o.multiplicities i;
    count_weight = sum_by-one (λ p. p.count_weight) o i;
  }

  -- a part with one more member makes what the part makes with the tuples and the weight of that one
  pub joined_more : (part : Outline E × List (Outline E)) (o : Outline E) → joined_lookup (with_next part o) ≡ record (trial (joined_lookup part) o) { count_weight = (joined_lookup part).count_weight + o.count_weight }
  joined_more part o = λ i. record part.0 {
    elements = (flat_map-append (λ (p : Outline E). p.elements) (part_items part) (o ∷ []) ∙ ap (λ t. flat_map (λ (p : Outline E). p.elements) (part_items part) ++ t) (append-nil o.elements)) i;
    multiplicities = (flat_map-append (λ (p : Outline E). p.multiplicities) (part_items part) (o ∷ []) ∙ ap (λ t. flat_map (λ (p : Outline E). p.multiplicities) (part_items part) ++ t) (append-nil o.multiplicities)) i;
    count_weight = (sum_by-append (λ (p : Outline E). p.count_weight) (part_items part) (o ∷ []) ∙ ap (λ n. sum_by (λ (p : Outline E). p.count_weight) (part_items part) + n) (sum_by-one (λ p. p.count_weight) o)) i;
  }

module _ {E : Type 0} (answers : Outline E → Result ℕ LookupError → Type 0) (most : ℕ) where
  -- a lookup alone opens a column
  pub one_column : (next : Outline E) → AreGreedyColumns answers most (next ∷ []) (next ∷ [])
  one_column next = record {
    cut = (next, []) ∷ [];
    filling = (refl, ((grown_one (Joins answers most) next, tt), tt));
    columns_are = ap (λ o. o ∷ []) (sym (joined_one next));
  }

  -- the parts of columns of which there is a last one
  pub record HasLast (seen : List (Outline E)) (front : List (Outline E)) (last : Outline E) : Type 0 where
    pub parts : List (Outline E × List (Outline E))
    pub part : Outline E × List (Outline E)
    pub filling : IsFilling answers most (parts ++ part ∷ []) seen
    pub front_is : map joined_lookup parts ≡ front
    pub last_is : joined_lookup part ≡ last

  pub last_part : (seen columns front : List (Outline E)) (last : Outline E) → AreGreedyColumns answers most seen columns → columns ≡ front ++ last ∷ [] → HasLast seen front last
  last_part seen columns front last filled is =
      let (parts, part, none, cut_is, front_is, last_is, none_is) = map_split joined_lookup filled.cut front last [] (sym filled.columns_are ∙ is) in
      let nothing = nil_from_length none (sym (length-map none joined_lookup) ∙ ap length none_is) in
      record {
        parts = parts;
        part = part;
        filling = subst (λ (cut : List (Outline E × List (Outline E))). IsFilling answers most cut seen) (cut_is ∙ ap (λ t. parts ++ part ∷ t) nothing) filled.filling;
        front_is = front_is;
        last_is = last_is;
      }

  -- a lookup joins the last column
  pub joined_column : (seen front after : List (Outline E)) (last next : Outline E) → HasLast seen front last
      → ((n : ℕ) × answers (trial last next) (Ok n) × (n ≤ most)) → last.count_weight + next.count_weight < weight_bound
      → after ≡ front ++ record (trial last next) { count_weight = last.count_weight + next.count_weight } ∷ [] → AreGreedyColumns answers most (seen ++ next ∷ []) after
  joined_column seen front after last next has low small after_is =
      let joins : Joins answers most has.part next = subst (λ (o : Outline E). ((n : ℕ) × answers (trial o next) (Ok n) × (n ≤ most)) × (o.count_weight + next.count_weight < weight_bound)) (sym has.last_is) (low, small) in
      record {
        cut = has.parts ++ with_next has.part next ∷ [];
        filling = (
          items_more has.parts has.part next ∙ ap (λ t. t ++ next ∷ []) has.filling.0,
          (all_grown_more (Joins answers most) has.parts has.part next has.filling.1.0 joins, closed_more (IsAbove answers most) has.parts has.part next has.filling.1.1),
        );
        columns_are =
            after_is
            ∙ (λ i. sym has.front_is i ++ record (trial (sym has.last_is i) next) { count_weight = (sym has.last_is i).count_weight + next.count_weight } ∷ [])
            ∙ ap (λ o. map joined_lookup has.parts ++ o ∷ []) (sym (joined_more has.part next))
            ∙ sym (map-append joined_lookup has.parts (with_next has.part next ∷ []));
      }

  -- a lookup opens a column behind the last one
  pub next_column : (seen columns front after : List (Outline E)) (last next : Outline E) → HasLast seen front last → columns ≡ front ++ last ∷ []
      → ((n : ℕ) × answers (trial last next) (Ok n) × (most < n)) → after ≡ columns ++ next ∷ [] → AreGreedyColumns answers most (seen ++ next ∷ []) after
  next_column seen columns front after last next has is high after_is =
      let stays : IsAbove answers most has.part next = subst (λ (o : Outline E). (n : ℕ) × answers (trial o next) (Ok n) × (most < n)) (sym has.last_is) high in
      let so_far : map joined_lookup (has.parts ++ has.part ∷ []) ≡ columns = map-append joined_lookup has.parts (has.part ∷ []) ∙ (λ i. has.front_is i ++ has.last_is i ∷ []) ∙ sym is in
      record {
        cut = (has.parts ++ has.part ∷ []) ++ (next, []) ∷ [];
        filling = (
          items_next (has.parts ++ has.part ∷ []) next ∙ ap (λ t. t ++ next ∷ []) has.filling.0,
          (all_grown_next (Joins answers most) (has.parts ++ has.part ∷ []) next has.filling.1.0, closed_next (IsAbove answers most) has.parts has.part next has.filling.1.1 stays),
        );
        columns_are =
            after_is
            ∙ (λ i. sym so_far i ++ sym (joined_one next) i ∷ [])
            ∙ sym (map-append joined_lookup (has.parts ++ has.part ∷ []) ((next, []) ∷ []));
      }

  -- a filling that is refused stays so when a further lookup comes
  pub stuck_more : (members : List (Outline E)) (next : Outline E) (e : LookupError) → IsStuck answers most members e → IsStuck answers most (members ++ next ∷ []) e
  stuck_more members next e stuck = record {
    closed = stuck.closed;
    part = stuck.part;
    next = stuck.next;
    rest = stuck.rest ++ next ∷ [];
    members_are = ap (λ t. t ++ next ∷ []) stuck.members_are ∙ append_assoc (flat_map part_items (stuck.closed ++ stuck.part ∷ [])) (stuck.next ∷ stuck.rest) (next ∷ []);
    greedy = stuck.greedy;
    refusal = stuck.refusal;
  }

  -- the filling comes to a trial that is refused
  pub stuck_at : (members seen front rest : List (Outline E)) (last next : Outline E) (e : LookupError) → HasLast seen front last → seen ++ next ∷ rest ≡ members
      → (answers (trial last next) (Err e) ⊎ ((e ≡ CountWeightOverflow) × ((n : ℕ) × answers (trial last next) (Ok n) × (n ≤ most)) × (weight_bound ≤ last.count_weight + next.count_weight)))
      → IsStuck answers most members e
  stuck_at members seen front rest last next e has all refusal = record {
    closed = has.parts;
    part = has.part;
    next = next;
    rest = rest;
    members_are = sym all ∙ ap (λ t. t ++ next ∷ rest) (sym has.filling.0);
    greedy = has.filling.1;
    refusal = subst (λ (o : Outline E). answers (trial o next) (Err e) ⊎ ((e ≡ CountWeightOverflow) × ((n : ℕ) × answers (trial o next) (Ok n) × (n ≤ most)) × (weight_bound ≤ o.count_weight + next.count_weight))) (sym has.last_is) refusal;
  }
