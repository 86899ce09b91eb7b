-- The names of buses that a set holds, name by name, and the lookups of all AIRs, one after another.
use Rattle.std.proofs.Common.{◌≡◌, Bool, cond, List, [], ◌∷◌, ◌++◌, ◌||◌, ◌+◌, ◌<◌, None, Option, Some, append_assoc, get_or, length, map, take, ℕ, refl, ap, sym, ◌∙◌, true, false, subst, arith}
use Rattle.std.proofs.lemmas.List.{append-nil, map-append, length-map}
use Rattle.std.proofs.lemmas.List.Elements.{filter_map-append, filter-append}
use Rattle.std.specs.Borrow.{Bor}
use Rattle.std.specs.List.{cons_option, filter_map, list_any, enumerate_from, filter, flat_map}
use Rattle.std.proofs.lemmas.Grind.{flat_map-append}
use Rattle.std.proofs.lemmas.List.FromFn.{length-enumerate_from}
use Rattle.list_laws.proofs.Items.{take_item, numbered_read, numbered_within}
use Rattle.list_laws.proofs.Parts.{flat_next}
use Rattle.list_laws.proofs.Images.{mapped_more}
use Rattle.field.specs.Ring.{Ring}
use Rattle.lookup_model.specs.Names.{same_name, is_named}
use Rattle.lookup_model.specs.Net.{first_seen}
use Rattle.lookup_model.specs.Outline.{bus_of}
use Rattle.lookup_model.specs.declared.types.Lookup.{Lookup}
use Rattle.lookup_model.proofs.Names.{same_name-Decides}
use Rattle.lookup_messages.proofs.FirstSeen.{first_seen-push}
use Rattle.lookup_messages.proofs.NetEntries.{any-first_seen, turned}
use Rattle.lookup_debug.specs.Contributions.{Contribution, Traced, contributions_of}
use Rattle.lookup_debug.specs.Groups.{LookupAt, is_on, lookup_contributions, lookups_in}
use Rattle.lookup_debug.specs.internal.Walks.{IsWalk}
use Rattle.indexmap.specs.IndexSet.{insert_key}

-- a key that is seen through a view
any-viewed : (k : List ℕ) (ks : List (Bor (List ℕ)))
    → list_any (λ (b : Bor (List ℕ)). same_name k b.now) ks ≡ list_any (λ n. same_name n k) (map (λ (b : Bor (List ℕ)). b.now) ks)
any-viewed k [] = refl
any-viewed k (b ∷ ks) = λ i. turned same_name same_name-Decides k b.now i || any-viewed k ks i

-- the names of a set after one more is inserted
pub inserted : (seen : List (List ℕ)) (ks : List (Bor (List ℕ))) (k : Bor (List ℕ))
    → map (λ (b : Bor (List ℕ)). b.now) ks ≡ first_seen same_name seen
    → map (λ (b : Bor (List ℕ)). b.now) (insert_key (λ (a b : Bor (List ℕ)). same_name a.now b.now) ks k) ≡ first_seen same_name (seen ++ k.now ∷ [])
inserted seen ks k so_far =
    grind (arith, map-append (λ (b : Bor (List ℕ)). b.now) ks (k ∷ []))
    ∙ (λ i. cond (found i) (so_far i) (so_far i ++ k.now ∷ []))
    ∙ sym (first_seen-push same_name same_name-Decides seen k.now)
  where
    found : list_any (λ (b : Bor (List ℕ)). same_name k.now b.now) ks ≡ list_any (λ n. same_name n k.now) seen
    found =
        any-viewed k.now ks ∙ ap (list_any (λ n. same_name n k.now)) so_far
        ∙ any-first_seen same_name same_name-Decides seen k.now

module _ {F : Type 0} (ls : List (Lookup F)) (i : ℕ) (l : Lookup F) where
  abbrev buses : List (Lookup F) → List (List ℕ)
  buses ks = filter_map (λ k. bus_of k.kind) ks

  longer : i < length ls → l ≡ get_or ls i l
      → buses (take (i + 1) ls) ≡ buses (take i ls) ++ cons_option (bus_of l.kind) []
  longer lt is = ap buses (take_item ls i l lt is) ∙ filter_map-append (λ k. bus_of k.kind) (take i ls) (l ∷ [])

  -- one more lookup on a bus adds its name
  pub buses_more : (name : List ℕ) (seen : List (List ℕ)) → i < length ls → l ≡ get_or ls i l
      → bus_of l.kind ≡ Some name
      → (seen ++ buses (take i ls)) ++ name ∷ [] ≡ seen ++ buses (take (i + 1) ls)
  buses_more name seen lt is on =
      append_assoc seen (buses (take i ls)) (name ∷ [])
      ∙ ap (λ t. seen ++ t) (sym (longer lt is ∙ ap (λ (o : Option (List ℕ)). buses (take i ls) ++ cons_option o []) on))

  -- and a local one none
  pub buses_skip : (seen : List (List ℕ)) → i < length ls → l ≡ get_or ls i l → bus_of l.kind ≡ None
      → seen ++ buses (take i ls) ≡ seen ++ buses (take (i + 1) ls)
  buses_skip seen lt is off =
      ap (λ t. seen ++ t) (sym (longer lt is ∙ ap (λ (o : Option (List ℕ)). buses (take i ls) ++ cons_option o []) off ∙ append-nil (buses (take i ls))))

-- what the items that pass give, of two lists one after the other
chosen-append : {X A : Type 0} (p : X → Bool) (f : X → List A) (xs ys : List X)
    → flat_map f (filter p (xs ++ ys)) ≡ flat_map f (filter p xs) ++ flat_map f (filter p ys)
chosen-append p f xs ys = ap (flat_map f) (filter-append p xs ys) ∙ flat_map-append f (filter p xs) (filter p ys)

-- of one item
chosen-one : {X A : Type 0} (p : X → Bool) (f : X → List A) (x : X) (b : Bool) → p x ≡ b
    → flat_map f (filter p (x ∷ [])) ≡ cond b (f x) []
chosen-one p f x b is = grind (arith, is, append-nil (f x))

module _ {F : Type 0} where
  -- the lookups of one AIR with their indices, and one more of them
  lookups_in-more : (n : ℕ) (t : Traced F) (j : ℕ) (l : Lookup F) → j < length t.lookups
      → l ≡ get_or t.lookups j l
      → take (j + 1) (lookups_in (n, t)) ≡ take j (lookups_in (n, t)) ++ record { instance = n; index = j; traced = t; lookup = l } ∷ []
  lookups_in-more n t j l lt is =
      mapped_more (λ (p : ℕ × Lookup F). record { instance = n; index = p.0; traced = t; lookup = p.1 }) (enumerate_from 0 t.lookups) j (j, l) (numbered_within t.lookups j l lt is) (numbered_read t.lookups j l lt is)

  pub length-lookups_in : (n : ℕ) (t : Traced F) → length (lookups_in (n, t)) ≡ length t.lookups
  length-lookups_in n t =
      length-map (enumerate_from 0 t.lookups) (λ (p : ℕ × Lookup F). record { instance = n; index = p.0; traced = t; lookup = p.1 }) ∙ length-enumerate_from 0 t.lookups

  -- the lookups of one more AIR
  all_lookups-more : (ts : List (Traced F)) (i : ℕ) (t : Traced F) → i < length ts → t ≡ get_or ts i t
      → flat_map lookups_in (take (i + 1) (enumerate_from 0 ts)) ≡ flat_map lookups_in (take i (enumerate_from 0 ts)) ++ lookups_in (i, t)
  all_lookups-more ts i t lt is = flat_next lookups_in (enumerate_from 0 ts) i (i, t) (numbered_within ts i t lt is) (numbered_read ts i t lt is)

  -- the buses of the lookups of an AIR
  buses_in : (n : ℕ) (t : Traced F)
      → filter_map (λ p. bus_of p.lookup.kind) (lookups_in (n, t)) ≡ filter_map (λ (l : Lookup F). bus_of l.kind) t.lookups
  buses_in n t = from 0 t.lookups
    where
      from : (k : ℕ) (ls : List (Lookup F))
          → filter_map (λ (p : LookupAt F). bus_of p.lookup.kind) (map (λ (p : ℕ × Lookup F). record { instance = n; index = p.0; traced = t; lookup = p.1 }) (enumerate_from k ls)) ≡ filter_map (λ (l : Lookup F). bus_of l.kind) ls
      from k [] = refl
      from k (l ∷ ls) = ap (cons_option (bus_of l.kind)) (from (k + 1) ls)

  -- and those of the lookups of one more AIR
  pub names_more : (ts : List (Traced F)) (i : ℕ) (t : Traced F) → i < length ts → t ≡ get_or ts i t
      → filter_map (λ p. bus_of p.lookup.kind) (flat_map lookups_in (take (i + 1) (enumerate_from 0 ts))) ≡ filter_map (λ p. bus_of p.lookup.kind) (flat_map lookups_in (take i (enumerate_from 0 ts))) ++ filter_map (λ (l : Lookup F). bus_of l.kind) t.lookups
  names_more ts i t lt is =
      let bus = λ (p : LookupAt F). bus_of p.lookup.kind in
      let front = flat_map lookups_in (take i (enumerate_from 0 ts)) in
      ap (filter_map bus) (all_lookups-more ts i t lt is)
      ∙ filter_map-append bus front (lookups_in (i, t))
      ∙ ap (λ names. filter_map bus front ++ names) (buses_in i t)

module _ {F A : Type 0} {Ready : A → Type 0} {Does : A → A → List (Contribution F) → Type 0} (walk : IsWalk Ready Does) (R : Ring F) (eq : F → F → Bool) (name : List ℕ) where
  -- what the lookups on the bus contribute
  abbrev chosen : List (LookupAt F) → List (Contribution F)
  chosen ps = flat_map (lookup_contributions R eq) (filter (is_on name) ps)

  -- one more lookup of an AIR
  module _ (n : ℕ) (t : Traced F) (j : ℕ) (l : Lookup F) (lt : j < length t.lookups) (is : l ≡ get_or t.lookups j l) (before now : A) (so_far : Does before now (chosen (take j (lookups_in (n, t))))) where
    step : (after : A) (b : Bool) → is_named name (bus_of l.kind) ≡ b
        → Does now after (cond b (contributions_of R eq n j t l) [])
        → Does before after (chosen (take (j + 1) (lookups_in (n, t))))
    step after b on this =
        let p : LookupAt F = record { instance = n; index = j; traced = t; lookup = l } in
        subst (Does before after)
        (ap (λ cs. chosen (take j (lookups_in (n, t))) ++ cs) (sym (chosen-one (is_on name) (lookup_contributions R eq) p b on))
        ∙ sym (ap chosen (lookups_in-more n t j l lt is) ∙ chosen-append (is_on name) (lookup_contributions R eq) (take j (lookups_in (n, t))) (p ∷ [])))
        (walk.joins before now after (chosen (take j (lookups_in (n, t)))) (cond b (contributions_of R eq n j t l) []) so_far this)

    -- it is on the bus
    pub step_on : (made after : A) → after ≡ made
        → is_named name (bus_of l.kind) ≡ true → Does now made (contributions_of R eq n j t l)
        → Does before after (chosen (take (j + 1) (lookups_in (n, t))))
    step_on made after same on this = step after true on (subst (λ c. Does now c (contributions_of R eq n j t l)) (sym same) this)

    -- or it is not
    pub step_off : (after : A) → after ≡ now → is_named name (bus_of l.kind) ≡ false
        → Does before after (chosen (take (j + 1) (lookups_in (n, t))))
    step_off after same off = step after false off (subst (λ c. Does now c []) (sym same) (walk.rests now (walk.leaves before now (chosen (take j (lookups_in (n, t)))) so_far)))

  -- the lookups of one more AIR
  pub step_instance : (ts : List (Traced F)) (i : ℕ) (t : Traced F) → i < length ts
      → t ≡ get_or ts i t → (before now after : A)
      → Does before now (chosen (flat_map lookups_in (take i (enumerate_from 0 ts))))
      → Does now after (chosen (lookups_in (i, t)))
      → Does before after (chosen (flat_map lookups_in (take (i + 1) (enumerate_from 0 ts))))
  step_instance ts i t lt is before now after so_far this =
      let front = flat_map lookups_in (take i (enumerate_from 0 ts)) in
      subst (Does before after)
      (sym (ap chosen (all_lookups-more ts i t lt is) ∙ chosen-append (is_on name) (lookup_contributions R eq) front (lookups_in (i, t))))
      (walk.joins before now after (chosen front) (chosen (lookups_in (i, t))) so_far this)
