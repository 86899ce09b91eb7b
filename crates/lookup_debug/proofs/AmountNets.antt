-- The nets of tuples with amounts.
use Rattle.std.proofs.Common.{◌≡◌, ◌||◌, Bool, false, cond, not, List, [], ◌∷◌, ◌++◌, append_assoc, map, unwrap_or, refl, sym, ap, ◌∙◌, Decides}
use Rattle.std.proofs.lemmas.List.{append-nil, map-append, map-id}
use Rattle.std.proofs.lemmas.Slice.Eq.{slice_eq-Decides}
use Rattle.std.specs.Cmp.Lexicographic.{pointwise}
use Rattle.std.specs.List.{AllByRecursion, filter, list_any}
use Rattle.std.specs.Map.{lookup}
use Rattle.list_laws.proofs.Each.{all_weaker}
use Rattle.list_laws.proofs.Images.{filter_all, filter_images, map-map}
use Rattle.indexmap.specs.IndexMap.{insert_entry}
use Rattle.field.specs.Ring.{Ring, IsCommutativeRing}
use Rattle.field.specs.Sums.{sum_in}
use Rattle.lookup_model.specs.Net.{first_seen}
use Rattle.lookup_model.proofs.Lookups.Regrouping.{IsSeparate, first_seen_separate}
use Rattle.lookup_messages.proofs.NetEntries.{agree, entries-push, net-lookup, net-none, net_in, turned}
use Rattle.lookup_debug.specs.Contributions.{Contribution}
use Rattle.lookup_debug.specs.Mismatch.{net_amount}
use Rattle.lookup_debug.specs.internal.Appended.{without_location}
use Rattle.lookup_debug.specs.internal.Nets.{amount_nets}

-- each distinct tuple of some contributions with its net, in the order in which the tuples are first seen
abbrev pub tuple_nets : {F : Type 0} → Ring F → (F → F → Bool) → List (Contribution F) → List (List F × F)
tuple_nets R eq cs = map (λ tuple. (tuple, net_amount R eq cs tuple)) (first_seen (pointwise eq) (map (λ c. c.tuple) cs))

module _ {F : Type 0} where
  tuples_without_location : (cs : List (Contribution F)) → map (λ a. a.0) (map without_location cs) ≡ map (λ c. c.tuple) cs
  tuples_without_location cs = map-map (λ a. a.0) without_location cs

  -- the amounts of the tuples that pass a test
  amounts_without_location : (p : List F → Bool) (cs : List (Contribution F)) → map (λ a. a.1) (filter (λ a. p a.0) (map without_location cs)) ≡ map (λ c. c.amount) (filter (λ c. p c.tuple) cs)
  amounts_without_location p cs =
      ap (map (λ a. a.1)) (filter_images without_location (λ c. p c.tuple) (λ a. p a.0) (λ c. refl) cs) ∙ map-map (λ a. a.1) without_location (filter (λ c. p c.tuple) cs)

module _ {F : Type 0} {R : Ring F} (laws : IsCommutativeRing R) (eq : F → F → Bool) (eq_is : (a b : F) → Decides (eq a b) (a ≡ b)) where
  abbrev same : List F → List F → Bool
  same = pointwise eq

  decides : (a b : List F) → Decides (same a b) (a ≡ b)
  decides a b = slice_eq-Decides eq_is a b (same a b) refl

  abbrev net_of : List (List F × F) → List F → F
  net_of = net_in same decides laws (λ a. a.0) (λ a. a.1)

  -- the locations of contributions play no part in their nets
  pub nets_without_location : (cs : List (Contribution F)) → amount_nets R eq (map without_location cs) ≡ tuple_nets R eq cs
  nets_without_location cs =
      λ i. map (λ tuple. (tuple, sum_in R (amounts_without_location (same tuple) cs i))) (first_seen same (tuples_without_location cs i))

  -- lists with the same nets have the same nets after one more tuple
  nets_push : (ts bs : List (List F × F)) (x : List F × F) → amount_nets R eq ts ≡ amount_nets R eq bs → amount_nets R eq (ts ++ x ∷ []) ≡ amount_nets R eq (bs ++ x ∷ [])
  nets_push ts bs x e =
      let net_is : net_of ts x.0 ≡ net_of bs x.0 =
      sym (net-lookup same decides laws (λ a. a.0) (λ a. a.1) ts x.0)
      ∙ ap (λ es. unwrap_or (lookup (same x.0) es) R.zero) e
      ∙ net-lookup same decides laws (λ a. a.0) (λ a. a.1) bs x.0 in
      sym (entries-push same decides laws (λ a. a.0) (λ a. a.1) ts x)
      ∙ (λ i. insert_entry same (e i) x.0 (R.add (net_is i) x.1))
      ∙ entries-push same decides laws (λ a. a.0) (λ a. a.1) bs x

  -- and after more
  pub nets_more : (ts bs xs : List (List F × F)) → amount_nets R eq ts ≡ amount_nets R eq bs → amount_nets R eq (ts ++ xs) ≡ amount_nets R eq (bs ++ xs)
  nets_more ts bs [] e = ap (amount_nets R eq) (append-nil ts) ∙ e ∙ sym (ap (amount_nets R eq) (append-nil bs))
  nets_more ts bs (x ∷ xs) e =
      ap (amount_nets R eq) (sym (append_assoc ts (x ∷ []) xs))
      ∙ nets_more (ts ++ x ∷ []) (bs ++ x ∷ []) xs (nets_push ts bs x e)
      ∙ ap (amount_nets R eq) (append_assoc bs (x ∷ []) xs)

  -- a list with the nets of some contributions has those of more of them, once these are appended
  pub nets_go_on : (before list : List (List F × F)) (cs more : List (Contribution F)) → amount_nets R eq before ≡ amount_nets R eq (map without_location cs) → list ≡ before ++ map without_location more
      → amount_nets R eq list ≡ amount_nets R eq (map without_location (cs ++ more))
  nets_go_on before list cs more e is =
      ap (amount_nets R eq) is
      ∙ nets_more before (map without_location cs) (map without_location more) e
      ∙ ap (amount_nets R eq) (sym (map-append without_location cs more))

  -- items that are separate are each seen once
  seen_separate : (ks : List (List F)) → IsSeparate same ks → first_seen same ks ≡ ks
  seen_separate [] h = refl
  seen_separate (k ∷ ks) h = ap (λ t. k ∷ filter (λ y. not (same k y)) t) (seen_separate ks h.1) ∙ ap (λ t. k ∷ t) (filter_all (λ y. not (same k y)) ks (all_weaker (λ y. same k y ≡ false) _ (λ y e. ap not e) ks h.0))

  module _ (f : List F → F) where
    -- tuples, each with its value
    abbrev valued : List (List F) → List (List F × F)
    valued ks = map (λ k. (k, f k)) ks

    tuples_valued : (ks : List (List F)) → map (λ a. a.0) (valued ks) ≡ ks
    tuples_valued ks = map-map (λ a. a.0) (λ k. (k, f k)) ks ∙ map-id ks

    none_same : (k : List F) (ks : List (List F)) → AllByRecursion (λ y. same k y ≡ false) ks → list_any (λ y. same y k) (map (λ a. a.0) (valued ks)) ≡ false
    none_same k [] h = refl
    none_same k (y ∷ ys) h = ap (λ b. b || list_any (λ z. same z k) (map (λ a. a.0) (valued ys))) (turned same decides y k ∙ h.0) ∙ none_same k ys h.1

    -- the net of a tuple that stands first and nowhere else
    net_first : (k : List F) (ks : List (List F)) → AllByRecursion (λ y. same k y ≡ false) ks → net_of (valued (k ∷ ks)) k ≡ f k
    net_first k ks h =
        ap (λ b. sum_in R (map (λ a. a.1) (cond b ((k, f k) ∷ filter (λ a. same k a.0) (valued ks)) (filter (λ a. same k a.0) (valued ks))))) ((decides k k).1 refl)
        ∙ ap (R.add (f k)) (net-none same decides laws (λ a. a.0) (λ a. a.1) (valued ks) k (none_same k ks h))
        ∙ laws.add_zero (f k)

    -- and of the others
    net_later : (k : List F) (ks : List (List F)) (y : List F) → same k y ≡ false → net_of (valued (k ∷ ks)) y ≡ net_of (valued ks) y
    net_later k ks y apart =
        ap (λ b. sum_in R (map (λ a. a.1) (cond b ((k, f k) ∷ filter (λ a. same y a.0) (valued ks)) (filter (λ a. same y a.0) (valued ks))))) (turned same decides y k ∙ apart)

    nets_valued : (ks : List (List F)) → IsSeparate same ks → map {B = List F × F} (λ k. (k, net_of (valued ks) k)) ks ≡ valued ks
    nets_valued [] h = refl
    nets_valued (k ∷ ks) h = λ i. (k, net_first k ks h.0 i) ∷ (agree same decides (net_of (valued (k ∷ ks))) (net_of (valued ks)) k (net_later k ks) ks h.0 ∙ nets_valued ks h.1) i

    valued_once : (ks : List (List F)) → IsSeparate same ks → amount_nets R eq (valued ks) ≡ valued ks
    valued_once ks h =
        ap (λ t. map (λ k. (k, net_of (valued ks) k)) (first_seen same t)) (tuples_valued ks)
        ∙ ap (map (λ k. (k, net_of (valued ks) k))) (seen_separate ks h)
        ∙ nets_valued ks h

  -- the nets of nets are these nets
  pub nets_once : (ts : List (List F × F)) → amount_nets R eq (amount_nets R eq ts) ≡ amount_nets R eq ts
  nets_once ts = valued_once (net_of ts) (first_seen same (map (λ a. a.0) ts)) (first_seen_separate same (map (λ a. a.0) ts))
