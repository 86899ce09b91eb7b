-- Lookups with their ids: two of them have one id exactly if they share a bus.
use Rattle.std.proofs.Common.{◌≡◌, ◌≢◌, ◌↔◌, ◌⊎◌, ◌<◌, ◌++◌, ◌∷◌, ℕ, inl, inr, IsTrue, List, [], Option, Some, get_or, length, refl, sym, ap, subst₂, ◌∙◌}
use Rattle.std.proofs.lemmas.List.Elements.{Contains-get_or}
use Rattle.std.proofs.lemmas.List.Quantifiers.{all_pairs_push}
use Rattle.std.specs.List.{AllPairs, Contains, HoldsAt}
use Rattle.lookup_model.specs.declared.types.Lookup.{Lookup}
use Rattle.lookup_model.proofs.Names.{same_name-Decides}
use Rattle.batch.proofs.Members.{members}
use Rattle.batch.specs.Order.{bus_of_numbered, same_bus}

-- the test of buses passes exactly if both are one name
pub shared : (o p : Option (List ℕ)) → IsTrue (same_bus o p) → (name : List ℕ) × (o ≡ Some name) × (p ≡ Some name)
shared (Some n) (Some m) t = (n, refl, ap Some (sym ((same_name-Decides n m).0 t)))
shared o p t = absurd (cc t)

pub share : (o p : Option (List ℕ)) (name : List ℕ) → o ≡ Some name → p ≡ Some name → IsTrue (same_bus o p)
share o p name one other = subst₂ (λ a b. IsTrue (same_bus a b)) (sym one) (sym other) ((same_name-Decides name name).1 refl)

-- an id with its lookup
abbrev pub Entry : Type 0 → Type 0
Entry F = ℕ × Lookup F

-- ids are the same exactly if a bus is shared
abbrev pub IsByBus : {F : Type 0} → Entry F → Entry F → Type 0
IsByBus a b = (a.0 ≡ b.0) ↔ IsTrue (same_bus (bus_of_numbered a) (bus_of_numbered b))

module _ {F : Type 0} (xs : List (Entry F)) (buses : AllPairs IsByBus xs) (a b : Entry F) (one : Contains xs a) (other : Contains xs b) where
  -- lookups with one id are one, or on one bus
  pub one_or_shared : a.0 ≡ b.0 → (a ≡ b) ⊎ ((name : List ℕ) × (bus_of_numbered a ≡ Some name) × (bus_of_numbered b ≡ Some name))
  one_or_shared same = elim (members IsByBus xs buses a b one other) [
    | inl e ↦ inl e
    | inr (inl r) ↦ inr (shared (bus_of_numbered a) (bus_of_numbered b) (r.0 same))
    | inr (inr r) ↦ let (name, of_b, of_a) = shared (bus_of_numbered b) (bus_of_numbered a) (r.0 (sym same)) in inr (name, of_a, of_b)
  ]

  -- so they have one label
  pub same_label : a.0 ≡ b.0 → bus_of_numbered a ≡ bus_of_numbered b
  same_label same = elim (one_or_shared same) [
    | inl e ↦ ap bus_of_numbered e
    | inr (name, of_a, of_b) ↦ of_a ∙ sym of_b
  ]

  -- lookups on one bus have one id
  pub same_id : (name : List ℕ) → bus_of_numbered a ≡ Some name → bus_of_numbered b ≡ Some name → a.0 ≡ b.0
  same_id name of_a of_b = elim (members IsByBus xs buses a b one other) [
    | inl e ↦ ap (λ (c : Entry F). c.0) e
    | inr (inl r) ↦ r.1 (share (bus_of_numbered a) (bus_of_numbered b) name of_a of_b)
    | inr (inr r) ↦ sym (r.1 (share (bus_of_numbered b) (bus_of_numbered a) name of_b of_a))
  ]

-- lookups with their ids, and one more
module _ {F : Type 0} (all : List (Entry F)) (a : Entry F) (buses : AllPairs IsByBus all) where
  -- one that shares no bus with an earlier one, and has an id of its own
  pub apart_pairs : ((k : ℕ) (d : Entry F) → k < length all → (get_or all k d).0 ≢ a.0) → ((k : ℕ) (d : Entry F) → k < length all → ¬ IsTrue (same_bus (bus_of_numbered (get_or all k d)) (bus_of_numbered a))) → AllPairs IsByBus (all ++ a ∷ [])
  apart_pairs other apart = all_pairs_push IsByBus all a buses (λ k d lt. (λ same. absurd (other k d lt same), λ t. absurd (apart k d lt t)))

  -- one on the bus of an earlier one, with its id
  pub joined_pairs : (name : List ℕ) (j : ℕ) → j < length all → HoldsAt (λ b. (bus_of_numbered b ≡ Some name) × (b.0 ≡ a.0)) all j → bus_of_numbered a ≡ Some name → AllPairs IsByBus (all ++ a ∷ [])
  joined_pairs name j here known on =
      let e = get_or all j a in
      let e_in = Contains-get_or all j a here in
      let (e_on, e_id) = known a in
      all_pairs_push IsByBus all a buses (λ k d lt.
      let x = get_or all k d in
      let x_in = Contains-get_or all k d lt in (
        λ same. share (bus_of_numbered x) (bus_of_numbered a) name (same_label all buses x e x_in e_in (same ∙ sym e_id) ∙ e_on) on,
        λ t.
            let (other, of_x, of_a) = shared (bus_of_numbered x) (bus_of_numbered a) t in
            same_id all buses x e x_in e_in name (of_x ∙ sym of_a ∙ on) e_on ∙ e_id,
      ))
