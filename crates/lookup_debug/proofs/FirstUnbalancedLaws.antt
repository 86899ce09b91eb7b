-- The first mismatch as data, group by group.
use Rattle.std.proofs.Common.{◌≡◌, ◌++◌, [], ◌∷◌, Bool, true, false, List, MatchOption, None, Option, Some, ℕ, ap, arith, is_some, length, length-append, map, subst, sym, take, true≢false, ◌∙◌}
use Rattle.std.proofs.lemmas.List.{length-map}
use Rattle.std.specs.Borrow.{Bor}
use Rattle.field.specs.Ring.{Ring}
use Rattle.lookup_debug.specs.BusTable.{TupleEntry, saturated_usize, entry_of, label_of, tuple_entry, tuple_places}
use Rattle.lookup_debug.specs.Contributions.{Contribution}
use Rattle.lookup_debug.specs.FirstUnbalanced.{IsUnbalancedIn}
use Rattle.lookup_debug.specs.Mismatch.{IsFirst, net_amount}
use Rattle.lookup_debug.specs.declared.named_group.GroupName.{GroupName}
use Rattle.lookup_debug.specs.declared.unbalanced.UnbalancedTuple.{UnbalancedTuple}
use Rattle.lookup_debug.specs.internal.Places.{placed_entry}

-- the last of some items that have one image
pub only_one : {A B : Type 0} (f : A → B) (xs front : List A) (x : A) (y : B) → xs ≡ front ++ x ∷ [] → map f xs ≡ y ∷ [] → f x ≡ y
only_one {A = A} {B = B} f xs front x y split one = by_front front (ap (map f) (sym split) ∙ one)
  where
    by_front : (ys : List A) → map f (ys ++ x ∷ []) ≡ y ∷ [] → f x ≡ y
    by_front [] e = cc
    by_front (z ∷ zs) e = absurd (omega (arith, ap length e, length-map (zs ++ x ∷ []) f, length-append zs (x ∷ [])))

-- what is said of an answer that is there, and of one that is not
pub answer_there : {A : Type 0} (P P' : Type 0) (Q Q' : A → Type 0) (o : Option A) → is_some o ≡ true → MatchOption o P Q → ((x : A) → Q x → Q' x) → MatchOption o P' Q'
answer_there P P' Q Q' None there h f = absurd (true≢false (sym there))
answer_there P P' Q Q' (Some x) there h f = f x h

pub answer_missing : {A : Type 0} (P : Type 0) (Q : A → Type 0) (o : Option A) → is_some o ≡ false → MatchOption o P Q → P
answer_missing P Q None missing h = h
answer_missing P Q (Some x) missing h = absurd (true≢false missing)

module _ {F : Type 0} (R : Ring F) (eq : F → F → Bool) (text : F → List ℕ) (limit : ℕ) (cs : List (Contribution F)) where
  -- the entry of the first tuple, under the label of its group
  pub unbalanced_in : (label : List ℕ) (name : GroupName) (u : UnbalancedTuple F) (m : Bor (List F) × F)
      → IsFirst R eq text cs m.0.now × (m.1 ≡ net_amount R eq cs m.0.now)
      → entry_of u ≡ placed_entry R eq limit cs m → label_of name ≡ label
      → IsUnbalancedIn R eq text limit label cs (record { group = name; unbalanced = u })
  unbalanced_in label name u m found entry label_is =
      let tuple_is : u.tuple.items ≡ m.0.now = ap (λ (t : TupleEntry F). t.tuple) entry in record {
        label_is = label_is;
        first = subst (IsFirst R eq text cs) (sym tuple_is) found.0;
        entry_is = entry
            ∙ (λ i. record { tuple = m.0.now; net = found.1 i; place_count = saturated_usize (length (tuple_places R eq cs m.0.now)); places = take limit (tuple_places R eq cs m.0.now) })
            ∙ ap (tuple_entry R eq limit cs) (sym tuple_is);
      }
