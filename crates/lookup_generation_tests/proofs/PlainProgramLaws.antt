-- The plain program's sums, message by message.
use Rattle.std.proofs.Common.{◌≡◌, ◌≢◌, ℕ, ◌+◌, ◌<◌, ◌≤◌, Bool, true, false, cond, not, ◌||◌, List, [], ◌∷◌, ◌++◌, length, map, take, get_or, refl, sym, ap, ◌∙◌, arith}
use Rattle.std.proofs.lemmas.Bool.{or_left, or_right, true≢false}
use Rattle.std.proofs.lemmas.List.{length-map, map-append, map_more, append-nil}
use Rattle.std.proofs.lemmas.List.Folds.{list_any-append}
use Rattle.std.proofs.lemmas.List.Elements.{All-from_recursion}
use Rattle.std.specs.List.{filter, list_any}
use Rattle.field.specs.Ring.{Ring, IsCommutativeRing}
use Rattle.field.specs.Sums.{sum_in}
use Rattle.field.specs.Extension.{Extension, IsLawful}
use Rattle.lookup_model.specs.Message.{Key, Message, same_key}
use Rattle.lookup_model.specs.Fault.{vanishes}
use Rattle.lookup_model.specs.Net.{first_seen, keys, net, unbalanced_keys}
use Rattle.lookup_model.specs.Plain.{counted_messages, net_sum, quotient}
use Rattle.lookup_generation_tests.specs.PlainProgram.{as_message, as_messages, net_vanishes}
use Rattle.lookup_generation_tests.specs.declared.plain.PlainMessage.{PlainMessage}
use Rattle.lookup_generation_tests.specs.internal.PlainProgram.{IsSumOfQuotients, net_message}
use Rattle.lookup_messages.proofs.FirstSeen.{first_seen-push}
use Rattle.std.proofs.lemmas.List.Elements.{filter-append}
use Rattle.list_laws.proofs.Images.{map-map, mapped_at}
use Rattle.list_laws.proofs.Each.{All-at}
use Rattle.lookup_model.proofs.Lookups.Regrouping.{Holds, first_seen_holds}
use Rattle.lookup_model.proofs.Lookups.KeyLaws.{same_key-Decides}
use Rattle.lookup_model.proofs.SumLaws.{sum_in-append, sum_in-push}

-- a list of no more than one item is that item
pub one_item : (xs : List ℕ) (x : ℕ) → length xs ≤ 1 → length xs ≢ 0 → x ≡ get_or xs 0 x → xs ≡ x ∷ []
one_item [] x few some is = absurd (some refl)
one_item (y ∷ []) x few some is = λ i. sym is i ∷ []
one_item (y ∷ z ∷ xs) x few some is = absurd (omega (arith, few))

-- the messages up to one and that one
pub messages-more : {F : Type 0} (ms : List (PlainMessage F)) (i : ℕ) (m : PlainMessage F) → i < length ms → m ≡ get_or ms i m → as_messages (take (i + 1) ms) ≡ as_messages (take i ms) ++ as_message m ∷ []
messages-more ms i m lt is = map_more as_message ms i m lt ∙ ap (λ t. as_messages (take i ms) ++ as_message t ∷ []) (sym is)

module _ {F : Type 0} {R : Ring F} (laws : IsCommutativeRing R) (eq : F → F → Bool) (ms : List (PlainMessage F)) (i : ℕ) (m : PlainMessage F) (key : Key F) (lt : i < length ms) (is : m ≡ get_or ms i m) where
  -- another message of the key adds its multiplicity
  pub net-same : (sum next : F) → same_key eq key (as_message m).key ≡ true → sum ≡ net R eq (as_messages (take i ms)) key → next ≡ R.add sum m.multiplicity → next ≡ net R eq (as_messages (take (i + 1) ms)) key
  net-same sum next same so_far next_is =
      let mine = λ (n : Message F). same_key eq key n.key in
      let before = as_messages (take i ms) in
      next_is ∙ ap (λ t. R.add t m.multiplicity) so_far ∙ sym (sum_in-push laws (map (λ n. n.multiplicity) (filter mine before)) m.multiplicity)
      ∙ ap (sum_in R) (sym (map-append (λ (n : Message F). n.multiplicity) (filter mine before) (as_message m ∷ [])))
      ∙ ap (λ b. sum_in R (map (λ (n : Message F). n.multiplicity) (filter mine before ++ cond b (as_message m ∷ []) []))) (sym same)
      ∙ ap (λ t. sum_in R (map (λ (n : Message F). n.multiplicity) t)) (sym (filter-append mine before (as_message m ∷ [])))
      ∙ ap (λ t. net R eq t key) (sym (messages-more ms i m lt is))

  -- a message of another key adds nothing
  pub net-other : (sum : F) → same_key eq key (as_message m).key ≡ false → sum ≡ net R eq (as_messages (take i ms)) key → sum ≡ net R eq (as_messages (take (i + 1) ms)) key
  net-other sum other so_far =
      let mine = λ (n : Message F). same_key eq key n.key in
      let before = as_messages (take i ms) in
      so_far ∙ ap (λ t. sum_in R (map (λ (n : Message F). n.multiplicity) t)) (sym (append-nil (filter mine before)))
      ∙ ap (λ b. sum_in R (map (λ (n : Message F). n.multiplicity) (filter mine before ++ cond b (as_message m ∷ []) []))) (sym other)
      ∙ ap (λ t. sum_in R (map (λ (n : Message F). n.multiplicity) t)) (sym (filter-append mine before (as_message m ∷ [])))
      ∙ ap (λ t. net R eq t key) (sym (messages-more ms i m lt is))

module _ {F K : Type 0} {E : Extension F K} (laws : IsLawful E) (denominator : Key F → K) where
  -- the fraction of some messages and that of others add up to that of all
  pub fraction_of_both : (ms ns : List (Message F)) (f q next : K) → next ≡ E.ring.add f q → IsSumOfQuotients E denominator ms f → IsSumOfQuotients E denominator ns q → IsSumOfQuotients E denominator (ms ++ ns) next
  fraction_of_both ms ns f q next next_is first second =
      let same = filter-append (λ (m : Message F). not (E.base_eq m.multiplicity E.base.zero)) ms ns in
      let of_message = λ (m : Message F). quotient E denominator m.multiplicity m.key in
      record {
        value =
            next_is ∙ (λ i. E.ring.add (first.value i) (second.value i))
            ∙ sym (sum_in-append laws.ring (map of_message (counted_messages E.base E.base_eq ms)) (map of_message (counted_messages E.base E.base_eq ns)))
            ∙ ap (sum_in E.ring) (sym (map-append of_message (counted_messages E.base E.base_eq ms) (counted_messages E.base E.base_eq ns)))
            ∙ ap (λ ts. sum_in E.ring (map of_message ts)) (sym same);
        divides =
            ap (vanishes E denominator) same
            ∙ list_any-append (λ m. E.eq (denominator m.key) E.ring.zero) (counted_messages E.base E.base_eq ms) (counted_messages E.base E.base_eq ns)
            ∙ (λ i. first.divides i || second.divides i);
      }

  -- messages of which some vanish do
  pub vanishes_among : (ms ns rest : List (Message F)) → vanishes E denominator (counted_messages E.base E.base_eq ns) ≡ true → vanishes E denominator (counted_messages E.base E.base_eq ((ms ++ ns) ++ rest)) ≡ true
  vanishes_among ms ns rest e =
      let is_zero = λ (n : Message F). E.eq (denominator n.key) E.ring.zero in
      let counts = λ (m : Message F). not (E.base_eq m.multiplicity E.base.zero) in
      ap (list_any is_zero) (filter-append counts (ms ++ ns) rest ∙ ap (λ t. t ++ counted_messages E.base E.base_eq rest) (filter-append counts ms ns))
      ∙ list_any-append is_zero (counted_messages E.base E.base_eq ms ++ counted_messages E.base E.base_eq ns) (counted_messages E.base E.base_eq rest)
      ∙ or_left (list_any is_zero (counted_messages E.base E.base_eq ms ++ counted_messages E.base E.base_eq ns)) (list_any is_zero (counted_messages E.base E.base_eq rest))
      (list_any-append is_zero (counted_messages E.base E.base_eq ms) (counted_messages E.base E.base_eq ns) ∙ or_right (list_any is_zero (counted_messages E.base E.base_eq ms)) (list_any is_zero (counted_messages E.base E.base_eq ns)) e)

  -- a key with its net is counted where it is unbalanced
  pub counted_nets : (ms : List (Message F)) (ks : List (Key F)) → counted_messages E.base E.base_eq (map (net_message E.base E.base_eq ms) ks) ≡ map (net_message E.base E.base_eq ms) (filter (λ key. not (E.base_eq (net E.base E.base_eq ms key) E.base.zero)) ks)
  counted_nets ms [] = refl
  counted_nets ms (k ∷ ks) = by_test (not (E.base_eq (net E.base E.base_eq ms k) E.base.zero)) (counted_nets ms ks)
    where
      by_test : (b : Bool) → counted_messages E.base E.base_eq (map (net_message E.base E.base_eq ms) ks) ≡ map (net_message E.base E.base_eq ms) (filter (λ key. not (E.base_eq (net E.base E.base_eq ms key) E.base.zero)) ks)
          → cond b (net_message E.base E.base_eq ms k ∷ counted_messages E.base E.base_eq (map (net_message E.base E.base_eq ms) ks)) (counted_messages E.base E.base_eq (map (net_message E.base E.base_eq ms) ks))
          ≡ map (net_message E.base E.base_eq ms) (cond b (k ∷ filter (λ key. not (E.base_eq (net E.base E.base_eq ms key) E.base.zero)) ks) (filter (λ key. not (E.base_eq (net E.base E.base_eq ms key) E.base.zero)) ks))
      by_test true rest = ap (λ t. net_message E.base E.base_eq ms k ∷ t) rest
      by_test false rest = rest

  -- the denominators of the unbalanced keys
  pub vanishing_nets : (ms : List (Message F)) → vanishes E denominator (counted_messages E.base E.base_eq (map (net_message E.base E.base_eq ms) (keys E.base_eq ms))) ≡ net_vanishes E denominator ms
  vanishing_nets ms = ap (vanishes E denominator) (counted_nets ms (keys E.base_eq ms)) ∙ any_mapped (unbalanced_keys E.base E.base_eq ms)
    where
      any_mapped : (ks : List (Key F)) → vanishes E denominator (map (net_message E.base E.base_eq ms) ks) ≡ list_any (λ key. E.eq (denominator key) E.ring.zero) ks
      any_mapped [] = refl
      any_mapped (k ∷ ks) = ap (λ b. E.eq (denominator k) E.ring.zero || b) (any_mapped ks)

  -- and the sum of their quotients
  pub sum_of_nets : (ms : List (Message F)) → sum_in E.ring (map (λ (m : Message F). quotient E denominator m.multiplicity m.key) (counted_messages E.base E.base_eq (map (net_message E.base E.base_eq ms) (keys E.base_eq ms)))) ≡ net_sum E denominator ms
  sum_of_nets ms =
      ap (λ ts. sum_in E.ring (map (λ (m : Message F). quotient E denominator m.multiplicity m.key) ts)) (counted_nets ms (keys E.base_eq ms))
      ∙ ap (sum_in E.ring) (map-map (λ (m : Message F). quotient E denominator m.multiplicity m.key) (net_message E.base E.base_eq ms) (unbalanced_keys E.base E.base_eq ms))

  -- a key with its net vanishes where its net is not zero and its denominator is
  alone_vanishes : (ms : List (Message F)) (k : Key F) → vanishes E denominator (counted_messages E.base E.base_eq (net_message E.base E.base_eq ms k ∷ [])) ≡ true → (not (E.base_eq (net E.base E.base_eq ms k) E.base.zero) ≡ true) × (E.eq (denominator k) E.ring.zero ≡ true)
  alone_vanishes ms k e = by_test (not (E.base_eq (net E.base E.base_eq ms k) E.base.zero)) (E.eq (denominator k) E.ring.zero) refl e
    where
      by_test : (b d : Bool) → E.eq (denominator k) E.ring.zero ≡ d → vanishes E denominator (cond b (net_message E.base E.base_eq ms k ∷ []) []) ≡ true → (b ≡ true) × (d ≡ true)
      by_test true true at vanishing = (refl, refl)
      by_test true false at vanishing = absurd (true≢false (sym vanishing ∙ ap (λ t. t || false) at))
      by_test false d at vanishing = absurd (true≢false (sym vanishing))

  -- a key among others that vanishes makes them do so
  held_vanishes : (ms : List (Message F)) (k : Key F) → not (E.base_eq (net E.base E.base_eq ms k) E.base.zero) ≡ true → E.eq (denominator k) E.ring.zero ≡ true → (ks : List (Key F)) → Holds (same_key E.base_eq) ks k
      → list_any (λ key. E.eq (denominator key) E.ring.zero) (filter (λ key. not (E.base_eq (net E.base E.base_eq ms key) E.base.zero)) ks) ≡ true
  held_vanishes ms k unbalanced zero [] held = absurd (true≢false (sym held))
  held_vanishes ms k unbalanced zero (j ∷ ks) held = by_test (same_key E.base_eq j k) refl (held_vanishes ms k unbalanced zero ks)
    where
      is_zero : Key F → Bool
      is_zero key = E.eq (denominator key) E.ring.zero

      rest : List (Key F)
      rest = filter (λ key. not (E.base_eq (net E.base E.base_eq ms key) E.base.zero)) ks

      kept : (b : Bool) → list_any is_zero rest ≡ true → list_any is_zero (cond b (j ∷ rest) rest) ≡ true
      kept true more = or_right (is_zero j) (list_any is_zero rest) more
      kept false more = more

      by_test : (b : Bool) → same_key E.base_eq j k ≡ b → (Holds (same_key E.base_eq) ks k → list_any is_zero rest ≡ true)
          → list_any is_zero (cond (not (E.base_eq (net E.base E.base_eq ms j) E.base.zero)) (j ∷ rest) rest) ≡ true
      by_test true e further =
          let is : j ≡ k = (same_key-Decides E.base_eq laws.base_eq j k).0 e in
          ap (λ b. list_any is_zero (cond b (j ∷ rest) rest)) (ap (λ key. not (E.base_eq (net E.base E.base_eq ms key) E.base.zero)) is ∙ unbalanced)
          ∙ or_left (is_zero j) (list_any is_zero rest) (ap is_zero is ∙ zero)
      by_test false e further =
          kept (not (E.base_eq (net E.base E.base_eq ms j) E.base.zero)) (further (sym (ap (λ t. t || list_any (λ y. same_key E.base_eq y k) ks) e) ∙ held))

  -- so a message whose key vanishes with its net makes the nets do so
  pub vanishing_net : (ms : List (Message F)) (i : ℕ) (m : Message F) → i < length ms → m ≡ get_or ms i m → vanishes E denominator (counted_messages E.base E.base_eq (net_message E.base E.base_eq ms m.key ∷ [])) ≡ true → net_vanishes E denominator ms ≡ true
  vanishing_net ms i m lt is e =
      let parts = alone_vanishes ms m.key e in
      let names = map (λ (n : Message F). n.key) ms in
      let held = All-from_recursion (Holds (same_key E.base_eq) (keys E.base_eq ms)) names (first_seen_holds (same_key E.base_eq) (same_key-Decides E.base_eq laws.base_eq) names) in
      held_vanishes ms m.key parts.0 parts.1 (keys E.base_eq ms)
      (All-at (Holds (same_key E.base_eq) (keys E.base_eq ms)) names i m.key held (omega (arith, lt, length-map ms (λ n. n.key))) (mapped_at (λ n. n.key) ms i m lt is))

  abbrev pub keys_of : List (PlainMessage F) → List (Key F)
  keys_of ms = keys E.base_eq (as_messages ms)

  module _ (ms : List (PlainMessage F)) (i : ℕ) (m : PlainMessage F) (lt : i < length ms) (is : m ≡ get_or ms i m) where
    keys_push : (b : Bool) → list_any (λ n. same_key E.base_eq (as_message n).key (as_message m).key) (take i ms) ≡ b → keys_of (take (i + 1) ms) ≡ cond b (keys_of (take i ms)) (keys_of (take i ms) ++ (as_message m).key ∷ [])
    keys_push b seen =
        let before = map (λ (n : Message F). n.key) (as_messages (take i ms)) in
        ap (keys E.base_eq) (messages-more ms i m lt is)
        ∙ ap (first_seen (same_key E.base_eq)) (map-append (λ (n : Message F). n.key) (as_messages (take i ms)) (as_message m ∷ []))
        ∙ first_seen-push (same_key E.base_eq) (same_key-Decides E.base_eq laws.base_eq) before (as_message m).key
        ∙ ap (λ t. cond t (keys_of (take i ms)) (keys_of (take i ms) ++ (as_message m).key ∷ [])) (any_key (take i ms) ∙ seen)
      where
        any_key : (ns : List (PlainMessage F)) → list_any (λ y. same_key E.base_eq y (as_message m).key) (map (λ n. n.key) (as_messages ns)) ≡ list_any (λ n. same_key E.base_eq (as_message n).key (as_message m).key) ns
        any_key [] = refl
        any_key (n ∷ ns) = ap (λ t. same_key E.base_eq (as_message n).key (as_message m).key || t) (any_key ns)

    -- a key that was seen adds nothing, and a new one goes last
    pub keys-seen : list_any (λ n. same_key E.base_eq (as_message n).key (as_message m).key) (take i ms) ≡ true → keys_of (take (i + 1) ms) ≡ keys_of (take i ms)
    keys-seen seen = keys_push true seen

    pub keys-new : list_any (λ n. same_key E.base_eq (as_message n).key (as_message m).key) (take i ms) ≡ false → keys_of (take (i + 1) ms) ≡ keys_of (take i ms) ++ (as_message m).key ∷ []
    keys-new new = keys_push false new
