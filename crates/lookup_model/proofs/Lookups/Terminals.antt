-- The terminal by nets is the sum of all fractions.
use Rattle.std.proofs.Common.{◌≡◌, false, not, List, [], ◌∷◌, map, refl, sym, ap, ◌∙◌}
use Rattle.std.proofs.lemmas.Bool.{not-false}
use Rattle.std.proofs.lemmas.List.{map-append}
use Rattle.std.specs.List.{flat_map}
use Rattle.list_laws.proofs.Each.{all_of_map}
use Rattle.field.specs.laws.RingFacts.{zero_mul, add_mul}
use Rattle.field.specs.Sums.{sum_in}
use Rattle.field.specs.Extension.{Extension, IsLawful}
use Rattle.lookup_model.specs.Message.{Key, Message, same_key}
use Rattle.lookup_model.specs.Net.{keys, net}
use Rattle.lookup_model.specs.Plain.{net_sum, plain_fraction, plain_terminal, quotient, trace_messages}
use Rattle.lookup_model.specs.Sent.{Sent}
use Rattle.lookup_model.proofs.Lookups.KeyLaws.{same_key-Decides}
use Rattle.lookup_model.proofs.Lookups.Regrouping.{regrouped, Holds, first_seen_separate, first_seen_holds}
use Rattle.lookup_model.proofs.SumLaws.{sum_in-append, sum_in-filter}

module _ {F K : Type 0} {E : Extension F K} (laws : IsLawful E) (denominator : Key F → K) where
  -- quotients add up in the multiplicity
  pub quotient-add : (key : Key F) (a b : F) → quotient E denominator (E.base.add a b) key ≡ E.ring.add (quotient E denominator a key) (quotient E denominator b key)
  quotient-add key a b = ap (λ t. E.ring.mul t (E.inverse (denominator key))) (laws.embeds.add a b) ∙ add_mul laws.ring (E.embed a) (E.embed b) (E.inverse (denominator key))

  -- a zero multiplicity gives zero, whatever the denominator
  pub quotient-zero : (key : Key F) → quotient E denominator E.base.zero key ≡ E.ring.zero
  quotient-zero key = ap (λ t. E.ring.mul t (E.inverse (denominator key))) laws.embeds.zero ∙ zero_mul laws.ring (E.inverse (denominator key))

  -- what is dropped as zero gives zero
  dropped : (key : Key F) (a : F) → not (E.base_eq a E.base.zero) ≡ false → quotient E denominator a key ≡ E.ring.zero
  dropped key a e = ap (λ t. quotient E denominator t key) ((laws.base_eq a E.base.zero).0 (not-false (E.base_eq a E.base.zero) e)) ∙ quotient-zero key

  abbrev of_message : Message F → K
  of_message m = quotient E denominator m.multiplicity m.key

  -- the fraction of a lookup with its zero multiplicities
  pub plain_fraction-all : (sent : Sent F) → plain_fraction E denominator sent ≡ sum_in E.ring (map of_message sent.messages)
  plain_fraction-all sent = sum_in-filter laws.ring of_message (λ m. not (E.base_eq m.multiplicity E.base.zero)) (λ m e. dropped m.key m.multiplicity e) sent.messages

  -- the fractions of a row are the quotients of its messages
  row_sum : (row : List (Sent F)) → sum_in E.ring (map (plain_fraction E denominator) row) ≡ sum_in E.ring (map of_message (flat_map (λ sent. sent.messages) row))
  row_sum [] = refl
  row_sum (sent ∷ row) =
      (λ i. E.ring.add (plain_fraction-all sent i) (row_sum row i))
      ∙ sym (sum_in-append laws.ring (map of_message sent.messages) (map of_message (flat_map (λ s. s.messages) row)))
      ∙ ap (sum_in E.ring) (sym (map-append of_message sent.messages (flat_map (λ s. s.messages) row)))

  -- the fractions of a trace are the quotients of its messages
  trace_sum : (rows : List (List (Sent F))) → sum_in E.ring (flat_map (λ row. map (plain_fraction E denominator) row) rows) ≡ sum_in E.ring (map of_message (trace_messages rows))
  trace_sum [] = refl
  trace_sum (row ∷ rows) =
      sum_in-append laws.ring (map (plain_fraction E denominator) row) (flat_map (λ r. map (plain_fraction E denominator) r) rows)
      ∙ (λ i. E.ring.add (row_sum row i) (trace_sum rows i))
      ∙ sym (sum_in-append laws.ring (map of_message (flat_map (λ s. s.messages) row)) (map of_message (trace_messages rows)))
      ∙ ap (sum_in E.ring) (sym (map-append of_message (flat_map (λ s. s.messages) row) (trace_messages rows)))

  -- the sum by nets is the sum of the quotients of all messages
  pub net_sum-messages : (messages : List (Message F)) → net_sum E denominator messages ≡ sum_in E.ring (map of_message messages)
  net_sum-messages messages =
      let same = same_key E.base_eq in
      let decides = same_key-Decides E.base_eq laws.base_eq in
      let ks = keys E.base_eq messages in
      let net_quotient = λ (key : Key F). quotient E denominator (net E.base E.base_eq messages key) key in
      sum_in-filter laws.ring net_quotient (λ key. not (E.base_eq (net E.base E.base_eq messages key) E.base.zero)) (λ key e. dropped key (net E.base E.base_eq messages key) e) ks
      ∙ regrouped E.base laws.ring same decides (λ m. m.key) (λ m. m.multiplicity) (λ key a. quotient E denominator a key) quotient-add quotient-zero ks (first_seen_separate same (map (λ m. m.key) messages)) messages (all_of_map (Holds same ks) (λ m. m.key) messages (first_seen_holds same decides (map (λ m. m.key) messages)))

  -- the terminal by nets is the sum of all fractions
  pub plain_terminal-sum : (rows : List (List (Sent F))) → plain_terminal E denominator rows ≡ sum_in E.ring (flat_map (λ row. map (plain_fraction E denominator) row) rows)
  plain_terminal-sum rows = net_sum-messages (trace_messages rows) ∙ sym (trace_sum rows)
