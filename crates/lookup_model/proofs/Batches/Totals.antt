-- The terminals of a batch, by the nets of all its messages.
use Rattle.std.proofs.Common.{◌≡◌, not, List, [], ◌∷◌, ◌++◌, map, refl, sym, ap, ◌∙◌}
use Rattle.std.proofs.lemmas.List.{map-append}
use Rattle.std.specs.List.{flat_map, range_with_len}
use Rattle.list_laws.proofs.Each.{all_images, each_of}
use Rattle.list_laws.proofs.Images.{filter_none}
use Rattle.list_laws.proofs.Parts.{nothing_flat}
use Rattle.field.specs.Sums.{sum_in}
use Rattle.matrix.specs.Matrix.{height}
use Rattle.air.specs.Traces.{window_of}
use Rattle.lookup_model.specs.Generated.{plain_terminal_of}
use Rattle.field.specs.Extension.{Extension, IsLawful}
use Rattle.lookup_model.specs.Message.{Key, Message}
use Rattle.lookup_model.specs.Net.{IsBalanced, keys, net}
use Rattle.lookup_model.specs.Plain.{net_sum, quotient, trace_messages}
use Rattle.lookup_model.specs.Sent.{Sent}
use Rattle.lookup_model.proofs.SumLaws.{sum_in-append}
use Rattle.lookup_model.specs.Terminals.{terminal_sum, terminal_value}
use Rattle.lookup_model.specs.declared.types.Lookup.{Lookup}
use Rattle.lookup_model.proofs.Lookups.Terminals.{net_sum-messages}
use Rattle.lookup_model.specs.Batches.Instances.{Instance}
use Rattle.lookup_model.specs.Batches.Messages.{batch_messages, id_of, sent_rows_of}
use Rattle.lookup_model.specs.Batches.Witnesses.{plain_result, plain_witness}
use Rattle.lookup_model.specs.Challenges.{ChallengeTable, table_key_denominator}
use Rattle.lookup_model.specs.Trace.{sent_row_under}

module _ {F K : Type 0} {E : Extension F K} (laws : IsLawful E) (denominator : Key F → K) where
  abbrev of_message : Message F → K
  of_message m = quotient E denominator m.multiplicity m.key

  -- the sum of the quotients of all messages
  abbrev pub message_sum : List (Message F) → K
  message_sum ms = sum_in E.ring (map of_message ms)

  pub message_sum-append : (ms ns : List (Message F)) → message_sum (ms ++ ns) ≡ E.ring.add (message_sum ms) (message_sum ns)
  message_sum-append ms ns = ap (sum_in E.ring) (map-append of_message ms ns) ∙ sum_in-append laws.ring (map of_message ms) (map of_message ns)

  -- messages that balance sum to zero
  pub balanced_sum : (ms : List (Message F)) → IsBalanced E.base E.base_eq ms → net_sum E denominator ms ≡ E.ring.zero
  balanced_sum ms balanced =
      let net_of = net E.base E.base_eq ms in
      ap (λ ks. sum_in E.ring (map (λ key. quotient E denominator (net_of key) key) ks))
      (filter_none (λ key. not (E.base_eq (net_of key) E.base.zero)) (keys E.base_eq ms) (each_of _ (λ key. ap not ((laws.base_eq (net_of key) E.base.zero).1 (balanced key))) (keys E.base_eq ms)))

module _ {F K : Type 0} {E : Extension F K} (laws : IsLawful E) (table : ChallengeTable K) where
  abbrev den : Key F → K
  den = table_key_denominator E table

  abbrev messages_of : Instance F → List (Message F)
  messages_of instance = trace_messages (sent_rows_of E.base E.base_eq instance)

  -- the terminal of an AIR, zero without lookups
  pub terminal_is : (instance : Instance F) → terminal_value E.ring (plain_result E table instance).1 ≡ message_sum laws den (messages_of instance)
  terminal_is instance = by_lookups instance.lookups
    where
      rows : List (Lookup F) → List (List (Sent F))
      rows ls = map (λ r. sent_row_under E.base E.base_eq (id_of instance.ids) (window_of instance.traces r) ls) (range_with_len 0 (height instance.traces.main))

      by_lookups : (ls : List (Lookup F)) → terminal_value E.ring (plain_terminal_of E (table_key_denominator E table) ls (rows ls)) ≡ message_sum laws den (trace_messages (rows ls))
      by_lookups [] = sym (ap (message_sum laws den) (nothing_flat (λ row. flat_map (λ s. s.messages) row) (rows []) (all_images _ (λ r. []) (range_with_len 0 (height instance.traces.main)) (each_of _ (λ r. refl) (range_with_len 0 (height instance.traces.main))))))
      by_lookups (l ∷ ls) = net_sum-messages laws den (trace_messages (rows (l ∷ ls)))

  -- the terminals of the plain witness sum to the net sum of all messages
  pub plain_total : (instances : List (Instance F)) → terminal_sum E.ring (map (λ w. w.1) (plain_witness E table instances)) ≡ message_sum laws den (batch_messages E.base E.base_eq instances)
  plain_total [] = refl
  plain_total (instance ∷ instances) =
      (λ i. E.ring.add (terminal_is instance i) (plain_total instances i))
      ∙ sym (message_sum-append laws den (messages_of instance) (batch_messages E.base E.base_eq instances))

  pub plain_total-nets : (instances : List (Instance F)) → terminal_sum E.ring (map (λ w. w.1) (plain_witness E table instances)) ≡ net_sum E den (batch_messages E.base E.base_eq instances)
  plain_total-nets instances = plain_total instances ∙ sym (net_sum-messages laws den (batch_messages E.base E.base_eq instances))

  -- balanced messages have terminals that sum to zero
  pub balanced_total : (instances : List (Instance F)) → IsBalanced E.base E.base_eq (batch_messages E.base E.base_eq instances) → terminal_sum E.ring (map (λ w. w.1) (plain_witness E table instances)) ≡ E.ring.zero
  balanced_total instances balanced = plain_total-nets instances ∙ balanced_sum laws den (batch_messages E.base E.base_eq instances) balanced
