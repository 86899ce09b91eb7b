-- What packing keeps of the AIRs of a batch holds of the whole batch.
use Rattle.std.proofs.Common.{◌≡◌, ◌≢◌, ◌⊎◌, inl, inr, Bool, List, [], ◌∷◌, sym, subst, ◌∙◌}
use Rattle.std.proofs.lemmas.List.Elements.{All-from_recursion, recursion_from_All}
use Rattle.std.proofs.lemmas.List.Sorted.{All-permutation, IsPermutation-append, IsPermutation-refl, length_permutation}
use Rattle.std.specs.List.{AllByRecursion, AllZip, range_with_len}
use Rattle.std.specs.List.Sorted.{IsPermutation}
use Rattle.list_laws.proofs.Each.{all_images, all_of_map, all_weaker}
use Rattle.field.specs.Ring.{Ring}
use Rattle.air.specs.Traces.{AirTraces, height_of, window_of}
use Rattle.lookup_model.specs.Challenges.{ChallengeTable, table_key_denominator}
use Rattle.field.specs.Extension.{Extension, IsLawful}
use Rattle.lookup_model.specs.Message.{Message}
use Rattle.lookup_model.specs.Plain.{quotient, trace_messages}
use Rattle.lookup_model.specs.Terminals.{terminal_value}
use Rattle.lookup_model.specs.Trace.{sent_row_under, sent_rows_under}
use Rattle.lookup.proofs.KeptLaws.{trace_kept}
use Rattle.lookup.proofs.RearrangedSums.{sum_in-permutation}
use Rattle.lookup.proofs.SameKeys.{keys-permutation}
use Rattle.lookup_model.specs.Batches.Instances.{Instance, IsFitting}
use Rattle.lookup_model.specs.Batches.Messages.{AreFlagsLawful, HasLawfulFlags, NoneVanishes, batch_messages, id_of, sent_rows_of}
use Rattle.lookup_model.specs.Batches.Witnesses.{AirResult, plain_witness}
use Rattle.lookup_model.proofs.Batches.OnlyWitness.{only_witness}
use Rattle.lookup_model.proofs.Batches.Totals.{terminal_is}
use Rattle.checker_batches.specs.Packed.{ArePacked, IsPacked, KeepsCounts, KeepsTerminals}

module _ {F : Type 0} (R : Ring F) (eq : F → F → Bool) where
  -- an AIR sends the messages of before, in some order
  one_kept : (before after : Instance F) → (after ≡ before) ⊎ IsPacked R eq before after → IsPermutation (trace_messages (sent_rows_of R eq before)) (trace_messages (sent_rows_of R eq after))
  one_kept before after (inl same) =
      subst (λ (i : Instance F). IsPermutation (trace_messages (sent_rows_of R eq before)) (trace_messages (sent_rows_of R eq i))) (sym same) (IsPermutation-refl (trace_messages (sent_rows_of R eq before)))
  one_kept before after (inr packed) =
      let Same : AirTraces F → Type 0 = λ traces.
      IsPermutation (trace_messages (sent_rows_of R eq before)) (trace_messages (sent_rows_under R eq (id_of after.ids) traces after.lookups)) in
      subst Same (sym packed.traces) (trace_kept R eq before.lookups after.lookups packed.messages (id_of before.ids) (id_of after.ids) packed.ids before.traces)

  -- so does the whole batch
  batch_kept : (before after : List (Instance F)) → ArePacked R eq before after → IsPermutation (batch_messages R eq before) (batch_messages R eq after)
  batch_kept [] [] packed = IsPermutation-refl []
  batch_kept (b ∷ bs) (a ∷ later) packed = IsPermutation-append _ _ _ _ (one_kept b a packed.0) (batch_kept bs later packed.1)
  batch_kept before after packed = absurd packed

  -- lawful flags of an AIR stay lawful
  flags_kept : (before after : Instance F) → (after ≡ before) ⊎ IsPacked R eq before after
      → AllByRecursion (AllByRecursion (HasLawfulFlags R eq)) (sent_rows_of R eq before) → AllByRecursion (AllByRecursion (HasLawfulFlags R eq)) (sent_rows_of R eq after)
  flags_kept before after (inl same) lawful =
      subst (λ (i : Instance F). AllByRecursion (AllByRecursion (HasLawfulFlags R eq)) (sent_rows_of R eq i)) (sym same) lawful
  flags_kept before after (inr packed) lawful =
      let Lawful : AirTraces F → Type 0 = λ traces.
      AllByRecursion (AllByRecursion (HasLawfulFlags R eq)) (sent_rows_under R eq (id_of after.ids) traces after.lookups) in
      let rows = range_with_len 0 (height_of before.traces) in
      subst Lawful (sym packed.traces) (all_images (AllByRecursion (HasLawfulFlags R eq)) (λ r. sent_row_under R eq (id_of after.ids) (window_of before.traces r) after.lookups) rows
      (all_weaker _ _ (λ r. packed.flags (id_of before.ids) (id_of after.ids) (window_of before.traces r)) rows
      (all_of_map (AllByRecursion (HasLawfulFlags R eq)) (λ r. sent_row_under R eq (id_of before.ids) (window_of before.traces r) before.lookups) rows lawful)))

  -- so do those of the whole batch
  all_flags_kept : (before after : List (Instance F)) → ArePacked R eq before after → AreFlagsLawful R eq before → AreFlagsLawful R eq after
  all_flags_kept [] [] packed lawful = tt
  all_flags_kept (b ∷ bs) (a ∷ later) packed lawful = (flags_kept b a packed.0 lawful.0, all_flags_kept bs later packed.1 lawful.1)
  all_flags_kept before after packed lawful = absurd packed

module _ {F K : Type 0} {E : Extension F K} (laws : IsLawful E) where
  -- the counts stay
  pub kept_counts : (before after : List (Instance F)) → ArePacked E.base E.base_eq before after → KeepsCounts E before after
  kept_counts before after packed =
      let same = keys-permutation laws.base E.base_eq laws.base_eq (batch_messages E.base E.base_eq before) (batch_messages E.base E.base_eq after) (batch_kept E.base E.base_eq before after packed) in record {
        messages = length_permutation _ _ same.all;
        unbalanced = length_permutation _ _ same.unbalanced;
      }

  module _ (table : ChallengeTable K) where
    -- the plain terminal of each AIR stays
    plain_kept : (before after : List (Instance F)) → ArePacked E.base E.base_eq before after
        → AllZip (λ r s. terminal_value E.ring s.1 ≡ terminal_value E.ring r.1) (plain_witness E table before) (plain_witness E table after)
    plain_kept [] [] packed = tt
    plain_kept (b ∷ bs) (a ∷ later) packed = (
      terminal_is laws table a
          ∙ sum_in-permutation laws.ring (λ (m : Message F). quotient E (table_key_denominator E table) m.multiplicity m.key) _ _ (one_kept E.base E.base_eq b a packed.0)
          ∙ sym (terminal_is laws table b),
      plain_kept bs later packed.1,
    )
    plain_kept before after packed = absurd packed

    -- no denominator of the packed batch vanishes
    none_kept : (before after : List (Instance F)) → ArePacked E.base E.base_eq before after → NoneVanishes E (table_key_denominator E table) (batch_messages E.base E.base_eq before) → NoneVanishes E (table_key_denominator E table) (batch_messages E.base E.base_eq after)
    none_kept before after packed none =
        let Nonzero = λ (m : Message F). table_key_denominator E table m.key ≢ E.ring.zero in
        recursion_from_All Nonzero _ (All-permutation Nonzero _ _ (batch_kept E.base E.base_eq before after packed) (All-from_recursion Nonzero _ none))

  -- the terminals stay
  pub kept_terminals : (before after : List (Instance F)) → AllByRecursion IsFitting before → AllByRecursion IsFitting after → ArePacked E.base E.base_eq before after → KeepsTerminals E before after
  kept_terminals before after fitting fitting_after packed table regular witness other satisfied satisfied_after =
      let lawful : AreFlagsLawful E.base E.base_eq after = all_flags_kept E.base E.base_eq before after packed regular.flags in
      let first : witness ≡ plain_witness E table before = only_witness laws table before fitting regular.flags regular.denominators witness satisfied in
      let second : other ≡ plain_witness E table after = only_witness laws table after fitting_after lawful (none_kept table before after packed regular.denominators) other satisfied_after in
      let Same = λ (r s : AirResult K). terminal_value E.ring s.1 ≡ terminal_value E.ring r.1 in
      subst (λ (w : List (AirResult K)). AllZip Same w other) (sym first) (subst (λ (w : List (AirResult K)). AllZip Same (plain_witness E table before) w) (sym second) (plain_kept table before after packed))
