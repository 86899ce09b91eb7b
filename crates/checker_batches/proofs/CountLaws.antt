-- The counts of a batch: its messages AIR by AIR, and the bound of bad betas.
use Rattle.std.proofs.Common.{◌≡◌, ℕ, Bool, ◌+◌, ◌-◌, ◌*◌, ◌/◌, ◌^◌, ◌<◌, ◌≤◌, inl, inr, Option, None, Some, Result, Ok, Err, IfOk, List, [], ◌++◌, length, get_or, sym, ap, subst, ◌∙◌, arith, mul_comm}
use Rattle.std.proofs.lemmas.Bool.{cases_lt}
use Rattle.std.proofs.lemmas.List.{take_all}
use Rattle.std.proofs.lemmas.Option.{slice_get_within}
use Rattle.std.specs.List.{slice_get}
use Rattle.list_laws.proofs.Items.{holds_next, item_there}
use Rattle.list_laws.proofs.Parts.{flat_next}
use Rattle.std.specs.Option.{SomeIff}
use Rattle.field.specs.Ring.{Ring}
use Rattle.lookup_model.specs.Plain.{trace_messages}
use Rattle.lookup_messages.specs.SentMessages.{HasSentRows, messages_of}
use Rattle.lookup_messages.specs.declared.messages.SentMessage.{SentMessage}
use Rattle.lookup_model.specs.Batches.FlagFaults.{instance_flag_faults}
use Rattle.lookup_model.specs.Batches.Instances.{Instance}
use Rattle.lookup_model.specs.Batches.Messages.{batch_messages, sent_rows_of}
use Rattle.lookup_model.proofs.Counting.SharingBetas.{half_of, half_product, number_of_pairs}
use Rattle.checker_batches.specs.internal.Collected.{HasMessages}

module _ {F : Type 0} (R : Ring F) (eq : F → F → Bool) (instances : List (Instance F)) where
  -- one more AIR
  pub messages_more : (n : ℕ) (before after : List (SentMessage F)) (instance : Instance F) → n < length instances → instance ≡ get_or instances n instance
      → HasSentRows R eq before after (sent_rows_of R eq instance) → HasMessages R eq instances n before → HasMessages R eq instances (n + 1) after
  messages_more n before after instance lt is this so_far = record {
    messages_are = this.messages ∙ ap (λ t. t ++ trace_messages (sent_rows_of R eq instance)) so_far.messages_are ∙ sym (flat_next (λ i. trace_messages (sent_rows_of R eq i)) instances n instance lt is);
    faultless = holds_next (λ i. instance_flag_faults R eq i ≡ []) instances n instance (item_there instances n instance lt is) this.faultless so_far.faultless;
  }

  -- when all are done
  pub all_messages : (n : ℕ) (messages : List (SentMessage F)) → HasMessages R eq instances n messages → length instances ≤ n
      → (messages_of messages ≡ batch_messages R eq instances) × ((i : ℕ) (other : Instance F) → slice_get instances i ≡ Some other → instance_flag_faults R eq other ≡ [])
  all_messages n messages has done = (
    has.messages_are ∙ ap (batch_messages R eq) (take_all n instances done),
    λ i other is. has.faultless i other (omega (arith, slice_get_within instances i other is, done)) is,
  )

-- the bound of bad betas is W for each pair of unbalanced keys
pub bound_is : (W k : ℕ) → W * k * (k - 1) / 2 ≡ (k * (k - 1) / 2) * W
bound_is W k =
    let pairs = number_of_pairs k in
    half_product W k pairs.0 pairs.1 ∙ mul_comm W pairs.0 ∙ ap (λ q. q * W) (sym (half_of k pairs.0 pairs.1))

-- what a checked product answers, as that bound
pub bound_fits : (W k s b : ℕ) (P : Type 0) (o : Option ℕ) → o ≡ Some b → s ≡ k - 1 → SomeIff o P ((k * s / 2) * W) → b ≡ W * k * (k - 1) / 2
bound_fits W k s b P None is less said = absurd (cc is)
bound_fits W k s b P (Some x) is less said =
    let same : x ≡ b = cc is in
    sym same ∙ said.1 ∙ ap (λ t. (k * t / 2) * W) less ∙ sym (bound_is W k)

pub bound_is_large : (W k s : ℕ) (o : Option ℕ) → o ≡ None → s ≡ k - 1 → SomeIff o ((k * s / 2) * W < 2 ^ 128) ((k * s / 2) * W) → 2 ^ 128 ≤ W * k * (k - 1) / 2
bound_is_large W k s (Some x) is less said = absurd (cc is)
bound_is_large W k s None is less said =
    subst (λ (n : ℕ). 2 ^ 128 ≤ n) (sym (bound_is W k ∙ ap (λ t. (k * t / 2) * W) (sym less))) (elim (cases_lt ((k * s / 2) * W) (2 ^ 128)) [ inl small ↦ absurd (said small) | inr le ↦ le ])

-- what holds anyway holds of a success
pub if_ok : {A B P : Type 0} (r : Result A B) → P → IfOk r (λ _. P)
if_ok (Ok a) p = p
if_ok (Err b) p = tt
