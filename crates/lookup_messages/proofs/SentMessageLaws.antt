-- Collected messages grow by lookups and rows, and the faults of flags by themselves.
use Rattle.std.proofs.Common.{◌≡◌, ℕ, ◌+◌, ◌<◌, Bool, true, None, Some, List, [], ◌∷◌, ◌++◌, length, take, drop, get_or, refl, sym, ap, ◌∙◌, arith}
use Rattle.std.proofs.Math.Seq.{take-append_seam}
use Rattle.std.proofs.lemmas.List.{append-nil, append_assoc, flat_map_more, length-take}
use Rattle.std.proofs.lemmas.List.FromFn.{get_or-map-range_with_len, length-map-range_with_len}
use Rattle.std.specs.List.{flat_map, slice_get}
use Rattle.list_laws.proofs.Items.{take_item, split_at}
use Rattle.field.specs.Ring.{Ring}
use Rattle.matrix.specs.Matrix.{height}
use Rattle.air.specs.Traces.{AirTraces, window_of}
use Rattle.lookup_model.specs.Fault.{are_boolean, flag_fault_of, set_indices}
use Rattle.lookup_model.specs.FlagFault.{row_flag_faults, sent_flag_fault, trace_flag_faults}
use Rattle.lookup_model.specs.Message.{Message}
use Rattle.lookup_model.specs.Sent.{Sent, chosen_branches}
use Rattle.lookup_model.specs.Trace.{sent_row_under, sent_rows_under}
use Rattle.lookup_model.specs.declared.error.LookupError.{LookupError}
use Rattle.lookup_model.specs.declared.types.Lookup.{Lookup}
use Rattle.lookup_model.proofs.Lookups.LookupFaults.{flags_faultless}
use Rattle.lookup_model.proofs.Lookups.Rows.{row_faults-none, trace_faults-first, trace_faults-none}
use Rattle.lookup_model.proofs.Lookups.Selections.{chosen_none, chosen_one}
use Rattle.lookup_messages.specs.SentMessages.{HasSentRow, HasSentRows, StayInFront, messages_of}
use Rattle.lookup_messages.specs.declared.messages.SentMessage.{SentMessage}

module _ {F : Type 0} (R : Ring F) (eq : F → F → Bool) (row column : ℕ) (branches : List (Message F)) (flags : List F) (boolean : are_boolean R eq flags ≡ true) where
  -- flags of which none is set choose nothing
  pub no_flag : set_indices R eq 0 flags ≡ [] → (chosen_branches R eq flags branches ≡ []) × (flag_fault_of R eq row column (Some flags) ≡ None)
  no_flag none = (
    chosen_none R eq 0 flags branches none,
    flags_faultless R eq row column flags boolean (omega (arith, ap length none)),
  )

  -- one set flag chooses its branch
  pub one_flag : (index : ℕ) (m : Message F) → set_indices R eq 0 flags ≡ index ∷ [] → index < length branches → m ≡ get_or branches index m → (chosen_branches R eq flags branches ≡ m ∷ []) × (flag_fault_of R eq row column (Some flags) ≡ None)
  one_flag index m one within is = (
    chosen_one R eq 0 index flags branches m (one ∙ ap (λ p. p ∷ []) (omega arith)) within is,
    flags_faultless R eq row column flags boolean (omega (arith, ap length one)),
  )

-- messages stay in front if nothing changes, and if more go behind them
module _ {F : Type 0} where
  pub in_front : (before after : List (SentMessage F)) → after ≡ before → StayInFront before after
  in_front before after same = ([], same ∙ sym (append-nil before))

  pub further_back : (before between after : List (SentMessage F)) → StayInFront before between → StayInFront between after → StayInFront before after
  further_back before between after first second = (first.0 ++ second.0, second.1 ∙ ap (λ t. t ++ second.0) first.1 ∙ append_assoc before first.0 second.0)

  -- without those behind them they are as they were
  pub cut_off : (before after rest : List (SentMessage F)) (n : ℕ) → StayInFront before after → n ≡ length before → rest ≡ take n after → rest ≡ before
  cut_off before after rest n front at is = is ∙ (λ i. take (at i) (front.1 i)) ∙ take-append_seam before front.0

module _ {F : Type 0} (R : Ring F) (eq : F → F → Bool) where
  -- nothing is collected of no lookups
  pub no_sent : (row : ℕ) (before : List (SentMessage F)) → HasSentRow R eq row before before []
  no_sent row before = record { messages = sym (append-nil (messages_of before)); faultless = refl }

  -- a row goes on by a lookup
  pub sent_more : (row column : ℕ) (before after longer : List (SentMessage F)) (sents : List (Sent F)) (next : Sent F) → length sents ≡ column
      → messages_of longer ≡ messages_of after ++ next.messages → flag_fault_of R eq row column next.flags ≡ None
      → HasSentRow R eq row before after sents → HasSentRow R eq row before longer (sents ++ next ∷ [])
  sent_more row column before after longer sents next at longer_is none so_far = record {
    messages =
        longer_is ∙ ap (λ t. t ++ next.messages) so_far.messages
        ∙ flat_map_more (λ (s : Sent F). s.messages) (messages_of before) sents next;
    faultless = row_faults-none (sent_flag_fault R eq) row column sents next at none so_far.faultless;
  }

  -- a trace goes on by a row
  pub rows_more : (row : ℕ) (before after longer : List (SentMessage F)) (rows : List (List (Sent F))) (next : List (Sent F)) → length rows ≡ row
      → HasSentRow R eq row after longer next → HasSentRows R eq before after rows → HasSentRows R eq before longer (rows ++ next ∷ [])
  rows_more row before after longer rows next at this so_far = record {
    messages =
        this.messages ∙ ap (λ t. t ++ flat_map (λ (s : Sent F). s.messages) next) so_far.messages
        ∙ flat_map_more (λ (r : List (Sent F)). flat_map (λ (s : Sent F). s.messages) r) (messages_of before) rows next;
    faultless = trace_faults-none (sent_flag_fault R eq) row rows next at this.faultless so_far.faultless;
  }

-- row r is what the window of row r sends
module _ {F : Type 0} (R : Ring F) (eq : F → F → Bool) (id : Lookup F → ℕ) (traces : AirTraces F) (lookups : List (Lookup F)) where
  abbrev all_rows : List (List (Sent F))
  all_rows = sent_rows_under R eq id traces lookups

  abbrev row_at : ℕ → List (Sent F)
  row_at k = sent_row_under R eq id (window_of traces k) lookups

  pub length-all_rows : length all_rows ≡ height traces.main
  length-all_rows = length-map-range_with_len row_at 0 (height traces.main)

  here : (r : ℕ) → r < height traces.main → row_at r ≡ get_or all_rows r (row_at r)
  here r lt = sym (get_or-map-range_with_len row_at 0 (height traces.main) r r (row_at r) lt (omega arith))

  pub length-take-rows : (r : ℕ) → r < height traces.main → length (take r all_rows) ≡ r
  length-take-rows r lt = omega (arith, length-take r all_rows, length-all_rows, lt)

  pub one_more_row : (r : ℕ) → r < height traces.main → take (r + 1) all_rows ≡ take r all_rows ++ row_at r ∷ []
  one_more_row r lt = take_item all_rows r (row_at r) (omega (arith, length-all_rows, lt)) (here r lt)

  -- where its flags have a fault, the first one of it is the first one of the trace
  pub first_row_fault : (r : ℕ) → r < height traces.main → (e : LookupError) → trace_flag_faults R eq (take r all_rows) ≡ [] → slice_get (row_flag_faults R eq r (row_at r)) 0 ≡ Some e → slice_get (trace_flag_faults R eq all_rows) 0 ≡ Some e
  first_row_fault r lt e so_far fault =
      ap (λ t. slice_get (trace_flag_faults R eq t) 0) (split_at all_rows r (row_at r) (omega (arith, length-all_rows, lt)) (here r lt))
      ∙ trace_faults-first (sent_flag_fault R eq) r (take r all_rows) (drop (r + 1) all_rows) (row_at r) e (length-take-rows r lt) fault so_far
