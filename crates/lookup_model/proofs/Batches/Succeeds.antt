-- Where flags are lawful and no denominator vanishes there is no fault.
use Rattle.std.proofs.Common.{◌≡◌, ◌≢◌, ℕ, zero, suc, ◌+◌, None, Some, List, [], ◌∷◌, ◌++◌, refl, sym, ap, ◌∙◌}
use Rattle.std.specs.List.{AllByRecursion, cons_option, enumerate_from, filter_map, flat_map, slice_get}
use Rattle.list_laws.proofs.Each.{all_front, all_back}
use Rattle.field.specs.Extension.{Extension, IsLawful}
use Rattle.lookup_model.specs.Fault.{fault_of, row_faults, trace_faults}
use Rattle.lookup_model.specs.Message.{Key, Message}
use Rattle.lookup_model.specs.Plain.{trace_messages}
use Rattle.lookup_model.specs.Sent.{Sent}
use Rattle.lookup_model.specs.declared.error.LookupError.{LookupError}
use Rattle.lookup_model.specs.Batches.Faults.{instance_faults}
use Rattle.lookup_model.specs.Batches.Instances.{Instance}
use Rattle.lookup_model.specs.Batches.Messages.{AreFlagsLawful, HasLawfulFlags, NoneVanishes, batch_messages, sent_rows_of}
use Rattle.lookup_model.specs.Challenges.{ChallengeTable, table_key_denominator}
use Rattle.lookup_model.proofs.Batches.OnlyWitness.{no_fault}

module _ {F K : Type 0} {E : Extension F K} (laws : IsLawful E) (denominator : Key F → K) where
  no_row_faults : (row index : ℕ) (sents : List (Sent F)) → AllByRecursion (HasLawfulFlags E.base E.base_eq) sents → NoneVanishes E denominator (flat_map (λ s. s.messages) sents) → filter_map (λ p. fault_of E denominator row p.0 p.1) (enumerate_from index sents) ≡ []
  no_row_faults row index [] lawful none = refl
  no_row_faults row index (s ∷ ss) lawful none =
      let Nonzero = λ (m : Message F). denominator m.key ≢ E.ring.zero in
      let rest = flat_map (λ (t : Sent F). t.messages) ss in
      λ i. cons_option (no_fault laws denominator row index s lawful.0 (all_front Nonzero s.messages rest none) i) (no_row_faults row (index + 1) ss lawful.1 (all_back Nonzero s.messages rest none) i)

  no_faults_from : (index : ℕ) (rows : List (List (Sent F))) → AllByRecursion (AllByRecursion (HasLawfulFlags E.base E.base_eq)) rows → NoneVanishes E denominator (trace_messages rows) → flat_map (λ p. row_faults E denominator p.0 p.1) (enumerate_from index rows) ≡ []
  no_faults_from index [] lawful none = refl
  no_faults_from index (row ∷ rows) lawful none =
      let Nonzero = λ (m : Message F). denominator m.key ≢ E.ring.zero in
      let here = flat_map (λ (t : Sent F). t.messages) row in
      λ i. no_row_faults index 0 row lawful.0 (all_front Nonzero here (trace_messages rows) none) i ++ no_faults_from (index + 1) rows lawful.1 (all_back Nonzero here (trace_messages rows) none) i

  pub no_faults : (rows : List (List (Sent F))) → AllByRecursion (AllByRecursion (HasLawfulFlags E.base E.base_eq)) rows → NoneVanishes E denominator (trace_messages rows) → trace_faults E denominator rows ≡ []
  no_faults rows lawful none = no_faults_from 0 rows lawful none

module _ {F K : Type 0} {E : Extension F K} (laws : IsLawful E) (table : ChallengeTable K) where
  -- no AIR of such a batch has a fault
  pub none_faulty : (instances : List (Instance F)) → AreFlagsLawful E.base E.base_eq instances → NoneVanishes E (table_key_denominator E table) (batch_messages E.base E.base_eq instances)
      → (index : ℕ) (instance : Instance F) (e : LookupError) → slice_get instances index ≡ Some instance → slice_get (instance_faults E table instance) 0 ≡ Some e → ⊥
  none_faulty [] lawful none index instance e there fault = cc there
  none_faulty (i ∷ is) lawful none zero instance e there fault =
      let Nonzero = λ (m : Message F). table_key_denominator E table m.key ≢ E.ring.zero in
      let same : i ≡ instance = cc there in
      let empty : instance_faults E table i ≡ [] = no_faults laws (table_key_denominator E table) (sent_rows_of E.base E.base_eq i) lawful.0 (all_front Nonzero (trace_messages (sent_rows_of E.base E.base_eq i)) (batch_messages E.base E.base_eq is) none) in
      let gone : slice_get (instance_faults E table instance) 0 ≡ None = ap (λ fs. slice_get fs 0) (ap (instance_faults E table) (sym same) ∙ empty) in
      cc (gone, fault)
  none_faulty (i ∷ is) lawful none (suc index) instance e there fault =
      let Nonzero = λ (m : Message F). table_key_denominator E table m.key ≢ E.ring.zero in
      none_faulty is lawful.1 (all_back Nonzero (trace_messages (sent_rows_of E.base E.base_eq i)) (batch_messages E.base E.base_eq is) none) index instance e there fault
