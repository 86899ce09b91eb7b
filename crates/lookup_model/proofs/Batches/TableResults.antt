-- The lookups of an AIR over the challenges of its columns, and under the ids of a table: their results
-- and faults are the same.
use Rattle.std.proofs.Common.{◌≡◌, ℕ, zero, suc, ◌+◌, ◌*◌, ◌<◌, Option, None, Some, List, [], ◌∷◌, length, map, get_or, refl, ap, ◌∙◌, arith, ◌⊎◌, inl, inr, Result, Ok, Err, MatchResult, sym}
use Rattle.std.specs.List.{AllZip, filter, range_with_len, zip, slice_get}
use Rattle.std.specs.declared.alloc.Global.{Global}
use Rattle.std.specs.declared.vec.Vec.{Vec}
use Rattle.list_laws.proofs.Zips.{AllZip-filter, AllZip-images, AllZip-of_one, AllZip-weaker, AllZip-zip}
use Rattle.list_laws.proofs.Each.{all_indexed, each_of}
use Rattle.field.specs.Extension.{Extension, IsLawful}
use Rattle.matrix.specs.Matrix.{height, Matrix}
use Rattle.air_expressions.specs.Window.{Window}
use Rattle.air_expressions.specs.declared.base_expression.SymbolicExpression.{SymbolicExpression}
use Rattle.air.specs.Traces.{window_of}
use Rattle.lookup_model.specs.Denominators.{key_denominator, tuple_denominator}
use Rattle.lookup_model.specs.Message.{Key, Message}
use Rattle.lookup_model.specs.Sent.{branch_at, chosen_branches, flags_at, sent, sent_at, Sent}
use Rattle.lookup_model.specs.declared.types.Lookup.{Lookup}
use Rattle.lookup_model.specs.Batches.Instances.{Instance, IsFitting}
use Rattle.lookup_model.specs.Batches.Messages.{id_of, sent_rows_of}
use Rattle.lookup_model.specs.Challenges.{ChallengeTable, column_challenges, table_key_denominator}
use Rattle.lookup_model.specs.Trace.{sent_row, sent_row_under, sent_rows}
use Rattle.lookup_model.specs.Fault.{trace_faults}
use Rattle.lookup_model.specs.Generated.{plain_matrix, plain_terminal_of}
use Rattle.lookup_model.specs.Witness.{IsSatisfied}
use Rattle.lookup_model.specs.declared.error.LookupError.{LookupError}
use Rattle.lookup_model.specs.declared.error.LookupError.TheVariants.{Memory}
use Rattle.lookup_model.specs.declared.types.LookupTerminal.{LookupTerminal}
use Rattle.lookup_model.specs.Batches.Faults.{instance_faults}
use Rattle.lookup_model.specs.Batches.Witnesses.{IsSatisfiedAt, plain_result}
use Rattle.lookup_model.proofs.Lookups.SentRows.{column_is}
use Rattle.lookup_model.proofs.Batches.Rekeyed.{AreRekeyed, AreRowsSameUpToKeys, IsRekeyed, SameUpToKeys, same_faults, same_matrix, same_terminal_of}

module _ {K : Type 0} (table : ChallengeTable K) (d : K) where
  -- the challenges of a column are the prefix of its id, and beta
  pub alpha_at : (ids : List ℕ) (c : ℕ) → c < length ids → get_or (column_challenges table ids) (2 * c) d ≡ table.prefix (get_or ids c 0)
  alpha_at [] c lt = absurd (omega (arith, lt))
  alpha_at (id ∷ ids) zero lt = refl
  alpha_at (id ∷ ids) (suc c) lt =
      let two : 2 * suc c ≡ suc (suc (2 * c)) = omega arith in
      ap (λ i. get_or (column_challenges table (id ∷ ids)) i d) two ∙ alpha_at ids c (omega (arith, lt))

  pub beta_at : (ids : List ℕ) (c : ℕ) → c < length ids → get_or (column_challenges table ids) (2 * c + 1) d ≡ table.beta
  beta_at [] c lt = absurd (omega (arith, lt))
  beta_at (id ∷ ids) zero lt = refl
  beta_at (id ∷ ids) (suc c) lt =
      let two : 2 * suc c + 1 ≡ suc (suc (2 * c + 1)) = omega arith in
      ap (λ i. get_or (column_challenges table (id ∷ ids)) i d) two ∙ beta_at ids c (omega (arith, lt))

module _ {F K : Type 0} {E : Extension F K} (laws : IsLawful E) (table : ChallengeTable K) (instance : Instance F) (fitting : IsFitting instance) where
  abbrev challenges : List K
  challenges = column_challenges table instance.ids

  abbrev pub column_den : Key F → K
  column_den = key_denominator E challenges

  abbrev pub table_den : Key F → K
  table_den = table_key_denominator E table

  abbrev Branches : Type 0
  Branches = List (Vec (SymbolicExpression F) Global × SymbolicExpression F)

  module _ (w : Window F) (c id : ℕ) (same : (tuple : List F) → column_den (record { id = c; tuple = tuple }) ≡ table_den (record { id = id; tuple = tuple })) where
    abbrev by_column : Vec (SymbolicExpression F) Global × SymbolicExpression F → Message F
    by_column b = branch_at E.base w c b.0.items b.1

    abbrev by_id : Vec (SymbolicExpression F) Global × SymbolicExpression F → Message F
    by_id b = branch_at E.base w id b.0.items b.1

    rekeyed_all : (zs : Branches) → AreRekeyed laws column_den table_den (map by_column zs) (map by_id zs)
    rekeyed_all zs = AllZip-of_one (IsRekeyed laws column_den table_den) by_column by_id zs (each_of _ (λ z. (refl, same (by_id z).key.tuple)) zs)

    rekeyed_chosen : (fs : List F) (zs : Branches) → AreRekeyed laws column_den table_den (chosen_branches E.base E.base_eq fs (map by_column zs)) (chosen_branches E.base E.base_eq fs (map by_id zs))
    rekeyed_chosen fs zs =
        let Flagged = λ (p q : F × Message F). (p.0 ≡ q.0) × IsRekeyed laws column_den table_den p.1 q.1 in
        let is_set = λ (q : F × Message F). E.base_eq q.0 E.base.one in
        let ps = zip fs (map by_column zs) in
        let qs = zip fs (map by_id zs) in
        AllZip-images (IsRekeyed laws column_den table_den) (λ q. q.1) (λ q. q.1) (filter is_set ps) (filter is_set qs)
        (AllZip-weaker Flagged (λ p q. IsRekeyed laws column_den table_den p.1 q.1) (λ p q e. e.1) (filter is_set ps) (filter is_set qs)
        (AllZip-filter Flagged is_set is_set (λ p q e. ap (λ f. E.base_eq f E.base.one) e.0) ps qs (AllZip-zip (IsRekeyed laws column_den table_den) fs (map by_column zs) (map by_id zs) (rekeyed_all zs))))

    alike_sent : (flags : Option (List F)) (zs : Branches) → SameUpToKeys laws column_den table_den (sent E.base E.base_eq flags (map by_column zs)) (sent E.base E.base_eq flags (map by_id zs))
    alike_sent None zs = (refl, rekeyed_all zs)
    alike_sent (Some fs) zs = (refl, rekeyed_chosen fs zs)

  alike_row : (w : Window F) → AllZip (SameUpToKeys laws column_den table_den) (sent_row E.base E.base_eq w instance.lookups) (sent_row_under E.base E.base_eq (id_of instance.ids) w instance.lookups)
  alike_row w =
      AllZip-of_one (SameUpToKeys laws column_den table_den) (λ lookup. sent_at E.base E.base_eq w lookup.column lookup) (λ lookup. sent_at E.base E.base_eq w (id_of instance.ids lookup) lookup) instance.lookups
      (all_indexed (λ lookup. SameUpToKeys laws column_den table_den (sent_at E.base E.base_eq w lookup.column lookup) (sent_at E.base E.base_eq w (id_of instance.ids lookup) lookup)) instance.lookups each)
    where
      each : (k : ℕ) (lookup : Lookup F) → k < length instance.lookups → lookup ≡ get_or instance.lookups k lookup → SameUpToKeys laws column_den table_den (sent_at E.base E.base_eq w lookup.column lookup) (sent_at E.base E.base_eq w (id_of instance.ids lookup) lookup)
      each k lookup below is =
          let within : lookup.column < length instance.ids = omega (arith, column_is instance.lookups k lookup fitting.fit.records below is, below, fitting.ids) in
          alike_sent w lookup.column (id_of instance.ids lookup)
          (λ tuple i. tuple_denominator E (alpha_at table E.ring.zero instance.ids lookup.column within i) (beta_at table E.ring.zero instance.ids lookup.column within i) tuple)
          (flags_at E.base w lookup) (zip lookup.elements.items lookup.multiplicities.items)

  -- the rows by columns are the rows by ids
  pub alike_rows : AreRowsSameUpToKeys laws column_den table_den (sent_rows E.base E.base_eq instance.traces instance.lookups) (sent_rows_of E.base E.base_eq instance)
  alike_rows =
      let window = λ (r : ℕ). window_of instance.traces r in
      AllZip-of_one (AllZip (SameUpToKeys laws column_den table_den)) (λ r. sent_row E.base E.base_eq (window r) instance.lookups) (λ r. sent_row_under E.base E.base_eq (id_of instance.ids) (window r) instance.lookups) (range_with_len 0 (height instance.traces.main))
      (each_of (λ r. AllZip (SameUpToKeys laws column_den table_den) (sent_row E.base E.base_eq (window r) instance.lookups) (sent_row_under E.base E.base_eq (id_of instance.ids) (window r) instance.lookups)) (λ r. alike_row (window r)) (range_with_len 0 (height instance.traces.main)))

module _ {F K : Type 0} {E : Extension F K} (laws : IsLawful E) (table : ChallengeTable K) (instance : Instance F) (fitting : IsFitting instance) where
  abbrev cold : List K → Key F → K
  cold challenges = key_denominator E challenges

  abbrev rows : List (List (Sent F))
  rows = sent_rows E.base E.base_eq instance.traces instance.lookups

  abbrev pub ByColumns : List K → Result (Matrix K × Option (LookupTerminal K)) LookupError → Type 0
  ByColumns challenges result = MatchResult result
      (λ r. (r.0 ≡ plain_matrix E (cold challenges) instance.lookups rows) × (r.1 ≡ plain_terminal_of E (cold challenges) instance.lookups rows)
      × (trace_faults E (cold challenges) rows ≡ []) × IsSatisfied E instance.traces instance.lookups challenges r.0 r.1)
      (λ e. (e ≡ Memory) ⊎ (slice_get (trace_faults E (cold challenges) rows) 0 ≡ Some e))

  pub by_table : (result : Result (Matrix K × Option (LookupTerminal K)) LookupError) → ByColumns (column_challenges table instance.ids) result → MatchResult result
      (λ r. (r ≡ plain_result E table instance) × IsSatisfiedAt E table instance r × (instance_faults E table instance ≡ []))
      (λ e. (e ≡ Memory) ⊎ (slice_get (instance_faults E table instance) 0 ≡ Some e))
  by_table (Ok (auxiliary, terminal)) (matrix_is, terminal_is, none, satisfied) =
      let alike = alike_rows laws table instance fitting in
      let c = cold (column_challenges table instance.ids) in
      let d = table_key_denominator E table in (
        (λ i. ((matrix_is ∙ same_matrix laws c d instance.lookups rows (sent_rows_of E.base E.base_eq instance) alike) i, (terminal_is ∙ same_terminal_of laws c d instance.lookups rows (sent_rows_of E.base E.base_eq instance) alike) i)),
        satisfied,
        sym (same_faults laws c d rows (sent_rows_of E.base E.base_eq instance) alike) ∙ none,
      )
  by_table (Err e) (inl memory) = inl memory
  by_table (Err e) (inr fault) =
      inr (ap (λ fs. slice_get fs 0) (sym (same_faults laws (cold (column_challenges table instance.ids)) (table_key_denominator E table) rows (sent_rows_of E.base E.base_eq instance) (alike_rows laws table instance fitting))) ∙ fault)
