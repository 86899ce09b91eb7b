-- Why there is no plan of a memory check.
use Rattle.std.proofs.Common.{◌≡◌, ◌≤◌, ◌⊎◌, inl, inr, ℕ, List, [], ◌∷◌, Result, Ok, Err, IfErr, IfOk, MatchResult, sym, ap, subst, ◌∙◌, arith}
use Rattle.air.specs.Cell.{IsCellsRefusal}
use Rattle.air_expressions.specs.declared.base_expression.SymbolicExpression.{SymbolicExpression}
use Rattle.air_expressions.specs.declared.error.AirError.{AirError}
use Rattle.air_expressions.specs.declared.error.AirError.TheVariants as of_air
use Rattle.air_expressions.specs.declared.layout.AirLayout.{AirLayout}
use Rattle.lookup_record.specs.Interaction.{Interaction, Tuple}
use Rattle.lookup_model.specs.Refusal.{from_air}
use Rattle.lookup_model.specs.declared.error.LookupError.{LookupError}
use Rattle.lookup_model.specs.declared.error.LookupError.TheVariants as lookup
use Rattle.lookup_record.specs.RecordedAir.{no_air_recorded, recorded_air, with_interaction, with_interaction-layout}
use Rattle.lookup_record.specs.declared.symbolic.InteractionSymbolicBuilder.{InteractionSymbolicBuilder}
use Rattle.lookup.specs.Extraction.{IsFirstLocalRefusal, IsLocalRefusal}
use Rattle.lookup.specs.declared.lookups.Lookups.{Lookups}
use Rattle.batch.specs.Checks.{IsPlanRefusal}
use Rattle.batch.specs.Refusals.{of_lookup}
use Rattle.batch.specs.declared.error.BatchError.{BatchError}
use Rattle.batch.specs.declared.error.BatchError.TheVariants.{Lookup as OfLookup, Memory}
use Rattle.example_memory.specs.Memory.{SetsFit, IsLookupsRefusal, IsMemoryPlanRefusal}
use Rattle.example_memory.specs.Pushes.{AcceptedAll, IsRefusedAfter}

-- what holds of a plan, if there is one
pub if_planned : {T E : Type 0} (r : Result T E) (P P' : T → Type 0) (Q : E → Type 0) → ((x : T) → P x → P' x) → MatchResult r P Q → IfOk r P'
if_planned (Ok x) P P' Q weaker held = weaker x held
if_planned (Err e) P P' Q weaker held = tt

-- the refusal of a local lookup is passed on
passed_on : {F : Type 0} (tuples : List (Tuple (SymbolicExpression F))) (e : LookupError) → IsLocalRefusal tuples e → of_lookup e ≡ OfLookup e
passed_on tuples e (inl (heavy, is)) = ap of_lookup is ∙ ap (λ x. OfLookup x) (sym is)
passed_on tuples e (inr (light, uneven)) = ap of_lookup uneven.refusal.error_is ∙ ap (λ x. OfLookup x) (sym uneven.refusal.error_is)

module _ {F EF : Type 0} where
  -- the ghost members of a builder that records
  abbrev layout_of : InteractionSymbolicBuilder F EF → AirLayout
  layout_of b = (recorded_air b).constraints.layout

  abbrev pushes : InteractionSymbolicBuilder F EF → Interaction (SymbolicExpression F) → InteractionSymbolicBuilder F EF → Type 0
  pushes b m c = recorded_air c ≡ with_interaction (recorded_air b) m

  abbrev refuses : InteractionSymbolicBuilder F EF → Interaction (SymbolicExpression F) → AirError → InteractionSymbolicBuilder F EF → Type 0
  refuses b m e c = (recorded_air c ≡ recorded_air b) × (e ≡ of_air.Memory)

  abbrev window_refuses : InteractionSymbolicBuilder F EF → AirError → Type 0
  window_refuses b e = e ≡ of_air.Memory

  -- what is pushed leaves the layout
  same_layout : (before : InteractionSymbolicBuilder F EF) (ms : List (Interaction (SymbolicExpression F))) (after : InteractionSymbolicBuilder F EF) → AcceptedAll pushes before ms after → layout_of after ≡ layout_of before
  same_layout before [] after same = ap layout_of (sym same)
  same_layout before (m ∷ ms) after (next, pushed, rest) = same_layout next ms after rest ∙ ap (λ r. r.constraints.layout) pushed ∙ with_interaction-layout (recorded_air before) m

  module _ (columns : ℕ) (layout : AirLayout) (before after : InteractionSymbolicBuilder F EF) (e : AirError) (new : recorded_air before ≡ no_air_recorded layout) (wide : columns ≤ layout.main_width) where
    -- so a new one refuses an AIR that only pushes for want of memory alone
    pub memory_alone : IsRefusedAfter pushes refuses window_refuses layout_of columns before e after → e ≡ of_air.Memory
    memory_alone refused = by refused.refusal
      where
        same_width : (layout_of refused.reached).main_width ≡ layout.main_width
        same_width = ap (λ l. l.main_width) (same_layout before refused.accepted refused.reached refused.stays ∙ ap (λ r. r.constraints.layout) new)

        by : ((after ≡ refused.reached) × IsCellsRefusal window_refuses layout_of columns refused.reached e) ⊎ ((m : Interaction (SymbolicExpression F)) × refuses refused.reached m e after) → e ≡ of_air.Memory
        by (inl (same, inl memory)) = memory
        by (inl (same, inr (inl window))) = window
        by (inl (same, inr (inr narrow))) = absurd (omega (arith, narrow.0, same_width, wide))
        by (inr (m, h)) = h.1

-- a refusal of an AIR that only pushes, of so many columns, in a new builder for a layout
abbrev IsRefusedNew : (F EF : Type 0) → ℕ → AirLayout → AirError → Type 0
IsRefusedNew F EF columns layout e =
    (e ≡ of_air.Memory)
    ⊎ ((before : InteractionSymbolicBuilder F EF) × (after : InteractionSymbolicBuilder F EF) × (recorded_air before ≡ no_air_recorded layout) × IsRefusedAfter pushes refuses window_refuses layout_of columns before e after)

module _ {F EF : Type 0} (columns : ℕ) (layout : AirLayout) (wide : columns ≤ layout.main_width) where
  in_new_builder : (e : AirError) → IsRefusedNew F EF columns layout e → e ≡ of_air.Memory
  in_new_builder e (inl memory) = memory
  in_new_builder e (inr (before, after, new, refused)) = memory_alone columns layout before after e new wide refused

  -- the refusal of the lookups of such an AIR
  pub lookups_refused : (Left : InteractionSymbolicBuilder F EF → Type 0) (e : LookupError)
      → (e ≡ lookup.Memory)
      ⊎ (((refusal : AirError) × IsRefusedNew F EF columns layout refusal × (e ≡ from_air refusal))
      ⊎ ((b : InteractionSymbolicBuilder F EF) × Left b × IsFirstLocalRefusal (recorded_air b).locals e))
      → IsLookupsRefusal F (of_lookup e)
  lookups_refused Left e (inl memory) = inl (ap of_lookup memory)
  lookups_refused Left e (inr (inl (refusal, evaluated, is))) = inl (ap of_lookup (is ∙ ap from_air (in_new_builder refusal evaluated)))
  lookups_refused Left e (inr (inr (b, left, first))) = inr (e, (recorded_air b).locals, first, passed_on first.item e first.fault)

-- the refusal of a plan of lookups that fit
pub plan_refused : {F P : Type 0} (A : P → Type 0) (p : ℕ) (airs : List (Lookups F)) (heights given : List ℕ) (result : Result P BatchError) → heights ≡ given → SetsFit airs
    → MatchResult result A (λ e. (e ≡ Memory) ⊎ IsPlanRefusal p airs heights e) → IfErr result (IsMemoryPlanRefusal F p given)
plan_refused A p airs heights given (Ok plan) is fit answered = tt
plan_refused A p airs heights given (Err e) is fit (inl memory) = inl (inl memory)
plan_refused A p airs heights given (Err e) is fit (inr refusal) = inr (airs, fit, subst (λ (hs : List ℕ). IsPlanRefusal p airs hs e) is refusal)
