-- The lookups that are extracted from the AIRs of the machines.
use Rattle.std.proofs.Common.{◌≡◌, ◌<◌, Bool, [], ◌∷◌, length, map, All, Result, Ok, Err, IfOk, OnOk, MatchResult, inl, inr, subst, sym, ap, arith, ◌∙◌}
use Rattle.std.proofs.lemmas.List.Elements.{All-cons, All-nil}
use Rattle.std.specs.List.{enumerate_from}
use Rattle.list_laws.proofs.Each.{All-of_map}
use Rattle.list_laws.proofs.Images.{one_item}
use Rattle.field.specs.Ring.{Ring}
use Rattle.air_expressions.specs.Layout.{layout_of_widths}
use Rattle.air_expressions.specs.Window.{Window}
use Rattle.air_expressions.specs.declared.base_expression.SymbolicExpression.{SymbolicExpression}
use Rattle.air_expressions.specs.declared.error.AirError.{AirError}
use Rattle.air_expressions.specs.declared.error.AirError.TheVariants.{Memory as AirMemory}
use Rattle.air_expressions.specs.declared.layout.AirLayout.{AirLayout}
use Rattle.air.specs.Recorded.{HasWidths, recorded}
use Rattle.lookup_model.specs.Outline.{fields_of}
use Rattle.lookup_model.specs.Records.{LookupsFit}
use Rattle.lookup_model.specs.Refusal.{from_air}
use Rattle.lookup_model.specs.Sent.{value}
use Rattle.lookup_model.specs.declared.error.LookupError.{LookupError}
use Rattle.lookup_model.specs.declared.error.LookupError.TheVariants.{Memory}
use Rattle.lookup_record.specs.Interaction.{Interaction, exclusive, global, local}
use Rattle.lookup_model.specs.Weight.{weight_bound}
use Rattle.lookup_record.specs.RecordedAir.{EvaluatesNew, RecordedAir, no_air_recorded, recorded_air, with_interaction}
use Rattle.lookup_record.specs.RecordedWithin.{EvaluatesWithin, PushedWithin}
use Rattle.lookup_record.specs.declared.symbolic.InteractionSymbolicBuilder.{InteractionSymbolicBuilder}
use Rattle.lookup.specs.Extraction.{Extracts, IsFaultless, extraction}
use Rattle.lookup.specs.Lookups.{lookups_of}
use Rattle.lookup.specs.Sends.{bus_and_weight, in_order, interaction_sends, interaction_tuples}
use Rattle.lookup.specs.declared.lookups.Lookups.{Lookups}
use Rattle.lookup.proofs.Extracted.{extracted_kinds, extracted_send, extracted_tuples, none_refused, one_in_order}
use Rattle.example_machines.specs.Machines.{AreLookupsOf, SendsLike, air_bus_and_weight, width_of}
use Rattle.air.specs.Cell.{IsCellsRefusal}
use Rattle.example_machines.specs.Pushes.{EvaluatesOnePush}
use Rattle.example_machines.specs.declared.airs.MachineAir.{MachineAir}

-- the weight of an AIR's lookup is small
light : (air : MachineAir) → (air_bus_and_weight air).1 < weight_bound
light air = grind arith

module _ (F EF : Type 0) (R : Ring F) (eq : F → F → Bool) (air : MachineAir) where
  -- a builder that records an AIR
  abbrev Builder : Type 0
  Builder = InteractionSymbolicBuilder F EF

  -- the layout of the AIR's trace
  abbrev layout : AirLayout
  layout = layout_of_widths (width_of air) 0 0

  -- what a builder pushes, and how it refuses to
  abbrev pushes : Builder → Interaction (SymbolicExpression F) → Builder → Type 0
  pushes b m c = recorded_air c ≡ with_interaction (recorded_air b) m

  abbrev refuses : Builder → Interaction (SymbolicExpression F) → AirError → Builder → Type 0
  refuses b m e c = (recorded_air c ≡ recorded_air b) × (e ≡ AirMemory)

  -- the windows that it stands for
  abbrev stands_for : Builder → Window F → Type 0
  stands_for b w = HasWidths (recorded b.inner).layout w

  -- what the AIR means to push
  abbrev IsMeant : Builder → Interaction (SymbolicExpression F) → Type 0
  IsMeant b m = SendsLike R eq (λ x w. value R w x) (stands_for b) (λ w. w.main) air m

  -- how the AIR is evaluated
  abbrev air_evaluates : Builder → Result (Unit {0}) AirError → Builder → Type 0
  air_evaluates before answer after =
      EvaluatesOnePush pushes refuses (λ b e. e ≡ AirMemory) (λ b. (recorded b.inner).layout) (IsMeant before) (width_of air) before answer after
      × OnOk answer (PushedWithin (recorded_air before) → PushedWithin (recorded_air after))

  -- the one interaction that it leaves
  record Leaves (b : Builder) : Type 0 where
    before : Builder
    empty : recorded_air before ≡ no_air_recorded layout
    interaction : Interaction (SymbolicExpression F)
    meant : IsMeant before interaction
    pushed : recorded_air b ≡ with_interaction (no_air_recorded layout) interaction

  leaves : (b : Builder) → EvaluatesNew {A = MachineAir} (λ _. air_evaluates) air layout (Ok b) → Leaves b
  leaves b (before, empty, (inl (m, meant, pushed), within)) = record {
    before = before;
    empty = empty;
    interaction = m;
    meant = meant;
    pushed = pushed ∙ ap (λ r. with_interaction r m) empty;
  }
  leaves b (before, empty, (inr refused, within)) = absurd (cc refused.1)

  -- a cell is refused only when out of memory, since no row has fewer columns than the layout
  cell_memory : (before : Builder) (e : AirError) → recorded_air before ≡ no_air_recorded layout → IsCellsRefusal (λ b e. e ≡ AirMemory) (λ b. (recorded b.inner).layout) (width_of air) before e → e ≡ AirMemory
  cell_memory before e empty refused = grind (arith, refused, ap (λ r. r.constraints.layout.main_width) empty)

  -- so the AIR is refused only when out of memory
  memory_alone : (e : AirError) → EvaluatesNew {A = MachineAir} (λ _. air_evaluates) air layout (Err e) → e ≡ AirMemory
  memory_alone e (inl memory) = memory
  memory_alone e (inr (before, after, empty, (inl (inl (memory, kept)), within))) = memory
  memory_alone e (inr (before, after, empty, (inl (inr (m, meant, refused)), within))) = refused.1
  memory_alone e (inr (before, after, empty, (inr (f, is, kept, refusal), within))) = cc (is, cell_memory before f empty refusal)

  -- the lookups of the AIR
  lookups_are : (b : Builder) (set : Lookups F) → Leaves b → map fields_of (lookups_of set) ≡ extraction (recorded_air b).locals (recorded_air b).globals (recorded_air b).exclusives
      → LookupsFit layout (lookups_of set) → AreLookupsOf R eq air (lookups_of set)
  lookups_are b set left is fit = record {
    one = extracted_kinds (lookups_of set) r.locals r.globals r.exclusives is ∙ ap (map bus_and_weight) order ∙ ap (λ k. k ∷ []) left.meant.kind;
    fit = fit;
    widths =
        let tuples = one_item (λ l. (fields_of l).elements) (lookups_of set) (interaction_tuples left.interaction) (extracted_tuples (lookups_of set) r.locals r.globals r.exclusives is ∙ ap (map interaction_tuples) order) in
        let each : All (λ tuple. length tuple.items ≡ 1) tuples.0.elements.items =
        All-of_map (λ tuple. length tuple ≡ 1) (λ tuple. tuple.items) tuples.0.elements.items (subst (All (λ tuple. length tuple ≡ 1)) (sym tuples.2) left.meant.widths) in
        rw tuples.1 (All-cons (λ l. All (λ tuple. length tuple.items ≡ 1) l.elements.items) tuples.0 [] each (All-nil (λ l. All (λ tuple. length tuple.items ≡ 1) l.elements.items)));
    sends = λ w widths.
        let here : stands_for left.before w = subst (λ (l : AirLayout). HasWidths l w) (sym (ap (λ r. r.constraints.layout) left.empty)) widths in
        extracted_send R eq (λ _. 0) (lookups_of set) r.locals r.globals r.exclusives is w
        ∙ ap (λ ms. map (λ p. interaction_sends R eq (value R w) 0 p.1) (enumerate_from 0 ms)) order
        ∙ ap (λ s. s ∷ []) (left.meant.sends w here widths.main);
  }
    where
      r : RecordedAir F EF
      r = recorded_air b

      order : in_order r.locals r.globals r.exclusives ≡ left.interaction ∷ []
      order = one_in_order layout left.interaction r left.pushed

  -- a local lookup among them has no fault
  locals_faultless : (stands : Window F → Type 0) (m : Interaction (SymbolicExpression F)) (r : RecordedAir F EF) → r ≡ with_interaction (no_air_recorded layout) m
      → SendsLike R eq (λ x w. value R w x) stands (λ w. w.main) air m → All IsFaultless r.locals
  locals_faultless stands (global m) r is sends = rw is (All-nil IsFaultless)
  locals_faultless stands (exclusive m) r is sends = rw is (All-nil IsFaultless)
  locals_faultless stands (local tuples) r is sends =
      let faultless : IsFaultless tuples = record {
        weight = omega (arith, ap (λ k. k.1) sends.kind, light air);
        width = 1;
        widths = All-of_map (λ fields. length fields ≡ 1) (λ t. t.fields) tuples sends.widths;
      } in
      rw is (All-cons IsFaultless tuples [] faultless (All-nil IsFaultless))

  -- the answer of the extraction
  pub air_lookups : (answer : Result (Lookups F) LookupError) → Extracts {A = MachineAir} (λ _. air_evaluates) air layout answer
      → IfOk answer (λ set. EvaluatesWithin {A = MachineAir} (λ _. air_evaluates) air → LookupsFit layout (lookups_of set))
      → MatchResult answer (λ set. AreLookupsOf R eq air (lookups_of set)) (λ e. e ≡ Memory)
  air_lookups (Ok set) (b, new, is, faultless) fits = lookups_are b set (leaves b new) is (fits (λ before after h. h.1))
  air_lookups (Err e) (inl memory) fits = memory
  air_lookups (Err e) (inr (inl (refusal, new, is))) fits = is ∙ ap from_air (memory_alone refusal new)
  air_lookups (Err e) (inr (inr (b, new, fault))) fits =
      let left = leaves b new in
      absurd (none_refused (recorded_air b).locals e (locals_faultless (stands_for left.before) left.interaction (recorded_air b) left.pushed left.meant) fault)
