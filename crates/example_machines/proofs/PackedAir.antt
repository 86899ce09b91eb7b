-- The one lookup of an AIR, packed.
use Rattle.std.proofs.Common.{◌≡◌, ℕ, Bool, List, [], ◌∷◌, Result, Ok, Err, IfOk, MatchResult, length, map, All, sym, ap, subst, ◌∙◌}
use Rattle.std.proofs.lemmas.List.Elements.{All-cons, All-head, All-map, All-nil, recursion_from_All}
use Rattle.std.specs.List.{AllByRecursion}
use Rattle.list_laws.proofs.Each.{All-of_map}
use Rattle.list_laws.proofs.Images.{one_item}
use Rattle.field.specs.Ring.{Ring}
use Rattle.air_expressions.specs.declared.base_expression.SymbolicExpression.{SymbolicExpression}
use Rattle.lookup_model.specs.Outline.{Outline, fields_of}
use Rattle.lookup_model.specs.Sent.{sent_at}
use Rattle.lookup_model.specs.declared.error.LookupError.{LookupError}
use Rattle.lookup_model.specs.declared.error.LookupError.TheVariants.{Memory}
use Rattle.lookup_model.specs.declared.types.Lookup.{Lookup}
use Rattle.lookup.proofs.OneLookup.{packs_one}
use Rattle.lookup.specs.BusWidths.{widths_of}
use Rattle.lookup.specs.Fewest.{AnswersDegree}
use Rattle.lookup.specs.Packing.{Packs}
use Rattle.lookup.proofs.Extracted.{outline_sends, sent_by_fields}
use Rattle.lookup.specs.Lookups.{StillFit, lookups_of}
use Rattle.lookup.specs.Sends.{lookup_bus_and_weight}
use Rattle.lookup.specs.declared.lookups.Lookups.{Lookups}
use Rattle.example_machines.specs.Machines.{AreLookupsOf, air_bus_and_weight}
use Rattle.example_machines.specs.declared.airs.MachineAir.{MachineAir}

module _ {F : Type 0} (R : Ring F) (eq : F → F → Bool) where
  -- tuples of one value
  abbrev IsNarrow : Lookup F → Type 0
  IsNarrow l = All (λ tuple. length tuple.items ≡ 1) l.elements.items

  narrow_widths : (l : Lookup F) → IsNarrow l → AllByRecursion (λ n. n ≡ 1) (widths_of (fields_of l))
  narrow_widths l narrow =
      recursion_from_All (λ n. n ≡ 1) (widths_of (fields_of l))
      (All-map (λ n. n ≡ 1) length (map (λ tuple. tuple.items) l.elements.items) (All-map (λ tuple. length tuple ≡ 1) (λ tuple. tuple.items) l.elements.items narrow))

  module _ (air : MachineAir) where
    -- a lookup that differs from the AIR's in the column alone
    same_lookup : (before : List (Lookup F)) (set : Lookups F) (l : Lookup F) → AreLookupsOf R eq air before → before ≡ l ∷ [] → map fields_of (lookups_of set) ≡ record (fields_of l) { column = 0 } ∷ []
        → StillFit before (lookups_of set) → AreLookupsOf R eq air (lookups_of set)
    same_lookup before set l are is same fits =
        let found = one_item fields_of (lookups_of set) (record (fields_of l) { column = 0 }) same in
        let k : Lookup F = found.0 in
        let only : lookups_of set ≡ k ∷ [] = found.1 in
        let fields : fields_of k ≡ record (fields_of l) { column = 0 } = found.2 in
        let narrow : IsNarrow l = All-head IsNarrow l [] (subst (λ (t : List (Lookup F)). All IsNarrow t) is are.widths) in
        let tuples : All (λ tuple. length tuple ≡ 1) (fields_of k).elements =
        subst (λ (o : Outline (SymbolicExpression F)). All (λ tuple. length tuple ≡ 1) o.elements) (sym fields) (All-map (λ tuple. length tuple ≡ 1) (λ tuple. tuple.items) l.elements.items narrow) in
        record {
          one = ap (map lookup_bus_and_weight) only ∙ (λ i. ((fields i).bus, (fields i).count_weight) ∷ []) ∙ sym (ap (map lookup_bus_and_weight) is) ∙ are.one;
          fit = fits _ are.fit;
          widths = subst (λ (t : List (Lookup F)). All IsNarrow t) (sym only) (All-cons IsNarrow k [] (All-of_map (λ tuple. length tuple ≡ 1) (λ tuple. tuple.items) k.elements.items tuples) (All-nil IsNarrow));
          sends = λ w widths.
              ap (map (λ m. sent_at R eq w 0 m)) only
              ∙ ap (λ s. s ∷ []) (sent_by_fields R eq w 0 k ∙ ap (outline_sends R eq w 0) fields ∙ sym (sent_by_fields R eq w 0 l))
              ∙ sym (ap (map (λ m. sent_at R eq w 0 m)) is)
              ∙ are.sends w widths;
        }

    -- the packed lookups of the AIR
    pub packed_air : (most : ℕ) (before : List (Lookup F)) (result : Result (Lookups F) LookupError) → AreLookupsOf R eq air before
        → Packs AnswersDegree most (λ set. map fields_of (lookups_of set)) (map fields_of before) result → IfOk result (λ set. StillFit before (lookups_of set))
        → MatchResult result (λ set. AreLookupsOf R eq air (lookups_of set)) (λ e. e ≡ Memory)
    packed_air most before result are packs fits =
        let found = one_item lookup_bus_and_weight before (air_bus_and_weight air) are.one in
        let narrow : IsNarrow found.0 = All-head IsNarrow found.0 [] (subst (λ (t : List (Lookup F)). All IsNarrow t) found.1 are.widths) in
        by_result found.0 found.1 result (packs_one AnswersDegree most (λ (set : Lookups F). map fields_of (lookups_of set)) (map fields_of before) (fields_of found.0) 1 result (ap (map fields_of) found.1) (narrow_widths found.0 narrow) packs) fits
      where
        by_result : (l : Lookup F) → before ≡ l ∷ [] → (answer : Result (Lookups F) LookupError) → MatchResult answer (λ set. map fields_of (lookups_of set) ≡ record (fields_of l) { column = 0 } ∷ []) (λ e. e ≡ Memory)
            → IfOk answer (λ set. StillFit before (lookups_of set)) → MatchResult answer (λ set. AreLookupsOf R eq air (lookups_of set)) (λ e. e ≡ Memory)
        by_result l is (Ok set) same still = same_lookup before set l are is same still
        by_result l is (Err e) memory still = memory
