-- The table of a plan gives the challenges of ids that it has prefixes of, as the table of all ids does.
use Rattle.std.proofs.Common.{◌≡◌, ℕ, ◌<◌, All, List, Result, get_or, refl, subst, sym, arith}
use Rattle.std.proofs.lemmas.List.Elements.{recursion_from_All}
use Rattle.std.proofs.lemmas.List.FromFn.{get_or-map-range_with_len}
use Rattle.field.specs.Extension.{Extension}
use Rattle.field.specs.Ring.{Ring}
use Rattle.lookup_model.specs.Batches.Counts.{IsAccepting}
use Rattle.lookup_model.specs.Batches.Instances.{Instance}
use Rattle.lookup_model.specs.Batches.Witnesses.{AirResult, IsAccepted}
use Rattle.lookup_model.specs.Challenges.{bus_table, column_challenges, prefix_of_bus}
use Rattle.lookup_model.specs.declared.error.LookupError.{LookupError}
use Rattle.lookup_model.proofs.ColumnChallenges.{same_challenges}
use Rattle.checker_witness.specs.Columns.{ChecksColumns}
use Rattle.checker_witness.specs.Ranges.{ChecksResult}
use Rattle.checker_batches.proofs.TablesAlike.{AreAlike, satisfied_alike}
use Rattle.batch.specs.Tables.{made_table}

-- the challenges of the columns of an AIR
pub made_challenges : {K : Type 0} (S : Ring K) (alpha beta : K) (W m : ℕ) (ids : List ℕ) → All (λ id. id < m) ids → column_challenges (made_table S alpha beta W m) ids ≡ column_challenges (bus_table S W beta alpha) ids
made_challenges S alpha beta W m ids below =
    same_challenges (made_table S alpha beta W m) (bus_table S W beta alpha) ids refl
    (λ k d within. get_or-map-range_with_len (prefix_of_bus S alpha beta W) 0 m _ _ alpha (below k d within) (omega arith))

module _ {F K : Type 0} (E : Extension F K) (alpha beta : K) (W m : ℕ) where
  -- a check under the challenges of the ids alone is one over the table of the plan
  pub checked_over : (i : Instance F) → All (λ id. id < m) i.ids → (challenges : List K) → challenges ≡ column_challenges (bus_table E.ring W beta alpha) i.ids → (result : AirResult K) (air : ℕ) (answer : Result (Unit {0}) LookupError)
      → ChecksColumns E i.traces i.lookups challenges result air answer → ChecksResult E (made_table E.ring alpha beta W m) air i result answer
  checked_over i below challenges are result air answer checked =
      subst (λ (cs : List K). ChecksColumns E i.traces i.lookups cs result air answer) (sym (made_challenges E.ring alpha beta W m i.ids below))
      (subst (λ (cs : List K). ChecksColumns E i.traces i.lookups cs result air answer) are checked)

  -- where a witness is accepted over the table of the plan, alpha is accepting at beta
  pub accepted_over : (instances : List (Instance F)) → All (λ i. All (λ id. id < m) i.ids) instances → (witness : List (AirResult K)) → IsAccepted E (made_table E.ring alpha beta W m) instances witness → IsAccepting E instances W beta alpha
  accepted_over instances below witness accepted =
      let made = made_table E.ring alpha beta W m in
      let table = bus_table E.ring W beta alpha in
      let alike = recursion_from_All (AreAlike made table) instances (λ k i lt. made_challenges E.ring alpha beta W m (get_or instances k i).ids (below k i lt)) in
      (witness, record { satisfied = satisfied_alike made table E instances witness alike accepted.satisfied; balanced = accepted.balanced })
