-- One more result of a batch.
use Rattle.std.proofs.Common.{◌≡◌, ℕ, ◌+◌, ◌<◌, ◌≤◌, Option, List, [], ◌∷◌, ◌++◌, length, map, get_or, sym, ap, subst, ◌∙◌, arith, length-append}
use Rattle.std.proofs.lemmas.List.{take_all}
use Rattle.std.specs.List.{AllZip, zip}
use Rattle.list_laws.proofs.Zips.{AllZip-more, zip_push}
use Rattle.list_laws.proofs.Images.{images_more}
use Rattle.list_laws.proofs.Items.{holds_next, item_there}
use Rattle.matrix.specs.Matrix.{Matrix}
use Rattle.field.specs.Extension.{Extension}
use Rattle.lookup_model.specs.declared.types.LookupTerminal.{LookupTerminal}
use Rattle.lookup_model.specs.Batches.Faults.{instance_faults}
use Rattle.lookup_model.specs.Batches.Instances.{Instance}
use Rattle.lookup_model.specs.Batches.Witnesses.{AreSatisfied, IsSatisfiedAt, plain_result, plain_witness}
use Rattle.checker_batches.specs.internal.Results.{HasResults}
use Rattle.lookup_model.specs.Challenges.{ChallengeTable}

module _ {F K : Type 0} (E : Extension F K) (table : ChallengeTable K) (instances : List (Instance F)) where
  pub results_more : (i : ℕ) (aux : List (Matrix K)) (terminals : List (Option (LookupTerminal K))) (instance : Instance F) (r : Matrix K × Option (LookupTerminal K)) → i < length instances → instance ≡ get_or instances i instance
      → r ≡ plain_result E table instance → IsSatisfiedAt E table instance r → instance_faults E table instance ≡ [] → HasResults E table instances i aux terminals → HasResults E table instances (i + 1) (aux ++ r.0 ∷ []) (terminals ++ r.1 ∷ [])
  results_more i aux terminals instance r lt is result satisfied none so_far =
      let zipped : zip (aux ++ r.0 ∷ []) (terminals ++ r.1 ∷ []) ≡ zip aux terminals ++ r ∷ [] = zip_push aux terminals r.0 r.1 (so_far.traces ∙ sym so_far.as_many) in
      record {
        traces = omega (arith, length-append aux (r.0 ∷ []), so_far.traces);
        as_many = omega (arith, length-append terminals (r.1 ∷ []), so_far.as_many);
        results = zipped ∙ (λ j. so_far.results j ++ result j ∷ []) ∙ sym (images_more (plain_result E table) instances i instance lt is);
        satisfied = AllZip-more (IsSatisfiedAt E table) instances (zip aux terminals) (zip (aux ++ r.0 ∷ []) (terminals ++ r.1 ∷ [])) i instance instance r lt is zipped satisfied so_far.satisfied;
        faultless = holds_next (λ other. instance_faults E table other ≡ []) instances i instance (item_there instances i instance lt is) none so_far.faultless;
      }

  -- when all are done
  pub all_results : (n : ℕ) (aux : List (Matrix K)) (terminals : List (Option (LookupTerminal K))) → HasResults E table instances n aux terminals → length instances ≤ n → (zip aux terminals ≡ plain_witness E table instances) × AreSatisfied E table instances (zip aux terminals)
  all_results n aux terminals has done =
      let all = take_all n instances done in
      (has.results ∙ ap (map (plain_result E table)) all, subst (λ (is : List (Instance F)). AllZip (IsSatisfiedAt E table) is (zip aux terminals)) all has.satisfied)
