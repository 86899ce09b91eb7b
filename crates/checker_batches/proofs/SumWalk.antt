-- The walk over the equations of a batch: lookup by lookup, row by row, AIR by AIR.
use Rattle.std.proofs.Common.{◌≡◌, ◌↔◌, ℕ, zero, suc, ◌+◌, ◌<◌, Bool, IsTrue, List, [], ◌∷◌, ◌++◌, length, take, drop, get_or, sym, ap, subst, ◌∙◌, arith}
use Rattle.std.proofs.lemmas.Grind.{flat_map-append}
use Rattle.std.proofs.lemmas.List.{append-nil, append_assoc, length-map, take-append-drop, take_more}
use Rattle.std.specs.List.{AllByRecursion, flat_map, range_with_len}
use Rattle.list_laws.proofs.Images.{mapped_at}
use Rattle.field.specs.Ring.{Ring, IsCommutativeRing}
use Rattle.lookup_model.specs.Challenges.{ChallengeTable}
use Rattle.field.specs.Extension.{Extension, IsLawful}
use Rattle.lookup_model.specs.Batches.Existence.{HasAccepted}
use Rattle.lookup_model.specs.Batches.Instances.{Instance, IsFitting, instance_of, instances_of}
use Rattle.lookup_model.specs.declared.instance.BatchInstance.{BatchInstance}
use Rattle.lookup_model.specs.internal.Equations.{CanSumTo, Equation, air_equations, batch_equations}
use Rattle.lookup_model.proofs.Batches.Accepted.{accepted_by_sum}
use Rattle.checker_batches.specs.declared.sums.Sums.{Sums}
use Rattle.checker_batches.specs.declared.sums.Sums.TheVariants.{Nothing}
use Rattle.checker_batches.specs.internal.Sums.{AreSums}
use Rattle.checker_batches.proofs.SumSteps.{nothing_stays}

module _ {K : Type 0} (S : Ring K) where
  -- no further equations
  pub sums_kept : (equations : List (Equation K)) (sums : Sums K) → AreSums S equations sums → AreSums S (equations ++ []) sums
  sums_kept equations sums are = subst (λ (es : List (Equation K)). AreSums S es sums) (sym (append-nil equations)) are

  -- further ones after those
  pub sums_further : (equations first second both : List (Equation K)) (before after : Sums K) → both ≡ first ++ second
      → ((es : List (Equation K)) → AreSums S es before → AreSums S (es ++ second) after) → AreSums S (equations ++ first) before → AreSums S (equations ++ both) after
  sums_further equations first second both before after is step are =
      subst (λ (es : List (Equation K)). AreSums S es after) (append_assoc equations first second ∙ ap (λ t. equations ++ t) (sym is)) (step (equations ++ first) are)

-- if nothing is left of the first ones, nothing is left of all
pub sums_stay : {K : Type 0} {S : Ring K} → IsCommutativeRing S → (equations first second both : List (Equation K)) (sums : Sums K) → sums ≡ Nothing → both ≡ first ++ second
    → AreSums S (equations ++ first) sums → AreSums S (equations ++ both) sums
sums_stay {K} {S} laws equations first second both sums nothing is are =
    sums_further S equations first second both sums sums is
    (λ es before. subst (AreSums S (es ++ second)) (sym nothing) (nothing_stays laws es second (subst (AreSums S es) nothing before))) are

-- the parts for two ranges, one after the other
pub flat_parts : {A : Type 0} (f : ℕ → List A) (a m n : ℕ) → flat_map f (range_with_len a (m + n)) ≡ flat_map f (range_with_len a m) ++ flat_map f (range_with_len (a + m) n)
flat_parts f a zero n =
    let many : 0 + n ≡ n = omega arith in
    let from : a ≡ a + 0 = omega arith in
    λ i. flat_map f (range_with_len (from i) (many i))
flat_parts f a (suc m) n =
    let many : suc m + n ≡ suc (m + n) = omega arith in
    let rest = flat_map f (range_with_len (a + 1) m) in
    ap (λ k. flat_map f (range_with_len a k)) many ∙ ap (λ t. f a ++ t) (flat_parts f (a + 1) m n)
    ∙ sym (append_assoc (f a) rest (flat_map f (range_with_len (a + 1 + m) n))) ∙ ap (λ k. (f a ++ rest) ++ flat_map f (range_with_len k n)) (omega arith)

module _ {F K : Type 0} (E : Extension F K) (table : ChallengeTable K) (bs : List (BatchInstance F)) where
  -- the equations of one more AIR
  pub batch_more : (air : ℕ) (b : BatchInstance F) → air < length bs → b ≡ get_or bs air b → batch_equations E table (take (air + 1) (instances_of bs)) ≡ batch_equations E table (take air (instances_of bs)) ++ air_equations E table (instance_of b)
  batch_more air b lt is =
      let instances = instances_of bs in
      ap (batch_equations E table) (take_more instances air (instance_of b) (omega (arith, length-map bs instance_of, lt)) ∙ ap (λ t. take air instances ++ t ∷ []) (sym (mapped_at instance_of bs air b lt is)))
      ∙ flat_map-append (air_equations E table) (take air instances) (instance_of b ∷ [])
      ∙ ap (λ t. batch_equations E table (take air instances) ++ t) (append-nil (air_equations E table (instance_of b)))

module _ {F K : Type 0} {E : Extension F K} (laws : IsLawful E) (table : ChallengeTable K) (instances : List (Instance F)) (fitting : AllByRecursion IsFitting instances) where
  -- the answer when all are done
  pub decided : (sums : Sums K) (found : Bool) → AreSums E.ring (batch_equations E table instances) sums
      → ((es : List (Equation K)) → AreSums E.ring es sums → IsTrue found ↔ CanSumTo E.ring es E.ring.zero) → IsTrue found ↔ HasAccepted E table instances
  decided sums found are says =
      let said = says (batch_equations E table instances) are in
      let accepted = accepted_by_sum laws table instances fitting in
      ((λ yes_found. accepted.1 (said.0 yes_found)), (λ has. said.1 (accepted.0 has)))

  -- none is accepted if nothing is left of the first AIRs
  pub none_accepted : (sums : Sums K) (n : ℕ) → sums ≡ Nothing → AreSums E.ring (batch_equations E table (take n instances)) sums → ¬ HasAccepted E table instances
  none_accepted sums n nothing are has =
      let whole : batch_equations E table instances ≡ batch_equations E table (take n instances) ++ batch_equations E table (drop n instances) =
      ap (batch_equations E table) (sym (take-append-drop n instances)) ∙ flat_map-append (air_equations E table) (take n instances) (drop n instances) in
      nothing_stays laws.ring (batch_equations E table (take n instances)) (batch_equations E table (drop n instances)) (subst (AreSums E.ring (batch_equations E table (take n instances))) nothing are) E.ring.zero
      (subst (λ (es : List (Equation K)). CanSumTo E.ring es E.ring.zero) whole ((accepted_by_sum laws table instances fitting).0 has))
