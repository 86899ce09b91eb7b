-- Theorems on batches.
use Rattle.std.specs.Prelude.{◌≡◌, ◌↔◌, ◌<◌, ℕ, Bool, List, All, map}
use Rattle.std.specs.Box.{boxed_slice_items}
use Rattle.std.specs.List.{range_with_len}
use Rattle.field.specs.Extension.{Extension}
use Rattle.field.specs.Ring.{Ring}
use Rattle.lookup_model.specs.Challenges.{prefix_of_bus, table_of}
use Rattle.lookup_model.specs.declared.challenges.Challenges.{Challenges}
use Rattle.lookup_model.specs.declared.instance.BatchInstance.{BatchInstance}
use Rattle.lookup_model.specs.Batches.Counts.{IsAccepting}
use Rattle.lookup_model.specs.Batches.Existence.{HasAccepted}
use Rattle.lookup_model.specs.Batches.Ids.{AreLawfulIds}
use Rattle.lookup_model.specs.Batches.Instances.{HavePrefixes, Instance, IsFitting, instances_of}
use Rattle.lookup_model.specs.Batches.Messages.{AreFlagsLawful}

-- A law holds of every batch that fits, whose flags are lawful, and whose ids are lawful for tuples of at
-- most W elements and m ids, over a field of characteristic p.
abbrev pub HoldsOfLawful : {F : Type 0} → ℕ → Ring F → (F → F → Bool) → (ℕ → ℕ → List (Instance F) → Type 0) → Type 0
HoldsOfLawful {F} p R eq Law =
    (W m : ℕ) (instances : List (Instance F)) → All IsFitting instances → AreLawfulIds W m p instances → AreFlagsLawful R eq instances → Law W m instances

-- Challenges have the beta and the prefixes that `Challenges::new` makes of alpha and beta, for tuples of
-- at most W elements and m ids.
abbrev pub AreMadeOf : {K : Type 0} → Ring K → ℕ → ℕ → K → K → Challenges K → Type 0
AreMadeOf S W m alpha beta challenges =
    (challenges.beta ≡ beta) × (boxed_slice_items challenges.bus_prefix ≡ map (prefix_of_bus S alpha beta W) (range_with_len 0 m))

-- Over made challenges with a prefix for each id some witness is accepted exactly if alpha is accepting at
-- beta.
abbrev pub AcceptedIsAccepting : {F K : Type 0} → Extension F K → Type 0
AcceptedIsAccepting {F} {K} E =
    (W m : ℕ) (alpha beta : K) (challenges : Challenges K) (instances : List (BatchInstance F)) → AreMadeOf E.ring W m alpha beta challenges → HavePrefixes challenges instances
    → HasAccepted E (table_of challenges) (instances_of instances) ↔ IsAccepting E (instances_of instances) W beta alpha

-- The same of any instances whose ids are below m.
abbrev pub AcceptedIsAcceptingBelow : {F K : Type 0} → Extension F K → Type 0
AcceptedIsAcceptingBelow {F} {K} E =
    (W m : ℕ) (alpha beta : K) (challenges : Challenges K) (instances : List (Instance F)) → AreMadeOf E.ring W m alpha beta challenges → All (λ i. All (λ id. id < m) i.ids) instances
    → HasAccepted E (table_of challenges) instances ↔ IsAccepting E instances W beta alpha
