-- What is contributed is what is sent, where each flag is zero or one.
use Rattle.std.proofs.Common.{◌≡◌, Bool, true, not, ◌||◌, Option, None, Some, IfSome, List, [], ◌∷◌, map, refl, subst, ap, ◌∙◌, Decides, arith}
use Rattle.std.proofs.lemmas.Bool.{and_parts}
use Rattle.std.specs.List.{list_all, zip}
use Rattle.field.specs.Ring.{Ring, IsCommutativeRing}
use Rattle.field.specs.laws.RingFacts.{one_mul, zero_mul}
use Rattle.air_expressions.specs.Window.{Window}
use Rattle.lookup_model.specs.Message.{Message}
use Rattle.lookup_model.specs.Sent.{branches_at, chosen_branches, flags_at, sent, sent_at}
use Rattle.lookup_model.specs.declared.types.Lookup.{Lookup}
use Rattle.lookup_debug.specs.Contributions.{Contribution, SentLocation, amounts, contributions_at, contributions_from, nonzero}
use Rattle.lookup_debug.specs.SentContributions.{message_contribution, sent_contributions}

module _ {F : Type 0} {R : Ring F} (laws : IsCommutativeRing R) (eq : F → F → Bool) (decides : (a b : F) → Decides (eq a b) (a ≡ b)) (location : SentLocation) where
  -- each flag is zero or one
  abbrev pub AreBoolean : List F → Type 0
  AreBoolean flags = list_all (λ f. eq f R.zero || eq f R.one) flags ≡ true

  without_flags : (branches : List (Message F)) → contributions_from location branches (map (λ m. m.multiplicity) branches) ≡ map (message_contribution location) branches
  without_flags [] = refl
  without_flags (b ∷ bs) = ap (λ t. message_contribution location b ∷ t) (without_flags bs)

  -- the contributions of branches with flags
  abbrev flagged : List F → List (Message F) → List (Contribution F)
  flagged flags branches = nonzero R eq (contributions_from location branches (map (λ b. R.mul b.0 b.1.multiplicity) (zip flags branches)))

  abbrev kept : Contribution F → Bool
  kept c = not (eq c.amount R.zero)

  abbrev of_branch : F → Message F → Contribution F
  of_branch f b = record { tuple = b.key.tuple; amount = R.mul f b.multiplicity; location = location }

  with_flags : (flags : List F) (branches : List (Message F)) → AreBoolean flags → flagged flags branches ≡ nonzero R eq (map (message_contribution location) (chosen_branches R eq flags branches))
  with_flags [] [] boolean = refl
  with_flags [] (b ∷ bs) boolean = refl
  with_flags (f ∷ fs) [] boolean = refl
  with_flags (f ∷ fs) (b ∷ bs) boolean =
      let parts = and_parts (eq f R.zero || eq f R.one) (list_all (λ g. eq g R.zero || eq g R.one) fs) boolean in
      let set : f ≡ R.one → of_branch f b ≡ message_contribution location b = λ one. ap (λ x. record { tuple = b.key.tuple; amount = x; location = location }) (ap (λ g. R.mul g b.multiplicity) one ∙ one_mul laws b.multiplicity) in
      let unset : f ≡ R.zero → R.mul f b.multiplicity ≡ R.zero = λ zero. ap (λ g. R.mul g b.multiplicity) zero ∙ zero_mul laws b.multiplicity in
      grind (arith, with_flags fs bs parts.1, parts.0, set, unset, decides f R.one, decides f R.zero, decides (R.mul f b.multiplicity) R.zero)

  by_flags : (flags : Option (List F)) (branches : List (Message F)) → IfSome flags AreBoolean
      → nonzero R eq (contributions_from location branches (amounts R flags branches)) ≡ sent_contributions R eq location (sent R eq flags branches)
  by_flags None branches boolean = ap (nonzero R eq) (without_flags branches)
  by_flags (Some flags) branches boolean = with_flags flags branches boolean

  -- the flags of what is sent are those of the lookup
  flags_kept : (flags : Option (List F)) (branches : List (Message F)) → (sent R eq flags branches).flags ≡ flags
  flags_kept None branches = refl
  flags_kept (Some flags) branches = refl

  -- so it is of a lookup at a window
  pub contributions_sent : (w : Window F) (lookup : Lookup F) → IfSome (sent_at R eq w 0 lookup).flags AreBoolean → contributions_at R eq location w lookup ≡ sent_contributions R eq location (sent_at R eq w 0 lookup)
  contributions_sent w lookup boolean =
      by_flags (flags_at R w lookup) (branches_at R w 0 lookup) (subst (λ (flags : Option (List F)). IfSome flags AreBoolean) (flags_kept (flags_at R w lookup) (branches_at R w 0 lookup)) boolean)
