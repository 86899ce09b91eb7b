-- Contributions that are counted while they are collected.
use Rattle.std.specs.Prelude.{◌≡◌, ◌+◌, ◌-◌, ◌^◌, ◌≤◌, ◌++◌, ℕ, Bool, List, length, map, not}
use Rattle.std.specs.List.{filter}
use Rattle.std.proofs.Common.{◌∙◌, add-zero, ap, arith, length-append, subst, sym}
use Rattle.std.proofs.Math.Nat.{min-eq_left, min-le_right}
use Rattle.std.proofs.lemmas.List.{map-append}
use Rattle.std.proofs.lemmas.List.Elements.{filter-append}
use Rattle.field.specs.Ring.{Ring}
use Rattle.lookup_debug.specs.BusTable.{saturated_usize}
use Rattle.lookup_debug.specs.Contributions.{Contribution}
use Rattle.lookup_debug.specs.declared.tally.Tally.{Tally}
use Rattle.lookup_debug.specs.internal.Appended.{Collects}
use Rattle.lookup_debug.specs.internal.Arena.{AreWithin}
use Rattle.lookup_debug.specs.internal.Visits.{collects_walk}
use Rattle.lookup_debug.specs.internal.Walks.{IsWalk}

-- every span is a part of the elements, and the numbers are those of the program
pub record IsReady {F : Type 0} (t : Tally F) : Type 0 where
  pub within : AreWithin t.contributions
  pub sent : t.sent ≤ 2 ^ 64 - 1
  pub received : t.received ≤ 2 ^ 64 - 1

-- the numbers of amounts that are not negative, and that are
abbrev pub AreSignCounts : {F : Type 0} → (F → Bool) → List F → ℕ → ℕ → Type 0
AreSignCounts negative amounts sent received =
    (sent ≡ saturated_usize (length (filter (λ a. not (negative a)) amounts))) × (received ≡ saturated_usize (length (filter negative amounts)))

-- After some amounts are counted the numbers are greater by how many of them are negative, or not.
pub record Counts {F : Type 0} (negative : F → Bool) (before after : Tally F) (amounts : List F) : Type 0 where
  pub sent : after.sent ≡ saturated_usize (before.sent + length (filter (λ a. not (negative a)) amounts))
  pub received : after.received ≡ saturated_usize (before.received + length (filter negative amounts))

-- numbers that are capped
pub capped-within : (n : ℕ) → saturated_usize n ≤ 2 ^ 64 - 1
capped-within n = min-le_right n (2 ^ 64 - 1)

pub capped-none : (n : ℕ) → n ≤ 2 ^ 64 - 1 → n ≡ saturated_usize (n + 0)
capped-none n le = sym (ap saturated_usize (add-zero n) ∙ min-eq_left le)

pub capped-twice : (n x y z : ℕ) → z ≡ x + y → saturated_usize (saturated_usize (n + x) + y) ≡ saturated_usize (n + z)
capped-twice n x y z e = omega arith

module _ {F : Type 0} (R : Ring F) (eq : F → F → Bool) (negative : F → Bool) where
  -- Contributions are collected and counted.
  pub record Tallies (before after : Tally F) (more : List (Contribution F)) : Type 0 where
    pub collects : Collects R eq before.contributions after.contributions more
    pub counts : Counts negative before after (map (λ c. c.amount) more)

  -- how many amounts pass a test, of two lists one after the other
  passing-append : (p : F → Bool) (xs ys : List (Contribution F))
      → length (filter p (map (λ c. c.amount) (xs ++ ys))) ≡ length (filter p (map (λ c. c.amount) xs)) + length (filter p (map (λ c. c.amount) ys))
  passing-append p xs ys =
      ap (λ t. length (filter p t)) (map-append (λ (c : Contribution F). c.amount) xs ys)
      ∙ ap length (filter-append p (map (λ (c : Contribution F). c.amount) xs) (map (λ (c : Contribution F). c.amount) ys))
      ∙ length-append (filter p (map (λ (c : Contribution F). c.amount) xs)) (filter p (map (λ (c : Contribution F). c.amount) ys))

  -- what is counted of two lists, one after the other
  joined : (p : F → Bool) (xs ys : List (Contribution F)) (a b c : ℕ) → b ≡ saturated_usize (a + length (filter p (map (λ d. d.amount) xs))) → c ≡ saturated_usize (b + length (filter p (map (λ d. d.amount) ys)))
      → c ≡ saturated_usize (a + length (filter p (map (λ d. d.amount) (xs ++ ys))))
  joined p xs ys a b c first then =
      let m = length (filter p (map (λ (d : Contribution F). d.amount) xs)) in
      let n = length (filter p (map (λ (d : Contribution F). d.amount) ys)) in
      then ∙ ap (λ k. saturated_usize (k + n)) first ∙ capped-twice a m n _ (passing-append p xs ys)

  -- the first walk of the table of groups
  pub tallies_walk : IsWalk IsReady Tallies
  tallies_walk = record {
    leaves = λ a b xs done. record {
      within = done.collects.0;
      sent = subst (λ n. n ≤ 2 ^ 64 - 1) (sym done.counts.sent) (capped-within _);
      received = subst (λ n. n ≤ 2 ^ 64 - 1) (sym done.counts.received) (capped-within _);
    };
    rests = λ a ready. record {
      collects = (collects_walk R eq).rests a.contributions ready.within;
      counts = record { sent = capped-none a.sent ready.sent; received = capped-none a.received ready.received };
    };
    joins = λ a b c xs ys first then. record {
      collects = (collects_walk R eq).joins a.contributions b.contributions c.contributions xs ys first.collects then.collects;
      counts = record {
        sent = joined (λ v. not (negative v)) xs ys a.sent b.sent c.sent first.counts.sent then.counts.sent;
        received = joined negative xs ys a.received b.received c.received first.counts.received then.counts.received;
      };
    };
  }
