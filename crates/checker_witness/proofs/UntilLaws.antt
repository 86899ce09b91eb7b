-- Rows on which properties hold until one fails.
use Rattle.std.proofs.Common.{◌≡◌, ℕ, ◌+◌, ◌<◌, ◌≤◌, inl, inr, subst, arith}
use Rattle.std.proofs.lemmas.Bool.{cases_lt}
use Rattle.checker_witness.specs.Ranges.{HoldsUntil}

module _ (P : ℕ → Type 0) (first : ℕ) where
  -- a property that holds on the rows so far, and on this one
  pub holds_on_next : (row : ℕ) → ((s : ℕ) → first ≤ s → s < row → P s) → P row → (s : ℕ) → first ≤ s → s < row + 1 → P s
  holds_on_next row so_far here s low high = elim (cases_lt s row) [
    | inl earlier ↦ so_far s low earlier
    | inr late ↦ let at : row ≡ s = omega (arith, late, high) in subst P at here
  ]

module _ {P Q : ℕ → Type 0} {first end : ℕ} where
  -- a property that holds on the same rows
  pub same_until : ((s : ℕ) → P s → Q s) → ((s : ℕ) → Q s → P s) → (r : ℕ) → HoldsUntil P first end r → HoldsUntil Q first end r
  same_until to from r h = record {
    from = h.from;
    up_to = h.up_to;
    holds = λ s low high. to s (h.holds s low high);
    fails = λ lt q. h.fails lt (from r q);
  }

  -- or on the same rows of the range
  pub same_within : ((s : ℕ) → first ≤ s → s < end → P s → Q s) → ((s : ℕ) → first ≤ s → s < end → Q s → P s) → (r : ℕ) → HoldsUntil P first end r → HoldsUntil Q first end r
  same_within to from r h = record {
    from = h.from;
    up_to = h.up_to;
    holds = λ s low high. to s low (omega (arith, high, h.up_to)) (h.holds s low high);
    fails = λ lt q. h.fails lt (from r h.from lt q);
  }

  -- a property that is looked at only up to where another one fails: both hold until then
  pub both_until : (u r : ℕ) → HoldsUntil P first end u → HoldsUntil Q first u r → HoldsUntil (λ s. P s × Q s) first end r
  both_until u r one other = record {
    from = other.from;
    up_to = omega (arith, one.up_to, other.up_to);
    holds = λ s low high. (one.holds s low (omega (arith, high, other.up_to)), other.holds s low high);
    fails = λ lt pq. elim (cases_lt r u) [
      | inl earlier ↦ other.fails earlier pq.1
      | inr late ↦ let same : r ≡ u = omega (arith, late, other.up_to) in one.fails (omega (arith, lt, same)) (subst P same pq.0)
    ];
  }

module _ (P : ℕ → Type 0) where
  -- what holds on all rows up to an end
  pub until_end : (first end r : ℕ) → first ≤ end → r ≡ end → ((s : ℕ) → first ≤ s → s < end → P s) → HoldsUntil P first end r
  until_end first end r from is all = record {
    from = omega (arith, from, is);
    up_to = omega (arith, is);
    holds = λ s low high. all s low (omega (arith, high, is));
    fails = λ lt p. absurd (omega (arith, lt, is));
  }

  module _ (first next last r : ℕ) (so_far : (s : ℕ) → first ≤ s → s < next → P s) (until : HoldsUntil P next last r) where
    -- what holds up to a row, and from there on until another one, holds on all rows before that one
    pub joined : (s : ℕ) → first ≤ s → s < r → P s
    joined s low high = elim (cases_lt s next) [ inl earlier ↦ so_far s low earlier | inr late ↦ until.holds s late high ]

    -- so the first failing row of a later range is that of the whole
    pub fails_joined : (end : ℕ) → first ≤ next → last ≤ end → r < last → HoldsUntil P first end r
    fails_joined end from within lt = record {
      from = omega (arith, from, until.from);
      up_to = omega (arith, lt, within);
      holds = joined;
      fails = λ before p. until.fails lt p;
    }
