-- Where the last line of some bytes begins.
use Rattle.std.proofs.Common.{◌≡◌, ◌≢◌, ◌<◌, ◌+◌, ℕ, List, length, get_or, take, arith, inl, inr, refl, sym, ◌∙◌, ap}
use Rattle.std.proofs.lemmas.Bool.{cases_lt}
use Rattle.std.proofs.lemmas.List.{get_or-take, length-take, length-take-le}
use Rattle.language.specs.Places.{BeginsLastLine}

-- the first line begins at the front
pub BeginsLastLine-first : (bytes : List ℕ) → BeginsLastLine (take 0 bytes) 0
BeginsLastLine-first bytes = record {
  within = omega arith;
  after = inl refl;
  last = λ i from below. absurd (omega (arith, length-take 0 bytes));
}

-- a byte that is no LF goes on with the line
pub BeginsLastLine-more : (bytes : List ℕ) (i start : ℕ) → i < length bytes → get_or bytes i 0 ≢ 10 → BeginsLastLine (take i bytes) start → BeginsLastLine (take (i + 1) bytes) start
BeginsLastLine-more bytes i start within other begins =
    let long : length (take i bytes) ≡ i = length-take-le i bytes (omega arith) in
    let longer : length (take (i + 1) bytes) ≡ i + 1 = length-take-le (i + 1) bytes (omega arith) in
    record {
      within = omega (arith, begins.within);
      after =
          elim begins.after [
            | inl first ↦ inl first
            | inr w ↦
                let before : w.0 < i = omega (arith, begins.within, w.1) in
                inr (w.0, w.1, get_or-take (i + 1) bytes w.0 0 (omega arith) ∙ sym (get_or-take i bytes w.0 0 before) ∙ w.2)
          ];
      last = λ k from below lf.
          let at : get_or bytes k 0 ≡ 10 = sym (get_or-take (i + 1) bytes k 0 (omega (arith, longer, below))) ∙ lf in
          elim (cases_lt k i) [
            | inl less ↦ begins.last k from (omega (arith, long, less)) (get_or-take i bytes k 0 less ∙ at)
            | inr most ↦ (let same : k ≡ i = omega (arith, longer, below, most) in other (ap (λ j. get_or bytes j 0) (sym same) ∙ at))
          ];
    }

-- after an LF begins a line
pub BeginsLastLine-next : (bytes : List ℕ) (i : ℕ) → i < length bytes → get_or bytes i 0 ≡ 10 → BeginsLastLine (take (i + 1) bytes) (i + 1)
BeginsLastLine-next bytes i within lf =
    let longer : length (take (i + 1) bytes) ≡ i + 1 = length-take-le (i + 1) bytes (omega arith) in
    record {
      within = omega arith;
      after = inr (i, refl, get_or-take (i + 1) bytes i 0 (omega arith) ∙ lf);
      last = λ k from below. absurd (omega (arith, longer, below));
    }
