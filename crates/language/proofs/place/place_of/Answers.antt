use Rattle.std.specs.Prelude.{nat_eq}
use Rattle.std.proofs.Common.{◌≡◌, ◌≢◌, ◌<◌, ◌+◌, ℕ, false, inl, inr, get_or, length, ap, arith, sym, ◌∙◌, tests}
use Rattle.std.proofs.lemmas.Bool.Decides.{eqb_tells}
use Rattle.std.proofs.lemmas.List.Sums.{count_by_more_no, count_by_more_yes}
use Rattle.language.specs.Places.{is_line_end}
use Rattle.language.proofs.PlaceLaws.{BeginsLastLine-more, BeginsLastLine-next}
use Rattle.language.proofs.place.place_of.Goals as goal
use Rattle.language.proofs.place.place_of.Goals.{then-byte-eq10, else-byte-eq10}

-- numbers that differ are told apart
other_eqb : (a b : ℕ) → a ≢ b → nat_eq a b ≡ false
other_eqb a b other = elim (eqb_tells a b) [ inl w ↦ absurd (other w.1) | inr w ↦ w.0 ]

pub loop-index-preserved : goal.loop-index-preserved
loop-index-preserved c =
    let front = c.before-front.result.now in
    let i = c.loop-index.index in
    let within : i < length front = omega arith in
    elim c.if-byte-eq10.branch [
      | then-byte-eq10 w ↦
          rw (w.line-is, w.start-is)
          (record {
            counted = ap (λ n. n + 1) c.loop-index.invariant.counted ∙ omega (arith, count_by_more_yes is_line_end front i 0 within (search (tests, w.if-byte-eq10.true)));
            begins = BeginsLastLine-next front i within w.if-byte-eq10.true;
          })
      | else-byte-eq10 w ↦
          rw (w.line-is, w.start-is)
          (record {
            counted = c.loop-index.invariant.counted ∙ ap (λ n. 1 + n) (sym (count_by_more_no is_line_end front i 0 within (other_eqb (get_or front i 0) 10 w.if-byte-eq10.false)));
            begins = BeginsLastLine-more front i c.loop-index.start within w.if-byte-eq10.false c.loop-index.invariant.begins;
          })
    ]
