-- The quotient of an additive lookup, tuple by tuple.
use Rattle.std.proofs.Common.{◌≡◌, ◌∷◌, [], ◌++◌, List, None, sym, ◌∙◌}
use Rattle.field.specs.Extension.{Extension}
use Rattle.field.specs.Ring.{IsCommutativeRing}
use Rattle.lookup_constraints.specs.declared.quotient.Quotient.{Quotient}
use Rattle.lookup_model.proofs.TakenOut.{product_of-push, sum_of-push}
use Rattle.lookup_model.specs.Message.{Message}
use Rattle.checker_witness.specs.internal.Quotients.{IsQuotientOf}

module _ {F K : Type 0} (E : Extension F K) (laws : IsCommutativeRing E.ring) (denominator : List F → K) where
  -- of one tuple
  pub of_one : (m : Message F) (q : Quotient K) → q.numerator ≡ E.embed m.multiplicity → q.denominator ≡ denominator m.key.tuple → IsQuotientOf E denominator None (m ∷ []) q
  of_one m q numerator_is denominator_is = (
    numerator_is ∙ sym (laws.add_zero (E.ring.mul (E.embed m.multiplicity) E.ring.one) ∙ laws.mul_one (E.embed m.multiplicity)),
    denominator_is ∙ sym (laws.mul_one (denominator m.key.tuple)),
  )

  -- with one more tuple
  pub with_one_more : (messages : List (Message F)) (m : Message F) (q next : Quotient K) (f : F) (d : K) → f ≡ m.multiplicity → d ≡ denominator m.key.tuple
      → IsQuotientOf E denominator None messages q
      → next.numerator ≡ E.ring.add (E.ring.mul q.numerator d) (E.ring.mul (E.embed f) q.denominator) → next.denominator ≡ E.ring.mul q.denominator d
      → IsQuotientOf E denominator None (messages ++ m ∷ []) next
  with_one_more messages m q next f d f_is d_is so_far numerator_is denominator_is =
      let S = E.ring in
      let p = λ (n : Message F). E.embed n.multiplicity in
      let over = λ (n : Message F). denominator n.key.tuple in (
        numerator_is ∙ (λ k. S.add (S.mul (so_far.0 k) (d_is k)) (S.mul (E.embed (f_is k)) (so_far.1 k))) ∙ sym (sum_of-push laws p over messages m),
        denominator_is ∙ (λ k. S.mul (so_far.1 k) (d_is k)) ∙ sym (product_of-push laws p over messages m),
      )
