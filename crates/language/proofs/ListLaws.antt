-- Lists of parts, as a loop reads them.
use Rattle.std.proofs.Common.{◌≡◌, ◌<◌, ◌≤◌, ◌+◌, ◌-◌, ◌++◌, ℕ, suc, List, [], ◌∷◌, Option, Some, None, Ok, Err, arith, refl, sym, ap, ◌∙◌, append_assoc}
use Rattle.std.proofs.lemmas.List.{append-nil}
use Rattle.language.specs.declared.fault.TextFault.{TextFault}
use Rattle.language.specs.declared.fault.TextFault.TheVariants as faults
use Rattle.language.specs.declared.fault.Why.TheVariants.{Endless}
use Rattle.language.specs.Faults.{IsTextFaultOrMemory}
use Rattle.language.specs.Fronts.{Read, fault_at_front}
use Rattle.language.specs.Lists.{many, with_front}
use Rattle.language.specs.Tokens.{Token}

-- nothing goes to the front
with_front-none : {A : Type 0} (read : Read (List A)) → with_front [] read ≡ read
with_front-none (Ok r) = refl
with_front-none (Err e) = refl

-- at the start nothing was read
pub with_front-start : {A : Type 0} (step : List Token → Read (Option A)) (count : ℕ) (ts : List Token) → with_front [] (many step (count - 0) ts) ≡ many step count ts
with_front-start step count ts = with_front-none (many step (count - 0) ts) ∙ ap (λ n. many step n ts) (omega arith)

-- one more part goes to the front
with_front-more : {A : Type 0} (front : List A) (x : A) (read : Read (List A)) → with_front front (with_front (x ∷ []) read) ≡ with_front (front ++ x ∷ []) read
with_front-more {A} front x (Ok r) = ap (λ (xs : List A). Ok (xs, r.1)) (sym (append_assoc front (x ∷ []) r.0))
with_front-more front x (Err e) = refl

module _ {A : Type 0} (step : List Token → Read (Option A)) (count i : ℕ) (front : List A) (ts : List Token) (all : Read (List A)) (told : with_front front (many step (count - i) ts) ≡ all) where
  -- one more part
  pub many-more : (x : A) (rest : List Token) → i < count → step ts ≡ Ok (Some x, rest) → with_front (front ++ x ∷ []) (many step (count - (i + 1)) rest) ≡ all
  unfolding many
  many-more x rest less is =
      let k : count - i ≡ suc (count - (i + 1)) = omega arith in
      let one : with_front front (many step (count - i) ts) ≡ with_front (front ++ x ∷ []) (many step (count - (i + 1)) rest) = rw (k, is) (with_front-more front x (many step (count - (i + 1)) rest)) in
      sym one ∙ told

  -- the end
  pub many-end : (rest : List Token) → i < count → step ts ≡ Ok (None, rest) → all ≡ Ok (front, rest)
  unfolding many
  many-end rest less is =
      let k : count - i ≡ suc (count - (i + 1)) = omega arith in
      let one : with_front front (many step (count - i) ts) ≡ Ok (front, rest) = rw (k, is) (ap (λ (xs : List A). Ok (xs, rest)) (append-nil front)) in
      sym told ∙ one

  -- a fault
  pub many-fault : (e : TextFault) → i < count → IsTextFaultOrMemory e (step ts) → IsTextFaultOrMemory e all
  unfolding many
  many-fault faults.Memory less is = tt
  many-fault (faults.Fault f) less is =
      let k : count - i ≡ suc (count - (i + 1)) = omega arith in
      let one : with_front front (many step (count - i) ts) ≡ Err f = rw (k, is) refl in
      sym told ∙ one

  -- more steps than tokens
  pub many-endless : count ≤ i → all ≡ fault_at_front Endless ts
  unfolding many
  many-endless most =
      let k : count - i ≡ 0 = omega arith in
      let one : with_front front (many step (count - i) ts) ≡ fault_at_front Endless ts = rw k refl in
      sym told ∙ one
