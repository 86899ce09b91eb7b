-- The answers to the words of a run.
use Rattle.std.proofs.Common.{◌≡◌, ◌≢◌, ◌⊎◌, ◌<◌, ◌≤◌, ◌++◌, ℕ, List, [], ◌∷◌, All, get_or, length, map, string_bytes, Option, None, Some, IfSome, Result, Ok, Err, MatchResult, inl, inr, refl, sym, arith, subst}
use Rattle.std.specs.declared.alloc.Global.{Global}
use Rattle.std.specs.declared.string.String.{String}
use Rattle.field_list.specs.Offers.{HoldsOf, Offers, Statement, names_of}
use Rattle.field_words.specs.Fields.{Fields}
use Rattle.example_machines.specs.Machines.{name_of}
use Rattle.example_machines.specs.Program.{Answers, AnswersKnown, AnswersOver, IsBadChallenge, IsReport, IsReportRefusal}
use Rattle.example_machines.specs.declared.error.RunError.{RunError}
use Rattle.example_machines.specs.declared.error.RunError.TheVariants.{CannotReadInput, Memory, UnknownField, UnknownMachine, Usage}
use Rattle.example_machines.specs.declared.machine.Machine.{Machine}
use Rattle.example_machines.specs.declared.report.Report.{Report}

-- the bytes that an input gives, and some bytes where they are not known
pub given : (o : Option (List ℕ)) → (bytes : List ℕ) × IfSome o (λ known. bytes ≡ known)
given None = ([], tt)
given (Some known) = (known, refl)

-- what is read to the end after nothing
pub read_whole : (o : Option (List ℕ)) (items before : List ℕ) → before ≡ [] → IfSome o (λ known. items ≡ before ++ known) → IfSome o (λ known. items ≡ known)
read_whole o items before none is = grind (arith, none, is)

module _ {F K : Type 0} (fields : Fields F K) (machine : Machine) (alpha_word beta_word input : List ℕ) where
  -- alpha is refused, or memory runs out
  pub alpha_refused : (e : RunError) → (e ≡ Memory) ⊎ IsBadChallenge fields.written alpha_word e → AnswersOver fields machine alpha_word beta_word input (Err e)
  unfolding AnswersOver
  alpha_refused e refusal = elim refusal [ inl memory ↦ inl memory | inr bad ↦ inr (inl bad) ]

  module _ (alpha : K) (alpha_is : fields.written alpha_word alpha) where
    -- beta is
    pub beta_refused : (e : RunError) → (e ≡ Memory) ⊎ IsBadChallenge fields.written beta_word e → AnswersOver fields machine alpha_word beta_word input (Err e)
    unfolding AnswersOver
    beta_refused e refusal = elim refusal [ inl memory ↦ inl memory | inr bad ↦ inr (inr (alpha, alpha_is, inl bad)) ]

    module _ (beta : K) (beta_is : fields.written beta_word beta) where
      -- the input cannot be read, or memory runs out
      pub input_refused : (e : RunError) → (e ≡ Memory) ⊎ (e ≡ CannotReadInput) → AnswersOver fields machine alpha_word beta_word input (Err e)
      unfolding AnswersOver
      input_refused e refusal = elim refusal [ inl memory ↦ inl memory | inr unread ↦ inr (inr (alpha, alpha_is, inr (beta, beta_is, inl unread))) ]

      -- the answer is that of the report
      pub report_answers : (answer : Result Report RunError) → MatchResult answer (λ report. IsReport fields machine alpha beta input report) (λ e. (e ≡ Memory) ⊎ IsReportRefusal fields machine alpha beta input e)
          → AnswersOver fields machine alpha_word beta_word input answer
      unfolding AnswersOver
      report_answers (Ok report) is = (alpha, beta, alpha_is, beta_is, is)
      report_answers (Err e) (inl memory) = inl memory
      report_answers (Err e) (inr refusal) = inr (inr (alpha, alpha_is, inr (beta, beta_is, inr refusal)))

-- four words, one by one
pub four_words : (words : List (String Global)) (name field alpha beta : String Global) → 4 ≤ length words → length words < 5 → name ≡ get_or words 0 name → field ≡ get_or words 1 field → alpha ≡ get_or words 2 alpha → beta ≡ get_or words 3 beta
    → map string_bytes words ≡ string_bytes name ∷ string_bytes field ∷ string_bytes alpha ∷ string_bytes beta ∷ []
four_words (a ∷ b ∷ c ∷ d ∷ []) name field alpha beta low high p q r s =
    λ i. string_bytes (sym p i) ∷ string_bytes (sym q i) ∷ string_bytes (sym r i) ∷ string_bytes (sym s i) ∷ []
four_words words name field alpha beta low high p q r s = absurd (omega (arith, low, high))

-- what holds of the field with a name, where the name is known by another term
pub holds_of_same : (offers : Offers) (statement : Statement) (name other : List ℕ) → name ≡ other → HoldsOf name statement offers → HoldsOf other statement offers
holds_of_same offers statement name other same held = subst (λ (n : List ℕ). HoldsOf n statement offers) same held

module _ (offers : Offers) (words : List (List ℕ)) where
  -- words that are not four
  pub usage : (known : Option (List ℕ)) → length words ≢ 4 → Answers offers words known (Err Usage)
  unfolding Answers
  usage known other = inl (other, refl)

  module _ (name field alpha beta : List ℕ) (four : words ≡ name ∷ field ∷ alpha ∷ beta ∷ []) where
    -- memory runs out
    pub out_of_memory : (known : Option (List ℕ)) (answer : Result Report RunError) → answer ≡ Err Memory → Answers offers words known answer
    unfolding Answers
    out_of_memory known answer memory = inr (name, field, alpha, beta, four, inl memory)

    -- no machine has the name
    pub unknown_machine : (known : Option (List ℕ)) (shown : String Global) → ((machine : Machine) → name ≢ name_of machine) → string_bytes shown ≡ name → Answers offers words known (Err (UnknownMachine shown))
    unfolding Answers
    unknown_machine known shown none is =
        inr (name, field, alpha, beta, four, inr (inl (none, (UnknownMachine shown, (shown, is, refl), refl))))

    module _ (machine : Machine) (named : name ≡ name_of machine) (known : Option (List ℕ)) where
      -- there is a field with the name
      pub over_field : (answer : Result Report RunError) → HoldsOf field (λ F K o. AnswersKnown o.fields machine alpha beta known answer) offers → Answers offers words known answer
      unfolding Answers
      over_field answer answers = inr (name, field, alpha, beta, four, inr (inr (machine, named, inl answers)))

      -- there is none
      pub unknown_field : (shown : String Global) → All (λ other. other ≢ field) (names_of offers) → string_bytes shown ≡ field → Answers offers words known (Err (UnknownField shown))
      unfolding Answers
      unknown_field shown none is =
          inr (name, field, alpha, beta, four, inr (inr (machine, named, inr (none, (UnknownField shown, (shown, is, refl), refl)))))
