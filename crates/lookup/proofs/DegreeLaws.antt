-- What is kept of lookups for their degrees.
use Rattle.std.proofs.Common.{◌≡◌, ◌<◌, ◌≤◌, ◌^◌, ℕ, List, ◌++◌, ◌∙◌, None, Some, Option, Result, Ok, Err, IfOk, MatchOption, MatchResult, map, arith, ap, subst, sym, length-append}
use Rattle.std.proofs.lemmas.List.{map-append}
use Rattle.std.specs.List.{zip}
use Rattle.std.specs.Option.{option_map}
use Rattle.std.specs.Result.{result_ok}
use Rattle.list_laws.proofs.Zips.{zip-append, zip_mapped}
use Rattle.air_expressions.specs.declared.base_expression.SymbolicExpression.{SymbolicExpression}
use Rattle.lookup_model.proofs.SumDegreeLaws.{degree_of_back, degree_of_front}
use Rattle.lookup_model.specs.LookupDegree.{BranchDegrees, IsDegree, branch_degrees, constraint_degree_of, expression_degree, lookup_branch_degrees, outline_branch_degrees, outline_degree}
use Rattle.lookup_model.specs.Outline.{Outline, fields_of}
use Rattle.lookup_model.specs.SumDegrees.{AreSumDegrees, IsTooGreat}
use Rattle.lookup_model.specs.declared.error.LookupError.{LookupError}
use Rattle.lookup_model.specs.declared.sum_degrees.SumDegrees.{SumDegrees}
use Rattle.lookup_model.specs.declared.types.Lookup.{Lookup}
use Rattle.lookup.specs.Fewest.{AnswersDegree}
use Rattle.lookup.specs.Packing.{trial}
use Rattle.lookup.specs.Trials.{IsMember}
use Rattle.lookup.specs.internal.TrialDegrees.{IsPlain, KeepsDegrees}
use Rattle.lookup.proofs.StepLaws.{plain_of}

-- degrees that are answered, of branches by another name
known_of : (bs cs : List BranchDegrees) → bs ≡ cs → (r : Result SumDegrees LookupError) → MatchResult r (AreSumDegrees bs) (IsTooGreat bs) → MatchOption (result_ok r) (2 ^ 64 ≤ constraint_degree_of None cs) (AreSumDegrees cs)
known_of bs cs same (Ok d) known = subst (λ (t : List BranchDegrees). AreSumDegrees t d) same known
known_of bs cs same (Err e) known = subst (λ (t : List BranchDegrees). 2 ^ 64 ≤ constraint_degree_of None t) same (omega (arith, known.1))

module _ {F : Type 0} where
  -- the degree of a plain lookup is that of its branches
  pub plain_degree : (o : Outline (SymbolicExpression F)) → IsPlain o → outline_degree 0 o ≡ constraint_degree_of None (outline_branch_degrees 0 o)
  plain_degree o plain = ap (λ flags. constraint_degree_of (option_map (map (expression_degree 0)) flags) (outline_branch_degrees 0 o)) plain.no_flags

  -- the branches of a trial are those of both lookups
  trial_branches : (a b : Outline (SymbolicExpression F)) → IsPlain a → outline_branch_degrees 0 (trial a b) ≡ outline_branch_degrees 0 a ++ outline_branch_degrees 0 b
  trial_branches a b plain =
      ap (map (λ t. branch_degrees 0 t.0 t.1)) (zip-append a.elements b.elements a.multiplicities b.multiplicities plain.lengths)
      ∙ map-append (λ t. branch_degrees 0 t.0 t.1) (zip a.elements a.multiplicities) (zip b.elements b.multiplicities)

  trial_plain : (a b : Outline (SymbolicExpression F)) → IsPlain a → IsPlain b → IsPlain (trial a b)
  trial_plain a b first second = record {
    lengths = omega (arith, first.lengths, second.lengths, length-append a.elements b.elements, length-append a.multiplicities b.multiplicities);
    no_flags = first.no_flags;
  }

  -- what is kept of a lookup
  pub kept_of_lookup : (l : Lookup F) → IsMember l → (r : Result SumDegrees LookupError) → MatchResult r (AreSumDegrees (lookup_branch_degrees 0 l)) (IsTooGreat (lookup_branch_degrees 0 l)) → KeepsDegrees (result_ok r) (fields_of l)
  kept_of_lookup l member r known = record {
    plain = plain_of l member;
    known = known_of _ _ (zip_mapped (λ tuple. tuple.items) (branch_degrees 0) l.elements.items l.multiplicities.items) r known;
  }

  -- what is kept of a trial, by what is kept of both lookups
  pub kept_of_both : (a b : Outline (SymbolicExpression F)) (p q : SumDegrees) (r : Result SumDegrees LookupError)
      → ((first second : List BranchDegrees) → AreSumDegrees first p → AreSumDegrees second q → MatchResult r (AreSumDegrees (first ++ second)) (IsTooGreat (first ++ second)))
      → KeepsDegrees (Some p) a → KeepsDegrees (Some q) b → KeepsDegrees (result_ok r) (trial a b)
  kept_of_both a b p q r both first second = record {
    plain = trial_plain a b first.plain second.plain;
    known = known_of _ _ (sym (trial_branches a b first.plain)) r (both (outline_branch_degrees 0 a) (outline_branch_degrees 0 b) first.known second.known);
  }

  pub none_of_first : (a b : Outline (SymbolicExpression F)) (kept : Option SumDegrees) → KeepsDegrees None a → KeepsDegrees kept b → KeepsDegrees None (trial a b)
  none_of_first a b kept first second = record {
    plain = trial_plain a b first.plain second.plain;
    known = omega (arith, first.known, degree_of_front (outline_branch_degrees 0 a) (outline_branch_degrees 0 b), ap (constraint_degree_of None) (trial_branches a b first.plain));
  }

  pub none_of_second : (a b : Outline (SymbolicExpression F)) (kept : Option SumDegrees) → KeepsDegrees kept a → KeepsDegrees None b → KeepsDegrees None (trial a b)
  none_of_second a b kept first second = record {
    plain = trial_plain a b first.plain second.plain;
    known = omega (arith, second.known, degree_of_back (outline_branch_degrees 0 a) (outline_branch_degrees 0 b), ap (constraint_degree_of None) (trial_branches a b first.plain));
  }

  -- what the gadget answers to a lookup, by what is kept of it
  pub answers_kept : (o : Outline (SymbolicExpression F)) (sum : SumDegrees) (r : Result ℕ LookupError) → ((bs : List BranchDegrees) → AreSumDegrees bs sum → IsDegree r (constraint_degree_of None bs)) → IfOk r (λ n. n < 2 ^ 64)
      → KeepsDegrees (Some sum) o → AnswersDegree o r
  answers_kept o sum r degree small kept = (subst (IsDegree r) (sym (plain_degree o kept.plain)) (degree (outline_branch_degrees 0 o) kept.known), small)
