-- From a batch that is opened to what its commands answer.
use Rattle.std.proofs.Common.{◌≡◌, ◌∙◌, ◌<◌, ◌∷◌, ◌↔◌, ℕ, Bool, IsTrue, List, [], arith, inl, inr, map, refl, subst, sym}
use Rattle.std.proofs.lemmas.Simd.{map-map}
use Rattle.batch.specs.Plans.{FitPlan, Plan}
use Rattle.batch.specs.Runs.{Run, run_of}
use Rattle.batch.specs.Traces.{view_of}
use Rattle.batch.specs.declared.trace.BatchTrace.{BatchTrace}
use Rattle.field_words.specs.Fields.{Fields}
use Rattle.lookup_debug.specs.Contributions.{Traced}
use Rattle.language_meaning.specs.Files.{File}
use Rattle.lookup_model.specs.Batches.Grid.{IsNumberOf, grid}
use Rattle.lookup_model.specs.Batches.Witnesses.{HasOneOfEach, IsAccepted, results_of}
use Rattle.lookup_model.specs.declared.witness.Witness.{Witness}
use Rattle.check_words.specs.declared.request.ChallengeWords.{ChallengeWords}
use Rattle.language_witness.specs.Lines.{IsTextOf}
use Rattle.check_judge.specs.Found.{IsPlanOf, sized_of}
use Rattle.check_run.specs.Runs.{IsAcceptance, IsAcceptanceTold, IsReadRun}
use Rattle.check_judge.specs.declared.airs.AirOver.{AirOver}
use Rattle.check_run.specs.declared.answer.Answer.{Answer}
use Rattle.check_judge.specs.Airs.{over_traced}
use Rattle.check_run.specs.internal.Opened.{IsOpened}

module _ {F K : Type 0} (fields : Fields F K) (text : List ℕ) (files : List File) (words : ChallengeWords) where
  -- a batch that is opened, over views of its traces, is a run that is read
  pub read_run : (airs : List (AirOver F)) (plan : Plan F) (alpha beta : K) (traces : List (BatchTrace F)) → IsOpened fields text files words airs plan alpha beta
      → map view_of traces ≡ map (λ a. (over_traced a).traces) airs → IsReadRun fields text files words (run_of fields.extension plan traces alpha beta)
  read_run airs plan alpha beta traces opened same = record {
    traced = map over_traced airs;
    batch = opened.batch;
    plan = plan;
    planned = subst (λ s. IsPlanOf fields.characteristic s plan) (sym (map-map sized_of over_traced airs)) opened.planned;
    traces = traces;
    traces_are = same ∙ sym (map-map (λ (t : Traced F). t.traces) over_traced airs);
    alpha = alpha;
    alpha_is = opened.alpha_is;
    beta = beta;
    beta_is = opened.beta_is;
    run_is = refl;
  }

  -- the answer to `accept`, by what is told
  pub acceptance : (bytes : List ℕ) (run : Run F K) (witness : Witness K) (answer : Answer) (well : Bool) → IsReadRun fields text files words run → IsTextOf fields.text bytes witness → answer.yes ≡ well
      → IsAcceptanceTold well answer.text.items → IsTrue well ↔ (FitPlan run.plan run.traces × HasOneOfEach run.batch witness × IsAccepted run.fields run.table run.batch (results_of witness))
      → IsAcceptance fields text files words bytes answer
  acceptance bytes run witness answer well over lines is told both = record {
    run = run;
    over = over;
    witness = witness;
    bytes_are = lines;
    yes = subst (λ b. IsTrue b ↔ (FitPlan run.plan run.traces × HasOneOfEach run.batch witness × IsAccepted run.fields run.table run.batch (results_of witness))) (sym is) both;
    told = subst (λ b. IsAcceptanceTold b answer.text.items) (sym is) told;
  }

-- of one pair of challenges some are accepted exactly if it is
pub one_pair : {K : Type 0} (P : K × K → Type 0) (alphas betas : List K) (alpha beta : K) (n : ℕ) → alphas ≡ alpha ∷ [] → betas ≡ beta ∷ [] → IsNumberOf P (grid alphas betas) n → (0 < n) ↔ P (alpha, beta)
one_pair P alphas betas alpha beta n alphas_are betas_are number =
    elim (subst (λ list. IsNumberOf P (grid (alpha ∷ []) list) n) betas_are (subst (λ list. IsNumberOf P (grid list betas) n) alphas_are number)) [
      | inl one ↦ (λ some. one.2, λ p. omega (arith, one.1))
      | inr none ↦ (λ some. absurd (omega (arith, some, none.1)), λ p. absurd (none.0 p))
    ]
