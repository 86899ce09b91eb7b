-- The AIRs of a debug check, one after another.
use Rattle.std.proofs.Common.{◌≡◌, ◌∙◌, ◌∷◌, ◌++◌, ◌+◌, ◌<◌, ◌≤◌, [], ℕ, All, List, MatchResult, Result, ap, arith, get_or, inr, length, map, subst, sym, take}
use Rattle.std.proofs.lemmas.List.{map_push}
use Rattle.std.proofs.lemmas.List.Elements.{All-map}
use Rattle.std.proofs.lemmas.Result.{MatchResult-weaker}
use Rattle.field.specs.Residue.{Residue}
use Rattle.list_laws.proofs.Zips.{length-zipped, zipped_at, zipped_more}
use Rattle.field.specs.Extension.{Extension}
use Rattle.field_monty.specs.Quartic.{Quartic}
use Rattle.lookup.specs.declared.lookups.Lookups.{Lookups}
use Rattle.lookup_debug.specs.Contributions.{AreFitting, IsTracedFitting, Traced, traced_of}
use Rattle.lookup_debug.specs.declared.instance.LookupDebugInstance.{LookupDebugInstance}
use Rattle.c_tables.specs.declared.tables.Tables.{Tables}
use Rattle.c_tables.specs.declared.traces.ReadTraces.{ReadTraces}
use Rattle.c_tables.specs.declared.traces.Traces.{Traces}
use Rattle.c_calls.specs.BatchTables.{AreTracesOfTables}
use Rattle.c_calls.specs.DebugCheck.{AreDebugSets, DebugChecksTables, DebugChecksTraced, IsDebugCheckRefusal, IsDebugMisfit, IsDebugMismatch, IsFirstDebugMisfit, all_debug_traced, debug_traced}
use Rattle.c_calls.specs.DebugNumbers.{TellsNumbers, TellsTables}
use Rattle.c_calls.specs.declared.codes.Part.TheVariants.{Numbers}
use Rattle.c_calls.specs.declared.debug_numbers.Asked.{Asked}
use Rattle.c_calls.specs.declared.fault.Fault.{Fault}
use Rattle.c_calls.specs.declared.fault.Fault.TheVariants.{Length}
use Rattle.air_expressions.proofs.FirstFaults.{first_fault}

pub all_taken : {F : Type 0} (sets : List (Lookups F)) (traces : List (ReadTraces F)) (n : ℕ) → length sets ≡ length traces → length sets ≤ n → length (all_debug_traced sets traces) ≤ n
all_taken sets traces n same all = omega (arith, length-zipped (λ t. debug_traced t.0 t.1) sets traces (sym same), all)

module _ {F : Type 0} (sets : List (Lookups F)) (traces : List (ReadTraces F)) (i : ℕ) (s : Lookups F) (t : ReadTraces F) (there : i < length sets) (same : length sets ≡ length traces) (s_is : s ≡ get_or sets i s) (t_is : t ≡ get_or traces i t) where
  -- one AIR more
  pub traced_next : (before after : List (LookupDebugInstance F)) (x : LookupDebugInstance F) → after ≡ before ++ x ∷ [] → traced_of x ≡ debug_traced s t
      → map traced_of before ≡ take i (all_debug_traced sets traces) → map traced_of after ≡ take (i + 1) (all_debug_traced sets traces)
  traced_next before after x pushed is so_far =
      ap (map traced_of) pushed ∙ map_push traced_of before x ∙ (λ k. so_far k ++ is k ∷ []) ∙ sym (zipped_more (λ p. debug_traced p.0 p.1) sets traces (sym same) i s t there s_is t_is)

  -- an AIR whose lookups do not fit its traces
  pub unfit_there : (fault : Fault) (instances : List (LookupDebugInstance F)) → map traced_of instances ≡ take i (all_debug_traced sets traces) → AreFitting instances
      → IsDebugMisfit i (debug_traced s t) fault → IsFirstDebugMisfit (all_debug_traced sets traces) fault
  unfit_there fault instances are fit misfit =
      first_fault IsTracedFitting (λ index traced. IsDebugMisfit index traced fault) (all_debug_traced sets traces) i (debug_traced s t) (omega (arith, there, length-zipped (λ p. debug_traced p.0 p.1) sets traces (sym same)))
      (subst (λ (ts : List (Traced F)). All IsTracedFitting ts) are (All-map IsTracedFitting traced_of instances fit))
      (subst (λ (x : Traced F). IsDebugMisfit i x fault) (zipped_at (λ p. debug_traced p.0 p.1) sets traces (sym same) i s t there s_is t_is) misfit)

-- a debug check over what tables encode
pub checks_tables : {p : ℕ} (positive : 0 < p) (E : Extension (Residue p) (Quartic (Residue p))) (airs : List Tables) (traces : List Traces) (sets : List (Lookups (Residue p))) (all : List (ReadTraces (Residue p))) (ts : List (Traced (Residue p)))
    (answer : Result (Unit {0}) Fault) → AreDebugSets airs sets → AreTracesOfTables positive traces all → length traces ≡ length airs → ts ≡ all_debug_traced sets all
    → MatchResult answer (λ _. DebugChecksTraced E ts) (IsDebugMismatch E ts)
    → MatchResult answer (λ _. DebugChecksTables positive E airs traces) (IsDebugCheckRefusal positive E airs traces)
checks_tables {p} positive E airs traces sets all ts answer sets_are all_are as_many ts_are over =
    let whole = subst (λ (us : List (Traced (Residue p))). MatchResult answer (λ _. DebugChecksTraced E us) (IsDebugMismatch E us)) ts_are over in
    MatchResult-weaker answer whole
    (λ _ balance. record { sets = sets; sets_are = sets_are; all = all; all_are = all_are; as_many = as_many; balance = balance })
    (λ fault refusal. inr (inr (inr (inr (record { sets = sets; sets_are = sets_are; all = all; all_are = all_are; refusal = inr refusal })))))

-- what is told of AIRs and traces that tables encode
pub tells_tables : {p : ℕ} (positive : 0 < p) (E : Extension (Residue p) (Quartic (Residue p))) (question : Asked) (airs : List Tables) (traces : List Traces) (limit : ℕ) (sets : List (Lookups (Residue p))) (all : List (ReadTraces (Residue p))) (ts : List (Traced (Residue p))) (numbers : List ℕ)
    → AreDebugSets airs sets → AreTracesOfTables positive traces all → length traces ≡ length airs → ts ≡ all_debug_traced sets all → TellsNumbers E limit ts numbers question → TellsTables positive E question airs traces limit numbers
tells_tables {p} positive E question airs traces limit sets all ts numbers sets_are all_are as_many ts_are tells = record {
  sets = sets;
  sets_are = sets_are;
  all = all;
  all_are = all_are;
  as_many = as_many;
  tells = subst (λ (us : List (Traced (Residue p))). TellsNumbers E limit us numbers question) ts_are tells;
}

-- there is less room than there are numbers
pub long_told : {Tells : List ℕ → Type 0} (numbers : List ℕ) (long room : ℕ) (fault : Fault) → long ≡ length numbers → Tells numbers → (room < long) × (fault ≡ Length Numbers long room)
    → (numbers : List ℕ) × Tells numbers × (room < length numbers) × (fault ≡ Length Numbers (length numbers) room)
long_told numbers long room fault is tells refusal = (numbers, tells, omega (arith, refusal.0, is), refusal.1 ∙ ap (λ n. Length Numbers n room) is)
