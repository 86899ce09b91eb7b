-- Instances of the debug check over AIRs that fit.
use Rattle.std.proofs.Common.{◌≡◌, ◌∙◌, All, List, ap, arith, map, subst, sym}
use Rattle.std.proofs.lemmas.List.{get_or-map, length-map}
use Rattle.std.proofs.lemmas.List.Elements.{All-map}
use Rattle.lookup_debug.specs.Contributions.{Traced, traced_of}
use Rattle.lookup_debug.specs.Fits.{FitTraces}
use Rattle.lookup_debug.specs.declared.instance.LookupDebugInstance.{LookupDebugInstance}
use Rattle.check_judge.specs.Airs.{AreFittingAirs, over_traced}
use Rattle.check_judge.specs.declared.airs.AirOver.{AirOver}

-- instances over the lookups and traces of AIRs that fit do so too
pub fitting_instances : {F : Type 0} (over airs : List (AirOver F)) (given made : List (LookupDebugInstance F)) → over ≡ airs → given ≡ made → map traced_of made ≡ map over_traced over → AreFittingAirs airs → All (λ i. FitTraces (traced_of i).traces (traced_of i).lookups) given
fitting_instances {F} over airs given made over_is given_is same fit = λ k d lt.
    let whole : map traced_of given ≡ map over_traced airs = ap (map traced_of) given_is ∙ (same ∙ ap (map over_traced) over_is) in
    let all : All (λ (t : Traced F). FitTraces t.traces t.lookups) (map traced_of given) = subst (λ (ts : List (Traced F)). All (λ (t : Traced F). FitTraces t.traces t.lookups) ts) (sym whole) (All-map (λ (t : Traced F). FitTraces t.traces t.lookups) over_traced airs fit) in
    subst (λ (t : Traced F). FitTraces t.traces t.lookups) (get_or-map traced_of given k d (traced_of d) lt) (all k (traced_of d) (omega (arith, lt, length-map given traced_of)))
