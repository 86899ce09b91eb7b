use Rattle.std.proofs.Common.{◌≡◌, ◌<◌, ◌≤◌, ◌^◌, ℕ, List, ap, get_or, inr, length, subst}
use Rattle.std.proofs.lemmas.Option.{slice_get-get_or}
use Rattle.field.specs.Residue.{Residue}
use Rattle.lookup_model.specs.LookupDegree.{lookup_degree}
use Rattle.lookup_model.specs.declared.error.LookupError.{LookupError}
use Rattle.lookup_model.specs.declared.error.LookupError.TheVariants.{DegreeOverflow}
use Rattle.lookup_model.specs.declared.types.Lookup.{Lookup}
use Rattle.c_calls.specs.Degrees.{IsLargeDegreesRefusal}
use Rattle.c_calls.specs.declared.fault.Fault.TheVariants.{Lookup as OfLookup}
use Rattle.c_calls.proofs.degrees.degrees_of.Goals as goal

-- a degree that does not fit is that of one of the lookups
degree_refused : {F : Type 0} (transition_degree : ℕ) (lookups : List (Lookup F)) (i : ℕ) (d : Lookup F) (e : LookupError) → i < length lookups → d ≡ get_or lookups i d → e ≡ DegreeOverflow → 2 ^ 64 ≤ lookup_degree transition_degree d → IsLargeDegreesRefusal transition_degree lookups (OfLookup 0 e)
degree_refused {F} transition_degree lookups i d e there is over large = inr (
  i,
  get_or lookups i d,
  slice_get-get_or lookups i d there,
  subst (λ (l : Lookup F). 2 ^ 64 ≤ lookup_degree transition_degree l) is large,
  ap (OfLookup 0) over,
)

pub returns-in-Err : goal.returns-in-Err
returns-in-Err g c =
    subst (λ (ls : List (Lookup (Residue g.row.P))). IsLargeDegreesRefusal c.args.transition_degree ls (OfLookup 0 c.in-Err.error)) c.as_slice-lookups.ensures.lookups
    (degree_refused c.args.transition_degree c.as_slice-lookups.result.now c.loop-lookup.lookup-index c.lookup-item.result c.in-Err.error c.loop-lookup-test.true c.lookup-item.is c.in-Err.ensures.0 c.in-Err.ensures.1)
