-- What is shown of lookups and checked of constraints that were read, as what is answered from tables of numbers.
use Rattle.std.proofs.Common.{◌<◌, ◌≤◌, ◌≡◌, ◌+◌, ◌++◌, ◌∷◌, ◌∙◌, [], ℕ, All, Bool, List, MatchResult, Result, ap, arith, get_or, inl, inr, length, map, refl, subst, suc, sym, take, zero}
use Rattle.std.proofs.lemmas.List.{length-map, take_all}
use Rattle.std.proofs.lemmas.Result.{MatchResult-weaker}
use Rattle.std.proofs.lemmas.Slice.Zip.{AllZip-long}
use Rattle.std.specs.List.{AllZip, flat_map, zip}
use Rattle.field.specs.Residue.{Residue}
use Rattle.field.specs.Ring.{Ring}
use Rattle.list_laws.proofs.Zips.{AllZip-more, AllZip-paired, length_zip, zip_at}
use Rattle.air.specs.Traces.{AirTraces}
use Rattle.air_expressions.specs.declared.base_expression.SymbolicExpression.{SymbolicExpression}
use Rattle.lookup_enforced.specs.Enforced.{IsEnforcement}
use Rattle.lookup_enforced.specs.declared.enforcement.Enforcement.{Enforcement}
use Rattle.lookup_model.specs.declared.types.Lookup.{Lookup}
use Rattle.c_tables.specs.Tables.{AreTableLookups, IsTableLookup, IsTableRange, RangeEncodes, TablesEncode, table_items}
use Rattle.c_tables.specs.TraceNumbers.{AreTracesOfNumbers}
use Rattle.c_tables.specs.declared.tables.Record.{Record}
use Rattle.c_tables.specs.declared.tables.Span.{Span}
use Rattle.c_tables.specs.declared.tables.Tables.{Tables}
use Rattle.c_tables.specs.declared.traces.ReadTraces.{ReadTraces}
use Rattle.c_tables.specs.declared.traces.Traces.{Traces}
use Rattle.c_calls.specs.Constraints.{ChecksConstraints, HoldFitting, IsCheckConstraintsRefusal, IsHoldRefusal}
use Rattle.c_calls.specs.Enforced.{EnforcesTables, IsAnswerFor, IsAnswerOf, IsEnforcedRefusal, bound_list, is_query}
use Rattle.c_calls.specs.Inputs.{view_of_read}
use Rattle.c_calls.specs.declared.enforced.Bound.{Bound}
use Rattle.c_calls.specs.declared.enforced.Enforced.{Enforced}
use Rattle.c_calls.specs.declared.fault.Fault.{Fault}
use Rattle.c_calls.specs.internal.Enforced.{IsShowRefusal}
use Rattle.c_calls.proofs.BatchLaws.{decoded}

module _ {p : ℕ} (positive : 0 < p) (R : Ring (Residue p)) (tables : Tables) (span : Span) (traces : Traces) (answer : Result (Unit {0}) Fault) where
  -- what a check of constraints over traces answers
  abbrev ChecksOver : AirTraces (Residue p) → List (SymbolicExpression (Residue p)) → Type 0
  ChecksOver t constraints = MatchResult answer (λ _. HoldFitting t constraints R) (IsHoldRefusal t constraints R)

  -- the same over tables of numbers
  pub checks_tables : (read : ReadTraces (Residue p)) (constraints seen : List (SymbolicExpression (Residue p))) → RangeEncodes tables.nodes.now span constraints → AreTracesOfNumbers positive traces read → seen ≡ constraints
      → ChecksOver (view_of_read read) seen → MatchResult answer (λ _. ChecksConstraints positive R tables span traces) (IsCheckConstraintsRefusal positive R tables span traces)
  checks_tables read constraints seen encoded are same over =
      MatchResult-weaker answer (subst (λ t. ChecksOver t constraints) (decoded positive traces read are) (subst (ChecksOver (view_of_read read)) same over))
      (λ _ holds. record { constraints = constraints; encoded = encoded; traces_below = are.canonical; holds = holds })
      (λ fault refusal. inr (inr (constraints, encoded, are.canonical, refusal)))

-- an item of a list does not depend on what stands for those past its end
same_item : {A : Type 0} (xs : List A) (i : ℕ) (d e : A) → i < length xs → get_or xs i d ≡ get_or xs i e
same_item [] i d e there = absurd (omega (arith, there))
same_item (x ∷ xs) zero d e there = refl
same_item (x ∷ xs) (suc i) d e there = same_item xs i d e (omega (arith, there))

module _ {F : Type 0} (R : Ring F) (eq : F → F → Bool) (queries : List Bool) (records : List Record) (lookups : List (Lookup F)) (shown : List Enforcement) (as_many : length records ≡ length lookups) (each : length shown ≡ length lookups) where
  abbrev Triple : Type 0
  Triple = Record × (Lookup F × Enforcement)

  abbrev triples : List Triple
  triples = zip records (zip lookups shown)

  -- there is a triple for each lookup
  pairs_are : length (zip lookups shown) ≡ length lookups
  pairs_are = length_zip lookups shown each

  triples_are : length triples ≡ length lookups
  triples_are = length_zip records (zip lookups shown) (omega (arith, pairs_are, as_many)) ∙ as_many

  -- one answer more
  pub answered_more : (i : ℕ) (d : Record) (l : Lookup F) (e : Enforcement) (before after : List Enforced) (answer : Enforced) → i < length lookups → l ≡ get_or lookups i l → e ≡ get_or shown i e
      → after ≡ before ++ answer ∷ [] → IsAnswerFor R eq (table_items queries (get_or records i d).tuples) l e answer
      → AllZip (IsAnswerOf R eq queries) (take i triples) before → AllZip (IsAnswerOf R eq queries) (take (i + 1) triples) after
  answered_more i d l e before after answer there l_is e_is pushed is so_far =
      let within : i < length records = omega (arith, there, as_many) in
      let r = get_or records i d in
      let pair_is : (l, e) ≡ get_or (zip lookups shown) i (l, e) = zip_at lookups shown i l e (sym each) there l_is e_is in
      let x_is : (r, (l, e)) ≡ get_or triples i (r, (l, e)) = zip_at records (zip lookups shown) i r (l, e) (omega (arith, pairs_are, as_many)) within (same_item records i d r within) pair_is in
      AllZip-more (IsAnswerOf R eq queries) triples before after i (r, (l, e)) (r, (l, e)) answer (omega (arith, there, triples_are)) x_is pushed is so_far

  -- all are there
  pub answered_all : (n : ℕ) (answers : List Enforced) → length lookups ≤ n → AllZip (IsAnswerOf R eq queries) (take n triples) answers → AllZip (IsAnswerOf R eq queries) triples answers
  answered_all n answers all are =
      subst (λ (ts : List Triple). AllZip (IsAnswerOf R eq queries) ts answers) (take_all n triples (omega (arith, triples_are, all))) are

-- the tuples of each record stand in a range of as many marks as there are ranges
pub ranges_of_records : {p : ℕ} (tables : Tables) (lookups : List (Lookup (Residue p))) → AreTableLookups tables lookups → (marks : List Bool) → length marks ≡ length tables.tuples.now
    → All (λ r. IsTableRange marks r.tuples) tables.records.now
ranges_of_records tables lookups are marks many = λ k r there.
    let inside = (AllZip-paired (IsTableLookup tables) tables.records.now lookups are.are k r there).1.inside in
    record { ordered = inside.ordered; ends = omega (arith, inside.ends, many) }

-- there is a record for each lookup
pub records_are : {p : ℕ} (tables : Tables) (lookups : List (Lookup (Residue p))) → AreTableLookups tables lookups → length tables.records.now ≡ length lookups
records_are tables lookups are = sym (AllZip-long (IsTableLookup tables) tables.records.now lookups are.are)

-- the refusal before there are answers is one of the call
pub show_refused : {p : ℕ} (R : Ring (Residue p)) (eq : Residue p → Residue p → Bool) (tables : Tables) (span : Span) (height : ℕ) (queries : List ℕ) (room bounds_room : ℕ) (fault : Fault) → IsShowRefusal p tables span queries fault
    → IsEnforcedRefusal R eq tables span height queries room bounds_room fault
show_refused R eq tables span height queries room bounds_room fault (inl memory) = inl memory
show_refused R eq tables span height queries room bounds_room fault (inr (inl set)) = inr (inl set)
show_refused R eq tables span height queries room bounds_room fault (inr (inr (inl constraints))) = inr (inr (inl constraints))
show_refused R eq tables span height queries room bounds_room fault (inr (inr (inr many))) = inr (inr (inr (inl many)))

-- what is shown of lookups and constraints by other names is what is shown of the tables
pub shows_tables : {p : ℕ} (R : Ring (Residue p)) (eq : Residue p → Residue p → Bool) (tables : Tables) (span : Span) (height : ℕ) (queries : List ℕ) (lookups seen again : List (Lookup (Residue p))) (constraints read : List (SymbolicExpression (Residue p)))
    (shown given : List Enforcement) (marks : List Bool) (answers : List Enforced) (bounds : List Bound)
    → TablesEncode tables lookups → RangeEncodes tables.nodes.now span constraints → length queries ≡ length tables.tuples.now
    → seen ≡ lookups → again ≡ lookups → read ≡ constraints → given ≡ shown → marks ≡ map is_query queries
    → AllZip (IsEnforcement R eq height read) seen shown → AllZip (IsAnswerOf R eq marks) (zip tables.records.now (zip again given)) answers → bounds ≡ flat_map bound_list shown
    → EnforcesTables R eq tables span height queries answers bounds
shows_tables {p} R eq tables span height queries lookups seen again constraints read shown given marks answers bounds encoded ranged many seen_is again_is read_is given_is marks_is enforced answered bounds_is = record {
  lookups = lookups;
  encoded = encoded;
  constraints = constraints;
  constraints_are = ranged;
  as_many = many;
  shown = shown;
  shown_are =
      subst (λ (ls : List (Lookup (Residue p))). AllZip (IsEnforcement R eq height constraints) ls shown) seen_is
      (subst (λ (cs : List (SymbolicExpression (Residue p))). AllZip (IsEnforcement R eq height cs) seen shown) read_is enforced);
  answers_are =
      subst (λ (qs : List Bool). AllZip (IsAnswerOf R eq qs) (zip tables.records.now (zip lookups shown)) answers) marks_is
      (subst (λ (ls : List (Lookup (Residue p))). AllZip (IsAnswerOf R eq marks) (zip tables.records.now (zip ls shown)) answers) again_is
      (subst (λ (es : List Enforcement). AllZip (IsAnswerOf R eq marks) (zip tables.records.now (zip again es)) answers) given_is answered));
  bounds_are = bounds_is;
}
