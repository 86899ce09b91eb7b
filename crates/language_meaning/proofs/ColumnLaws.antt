-- Lookups of names, one by one.
use Rattle.std.proofs.Common.{◌≡◌, ◌++◌, ◌+◌, ◌<◌, inl, inr, ℕ, suc, All, Bool, true, false, List, [], ◌∷◌, Option, Some, None, Result, Err, refl, ap, sym, ◌∙◌, subst, add-one, arith, get_or, length, map, option_map, take}
use Rattle.std.proofs.Math.ListN.{get_or-append}
use Rattle.std.proofs.Math.Seq.{get_or-append_seam, take-suc}
use Rattle.std.proofs.lemmas.Bool.{cases_lt}
use Rattle.std.proofs.lemmas.List.{get_or-map, length-map, length-take-le, length_push, map-append, map_push, take_more}
use Rattle.std.proofs.lemmas.List.Elements.{All-push, All-same}
use Rattle.std.proofs.lemmas.Result.{err_from_is_err_and}
use Rattle.std.proofs.lemmas.Option.{get_or_from_slice_get, slice_get-get_or}
use Rattle.std.specs.List.{take-map}
use Rattle.std.specs.Option.{ForSome}
use Rattle.std.specs.Result.{IsErrAnd}
use Rattle.std.specs.declared.alloc.Global.{Global}
use Rattle.std.specs.declared.vec.Vec.{Vec}
use Rattle.air_expressions.proofs.FirstFaults.{first_fault}
use Rattle.air_expressions.specs.Tree.{tree_of}
use Rattle.air_expressions.specs.declared.base_expression.SymbolicExpression.{SymbolicExpression}
use Rattle.lookup_model.specs.Outline.{bus_of, outline_of}
use Rattle.lookup_model.specs.Records.{AreRecords, HasEqualLengths, IsRecordAt}
use Rattle.lookup_model.specs.declared.types.Lookup.{Lookup}
use Rattle.language_meaning.specs.Lookups.{Column, SentPart, column_of, sent_part_of}
use Rattle.language_meaning.specs.Scopes.{bytes_in}
use Rattle.language_meaning.specs.declared.named_air.NamedLookup.{NamedLookup}
use Rattle.language_meaning.specs.declared.named_air.NamedPart.{NamedPart}
use Rattle.language_meaning.specs.Columns.{IsColumnRefusal, IsFirstColumnRefusal, IsMade, flag_or_one, flags_in, outline_in, outlines_in, weight_in}
use Rattle.language_meaning.specs.Expressions.{tree_in}
use Rattle.language_meaning.specs.declared.element_fault.ElementFault.{ElementFault}
use Rattle.language_meaning.specs.declared.element_fault.ElementRefusal.{ElementRefusal}

module _ {F : Type 0} (element : ℕ → F) (text : List ℕ) where
  -- one more column has one more lookup, in the column after those before
  pub outlines_more : (n : ℕ) (cs : List Column) (c : Column) → outlines_in element text n (cs ++ c ∷ []) ≡ outlines_in element text n cs ++ outline_in element text (n + length cs) c ∷ []
  outlines_more n [] c = ap (λ k. outline_in element text k c ∷ []) (omega arith)
  outlines_more n (d ∷ cs) c = ap (λ os. outline_in element text n d ∷ os) (outlines_more (n + 1) cs c ∙ ap (λ k. outlines_in element text (n + 1) cs ++ outline_in element text k c ∷ []) (omega arith))

  -- the lookups of so many columns and one more
  pub outlines_step : (named : List NamedLookup) (i : ℕ) (x : NamedLookup) → i < length named → get_or named i x ≡ x
      → outlines_in element text 0 (map column_of (take (i + 1) named)) ≡ outlines_in element text 0 (map column_of (take i named)) ++ outline_in element text i (column_of x) ∷ []
  outlines_step named i x within e =
      let first : map column_of (take (i + 1) named) ≡ map column_of (take i named) ++ column_of x ∷ [] = ap (λ n. map column_of (take n named)) (add-one i) ∙ ap (map column_of) (take-suc named i x within) ∙ ap (λ y. map column_of (take i named ++ y ∷ [])) e ∙ map-append column_of (take i named) (x ∷ []) in
      let count : 0 + length (map column_of (take i named)) ≡ i = omega (arith, length-map (take i named) column_of, length-take-le i named) in
      ap (outlines_in element text 0) first
      ∙ outlines_more 0 (map column_of (take i named)) (column_of x)
      ∙ ap (λ k. outlines_in element text 0 (map column_of (take i named)) ++ outline_in element text k (column_of x) ∷ []) count

  -- the flags of an exclusive lookup, and none of another one
  pub flags_there : (exclusive : Bool) (ps : List SentPart) (flags : Option (Vec (SymbolicExpression F) Global)) (v : Vec (SymbolicExpression F) Global) → exclusive ≡ true → flags ≡ Some v → map tree_of v.items ≡ map (λ p. tree_in element (flag_or_one p.flag)) ps
      → option_map (λ fs. map tree_of fs.items) flags ≡ flags_in element exclusive ps
  flags_there exclusive ps flags v is there trees = ap (option_map (λ (fs : Vec (SymbolicExpression F) Global). map tree_of fs.items)) there ∙ (ap Some trees ∙ sym (ap (λ b. flags_in element b ps) is))

  pub no_flags : (exclusive : Bool) (ps : List SentPart) (flags : Option (Vec (SymbolicExpression F) Global)) → exclusive ≡ false → flags ≡ None → option_map (λ fs. map tree_of fs.items) flags ≡ flags_in element exclusive ps
  no_flags exclusive ps flags is none = ap (option_map (λ (fs : Vec (SymbolicExpression F) Global). map tree_of fs.items)) none ∙ sym (ap (λ b. flags_in element b ps) is)

  -- a lookup of these fields is that of a column
  pub outline_made : (n : ℕ) (named : NamedLookup) (l : Lookup F) (tuples counts : List NamedPart)
      → bus_of l.kind ≡ option_map (λ s. bytes_in s text) named.bus
      → tuples ≡ named.parts.items → map (λ tuple. map tree_of tuple.items) l.elements.items ≡ map (λ p. map (tree_in element) p.message.tuple) (map sent_part_of tuples)
      → counts ≡ named.parts.items → map tree_of l.multiplicities.items ≡ map (λ p. tree_in element p.message.count) (map sent_part_of counts)
      → l.count_weight ≡ weight_in (column_of named) → l.column ≡ n
      → option_map (λ fs. map tree_of fs.items) l.flags ≡ flags_in element named.exclusive (map sent_part_of named.parts.items)
      → outline_of l ≡ outline_in element text n (column_of named)
  outline_made n named l tuples counts bus tuples_are elements counts_are multiplicities weight column flags =
      let elements_are = elements ∙ ap (λ (ps : List NamedPart). map (λ (p : SentPart). map (tree_in element) p.message.tuple) (map sent_part_of ps)) tuples_are in
      let multiplicities_are = multiplicities ∙ ap (λ (ps : List NamedPart). map (λ (p : SentPart). tree_in element p.message.count) (map sent_part_of ps)) counts_are in
      λ k. record {
        bus = bus k;
        elements = elements_are k;
        multiplicities = multiplicities_are k;
        count_weight = weight k;
        column = column k;
        flags = flags k;
      }

  -- there is a flag for each message, if there are flags
  flags_long : (flags : Option (Vec (SymbolicExpression F) Global)) (exclusive : Bool) (ps : List SentPart) (n : ℕ) → length ps ≡ n → option_map (λ fs. map tree_of fs.items) flags ≡ flags_in element exclusive ps → ForSome flags (λ fs. length fs.items ≡ n)
  flags_long flags true ps n long e = λ fs is.
      let there : Some (map tree_of fs.items) ≡ Some (map (λ p. tree_in element (flag_or_one p.flag)) ps) = sym (ap (option_map (λ (v : Vec (SymbolicExpression F) Global). map tree_of v.items)) is) ∙ e in
      let same : map tree_of fs.items ≡ map (λ p. tree_in element (flag_or_one p.flag)) ps = cc there in
      omega (arith, long, length-map fs.items tree_of, length-map ps (λ p. tree_in element (flag_or_one p.flag)), ap length same)
  flags_long flags false ps n long e = λ fs is.
      let there : Some (map tree_of fs.items) ≡ None = sym (ap (option_map (λ (v : Vec (SymbolicExpression F) Global). map tree_of v.items)) is) ∙ e in
      absurd (cc there)

  -- the lookup of a column has as many counts, and flags, as tuples
  pub lengths_made : (n : ℕ) (c : Column) (l : Lookup F) → outline_of l ≡ outline_in element text n c → HasEqualLengths l
  lengths_made n c l e =
      let tuples : length l.elements.items ≡ length c.parts = omega (arith, length-map l.elements.items (λ tuple. map tree_of tuple.items), length-map c.parts (λ p. map (tree_in element) p.message.tuple), ap (λ o. length o.elements) e) in
      record {
        multiplicities = omega (arith, tuples, length-map l.multiplicities.items tree_of, length-map c.parts (λ p. tree_in element p.message.count), ap (λ o. length o.multiplicities) e);
        flags = flags_long l.flags c.exclusive c.parts (length l.elements.items) (sym tuples) (ap (λ o. o.flags) e);
      }

  -- the outlines of so many lookups and one more
  pub outlines_next : (named : List NamedLookup) (i : ℕ) (x : NamedLookup) (lookups after : List (Lookup F)) (l : Lookup F) → i < length named → x ≡ get_or named i x → after ≡ lookups ++ l ∷ []
      → outline_of l ≡ outline_in element text i (column_of x) → map outline_of lookups ≡ outlines_in element text 0 (map column_of (take i named))
      → map outline_of after ≡ outlines_in element text 0 (map column_of (take (i + 1) named))
  outlines_next named i x lookups after l within is pushed one so_far =
      ap (map outline_of) pushed ∙ (map_push outline_of lookups l ∙ ((λ k. so_far k ++ one k ∷ []) ∙ sym (outlines_step named i x within (sym is))))

-- so many columns that can be made, and one more
pub made_next : (text : List ℕ) (named : List NamedLookup) (i : ℕ) (x : NamedLookup) → i < length named → x ≡ get_or named i x → IsMade text (column_of x) → All (IsMade text) (map column_of (take i named)) → All (IsMade text) (map column_of (take (i + 1) named))
made_next text named i x within is made so_far =
    All-same (IsMade text) _ _ (ap (map column_of) (take_more named i x within) ∙ (map_push column_of (take i named) (get_or named i x) ∙ ap (λ y. map column_of (take i named) ++ column_of y ∷ []) (sym is)))
    (All-push (IsMade text) (map column_of (take i named)) (column_of x) so_far made)

-- the first column that cannot be made
pub first_refused : (text : List ℕ) (named : List NamedLookup) (i : ℕ) (x : NamedLookup) (e : ElementRefusal) → i < length named → x ≡ get_or named i x → All (IsMade text) (map column_of (take i named)) → IsColumnRefusal text (column_of x) e → IsFirstColumnRefusal text (map column_of named) e
first_refused text named i x e within is made refused =
    first_fault (IsMade text) (λ index c. IsColumnRefusal text c e) (map column_of named) i (column_of x) (omega (arith, within, length-map named column_of))
    (All-same (IsMade text) _ _ (take-map column_of i named) made)
    (subst (λ c. IsColumnRefusal text c e) (ap column_of is ∙ sym (get_or-map column_of named i x (column_of x) within)) refused)

-- one more well formed record
pub records_more : {F : Type 0} (lookups : List (Lookup F)) (l : Lookup F) → AreRecords lookups → IsRecordAt (length lookups) l → AreRecords (lookups ++ l ∷ [])
records_more {F} lookups l records record_at i lookup lt there =
    let found = get_or_from_slice_get (lookups ++ l ∷ []) i lookup lookup there in
    elim (cases_lt i (length lookups)) [
      | inl below ↦ records i lookup below (slice_get-get_or lookups i lookup below ∙ ap Some (sym (get_or-append lookups (l ∷ []) lookup i below) ∙ found))
      | inr above ↦
          let last : i ≡ length lookups = omega (arith, lt, above, length_push lookups l) in
          grind (arith, last, found, record_at, get_or-append_seam lookups l [] lookup)
    ]

-- records with one more
pub records_next : {F : Type 0} (lookups after : List (Lookup F)) (l : Lookup F) (i : ℕ) → after ≡ lookups ++ l ∷ [] → length lookups ≡ i → IsRecordAt i l → AreRecords lookups → AreRecords after
records_next {F} lookups after l i pushed as_many record_at records = subst AreRecords (sym pushed) (records_more lookups l records (subst (λ n. IsRecordAt n l) (sym as_many) record_at))

-- what a call answers that passes on a fault
pub refused_is : {T : Type 0} {fault : ElementFault} (answer : Result T ElementFault) → IsErrAnd answer (λ e. e ≡ fault) → answer ≡ Err fault
refused_is answer is =
    let p = err_from_is_err_and answer is in
    p.1 ∙ ap Err p.2
