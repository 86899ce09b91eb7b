-- Messages under other keys with the same multiplicities and the same denominators have the same
-- plain result and the same faults.
use Rattle.std.proofs.Common.{◌≡◌, ◌≢◌, ℕ, ◌+◌, not, ◌||◌, IfSome, Option, None, Some, List, [], ◌∷◌, ◌++◌, length, map, take, get_or, refl, sym, ap, subst, ◌∙◌}
use Rattle.std.proofs.lemmas.List.{take-map}
use Rattle.std.proofs.lemmas.List.Folds.{flat_map-map}
use Rattle.std.specs.Prelude.{if◌then◌else◌}
use Rattle.std.specs.Option.{option_or}
use Rattle.std.specs.List.{AllByRecursion, AllZip, cons_option, enumerate_from, filter_map, flat_map, range_with_len}
use Rattle.list_laws.proofs.Images.{get_or-image}
use Rattle.std.proofs.lemmas.Slice.Zip.{AllZip-long}
use Rattle.list_laws.proofs.Zips.{AllZip-each, AllZip-filter, AllZip-flat, AllZip-same_map, AllZip-weaker}
use Rattle.field.specs.Sums.{sum_in}
use Rattle.field.specs.Extension.{Extension, IsLawful}
use Rattle.lookup_model.specs.Fault.{IsLawfulSelection, dividing_messages, fault_of, flag_fault_of, row_faults, trace_faults, vanishes}
use Rattle.lookup_model.specs.Generated.{plain_matrix, plain_terminal_of}
use Rattle.lookup_model.specs.Message.{Key, Message}
use Rattle.lookup_model.specs.Plain.{counted_messages, plain_cells, plain_fraction, plain_row, plain_terminal, quotient_of, trace_messages}
use Rattle.lookup_model.specs.Sent.{Sent}
use Rattle.lookup_model.specs.declared.error.LookupError.TheVariants.{VanishingDenominator}
use Rattle.lookup_model.specs.declared.types.Lookup.{Lookup}
use Rattle.lookup_model.proofs.Lookups.Terminals.{plain_fraction-all, plain_terminal-sum}
use Rattle.lookup_model.specs.Batches.Messages.{HasLawfulFlags, NoneVanishes}

module _ {F K : Type 0} {E : Extension F K} (laws : IsLawful E) (den den' : Key F → K) where
  -- the same multiplicity over the same denominator
  abbrev pub IsRekeyed : Message F → Message F → Type 0
  IsRekeyed m n = (m.multiplicity ≡ n.multiplicity) × (den m.key ≡ den' n.key)

  abbrev pub AreRekeyed : List (Message F) → List (Message F) → Type 0
  AreRekeyed ms ns = AllZip IsRekeyed ms ns

  -- the same flags, and such messages
  abbrev pub SameUpToKeys : Sent F → Sent F → Type 0
  SameUpToKeys s t = (s.flags ≡ t.flags) × AreRekeyed s.messages t.messages

  abbrev pub AreRowsSameUpToKeys : List (List (Sent F)) → List (List (Sent F)) → Type 0
  AreRowsSameUpToKeys rows others = AllZip (AllZip SameUpToKeys) rows others

  same_fraction : (s t : Sent F) → SameUpToKeys s t → plain_fraction E den s ≡ plain_fraction E den' t
  same_fraction s t same =
      plain_fraction-all laws den s
      ∙ ap (sum_in E.ring) (AllZip-same_map IsRekeyed (quotient_of E den) (quotient_of E den') (λ m n e i. E.ring.mul (E.embed (e.0 i)) (E.inverse (e.1 i))) s.messages t.messages same.1)
      ∙ sym (plain_fraction-all laws den' t)

  abbrev fractions : (Key F → K) → List (Sent F) → List K
  fractions d row = map (plain_fraction E d) row

  abbrev table : (Key F → K) → List (List (Sent F)) → List (List K)
  table d rows = map (fractions d) rows

  same_tables : (rows others : List (List (Sent F))) → AreRowsSameUpToKeys rows others → table den rows ≡ table den' others
  same_tables rows others same =
      AllZip-same_map (AllZip SameUpToKeys) (fractions den) (fractions den') (λ row other e. AllZip-same_map SameUpToKeys (plain_fraction E den) (plain_fraction E den') same_fraction row other e) rows others same

  -- cells by the table of fractions
  by_table : List (List K) → ℕ → List K
  by_table t r = sum_in E.ring (flat_map (λ xs. xs) (take r t)) ∷ get_or t r []

  plain_row-by_table : (d : Key F → K) (rows : List (List (Sent F))) (r : ℕ) → plain_row E d rows r ≡ by_table (table d rows) r
  unfolding by_table
  plain_row-by_table d rows r =
      let f = λ (row : List (Sent F)). map (plain_fraction E d) row in
      λ i. (ap (sum_in E.ring) (sym (flat_map-map (λ xs. xs) f (take r rows)) ∙ ap (flat_map (λ xs. xs)) (sym (take-map f r rows)))) i ∷ sym (get_or-image f rows r []) i

  pub same_cells : (rows others : List (List (Sent F))) → AreRowsSameUpToKeys rows others → plain_cells E den rows ≡ plain_cells E den' others
  same_cells rows others same =
      let row_same : (r : ℕ) → plain_row E den rows r ≡ plain_row E den' others r =
      λ r. plain_row-by_table den rows r ∙ ap (λ t. by_table t r) (same_tables rows others same) ∙ sym (plain_row-by_table den' others r) in
      λ i. flat_map (λ r. row_same r i) (range_with_len 0 (sym (AllZip-long (AllZip SameUpToKeys) rows others same) i))

  pub same_terminal : (rows others : List (List (Sent F))) → AreRowsSameUpToKeys rows others → plain_terminal E den rows ≡ plain_terminal E den' others
  same_terminal rows others same =
      let flat = λ (d : Key F → K) (t : List (List (Sent F))). flat_map-map (λ xs. xs) (λ row. map (plain_fraction E d) row) t in
      plain_terminal-sum laws den rows
      ∙ ap (sum_in E.ring) (sym (flat den rows) ∙ ap (flat_map (λ xs. xs)) (same_tables rows others same) ∙ flat den' others)
      ∙ sym (plain_terminal-sum laws den' others)

  -- so the plain results are the same
  pub same_matrix : (lookups : List (Lookup F)) (rows others : List (List (Sent F))) → AreRowsSameUpToKeys rows others → plain_matrix E den lookups rows ≡ plain_matrix E den' lookups others
  same_matrix [] rows others same = refl
  same_matrix (l ∷ ls) rows others same = λ i. record { values = same_cells rows others same i; width = length (l ∷ ls) + 1 }

  pub same_terminal_of : (lookups : List (Lookup F)) (rows others : List (List (Sent F))) → AreRowsSameUpToKeys rows others → plain_terminal_of E den lookups rows ≡ plain_terminal_of E den' lookups others
  same_terminal_of [] rows others same = refl
  same_terminal_of (l ∷ ls) rows others same = λ i. Some (record { 0 = same_terminal rows others same i })

  -- and the faults
  same_vanishing : (ms ns : List (Message F)) → AreRekeyed ms ns → vanishes E den ms ≡ vanishes E den' ns
  same_vanishing [] [] same = refl
  same_vanishing [] (n ∷ ns) same = absurd same
  same_vanishing (m ∷ ms) [] same = absurd same
  same_vanishing (m ∷ ms) (n ∷ ns) same = λ i. E.eq (same.0.1 i) E.ring.zero || same_vanishing ms ns same.1 i

  same_counted : (ms ns : List (Message F)) → AreRekeyed ms ns → AreRekeyed (counted_messages E.base E.base_eq ms) (counted_messages E.base E.base_eq ns)
  same_counted ms ns same =
      AllZip-filter IsRekeyed (λ m. not (E.base_eq m.multiplicity E.base.zero)) (λ n. not (E.base_eq n.multiplicity E.base.zero)) (λ m n e. ap (λ x. not (E.base_eq x E.base.zero)) e.0) ms ns same

  -- the denominators that count vanish alike
  same_dividing : (flags : Option (List F)) (ms ns : List (Message F)) → AreRekeyed ms ns → vanishes E den (dividing_messages E.base E.base_eq flags ms) ≡ vanishes E den' (dividing_messages E.base E.base_eq flags ns)
  same_dividing None ms ns keyed = same_vanishing (counted_messages E.base E.base_eq ms) (counted_messages E.base E.base_eq ns) (same_counted ms ns keyed)
  same_dividing (Some _) ms ns keyed = same_vanishing ms ns keyed

  pub same_fault : (row column : ℕ) (s t : Sent F) → SameUpToKeys s t → fault_of E den row column s ≡ fault_of E den' row column t
  same_fault row column s t same =
      with_flags s.flags s.messages t.messages same.1 ∙ ap (λ flags. fault_of E den' row column (record { flags = flags; messages = t.messages })) same.0
    where
      with_flags : (flags : Option (List F)) (ms ns : List (Message F)) → AreRekeyed ms ns → fault_of E den row column (record { flags = flags; messages = ms }) ≡ fault_of E den' row column (record { flags = flags; messages = ns })
      with_flags flags ms ns keyed =
          ap (λ b. option_or (flag_fault_of E.base E.base_eq row column flags) (if b then Some (VanishingDenominator row column) else None)) (same_dividing flags ms ns keyed)

  same_row_faults : (row index : ℕ) (ss ts : List (Sent F)) → AllZip SameUpToKeys ss ts → filter_map (λ p. fault_of E den row p.0 p.1) (enumerate_from index ss) ≡ filter_map (λ p. fault_of E den' row p.0 p.1) (enumerate_from index ts)
  same_row_faults row index [] [] same = refl
  same_row_faults row index [] (t ∷ ts) same = absurd same
  same_row_faults row index (s ∷ ss) [] same = absurd same
  same_row_faults row index (s ∷ ss) (t ∷ ts) same = λ i. cons_option (same_fault row index s t same.0 i) (same_row_faults row (index + 1) ss ts same.1 i)

  same_faults_from : (index : ℕ) (rows others : List (List (Sent F))) → AreRowsSameUpToKeys rows others → flat_map (λ p. row_faults E den p.0 p.1) (enumerate_from index rows) ≡ flat_map (λ p. row_faults E den' p.0 p.1) (enumerate_from index others)
  same_faults_from index [] [] same = refl
  same_faults_from index [] (t ∷ ts) same = absurd same
  same_faults_from index (s ∷ ss) [] same = absurd same
  same_faults_from index (s ∷ ss) (t ∷ ts) same = λ i. same_row_faults index 0 s t same.0 i ++ same_faults_from (index + 1) ss ts same.1 i

  pub same_faults : (rows others : List (List (Sent F))) → AreRowsSameUpToKeys rows others → trace_faults E den rows ≡ trace_faults E den' others
  same_faults rows others same = same_faults_from 0 rows others same

  -- what is asked of the ones is asked of the others
  pub lawful_up_to_keys : (rows others : List (List (Sent F))) → AreRowsSameUpToKeys rows others → AllByRecursion (AllByRecursion (HasLawfulFlags E.base E.base_eq)) others → AllByRecursion (AllByRecursion (HasLawfulFlags E.base E.base_eq)) rows
  lawful_up_to_keys rows others same all =
      let Lawful = HasLawfulFlags E.base E.base_eq in
      AllZip-each (AllZip SameUpToKeys) (AllByRecursion Lawful) (AllByRecursion Lawful)
      (λ row other e each. AllZip-each SameUpToKeys Lawful Lawful (λ s t f h. subst (λ (flags : Option (List F)). IfSome flags (IsLawfulSelection E.base E.base_eq)) (sym f.0) h) row other e each) rows others same all

  messages_rekeyed : (row other : List (Sent F)) → AllZip SameUpToKeys row other → AreRekeyed (flat_map (λ s. s.messages) row) (flat_map (λ s. s.messages) other)
  messages_rekeyed row other same =
      AllZip-flat IsRekeyed (λ (s : Sent F). s.messages) (λ (t : Sent F). t.messages) row other (AllZip-weaker SameUpToKeys (λ s t. AreRekeyed s.messages t.messages) (λ s t e. e.1) row other same)

  trace_rekeyed : (rows others : List (List (Sent F))) → AreRowsSameUpToKeys rows others → AreRekeyed (trace_messages rows) (trace_messages others)
  trace_rekeyed rows others same =
      let of_row = λ (row : List (Sent F)). flat_map (λ (s : Sent F). s.messages) row in
      AllZip-flat IsRekeyed of_row of_row rows others (AllZip-weaker (AllZip SameUpToKeys) (λ row other. AreRekeyed (of_row row) (of_row other)) messages_rekeyed rows others same)

  pub none_up_to_keys : (rows others : List (List (Sent F))) → AreRowsSameUpToKeys rows others → NoneVanishes E den' (trace_messages others) → NoneVanishes E den (trace_messages rows)
  none_up_to_keys rows others same all =
      AllZip-each IsRekeyed (λ m. den m.key ≢ E.ring.zero) (λ n. den' n.key ≢ E.ring.zero) (λ m n e ne z. ne (sym e.1 ∙ z)) (trace_messages rows) (trace_messages others) (trace_rekeyed rows others same) all
