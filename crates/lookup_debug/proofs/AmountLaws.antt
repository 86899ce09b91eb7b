-- What a lookup contributes, branch by branch and row by row.
use Rattle.std.proofs.Common.{◌≡◌, ℕ, ◌+◌, ◌<◌, Bool, Option, None, Some, List, refl, [], ◌∷◌, ◌++◌, get_or, length, not, slice_get, take, ap, subst, sym, ◌∙◌, arith}
use Rattle.std.proofs.lemmas.List.{length-map}
use Rattle.std.proofs.lemmas.List.Elements.{filter-append}
use Rattle.std.proofs.lemmas.Option.{get_or_from_slice_get}
use Rattle.std.specs.List.{flat_map, range_with_len}
use Rattle.std.specs.Option.{ForSome, option_map}
use Rattle.std.specs.declared.alloc.Global.{Global}
use Rattle.std.specs.declared.vec.Vec.{Vec}
use Rattle.list_laws.proofs.Parts.{flat_more}
use Rattle.list_laws.proofs.Images.{mapped_at}
use Rattle.list_laws.proofs.Items.{item_at, item_there}
use Rattle.list_laws.proofs.Zips.{length-zipped, zipped_at, zipped_more}
use Rattle.air.specs.Traces.{window_of}
use Rattle.air_expressions.specs.Window.{Window}
use Rattle.air_expressions.specs.declared.base_expression.SymbolicExpression.{SymbolicExpression}
use Rattle.field.specs.Ring.{Ring}
use Rattle.lookup_model.proofs.Branches.{length-branches_at}
use Rattle.lookup_model.specs.Message.{Message}
use Rattle.lookup_model.specs.Records.{HasEqualLengths}
use Rattle.lookup_model.specs.Sent.{branch_at, branches_at, flags_at, value, values}
use Rattle.lookup_model.specs.declared.types.Lookup.{Lookup}
use Rattle.lookup_debug.specs.Contributions.{Contribution, SentLocation, Traced, amounts, contributions_at, contributions_from, contributions_on, nonzero}
use Rattle.lookup_debug.specs.declared.arena.Contributions.{Contributions}
use Rattle.lookup_debug.specs.internal.Appended.{Appends}
use Rattle.lookup_debug.specs.internal.Walks.{IsWalk}
use Rattle.lookup_debug.proofs.SpanLaws.{appends-more}

module _ {F : Type 0} (R : Ring F) (eq : F → F → Bool) (location : SentLocation) where
  -- one more branch with its amount
  from_more : (branches : List (Message F)) (sizes : List F) → length sizes ≡ length branches
      → (i : ℕ) (m : Message F) (a : F) → i < length branches → m ≡ get_or branches i m
      → a ≡ get_or sizes i a
      → nonzero R eq (take (i + 1) (contributions_from location branches sizes)) ≡ nonzero R eq (take i (contributions_from location branches sizes)) ++ nonzero R eq (record { tuple = m.key.tuple; amount = a; location = location } ∷ [])
  from_more branches sizes same i m a lt m_is a_is =
      let all = contributions_from location branches sizes in
      ap (nonzero R eq) (zipped_more (λ (b : Message F × F). record { tuple = b.0.key.tuple; amount = b.1; location = location }) branches sizes same i m a lt m_is a_is)
      ∙ filter-append (λ (c : Contribution F). not (eq c.amount R.zero)) (take i all) (record { tuple = m.key.tuple; amount = a; location = location } ∷ [])

  -- there are as many contributions as branches
  length-from : (branches : List (Message F)) (sizes : List F) → length sizes ≡ length branches
      → length (contributions_from location branches sizes) ≡ length branches
  length-from branches sizes same = length-zipped (λ (b : Message F × F). record { tuple = b.0.key.tuple; amount = b.1; location = location }) branches sizes same

  module _ (w : Window F) (lookup : Lookup F) (lengths : HasEqualLengths lookup) where
    abbrev branches : List (Message F)
    branches = branches_at R w 0 lookup

    abbrev counts : List F
    counts = amounts R None branches

    as_many_counts : length counts ≡ length branches
    as_many_counts = length-map branches (λ (m : Message F). m.multiplicity)

    module _ (flags : List (SymbolicExpression F)) (flag_number : length flags ≡ length lookup.elements.items) where
      abbrev flagged : List F
      flagged = amounts R (Some (values R w flags)) branches

      as_many_flags : length branches ≡ length (values R w flags)
      as_many_flags = length-branches_at R w 0 lookup lengths ∙ sym (length-map flags (value R w) ∙ flag_number)

      as_many_flagged : length flagged ≡ length branches
      as_many_flagged = length-zipped (λ (b : F × Message F). R.mul b.0 b.1.multiplicity) (values R w flags) branches as_many_flags ∙ sym as_many_flags

    -- the amounts with the flags of the lookup, if it has any
    abbrev sizes : List F
    sizes = amounts R (flags_at R w lookup) branches

    as_many_sizes : length sizes ≡ length branches
    as_many_sizes = by_flags lookup.flags lengths.flags
      where
        by_flags : (flags : Option (Vec (SymbolicExpression F) Global)) → ForSome flags (λ fs. length fs.items ≡ length lookup.elements.items)
            → length (amounts R (option_map (λ fs. values R w fs.items) flags) branches) ≡ length branches
        by_flags None h = as_many_counts
        by_flags (Some fs) h = as_many_flagged fs.items (h fs refl)

    pub length-sized : length (contributions_from location branches sizes) ≡ length lookup.elements.items
    length-sized = length-from branches sizes as_many_sizes ∙ length-branches_at R w 0 lookup lengths

    module _ (i : ℕ) (tuple : Vec (SymbolicExpression F) Global) (multiplicity : SymbolicExpression F) (lt : i < length lookup.elements.items) (tuple_is : tuple ≡ get_or lookup.elements.items i tuple) (multiplicity_is : multiplicity ≡ get_or lookup.multiplicities.items i multiplicity) where
      abbrev branch : Message F
      branch = branch_at R w 0 tuple.items multiplicity

      within : i < length branches
      within = omega (arith, lt, length-branches_at R w 0 lookup lengths)

      branch_is : branch ≡ get_or branches i branch
      branch_is = zipped_at (λ b. branch_at R w 0 b.0.items b.1) lookup.elements.items lookup.multiplicities.items lengths.multiplicities i tuple multiplicity lt tuple_is multiplicity_is

    -- each branch has an amount
    pub size_there : (i : ℕ) → i < length lookup.elements.items → (amount : F) × (slice_get sizes i ≡ Some amount)
    size_there i lt =
        let below : i < length sizes = omega (arith, lt, as_many_sizes, length-branches_at R w 0 lookup lengths) in
        let (amount, is) = item_at sizes i below in
        (amount, item_there sizes i amount below is)

    -- one more branch with its amount
    pub sized_more : (i : ℕ) (tuple : Vec (SymbolicExpression F) Global) → i < length lookup.elements.items → tuple ≡ get_or lookup.elements.items i tuple
        → (amount : F) → slice_get sizes i ≡ Some amount
        → nonzero R eq (take (i + 1) (contributions_from location branches sizes)) ≡ nonzero R eq (take i (contributions_from location branches sizes)) ++ nonzero R eq (record { tuple = values R w tuple.items; amount = amount; location = location } ∷ [])
    sized_more i tuple lt tuple_is amount there =
        let (m, m_is) = item_at lookup.multiplicities.items i (omega (arith, lt, lengths.multiplicities)) in
        from_more branches sizes as_many_sizes i (branch i tuple m lt tuple_is m_is) amount (within i tuple m lt tuple_is m_is) (branch_is i tuple m lt tuple_is m_is) (sym (get_or_from_slice_get sizes i amount amount there))

    -- so it is once the branch is appended
    pub sized_step : (i : ℕ) (tuple : Vec (SymbolicExpression F) Global) → i < length lookup.elements.items → tuple ≡ get_or lookup.elements.items i tuple
        → (amount : F) → slice_get sizes i ≡ Some amount
        → (before now after : Contributions F) (es : List (SymbolicExpression F)) → es ≡ tuple.items
        → Appends before now (nonzero R eq (take i (contributions_from location branches sizes)))
        → Appends now after (nonzero R eq (record { tuple = values R w es; amount = amount; location = location } ∷ []))
        → Appends before after (nonzero R eq (take (i + 1) (contributions_from location branches sizes)))
    sized_step i tuple lt tuple_is amount there before now after es es_are so_far this =
        let front = nonzero R eq (take i (contributions_from location branches sizes)) in
        subst (Appends before after) ((λ k. front ++ nonzero R eq (record { tuple = values R w (es_are k); amount = amount; location = location } ∷ [])) ∙ sym (sized_more i tuple lt tuple_is amount there))
        (appends-more before now after front (nonzero R eq (record { tuple = values R w es; amount = amount; location = location } ∷ [])) so_far this)

    module _ (i : ℕ) (multiplicity : SymbolicExpression F) (lt : i < length lookup.elements.items) (multiplicity_is : multiplicity ≡ get_or lookup.multiplicities.items i multiplicity) where
      -- without flags the amount of a branch is its multiplicity
      pub size_counted : lookup.flags ≡ None → slice_get sizes i ≡ Some (value R w multiplicity)
      size_counted none =
          let (t, t_is) = item_at lookup.elements.items i lt in
          subst (λ (o : Option (Vec (SymbolicExpression F) Global)). slice_get (amounts R (option_map (λ fs. values R w fs.items) o) branches) i ≡ Some (value R w multiplicity)) (sym none)
          (item_there counts i (value R w multiplicity) (omega (arith, within i t multiplicity lt t_is multiplicity_is, as_many_counts))
          (mapped_at (λ (m : Message F). m.multiplicity) branches i (branch i t multiplicity lt t_is multiplicity_is) (within i t multiplicity lt t_is multiplicity_is) (branch_is i t multiplicity lt t_is multiplicity_is)))

      -- and with flags it is flag times multiplicity
      pub size_flagged : (flags : Vec (SymbolicExpression F) Global) → lookup.flags ≡ Some flags → (flag : SymbolicExpression F) → flag ≡ get_or flags.items i flag
          → slice_get sizes i ≡ Some (R.mul (value R w flag) (value R w multiplicity))
      size_flagged flags some flag flag_is =
          let number = lengths.flags flags some in
          let amount = R.mul (value R w flag) (value R w multiplicity) in
          let (t, t_is) = item_at lookup.elements.items i lt in
          let below = within i t multiplicity lt t_is multiplicity_is in
          subst (λ (o : Option (Vec (SymbolicExpression F) Global)). slice_get (amounts R (option_map (λ fs. values R w fs.items) o) branches) i ≡ Some amount) (sym some)
          (item_there (flagged flags.items number) i amount (omega (arith, below, as_many_flagged flags.items number))
          (zipped_at (λ (b : F × Message F). R.mul b.0 b.1.multiplicity) (values R w flags.items) branches (as_many_flags flags.items number) i (value R w flag) (branch i t multiplicity lt t_is multiplicity_is)
          (omega (arith, below, as_many_flags flags.items number)) (mapped_at (value R w) flags.items i flag (omega (arith, lt, number)) flag_is) (branch_is i t multiplicity lt t_is multiplicity_is)))

-- One more row, which is that of this window.
pub row_step : {F A : Type 0} {Ready : A → Type 0} {Does : A → A → List (Contribution F) → Type 0} (walk : IsWalk Ready Does) (R : Ring F) (eq : F → F → Bool) (instance index : ℕ) (t : Traced F) (lookup : Lookup F) (row : ℕ)
    (before now after : A) (w : Window F)
    → w ≡ window_of t.traces row
    → Does before now (flat_map (contributions_on R eq instance index t lookup) (range_with_len 0 row))
    → Does now after (contributions_at R eq (record { instance = instance; lookup = index; row = row }) w lookup)
    → Does before after (flat_map (contributions_on R eq instance index t lookup) (range_with_len 0 (row + 1)))
row_step {Does = Does} walk R eq instance index t lookup row before now after w w_is so_far this =
    let f = contributions_on R eq instance index t lookup in
    let here = contributions_at R eq (record { instance = instance; lookup = index; row = row }) w lookup in
    subst (Does before after) (ap (λ v. flat_map f (range_with_len 0 row) ++ contributions_at R eq (record { instance = instance; lookup = index; row = row }) v lookup) w_is ∙ sym (flat_more f row))
    (walk.joins before now after (flat_map f (range_with_len 0 row)) here so_far this)
